-- The partition and the bucket of a row, by the positions of its columns.
use Rattle.std.proofs.Common.{◌≡◌, ℕ, ◌%◌, ◌<◌, Bool, true, false, List, [], ◌∷◌, Option, Some, None, flat_map, slice_get, refl, sym, ap, ◌∙◌, arith}
use Rattle.std.proofs.Math.Nat.{mod-zero}
use Rattle.dl_values.specs.declared.cell.Cell.{Cell}
use Rattle.schema_models.specs.CellsByName.{cell_under}
use Rattle.partitions.specs.LayoutView.{LayoutView}
use Rattle.partitions.specs.Places.{bucket_of, cell_in, first_part, hash_bytes, holds_row, next_part, part_of, text_of}
use Rattle.partitions.specs.Search.{cell_at, column_position, positions_of}
use Rattle.partitions.specs.declared.part_def.PartDef.{PartDef}
use Rattle.partitions.proofs.Hashes.{cell_by_position, texts_by_position}

any_part : (names : List (List ℕ)) (row : List Cell) (ps : List PartDef) → (ps ≡ [] → ⊥) → first_part (holds_row names None row) ps ≡ Some 0
any_part names row [] h = absurd (h refl)
any_part names row (p ∷ ps) h = refl

-- without a partition column it is the first one
pub part_of_any : (names : List (List ℕ)) (l : LayoutView) (row : List Cell) → l.column ≡ None → (l.parts ≡ [] → ⊥) → Some 0 ≡ part_of names l row
part_of_any names l row e h = sym (ap (λ (c : Option (List ℕ)). first_part (holds_row names c row) l.parts) e ∙ any_part names row l.parts h)

pub part_of_none : (names : List (List ℕ)) (l : LayoutView) (row : List Cell) → l.column ≡ None → l.parts ≡ [] → None ≡ part_of names l row
part_of_none names l row e h = sym (ap (λ (ps : List PartDef). first_part (holds_row names l.column row) ps) h)

none_in : (ps : List PartDef) → first_part (λ (p : PartDef). cell_in p.bounds None) ps ≡ None
none_in [] = refl
none_in (p ∷ ps) = ap next_part (none_in ps)

-- else it is the first one that holds the cell at the position of the column
by_cell : (names : List (List ℕ)) (l : LayoutView) (row : List Cell) (column : List ℕ) (o : Option Cell) → l.column ≡ Some column → cell_at (column_position names l.column) row ≡ o → first_part (λ (p : PartDef). cell_in p.bounds o) l.parts ≡ part_of names l row
by_cell names l row column o e f =
    let k : cell_under names column row ≡ o = cell_by_position names column row ∙ ap (λ (c : Option (List ℕ)). cell_at (column_position names c) row) (sym e) ∙ f in
    sym (ap (λ (c : Option (List ℕ)). first_part (holds_row names c row) l.parts) e ∙ ap (λ (x : Option Cell). first_part (λ (p : PartDef). cell_in p.bounds x) l.parts) k)

pub part_of_nowhere : (names : List (List ℕ)) (l : LayoutView) (row : List Cell) (column : List ℕ) → l.column ≡ Some column → cell_at (column_position names l.column) row ≡ None → None ≡ part_of names l row
part_of_nowhere names l row column e f = sym (none_in l.parts) ∙ by_cell names l row column None e f

pub part_of_cell : (names : List (List ℕ)) (l : LayoutView) (row : List Cell) (column : List ℕ) (x : Cell) → l.column ≡ Some column → cell_at (column_position names l.column) row ≡ Some x → first_part (λ (p : PartDef). cell_in p.bounds (Some x)) l.parts ≡ part_of names l row
part_of_cell names l row column x e f = by_cell names l row column (Some x) e f

pub bucket_by_hash : (names : List (List ℕ)) (l : LayoutView) (row : List Cell) (hash : ℕ) → hash ≡ hash_bytes 0 (flat_map (λ p. text_of (slice_get row p)) (positions_of names l.hash)) → hash % l.buckets ≡ bucket_of names l row
bucket_by_hash names l row hash e = ap (λ (h : ℕ). h % l.buckets) (e ∙ ap (hash_bytes 0) (sym (texts_by_position names l.hash row)))

pub bucket_of_none : (names : List (List ℕ)) (l : LayoutView) (row : List Cell) (hash : ℕ) → l.buckets ≡ 0 → hash ≡ hash_bytes 0 (flat_map (λ p. text_of (slice_get row p)) (positions_of names l.hash)) → hash ≡ bucket_of names l row
bucket_of_none names l row hash z e = sym (ap (λ (n : ℕ). hash % n) z ∙ mod-zero hash) ∙ bucket_by_hash names l row hash e
