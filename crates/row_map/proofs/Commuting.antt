-- Rows of one key merge the same way in either order, where each value column does.
use Rattle.std.proofs.Common.{◌≡◌, ℕ, Bool, true, false, ◌||◌, List, [], ◌∷◌, take, refl, ap₂, subst}
use Rattle.std.specs.List.{AllByRecursion, list_any}
use Rattle.agg_functions.specs.MergeLemmas.{max_comm, min_comm, sum_comm}
use Rattle.dl_values.specs.declared.agg_kind.AggKind.TheVariants as agg
use Rattle.dl_values.specs.declared.cell.Cell.{Cell}
use Rattle.dl_values.specs.declared.col_type.ColType.{ColType}
use Rattle.schema_models.proofs.ShapeLemmas.{Fits}
use Rattle.schema_models.specs.Folds.{merged_by_role, merged_row}
use Rattle.schema_models.specs.ShapeRules.{fits_model, is_key}
use Rattle.schema_models.specs.ShapeView.{key_count}
use Rattle.schema_models.specs.declared.column_def.ColumnDef.{ColumnDef}
use Rattle.schema_models.specs.declared.model.Model.TheVariants as model
use Rattle.schema_models.specs.declared.role.Role.{Role}
use Rattle.schema_models.specs.declared.role.Role.TheVariants as role
use Rattle.row_map.specs.Maps.{replaces}
use Rattle.row_map.proofs.Picking.{counted, heads}
use Rattle.row_map.proofs.PickedRows.{Picks, values_after}
use Rattle.row_map.proofs.ShapeColumns.{Ordered, of_named}

-- a key, or a column whose cells merge the same way in either order
abbrev pub Commutes : ColumnDef → Type 0
Commutes c = is_key c.role ≡ false → (x y : Cell) → merged_by_role c.role x y ≡ merged_by_role c.role y x

values_commute : (cs : List ColumnDef) → AllByRecursion (λ (c : ColumnDef). is_key c.role ≡ false) cs → AllByRecursion Commutes cs → (x y : List Cell) → merged_row cs x y ≡ merged_row cs y x
values_commute [] h a x y = refl
values_commute (c ∷ cs) h a [] [] = refl
values_commute (c ∷ cs) h a [] (v ∷ vs) = refl
values_commute (c ∷ cs) h a (u ∷ us) [] = refl
values_commute (c ∷ cs) h a (u ∷ us) (v ∷ vs) = ap₂ (λ (z : Cell) (zs : List Cell). z ∷ zs) (a.0 h.0 u v) (values_commute cs h.1 a.1 us vs)

pub rows_commute : (cs : List ColumnDef) → Ordered cs → AllByRecursion Commutes cs → (x y : List Cell) → take (key_count cs) x ≡ take (key_count cs) y → merged_row cs x y ≡ merged_row cs y x
rows_commute [] o a x y t = refl
rows_commute (c ∷ cs) o a x y t = go (is_key c.role) refl x y t (λ us vs u. rows_commute cs o.1 a.1 us vs u)
  where
    go : (k : Bool) → is_key c.role ≡ k → (p q : List Cell) → take (key_count (c ∷ cs)) p ≡ take (key_count (c ∷ cs)) q → ((us vs : List Cell) → take (key_count cs) us ≡ take (key_count cs) vs → merged_row cs us vs ≡ merged_row cs vs us) → merged_row (c ∷ cs) p q ≡ merged_row (c ∷ cs) q p
    go false h p q u rest = values_commute (c ∷ cs) (h, values_after c cs o.0 h) a p q
    go true h [] [] u rest = refl
    go true h [] (v ∷ vs) u rest = refl
    go true h (v ∷ vs) [] u rest = refl
    go true h (v ∷ vs) (w ∷ ws) u rest =
        let i = heads (key_count cs) v w vs ws (subst (λ (m : ℕ). take m (v ∷ vs) ≡ take m (w ∷ ws)) (counted c.role (key_count cs) h) u) in
        ap₂ (λ (z : Cell) (zs : List Cell). z ∷ zs) (subst (λ (z : Cell). merged_by_role c.role v z ≡ merged_by_role c.role z v) i.0 refl) (rest vs ws i.1)

role_commutes : (r : Role) (k : ColType) → fits_model model.Aggregate r k ≡ true → replaces r ≡ false → is_key r ≡ false → (x y : Cell) → merged_by_role r x y ≡ merged_by_role r y x
role_commutes role.Key k f p h x y = absurd (cc)
role_commutes role.Plain k f p h x y = absurd (cc)
role_commutes (role.Agg agg.Sum) k f p h x y = sum_comm x y
role_commutes (role.Agg agg.Min) k f p h x y = min_comm x y
role_commutes (role.Agg agg.Max) k f p h x y = max_comm x y
role_commutes (role.Agg agg.Replace) k f p h x y = absurd (cc)
role_commutes (role.Agg agg.ReplaceIfNotNull) k f p h x y = absurd (cc)

-- columns of an Aggregate shape of which none takes the newer value
all_commute : (cs : List ColumnDef) → AllByRecursion (Fits model.Aggregate) cs → list_any (λ (c : ColumnDef). replaces c.role) cs ≡ false → AllByRecursion Commutes cs
all_commute [] f h = tt
all_commute (c ∷ cs) f h =
    let p = neither (replaces c.role) (list_any (λ (d : ColumnDef). replaces d.role) cs) h in
    ((λ k x y. role_commutes c.role c.kind f.0 p.0 k x y), all_commute cs f.1 p.1)
  where
    neither : (a b : Bool) → (a || b) ≡ false → (a ≡ false) × (b ≡ false)
    neither true b e = absurd (cc)
    neither false b e = (refl, e)

-- what all columns have the picked ones have
all_picked : (P : ColumnDef → Type 0) (cs : List ColumnDef) → AllByRecursion P cs → (names : List (List ℕ)) (ds : List ColumnDef) → Picks cs names ds → AllByRecursion P ds
all_picked P cs a [] [] p = tt
all_picked P cs a [] (d ∷ ds) p = elim p [ ]
all_picked P cs a (n ∷ ns) [] p = elim p [ ]
all_picked P cs a (n ∷ ns) (d ∷ ds) p = (of_named P n cs d p.0 a, all_picked P cs a ns ds p.1)

pub picked_commute : (cs : List ColumnDef) → AllByRecursion (Fits model.Aggregate) cs → list_any (λ (c : ColumnDef). replaces c.role) cs ≡ false → (names : List (List ℕ)) (ds : List ColumnDef) → Picks cs names ds → AllByRecursion Commutes ds
picked_commute cs f h names ds p = all_picked Commutes cs (all_commute cs f h) names ds p
