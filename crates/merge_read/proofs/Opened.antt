-- Lists of which no row was taken.
use Rattle.std.proofs.Common.{◌≡◌, ℕ, ◌<◌, ◌≤◌, ◌∙◌, Bool, false, cond, nat_lt, get_or, List, [], ◌∷◌, None, length, replicate, refl, ap, sym, subst, arith}
use Rattle.std.proofs.lemmas.Bool.Decides.{nat_tests}
use Rattle.std.proofs.lemmas.List.{length-replicate}
use Rattle.schema_models.specs.ShapeRules.{IsShape}
use Rattle.schema_models.specs.ShapeView.{ShapeView, key_count}
use Rattle.schema_models.specs.declared.column_def.ColumnDef.{ColumnDef}
use Rattle.schema_models.specs.declared.model.Model.{Model}
use Rattle.schema_models.specs.declared.model.Model.TheVariants as model
use Rattle.merge_read.proofs.Streams.{rests_all}
use Rattle.merge_read.specs.HeadsView.{HeadsView}
use Rattle.merge_read.specs.Keys.{key_width, width_in}
use Rattle.merge_read.specs.Lists.{AreSortedLists}
use Rattle.merge_read.specs.Rests.{AreHeads, IsStream, RowList, rests_of, some_row}
use Rattle.merge_read.specs.declared.head.Head.{Head}

-- there are columns where there is a key
has_columns : (cs : List ColumnDef) → 0 < key_count cs → 0 < length cs
has_columns [] l = absurd (omega arith)
has_columns (c ∷ cs) l = omega arith

wide : (m : Model) (k n : ℕ) → 0 < k → 0 < n → 0 < width_in m k n
wide model.Duplicate k n a b = b
wide model.Unique k n a b = a
wide model.Aggregate k n a b = a

no_heads : (s : ShapeView) (rests : List RowList) → AreHeads s 0 rests []
no_heads s rests = record { right = tt; counted = λ i l. sym (ap (λ (b : Bool). cond b (some_row (get_or rests i [])) 0) (never i)) }
  where
    never : (i : ℕ) → nat_lt i 0 ≡ false
    never i = grind (arith, nat_tests)

pub opened : (s : ShapeView) (width : ℕ) (lists : List RowList) (places : List ℕ) (n : ℕ) (others : HeadsView) → n ≡ length lists → width ≡ key_width s → IsShape s → 0 < key_count s.columns → AreSortedLists s lists
    → places ≡ replicate n 0 → others.items ≡ [] → n ≤ others.room → IsStream s width lists places false None others
opened s width lists places n others size w shape key sorted p empty room =
    let all : rests_of lists places ≡ lists = ap (λ (q : List ℕ). rests_of lists q) p ∙ rests_all lists n size in
    let none : length others.items ≡ 0 = ap (λ (l : List Head). length l) empty in
    record {
      wide = w;
      some = subst (λ k. 0 < k) (sym w) (wide s.model (key_count s.columns) (length s.columns) key (has_columns s.columns key));
      sorted = subst (λ (r : List RowList). AreSortedLists s r) (sym all) sorted;
      placed = ap (λ (q : List ℕ). length q) p ∙ length-replicate n 0 ∙ size;
      few = omega arith;
      room = omega (arith, room, size);
      heads = subst (λ (l : List Head). AreHeads s 0 (rests_of lists places) l) (sym empty) (no_heads s (rests_of lists places));
      none = empty;
      least = tt;
      fresh = λ e. (all, refl);
    }
