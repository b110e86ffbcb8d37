-- The rows of one key are merged one by one, until all lists begin above it.
use Rattle.std.proofs.Common.{◌≡◌, ℕ, zero, suc, ◌+◌, ◌<◌, ◌∙◌, false, List, [], ◌∷◌, ◌++◌, Option, Some, None, length, drop, set, get_or, refl, ap, ap₂, sym, subst, arith, length-append}
use Rattle.std.specs.List.{AllByRecursion}
use Rattle.std.specs.Ordering.{is_gt}
use Rattle.std.specs.declared.cmp.Ordering.{Ordering}
use Rattle.std.specs.declared.cmp.Ordering.TheVariants.{Less, Equal, Greater}
use Rattle.dl_values.specs.Order.{row_cmp}
use Rattle.dl_values.specs.OrderLemmas.{rows_total, rows_same}
use Rattle.dl_values.specs.declared.cell.Cell.{Cell}
use Rattle.fold_laws.proofs.Unique.{below_from}
use Rattle.fold_laws.specs.Fold.{Ascends, HeadAbove, HeadFrom, folded}
use Rattle.schema_models.specs.Folds.{fold_of, key_of, merged_row}
use Rattle.schema_models.specs.RowRules.{IsOfShape}
use Rattle.schema_models.specs.ShapeView.{ShapeView}
use Rattle.schema_models.specs.declared.model.Model.TheVariants as model
use Rattle.merge_read.proofs.Each.{all_get, all_places}
use Rattle.merge_read.proofs.HeadLemmas.{row_length}
use Rattle.merge_read.proofs.Steps.{begins, ends, keeps, key_stays, left, takes}
use Rattle.merge_read.specs.HeadOrder.{head_key}
use Rattle.merge_read.specs.Lists.{IsSortedList, joined, stored}
use Rattle.merge_read.specs.Rests.{IsLeast, IsPassed, IsTaken, RowList, StreamView, unread, without}
use Rattle.merge_read.specs.Runs.{AreAbove, AreFrom, IsSameFirst, IsSamePassed, IsSameTaken}
use Rattle.merge_read.specs.declared.head.Head.{Head}

-- ---- the next head has another key

is_less : (o : Ordering) → is_gt o ≡ false → (o ≡ Equal → ⊥) → o ≡ Less
is_less Less g n = refl
is_less Equal g n = absurd (n refl)
is_less Greater g n = cc

pub above_first : (s : ShapeView) (rests : List RowList) (x : Head) (k : List Cell) → IsLeast s rests x → (row_cmp k (head_key x) ≡ Equal → ⊥) → AreFrom s k rests → AreAbove s k rests
above_first s rests x k m n f =
    all_places (λ (z : RowList). Ascends row_cmp (key_of s) z × HeadAbove row_cmp (key_of s) k z) rests [] (λ i l. ((all_get From i rests [] l f).0, above (get_or rests i []) (m.from i l)))
  where
    From : RowList → Type 0
    From z = Ascends row_cmp (key_of s) z × HeadFrom row_cmp (key_of s) k z

    here : HeadFrom row_cmp (key_of s) k (x.row ∷ drop 1 (get_or rests x.list []))
    here = subst (λ (z : RowList). HeadFrom row_cmp (key_of s) k z) m.head.is (all_get From x.list rests [] m.head.within f).1

    less : row_cmp k (key_of s x.row) ≡ Less
    less = is_less (row_cmp k (key_of s x.row)) here (λ e. n (sym (ap (λ (r : List Cell). row_cmp k r) m.head.key) ∙ e))

    above : (z : RowList) → HeadFrom row_cmp (key_of s) (key_of s x.row) z → HeadAbove row_cmp (key_of s) k z
    above [] h = tt
    above (y ∷ ys) h = below_from rows_total k (key_of s x.row) (key_of s y) less h

pub above_none : (s : ShapeView) (rests : List RowList) (k : List Cell) → AllByRecursion (λ (r : RowList). r ≡ []) rests → AreAbove s k rests
above_none s [] k a = tt
above_none s (r ∷ rs) k a = (subst (λ (z : RowList). Ascends row_cmp (key_of s) z × HeadAbove row_cmp (key_of s) k z) (sym a.0) (tt, tt), above_none s rs k a.1)

pub same_taken : (k : List Cell) (old new : StreamView) (r : Option Head) → r ≡ old.first → IsSameFirst k old.first → IsTaken old r new → IsSameTaken k old r new
same_taken k old new None e f t = absurd (subst (λ (o : Option Head). IsSameFirst k o) (sym e) f)
same_taken k old new (Some h) e f t = record { passed = t; same = subst (λ (o : Option Head). IsSameFirst k o) (sym e) f }

-- ---- one more row of the key

pub passed_row : (s : ShapeView) (old new : List RowList) (h : Head) → IsPassed s old h new → IsOfShape s h.row
passed_row s old new h p = (subst (λ (z : RowList). AllByRecursion (IsOfShape s) z) p.least.head.is (all_get (IsSortedList s) h.list old [] p.least.head.within p.sorted).rows).0

pub passed_length : (s : ShapeView) (old new : List RowList) (h : Head) → IsPassed s old h new → length h.row ≡ length s.columns
passed_length s old new h p = row_length s h.row (passed_row s old new h p)

pub passed_from : (s : ShapeView) (old new : List RowList) (h : Head) → IsPassed s old h new → AreFrom s (head_key h) new
passed_from s old new h p =
    subst (λ (r : List RowList). AreFrom s (head_key h) r) (sym p.rests) (subst (λ (k : List Cell). AreFrom s k (without h old)) p.least.head.key (left s old h p.sorted p.least))

joined_less : (i : ℕ) (rests : List RowList) (x : List Cell) (xs : RowList) → i < length rests → get_or rests i [] ≡ x ∷ xs → length (joined (set rests i (drop 1 (get_or rests i [])))) < length (joined rests)
joined_less i [] x xs l e = absurd (omega arith)
joined_less zero (r ∷ rs) x xs l e =
    let n : length r ≡ suc (length xs) = ap (λ (z : RowList). length z) e in
    let m : length (drop 1 r) ≡ length xs = ap (λ (z : RowList). length (drop 1 z)) e in
    rw (length-append (drop 1 r) (joined rs), length-append r (joined rs)) (omega (arith, n, m))
joined_less (suc i) (r ∷ rs) x xs l e =
    let h : length (joined (set rs i (drop 1 (get_or rs i [])))) < length (joined rs) = joined_less i rs x xs (omega arith) e in
    rw (length-append r (joined (set rs i (drop 1 (get_or rs i [])))), length-append r (joined rs)) (omega (arith, h))

pub passed_less : (s : ShapeView) (old new : List RowList) (h : Head) → IsPassed s old h new → length (joined new) < length (joined old)
passed_less s old new h p =
    subst (λ (r : List RowList). length (joined r) < length (joined old)) (sym p.rests) (joined_less h.list old h.row (drop 1 (get_or old h.list [])) p.least.head.within p.least.head.is)

-- what stays while the rows of a key merge
pub record IsRun (s : ShapeView) (k : List Cell) (made : List Cell) (rests : List RowList) (fold : List (List Cell)) : Type 0 where
  pub key : key_of s made ≡ k
  pub from : AreFrom s k rests
  pub merged : fold_of s (made ∷ joined rests) ≡ fold

pub run_goes_on : (s : ShapeView) (k made next : List Cell) (old new : List RowList) (h : Head) (fold : List (List Cell)) → (s.model ≡ model.Duplicate → ⊥) → IsRun s k made old fold → IsSamePassed s k old h new → next ≡ merged_row s.columns made h.row → IsRun s k next new fold
run_goes_on s k made next old new h fold n r p e =
    let same : row_cmp (key_of s made) (key_of s h.row) ≡ Equal = ap₂ (λ (a b : List Cell). row_cmp a b) r.key p.passed.least.head.key ∙ p.same in
    let is : head_key h ≡ k = sym (rows_same k (head_key h) p.same) in
    record {
      key = ap (λ (a : List Cell). key_of s a) e ∙ key_stays s n made h.row same ∙ r.key;
      from = subst (λ (a : List Cell). AreFrom s a new) is (passed_from s old new h p.passed);
      merged =
          ap (λ (a : List Cell). fold_of s (a ∷ joined new)) e
          ∙ ap (λ (z : List RowList). fold_of s (merged_row s.columns made h.row ∷ joined z)) p.passed.rests
          ∙ sym (takes s n made old h p.passed.sorted p.passed.least same)
          ∙ r.merged;
    }

pub run_ends : (s : ShapeView) (k made : List Cell) (rests : List RowList) (fold : List (List Cell)) → (s.model ≡ model.Duplicate → ⊥) → IsRun s k made rests fold → (AreFrom s k rests → AreAbove s k rests) → fold ≡ made ∷ fold_of s (joined rests)
run_ends s k made rests fold n r a = sym r.merged ∙ ends s n made rests (subst (λ (x : List Cell). AreAbove s x rests) (sym r.key) (a r.from))

-- ---- the next row

pub nothing_joined : (rests : List RowList) → AllByRecursion (λ (r : RowList). r ≡ []) rests → joined rests ≡ []
nothing_joined [] a = refl
nothing_joined (r ∷ rs) a = ap (λ (z : RowList). z ++ joined rs) a.0 ∙ nothing_joined rs a.1

pub nothing_left : (s : ShapeView) (rests : List RowList) → AllByRecursion (λ (r : RowList). r ≡ []) rests → fold_of s (joined rests) ≡ []
unfolding folded
nothing_left s rests a = ap (λ (z : RowList). fold_of s z) (nothing_joined rests a)

pub nothing_unread : (n : ℕ) (rests : List RowList) → AllByRecursion (λ (r : RowList). r ≡ []) rests → unread n rests ≡ 0
nothing_unread n [] a = refl
nothing_unread zero (r ∷ rs) a = zeros (length r) (unread zero rs) (ap (λ (z : RowList). length z) a.0) (nothing_unread zero rs a.1)
  where
    zeros : (m k : ℕ) → m ≡ 0 → k ≡ 0 → m + k ≡ 0
    zeros m k p q = omega arith
nothing_unread (suc n) (r ∷ rs) a = zeros (length (drop 1 r)) (unread n rs) (ap (λ (z : RowList). length (drop 1 z)) a.0) (nothing_unread n rs a.1)
  where
    zeros : (m k : ℕ) → m ≡ 0 → k ≡ 0 → m + k ≡ 0
    zeros m k p q = omega arith

pub all_unread : (rests : List RowList) → unread 0 rests ≡ stored rests
all_unread [] = refl
all_unread (r ∷ rs) = ap (λ n. length r + n) (all_unread rs) ∙ sym (length-append r (joined rs))

-- the first row of the next key
pub run_begins : (s : ShapeView) (made : List Cell) (old new : List RowList) (h : Head) → (s.model ≡ model.Duplicate → ⊥) → IsPassed s old h new → made ≡ h.row → IsRun s (head_key h) made new (fold_of s (joined old))
run_begins s made old new h n p e = record {
  key = ap (λ (a : List Cell). key_of s a) e ∙ p.least.head.key;
  from = passed_from s old new h p;
  merged = ap (λ (a : List Cell). fold_of s (a ∷ joined new)) e ∙ ap (λ (z : List RowList). fold_of s (h.row ∷ joined z)) p.rests ∙ sym (begins s n old h p.sorted p.least);
}

-- each row of a Duplicate table
pub row_kept : (s : ShapeView) (made : List Cell) (old new : List RowList) (h : Head) → s.model ≡ model.Duplicate → IsPassed s old h new → made ≡ h.row → fold_of s (joined old) ≡ made ∷ fold_of s (joined new)
row_kept s made old new h d p e = keeps s d old h p.sorted p.least ∙ ap₂ (λ (a : List Cell) (z : List RowList). a ∷ fold_of s (joined z)) (sym e) (sym p.rests)
