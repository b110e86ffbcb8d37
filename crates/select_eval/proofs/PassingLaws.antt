-- Rows that are passed over, and rows that pass.
use Rattle.std.proofs.Common.{◌≡◌, ◌+◌, ◌<◌, ◌≤◌, ℕ, true, false, List, [], ◌∷◌, ◌++◌, length, sym, ap, ◌∙◌, append_assoc, append-nil, arith, filter}
use Rattle.fold_laws.proofs.Unique.{filter_no, filter_yes}
use Rattle.merge_read.specs.MergeView.{MergeView}
use Rattle.select_eval.specs.Conditions.{all_hold}
use Rattle.select_eval.specs.Passing.{still_passing}
use Rattle.select_eval.specs.declared.condition.Condition.{Condition}

pub passed_over : (list : List Condition) (old new : MergeView) → old.left ≡ new.present ∷ new.left → all_hold list new.present ≡ false → still_passing list new ≡ still_passing list old
passed_over list old new e h = sym (ap (filter (all_hold list)) e ∙ filter_no (all_hold list) new.present new.left h)

pub passes_now : (list : List Condition) (old new : MergeView) → old.left ≡ new.present ∷ new.left → all_hold list new.present ≡ true → still_passing list old ≡ new.present ∷ still_passing list new
passes_now list old new e h = ap (filter (all_hold list)) e ∙ filter_yes (all_hold list) new.present new.left h

pub none_left : (list : List Condition) (old : MergeView) → old.left ≡ [] → still_passing list old ≡ []
none_left list old e = ap (filter (all_hold list)) e

-- a list that is a row and the rest is longer than the rest
pub fewer : {A : Type 0} (left rest : List A) (x : A) → left ≡ x ∷ rest → length rest < length left
fewer left rest x e = let n : length left ≡ length (x ∷ rest) = ap (λ l. length l) e in omega (arith, n)

-- of one row more that is kept
pub one_more : {A : Type 0} (all new whole left rest : List A) (row made : A) → new ≡ all ++ made ∷ [] → made ≡ row → left ≡ row ∷ rest → all ++ left ≡ whole → new ++ rest ≡ whole
one_more all new whole left rest row made e r l h =
    ap (λ x. x ++ rest) e ∙ append_assoc all (made ∷ []) rest ∙ ap (λ x. all ++ x ∷ rest) r ∙ ap (λ x. all ++ x) (sym l) ∙ h

-- of no rows more
pub no_more : {A : Type 0} (all whole left : List A) → left ≡ [] → all ++ left ≡ whole → all ≡ whole
no_more all whole left e h = sym (append-nil all) ∙ ap (λ x. all ++ x) (sym e) ∙ h

pub all_counted : (more unread before steps all : ℕ) → more + unread ≡ before → unread ≡ 0 → before ≡ steps + all → more ≡ steps + all
all_counted more unread before steps all a b c = omega arith

pub at_most : (more unread steps all : ℕ) → more + unread ≡ steps + all → more ≤ steps + all
at_most more unread steps all a = omega arith
