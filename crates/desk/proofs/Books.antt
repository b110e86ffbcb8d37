-- The one kind of step that a book has.
use Rattle.std.proofs.Common.{◌≡◌, ℕ, ◌+◌, ◌*◌, ◌/◌, ◌%◌, ◌^◌, List, ◌∷◌, length, set, get_or, sym, ap, ◌∙◌, subst, arith, Some, None, Option}
use Rattle.std.proofs.Math.Nat.{mod-add-div', add-mul-mod_self_right}
use mathlib.Core.Option as maybe
use mathlib.Core.Option.{some}
use lib.ListN.{get_elem?}
use Rattle.atomic_table.specs.Table.{Me, step, keeps, Allows}
use Rattle.desk.specs.declared.book.Log.{Log}
use Rattle.desk.specs.Books.{IsBook, Written}
use Rattle.desk.proofs.Lists.{the_one}

-- a count modulo the size of a word goes on by one
pub counts : (n : ℕ) → (n % 2 ^ 64 + 1) % 2 ^ 64 ≡ (n + 1) % 2 ^ 64
counts n = let p = mod-add-div' n (2 ^ 64) in
    let e : n + 1 ≡ (n % 2 ^ 64 + 1) + n / 2 ^ 64 * 2 ^ 64 = omega arith in
    sym (ap (λ k. k % 2 ^ 64) e ∙ add-mul-mod_self_right (n % 2 ^ 64 + 1) (n / 2 ^ 64) (2 ^ 64))

pub one_longer : {A : Type 0} (e : A) (l : List A) → (length l + 1) % 2 ^ 64 ≡ length (e ∷ l) % 2 ^ 64
one_longer e l = let n : length l + 1 ≡ length (e ∷ l) = omega arith in ap (λ k. k % 2 ^ 64) n

pub none_some : {A : Type 0} (x : A) → ◌≡◌ {A = Option A} None (Some x) → ⊥
none_some x e = cc

pub some_some : {A : Type 0} (x y : A) → ◌≡◌ {A = Option A} (Some x) (Some y) → x ≡ y
some_some x y e = cc

pub writes : {N : Type 0} (slots id : ℕ) (me : Me (Unit {0}) (Log N)) (entry : Option N) (e : N) → entry ≡ Some e
    → Allows IsBook slots id me 0 (λ n. (n + 1) % 2 ^ 64) (Written entry (step slots 0 1 0 maybe.none) me)
writes {N} slots id me entry e said s it long at small =
    let log = it.0 in
    let o = the_one (record { since = log }) id me.0 (subst (λ l. get_elem? l id ≡ some me.0) it.2 at) in
    let w : Log N = record { since = e ∷ log } in
    let word : get_or s.words 0 0 ≡ length log % 2 ^ 64 = ap (λ l. get_or l 0 0) it.1 in
    let count : (get_or s.words 0 0 + 1) % 2 ^ 64 ≡ length (e ∷ log) % 2 ^ 64 = ap (λ n. (n + 1) % 2 ^ 64) word ∙ (counts (length log) ∙ one_longer e log) in (
      w,
      keeps,
      tt,
      (e ∷ log, (λ i. set (it.1 i) 0 (count i)), (λ i. set (it.2 i) (o.0 i) w)),
      (λ e' said'. λ i. some_some e e' (sym said ∙ said') i ∷ (o.1 i).since),
    )
