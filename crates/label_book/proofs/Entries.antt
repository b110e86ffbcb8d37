-- The entries of a book by number, as bindings.
use Rattle.std.proofs.Common.{◌≡◌, ℕ, ◌<◌, Bool, true, false, cond, not, ◌||◌, List, [], ◌∷◌, ◌++◌, map, filter, Option, Some, None, nat_eq, nat_lt, refl, sym, ◌∙◌, ap, ap₂, subst, arith, inl, inr, ◌⊎◌, ⊎_elim}
use Rattle.std.specs.List.{AllByRecursion, last_or}
use Rattle.std.specs.List.Sorted.{IsStrictlySortedBy}
use Rattle.std.specs.Map.{keys_of, lookup, remove_entry, set_value}
use Rattle.std.specs.Set.{remove_key}
use Rattle.std.specs.BTreeMap.{insert_entry, is_at}
use Rattle.std.specs.BTreeSet.{insert_key}
use Rattle.std.specs.Ordering.{nat_cmp, is_eq, match_ordering, MatchOrdering}
use Rattle.std.specs.declared.cmp.Ordering.{Ordering}
use Rattle.std.specs.declared.cmp.Ordering.TheVariants.{Less, Equal, Greater}
use Rattle.std.proofs.lemmas.Cmp.{ranked}
use Rattle.std.proofs.lemmas.Map.Keys.{sorted_head, sorted_tail}
use Rattle.std.proofs.lemmas.Bool.Decides.{nat_tests}
use Rattle.labels.specs.declared.txn_state.TxnState.{TxnState}
use Rattle.label_book.specs.declared.binding.Binding.{Binding}
use Rattle.label_book.specs.declared.book.Held.{Held}
use Rattle.label_book.specs.Labels.{is_bound, finished, put_binding, cleaned, AreAscending}
use Rattle.label_book.specs.Index.{binding_of}

abbrev pub bindings_of : List (ℕ × Held) → List Binding
bindings_of es = map binding_of es

-- the numbers of the bindings that pass
abbrev pub passing : (Binding → Bool) → List Binding → List ℕ
passing p bs = map (λ b. b.txn) (filter p bs)

-- Tests of numbers.
same_number : (n k : ℕ) → is_eq (nat_cmp n k) ≡ true → n ≡ k
same_number n k h = grind (arith, nat_tests)

other_number : (n k : ℕ) → is_eq (nat_cmp n k) ≡ false → nat_eq k n ≡ false
other_number n k h = grind (arith, nat_tests)

at_itself : (n : ℕ) → is_eq (nat_cmp n n) ≡ true
at_itself n = grind (arith, nat_tests)

at_other : (n k : ℕ) → k < n → is_eq (nat_cmp n k) ≡ false
at_other n k h = grind (arith, nat_tests)

eq_itself : (n k : ℕ) → n ≡ k → nat_eq k n ≡ true
eq_itself n k h = grind (arith, nat_tests)

eq_above : (n k : ℕ) → n < k → nat_eq k n ≡ false
eq_above n k h = grind (arith, nat_tests)

lt_true : (n k : ℕ) → n < k → nat_lt n k ≡ true
lt_true n k h = grind (arith, nat_tests)

lt_false : (n k : ℕ) → n < k → nat_lt k n ≡ false
lt_false n k h = grind (arith, nat_tests)

not_false : (t : Bool) → t ≡ false → not t ≡ true
not_false t h = ap not h

-- Filters that keep all or nothing.
module _ {A : Type 0} where
  pub all_weaker : (P Q : A → Type 0) → ((x : A) → P x → Q x) → (xs : List A) → AllByRecursion P xs → AllByRecursion Q xs
  all_weaker P Q f [] h = tt
  all_weaker P Q f (x ∷ xs) h = (f x h.0, all_weaker P Q f xs h.1)

  filter_none : (p : A → Bool) (xs : List A) → AllByRecursion (λ x. p x ≡ false) xs → filter p xs ≡ []
  filter_none p [] h = refl
  filter_none p (x ∷ xs) h = ap (λ (t : Bool). cond t (x ∷ filter p xs) (filter p xs)) h.0 ∙ filter_none p xs h.1

  filter_all : (p : A → Bool) (xs : List A) → AllByRecursion (λ x. p x ≡ true) xs → filter p xs ≡ xs
  filter_all p [] h = refl
  filter_all p (x ∷ xs) h = ap (λ (t : Bool). cond t (x ∷ filter p xs) (filter p xs)) h.0 ∙ ap (λ ys. x ∷ ys) (filter_all p xs h.1)

all_kept : {A : Type 0} (P : A → Type 0) (p : A → Bool) (xs : List A) → AllByRecursion P xs → AllByRecursion P (filter p xs)
all_kept P p [] h = tt
all_kept P p (x ∷ xs) h = go (p x) (all_kept P p xs h.1)
  where
    go : (t : Bool) → AllByRecursion P (filter p xs) → AllByRecursion P (cond t (x ∷ filter p xs) (filter p xs))
    go true more = (h.0, more)
    go false more = more

-- each binding has a higher number
abbrev pub AreAbove : ℕ → List Binding → Type 0
AreAbove n bs = AllByRecursion (λ b. n < b.txn) bs

further : (n k : ℕ) → n < k → (bs : List Binding) → AreAbove k bs → AreAbove n bs
further n k lt bs h = all_weaker (λ b. k < b.txn) (λ b. n < b.txn) (λ b l. omega (arith, lt, l)) bs h

-- Entries in order are bindings in order.
pub ascending_from : (es : List (ℕ × Held)) → IsStrictlySortedBy nat_cmp (keys_of es) → AreAscending (bindings_of es)
ascending_from [] s = tt
ascending_from (e ∷ es) s = (below es (sorted_head nat_cmp e.0 (keys_of es) s), ascending_from es (sorted_tail nat_cmp e.0 (keys_of es) s))
  where
    less : (n k : ℕ) → nat_cmp n k ≡ Less → n < k
    less n k h = grind (arith, nat_tests)

    below : (fs : List (ℕ × Held)) → AllByRecursion (λ y. nat_cmp e.0 y ≡ Less) (keys_of fs) → AreAbove e.0 (bindings_of fs)
    below [] h = tt
    below (f ∷ fs) h = (less e.0 f.0 h.0, below fs h.1)

-- A binding more.
pub put_last : (b : Binding) (bs : List Binding) → AllByRecursion (λ c. c.txn < b.txn) bs → put_binding b bs ≡ bs ++ b ∷ []
put_last b bs h = ap₂ (λ (xs ys : List Binding). xs ++ b ∷ ys)
    (filter_all (λ c. nat_lt c.txn b.txn) bs (all_weaker (λ c. c.txn < b.txn) (λ c. nat_lt c.txn b.txn ≡ true) (λ c. lt_true c.txn b.txn) bs h))
    (filter_none (λ c. nat_lt b.txn c.txn) bs (all_weaker (λ c. c.txn < b.txn) (λ c. nat_lt b.txn c.txn ≡ false) (λ c. lt_false c.txn b.txn) bs h))

put_first : (b : Binding) (bs : List Binding) → AreAbove b.txn bs → b ∷ bs ≡ put_binding b bs
put_first b bs h = sym (ap₂ (λ (xs ys : List Binding). xs ++ b ∷ ys)
    (filter_none (λ c. nat_lt c.txn b.txn) bs (all_weaker (λ c. b.txn < c.txn) (λ c. nat_lt c.txn b.txn ≡ false) (λ c. lt_false b.txn c.txn) bs h))
    (filter_all (λ c. nat_lt b.txn c.txn) bs (all_weaker (λ c. b.txn < c.txn) (λ c. nat_lt b.txn c.txn ≡ true) (λ c. lt_true b.txn c.txn) bs h)))

put_later : (a b : Binding) (bs : List Binding) → a.txn < b.txn → a ∷ put_binding b bs ≡ put_binding b (a ∷ bs)
put_later a b bs lt =
    let F = filter (λ (c : Binding). nat_lt c.txn b.txn) bs in
    let G = filter (λ (c : Binding). nat_lt b.txn c.txn) bs in
    sym (ap₂ (λ (s t : Bool). cond s (a ∷ F) F ++ b ∷ cond t (a ∷ G) G) (lt_true a.txn b.txn lt) (lt_false a.txn b.txn lt))

not_there : (n : ℕ) (b : Binding) (bs : List Binding) → is_bound n (b ∷ bs) ≡ false → (n ≡ b.txn → ⊥) × (is_bound n bs ≡ false)
not_there n b bs h = go (nat_eq b.txn n) refl h
  where
    go : (t : Bool) → nat_eq b.txn n ≡ t → (t || is_bound n bs) ≡ false → (n ≡ b.txn → ⊥) × (is_bound n bs ≡ false)
    go true e k = absurd (cc)
    go false e k = ((λ same. let z = eq_itself n b.txn same in absurd (cc)), k)

pub put_entry : (es : List (ℕ × Held)) (n : ℕ) (h : Held) → AreAscending (bindings_of es) → is_bound n (bindings_of es) ≡ false
    → bindings_of (insert_entry nat_cmp es n h) ≡ put_binding (binding_of (n, h)) (bindings_of es)
put_entry [] n h a f = refl
put_entry (e ∷ es) n h a f = go (nat_cmp n e.0) (ranked n e.0 (nat_cmp n e.0) refl) (not_there n (binding_of e) (bindings_of es) f) (put_entry es n h a.1)
  where
    go : (o : Ordering) → MatchOrdering o (n < e.0) (n ≡ e.0) (e.0 < n) → (n ≡ e.0 → ⊥) × (is_bound n (bindings_of es) ≡ false)
        → (is_bound n (bindings_of es) ≡ false → bindings_of (insert_entry nat_cmp es n h) ≡ put_binding (binding_of (n, h)) (bindings_of es))
        → bindings_of (match_ordering o ((n, h) ∷ e ∷ es) ((e.0, h) ∷ es) (e ∷ insert_entry nat_cmp es n h)) ≡ put_binding (binding_of (n, h)) (binding_of e ∷ bindings_of es)
    go Less lt k more = put_first (binding_of (n, h)) (binding_of e ∷ bindings_of es) (lt, further n e.0 lt (bindings_of es) a.0)
    go Equal same k more = absurd (k.0 same)
    go Greater gt k more = ap (λ (bs : List Binding). binding_of e ∷ bs) (more k.1) ∙ put_later (binding_of e) (binding_of (n, h)) (bindings_of es) gt

-- What was put goes again.
pub put_and_taken : (es : List (ℕ × Held)) (n : ℕ) (h : Held) → is_bound n (bindings_of es) ≡ false → remove_entry (is_at (nat_cmp n)) (insert_entry nat_cmp es n h) ≡ es
put_and_taken [] n h f = ap (λ (t : Bool). cond t [] ((n, h) ∷ [])) (at_itself n)
put_and_taken (e ∷ es) n h f = go (nat_cmp n e.0) refl (ranked n e.0 (nat_cmp n e.0) refl) (not_there n (binding_of e) (bindings_of es) f) (put_and_taken es n h)
  where
    go : (o : Ordering) → nat_cmp n e.0 ≡ o → MatchOrdering o (n < e.0) (n ≡ e.0) (e.0 < n) → (n ≡ e.0 → ⊥) × (is_bound n (bindings_of es) ≡ false)
        → (is_bound n (bindings_of es) ≡ false → remove_entry (is_at (nat_cmp n)) (insert_entry nat_cmp es n h) ≡ es)
        → remove_entry (is_at (nat_cmp n)) (match_ordering o ((n, h) ∷ e ∷ es) ((e.0, h) ∷ es) (e ∷ insert_entry nat_cmp es n h)) ≡ e ∷ es
    go Less eo lt k more = ap (λ (t : Bool). cond t (e ∷ es) ((n, h) ∷ remove_entry (is_at (nat_cmp n)) (e ∷ es))) (at_itself n)
    go Equal eo same k more = absurd (k.0 same)
    go Greater eo gt k more =
        ap (λ (o : Ordering). cond (is_eq o) (insert_entry nat_cmp es n h) (e ∷ remove_entry (is_at (nat_cmp n)) (insert_entry nat_cmp es n h))) eo
        ∙ ap (λ (fs : List (ℕ × Held)). e ∷ fs) (more k.1)

-- The numbers that pass, after a binding more.
passing_above : (p : Binding → Bool) (n : ℕ) (bs : List Binding) → AreAbove n bs → insert_key nat_cmp (passing p bs) n ≡ n ∷ passing p bs
passing_above p n bs h = go (filter p bs) (all_kept (λ b. n < b.txn) p bs h)
  where
    less : (k : ℕ) → n < k → nat_cmp n k ≡ Less
    less k lt = grind (arith, nat_tests)

    go : (cs : List Binding) → AreAbove n cs → insert_key nat_cmp (map (λ b. b.txn) cs) n ≡ n ∷ map (λ b. b.txn) cs
    go [] k = refl
    go (c ∷ cs) k = ap (λ (o : Ordering). match_ordering o (n ∷ c.txn ∷ map (λ b. b.txn) cs) (c.txn ∷ map (λ b. b.txn) cs) (c.txn ∷ insert_key nat_cmp (map (λ b. b.txn) cs) n)) (less c.txn k.0)

pub passing_put : (p : Binding → Bool) (es : List (ℕ × Held)) (n : ℕ) (h : Held) → AreAscending (bindings_of es) → is_bound n (bindings_of es) ≡ false
    → passing p (bindings_of (insert_entry nat_cmp es n h)) ≡ cond (p (binding_of (n, h))) (insert_key nat_cmp (passing p (bindings_of es)) n) (passing p (bindings_of es))
passing_put p [] n h a f = elim (p (binding_of (n, h))) as (λ t. map (λ (b : Binding). b.txn) (cond t (binding_of (n, h) ∷ []) []) ≡ cond t (n ∷ []) []) [ true ↦ refl | false ↦ refl ]
passing_put p (e ∷ es) n h a f = go (nat_cmp n e.0) refl (ranked n e.0 (nat_cmp n e.0) refl) (not_there n (binding_of e) (bindings_of es) f) (passing_put p es n h a.1)
  where
    first : (t : Bool) → map (λ (b : Binding). b.txn) (cond t (binding_of (n, h) ∷ filter p (binding_of e ∷ bindings_of es)) (filter p (binding_of e ∷ bindings_of es)))
        ≡ cond t (n ∷ passing p (binding_of e ∷ bindings_of es)) (passing p (binding_of e ∷ bindings_of es))
    first true = refl
    first false = refl

    after : (xs : List Binding) (ns : List ℕ) (t s : Bool) → nat_cmp n e.0 ≡ Greater → map (λ (b : Binding). b.txn) xs ≡ cond t (insert_key nat_cmp ns n) ns
        → (ys : List Binding) → map (λ (b : Binding). b.txn) ys ≡ ns
        → map (λ (b : Binding). b.txn) (cond s (binding_of e ∷ xs) xs) ≡ cond t (insert_key nat_cmp (map (λ (b : Binding). b.txn) (cond s (binding_of e ∷ ys) ys)) n) (map (λ (b : Binding). b.txn) (cond s (binding_of e ∷ ys) ys))
    after xs ns true true eo more ys is = ap (λ (ks : List ℕ). e.0 ∷ ks) (more ∙ ap (λ (ks : List ℕ). insert_key nat_cmp ks n) (sym is))
        ∙ sym (ap (λ (o : Ordering). match_ordering o (n ∷ e.0 ∷ map (λ (b : Binding). b.txn) ys) (e.0 ∷ map (λ (b : Binding). b.txn) ys) (e.0 ∷ insert_key nat_cmp (map (λ (b : Binding). b.txn) ys) n)) eo)
    after xs ns false true eo more ys is = ap (λ (ks : List ℕ). e.0 ∷ ks) (more ∙ sym is)
    after xs ns true false eo more ys is = more ∙ ap (λ (ks : List ℕ). insert_key nat_cmp ks n) (sym is)
    after xs ns false false eo more ys is = more ∙ sym is

    go : (o : Ordering) → nat_cmp n e.0 ≡ o → MatchOrdering o (n < e.0) (n ≡ e.0) (e.0 < n) → (n ≡ e.0 → ⊥) × (is_bound n (bindings_of es) ≡ false)
        → (is_bound n (bindings_of es) ≡ false → passing p (bindings_of (insert_entry nat_cmp es n h)) ≡ cond (p (binding_of (n, h))) (insert_key nat_cmp (passing p (bindings_of es)) n) (passing p (bindings_of es)))
        → passing p (bindings_of (match_ordering o ((n, h) ∷ e ∷ es) ((e.0, h) ∷ es) (e ∷ insert_entry nat_cmp es n h)))
        ≡ cond (p (binding_of (n, h))) (insert_key nat_cmp (passing p (binding_of e ∷ bindings_of es)) n) (passing p (binding_of e ∷ bindings_of es))
    go Less eo lt k more = first (p (binding_of (n, h)))
        ∙ ap (λ (ks : List ℕ). cond (p (binding_of (n, h))) ks (passing p (binding_of e ∷ bindings_of es))) (sym (passing_above p n (binding_of e ∷ bindings_of es) (lt, further n e.0 lt (bindings_of es) a.0)))
    go Equal eo same k more = absurd (k.0 same)
    go Greater eo gt k more = after (filter p (bindings_of (insert_entry nat_cmp es n h))) (passing p (bindings_of es)) (p (binding_of (n, h))) (p (binding_of e)) eo (more k.1) (filter p (bindings_of es)) refl

-- A binding less.
pub take_entry : (es : List (ℕ × Held)) (n : ℕ) → AreAscending (bindings_of es) → bindings_of (remove_entry (is_at (nat_cmp n)) es) ≡ cleaned n (bindings_of es)
take_entry [] n a = refl
take_entry (e ∷ es) n a = go (is_eq (nat_cmp n e.0)) refl (take_entry es n a.1)
  where
    go : (t : Bool) → is_eq (nat_cmp n e.0) ≡ t → bindings_of (remove_entry (is_at (nat_cmp n)) es) ≡ cleaned n (bindings_of es)
        → bindings_of (cond t es (e ∷ remove_entry (is_at (nat_cmp n)) es)) ≡ cond (not (nat_eq e.0 n)) (binding_of e ∷ cleaned n (bindings_of es)) (cleaned n (bindings_of es))
    go true et more =
        let same = same_number n e.0 et in
        sym (ap (λ (t : Bool). cond (not t) (binding_of e ∷ cleaned n (bindings_of es)) (cleaned n (bindings_of es))) (eq_itself n e.0 same)
        ∙ filter_all (λ c. not (nat_eq c.txn n)) (bindings_of es)
        (all_weaker (λ b. e.0 < b.txn) (λ c. not (nat_eq c.txn n) ≡ true) (λ c l. not_false (nat_eq c.txn n) (eq_above n c.txn (omega (arith, same, l)))) (bindings_of es) a.0))
    go false et more = ap (λ (bs : List Binding). binding_of e ∷ bs) more
        ∙ sym (ap (λ (t : Bool). cond (not t) (binding_of e ∷ cleaned n (bindings_of es)) (cleaned n (bindings_of es))) (other_number n e.0 et))

pub passing_taken : (p : Binding → Bool) (es : List (ℕ × Held)) (n : ℕ) (h : Held) → lookup (is_at (nat_cmp n)) es ≡ Some h
    → passing p (bindings_of (remove_entry (is_at (nat_cmp n)) es)) ≡ cond (p (binding_of (n, h))) (remove_key (is_at (nat_cmp n)) (passing p (bindings_of es))) (passing p (bindings_of es))
passing_taken p [] n h f = absurd (cc)
passing_taken p (e ∷ es) n h f = go (is_eq (nat_cmp n e.0)) refl f (passing_taken p es n h)
  where
    hit : (xs : List Binding) (s : Bool) → is_eq (nat_cmp n e.0) ≡ true
        → map (λ (b : Binding). b.txn) xs ≡ cond s (remove_key (is_at (nat_cmp n)) (map (λ (b : Binding). b.txn) (cond s (binding_of e ∷ xs) xs))) (map (λ (b : Binding). b.txn) (cond s (binding_of e ∷ xs) xs))
    hit xs true et = sym (ap (λ (t : Bool). cond t (map (λ (b : Binding). b.txn) xs) (e.0 ∷ remove_key (is_at (nat_cmp n)) (map (λ (b : Binding). b.txn) xs))) et)
    hit xs false et = refl

    miss : (xs ys : List Binding) (t s : Bool) → is_eq (nat_cmp n e.0) ≡ false
        → map (λ (b : Binding). b.txn) xs ≡ cond t (remove_key (is_at (nat_cmp n)) (map (λ (b : Binding). b.txn) ys)) (map (λ (b : Binding). b.txn) ys)
        → map (λ (b : Binding). b.txn) (cond s (binding_of e ∷ xs) xs) ≡ cond t (remove_key (is_at (nat_cmp n)) (map (λ (b : Binding). b.txn) (cond s (binding_of e ∷ ys) ys))) (map (λ (b : Binding). b.txn) (cond s (binding_of e ∷ ys) ys))
    miss xs ys true true et more = ap (λ (ks : List ℕ). e.0 ∷ ks) more
        ∙ sym (ap (λ (t : Bool). cond t (map (λ (b : Binding). b.txn) ys) (e.0 ∷ remove_key (is_at (nat_cmp n)) (map (λ (b : Binding). b.txn) ys))) et)
    miss xs ys false true et more = ap (λ (ks : List ℕ). e.0 ∷ ks) more
    miss xs ys true false et more = more
    miss xs ys false false et more = more

    go : (t : Bool) → is_eq (nat_cmp n e.0) ≡ t → cond t (Some e.1) (lookup (is_at (nat_cmp n)) es) ≡ Some h
        → (lookup (is_at (nat_cmp n)) es ≡ Some h → passing p (bindings_of (remove_entry (is_at (nat_cmp n)) es)) ≡ cond (p (binding_of (n, h))) (remove_key (is_at (nat_cmp n)) (passing p (bindings_of es))) (passing p (bindings_of es)))
        → passing p (bindings_of (cond t es (e ∷ remove_entry (is_at (nat_cmp n)) es)))
        ≡ cond (p (binding_of (n, h))) (remove_key (is_at (nat_cmp n)) (passing p (binding_of e ∷ bindings_of es))) (passing p (binding_of e ∷ bindings_of es))
    go true et k more =
        let held : e.1 ≡ h = cc in
        hit (filter p (bindings_of es)) (p (binding_of e)) et
        ∙ ap₂ (λ (m : ℕ) (g : Held). cond (p (binding_of (m, g))) (remove_key (is_at (nat_cmp n)) (passing p (binding_of e ∷ bindings_of es))) (passing p (binding_of e ∷ bindings_of es))) (sym (same_number n e.0 et)) held
    go false et k more = miss (filter p (bindings_of (remove_entry (is_at (nat_cmp n)) es))) (filter p (bindings_of es)) (p (binding_of (n, h))) (p (binding_of e)) et (more k)

-- A state that changes.
unfinished : (n : ℕ) (s : TxnState) (bs : List Binding) → AreAbove n bs → map (finished n s) bs ≡ bs
unfinished n s [] h = refl
unfinished n s (b ∷ bs) h = ap₂ (λ (t : Bool) (cs : List Binding). cond t (record b { state = s }) b ∷ cs) (eq_above n b.txn h.0) (unfinished n s bs h.1)

pub finish_entry : (es : List (ℕ × Held)) (n : ℕ) (h : Held) (s : TxnState) → AreAscending (bindings_of es) → lookup (is_at (nat_cmp n)) es ≡ Some h
    → bindings_of (set_value (is_at (nat_cmp n)) es (record h { state = s })) ≡ map (finished n s) (bindings_of es)
finish_entry [] n h s a f = absurd (cc)
finish_entry (e ∷ es) n h s a f = go (is_eq (nat_cmp n e.0)) refl f (finish_entry es n h s a.1)
  where
    go : (t : Bool) → is_eq (nat_cmp n e.0) ≡ t → cond t (Some e.1) (lookup (is_at (nat_cmp n)) es) ≡ Some h
        → (lookup (is_at (nat_cmp n)) es ≡ Some h → bindings_of (set_value (is_at (nat_cmp n)) es (record h { state = s })) ≡ map (finished n s) (bindings_of es))
        → bindings_of (cond t ((e.0, record h { state = s }) ∷ es) (e ∷ set_value (is_at (nat_cmp n)) es (record h { state = s }))) ≡ finished n s (binding_of e) ∷ map (finished n s) (bindings_of es)
    go true et k more =
        let held : h ≡ e.1 = cc in
        let same = same_number n e.0 et in
        let far : AreAbove n (bindings_of es) = all_weaker (λ b. e.0 < b.txn) (λ b. n < b.txn) (λ b l. omega (arith, same, l)) (bindings_of es) a.0 in
        ap (λ (g : Held). binding_of (e.0, record g { state = s }) ∷ bindings_of es) held
        ∙ sym (ap₂ (λ (t : Bool) (cs : List Binding). cond t (record (binding_of e) { state = s }) (binding_of e) ∷ cs) (eq_itself n e.0 same) (unfinished n s (bindings_of es) far))
    go false et k more = sym (ap₂ (λ (t : Bool) (cs : List Binding). cond t (record (binding_of e) { state = s }) (binding_of e) ∷ cs) (other_number n e.0 et) (sym (more k)))

pub not_found : (es : List (ℕ × Held)) (n : ℕ) → lookup (is_at (nat_cmp n)) es ≡ None → is_bound n (bindings_of es) ≡ false
not_found [] n f = refl
not_found (e ∷ es) n f = go (is_eq (nat_cmp n e.0)) refl f (not_found es n)
  where
    go : (t : Bool) → is_eq (nat_cmp n e.0) ≡ t → cond t (Some e.1) (lookup (is_at (nat_cmp n)) es) ≡ None → (lookup (is_at (nat_cmp n)) es ≡ None → is_bound n (bindings_of es) ≡ false) → (nat_eq e.0 n || is_bound n (bindings_of es)) ≡ false
    go true et k more = absurd (cc)
    go false et k more = ap (λ (t : Bool). t || is_bound n (bindings_of es)) (other_number n e.0 et) ∙ more k

-- The last binding that passes is found by its number.
found_above : (n k : ℕ) (es : List (ℕ × Held)) (v : Held) → AreAbove n (bindings_of es) → lookup (is_at (nat_cmp k)) es ≡ Some v → n < k
found_above n k [] v a f = absurd (cc)
found_above n k (e ∷ es) v a f = go (is_eq (nat_cmp k e.0)) refl f (found_above n k es v a.1)
  where
    go : (t : Bool) → is_eq (nat_cmp k e.0) ≡ t → cond t (Some e.1) (lookup (is_at (nat_cmp k)) es) ≡ Some v → (lookup (is_at (nat_cmp k)) es ≡ Some v → n < k) → n < k
    go true et h more = let same = same_number k e.0 et in let l = a.0 in omega (arith, same, l)
    go false et h more = more h

abbrev pub held_of : Binding → Held
held_of b = record { db = b.db; label = b.label; state = b.state }

found_from : (p : Binding → Bool) (es : List (ℕ × Held)) (o : Option Binding) (x : Binding) → AreAscending (bindings_of es) → last_or o (filter p (bindings_of es)) ≡ Some x
    → (o ≡ Some x) ⊎ (lookup (is_at (nat_cmp x.txn)) es ≡ Some (held_of x))
found_from p [] o x a h = inl h
found_from p (e ∷ es) o x a h = go (p (binding_of e)) h (λ o. found_from p es o x a.1)
  where
    further_on : lookup (is_at (nat_cmp x.txn)) es ≡ Some (held_of x) → lookup (is_at (nat_cmp x.txn)) (e ∷ es) ≡ Some (held_of x)
    further_on k = ap (λ (t : Bool). cond t (Some e.1) (lookup (is_at (nat_cmp x.txn)) es)) (at_other x.txn e.0 (found_above e.0 x.txn es (held_of x) a.0 k)) ∙ k

    here : Some (binding_of e) ≡ Some x → lookup (is_at (nat_cmp x.txn)) (e ∷ es) ≡ Some (held_of x)
    here k =
        let same : binding_of e ≡ x = cc in
        subst (λ (y : Binding). lookup (is_at (nat_cmp y.txn)) (e ∷ es) ≡ Some (held_of y)) same
        (ap (λ (t : Bool). cond t (Some e.1) (lookup (is_at (nat_cmp e.0)) es)) (at_itself e.0))

    go : (t : Bool) → last_or o (cond t (binding_of e ∷ filter p (bindings_of es)) (filter p (bindings_of es))) ≡ Some x
        → ((u : Option Binding) → last_or u (filter p (bindings_of es)) ≡ Some x → (u ≡ Some x) ⊎ (lookup (is_at (nat_cmp x.txn)) es ≡ Some (held_of x)))
        → (o ≡ Some x) ⊎ (lookup (is_at (nat_cmp x.txn)) (e ∷ es) ≡ Some (held_of x))
    go true k more = inr (⊎_elim here further_on (more (Some (binding_of e)) k))
    go false k more = ⊎_elim inl (λ f. inr (further_on f)) (more o k)

pub found_last : (p : Binding → Bool) (es : List (ℕ × Held)) (x : Binding) → AreAscending (bindings_of es) → last_or None (filter p (bindings_of es)) ≡ Some x → lookup (is_at (nat_cmp x.txn)) es ≡ Some (held_of x)
found_last p es x a h = ⊎_elim (λ (k : None ≡ Some x). absurd (cc)) (λ f. f) (found_from p es None x a h)
