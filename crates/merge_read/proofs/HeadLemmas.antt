-- Heads of lists: one is added, one is taken, and they change places.
use Rattle.std.proofs.Common.{◌≡◌, ℕ, zero, suc, ◌+◌, ◌<◌, ◌≤◌, ◌∙◌, Bool, true, false, ◌&&◌, cond, nat_eq, nat_lt, List, [], ◌∷◌, length, take, drop, get_or, refl, ap, ap₂, sym, subst, arith}
use Rattle.std.proofs.lemmas.Bool.Decides.{nat_tests}
use Rattle.std.proofs.lemmas.List.{get_or-set_other, length-set, drop_more, take_all}
use Rattle.std.proofs.lemmas.List.Sums.{sum_by-cons}
use Rattle.std.proofs.lemmas.List.Sorted.{length_permutation, sum_by-IsPermutation}
use Rattle.std.specs.List.{AllByRecursion, sum_by}
use Rattle.std.specs.List.Sorted.{IsPermutation}
use Rattle.dl_values.specs.declared.cell.Cell.{Cell}
use Rattle.schema_models.specs.CellTypes.{fits_column}
use Rattle.schema_models.specs.Folds.{key_in, key_of}
use Rattle.schema_models.specs.RowRules.{IsOfShape, fits_columns}
use Rattle.schema_models.specs.declared.column_def.ColumnDef.{ColumnDef}
use Rattle.schema_models.specs.declared.model.Model.{Model}
use Rattle.schema_models.specs.declared.model.Model.TheVariants as model
use Rattle.merge_read.specs.Keys.{key_width, width_in}
use Rattle.merge_read.specs.Lists.{IsSortedList}
use Rattle.schema_models.specs.ShapeView.{ShapeView, key_count}
use Rattle.merge_read.proofs.Each.{all_moved}
use Rattle.merge_read.specs.Rests.{AreHeads, AreRead, IsHead, RowList, heads_at, some_row, unread, without}
use Rattle.merge_read.specs.declared.head.Head.{Head}

summed : (i : ℕ) (items : List Head) → heads_at i items ≡ sum_by (λ (h : Head). cond (nat_eq h.list i) 1 0) items
summed i [] = refl
summed i (h ∷ hs) = ap (λ n. cond (nat_eq h.list i) 1 0 + n) (summed i hs) ∙ sym (sum_by-cons (λ (x : Head). cond (nat_eq x.list i) 1 0) h hs)

-- the same heads in another order
pub heads_moved : (s : ShapeView) (n : ℕ) (rests : List RowList) (before after : List Head) → IsPermutation before after → AreHeads s n rests before → AreHeads s n rests after
heads_moved s n rests before after p h = record {
  right = all_moved (IsHead s rests) before after p h.right;
  counted = λ i l. summed i after ∙ sum_by-IsPermutation (λ (x : Head). cond (nat_eq x.list i) 1 0) before after p ∙ sym (summed i before) ∙ h.counted i l;
}

-- what each list has heads of, but for one
abbrev pub due : ℕ → List RowList → ℕ → ℕ
due n rests i = cond (nat_lt i n) (some_row (get_or rests i [])) 0

abbrev here : ℕ → ℕ → ℕ
here i j = cond (nat_eq i j) 1 0

one_here : (i j : ℕ) → i ≡ j → here i j ≡ 1
one_here i j e = ap (λ (b : Bool). cond b 1 0) (same_test i j e)
  where
    same_test : (a b : ℕ) → a ≡ b → nat_eq a b ≡ true
    same_test a b h = grind (arith, nat_tests)

none_here : (i j : ℕ) → (i ≡ j → ⊥) → here i j ≡ 0
none_here i j n = ap (λ (b : Bool). cond b 1 0) (other_test i j n)
  where
    other_test : (a b : ℕ) → (a ≡ b → ⊥) → nat_eq a b ≡ false
    other_test a b h = grind (arith, nat_tests)

-- heads of which none is of a list
none_of : (i : ℕ) (items : List Head) → heads_at i items ≡ 0 → AllByRecursion (λ (x : Head). x.list ≡ i → ⊥) items
none_of i [] e = tt
none_of i (x ∷ xs) e = (λ h. no (here x.list i) (heads_at i xs) (one_here x.list i h) e, none_of i xs (rest (here x.list i) (heads_at i xs) e))
  where
    no : (a b : ℕ) → a ≡ 1 → a + b ≡ 0 → ⊥
    no a b p q = omega arith

    rest : (a b : ℕ) → a + b ≡ 0 → b ≡ 0
    rest a b q = omega arith

-- one head more, of a list that had none
pub heads_more : (s : ShapeView) (n : ℕ) (rests : List RowList) (items : List Head) (h : Head) → IsHead s rests h
    → AllByRecursion (IsHead s rests) items
    → ((i : ℕ) → i < length rests → (i ≡ h.list → ⊥) → heads_at i items ≡ due n rests i) → heads_at h.list items ≡ 0 → due n rests h.list ≡ 1
    → AreHeads s n rests (h ∷ items)
heads_more s n rests items h head right others none one = record {
  right = (head, right);
  counted = λ i l. go i l (nat_eq h.list i) refl;
}
  where
    is_here : (a b : ℕ) → nat_eq a b ≡ true → a ≡ b
    is_here a b e = grind (arith, nat_tests)

    is_other : (a b : ℕ) → nat_eq a b ≡ false → b ≡ a → ⊥
    is_other a b e f = grind (arith, nat_tests)

    sums : (a b c : ℕ) → a ≡ 1 → b ≡ 0 → c ≡ 1 → a + b ≡ c
    sums a b c p q r = omega arith

    keeps : (a b c : ℕ) → a ≡ 0 → b ≡ c → a + b ≡ c
    keeps a b c p q = omega arith

    go : (i : ℕ) → i < length rests → (b : Bool) → nat_eq h.list i ≡ b → here h.list i + heads_at i items ≡ due n rests i
    go i l true e =
        let same : h.list ≡ i = is_here h.list i e in
        sums (here h.list i) (heads_at i items) (due n rests i) (one_here h.list i same) (subst (λ k. heads_at k items ≡ 0) same none) (subst (λ k. due n rests k ≡ 1) same one)
    go i l false e = keeps (here h.list i) (heads_at i items) (due n rests i) (ap (λ (b : Bool). cond b 1 0) e) (others i l (is_other h.list i e))

-- one head taken: the others are heads of what is left
pub record Taken (s : ShapeView) (n : ℕ) (rests : List RowList) (h : Head) (items : List Head) : Type 0 where
  pub right : AllByRecursion (IsHead s (without h rests)) items
  pub others : (i : ℕ) → i < length (without h rests) → (i ≡ h.list → ⊥) → heads_at i items ≡ due n (without h rests) i
  pub none : heads_at h.list items ≡ 0

still_head : (s : ShapeView) (rests : List RowList) (h x : Head) → IsHead s rests x → (x.list ≡ h.list → ⊥) → IsHead s (without h rests) x
still_head s rests h x a n =
    let same : get_or (without h rests) x.list [] ≡ get_or rests x.list [] = get_or-set_other rests h.list x.list (drop 1 (get_or rests h.list [])) [] n in
    record {
      within = subst (λ k. x.list < k) (sym (length-set rests h.list (drop 1 (get_or rests h.list [])))) a.within;
      key = a.key;
      is = same ∙ a.is ∙ ap (λ (l : RowList). x.row ∷ drop 1 l) (sym same);
    }

still_heads : (s : ShapeView) (rests : List RowList) (h : Head) (items : List Head) → AllByRecursion (IsHead s rests) items → AllByRecursion (λ (x : Head). x.list ≡ h.list → ⊥) items → AllByRecursion (IsHead s (without h rests)) items
still_heads s rests h [] a n = tt
still_heads s rests h (x ∷ xs) a n = (still_head s rests h x a.0 n.0, still_heads s rests h xs a.1 n.1)

pub taken : (s : ShapeView) (n : ℕ) (rests : List RowList) (h : Head) (items : List Head) → h.list < n → AreHeads s n rests (h ∷ items) → Taken s n rests h items
taken s n rests h items early a =
    let head : IsHead s rests h = a.right.0 in
    let sum : here h.list h.list + heads_at h.list items ≡ due n rests h.list = a.counted h.list head.within in
    let none : heads_at h.list items ≡ 0 = no_more (here h.list h.list) (heads_at h.list items) (due n rests h.list) (one_here h.list h.list refl) sum (one_due n rests h early head.is) in
    record {
      right = still_heads s rests h items a.right.1 (none_of h.list items none);
      others = λ i l o. others i (subst (λ k. i < k) (length-set rests h.list (drop 1 (get_or rests h.list []))) l) o;
      none = none;
    }
  where
    no_more : (a b c : ℕ) → a ≡ 1 → a + b ≡ c → c ≡ 1 → b ≡ 0
    no_more a b c p q r = omega arith

    is_early : (i m : ℕ) → i < m → nat_lt i m ≡ true
    is_early i m l = grind (arith, nat_tests)

    one_due : (m : ℕ) (rs : List RowList) (x : Head) → x.list < m → get_or rs x.list [] ≡ x.row ∷ drop 1 (get_or rs x.list []) → due m rs x.list ≡ 1
    one_due m rs x l e = ap (λ (b : Bool). cond b (some_row (get_or rs x.list [])) 0) (is_early x.list m l) ∙ ap (λ (r : RowList). some_row r) e

    no_add : (a b c : ℕ) → a ≡ 0 → a + b ≡ c → b ≡ c
    no_add a b c p q = omega arith

    others : (i : ℕ) → i < length rests → (i ≡ h.list → ⊥) → heads_at i items ≡ due n (without h rests) i
    others i l o =
        no_add (here h.list i) (heads_at i items) (due n rests i) (none_here h.list i (λ e. o (sym e))) (a.counted i l)
        ∙ ap (λ (r : RowList). cond (nat_lt i n) (some_row r) 0) (sym (get_or-set_other rests h.list i (drop 1 (get_or rests h.list [])) [] o))

-- ---- a list more is begun

fits_length : (cs : List ColumnDef) (row : List Cell) → fits_columns cs row ≡ true → length cs ≡ length row
fits_length [] [] e = refl
fits_length [] (x ∷ xs) e = cc
fits_length (c ∷ cs) [] e = cc
fits_length (c ∷ cs) (x ∷ xs) e = ap suc (fits_length cs xs (both (fits_column c x) (fits_columns cs xs) e))
  where
    both : (a b : Bool) → (a && b) ≡ true → b ≡ true
    both true b f = f
    both false b f = cc

pub row_length : (s : ShapeView) (row : List Cell) → IsOfShape s row → length row ≡ length s.columns
row_length s row e = sym (fits_length s.columns row e)

-- the key of a row of the shape is its first cells
pub key_is : (s : ShapeView) (row : List Cell) → IsOfShape s row → key_of s row ≡ take (key_width s) row
key_is s row e = go s.model (key_count s.columns) (length s.columns) (fits_length s.columns row e)
  where
    go : (m : Model) (n w : ℕ) → w ≡ length row → key_in m n row ≡ take (width_in m n w) row
    go model.Duplicate n w f = sym (take_all w row (omega (arith, f)))
    go model.Unique n w f = refl
    go model.Aggregate n w f = refl

-- a new head of a list of rows of the shape
pub head_of : (s : ShapeView) (rests : List RowList) (width i : ℕ) (x : List Cell) (xs : RowList) (h : Head) → width ≡ key_width s → i < length rests → get_or rests i [] ≡ x ∷ xs → IsOfShape s x → h.row ≡ x → h.width ≡ width → h.list ≡ i → IsHead s rests h
head_of s rests width i x xs h w l e o r hw hl = record {
  within = subst (λ k. k < length rests) (sym hl) l;
  key = ap (λ (y : List Cell). key_of s y) r ∙ key_is s x o ∙ ap₂ (λ n (y : List Cell). take n y) (sym (hw ∙ w)) (sym r);
  is = ap (λ k. get_or rests k []) hl ∙ e ∙ ap₂ (λ (y : List Cell) (ys : RowList). y ∷ ys) (sym r) (sym (ap (λ k. drop 1 (get_or rests k [])) hl ∙ ap (λ (y : RowList). drop 1 y) e));
}

due_same : (n : ℕ) (rests : List RowList) (j : ℕ) → (j ≡ n → ⊥) → due n rests j ≡ due (n + 1) rests j
due_same n rests j o = ap (λ (b : Bool). cond b (some_row (get_or rests j [])) 0) (tests j n o)
  where
    tests : (a b : ℕ) → (a ≡ b → ⊥) → nat_lt a b ≡ nat_lt a (b + 1)
    tests a b h = grind (arith, nat_tests)

due_not : (n : ℕ) (rests : List RowList) → due n rests n ≡ 0
due_not n rests = ap (λ (b : Bool). cond b (some_row (get_or rests n [])) 0) (tests n)
  where
    tests : (a : ℕ) → nat_lt a a ≡ false
    tests a = grind (arith, nat_tests)

due_now : (n : ℕ) (rests : List RowList) → due (n + 1) rests n ≡ some_row (get_or rests n [])
due_now n rests = ap (λ (b : Bool). cond b (some_row (get_or rests n [])) 0) (tests n)
  where
    tests : (a : ℕ) → nat_lt a (a + 1) ≡ true
    tests a = grind (arith, nat_tests)

pub heads_begun : (s : ShapeView) (rests : List RowList) (width i : ℕ) (before after : List Head) → width ≡ key_width s → i < length rests → IsSortedList s (get_or rests i []) → AreRead width i (get_or rests i []) before after → AreHeads s i rests before → AreHeads s (i + 1) rests after
heads_begun s rests width i before after w l sorted read a = go (get_or rests i []) refl sorted read
  where
    go : (r : RowList) → get_or rests i [] ≡ r → IsSortedList s r → AreRead width i r before after → AreHeads s (i + 1) rests after
    go [] e o p = heads_moved s (i + 1) rests before after p (record {
      right = a.right;
      counted = λ j k. a.counted j k ∙ either j (nat_eq j i) refl;
    })
      where
        is_here : (m n : ℕ) → nat_eq m n ≡ true → m ≡ n
        is_here m n t = grind (arith, nat_tests)

        is_other : (m n : ℕ) → nat_eq m n ≡ false → m ≡ n → ⊥
        is_other m n t f = grind (arith, nat_tests)

        either : (j : ℕ) (b : Bool) → nat_eq j i ≡ b → due i rests j ≡ due (i + 1) rests j
        either j true t = let same : j ≡ i = is_here j i t in
            ap (λ k. due i rests k) same ∙ due_not i rests ∙ sym (ap (λ (q : RowList). some_row q) e) ∙ sym (due_now i rests) ∙ sym (ap (λ k. due (i + 1) rests k) same)
        either j false t = due_same i rests j (is_other j i t)
    go (x ∷ xs) e o p =
        let h : Head = p.head in
        let here : h.list ≡ i = p.list_is in
        let head : IsHead s rests h = head_of s rests width i x xs h w l e o.rows.0 p.row_is p.width_is p.list_is in
        heads_moved s (i + 1) rests (h ∷ before) after p.moved
        (heads_more s (i + 1) rests before h head a.right
        (λ j k n. a.counted j k ∙ due_same i rests j (λ t. n (t ∙ sym here)))
        (subst (λ k. heads_at k before ≡ 0) (sym here) (a.counted i l ∙ due_not i rests))
        (subst (λ k. due (i + 1) rests k ≡ 1) (sym here) (due_now i rests ∙ ap (λ (q : RowList). some_row q) e)))

-- what becomes of a list that was read
pub read_length : (width i : ℕ) (rows : RowList) (before after : List Head) → AreRead width i rows before after → length after ≤ length before + 1
read_length width i [] before after p = let n : length after ≡ length before = length_permutation before after p in omega arith
read_length width i (x ∷ xs) before after p = let n : length after ≡ length (p.head ∷ before) = length_permutation (p.head ∷ before) after p.moved in omega arith

pub unread_begun : (i : ℕ) (rests : List RowList) → i < length rests → unread (i + 1) rests + some_row (get_or rests i []) ≡ unread i rests
unread_begun i [] l = absurd (omega arith)
unread_begun zero (r ∷ rs) l = first r (unread zero rs)
  where
    first : (q : RowList) (n : ℕ) → length (drop 1 q) + n + some_row q ≡ length q + n
    first [] n = omega arith
    first (x ∷ xs) n = omega arith
unread_begun (suc i) (r ∷ rs) l =
    ap (λ k. unread k (r ∷ rs) + some_row (get_or rs i [])) (sucs i) ∙ shift (length (drop 1 r)) (unread (i + 1) rs) (some_row (get_or rs i [])) (unread i rs) (unread_begun i rs (omega arith))
  where
    sucs : (n : ℕ) → suc n + 1 ≡ suc (n + 1)
    sucs n = omega arith

    shift : (a b c d : ℕ) → b + c ≡ d → a + b + c ≡ a + d
    shift a b c d h = omega arith

pub read_one : (width i : ℕ) (rows : RowList) (row : List Cell) (before after : List Head) (h : Head) → (length rows ≡ 0 → ⊥) → row ≡ get_or rows 0 [] → h.row ≡ row → h.width ≡ width → h.list ≡ i → IsPermutation (h ∷ before) after → AreRead width i rows before after
read_one width i [] row before after h n e r w l p = absurd (n refl)
read_one width i (x ∷ xs) row before after h n e r w l p = record { head = h; row_is = r ∙ e; width_is = w; list_is = l; moved = p }

pub read_at : (width i place : ℕ) (rows : RowList) (row : List Cell) (before after : List Head) (h : Head) → place < length rows → row ≡ get_or rows place [] → h.row ≡ row → h.width ≡ width → h.list ≡ i → IsPermutation (h ∷ before) after → AreRead width i (drop place rows) before after
read_at width i place rows row before after h n e r w l p =
    subst (λ (q : RowList). AreRead width i q before after) (sym (drop_more rows place [] n)) (record { head = h; row_is = r ∙ e; width_is = w; list_is = l; moved = p })
