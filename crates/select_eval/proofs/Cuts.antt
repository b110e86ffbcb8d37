-- Rows that stand side by side in a list, and rows whose places stay.
use Rattle.std.proofs.Common.{◌≡◌, ◌+◌, ◌-◌, ◌<◌, ◌≤◌, ℕ, zero, suc, Bool, true, false, cond, List, [], ◌∷◌, ◌++◌, length, map, take, drop, get_or, refl, sym, ap, ap₂, ◌∙◌, subst, arith, append_assoc, append-nil}
use Rattle.std.specs.List.{AllByRecursion}
use Rattle.std.specs.Ordering.{is_gt}
use Rattle.std.specs.declared.cmp.Ordering.{Ordering}
use Rattle.std.proofs.Math.ListN.{drop_of_length-le}
use Rattle.std.proofs.Math.Seq.{take-add}
use Rattle.std.proofs.lemmas.List.{drop-drop, length-drop, length-take-le, map-append, take-append-drop, take_more}
use Rattle.std.proofs.lemmas.Grind.{flat_map-append}
use Rattle.dl_values.specs.Order.{row_cmp}
use Rattle.dl_values.specs.declared.cell.Cell.{Cell}
use Rattle.fold_laws.specs.Fold.{Ascends}
use Rattle.fold_laws.proofs.Unique.{all_append}
use Rattle.merge_read.specs.Lists.{AreSortedLists, IsSortedList, joined}
use Rattle.schema_models.specs.Folds.{key_of}
use Rattle.schema_models.specs.RowRules.{IsOfShape}
use Rattle.schema_models.specs.ShapeView.{ShapeView}
use Rattle.select_eval.specs.Looks.{InBlocks, kept_from}
use Rattle.select_eval.specs.Pieces.{cut}

-- ---- parts of lists

pub cut_more : (start place end : ℕ) (rows : List (List Cell)) → start ≤ place → place ≤ end → cut start place rows ++ cut place end rows ≡ cut start end rows
cut_more start place end rows a b =
    let rest = drop start rows in
    let there : start + (place - start) ≡ place = omega arith in
    let whole : (place - start) + (end - place) ≡ end - start = omega arith in
    ap (λ l. take (place - start) rest ++ take (end - place) l) (sym (drop-drop (place - start) start rows ∙ ap (λ k. drop k rows) there))
    ∙ sym (take-add (place - start) (end - place) rest)
    ∙ ap (λ k. take k rest) whole

pub cut_rest : (place end : ℕ) (rows : List (List Cell)) → place ≤ end → cut place end rows ++ drop end rows ≡ drop place rows
cut_rest place end rows a =
    let there : place + (end - place) ≡ end = omega arith in
    ap (λ l. cut place end rows ++ l) (sym (drop-drop (end - place) place rows ∙ ap (λ k. drop k rows) there))
    ∙ take-append-drop (end - place) (drop place rows)

pub cut_none : (start end : ℕ) (rows : List (List Cell)) → end ≤ start → cut start end rows ≡ []
cut_none start end rows a = ap (λ k. take k (drop start rows)) none
  where
    none : end - start ≡ 0
    none = omega arith

pub cut_length : (start end : ℕ) (rows : List (List Cell)) → start ≤ end → end ≤ length rows → length (cut start end rows) ≡ end - start
cut_length start end rows a b =
    let long : end - start ≤ length (drop start rows) = rw (length-drop start rows) (omega arith) in
    length-take-le (end - start) (drop start rows) long

-- ---- rows whose places stay

module _ (stay : ℕ → Bool) where
  kept_append : (i : ℕ) (xs ys : List (List Cell)) → kept_from stay i (xs ++ ys) ≡ kept_from stay i xs ++ kept_from stay (i + length xs) ys
  kept_append i [] ys = ap (λ k. kept_from stay k ys) here
    where
      here : i ≡ i + 0
      here = omega arith
  kept_append i (x ∷ xs) ys = go (stay i) (kept_append (i + 1) xs ys ∙ ap (λ k. kept_from stay (i + 1) xs ++ kept_from stay k ys) there)
    where
      there : (i + 1) + length xs ≡ i + length (x ∷ xs)
      there = omega arith

      go : (b : Bool) → kept_from stay (i + 1) (xs ++ ys) ≡ kept_from stay (i + 1) xs ++ kept_from stay (i + length (x ∷ xs)) ys
          → cond b (x ∷ kept_from stay (i + 1) (xs ++ ys)) (kept_from stay (i + 1) (xs ++ ys)) ≡ cond b (x ∷ kept_from stay (i + 1) xs) (kept_from stay (i + 1) xs) ++ kept_from stay (i + length (x ∷ xs)) ys
      go true h = ap (λ l. x ∷ l) h
      go false h = h

  pub all_stay : (i : ℕ) (xs : List (List Cell)) → ((j : ℕ) → i ≤ j → j < i + length xs → stay j ≡ true) → kept_from stay i xs ≡ xs
  all_stay i [] h = refl
  all_stay i (x ∷ xs) h = rw (h i (omega arith) (omega arith)) (ap (λ l. x ∷ l) (all_stay (i + 1) xs (λ j a b. h j (omega arith) (omega arith))))

  pub none_stays : (i : ℕ) (xs : List (List Cell)) → ((j : ℕ) → i ≤ j → j < i + length xs → stay j ≡ false) → kept_from stay i xs ≡ []
  none_stays i [] h = refl
  none_stays i (x ∷ xs) h = rw (h i (omega arith) (omega arith)) (none_stays (i + 1) xs (λ j a b. h j (omega arith) (omega arith)))

  -- the rows from a place on are those of a block and the rest
  pub kept_rest : (place end : ℕ) (rows : List (List Cell)) → place ≤ end → end ≤ length rows → kept_from stay place (drop place rows) ≡ kept_from stay place (cut place end rows) ++ kept_from stay end (drop end rows)
  kept_rest place end rows a b =
      let size : place + length (cut place end rows) ≡ end = rw (cut_length place end rows a b) (omega arith) in
      ap (λ l. kept_from stay place l) (sym (cut_rest place end rows a)) ∙ kept_append place (cut place end rows) (drop end rows) ∙ ap (λ k. kept_from stay place (cut place end rows) ++ kept_from stay k (drop end rows)) size

  -- rows that stay follow those that were kept
  pub block_stays : (front rows : List (List Cell)) (start place end : ℕ) → start ≤ place → place < end → end ≤ length rows → ((j : ℕ) → place ≤ j → j < end → stay j ≡ true)
      → front ++ cut start end rows ≡ (front ++ cut start place rows) ++ kept_from stay place (cut place end rows)
  block_stays front rows start place end a b c h =
      let size : length (cut place end rows) ≡ end - place = cut_length place end rows (omega arith) c in
      let whole : kept_from stay place (cut place end rows) ≡ cut place end rows = all_stay place (cut place end rows) (λ j d e. h j d (omega (arith, size, e))) in
      ap (λ l. front ++ l) (sym (cut_more start place end rows a (omega arith))) ∙ sym (append_assoc front (cut start place rows) (cut place end rows)) ∙ ap (λ l. (front ++ cut start place rows) ++ l) (sym whole)

  -- or none stays, and a piece is full
  pub block_goes : (front new rows : List (List Cell)) (start place end : ℕ) → place < end → end ≤ length rows → ((j : ℕ) → place ≤ j → j < end → stay j ≡ false) → new ≡ front ++ cut start place rows
      → new ++ cut end end rows ≡ (front ++ cut start place rows) ++ kept_from stay place (cut place end rows)
  block_goes front new rows start place end b c h e =
      let size : length (cut place end rows) ≡ end - place = cut_length place end rows (omega arith) c in
      let none : kept_from stay place (cut place end rows) ≡ [] = none_stays place (cut place end rows) (λ j d f. h j d (omega (arith, size, f))) in
      ap₂ (λ (a b : List (List Cell)). a ++ b) e (cut_none end end rows (omega arith)) ∙ ap (λ l. (front ++ cut start place rows) ++ l) (sym none)

  -- a block more was passed
  pub passed : (front new old rows : List (List Cell)) (start next place end : ℕ) → place ≤ end → end ≤ length rows
      → new ++ cut next end rows ≡ (front ++ cut start place rows) ++ kept_from stay place (cut place end rows)
      → (front ++ cut start place rows) ++ kept_from stay place (drop place rows) ≡ old ++ kept_from stay 0 rows
      → (new ++ cut next end rows) ++ kept_from stay end (drop end rows) ≡ old ++ kept_from stay 0 rows
  passed front new old rows start next place end a b e h =
      ap (λ l. l ++ kept_from stay end (drop end rows)) e
      ∙ append_assoc (front ++ cut start place rows) (kept_from stay place (cut place end rows)) (kept_from stay end (drop end rows))
      ∙ ap (λ l. (front ++ cut start place rows) ++ l) (sym (kept_rest place end rows a b)) ∙ h

  -- all blocks were passed
  pub all_passed : (front new old rows : List (List Cell)) (start place : ℕ) → length rows ≤ place → new ≡ front ++ cut start place rows
      → (front ++ cut start place rows) ++ kept_from stay place (drop place rows) ≡ old ++ kept_from stay 0 rows
      → new ≡ old ++ kept_from stay 0 rows
  all_passed front new old rows start place a e h =
      e ∙ sym (append-nil (front ++ cut start place rows)) ∙ ap (λ l. (front ++ cut start place rows) ++ kept_from stay place l) (sym (drop_of_length-le rows a)) ∙ h

  pub none_passed : (old rows : List (List Cell)) → (old ++ cut 0 0 rows) ++ kept_from stay 0 (drop 0 rows) ≡ old ++ kept_from stay 0 rows
  none_passed old rows = ap (λ l. l ++ kept_from stay 0 rows) (append-nil old)

-- ---- parts of sorted lists are sorted

module _ {X : Type 0} (P : X → Type 0) where
  all_drop : (n : ℕ) (xs : List X) → AllByRecursion P xs → AllByRecursion P (drop n xs)
  all_drop zero xs a = a
  all_drop (suc n) [] a = tt
  all_drop (suc n) (x ∷ xs) a = all_drop n xs a.1

  all_take : (n : ℕ) (xs : List X) → AllByRecursion P xs → AllByRecursion P (take n xs)
  all_take zero xs a = tt
  all_take (suc n) [] a = tt
  all_take (suc n) (x ∷ xs) a = (a.0, all_take n xs a.1)

module _ {R K : Type 0} (cmp : K → K → Ordering) (key : R → K) where
  ascends_drop : (n : ℕ) (xs : List R) → Ascends cmp key xs → Ascends cmp key (drop n xs)
  ascends_drop zero xs a = a
  ascends_drop (suc n) [] a = tt
  ascends_drop (suc n) (x ∷ xs) a = ascends_drop n xs a.1

  ascends_take : (n : ℕ) (xs : List R) → Ascends cmp key xs → Ascends cmp key (take n xs)
  ascends_take zero xs a = tt
  ascends_take (suc n) [] a = tt
  ascends_take (suc n) (x ∷ xs) a = (all_take (λ r. is_gt (cmp (key x) (key r)) ≡ false) n xs a.0, ascends_take n xs a.1)

pub cut_sorted : (s : ShapeView) (start end : ℕ) (rows : List (List Cell)) → IsSortedList s rows → IsSortedList s (cut start end rows)
cut_sorted s start end rows h = record {
  rows = all_take (IsOfShape s) (end - start) (drop start rows) (all_drop (IsOfShape s) start rows h.rows);
  rising = ascends_take row_cmp (key_of s) (end - start) (drop start rows) (ascends_drop row_cmp (key_of s) start rows h.rising);
}

-- ---- pieces of lists

pub one_sorted : {A : Type 0} (f : A → List (List Cell)) (s : ShapeView) (old new : List A) (x : A) (start end : ℕ) (rows : List (List Cell)) → new ≡ old ++ x ∷ [] → f x ≡ cut start end rows → IsSortedList s rows → AreSortedLists s (map f old) → AreSortedLists s (map f new)
one_sorted f s old new x start end rows e g h olds =
    subst (AreSortedLists s) (sym (ap (map f) e ∙ map-append f old (x ∷ [])))
    (all_append (IsSortedList s) (map f old) (f x ∷ []) olds (subst (IsSortedList s) (sym g) (cut_sorted s start end rows h), tt))

pub same_at : {A B : Type 0} (f g : A → B) (n : ℕ) (xs : List A) (x : A) → map f xs ≡ map g xs → n < length xs → x ≡ get_or xs n x → f x ≡ g x
same_at f g n [] x e l h = absurd (omega arith)
same_at f g zero (y ∷ ys) x e l h = let first : f y ≡ g y = cc in ap f h ∙ first ∙ sym (ap g h)
same_at f g (suc n) (y ∷ ys) x e l h = let rest : map f ys ≡ map g ys = cc in same_at f g n ys x rest (omega arith) h

pub sorted_at : {A : Type 0} (f : A → List (List Cell)) (s : ShapeView) (n : ℕ) (xs : List A) (x : A) → AreSortedLists s (map f xs) → n < length xs → x ≡ get_or xs n x → IsSortedList s (f x)
sorted_at f s n [] x a l h = absurd (omega arith)
sorted_at f s zero (y ∷ ys) x a l h = subst (λ z. IsSortedList s (f z)) (sym h) a.0
sorted_at f s (suc n) (y ∷ ys) x a l h = sorted_at f s n ys x a.1 (omega arith) h

pub kept_more : {A : Type 0} (f : A → InBlocks) (k : InBlocks → List (List Cell)) (lists : List A) (i : ℕ) (x : A) (old new : List (List Cell)) → i < length lists → x ≡ get_or lists i x
    → old ≡ joined (map k (map f (take i lists))) → new ≡ old ++ k (f x) → new ≡ joined (map k (map f (take (i + 1) lists)))
kept_more f k lists i x old new l h e g =
    let before = take i lists in
    g ∙ ap (λ z. z ++ k (f x)) e
    ∙ sym (ap (λ z. joined (map k (map f z))) (take_more lists i x l ∙ ap (λ y. before ++ y ∷ []) (sym h))
    ∙ ap (λ z. joined (map k z)) (map-append f before (x ∷ [])) ∙ ap joined (map-append k (map f before) (f x ∷ []))
    ∙ flat_map-append (λ z. z) (map k (map f before)) (k (f x) ∷ []) ∙ ap (λ z. joined (map k (map f before)) ++ z) (append-nil (k (f x))))
