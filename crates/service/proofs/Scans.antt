-- The first fault of the columns that words name is the first word at fault.
use Rattle.std.proofs.Common.{◌≡◌, ℕ, zero, suc, ◌+◌, ◌-◌, ◌<◌, ◌≤◌, ◌∙◌, ◌==◌, ◌||◌, ◌&&◌, List, [], ◌∷◌, ◌++◌, Bool, true, false, cond, not, length, take, Option, Some, None, refl, ap, sym, arith, subst, length-append, append_assoc}
use Rattle.std.specs.Prelude.{is_some}
use Rattle.std.proofs.lemmas.Bool.{eq-eqb, ne_eqb, lt-ltb, ltb-true}
use Rattle.std.proofs.lemmas.Bool.Decides.{nat_tests}
use Rattle.schema_models.specs.Faults.{first_of, refuse_if}
use Rattle.schema_models.specs.ShapeRules.{column_faults, faults_after}
use Rattle.schema_models.specs.declared.column_def.ColumnDef.{ColumnDef}
use Rattle.schema_models.specs.declared.model.Model.{Model}
use Rattle.schema_models.specs.declared.shape_error.ShapeError.{ShapeError}
use Rattle.schema_models.specs.declared.shape_error.ShapeError.TheVariants as fault
use Rattle.service.specs.Columns.{bad_from, bad_word, column_of, columns_of, is_refused, onto_columns, place_of}

-- the first of two lists of faults
abbrev first_or : Option ShapeError → Option ShapeError → Option ShapeError
first_or None later = later
first_or (Some e) later = Some e

first_of-append : (xs ys : List (Option ShapeError)) → first_of (xs ++ ys) ≡ first_or (first_of xs) (first_of ys)
first_of-append [] ys = refl
first_of-append (Some e ∷ xs) ys = refl
first_of-append (None ∷ xs) ys = first_of-append xs ys

-- each fault of a column names its place
record Names (n : ℕ) (xs : List (Option ShapeError)) : Type 0 where
  pub place : (e : ShapeError) → first_of xs ≡ Some e → place_of e ≡ n

some_same : (d e : ShapeError) → Some d ≡ Some e → d ≡ e
some_same d e h = cc

names_none : (n : ℕ) → Names n []
names_none n = record { place = λ e h. cc }

names_more : (n : ℕ) (b : Bool) (e : ShapeError) (xs : List (Option ShapeError)) → place_of e ≡ n → Names n xs → Names n (refuse_if b e ∷ xs)
names_more n true e xs p rest = record { place = λ d h. ap place_of (some_same d e (sym h)) ∙ p }
names_more n false e xs p rest = record { place = rest.place }

module _ (kind : Model) where
  column_names : (before : List ColumnDef) (c : ColumnDef) → Names (length before) (column_faults kind before c)
  column_names before c =
      let n : ℕ = length before in
      names_more n _ (fault.BadName n) _ refl (names_more n _ (fault.DoubleName n) _ refl (names_more n _ (fault.BadType n) _ refl (names_more n _ (fault.NoKey n) _ refl
      (names_more n _ (fault.KeyAfterValue n) _ refl (names_more n _ (fault.BadAgg n) _ refl (names_more n _ (fault.BadDefault n) _ refl (names_none n)))))))

  -- what reading at most k words finds, the first of which has the number n
  pub record IsScan (n : ℕ) (before : List ColumnDef) (words : List (List ℕ)) (k : ℕ) : Type 0 where
    pub refused : (e : ShapeError) → first_of (faults_after kind before (columns_of (take k words))) ≡ Some e → (d : ℕ) × (place_of e ≡ length before + d) × (d ≤ k) × (bad_word kind n before words ≡ Some (n + d))
    pub short : first_of (faults_after kind before (columns_of (take k words))) ≡ None → length (columns_of (take k words)) < length words → bad_word kind n before words ≡ Some (n + length (columns_of (take k words)))
    pub whole : first_of (faults_after kind before (columns_of (take k words))) ≡ None → length words ≤ length (columns_of (take k words)) → bad_word kind n before words ≡ None

  columns_none : columns_of [] ≡ []
  unfolding columns_of
  columns_none = refl

  columns_more : (word : List ℕ) (words : List (List ℕ)) → columns_of (word ∷ words) ≡ onto_columns (column_of word) (columns_of words)
  unfolding columns_of
  columns_more word words = refl

  bad_none : (n : ℕ) (before : List ColumnDef) → bad_word kind n before [] ≡ None
  unfolding bad_word
  bad_none n before = refl

  bad_more : (n : ℕ) (before : List ColumnDef) (word : List ℕ) (words : List (List ℕ)) → bad_word kind n before (word ∷ words) ≡ bad_from kind n before (column_of word) (λ c. bad_word kind (n + 1) (before ++ c ∷ []) words)
  unfolding bad_word
  bad_more n before word words = refl

  -- no word is left
  scan_none : (n : ℕ) (before : List ColumnDef) (k : ℕ) → IsScan n before [] k
  scan_none n before k = record {
    refused = λ e h. absurd (clash e (sym (ap (λ cs. first_of (faults_after kind before cs)) (nothing k)) ∙ h));
    short = λ h l. absurd (omega arith);
    whole = λ h l. bad_none n before;
  }
    where
      nothing : (k : ℕ) → columns_of (take k []) ≡ []
      nothing zero = columns_none
      nothing (suc k) = columns_none

      clash : (e : ShapeError) → None ≡ Some e → ⊥
      clash e h = cc

  -- 64 columns are read, and a word is left
  scan_full : (n : ℕ) (before : List ColumnDef) (word : List ℕ) (words : List (List ℕ)) → length before ≡ 64 → IsScan n before (word ∷ words) 0
  scan_full n before word words full = record {
    refused = λ e h. absurd (clash e (sym (ap (λ cs. first_of (faults_after kind before cs)) columns_none) ∙ h));
    short = λ h l. bad_more n before word words ∙ go (column_of word) ∙ ap Some (plus_none columns_none);
    whole = λ h l. absurd (none_left (ap length columns_none) l);
  }
    where
      clash : (e : ShapeError) → None ≡ Some e → ⊥
      clash e h = cc

      plus_none : {cs : List ColumnDef} → cs ≡ [] → n ≡ n + length cs
      plus_none e = omega (arith, ap length e)

      none_left : {m j : ℕ} → m ≡ 0 → suc j ≤ m → ⊥
      none_left e l = omega arith

      go : (c : Option ColumnDef) → bad_from kind n before c (λ c. bad_word kind (n + 1) (before ++ c ∷ []) words) ≡ Some n
      go None = refl
      go (Some c) = rw (eq-eqb (length before) 64 full) refl

  -- a word that is no column
  scan_stops : (n : ℕ) (before : List ColumnDef) (word : List ℕ) (words : List (List ℕ)) (k : ℕ) → column_of word ≡ None → IsScan n before (word ∷ words) (suc k)
  scan_stops n before word words k e = record {
    refused = λ d h. absurd (clash d (sym (ap (λ cs. first_of (faults_after kind before cs)) nothing) ∙ h));
    short = λ h l. bad_more n before word words ∙ ap (λ c. bad_from kind n before c (λ c. bad_word kind (n + 1) (before ++ c ∷ []) words)) e ∙ ap Some (plus_none nothing);
    whole = λ h l. absurd (none_left (ap length nothing) l);
  }
    where
      nothing : columns_of (word ∷ take k words) ≡ []
      nothing = columns_more word (take k words) ∙ ap (λ c. onto_columns c (columns_of (take k words))) e

      clash : (e : ShapeError) → None ≡ Some e → ⊥
      clash e h = cc

      plus_none : {cs : List ColumnDef} → cs ≡ [] → n ≡ n + length cs
      plus_none e = omega (arith, ap length e)

      none_left : {m j : ℕ} → m ≡ 0 → suc j ≤ m → ⊥
      none_left e l = omega arith

  -- a column, with what is read behind it
  seen : (word : List ℕ) (words : List (List ℕ)) (c : ColumnDef) → column_of word ≡ Some c → columns_of (word ∷ words) ≡ c ∷ columns_of words
  seen word words c e = columns_more word words ∙ ap (λ o. onto_columns o (columns_of words)) e

  first_seen : (before : List ColumnDef) (word : List ℕ) (words : List (List ℕ)) (c : ColumnDef) → column_of word ≡ Some c → first_of (faults_after kind before (columns_of (word ∷ words))) ≡ first_or (first_of (column_faults kind before c)) (first_of (faults_after kind (before ++ c ∷ []) (columns_of words)))
  first_seen before word words c e = ap (λ cs. first_of (faults_after kind before cs)) (seen word words c e) ∙ first_of-append (column_faults kind before c) (faults_after kind (before ++ c ∷ []) (columns_of words))

  bad_seen : (n : ℕ) (before : List ColumnDef) (word : List ℕ) (words : List (List ℕ)) (c : ColumnDef) → column_of word ≡ Some c → bad_word kind n before (word ∷ words) ≡ cond (is_refused kind before c) (Some n) (bad_word kind (n + 1) (before ++ c ∷ []) words)
  bad_seen n before word words c e = bad_more n before word words ∙ ap (λ o. bad_from kind n before o (λ c. bad_word kind (n + 1) (before ++ c ∷ []) words)) e

  or_true : (a : Bool) → (a || true) ≡ true
  or_true true = refl
  or_true false = refl

  refused_by : (before : List ColumnDef) (c : ColumnDef) (f : ShapeError) → first_of (column_faults kind before c) ≡ Some f → is_refused kind before c ≡ true
  refused_by before c f h = ap (λ o. (length before == 64) || is_some o) h ∙ or_true (length before == 64)

  taken : (before : List ColumnDef) (c : ColumnDef) → length before < 64 → first_of (column_faults kind before c) ≡ None → is_refused kind before c ≡ false
  taken before c small h = ap (λ o. (length before == 64) || is_some o) h ∙ ap (λ b. b || false) (ne_eqb (length before) 64 (not_full (length before) small))
    where
      not_full : (m : ℕ) → m < 64 → m ≡ 64 → ⊥
      not_full m l e = omega arith

  clash : (e : ShapeError) → Some e ≡ None → ⊥
  clash e h = cc

  scan_bad : (n : ℕ) (before : List ColumnDef) (word : List ℕ) (words : List (List ℕ)) (k : ℕ) (c : ColumnDef) (f : ShapeError) → column_of word ≡ Some c → first_of (column_faults kind before c) ≡ Some f → IsScan n before (word ∷ words) (suc k)
  scan_bad n before word words k c f e here = record {
    refused = λ d h. (0, ap place_of (some_same d f (sym h ∙ all)) ∙ (column_names before c).place f here ∙ plus_none (length before), omega arith, bad_seen n before word words c e ∙ ap (λ b. cond b (Some n) (bad_word kind (n + 1) (before ++ c ∷ []) words)) (refused_by before c f here) ∙ ap Some (plus_none n));
    short = λ h l. absurd (clash f (sym all ∙ h));
    whole = λ h l. absurd (clash f (sym all ∙ h));
  }
    where
      all : first_of (faults_after kind before (columns_of (word ∷ take k words))) ≡ Some f
      all = first_seen before word (take k words) c e ∙ ap (λ o. first_or o (first_of (faults_after kind (before ++ c ∷ []) (columns_of (take k words))))) here

      plus_none : (m : ℕ) → m ≡ m + 0
      plus_none m = omega arith

  scan_good : (n : ℕ) (before : List ColumnDef) (word : List ℕ) (words : List (List ℕ)) (k : ℕ) (c : ColumnDef) → column_of word ≡ Some c → first_of (column_faults kind before c) ≡ None → length before < 64 → IsScan (n + 1) (before ++ c ∷ []) words k → IsScan n before (word ∷ words) (suc k)
  scan_good n before word words k c e here small rest = record {
    refused = λ d h. let r : (m : ℕ) × (place_of d ≡ length (before ++ c ∷ []) + m) × (m ≤ k) × (bad_word kind (n + 1) (before ++ c ∷ []) words ≡ Some (n + 1 + m)) = rest.refused d (sym all ∙ h) in
        (r.0 + 1, shifted (length before) r.0 (r.1 ∙ ap (λ j. j + r.0) (simp length-append refl)), omega (arith, r.2), next ∙ r.3 ∙ ap Some (turned n r.0));
    short = λ h l. next ∙ rest.short (sym all ∙ h) (fewer (ap length read) l) ∙ ap Some (counted (ap length read));
    whole = λ h l. next ∙ rest.whole (sym all ∙ h) (no_fewer (ap length read) l);
  }
    where
      read : columns_of (word ∷ take k words) ≡ c ∷ columns_of (take k words)
      read = seen word (take k words) c e

      all : first_of (faults_after kind before (columns_of (word ∷ take k words))) ≡ first_of (faults_after kind (before ++ c ∷ []) (columns_of (take k words)))
      all = first_seen before word (take k words) c e ∙ ap (λ o. first_or o (first_of (faults_after kind (before ++ c ∷ []) (columns_of (take k words))))) here

      next : bad_word kind n before (word ∷ words) ≡ bad_word kind (n + 1) (before ++ c ∷ []) words
      next = bad_seen n before word words c e ∙ ap (λ b. cond b (Some n) (bad_word kind (n + 1) (before ++ c ∷ []) words)) (taken before c small here)

      shifted : {p : ℕ} (j m : ℕ) → p ≡ j + 1 + m → p ≡ j + (m + 1)
      shifted j m h = omega arith

      turned : (i m : ℕ) → i + 1 + m ≡ i + (m + 1)
      turned i m = omega arith

      fewer : {i j m : ℕ} → i ≡ suc j → i < suc m → j < m
      fewer a b = omega arith

      no_fewer : {i j m : ℕ} → i ≡ suc j → suc m ≤ i → m ≤ j
      no_fewer a b = omega arith

      counted : {i j : ℕ} → i ≡ suc j → n + 1 + j ≡ n + i
      counted a = omega arith

  scan_more : (n : ℕ) (before : List ColumnDef) (word : List ℕ) (words : List (List ℕ)) (k : ℕ) (c : ColumnDef) → column_of word ≡ Some c → length before < 64 → IsScan (n + 1) (before ++ c ∷ []) words k → IsScan n before (word ∷ words) (suc k)
  scan_more n before word words k c e small rest = go (first_of (column_faults kind before c)) refl
    where
      go : (o : Option ShapeError) → first_of (column_faults kind before c) ≡ o → IsScan n before (word ∷ words) (suc k)
      go (Some f) here = scan_bad n before word words k c f e here
      go None here = scan_good n before word words k c e here small rest

  pub scan : (words : List (List ℕ)) (k n : ℕ) (before : List ColumnDef) → length before + k ≡ 64 → IsScan n before words k
  scan [] k n before h = scan_none n before k
  scan (word ∷ words) zero n before h = scan_full n before word words (omega arith)
  scan (word ∷ words) (suc k) n before h = go (column_of word) refl (λ c. scan words k (n + 1) (before ++ c ∷ []) (simp length-append (omega arith)))
    where
      go : (o : Option ColumnDef) → column_of word ≡ o → ((c : ColumnDef) → IsScan (n + 1) (before ++ c ∷ []) words k) → IsScan n before (word ∷ words) (suc k)
      go None e rest = scan_stops n before word words k e
      go (Some c) e rest = scan_more n before word words k c e (omega arith) (rest c)
