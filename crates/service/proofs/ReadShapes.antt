-- What the fault of the first 64 columns says of the words.
use Rattle.std.proofs.Common.{◌≡◌, ℕ, zero, suc, ◌+◌, ◌<◌, ◌≤◌, ◌∙◌, ◌==◌, List, [], ◌∷◌, ◌++◌, Bool, true, false, length, take, map, Option, Some, None, refl, ap, ap₂, sym, arith, nat_lt}
use Rattle.std.specs.Prelude.{nat_le, min}
use Rattle.std.proofs.lemmas.Bool.{eqb-true, leb-true, leb-false}
use Rattle.std.proofs.lemmas.Bool.Decides.{nat_tests}
use Rattle.std.proofs.lemmas.List.{length-take, length-map, take-map, take_all}
use Rattle.schema_models.specs.Faults.{first_of, refuse_if}
use Rattle.schema_models.specs.ShapeRules.{faults_after, shape_fault}
use Rattle.schema_models.specs.ShapeView.{ShapeView}
use Rattle.schema_models.specs.declared.column_def.ColumnDef.{ColumnDef}
use Rattle.schema_models.specs.declared.model.Model.{Model}
use Rattle.schema_models.specs.declared.shape_error.ShapeError.{ShapeError}
use Rattle.schema_models.specs.declared.shape_error.ShapeError.TheVariants as fault
use Rattle.service.specs.Columns.{bad_word, column_of, columns_of, onto_columns, place_of, shape_of}
use Rattle.service.proofs.Scans.{IsScan, scan}

abbrev first : List (List ℕ) → List ColumnDef
first words = columns_of (take 64 words)

few : (words : List (List ℕ)) → length (columns_of words) ≤ length words
unfolding columns_of
few [] = omega arith
few (word ∷ words) = go (column_of word) (few words)
  where
    go : (o : Option ColumnDef) → length (columns_of words) ≤ length words → length (onto_columns o (columns_of words)) ≤ suc (length words)
    go None h = omega arith
    go (Some c) h = omega arith

pub few_first : (words : List (List ℕ)) → length (first words) ≤ 64
few_first words = least (length words) (simp length-take at (few (take 64 words)))
  where
    least : {m : ℕ} (n : ℕ) → m ≤ min 64 n → m ≤ 64
    least n h = omega arith

not_over : (n : ℕ) → n ≤ 64 → nat_lt 64 n ≡ false
not_over n h = grind (arith, nat_tests)

module _ (kind : Model) where
  all_faults : (words : List (List ℕ)) → shape_fault kind (first words) ≡ first_of (refuse_if (length (first words) == 0) (fault.NoKey 0) ∷ faults_after kind [] (first words))
  unfolding shape_fault
  all_faults words = ap (λ b. first_of (refuse_if b (fault.TooManyColumns 64) ∷ refuse_if (length (first words) == 0) (fault.NoKey 0) ∷ faults_after kind [] (first words))) (not_over (length (first words)) (few_first words))

  whole_scan : (words : List (List ℕ)) → IsScan kind 3 [] words 64
  whole_scan words = scan kind words 64 3 [] refl

  empty : (cs : List ColumnDef) → length cs ≡ 0 → first_of (faults_after kind [] cs) ≡ None
  empty [] h = refl
  empty (c ∷ cs) h = absurd (omega arith)

  some_same : (d e : ShapeError) → Some d ≡ Some e → d ≡ e
  some_same d e h = cc

  -- a fault of the first 64 columns is at the first word at fault
  pub refused : (words : List (List ℕ)) (e : ShapeError) → 0 < length words → shape_fault kind (first words) ≡ Some e → (place_of e ≤ 64) × (bad_word kind 3 [] words ≡ Some (3 + place_of e))
  refused words e some h = go (length (first words) == 0) refl
    where
      plain : (d : ℕ) → place_of e ≡ 0 + d → d ≡ place_of e
      plain d q = omega arith

      from : (n : ℕ) → n ≡ 0 → bad_word kind 3 [] words ≡ Some (3 + length (first words)) → length (first words) ≡ n → (place_of (fault.NoKey 0) ≤ 64) × (bad_word kind 3 [] words ≡ Some (3 + place_of (fault.NoKey 0)))
      from n z b l = (omega arith, b ∙ ap (λ m. Some (3 + m)) (l ∙ z))

      moved : (d : ShapeError) → d ≡ e → (place_of d ≤ 64) × (bad_word kind 3 [] words ≡ Some (3 + place_of d)) → (place_of e ≤ 64) × (bad_word kind 3 [] words ≡ Some (3 + place_of e))
      moved d q r = (omega (arith, ap place_of q, r.0), r.1 ∙ ap (λ x. Some (3 + place_of x)) q)

      go : (b : Bool) → (length (first words) == 0) ≡ b → (place_of e ≤ 64) × (bad_word kind 3 [] words ≡ Some (3 + place_of e))
      go true z =
          let zero_long : length (first words) ≡ 0 = eqb-true (length (first words)) 0 z in
          let is : Some (fault.NoKey 0) ≡ Some e = sym (ap (λ b. first_of (refuse_if b (fault.NoKey 0) ∷ faults_after kind [] (first words))) z) ∙ sym (all_faults words) ∙ h in
          moved (fault.NoKey 0) (some_same (fault.NoKey 0) e is) (from 0 refl ((whole_scan words).short (empty (first words) zero_long) (omega arith)) zero_long)
      go false z =
          let is : first_of (faults_after kind [] (first words)) ≡ Some e = sym (ap (λ b. first_of (refuse_if b (fault.NoKey 0) ∷ faults_after kind [] (first words))) z) ∙ sym (all_faults words) ∙ h in
          let r : (d : ℕ) × (place_of e ≡ 0 + d) × (d ≤ 64) × (bad_word kind 3 [] words ≡ Some (3 + d)) = (whole_scan words).refused e is in
          (omega (arith, r.1, r.2), r.3 ∙ ap (λ d. Some (3 + d)) (plain r.0 r.1))

  none_first : (words : List (List ℕ)) → shape_fault kind (first words) ≡ None → first_of (faults_after kind [] (first words)) ≡ None
  none_first words h = go (length (first words) == 0) refl
    where
      clash : Some (fault.NoKey 0) ≡ None → ⊥
      clash q = cc

      go : (b : Bool) → (length (first words) == 0) ≡ b → first_of (faults_after kind [] (first words)) ≡ None
      go true z = absurd (clash (sym (ap (λ b. first_of (refuse_if b (fault.NoKey 0) ∷ faults_after kind [] (first words))) z) ∙ sym (all_faults words) ∙ h))
      go false z = sym (ap (λ b. first_of (refuse_if b (fault.NoKey 0) ∷ faults_after kind [] (first words))) z) ∙ sym (all_faults words) ∙ h

  -- the word behind good columns is at fault
  pub stopped : (words : List (List ℕ)) → shape_fault kind (first words) ≡ None → length (first words) < length words → bad_word kind 3 [] words ≡ Some (3 + length (first words))
  stopped words h l = (whole_scan words).short (none_first words h) l

  -- or no word is at fault, and these are the columns of all words
  pub good : (words : List (List ℕ)) → shape_fault kind (first words) ≡ None → length words ≤ length (first words) → bad_word kind 3 [] words ≡ None
  good words h l = (whole_scan words).whole (none_first words h) l

  pub all_columns : (words : List (List ℕ)) → length words ≤ length (first words) → first words ≡ columns_of words
  all_columns words l = ap columns_of (take_all 64 words (bound (length words) (length (first words)) l (few_first words)))
    where
      bound : (m n : ℕ) → m ≤ n → n ≤ 64 → m ≤ 64
      bound m n a b = omega arith

  pub first_of_front : (words : List (List ℕ)) (n : ℕ) → n ≡ min (length words) 64 → take n words ≡ take 64 words
  first_of_front words n e = ap (λ k. take k words) e ∙ go (nat_le (length words) 64) refl
    where
      go : (b : Bool) → nat_le (length words) 64 ≡ b → take (min (length words) 64) words ≡ take 64 words
      go true h = let l : length words ≤ 64 = leb-true (length words) 64 h in take_all (min (length words) 64) words (omega arith) ∙ sym (take_all 64 words l)
      go false h = let l : 64 < length words = leb-false (length words) 64 h in let m : min (length words) 64 ≡ 64 = omega arith in ap (λ k. take k words) m

  -- the columns of the first words, as the code takes them
  pub front : {W : Type 0} (bytes : W → List ℕ) (words : List W) (n : ℕ) → n ≡ min (length words) 64 → columns_of (map bytes (take n words)) ≡ first (map bytes words)
  front bytes words n e = ap columns_of (sym (take-map bytes n words) ∙ first_of_front (map bytes words) n (e ∙ ap (λ m. min m 64) (sym (length-map words bytes))))

  -- ---- the same of columns that are those of the first words

  pub refused_with : (words : List (List ℕ)) (columns : List ColumnDef) (e : ShapeError) (place : ℕ) → 0 < length words → columns ≡ first words → shape_fault kind columns ≡ Some e → place ≡ place_of e → (place ≤ 64) × (bad_word kind 3 [] words ≡ Some (3 + place))
  refused_with words columns e place some same h p =
      let r : (place_of e ≤ 64) × (bad_word kind 3 [] words ≡ Some (3 + place_of e)) = refused words e some (ap (shape_fault kind) (sym same) ∙ h) in
      (omega (arith, r.0), r.1 ∙ ap (λ n. Some (3 + n)) (sym p))

  pub stopped_with : (words : List (List ℕ)) (columns : List ColumnDef) (read count : ℕ) → columns ≡ first words → shape_fault kind columns ≡ None → read ≡ length columns → count ≡ length words → read < count → bad_word kind 3 [] words ≡ Some (3 + read)
  stopped_with words columns read count same h r e l =
      let n : read ≡ length (first words) = r ∙ ap length same in
      stopped words (ap (shape_fault kind) (sym same) ∙ h) (omega arith) ∙ ap (λ n. Some (3 + n)) (sym n)

  pub good_with : (words : List (List ℕ)) (columns : List ColumnDef) (read count : ℕ) → columns ≡ first words → shape_fault kind columns ≡ None → read ≡ length columns → count ≡ length words → count ≤ read → bad_word kind 3 [] words ≡ None
  good_with words columns read count same h r e l = let n : read ≡ length (first words) = r ∙ ap length same in good words (ap (shape_fault kind) (sym same) ∙ h) (omega arith)

  abbrev make : Model → List ColumnDef → ShapeView
  make m cs = record { model = m; columns = cs }

  pub shape_with : (words : List (List ℕ)) (columns : List ColumnDef) (read count : ℕ) (shape : ShapeView) → columns ≡ first words → read ≡ length columns → count ≡ length words → count ≤ read → shape.model ≡ kind → shape.columns ≡ columns → shape ≡ shape_of kind words
  shape_with words columns read count shape same r e l m c =
      let n : read ≡ length (first words) = r ∙ ap length same in
      let k : length words ≤ length (first words) = omega arith in
      shape_is shape kind (columns_of words) m (c ∙ same ∙ all_columns words k)
    where
      shape_is : (s : ShapeView) (m : Model) (cs : List ColumnDef) → s.model ≡ m → s.columns ≡ cs → s ≡ record { model = m; columns = cs }
      shape_is s m cs a b = ap₂ (λ (n : Model) (ds : List ColumnDef). make n ds) a b
