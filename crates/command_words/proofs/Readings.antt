-- What the command makes of words without an option.
use Rattle.std.proofs.Common.{◌≡◌, ◌∙◌, ◌≤◌, refl, sym, ap, ap₂, inl, inr, ◌⊎◌, subst, rules, ℕ, Bool, true, false, ◌&&◌, ◌||◌, ◌==◌, List, [], ◌∷◌, ◌++◌, Option, Some, None, codes, arith, if◌then◌else◌, length, append_assoc, append-nil, true≢false}
use Rattle.std.specs.List.{list_any, fold}
use Rattle.std.specs.Str.{bytes_eq}
use Rattle.std.proofs.lemmas.Slice.Eq.{bytes_eq-Decides}
use Rattle.clap.specs.Lexer.{long_of, short_of, usize_max}
use Rattle.clap.specs.Words.{App, Row, Text, subcommand_of, fault_of, is_simple, is_simple_and_free}
use Rattle.clap.specs.Simple.{Shape, built, names_of, entered}
use Rattle.clap.specs.Walk.{Held, Names, Walk, idle, positional, walk, walk_from, nothing_held, walked, finished}
use Rattle.clap.specs.Faults.{check_fault, defaults_fault, level_fault, settle_fault, turn_fault, walk_fault}
use Rattle.clap.specs.Walk.{settled}
use Rattle.clap.specs.Kinds.{Kinds, IsAmong, or_else, range_kinds, values_kinds}
use Rattle.clap.specs.Values.{reading_of}
use Rattle.clap.specs.declared.error.kind.ErrorKind.{ErrorKind}
use Rattle.clap.specs.declared.error.kind.ErrorKind.TheVariants as kind
use Rattle.clap.specs.declared.parser.matches.ValueSource.TheVariants.{CommandLine}
use Rattle.clap.specs.declared.builder.value_parser.ValueParser.TheVariants as vp
use Rattle.clap.proofs.OnLiterals.{clap_on_literals}
use Rattle.clap.proofs.WalkLemmas.{walk_stopped}
use Rattle.command_words.specs.Command.{form_read, whole_app, dryrun_app}
use Rattle.command_words.specs.Words.{dryrun_of, form_behind, is_dashed, is_option, run_of}

pub whole_is_simple : is_simple_and_free whole_app ≡ true
unfolding clap_on_literals
whole_is_simple = refl

pub whole_has_matches : is_simple whole_app ≡ true
unfolding clap_on_literals
whole_has_matches = refl

abbrev whole : App
whole = built whole_app

-- the command `dryrun`, as it is built below the whole one
abbrev first_of : List Shape → Shape
first_of [] = dryrun_app.top
first_of (s ∷ ss) = s

abbrev leaf : Shape
leaf = first_of whole.subs

-- the command `run`, as it is built below the whole one
abbrev second_of : List Shape → Shape
second_of [] = dryrun_app.top
second_of (s ∷ ss) = first_of ss

abbrev run_leaf : Shape
run_leaf = second_of whole.subs

-- ---- the first word

-- after a subcommand's name nothing at the top is at fault
stopped_fault : (s : Shape) (names : Names) (w : Walk) (name : Text) (seen words : List Text)
    → walk_fault s names (record w { stopped = Some (name, seen) }) words ≡ []
unfolding walk_fault walked
stopped_fault s names w name seen [] = refl
stopped_fault s names w name seen (x ∷ xs) = stopped_fault s names w name (seen ++ x ∷ []) xs

abbrev at_name : Walk
at_name = record (walk_from nothing_held) { stopped = Some (codes "dryrun", []) }

dryrun_fault : (words : List Text) → fault_of whole_app (codes "dryrun" ∷ words) ≡ or_else (level_fault leaf [] nothing_held words false []) []
unfolding clap_on_literals
dryrun_fault words = rw (stopped_fault whole.top (names_of whole) at_name (codes "dryrun") [] words, ← walk_stopped whole.top.rules (names_of whole) at_name (codes "dryrun") [] words) refl

dryrun_rows : (words : List Text) → subcommand_of whole_app (codes "dryrun" ∷ words) ≡ Some (codes "dryrun", finished leaf.rules (walk leaf.rules [] nothing_held words).held)
unfolding clap_on_literals
dryrun_rows words = rw (← walk_stopped whole.top.rules (names_of whole) at_name (codes "dryrun") [] words) refl

abbrev at_run : Walk
at_run = record (walk_from nothing_held) { stopped = Some (codes "run", []) }

run_fault : (words : List Text) → fault_of whole_app (codes "run" ∷ words) ≡ or_else (level_fault run_leaf [] nothing_held words false []) []
unfolding clap_on_literals
run_fault words = rw (stopped_fault whole.top (names_of whole) at_run (codes "run") [] words, ← walk_stopped whole.top.rules (names_of whole) at_run (codes "run") [] words) refl

run_rows : (words : List Text) → subcommand_of whole_app (codes "run" ∷ words) ≡ Some (codes "run", finished run_leaf.rules (walk run_leaf.rules [] nothing_held words).held)
unfolding clap_on_literals
run_rows words = rw (← walk_stopped whole.top.rules (names_of whole) at_run (codes "run") [] words) refl

no_dash : (w : Text) → is_option w ≡ false → is_dashed w ≡ false
no_dash w e = grind arith

long_none : (w : Text) → is_dashed w ≡ false → long_of w ≡ None
long_none [] e = refl
long_none (b ∷ w) e = simp e

short_none : (w : Text) → is_dashed w ≡ false → short_of w ≡ None
short_none [] e = refl
short_none (b ∷ w) e = simp e

not_dashes : (w : Text) → is_dashed w ≡ false → bytes_eq w (45 ∷ 45 ∷ []) ≡ false
not_dashes [] e = refl
not_dashes (b ∷ w) e = simp e

other_fault : (w : Text) (words : List Text) → is_dashed w ≡ false → bytes_eq (codes "dryrun") w ≡ false → bytes_eq (codes "run") w ≡ false
    → fault_of whole_app (w ∷ words) ≡ kind.UnknownArgument ∷ kind.InvalidSubcommand ∷ []
unfolding clap_on_literals
other_fault w words e d r =
    let a = long_none w e in
    let b = short_none w e in
    let f = not_dashes w e in
    simp (a, b, f, d, r)

nothing_read : None ≡ form_read (fault_of whole_app []) (subcommand_of whole_app [])
unfolding clap_on_literals
nothing_read = refl

-- ---- the words of `dryrun`

abbrev row_of_word : Text → List Text → Row
row_of_word id values = record { id = id; values = values; count = None; source = Some CommandLine; reading = reading_of vp.String }

abbrev model_row : Text → Row
model_row model = row_of_word (codes "model") (model ∷ [])

-- where the walk stands behind the model and some columns
abbrev behind : Text → List Text → Walk
behind model columns = record {
  held = record { rows = model_row model ∷ []; pending = Some (codes "columns", columns); skip = 0 };
  waiting = positional;
  position = 2;
  is_trailing = false;
  stopped = None;
}

-- one more column
column_walked : (model : Text) (seen : List Text) (w : Text) → is_dashed w ≡ false → walked leaf.rules [] (behind model seen) w ≡ behind model (seen ++ w ∷ [])
unfolding clap_on_literals
column_walked model seen w e =
    let a = long_none w e in
    let b = short_none w e in
    let f = not_dashes w e in
    simp (a, b, f)

neither : (a b : Bool) → (a || b) ≡ false → (a ≡ false) × (b ≡ false)
neither true b e = absurd (true≢false e)
neither false b e = (refl, e)

columns_walked : (model : Text) (seen words : List Text) → list_any is_dashed words ≡ false → fold (walked leaf.rules []) (behind model seen) words ≡ behind model (seen ++ words)
columns_walked model seen [] e = ap (behind model) (sym (append-nil seen))
columns_walked model seen (w ∷ words) e =
    let plain = neither (is_dashed w) (list_any is_dashed words) e in
    ap (λ (v : Walk). fold (walked leaf.rules []) v words) (column_walked model seen w plain.0) ∙ columns_walked model (seen ++ w ∷ []) words plain.1 ∙ ap (behind model) (append_assoc seen (w ∷ []) words)

column_turn : (model : Text) (seen : List Text) (w : Text) → is_dashed w ≡ false → turn_fault leaf [] (behind model seen) w ≡ []
unfolding clap_on_literals
column_turn model seen w e =
    let a = long_none w e in
    let b = short_none w e in
    let f = not_dashes w e in
    simp (a, b, f)

-- a word that is not at fault leaves the fault to the words behind it
turn : (w v : Walk) (word : Text) (words : List Text) → turn_fault leaf [] w word ≡ [] → walked leaf.rules [] w word ≡ v → walk_fault leaf [] w (word ∷ words) ≡ walk_fault leaf [] v words
unfolding walk_fault
turn w v word words fine next = ap₂ (λ (k : Kinds) (u : Walk). or_else k (walk_fault leaf [] u words)) fine next

columns_fine : (model : Text) (seen words : List Text) → list_any is_dashed words ≡ false → walk_fault leaf [] (behind model seen) words ≡ []
unfolding walk_fault
columns_fine model seen [] e = refl
columns_fine model seen (w ∷ words) e =
    let plain = neither (is_dashed w) (list_any is_dashed words) e in
    turn (behind model seen) (behind model (seen ++ w ∷ [])) w words (column_turn model seen w plain.0) (column_walked model seen w plain.0) ∙ columns_fine model (seen ++ w ∷ []) words plain.1

-- where the walk stands behind the model
abbrev behind_model : Text → Walk
behind_model model = record {
  held = record { rows = []; pending = Some (codes "model", model ∷ []); skip = 0 };
  waiting = idle;
  position = 2;
  is_trailing = false;
  stopped = None;
}

model_walked : (w : Text) → is_dashed w ≡ false → walked leaf.rules [] (walk_from nothing_held) w ≡ behind_model w
unfolding clap_on_literals
model_walked w e =
    let a = long_none w e in
    let b = short_none w e in
    let f = not_dashes w e in
    simp (a, b, f)

model_turn : (w : Text) → is_dashed w ≡ false → turn_fault leaf [] (walk_from nothing_held) w ≡ []
unfolding clap_on_literals
model_turn w e =
    let a = long_none w e in
    let b = short_none w e in
    let f = not_dashes w e in
    simp (a, b, f)

first_walked : (model w : Text) → is_dashed w ≡ false → walked leaf.rules [] (behind_model model) w ≡ behind model (w ∷ [])
unfolding clap_on_literals
first_walked model w e =
    let a = long_none w e in
    let b = short_none w e in
    let f = not_dashes w e in
    simp (a, b, f)

first_turn : (model w : Text) → is_dashed w ≡ false → turn_fault leaf [] (behind_model model) w ≡ []
unfolding clap_on_literals
first_turn model w e =
    let a = long_none w e in
    let b = short_none w e in
    let f = not_dashes w e in
    simp (a, b, f)

-- ---- behind the words

-- what is at fault behind the words
abbrev end_fault : Held → Kinds
end_fault end = or_else [] (or_else (settle_fault leaf.rules leaf.args_override_self end)
    (or_else (defaults_fault (settled leaf.rules end).rows leaf.rules) (check_fault leaf (finished leaf.rules end) false)))

string_values : (values : List Text) → values_kinds false vp.String values ≡ []
string_values [] = refl
string_values (value ∷ values) = string_values values

range_fine : (n : ℕ) → 1 ≤ n → n ≤ usize_max → range_kinds 1 usize_max n ≡ []
range_fine n least most = grind arith

end_fine : (model column : Text) (columns : List Text) → length (column ∷ columns) ≤ usize_max → end_fault (behind model (column ∷ columns)).held ≡ []
unfolding clap_on_literals
end_fine model column columns most =
    let a = range_fine (length (column ∷ columns)) (omega arith) most in
    let b = string_values columns in
    simp (a, b)

end_rows : (model column : Text) (columns : List Text)
    → finished leaf.rules (behind model (column ∷ columns)).held ≡ model_row model ∷ row_of_word (codes "columns") (column ∷ columns) ∷ []
unfolding clap_on_literals
end_rows model column columns = refl

-- ---- the form that is read

module _ (model column : Text) (columns : List Text) (plain_model : is_dashed model ≡ false) (plain_column : is_dashed column ≡ false) (plain : list_any is_dashed columns ≡ false) where
  all_walked : walk leaf.rules [] nothing_held (model ∷ column ∷ columns) ≡ behind model (column ∷ columns)
  all_walked =
      ap (λ (v : Walk). fold (walked leaf.rules []) (walked leaf.rules [] v column) columns) (model_walked model plain_model)
      ∙ ap (λ (v : Walk). fold (walked leaf.rules []) v columns) (first_walked model column plain_column)
      ∙ columns_walked model (column ∷ []) columns plain

  all_fine : walk_fault leaf [] (walk_from nothing_held) (model ∷ column ∷ columns) ≡ []
  all_fine =
      turn (walk_from nothing_held) (behind_model model) model (column ∷ columns) (model_turn model plain_model) (model_walked model plain_model)
      ∙ turn (behind_model model) (behind model (column ∷ [])) column columns (first_turn model column plain_column) (first_walked model column plain_column)
      ∙ columns_fine model (column ∷ []) columns plain

  form_fault : length (column ∷ columns) ≤ usize_max → level_fault leaf [] nothing_held (model ∷ column ∷ columns) false [] ≡ []
  form_fault most = ap₂ (λ (k : Kinds) (w : Walk). or_else k (end_fault w.held)) all_fine all_walked ∙ end_fine model column columns most

  form_rows : finished leaf.rules (walk leaf.rules [] nothing_held (model ∷ column ∷ columns)).held ≡ model_row model ∷ row_of_word (codes "columns") (column ∷ columns) ∷ []
  form_rows = ap (λ (w : Walk). finished leaf.rules w.held) all_walked ∙ end_rows model column columns

no_model : level_fault leaf [] nothing_held [] false [] ≡ kind.MissingRequiredArgument ∷ []
unfolding clap_on_literals
no_model = refl

model_end : (model : Text) → end_fault (behind_model model).held ≡ kind.MissingRequiredArgument ∷ []
unfolding clap_on_literals
model_end model = refl

no_column : (model : Text) → is_dashed model ≡ false → level_fault leaf [] nothing_held (model ∷ []) false [] ≡ kind.MissingRequiredArgument ∷ []
unfolding walk_fault
no_column model e =
    ap₂ (λ (k : Kinds) (w : Walk). or_else k (end_fault w.held)) (turn (walk_from nothing_held) (behind_model model) model [] (model_turn model e) (model_walked model e)) (model_walked model e) ∙ model_end model

dryrun_read : (words : List Text) → list_any is_dashed words ≡ false → length words ≤ usize_max
    → dryrun_of words ≡ form_read (fault_of whole_app (codes "dryrun" ∷ words)) (subcommand_of whole_app (codes "dryrun" ∷ words))
dryrun_read [] plain most = ap (λ (k : Kinds). form_read k (subcommand_of whole_app (codes "dryrun" ∷ []))) (sym (dryrun_fault [] ∙ ap (λ (k : Kinds). or_else k []) no_model))
dryrun_read (model ∷ []) plain most =
    let e = (neither (is_dashed model) false plain).0 in
    ap (λ (k : Kinds). form_read k (subcommand_of whole_app (codes "dryrun" ∷ model ∷ []))) (sym (dryrun_fault (model ∷ []) ∙ ap (λ (k : Kinds). or_else k []) (no_column model e)))
dryrun_read (model ∷ column ∷ columns) plain most =
    let a = neither (is_dashed model) (list_any is_dashed (column ∷ columns)) plain in
    let b = neither (is_dashed column) (list_any is_dashed columns) a.1 in
    let fault = dryrun_fault (model ∷ column ∷ columns) ∙ ap (λ (k : Kinds). or_else k []) (form_fault model column columns a.0 b.0 b.1 (omega (arith, most))) in
    let rows = dryrun_rows (model ∷ column ∷ columns) ∙ ap (λ (r : List Row). Some (codes "dryrun", r)) (form_rows model column columns a.0 b.0 b.1) in
    sym (ap₂ form_read fault rows)

-- ---- the words of `run`

run_alone : level_fault run_leaf [] nothing_held [] false [] ≡ []
unfolding clap_on_literals
run_alone = refl

-- a word behind `run` is at fault
run_turn : (w : Text) → is_dashed w ≡ false → turn_fault run_leaf [] (walk_from nothing_held) w ≡ kind.UnknownArgument ∷ []
unfolding clap_on_literals
run_turn w e =
    let a = long_none w e in
    let b = short_none w e in
    let f = not_dashes w e in
    simp (a, b, f)

first_stays : (s : Shape) (w : Walk) (word : Text) (words : List Text) (k : ErrorKind) (ks more : Kinds) → turn_fault s [] w word ≡ k ∷ ks → or_else (walk_fault s [] w (word ∷ words)) more ≡ k ∷ ks
unfolding walk_fault
first_stays s w word words k ks more e = rw e refl

run_read : (words : List Text) → list_any is_dashed words ≡ false
    → run_of words ≡ form_read (fault_of whole_app (codes "run" ∷ words)) (subcommand_of whole_app (codes "run" ∷ words))
run_read [] plain = sym (ap₂ form_read (run_fault [] ∙ ap (λ (k : Kinds). or_else k []) run_alone) (run_rows []))
run_read (w ∷ words) plain =
    let e = (neither (is_dashed w) (list_any is_dashed words) plain).0 in
    ap (λ (k : Kinds). form_read k (subcommand_of whole_app (codes "run" ∷ w ∷ words)))
    (sym (run_fault (w ∷ words) ∙ ap (λ (k : Kinds). or_else k []) (first_stays run_leaf (walk_from nothing_held) w words kind.UnknownArgument [] _ (run_turn w e))))

no_options : (words : List Text) → list_any is_option words ≡ false → list_any is_dashed words ≡ false
no_options [] e = refl
no_options (w ∷ words) e =
    let a = neither (is_option w) (list_any is_option words) e in
    rw (no_dash w a.0) (no_options words a.1)

byte_sym : (x y : ℕ) → (x == y) ≡ (y == x)
byte_sym x y = grind arith

bytes_eq-sym : (a b : List ℕ) → bytes_eq a b ≡ bytes_eq b a
bytes_eq-sym [] [] = refl
bytes_eq-sym [] (y ∷ ys) = refl
bytes_eq-sym (x ∷ xs) [] = refl
bytes_eq-sym (x ∷ xs) (y ∷ ys) = ap₂ (λ (p q : Bool). p && q) (byte_sym x y) (bytes_eq-sym xs ys)

-- words without an option are read as their form, and are at fault exactly where they have none
pub form_is_read : (words : List Text) → list_any is_option words ≡ false → length words ≤ usize_max
    → form_behind words ≡ form_read (fault_of whole_app words) (subcommand_of whole_app words)
form_is_read [] e most = nothing_read
form_is_read (w ∷ words) e most = go (bytes_eq w (codes "dryrun")) refl
  where
    plain : (is_dashed w ≡ false) × (list_any is_dashed words ≡ false)
    plain = neither (is_dashed w) (list_any is_dashed words) (no_options (w ∷ words) e)

    run : (b : Bool) → bytes_eq w (codes "dryrun") ≡ false → bytes_eq w (codes "run") ≡ b
        → (if b then run_of words else None) ≡ form_read (fault_of whole_app (w ∷ words)) (subcommand_of whole_app (w ∷ words))
    run true d h =
        let same : codes "run" ≡ w = search (rules, bytes_eq-Decides, h) in
        subst (λ v. run_of words ≡ form_read (fault_of whole_app (v ∷ words)) (subcommand_of whole_app (v ∷ words))) same (run_read words plain.1)
    run false d h =
        ap (λ (k : Kinds). form_read k (subcommand_of whole_app (w ∷ words)))
        (sym (other_fault w words plain.0 (bytes_eq-sym (codes "dryrun") w ∙ d) (bytes_eq-sym (codes "run") w ∙ h)))

    go : (b : Bool) → bytes_eq w (codes "dryrun") ≡ b
        → (if b then dryrun_of words else (if bytes_eq w (codes "run") then run_of words else None)) ≡ form_read (fault_of whole_app (w ∷ words)) (subcommand_of whole_app (w ∷ words))
    go true h =
        let same : codes "dryrun" ≡ w = search (rules, bytes_eq-Decides, h) in
        subst (λ v. dryrun_of words ≡ form_read (fault_of whole_app (v ∷ words)) (subcommand_of whole_app (v ∷ words))) same (dryrun_read words plain.1 (omega (arith, most)))
    go false h = run (bytes_eq w (codes "run")) h refl

-- an error that is not for want of memory comes only where the words have no form
pub no_form : (kinds : Kinds) (entered : Option (Text × List Row)) (k : ErrorKind) → (k ≡ kind.OutOfMemory → ⊥) → (k ≡ kind.OutOfMemory) ⊎ IsAmong k kinds → form_read kinds entered ≡ None
no_form [] entered k other (inl same) = absurd (other same)
no_form [] entered k other (inr among) = absurd among
no_form (x ∷ xs) entered k other h = refl
