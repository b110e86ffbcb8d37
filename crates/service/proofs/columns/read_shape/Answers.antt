use Rattle.std.proofs.Common.{◌≡◌, ◌<◌, ◌≤◌, ◌∙◌, ap, sym, subst, arith, length, map, string_bytes, List, ℕ}
use Rattle.std.proofs.lemmas.List.{length-map}
use Rattle.service.proofs.ReadShapes.{front, refused_with, stopped_with, good_with, shape_with}
use Rattle.service.proofs.columns.read_shape.Goals as goal

pub overflow_add-result : goal.overflow_add-result
overflow_add-result c =
    let words : List (List ℕ) = map string_bytes c.args.words.now in
    let r = refused_with c.args.model words c.in_ok-columns.columns.items c.in-Err.fault c.place_of.result (subst (λ n. 0 < n) (sym (length-map c.args.words.now string_bytes)) c.requires) (c.in_ok-columns.ensures ∙ front c.args.model string_bytes c.args.words.now c.min.result c.min.ensures) c.in-Err.ensures.refused c.place_of.ensures in
    let small : c.place_of.result ≤ 64 = r.0 in
    omega arith

pub returns-in-Err-clause-refused : goal.returns-in-Err-clause-refused
returns-in-Err-clause-refused c =
    (refused_with c.args.model (map string_bytes c.args.words.now) c.in_ok-columns.columns.items c.in-Err.fault c.place_of.result (subst (λ n. 0 < n) (sym (length-map c.args.words.now string_bytes)) c.requires) (c.in_ok-columns.ensures ∙ front c.args.model string_bytes c.args.words.now c.min.result c.min.ensures) c.in-Err.ensures.refused c.place_of.ensures).1

pub returns-then-read-words-clause-refused : goal.returns-then-read-words-clause-refused
returns-then-read-words-clause-refused c =
    stopped_with c.args.model (map string_bytes c.args.words.now) c.in_ok-columns.columns.items (length c.as_slice-read.result.now) (length c.args.words.now) (c.in_ok-columns.ensures ∙ front c.args.model string_bytes c.args.words.now c.min.result c.min.ensures) c.in-Ok.ensures.built.0 (ap length c.as_slice-read.ensures.value) (sym (length-map c.args.words.now string_bytes)) c.if-read-words.true

pub returns-else-read-words-clause-good : goal.returns-else-read-words-clause-good
returns-else-read-words-clause-good c =
    good_with c.args.model (map string_bytes c.args.words.now) c.in_ok-columns.columns.items (length c.as_slice-read.result.now) (length c.args.words.now) (c.in_ok-columns.ensures ∙ front c.args.model string_bytes c.args.words.now c.min.result c.min.ensures) c.in-Ok.ensures.built.0 (ap length c.as_slice-read.ensures.value) (sym (length-map c.args.words.now string_bytes)) c.if-read-words.false

pub returns-else-read-words-clause-shape : goal.returns-else-read-words-clause-shape
returns-else-read-words-clause-shape c =
    shape_with c.args.model (map string_bytes c.args.words.now) c.in_ok-columns.columns.items (length c.as_slice-read.result.now) (length c.args.words.now) c.in-Ok.shape (c.in_ok-columns.ensures ∙ front c.args.model string_bytes c.args.words.now c.min.result c.min.ensures) (ap length c.as_slice-read.ensures.value) (sym (length-map c.args.words.now string_bytes)) c.if-read-words.false c.in-Ok.ensures.built.1 c.in-Ok.ensures.built.2
