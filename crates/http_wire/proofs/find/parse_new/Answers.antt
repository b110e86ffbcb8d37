use Rattle.std.proofs.Common.{◌≡◌, ◌==◌, ◌-◌, ◌∙◌, sym, subst, length, take, drop, false, List, ℕ}
use Rattle.std.specs.List.{list_any}
use Rattle.std.proofs.lemmas.List.{take-append-drop}
use Rattle.httparse.specs.Grammar.{HasNoRequest}
use Rattle.http_wire.proofs.Ranges.{rest}
use Rattle.http_wire.proofs.LineFacts.{no-new_head}
use Rattle.http_wire.proofs.find.parse_new.Goals as goal

pub returns-then-not-contains-clause-partial : goal.returns-then-not-contains-clause-partial
returns-then-not-contains-clause-partial c =
    let v : list_any (λ x. x == 10) (take (length c.args.bytes.now - c.args.seen) (drop c.args.seen c.args.bytes.now)) ≡ false = sym c.contains.ensures.value ∙ c.if-not-contains.true in
    let lacks : list_any (λ x. x == 10) (drop c.args.seen c.args.bytes.now) ≡ false = subst (λ (l : List ℕ). list_any (λ x. x == 10) l ≡ false) (rest c.args.bytes.now c.args.seen) v in
    subst HasNoRequest (take-append-drop c.args.seen c.args.bytes.now) (no-new_head (take c.args.seen c.args.bytes.now) (drop c.args.seen c.args.bytes.now) c.requires.none lacks)
