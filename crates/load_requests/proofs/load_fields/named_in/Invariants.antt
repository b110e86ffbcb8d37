use Rattle.std.proofs.Common.{◌≡◌, drop, map}
use Rattle.load_requests.specs.LoadFields.{named_in}
use Rattle.load_requests.proofs.load_fields.named_in.Given as goal

abbrev pub invariant-loop-wanted : goal.invariant-loop-wanted
invariant-loop-wanted l = named_in (map (λ n. n.now) (drop l.wanted-index l.names)) l.name ≡ named_in (map (λ n. n.now) l.names) l.name
