use Rattle.std.proofs.Common.{◌≡◌, take, map}
use Rattle.front_defs.specs.Words.{type_text}
use Rattle.load_server.proofs.select.types_of.Given as goal

abbrev pub invariant-loop-column : goal.invariant-loop-column
invariant-loop-column l = l.types.items ≡ map (λ c. type_text c.kind) (take l.column-index l.columns)
