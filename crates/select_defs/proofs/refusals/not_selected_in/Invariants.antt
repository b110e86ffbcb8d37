use Rattle.std.proofs.Common.{◌≡◌, drop, map}
use Rattle.schema_models.specs.Faults.{first_of}
use Rattle.sql_text.specs.declared.query.OrderKey.{OrderKey}
use Rattle.select_defs.specs.Refusals.{not_selected}
use Rattle.select_defs.proofs.refusals.not_selected_in.Given as goal

abbrev pub invariant-loop-key : goal.invariant-loop-key
invariant-loop-key l = first_of (map (λ (k : OrderKey). not_selected l.list k.by) (drop l.key-index l.keys)) ≡ first_of (map (λ (k : OrderKey). not_selected l.list k.by) l.keys)
