use Rattle.std.proofs.Common.{length, ap, subst, ◌∙◌, arith}
use Rattle.journal_records.specs.Reading.{Decodes, record_of}
use Rattle.journal_records.proofs.Records.{is_found, record_again}
use Rattle.journal_records.proofs.decoding.decode.Goals as goal

pub returns-clause-found : goal.returns-clause-found
returns-clause-found c = is_found c.args.bytes.now c.placed.result (λ i. omega (arith, c.type_inv.bytes i)) c.placed.ensures

pub returns-clause-only : goal.returns-clause-only
returns-clause-only c = λ r fits e. subst (λ d. Decodes c.placed.result (length c.args.bytes.now) d) (ap record_of e ∙ record_again r fits) c.placed.ensures
