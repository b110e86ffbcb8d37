use Rattle.std.proofs.Common.{◌∙◌, sym, arith}
use Rattle.dl_values.proofs.PlainLemmas.{few_read}
use Rattle.dl_values.proofs.col_type.ColType.plain_int.Goals as goal

pub returns-in-Some-clause-reads : goal.returns-in-Some-clause-reads
returns-in-Some-clause-reads c = few_read c.args.self.now c.args.text.now c.in-Some.value (sym c.few_digits.ensures ∙ c.in-Some.is) (omega (arith, c.int_limit.ensures))
