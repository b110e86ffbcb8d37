use Rattle.std.proofs.Common.{refl}
use Rattle.sql_text.specs.ReadNames.{maybe_agg_at, agg_at}
use Rattle.sql_text.proofs.Firsts.{replace_is_first, replace_if_is_first}
use Rattle.sql_text.proofs.names.maybe_agg.Goals as goal

pub returns-in-Some-after_word-3 : goal.returns-in-Some-after_word-3
unfolding maybe_agg_at agg_at
returns-in-Some-after_word-3 c = rw (replace_is_first _ c.in-Some-after_word-3.ensures.0, c.in_default.ensures, c.in_default-after_word.ensures, c.in_default-after_word-2.ensures, c.in-Some-after_word-3.ensures.0, c.in-Some-after_word-3.ensures.1) refl

pub returns-in-Some-after_word-4 : goal.returns-in-Some-after_word-4
unfolding maybe_agg_at agg_at
returns-in-Some-after_word-4 c = rw (replace_if_is_first _ c.in-Some-after_word-4.ensures.0, c.in_default.ensures, c.in_default-after_word.ensures, c.in_default-after_word-2.ensures, c.in_default-after_word-3.ensures, c.in-Some-after_word-4.ensures.1) refl
