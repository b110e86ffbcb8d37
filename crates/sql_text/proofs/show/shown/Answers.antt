use Rattle.sql_text.specs.ReadShow.{shown_at, show_partitions_at}
use Rattle.sql_text.proofs.show.shown.Goals as goal

pub returns-in-Some-after_word : goal.returns-in-Some-after_word
unfolding shown_at show_partitions_at
returns-in-Some-after_word c = rw (c.in_default.ensures, c.in-Some-after_word.ensures.0, c.in-Some-after_word.ensures.1) c.partitions.ensures
