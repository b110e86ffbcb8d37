-- Each combinator's reader reads its language: the laws in one place.
pub use Rattle.sql_grammar.proofs.Readings.{Reads, leaves_less}
pub use Rattle.sql_grammar.proofs.Basics.{tok_reads, is_reads, is_reads_wide, reads_along, reads_wide}
pub use Rattle.sql_grammar.proofs.Sequences.{next_reads}
pub use Rattle.sql_grammar.proofs.Choices.{either_reads, maybe_reads}
pub use Rattle.sql_grammar.proofs.Repeats.{many_reads}
