use Rattle.std.proofs.Common.{refl, []}
use Rattle.desk.proofs.book.Book.new.Goals as goal

pub of_words-requires : goal.of_words-requires
of_words-requires g c = ([], refl, refl)
