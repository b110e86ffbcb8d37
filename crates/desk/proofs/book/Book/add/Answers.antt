use Rattle.std.proofs.Common.{rules}
use Rattle.desk.proofs.Books.{writes}
use Rattle.desk.proofs.book.Book.add.Goals as goal

pub fetch_add-requires : goal.fetch_add-requires
fetch_add-requires g c = (search rules, search rules, writes _ _ _ _ c.requires.0 c.requires.1)

pub returns : goal.returns
returns g c e said = c.fetch_add.ensures.2 e said
