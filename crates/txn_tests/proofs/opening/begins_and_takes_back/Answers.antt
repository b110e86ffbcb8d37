use Rattle.std.proofs.Common.{◌≡◌, refl, rules}
use Rattle.txn_core.specs.Book.{begun, info_of}
use Rattle.txn_tests.proofs.opening.begins_and_takes_back.Goals as goal

pub unbegin-requires : goal.unbegin-requires
unbegin-requires c =
    let e : c.begin.new.self ≡ begun c.args.start c.args.book.now = search rules in
    rw e (record { others = c.args.book.now.kept; last = info_of c.args.start c.args.book.now.next; kept = refl; number = refl; begins = refl })
