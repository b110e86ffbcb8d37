use Rattle.std.proofs.Common.{ℕ, List, Some, None, rules, sym, ◌∙◌, ap}
use Rattle.std.specs.List.{last_or}
use Rattle.label_book.proofs.Lasts.{last_found}
use Rattle.label_book.proofs.Kept.{numbers_there}
use Rattle.label_book.proofs.numbers.last_number.Goals as goal

pub returns : goal.returns
returns c =
    last_found c.in_ok-numbers.numbers.now.keys c.copied.result (search rules) (search rules)
    ∙ sym (ap (λ (ks : List ℕ). last_or None ks) (numbers_there c.args.db.now c.args.label.now c.args.all.now (Some c.in_ok-numbers.numbers.now) (search rules)))
