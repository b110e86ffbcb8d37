use Rattle.std.proofs.Common.{◌≡◌, ℕ, nat_eq, arith}
use Rattle.std.proofs.lemmas.Bool.Decides.{nat_tests}
use Rattle.std.specs.Bool.{IsTrue}
use Rattle.merge_read.proofs.KeyLemmas.{other_key}
use Rattle.merge_read.specs.Merged.{row_of}
use Rattle.merge_read.proofs.head.Head.has_key.Goals as goal

same : (a b : ℕ) → IsTrue (nat_eq a b) → a ≡ b
same a b t = grind (arith, nat_tests)

pub returns-else-prefix-self : goal.returns-else-prefix-self
returns-else-prefix-self c =
    let h = c.args.self.now in
    (λ t. absurd (c.if-prefix-self.false (same c.args.prefix h.prefix t)), λ e. absurd (other_key c.args.width h.width (row_of c.args.cells.now) h.row c.args.prefix h.prefix c.requires.some h.has_key c.requires.prefix h.ok c.if-prefix-self.false e))
