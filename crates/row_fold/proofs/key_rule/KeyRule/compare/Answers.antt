use Rattle.std.proofs.Common.{arith}
use Rattle.row_fold.proofs.Below.{key_below, key_above}
use Rattle.row_fold.proofs.key_rule.KeyRule.compare.Goals as goal

pub returns-then-a-b : goal.returns-then-a-b
returns-then-a-b c =
    let r = c.args.self.now in
    let a = c.args.a.now in
    let b = c.args.b.now in
    key_below r.shape.now a.row.now b.row.now (omega (arith, r.is_width, r.has_key)) (omega (arith, a.ok, b.ok, c.if-a-b.true))

pub returns-then-b-a : goal.returns-then-b-a
returns-then-b-a c =
    let r = c.args.self.now in
    let a = c.args.a.now in
    let b = c.args.b.now in
    key_above r.shape.now a.row.now b.row.now (omega (arith, r.is_width, r.has_key)) (omega (arith, a.ok, b.ok, c.if-b-a.true))
