use Rattle.std.proofs.Common.{◌≡◌, ◌∷◌, [], List, length, ap, arith}
use Rattle.std.proofs.lemmas.List.Sorted.{IsPermutation-trans, length_permutation}
use Rattle.std.specs.List.Sorted.{IsPermutation}
use Rattle.merge_read.specs.declared.head.Head.{Head}
use Rattle.merge_read.proofs.heads.Heads.first_of.Goals as goal

never : (x : Head) (xs ys : List Head) → IsPermutation (x ∷ xs) ys → ys ≡ [] → ⊥
never x xs ys p e =
    let n : length ys ≡ length (x ∷ xs) = length_permutation (x ∷ xs) ys p in
    let z : length ys ≡ 0 = ap (λ (l : List Head). length l) e in
    omega arith

pub unreachable-requires : goal.unreachable-requires
unreachable-requires c = never c.args.head c.args.self.now.items c.put.new.self.items c.put.ensures.moved c.in-None.ensures.none

pub returns-clause-moved : goal.returns-clause-moved
returns-clause-moved c = IsPermutation-trans (c.args.head ∷ c.args.self.now.items) c.put.new.self.items (c.in-Some.first ∷ c.take.new.self.items) c.put.ensures.moved c.in-Some.ensures.moved
