-- The number of at most 19 digits fits into 64 bits.
use Rattle.std.proofs.Common.{ℕ, ◌+◌, ◌*◌, ◌^◌, ◌<◌, ◌≤◌, arith}
use Rattle.std.proofs.Math.Nat.{pow-le-pow_right}

pub room : (value i n : ℕ) → value < 10 ^ i → i < n → n ≤ 19 → value * 10 + 10 ≤ 10000000000000000000
room value i n small l most =
    let p : 10 ^ i ≤ 10 ^ 18 = pow-le-pow_right {n = 10} (omega arith) {i = i} {j = 18} (omega arith) in
    let q : 10 ^ i ≤ 1000000000000000000 = p in
    omega arith
