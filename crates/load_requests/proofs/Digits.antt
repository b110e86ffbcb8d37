-- Reading up to 19 digits into 64 bits.
use Rattle.std.proofs.Common.{◌≡◌, ◌≤◌, ◌<◌, ◌+◌, ◌*◌, ◌^◌, ◌∙◌, ℕ, arith, add-one, ap}
use Rattle.std.proofs.Math.Nat.{pow-le-pow_right, pow-suc}

-- one digit more does not leave 64 bits
pub fits : (n i : ℕ) → n < 10 ^ i → i < 19 → n * 10 + 9 < 2 ^ 64
fits n i h k =
    let ten : 0 < 10 = omega arith in
    let few : i ≤ 18 = omega arith in
    let most : 10 ^ i ≤ 10 ^ 18 = pow-le-pow_right ten few in
    omega arith

-- and stays below the next power
pub below : (n i d : ℕ) → n < 10 ^ i → d < 10 → n * 10 + d < 10 ^ (i + 1)
below n i d h k =
    let e : 10 ^ (i + 1) ≡ 10 ^ i * 10 = ap (λ m. 10 ^ m) (add-one i) ∙ pow-suc 10 i in
    omega arith
