-- Digits behind a point are less than one.
use Rattle.std.proofs.Common.{ℕ, ◌+◌, ◌-◌, ◌*◌, ◌^◌, ◌<◌, ◌≤◌, ◌≡◌, arith, subst, sym}
use Rattle.std.proofs.Math.Nat.{mul-lt-mul_of_pos_right, one-le-pow}
use Rattle.std.proofs.lemmas.Nat.{pow-add}

pub scaled : (n k unit : ℕ) → n < 10 ^ k → k ≤ 4 → unit ≡ 10 ^ (4 - k) → n * unit < 10000
scaled n k unit h small e =
    let whole : k + (4 - k) ≡ 4 = omega arith in
    let four : 10 ^ k * 10 ^ (4 - k) ≡ 10 ^ (k + (4 - k)) = sym (pow-add 10 k (4 - k)) in
    rw e (subst (λ m. n * 10 ^ (4 - k) < m) (rw whole at four) (mul-lt-mul_of_pos_right h (one-le-pow (4 - k) 10 (omega arith))))
