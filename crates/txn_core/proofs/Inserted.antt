-- What stands after an insert that succeeds.
use Rattle.std.proofs.Common.{◌≡◌, List, cond}
use Rattle.std.specs.Prelude.{Err, IsOk, Ok, Result, is_ok}

pub was_inserted : {X A E : Type 0} (r : Result A E) (xs ys zs : List X) → IsOk r → zs ≡ cond (is_ok r) xs ys → zs ≡ xs
was_inserted (Ok a) xs ys zs h e = e
was_inserted (Err a) xs ys zs h e = absurd (cc)
