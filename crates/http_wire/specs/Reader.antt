-- A reader of requests, as contracts see it.
use Rattle.std.specs.Prelude.{◌≡◌, ◌+◌, ◌-◌, ◌^◌, List, Option, ℕ, min}
use Rattle.std.specs.Io.KnownBytes.{Keeps, prepend_known}

-- the bytes that have left the source and were not handed out yet, and how many of the input came before them
pub record Reader : Type 0 where
  pub pending : List ℕ
  pub at : ℕ

-- what is left of the input: the pending bytes, and then those of the source, where it tells them
abbrev pub input : Reader → Option (List ℕ) → Option (List ℕ)
input reader left = prepend_known reader.pending left

-- the place after n bytes more, in a count of 64 bits that stands still at its end
abbrev pub place_after : ℕ → ℕ → ℕ
place_after at n = min (at + n) (2 ^ 64 - 1)

-- nothing was handed out: what is left of the input, and its place, are as before
abbrev pub StaysAt : Reader → Option (List ℕ) → Reader → Option (List ℕ) → Type 0
StaysAt old left new left_after = Keeps (input old left) (input new left_after) × (new.at ≡ old.at)
