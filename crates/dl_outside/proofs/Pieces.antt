-- Bytes read and written piece by piece.
use Rattle.std.proofs.Common.{◌≡◌, ℕ, ◌+◌, ◌-◌, ◌∙◌, List, [], ◌++◌, Option, Some, None, sym, ap, arith, drop, take, length, append_assoc, take-add, append-nil, length-drop, subst}
use Rattle.std.proofs.lemmas.List.{take-append-drop, take_all}
use Rattle.std.proofs.Math.Seq.{take-append_seam, drop-drop}
use Rattle.std.specs.Io.KnownBytes.{Appends, Consumes}
use Rattle.std.proofs.KnownBytes.{Consumes-trans}
use Rattle.dl_outside.specs.Reading.{ConsumesSome}

pub nothing-written : (old : Option (List ℕ)) → Appends old old []
nothing-written None = tt
nothing-written (Some xs) = sym (append-nil xs)

pub more-written : (a b d : Option (List ℕ)) (at n : ℕ) (bytes : List ℕ) → Appends a b (take at bytes) → Appends b d (take n (drop at bytes)) → Appends a d (take (at + n) bytes)
more-written None b d at n bytes h k = tt
more-written (Some xs) None d at n bytes h k = absurd h
more-written (Some xs) (Some ys) None at n bytes h k = absurd k
more-written (Some xs) (Some ys) (Some zs) at n bytes h k = k ∙ ap (λ l. l ++ take n (drop at bytes)) h ∙ append_assoc xs (take at bytes) (take n (drop at bytes)) ∙ ap (λ l. xs ++ l) (sym (take-add at n bytes))

same : (at n : ℕ) → n ≡ at + n - at
same at n = omega arith

-- the rest of the bytes, as a slice has it
pub rest : (bytes : List ℕ) (at : ℕ) → take (length bytes - at) (drop at bytes) ≡ drop at bytes
rest bytes at = take_all (length bytes - at) (drop at bytes) (simp length-drop (omega arith))

-- a piece that was copied into room, and the rest after it
piece : (xs room new : List ℕ) (at n : ℕ) → new ≡ take (at + n - at) (drop at xs) → length new ≡ n → drop at xs ≡ take n (new ++ drop n room) ++ drop (at + n) xs
piece xs room new at n e h =
    sym (take-append-drop n (drop at xs))
    ∙ ap (λ l. l ++ drop n (drop at xs)) (ap (λ k. take k (drop at xs)) (same at n) ∙ sym e ∙ sym (subst (λ (k : ℕ). take k (new ++ drop n room) ≡ new) h (take-append_seam new (drop n room))))
    ∙ ap (λ l. take n (new ++ drop n room) ++ l) (drop-drop n at xs)

-- what a source in memory gave, as a read of a source says it
pub piece-read : (left xs room new : List ℕ) (at n : ℕ) → left ≡ drop at xs → new ≡ take (at + n - at) (drop at xs) → length new ≡ n
    → left ≡ take n (new ++ drop n room) ++ drop (at + n) xs
piece-read left xs room new at n is e h = is ∙ piece xs room new at n e h

-- what is gone after two reads
pub gone : (a b c : Option (List ℕ)) (bytes : List ℕ) → Consumes a b bytes → ConsumesSome b c → ConsumesSome a c
gone a b c bytes first rest = (bytes ++ rest.0, Consumes-trans a b c bytes rest.0 first rest.1)
