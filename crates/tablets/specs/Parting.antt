-- The steps by which the set changes its list of indexes.
use Rattle.std.specs.Prelude.{◌≡◌, ℕ, cond, List, ◌∷◌, ◌++◌, take}
use Rattle.tablets.specs.SetView.{IndexView, is_numbered}
use Rattle.std.specs.List.{AllByRecursion}
use Rattle.tablets.specs.Shadows.{AreMarks, IsIndexOf, marks_of, plain_as, switched_in}

-- the first partitions of an index
abbrev pub cut_to : ℕ → IndexView → IndexView
cut_to n i = record i { parts = take n i.parts }

-- a shadow in the place of the index of a number
abbrev pub put_for : ℕ → IndexView → IndexView → IndexView
put_for n s i = cond (is_numbered n i) (plain_as n s) i

-- a list with one taken out
pub record IsWithout {X : Type 0} (x : X) (old new : List X) : Type 0 where
  pub before : List X
  pub after : List X
  pub had : old ≡ before ++ x ∷ after
  pub has : new ≡ before ++ after

-- some shadows of a job have taken their places, or none
pub record IsOnTheWay (job : ℕ) (old new : List IndexView) : Type 0 where
  pub same : switched_in job new ≡ switched_in job old
  pub marks : AreMarks (marks_of new)
  pub sized : (parts buckets : ℕ) → AllByRecursion (IsIndexOf parts buckets) old → AllByRecursion (IsIndexOf parts buckets) new
