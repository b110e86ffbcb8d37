-- The shadows of jobs among the indexes of a table (Apache Doris documentation, "Schema Change", "Rollup").
use Rattle.std.specs.Prelude.{◌≡◌, ℕ, Bool, true, false, cond, not, List, [], ◌∷◌, ◌++◌, map, length, Option, Some, None, is_some, nat_eq, filter, filter_map, find}
use Rattle.std.specs.List.{AllByRecursion, list_any}
use Rattle.schema_models.specs.ShapeView.{ShapeView}
use Rattle.tablets.specs.SetView.{IndexView, SetView, empty_index}
use Rattle.tablets.specs.TabletView.{IsTablet, TabletView}
use Rattle.tablets.specs.declared.shadow.Shadow.{Shadow}

-- the number of an index, and whose shadow it is
pub record Mark : Type 0 where
  pub number : ℕ
  pub shadow : Option Shadow

abbrev pub mark_of : IndexView → Mark
mark_of i = record { number = i.number; shadow = i.shadow }

abbrev pub marks_of : List IndexView → List Mark
marks_of is = map (λ i. mark_of i) is

abbrev pub numbers : List Mark → List ℕ
numbers ms = map (λ m. m.number) ms

-- the number whose place a shadow is to take
abbrev pub aim : Option Shadow → Option ℕ
aim None = None
aim (Some s) = s.replaces

abbrev pub aims : List Mark → List ℕ
aims ms = filter_map (λ m. aim m.shadow) ms

-- the numbers of the indexes that are no shadows
abbrev pub plain : Option Shadow → ℕ → Option ℕ
plain None n = Some n
plain (Some s) n = None

abbrev pub plains : List Mark → List ℕ
plains ms = filter_map (λ m. plain m.shadow m.number) ms

abbrev pub is_among : List ℕ → ℕ → Bool
is_among ns n = list_any (λ m. nat_eq m n) ns

abbrev pub AreApart : List ℕ → Type 0
AreApart [] = Unit {0}
AreApart (n ∷ ns) = (is_among ns n ≡ false) × AreApart ns

-- numbers differ, and each shadow is to take the place of none, or of an index that is no shadow and that no other is to take
pub record AreMarks (ms : List Mark) : Type 0 where
  pub numbers_apart : AreApart (numbers ms)
  pub aims_apart : AreApart (aims ms)
  pub aims_there : AllByRecursion (λ n. is_among (plains ms) n ≡ true) (aims ms)

pub record IsTabletOf (shape : ShapeView) (t : TabletView) : Type 0 where
  pub same : t.shape ≡ shape
  pub tablet : IsTablet t

abbrev pub ArePartOf : ShapeView → ℕ → List TabletView → Type 0
ArePartOf shape buckets ts = (length ts ≡ buckets) × AllByRecursion (IsTabletOf shape) ts

-- an index of as many partitions and buckets, with tablets of its shape
pub record IsIndexOf (parts buckets : ℕ) (i : IndexView) : Type 0 where
  pub many : length i.parts ≡ parts
  pub each : AllByRecursion (ArePartOf i.shape buckets) i.parts

-- what each set of tablets keeps
pub record IsTabletSet (s : SetView) : Type 0 where
  pub marks : AreMarks (marks_of s.indexes)
  pub indexes : AllByRecursion (IsIndexOf s.parts s.buckets) s.indexes

-- a shadow may come: its number is new, and it takes the place of none, or of a plain index that no other is to take
abbrev pub MayAim : List Mark → Option ℕ → Type 0
MayAim ms None = Unit {0}
MayAim ms (Some n) = (is_among (plains ms) n ≡ true) × (is_among (aims ms) n ≡ false)

pub record MayCome (s : SetView) (number : ℕ) (replaces : Option ℕ) : Type 0 where
  pub fresh : is_among (numbers (marks_of s.indexes)) number ≡ false
  pub aimed : MayAim (marks_of s.indexes) replaces

-- with a shadow of a job more, its tablets empty
abbrev pub with_shadow : ℕ → Shadow → ShapeView → SetView → SetView
with_shadow number shadow shape s = record s { indexes = s.indexes ++ empty_index number (Some shadow) shape s.parts s.buckets ∷ [] }

abbrev pub is_of_job : ℕ → Option Shadow → Bool
is_of_job job None = false
is_of_job job (Some s) = nat_eq s.job job

abbrev pub is_shadow_of : ℕ → IndexView → Bool
is_shadow_of job i = is_of_job job i.shadow

-- without the shadows of a job
abbrev pub without_job : ℕ → SetView → SetView
without_job job s = record s { indexes = filter (λ i. not (is_shadow_of job i)) s.indexes }

-- the number whose place a shadow of the job is to take
abbrev pub aim_of : ℕ → IndexView → Option ℕ
aim_of job i = cond (is_shadow_of job i) (aim i.shadow) None

abbrev pub gives_way : ℕ → IndexView → Bool
gives_way job i = is_some (aim_of job i)

abbrev pub is_number : ℕ → Option ℕ → Bool
is_number n None = false
is_number n (Some m) = nat_eq m n

abbrev pub takes : ℕ → ℕ → IndexView → Bool
takes job n i = is_number n (aim_of job i)

-- no shadow any more, under this number
abbrev pub plain_as : ℕ → IndexView → IndexView
plain_as n i = record i { number = n; shadow = None }

abbrev pub unmarked : ℕ → IndexView → IndexView
unmarked job i = cond (is_shadow_of job i) (plain_as i.number i) i

abbrev pub or_itself : ℕ → IndexView → Option IndexView → IndexView
or_itself job i None = unmarked job i
or_itself job i (Some s) = plain_as i.number s

-- who stands in the place of an index: the shadow of the job that is to take it, or else itself
abbrev pub stands_for : ℕ → List IndexView → IndexView → IndexView
stands_for job is i = or_itself job i (find (takes job i.number) is)

-- each shadow of the job in the place and under the number of the index that it replaces, or else where it was
abbrev pub switched_in : ℕ → List IndexView → List IndexView
switched_in job is = map (stands_for job is) (filter (λ i. not (gives_way job i)) is)

abbrev pub switched : ℕ → SetView → SetView
switched job s = record s { indexes = switched_in job s.indexes }
