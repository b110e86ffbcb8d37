-- Merging cells is associative; SUM, MIN and MAX commute. The proofs stand here, since an impl cites them.
use Rattle.std.proofs.Common.{◌≡◌, ◌⊎◌, inl, inr, ℕ, ℤ, ◌+◌, ◌%◌, ◌^◌, Bool, true, false, cond, refl, sym, ap, ap₂, ◌∙◌, subst, arith, w64}
use Rattle.std.proofs.Math.Nat.{add-mod-mod, mod-add-mod}
use Rattle.std.proofs.lemmas.Int.{of_z-to_z}
use Rattle.std.specs.Int.{int_wrapping_add, cast_unsigned, cast_signed}
use Rattle.std.specs.Cmp.{IsTotalOrder}
use Rattle.std.specs.FinMap.{IsAntisymmetric}
use Rattle.std.specs.Ordering.{is_gt, ordering_reverse}
use Rattle.std.specs.declared.cmp.Ordering.{Ordering}
use Rattle.std.specs.declared.cmp.Ordering.TheVariants.{Less, Equal, Greater}
use Rattle.std.proofs.lemmas.Cmp.{upto}
use Rattle.agg_functions.specs.Merge.{MergeLaws, skip_null, sum, lesser, greater, merged_cell}
use Rattle.dl_values.specs.declared.cell.Cell.{Cell}
use Rattle.dl_values.specs.declared.cell.Cell.TheVariants as cell
use Rattle.dl_values.specs.declared.agg_kind.AggKind.{AggKind}
use Rattle.dl_values.specs.declared.agg_kind.AggKind.TheVariants as kind
use Rattle.dl_values.specs.OrderLemmas.{cells_total, cells_same}

kept_sum : (x y : ℤ) → cast_unsigned w64 (int_wrapping_add w64 x y) ≡ (cast_unsigned w64 x + cast_unsigned w64 y) % 2 ^ 64
kept_sum x y = of_z-to_z w64 ((cast_unsigned w64 x + cast_unsigned w64 y) % 2 ^ 64) (omega arith)

pub wrapping_assoc : (x y z : ℤ) → int_wrapping_add w64 (int_wrapping_add w64 x y) z ≡ int_wrapping_add w64 x (int_wrapping_add w64 y z)
wrapping_assoc x y z =
    let X : ℕ = cast_unsigned w64 x in
    let Y : ℕ = cast_unsigned w64 y in
    let Z : ℕ = cast_unsigned w64 z in
    ap (λ n. cast_signed w64 ((n + Z) % 2 ^ 64)) (kept_sum x y)
    ∙ ap (λ n. cast_signed w64 n) (mod-add-mod (X + Y) (2 ^ 64) Z ∙ ap (λ n. n % 2 ^ 64) (omega arith) ∙ sym (add-mod-mod X (Y + Z) (2 ^ 64)))
    ∙ ap (λ n. cast_signed w64 ((X + n) % 2 ^ 64)) (sym (kept_sum y z))

pub wrapping_comm : (x y : ℤ) → int_wrapping_add w64 x y ≡ int_wrapping_add w64 y x
wrapping_comm x y = ap (λ n. cast_signed w64 (n % 2 ^ 64)) (omega arith)

-- ---- the lesser and the greater of two, in a total order

module _ {K : Type 0} {cmp : K → K → Ordering} (o : IsTotalOrder cmp) where
  abbrev low : K → K → K
  low a b = cond (is_gt (cmp a b)) b a

  abbrev high : K → K → K
  high a b = cond (is_gt (cmp a b)) a b

  gt_is : (c : Ordering) → is_gt c ≡ true → c ≡ Greater
  gt_is Less e = cc
  gt_is Equal e = cc
  gt_is Greater e = refl

  gt_trans : (a b c : K) → is_gt (cmp a b) ≡ true → is_gt (cmp b c) ≡ true → is_gt (cmp a c) ≡ true
  gt_trans a b c p q =
      let ba : cmp b a ≡ Less = o.antisymm b a ∙ ap ordering_reverse (gt_is (cmp a b) p) in
      let cb : cmp c b ≡ Less = o.antisymm c b ∙ ap ordering_reverse (gt_is (cmp b c) q) in
      ap is_gt (o.antisymm a c ∙ ap ordering_reverse (o.trans c b a cb ba))

  low_assoc : (a b c : K) → low (low a b) c ≡ low a (low b c)
  low_assoc a b c = go (is_gt (cmp a b)) (is_gt (cmp b c)) refl refl
    where
      go : (p q : Bool) → is_gt (cmp a b) ≡ p → is_gt (cmp b c) ≡ q → low (cond p b a) c ≡ low a (cond q c b)
      go true true e f = rw (f, gt_trans a b c e f) refl
      go true false e f = rw (e, f) refl
      go false true e f = refl
      go false false e f = rw (upto o a b c e f, e) refl

  pub high_assoc : (a b c : K) → high (high a b) c ≡ high a (high b c)
  high_assoc a b c = go (is_gt (cmp a b)) (is_gt (cmp b c)) refl refl
    where
      go : (p q : Bool) → is_gt (cmp a b) ≡ p → is_gt (cmp b c) ≡ q → high (cond p a b) c ≡ high a (cond q b c)
      go true true e f = rw (gt_trans a b c e f, e) refl
      go true false e f = refl
      go false true e f = rw (e, f) refl
      go false false e f = rw (f, upto o a b c e f) refl

  low_comm : IsAntisymmetric cmp → (a b : K) → low a b ≡ low b a
  low_comm same a b = go (cmp a b) refl
    where
      go : (c : Ordering) → cmp a b ≡ c → low a b ≡ low b a
      go Less e = rw (e, o.antisymm b a ∙ ap ordering_reverse e) refl
      go Greater e = rw (e, o.antisymm b a ∙ ap ordering_reverse e) refl
      go Equal e = subst (λ z. low a z ≡ low z a) (same a b e) refl

  high_comm : IsAntisymmetric cmp → (a b : K) → high a b ≡ high b a
  high_comm same a b = go (cmp a b) refl
    where
      go : (c : Ordering) → cmp a b ≡ c → high a b ≡ high b a
      go Less e = rw (e, o.antisymm b a ∙ ap ordering_reverse e) refl
      go Greater e = rw (e, o.antisymm b a ∙ ap ordering_reverse e) refl
      go Equal e = subst (λ z. high a z ≡ high z a) (same a b e) refl

  -- each is one of the two
  low_one : (P : K → Type 0) (a b : K) → P a → P b → P (low a b)
  low_one P a b x y = go (is_gt (cmp a b))
    where
      go : (p : Bool) → P (cond p b a)
      go true = y
      go false = x

  high_one : (P : K → Type 0) (a b : K) → P a → P b → P (high a b)
  high_one P a b x y = go (is_gt (cmp a b))
    where
      go : (p : Bool) → P (cond p a b)
      go true = x
      go false = y

-- ---- a null counts for nothing

abbrev pub is_null : Cell → Bool
is_null cell.Null = true
is_null _ = false

null_is : (a : Cell) → is_null a ≡ true → a ≡ cell.Null
null_is cell.Null e = refl
null_is (cell.Int x) e = cc
null_is (cell.Day x) e = cc
null_is (cell.Text x) e = cc

module _ (f : Cell → Cell → Cell) where
  null_left : (b : Cell) → skip_null f cell.Null b ≡ b
  null_left cell.Null = refl
  null_left (cell.Int x) = refl
  null_left (cell.Day x) = refl
  null_left (cell.Text x) = refl

  skip_at : (a b : Cell) → is_null a ≡ false → is_null b ≡ false → skip_null f a b ≡ f a b
  skip_at cell.Null b p q = cc
  skip_at (cell.Int x) cell.Null p q = cc
  skip_at (cell.Day x) cell.Null p q = cc
  skip_at (cell.Text x) cell.Null p q = cc
  skip_at (cell.Int x) (cell.Int y) p q = refl
  skip_at (cell.Int x) (cell.Day y) p q = refl
  skip_at (cell.Int x) (cell.Text y) p q = refl
  skip_at (cell.Day x) (cell.Int y) p q = refl
  skip_at (cell.Day x) (cell.Day y) p q = refl
  skip_at (cell.Day x) (cell.Text y) p q = refl
  skip_at (cell.Text x) (cell.Int y) p q = refl
  skip_at (cell.Text x) (cell.Day y) p q = refl
  skip_at (cell.Text x) (cell.Text y) p q = refl

  module _ (assoc : (a b c : Cell) → f (f a b) c ≡ f a (f b c)) (some : (a b : Cell) → is_null a ≡ false → is_null b ≡ false → is_null (f a b) ≡ false) where
    skip_assoc : (a b c : Cell) → skip_null f (skip_null f a b) c ≡ skip_null f a (skip_null f b c)
    skip_assoc a b c = go (is_null a) (is_null b) (is_null c) refl refl refl
      where
        go : (p q r : Bool) → is_null a ≡ p → is_null b ≡ q → is_null c ≡ r → skip_null f (skip_null f a b) c ≡ skip_null f a (skip_null f b c)
        go p q true d e g = subst (λ z. skip_null f (skip_null f a b) z ≡ skip_null f a (skip_null f b z)) (sym (null_is c g)) refl
        go p true false d e g = subst (λ z. skip_null f (skip_null f a z) c ≡ skip_null f a (skip_null f z c)) (sym (null_is b e)) (ap (λ z. skip_null f a z) (sym (null_left c)))
        go true false false d e g = subst (λ z. skip_null f (skip_null f z b) c ≡ skip_null f z (skip_null f b c)) (sym (null_is a d)) (ap (λ z. skip_null f z c) (null_left b) ∙ sym (null_left (skip_null f b c)))
        go false false false d e g = ap (λ z. skip_null f z c) (skip_at a b d e) ∙ skip_at (f a b) c (some a b d e) g ∙ assoc a b c ∙ sym (skip_at a (f b c) d (some b c e g)) ∙ ap (λ z. skip_null f a z) (sym (skip_at b c e g))

  skip_comm : ((a b : Cell) → is_null a ≡ false → is_null b ≡ false → f a b ≡ f b a) → (a b : Cell) → skip_null f a b ≡ skip_null f b a
  skip_comm comm a b = go (is_null a) (is_null b) refl refl
    where
      go : (p q : Bool) → is_null a ≡ p → is_null b ≡ q → skip_null f a b ≡ skip_null f b a
      go p true d e = subst (λ z. skip_null f a z ≡ skip_null f z a) (sym (null_is b e)) (sym (null_left a))
      go true false d e = subst (λ z. skip_null f z b ≡ skip_null f b z) (sym (null_is a d)) (null_left b)
      go false false d e = skip_at a b d e ∙ comm a b d e ∙ sym (skip_at b a e d)

-- ---- sums

-- whether a cell is an integer
abbrev is_int : Cell → Bool
is_int (cell.Int x) = true
is_int _ = false

int_is : (a : Cell) → is_int a ≡ true → (x : ℤ) × (a ≡ cell.Int x)
int_is cell.Null e = cc
int_is (cell.Int x) e = (x, refl)
int_is (cell.Day x) e = cc
int_is (cell.Text x) e = cc

sum_left : (a b : Cell) → is_int a ≡ true → is_int b ≡ false → sum a b ≡ a
sum_left cell.Null b e f = cc
sum_left (cell.Day x) b e f = cc
sum_left (cell.Text x) b e f = cc
sum_left (cell.Int x) cell.Null e f = refl
sum_left (cell.Int x) (cell.Int y) e f = cc
sum_left (cell.Int x) (cell.Day y) e f = refl
sum_left (cell.Int x) (cell.Text y) e f = refl

sum_right : (a b : Cell) → is_int a ≡ false → is_int b ≡ true → sum a b ≡ b
sum_right a cell.Null e f = cc
sum_right a (cell.Day y) e f = cc
sum_right a (cell.Text y) e f = cc
sum_right cell.Null (cell.Int y) e f = refl
sum_right (cell.Int x) (cell.Int y) e f = cc
sum_right (cell.Day x) (cell.Int y) e f = refl
sum_right (cell.Text x) (cell.Int y) e f = refl

sum_neither : (a b : Cell) → is_int a ≡ false → is_int b ≡ false → sum a b ≡ greater a b
sum_neither (cell.Int x) b e f = cc
sum_neither cell.Null cell.Null e f = refl
sum_neither cell.Null (cell.Int y) e f = cc
sum_neither cell.Null (cell.Day y) e f = refl
sum_neither cell.Null (cell.Text y) e f = refl
sum_neither (cell.Day x) cell.Null e f = refl
sum_neither (cell.Day x) (cell.Int y) e f = cc
sum_neither (cell.Day x) (cell.Day y) e f = refl
sum_neither (cell.Day x) (cell.Text y) e f = refl
sum_neither (cell.Text x) cell.Null e f = refl
sum_neither (cell.Text x) (cell.Int y) e f = cc
sum_neither (cell.Text x) (cell.Day y) e f = refl
sum_neither (cell.Text x) (cell.Text y) e f = refl

sum_ints : (a b : Cell) → is_int a ≡ true → is_int b ≡ true → is_int (sum a b) ≡ true
sum_ints a b e f =
    let x = int_is a e in
    let y = int_is b f in
    ap₂ (λ u v. is_int (sum u v)) x.1 y.1

greater_other : (a b : Cell) → is_int a ≡ false → is_int b ≡ false → is_int (greater a b) ≡ false
greater_other a b e f = high_one cells_total (λ z. is_int z ≡ false) a b e f

sum_assoc : (a b c : Cell) → sum (sum a b) c ≡ sum a (sum b c)
sum_assoc a b c = go (is_int a) (is_int b) (is_int c) refl refl refl
  where
    go : (p q r : Bool) → is_int a ≡ p → is_int b ≡ q → is_int c ≡ r → sum (sum a b) c ≡ sum a (sum b c)
    go true true true e f g =
        let x = int_is a e in
        let y = int_is b f in
        let z = int_is c g in
        ap₂ (λ u v. sum (sum u v) c) x.1 y.1 ∙ ap (λ w. sum (sum (cell.Int x.0) (cell.Int y.0)) w) z.1 ∙ ap cell.Int (wrapping_assoc x.0 y.0 z.0)
        ∙ sym (ap₂ (λ u v. sum u (sum v c)) x.1 y.1 ∙ ap (λ w. sum (cell.Int x.0) (sum (cell.Int y.0) w)) z.1)
    go true true false e f g = sum_left (sum a b) c (sum_ints a b e f) g ∙ ap (sum a) (sym (sum_left b c f g))
    go true false true e f g = ap (λ z. sum z c) (sum_left a b e f) ∙ ap (sum a) (sym (sum_right b c f g))
    go true false false e f g = ap (λ z. sum z c) (sum_left a b e f) ∙ sum_left a c e g ∙ sym (ap (sum a) (sum_neither b c f g) ∙ sum_left a (greater b c) e (greater_other b c f g))
    go false true true e f g = ap (λ z. sum z c) (sum_right a b e f) ∙ sym (sum_right a (sum b c) e (sum_ints b c f g))
    go false true false e f g = ap (λ z. sum z c) (sum_right a b e f) ∙ sum_left b c f g ∙ sym (ap (sum a) (sum_left b c f g) ∙ sum_right a b e f)
    go false false true e f g = ap (λ z. sum z c) (sum_neither a b e f) ∙ sum_right (greater a b) c (greater_other a b e f) g ∙ sym (ap (sum a) (sum_right b c f g) ∙ sum_right a c e g)
    go false false false e f g = ap (λ z. sum z c) (sum_neither a b e f) ∙ sum_neither (greater a b) c (greater_other a b e f) g ∙ high_assoc cells_total a b c ∙ sym (ap (sum a) (sum_neither b c f g) ∙ sum_neither a (greater b c) e (greater_other b c f g))

sum_comm_all : (a b : Cell) → sum a b ≡ sum b a
sum_comm_all a b = go (is_int a) (is_int b) refl refl
  where
    go : (p q : Bool) → is_int a ≡ p → is_int b ≡ q → sum a b ≡ sum b a
    go true true e f =
        let x = int_is a e in
        let y = int_is b f in
        ap₂ (λ u v. sum u v) x.1 y.1 ∙ ap cell.Int (wrapping_comm x.0 y.0) ∙ sym (ap₂ (λ u v. sum v u) x.1 y.1)
    go true false e f = sum_left a b e f ∙ sym (sum_right b a f e)
    go false true e f = sum_right a b e f ∙ sym (sum_left b a f e)
    go false false e f = sum_neither a b e f ∙ high_comm cells_total cells_same a b ∙ sym (sum_neither b a f e)

sum_some : (a b : Cell) → is_null a ≡ false → is_null b ≡ false → is_null (sum a b) ≡ false
sum_some a b p q = go (is_int a) (is_int b) refl refl
  where
    go : (c d : Bool) → is_int a ≡ c → is_int b ≡ d → is_null (sum a b) ≡ false
    go true true e f =
        let x = int_is a e in
        let y = int_is b f in
        ap₂ (λ u v. is_null (sum u v)) x.1 y.1
    go true false e f = ap is_null (sum_left a b e f) ∙ p
    go false true e f = ap is_null (sum_right a b e f) ∙ q
    go false false e f = ap is_null (sum_neither a b e f) ∙ high_one cells_total (λ z. is_null z ≡ false) a b p q

-- ---- the merge of each kind

lesser_some : (a b : Cell) → is_null a ≡ false → is_null b ≡ false → is_null (lesser a b) ≡ false
lesser_some a b p q = low_one cells_total (λ z. is_null z ≡ false) a b p q

greater_some : (a b : Cell) → is_null a ≡ false → is_null b ≡ false → is_null (greater a b) ≡ false
greater_some a b p q = high_one cells_total (λ z. is_null z ≡ false) a b p q

pub merge_assoc : (k : AggKind) (a b c : Cell) → merged_cell k (merged_cell k a b) c ≡ merged_cell k a (merged_cell k b c)
merge_assoc kind.Sum a b c = skip_assoc sum sum_assoc sum_some a b c
merge_assoc kind.Min a b c = skip_assoc lesser (low_assoc cells_total) lesser_some a b c
merge_assoc kind.Max a b c = skip_assoc greater (high_assoc cells_total) greater_some a b c
merge_assoc kind.Replace a b c = refl
merge_assoc kind.ReplaceIfNotNull a b c = skip_assoc (λ a b. b) (λ a b c. refl) (λ a b p q. q) a b c

pub min_comm : (a b : Cell) → merged_cell kind.Min a b ≡ merged_cell kind.Min b a
min_comm a b = skip_comm lesser (λ a b p q. low_comm cells_total cells_same a b) a b

pub max_comm : (a b : Cell) → merged_cell kind.Max a b ≡ merged_cell kind.Max b a
max_comm a b = skip_comm greater (λ a b p q. high_comm cells_total cells_same a b) a b

skip_some : (f : Cell → Cell → Cell) → ((a b : Cell) → is_null a ≡ false → is_null b ≡ false → is_null (f a b) ≡ false) → (a b : Cell) → is_null a ≡ false → is_null b ≡ false → is_null (skip_null f a b) ≡ false
skip_some f some a b p q = ap is_null (skip_at f a b p q) ∙ some a b p q

-- the merge of two cells that are not null is not null
pub merged_some : (k : AggKind) (a b : Cell) → is_null a ≡ false → is_null b ≡ false → is_null (merged_cell k a b) ≡ false
merged_some kind.Sum a b p q = skip_some sum sum_some a b p q
merged_some kind.Min a b p q = skip_some lesser lesser_some a b p q
merged_some kind.Max a b p q = skip_some greater greater_some a b p q
merged_some kind.Replace a b p q = q
merged_some kind.ReplaceIfNotNull a b p q = skip_some (λ a b. b) (λ a b p q. q) a b p q

pub sum_comm : (a b : Cell) → merged_cell kind.Sum a b ≡ merged_cell kind.Sum b a
sum_comm a b = skip_comm sum (λ a b p q. sum_comm_all a b) a b

-- a newer null leaves the old cell, but under REPLACE
pub null_after : (k : AggKind) (a : Cell) → (k ≡ kind.Replace → ⊥) → merged_cell k a cell.Null ≡ a
null_after kind.Sum a n = refl
null_after kind.Min a n = refl
null_after kind.Max a n = refl
null_after kind.Replace a n = absurd (n refl)
null_after kind.ReplaceIfNotNull a n = refl

-- an older null counts for nothing
pub null_before : (k : AggKind) (b : Cell) → merged_cell k cell.Null b ≡ b
null_before kind.Sum b = null_left sum b
null_before kind.Min b = null_left lesser b
null_before kind.Max b = null_left greater b
null_before kind.Replace b = refl
null_before kind.ReplaceIfNotNull b = null_left (λ a b. b) b

pub kind_laws : (k : AggKind) → MergeLaws (merged_cell k)
kind_laws k = record { assoc = merge_assoc k; starts = null_before k; null = null k }
  where
    null : (k : AggKind) → ((a : Cell) → merged_cell k a cell.Null ≡ a) ⊎ ((a : Cell) → merged_cell k a cell.Null ≡ cell.Null)
    null kind.Sum = inl (λ a. refl)
    null kind.Min = inl (λ a. refl)
    null kind.Max = inl (λ a. refl)
    null kind.Replace = inr (λ a. refl)
    null kind.ReplaceIfNotNull = inl (λ a. refl)
