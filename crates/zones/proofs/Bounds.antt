-- How what is not below, or not above, stands to others.
use Rattle.std.proofs.Common.{◌≡◌, true, false, refl, sym, ap, ◌∙◌}
use Rattle.std.specs.Cmp.{IsTotalOrder}
use Rattle.std.specs.Ordering.{is_gt, is_lt, ordering_reverse}
use Rattle.std.specs.declared.cmp.Ordering.{Ordering}
use Rattle.std.specs.declared.cmp.Ordering.TheVariants.{Less, Equal, Greater}

is_less : (c : Ordering) → is_lt c ≡ true → c ≡ Less
is_less Less e = cc
is_less Equal e = cc
is_less Greater e = cc

is_greater : (c : Ordering) → is_gt c ≡ true → c ≡ Greater
is_greater Less e = cc
is_greater Equal e = cc
is_greater Greater e = cc

greater_back : (c : Ordering) → is_gt (ordering_reverse c) ≡ is_lt c
greater_back Less = refl
greater_back Equal = refl
greater_back Greater = refl

less_back : (c : Ordering) → is_lt (ordering_reverse c) ≡ is_gt c
less_back Less = refl
less_back Equal = refl
less_back Greater = refl

module _ {K : Type 0} {cmp : K → K → Ordering} (o : IsTotalOrder cmp) where
  pub greater_less : (x y : K) → is_gt (cmp x y) ≡ is_lt (cmp y x)
  greater_less x y = ap is_gt (o.antisymm x y) ∙ greater_back (cmp y x)

  pub less_greater : (x y : K) → is_lt (cmp x y) ≡ is_gt (cmp y x)
  less_greater x y = ap is_lt (o.antisymm x y) ∙ less_back (cmp y x)

  -- x is not above y, and y is below z
  pub up_to_below : (x y z : K) → is_gt (cmp x y) ≡ false → is_lt (cmp y z) ≡ true → is_lt (cmp x z) ≡ true
  up_to_below x y z a b = go (cmp x y) refl
    where
      go : (c : Ordering) → cmp x y ≡ c → is_lt (cmp x z) ≡ true
      go Less e = ap is_lt (o.trans x y z e (is_less (cmp y z) b))
      go Equal e = ap is_lt (o.congr x y z e) ∙ b
      go Greater e = let g = ap is_gt e in cc

  -- x is not above y, nor y above z
  pub up_to_up_to : (x y z : K) → is_gt (cmp x y) ≡ false → is_gt (cmp y z) ≡ false → is_gt (cmp x z) ≡ false
  up_to_up_to x y z a b = go (cmp x y) refl (cmp y z) refl
    where
      go : (c : Ordering) → cmp x y ≡ c → (d : Ordering) → cmp y z ≡ d → is_gt (cmp x z) ≡ false
      go Less e Less f = ap is_gt (o.trans x y z e f)
      go Less e Equal f = greater_less x z ∙ ap is_lt (sym (o.congr y z x f) ∙ o.antisymm y x) ∙ less_back (cmp x y) ∙ a
      go Less e Greater f = let g = ap is_gt f in cc
      go Equal e d f = ap is_gt (o.congr x y z e) ∙ b
      go Greater e d f = let g = ap is_gt e in cc

  -- x is not below y, and y is above z
  pub down_to_above : (x y z : K) → is_lt (cmp x y) ≡ false → is_gt (cmp y z) ≡ true → is_gt (cmp x z) ≡ true
  down_to_above x y z a b = go (cmp x y) refl
    where
      go : (c : Ordering) → cmp x y ≡ c → is_gt (cmp x z) ≡ true
      go Less e = let g = ap is_lt e in cc
      go Equal e = ap is_gt (o.congr x y z e) ∙ b
      go Greater e =
          let low : cmp z y ≡ Less = is_less (cmp z y) (sym (greater_less y z) ∙ b) in
          let lower : cmp y x ≡ Less = is_less (cmp y x) (sym (greater_less x y) ∙ ap is_gt e) in
          greater_less x z ∙ ap is_lt (o.trans z y x low lower)

  -- x is not below y, nor y below z
  pub down_to_down_to : (x y z : K) → is_lt (cmp x y) ≡ false → is_lt (cmp y z) ≡ false → is_lt (cmp x z) ≡ false
  down_to_down_to x y z a b = less_greater x z ∙ up_to_up_to z y x (sym (less_greater y z) ∙ b) (sym (less_greater x y) ∙ a)
