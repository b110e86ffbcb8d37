-- The options of a load are those of its separator, its ratio and its mode.
use Rattle.std.proofs.Common.{◌≡◌, ◌≤◌, ◌∙◌, ℕ, Bool, true, false, nat_le, Option, Some, sym, ap, ap₂, refl, IsTrue}
use Rattle.std.proofs.lemmas.Bool.{le-leb}
use Rattle.std.proofs.Math.Bool.{Bool-set}
use Rattle.std.proofs.Math.Bridge.{le_prop}
use Rattle.csv_load.specs.Options.{may_separate}
use Rattle.csv_load.specs.declared.options.Options.{Options}
use Rattle.load_requests.specs.Requests.{cut_at, filtered_at, options_at}

build : (b r : ℕ) (s : Bool) → IsTrue (may_separate b) → r ≤ 10000 → Options
build b r s separates within = record { separator = b; ratio = r; strict = s; separates = separates; within = within }

same : (b r : ℕ) (s : Bool) (g h : IsTrue (may_separate b)) (v w : r ≤ 10000) → build b r s g v ≡ build b r s h w
same b r s g h v w = ap₂ (build b r s) (Bool-set (may_separate b) true g h) (le_prop v w)

filters : (o : Options) (h : may_separate o.separator ≡ true) (fits : Bool) (k : nat_le o.ratio 10000 ≡ fits) → o ≡ filtered_at o.separator h o.ratio fits k o.strict
unfolding build
filters o h true k = same o.separator o.ratio o.strict o.separates h o.within _
filters o h false k = absurd (let g = le-leb o.ratio 10000 o.within in cc)

cuts : (o : Options) (may : Bool) (h : may_separate o.separator ≡ may) → o ≡ cut_at o.separator may h o.ratio o.strict
cuts o true h = filters o h (nat_le o.ratio 10000) refl
cuts o false h = absurd (let g = o.separates in cc)

pub options_are : (o : Options) (s r : Option ℕ) (strict : Bool) → s ≡ Some o.separator → r ≡ Some o.ratio → o.strict ≡ strict → o ≡ options_at s r strict
options_are o s r strict es er et =
    cuts o (may_separate o.separator) refl ∙ ap (options_at (Some o.separator) (Some o.ratio)) et ∙ sym (ap₂ (λ x y. options_at x y strict) es er)
