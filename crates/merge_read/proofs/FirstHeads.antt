-- A head that the first of others does not precede precedes all of them.
use Rattle.std.proofs.Common.{◌≡◌, ◌∙◌, List, [], ◌∷◌, true, false, not, refl, ap, sym}
use Rattle.std.specs.BinaryHeap.{IsUpperBound, lt_by_cmp}
use Rattle.std.specs.Ordering.{is_gt, is_lt}
use Rattle.std.specs.declared.cmp.Ordering.{Ordering}
use Rattle.std.specs.declared.cmp.Ordering.TheVariants.{Less, Equal, Greater}
use Rattle.merge_read.specs.HeadOrder.{head_cmp, heads_total}
use Rattle.merge_read.specs.declared.head.Head.{Head}

differ : {A : Type 0} → true ≡ false → A
differ e = cc

through : (best head y : Head) (o p : Ordering) → head_cmp best head ≡ o → head_cmp head y ≡ p → true ≡ not (is_gt o) → lt_by_cmp head_cmp best y ≡ false → is_lt p ≡ false
through best head y Greater p e f g l = differ g
through best head y Equal p e f g l = sym (ap is_lt (heads_total.congr best head y e ∙ f)) ∙ l
through best head y Less Equal e f g l = refl
through best head y Less Greater e f g l = refl
through best head y Less Less e f g l = differ (sym (ap is_lt (heads_total.trans best head y e f)) ∙ l)

pub before_all : (best head : Head) (items : List Head) → true ≡ not (is_gt (head_cmp best head)) → IsUpperBound head_cmp best items → IsUpperBound head_cmp head items
before_all best head [] g h = tt
before_all best head (y ∷ ys) g h =
    (sym (ap is_lt refl) ∙ through best head y (head_cmp best head) (head_cmp head y) refl refl g h.0, before_all best head ys g h.1)
