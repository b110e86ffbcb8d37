use Rattle.std.proofs.Common.{sym, rules, subst, refl}
use Rattle.std.proofs.lemmas.Option.{slice_get_read, slice_get_past}
use Rattle.labels.specs.Index.{IsIndexed}
use Rattle.labels.proofs.Indexed.{finished_indexed, finished_at, placed_there, bound_somewhere}
use Rattle.labels.proofs.book.LabelBook.finish.Goals as goal

pub invariant_of-self : goal.invariant_of-self
invariant_of-self c =
    subst (λ bs. IsIndexed bs c.self.inside.last c.self.inside.places)
    (sym (finished_at c.args.txn c.args.state c.self.inside.bindings.items c.in-Some.place.now c.in-Some-get_mut.binding.now c.self.invariant.apart (search rules) (slice_get_read c.self.inside.bindings.items _ c.in-Some.place.now c.in-Some-get_mut.binding.now refl (search rules) (search rules))))
    (finished_indexed c.self.inside.bindings.items c.self.inside.last c.self.inside.places c.args.txn c.args.state c.self.invariant)

pub returns-in-Some-get_mut : goal.returns-in-Some-get_mut
returns-in-Some-get_mut c = rw (sym c.self.view_is) (finished_at c.args.txn c.args.state c.self.inside.bindings.items c.in-Some.place.now c.in-Some-get_mut.binding.now c.self.invariant.apart (search rules) (slice_get_read c.self.inside.bindings.items _ c.in-Some.place.now c.in-Some-get_mut.binding.now refl (search rules) (search rules)))

pub returns-in_default-get_mut : goal.returns-in_default-get_mut
returns-in_default-get_mut c = absurd (placed_there c.args.txn c.self.inside.bindings.items c.in-Some.place.now (search rules) (slice_get_past c.self.inside.bindings.items c.in-Some.place.now (search rules)))

pub returns-in_default : goal.returns-in_default
returns-in_default c = absurd (bound_somewhere c.args.txn c.args.self.now c.requires (search rules))
