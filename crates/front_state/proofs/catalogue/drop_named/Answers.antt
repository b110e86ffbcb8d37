use Rattle.std.proofs.Common.{rules, not, nat_eq}
use Rattle.indexmap.proofs.CallerLemmas.{filter-RetainsPairs}
use Rattle.front_state.proofs.catalogue.drop_named.Goals as goal

pub returns : goal.returns
returns c = filter-RetainsPairs _ _ _ (λ k v b w g call. search rules) _ _ c.retain.ensures.filtered
