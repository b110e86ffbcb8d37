use Rattle.load_requests.proofs.Places.{Counted}
use Rattle.load_requests.proofs.values.count.Given as goal

abbrev pub invariant-loop-place : goal.invariant-loop-place
invariant-loop-place l = Counted l.name l.fields l.count l.place
