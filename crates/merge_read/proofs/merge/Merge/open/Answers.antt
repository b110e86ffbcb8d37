use Rattle.std.proofs.Common.{◌∙◌, Bool, List, length, ap}
use Rattle.merge_read.proofs.RunLemmas.{all_unread}
use Rattle.merge_read.specs.Lists.{stored}
use Rattle.merge_read.specs.Rests.{RowList, begun_of, unread}
use Rattle.merge_read.proofs.merge.Merge.open.Goals as goal

pub returns-clause-unread : goal.returns-clause-unread
returns-clause-unread g c =
    let rests = c.in_ok-stream.stream.rests in
    ap (λ (b : Bool). unread (begun_of b (length rests)) rests) c.in_ok-stream.ensures.begun ∙ all_unread rests ∙ ap (λ (r : List RowList). stored r) c.in_ok-stream.ensures.rests
