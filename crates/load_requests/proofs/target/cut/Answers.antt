use Rattle.load_requests.proofs.Parts.{parts_end, parts_more}
use Rattle.load_requests.proofs.target.cut.Goals as goal

pub returns-in-empty : goal.returns-in-empty
returns-in-empty c =
    parts_end c.args.path.now c.split_at.result.0.now c.split_at.result.1.now c.run_length.result
    (record { count = c.run_length.ensures.count; first = c.split_at.ensures.front; left = c.split_at.ensures.back }) c.in-empty.len_below

pub returns-in-len1-up : goal.returns-in-len1-up
returns-in-len1-up c =
    parts_more c.args.path.now c.split_at.result.0.now c.split_at.result.1.now c.run_length.result
    (record { count = c.run_length.ensures.count; first = c.split_at.ensures.front; left = c.split_at.ensures.back }) c.in-len1-up.len_at_least
