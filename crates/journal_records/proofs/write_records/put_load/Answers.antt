use Rattle.std.proofs.Common.{◌++◌}
use Rattle.journal_records.specs.Spelling.{number64, text, flag, optional, rows, load}
use Rattle.journal_records.proofs.Appends.{then, of_text}
use Rattle.journal_records.proofs.write_records.put_load.Goals as goal

pub returns : goal.returns
unfolding load
returns c =
    let l = c.args.load.now in
    let q = c.put_encoded.new.out.items in
    let o0 = c.args.out.now.items in
    let o1 = c.put_number64.new.out.items in
    let o2 = c.put_number64-2.new.out.items in
    let o3 = c.put_text.new.out.items in
    let o4 = c.put_number64-3.new.out.items in
    let o5 = c.put_flag.new.out.items in
    let o6 = c.put_number64-4.new.out.items in
    let o7 = c.put_job.new.out.items in
    let e3 = of_text o2 o3 c.bytes.result.now l.label c.bytes.ensures c.in_ok-put_text.ensures in
    let b6 = rows l.rows in
    let b5 = optional number64 l.cancelled ++ b6 in
    let b4 = number64 l.schema ++ b5 in
    let b3 = flag l.two_phase ++ b4 in
    let b2 = number64 l.at ++ b3 in
    let b1 = text l.label ++ b2 in
    let b0 = number64 l.table ++ b1 in
    then o0 o1 q (number64 l.txn) b0 c.in_ok-put_number64.ensures
    (then o1 o2 q (number64 l.table) b1 c.in_ok-put_number64-2.ensures
    (then o2 o3 q (text l.label) b2 e3
    (then o3 o4 q (number64 l.at) b3 c.in_ok-put_number64-3.ensures
    (then o4 o5 q (flag l.two_phase) b4 c.in_ok-put_flag.ensures
    (then o5 o6 q (number64 l.schema) b5 c.in_ok-put_number64-4.ensures
    (then o6 o7 q (optional number64 l.cancelled) b6 c.in_ok-put_job.ensures c.in_ok-put_encoded.ensures))))))
