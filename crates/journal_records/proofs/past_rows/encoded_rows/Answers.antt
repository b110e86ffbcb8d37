use Rattle.std.proofs.Common.{◌∙◌, arith}
use Rattle.journal_records.proofs.Encoded.{seen, are_rows, front_of, rest_within, front_is, behind_is}
use Rattle.journal_records.proofs.past_rows.encoded_rows.Goals as goal

pub overflow_sub-bytes : goal.overflow_sub-bytes
overflow_sub-bytes c = rest_within _ _ (front_of c.args.bytes.now c.in_ok-rest.rest.now (λ i. omega (arith, c.type_inv.bytes i)) c.in_ok-rest.ensures)

pub from_bytes-requires : goal.from_bytes-requires
from_bytes-requires c =
    let f = front_of c.args.bytes.now c.in_ok-rest.rest.now (λ i. omega (arith, c.type_inv.bytes i)) c.in_ok-rest.ensures in
    are_rows _ f.found (c.in_ok-from_slice.ensures.items ∙ c.split_at.ensures.front ∙ front_is _ _ f) f.fit

pub returns : goal.returns
returns c =
    let f = front_of c.args.bytes.now c.in_ok-rest.rest.now (λ i. omega (arith, c.type_inv.bytes i)) c.in_ok-rest.ensures in
    let rows = c.from_bytes.ensures ∙ seen _ f.found (c.in_ok-from_slice.ensures.items ∙ c.split_at.ensures.front ∙ front_is _ _ f) f.fit in
    let rest = c.split_at.ensures.back ∙ behind_is _ _ f in
    rw (rows, rest) f.read
