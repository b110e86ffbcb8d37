use Rattle.std.proofs.Common.{sym, ◌∙◌}
use Rattle.journal_records.proofs.Encoded.{alone, seen, are_rows, fits_rows}
use Rattle.journal_records.proofs.rows_encoding.encode_rows.Goals as goal

pub from_bytes-requires : goal.from_bytes-requires
from_bytes-requires c =
    let bytes = alone _ _ c.args.rows.now c.new-bytes.ensures.items c.in_ok-put_rows.ensures.written in
    are_rows _ c.args.rows.now bytes (fits_rows c.args.rows.now (sym c.if-not-are_short_rows.ensures) c.requires.readable c.in_ok-put_rows.ensures.width)

pub returns-clause-spelled : goal.returns-clause-spelled
returns-clause-spelled c =
    let bytes = alone _ _ c.args.rows.now c.new-bytes.ensures.items c.in_ok-put_rows.ensures.written in
    c.from_bytes.ensures ∙ seen _ c.args.rows.now bytes (fits_rows c.args.rows.now (sym c.if-not-are_short_rows.ensures) c.requires.readable c.in_ok-put_rows.ensures.width)
