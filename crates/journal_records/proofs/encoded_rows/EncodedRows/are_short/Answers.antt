use Rattle.std.proofs.Common.{sym}
use Rattle.journal_records.proofs.Encoded.{rows_short}
use Rattle.journal_records.proofs.encoded_rows.EncodedRows.are_short.Goals as goal

pub returns : goal.returns
returns c = sym (rows_short c.args.self.now c.bytes-fit.ensures.fit)
