use Rattle.std.proofs.Common.{◌≡◌, ℕ, subst, IfOk}
use Rattle.std.specs.Prelude.{codes}
use Rattle.reply_json.specs.Loads.{load_json}
use Rattle.serde_json.specs.Written.{compact_text}
use Rattle.load_server.specs.Reports.{report_of, reported}
use Rattle.load_server.proofs.Answering.{served_made}
use Rattle.load_server.proofs.report.delayed.Goals as goal

pub returns : goal.returns
unfolding reported
returns c = served_made _ (λ b. b.items) _ _ c.made.ensures
    (subst (λ (n : ℕ). IfOk c.render_began.result (λ b. b.items ≡ compact_text (load_json (report_of c.args.sent.now c.args.txn (codes "committed, not yet published") c.args.counts.filtered n c.args.counts.total (codes "Publish Timeout"))))) c.saturating_sub-loaded.ensures c.render_began.ensures)
