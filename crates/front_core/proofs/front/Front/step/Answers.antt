-- What a front stands for after each command.
use Rattle.std.proofs.Common.{◌∷◌, sym, subst}
use Rattle.front_defs.specs.declared.command.Command.{Command}
use Rattle.front_defs.specs.declared.command.Command.TheVariants as command
use Rattle.front_defs.specs.declared.history.Entry.TheVariants.{Made}
use Rattle.front_defs.specs.History.{happened}
use Rattle.front_defs.specs.Legal.{Legal}
use Rattle.front_defs.specs.May.{May}
use Rattle.front_defs.specs.Stands.{Stands}
use Rattle.front_core.specs.Made.{made}
use Rattle.front_core.proofs.Going.{stands_on, legal_on}
use Rattle.front_core.proofs.Opens.{makes_db, makes_table, begins_load, ends_load}
use Rattle.front_laws.proofs.Histories.{kept}
use Rattle.front_core.proofs.Committing.{commits, commits_load}
use Rattle.front_core.proofs.Dropping.{drops_so, drops_table}
use Rattle.front_core.proofs.Sweeping.{sweeps_all, sweeps_so}
use Rattle.front_core.proofs.Publishing.{publishes_load}
use Rattle.front_core.proofs.Showing.{snaps}
use Rattle.front_core.proofs.Taking.{submits, takes_load}
use Rattle.front_core.proofs.front.Front.step.Goals as goal

pub returns-in-CreateDb-clause-stands : goal.returns-in-CreateDb-clause-stands
returns-in-CreateDb-clause-stands g c = λ H seat s l m.
    let k = c.in-CreateDb in
    subst (λ (x : Command). Stands c.create_db.new.self (Made (made seat x c.create_db.result) ∷ H)) (sym k.is)
    (stands_on c.args.self.now c.create_db.new.self H seat (command.CreateDb k.name k.if_not_exists) c.create_db.result c.vouch.ensures c.create_db.ensures.calm c.create_db.ensures.works c.create_db.ensures.kept
    (λ w o. makes_db c.args.self.now c.create_db.new.self (happened H) k.name k.if_not_exists (c.create_db.ensures.well w) c.vouch.ensures o) s)

pub returns-in-CreateTable-clause-stands : goal.returns-in-CreateTable-clause-stands
returns-in-CreateTable-clause-stands g c = λ H seat s l m.
    let k = c.in-CreateTable in
    subst (λ (x : Command). Stands c.create_table.new.self (Made (made seat x c.create_table.result) ∷ H)) (sym k.is)
    (stands_on c.args.self.now c.create_table.new.self H seat (command.CreateTable k.db k.table k.def k.if_not_exists) c.create_table.result c.vouch.ensures c.create_table.ensures.calm c.create_table.ensures.works c.create_table.ensures.kept
    (λ w o. makes_table c.args.self.now c.create_table.new.self (happened H) k.db k.table k.def k.if_not_exists (c.create_table.ensures.well w) c.vouch.ensures (kept H l).good.tidy o) s)

pub returns-in-Begin-clause-stands : goal.returns-in-Begin-clause-stands
returns-in-Begin-clause-stands g c = λ H seat s l m.
    let k = c.in-Begin in
    subst (λ (x : Command). Stands c.begin.new.self (Made (made seat x c.begin.result) ∷ H)) (sym k.is)
    (stands_on c.args.self.now c.begin.new.self H seat (command.Begin k.db k.table k.label k.two_phase k.at) c.begin.result c.vouch.ensures c.begin.ensures.calm c.begin.ensures.works c.begin.ensures.kept
    (λ w o. begins_load c.args.self.now c.begin.new.self (happened H) k.db k.table k.label k.two_phase k.at (c.begin.ensures.well w) c.vouch.ensures o) s)

pub returns-in-Submit-clause-stands : goal.returns-in-Submit-clause-stands
returns-in-Submit-clause-stands g c = λ H seat s l m.
    let k = c.in-Submit in
    subst (λ (x : Command). Stands c.submit.new.self (Made (made seat x c.submit.result) ∷ H)) (sym k.is)
    (stands_on c.args.self.now c.submit.new.self H seat (command.Submit k.txn k.built k.at) c.submit.result c.vouch.ensures c.submit.ensures.calm c.submit.ensures.works c.submit.ensures.kept
    (λ w o. takes_load c.args.self.now c.submit.new.self (happened H) k.txn k.built k.at c.submit.result w c.submit.ensures.answer (c.submit.ensures.well w) c.vouch.ensures (kept H l).good.tidy (record {
      shapes = c.a_submitted_load_is_of_its_table.ensures.shape H k.txn k.built k.at l (subst (May H) k.is m);
      built_is = c.a_submitted_load_is_of_its_table.ensures.built H k.txn k.built k.at (subst (May H) k.is m);
      for_base = c.submit.ensures.base w;
    }) o) s)

pub returns-in-Submit-clause-legal : goal.returns-in-Submit-clause-legal
returns-in-Submit-clause-legal g c = λ H seat s l m.
    let k = c.in-Submit in
    let may = subst (May H) k.is m in
    subst (λ (x : Command). Legal (Made (made seat x c.submit.result) ∷ H)) (sym k.is)
    (legal_on c.args.self.now H seat (command.Submit k.txn k.built k.at) c.submit.result c.vouch.ensures c.submit.ensures.works (λ e d. absurd (cc))
    (λ o. submits c.args.self.now (happened H) k.txn k.built k.at c.submit.result c.submit.ensures.answer o) s l may)

pub returns-in-Publish-clause-stands : goal.returns-in-Publish-clause-stands
returns-in-Publish-clause-stands g c = λ H seat s l m.
    let k = c.in-Publish in
    subst (λ (x : Command). Stands c.publish.new.self (Made (made seat x c.publish.result) ∷ H)) (sym k.is)
    (stands_on c.args.self.now c.publish.new.self H seat (command.Publish k.at) c.publish.result c.vouch.ensures c.publish.ensures.calm c.publish.ensures.works c.publish.ensures.kept
    (λ w o. publishes_load c.args.self.now c.publish.new.self (happened H) k.at (c.publish.ensures.well w) c.vouch.ensures (kept H l).good.tidy o) s)

pub returns-in-Abort-clause-stands : goal.returns-in-Abort-clause-stands
returns-in-Abort-clause-stands g c = λ H seat s l m.
    let k = c.in-Abort in
    subst (λ (x : Command). Stands c.abort.new.self (Made (made seat x c.abort.result) ∷ H)) (sym k.is)
    (stands_on c.args.self.now c.abort.new.self H seat (command.Abort k.db k.txn k.at) c.abort.result c.vouch.ensures c.abort.ensures.calm c.abort.ensures.works c.abort.ensures.kept
    (λ w o. ends_load c.args.self.now c.abort.new.self (happened H) k.db k.txn k.at (c.abort.ensures.well w) c.vouch.ensures o) s)

pub returns-in-Commit-clause-stands : goal.returns-in-Commit-clause-stands
returns-in-Commit-clause-stands g c = λ H seat s l m.
    let k = c.in-Commit in
    subst (λ (x : Command). Stands c.commit.new.self (Made (made seat x c.commit.result) ∷ H)) (sym k.is)
    (stands_on c.args.self.now c.commit.new.self H seat (command.Commit k.db k.txn k.at) c.commit.result c.vouch.ensures c.commit.ensures.calm c.commit.ensures.works c.commit.ensures.kept
    (λ w o. commits_load c.args.self.now c.commit.new.self (happened H) k.db k.txn k.at (c.commit.ensures.well w) c.vouch.ensures o) s)

pub returns-in-Commit-clause-legal : goal.returns-in-Commit-clause-legal
returns-in-Commit-clause-legal g c = λ H seat s l m.
    let k = c.in-Commit in
    subst (λ (x : Command). Legal (Made (made seat x c.commit.result) ∷ H)) (sym k.is)
    (legal_on c.args.self.now H seat (command.Commit k.db k.txn k.at) c.commit.result c.vouch.ensures c.commit.ensures.works (λ e d. absurd (cc))
    (λ o. commits c.args.self.now (happened H) k.db k.txn k.at c.commit.result c.commit.ensures.answer o) s l tt)

pub returns-in-Sweep-clause-stands : goal.returns-in-Sweep-clause-stands
returns-in-Sweep-clause-stands g c = λ H seat s l m.
    let k = c.in-Sweep in
    subst (λ (x : Command). Stands c.sweep.new.self (Made (made seat x c.sweep.result) ∷ H)) (sym k.is)
    (stands_on c.args.self.now c.sweep.new.self H seat (command.Sweep k.at) c.sweep.result c.vouch.ensures c.sweep.ensures.calm c.sweep.ensures.works c.sweep.ensures.kept
    (λ w o. sweeps_all c.args.self.now c.sweep.new.self (happened H) k.at (c.sweep.ensures.well w) c.vouch.ensures (kept H l).good.tidy o) s)

pub returns-in-Sweep-clause-legal : goal.returns-in-Sweep-clause-legal
returns-in-Sweep-clause-legal g c = λ H seat s l m.
    let k = c.in-Sweep in
    subst (λ (x : Command). Legal (Made (made seat x c.sweep.result) ∷ H)) (sym k.is)
    (legal_on c.args.self.now H seat (command.Sweep k.at) c.sweep.result c.vouch.ensures c.sweep.ensures.works (λ e d. absurd (cc))
    (λ o. sweeps_so c.args.self.now (happened H) k.at c.sweep.result c.sweep.ensures.answer o) s l tt)

pub returns-in-DropTable-clause-stands : goal.returns-in-DropTable-clause-stands
returns-in-DropTable-clause-stands g c = λ H seat s l m.
    let k = c.in-DropTable in
    subst (λ (x : Command). Stands c.drop_table.new.self (Made (made seat x c.drop_table.result) ∷ H)) (sym k.is)
    (stands_on c.args.self.now c.drop_table.new.self H seat (command.DropTable k.db k.table k.if_exists k.at) c.drop_table.result c.vouch.ensures c.drop_table.ensures.calm c.drop_table.ensures.works c.drop_table.ensures.kept
    (λ w o. drops_table c.args.self.now c.drop_table.new.self (happened H) k.db k.table k.if_exists k.at (c.drop_table.ensures.well w) c.vouch.ensures o) s)

pub returns-in-DropTable-clause-legal : goal.returns-in-DropTable-clause-legal
returns-in-DropTable-clause-legal g c = λ H seat s l m.
    let k = c.in-DropTable in
    subst (λ (x : Command). Legal (Made (made seat x c.drop_table.result) ∷ H)) (sym k.is)
    (legal_on c.args.self.now H seat (command.DropTable k.db k.table k.if_exists k.at) c.drop_table.result c.vouch.ensures c.drop_table.ensures.works (λ e d. absurd (cc))
    (λ o. drops_so c.args.self.now (happened H) k.db k.table k.if_exists k.at c.drop_table.result c.drop_table.ensures.answer o) s l tt)

pub returns-in-Snapshot-clause-legal : goal.returns-in-Snapshot-clause-legal
returns-in-Snapshot-clause-legal g c = λ H seat s l m.
    let k = c.in-Snapshot in
    subst (λ (x : Command). Legal (Made (made seat x c.snapshot.result) ∷ H)) (sym k.is)
    (legal_on c.args.self.now H seat (command.Snapshot k.db k.table k.query) c.snapshot.result c.vouch.ensures c.snapshot.ensures.works (λ e d. absurd (cc))
    (λ o. snaps c.args.self.now (happened H) k.db k.table k.query c.snapshot.result (c.transactions_are_of_live_tables.ensures.numbers H l) (λ table. c.stored_lists_fold_to_the_index.ensures.all H l table 0) c.snapshot.ensures.answer o) s l tt)
