use Rattle.std.proofs.Common.{refl}
use Rattle.front_defs.specs.declared.command.Command.TheVariants as command
use Rattle.load_server.specs.Reports.{failed, too_many_filtered, too_many_rows}
use Rattle.load_server.specs.Scripts.{reading}
use Rattle.load_server.proofs.BuildingFacts.{building_by, building_is}
use Rattle.load_server.proofs.Going.{answered_as, answered_done, by_any, by_as, by_done, by_lacking}
use Rattle.load_server.proofs.Loads.{is_built, reading_filtered, reading_many, reading_ready}
use Rattle.load_server.proofs.loading.proceed.Goals as goal

pub submit-requires : goal.submit-requires
submit-requires g c =
    c.requires (command.Submit c.args.txn c.in-Ready.built c.args.load.at) tt (refl, is_built c.args.load c.args.body.items c.args.plan c.in-Ready.built c.in-Ready.ensures.1.1)

pub returns-in-Ready : goal.returns-in-Ready
returns-in-Ready g c = λ seen own s cause.
    record {
      building = building_by c.in-Ready.built.targets;
      builds = building_is c.in-Ready.built.targets;
      answered = answered_done _ seen own _ _ _
          (answered_as _ seen own _ _ _ (reading_ready c.args.load c.args.body.items c.args.txn c.args.plan c.in-Ready.built c.in-Ready.counts c.in-Ready.ensures)
          (c.submit.ensures seen own s (cause (command.Submit c.args.txn c.in-Ready.built c.args.load.at) (refl, is_built c.args.load c.args.body.items c.args.plan c.in-Ready.built c.in-Ready.ensures.1.1))));
    }

pub returns-in-TooManyRows : goal.returns-in-TooManyRows
returns-in-TooManyRows g c = λ seen own s cause.
    by_done _ seen own (λ b. reading b c.args.load c.args.body.items c.args.txn c.args.plan) _ _
    (by_as _ seen own _ _ _ (λ b. reading_many b c.args.load c.args.body.items c.args.txn c.args.plan c.in-TooManyRows.ensures)
    (by_any _ seen own _ _ (c.abort.ensures (failed c.args.load.sent c.args.txn too_many_rows 0 0) c.too_many_rows-answer.ensures seen own s)))

pub returns-in-TooManyFiltered : goal.returns-in-TooManyFiltered
returns-in-TooManyFiltered g c = λ seen own s cause.
    by_done _ seen own (λ b. reading b c.args.load c.args.body.items c.args.txn c.args.plan) _ _
    (by_as _ seen own _ _ _ (λ b. reading_filtered b c.args.load c.args.body.items c.args.txn c.args.plan c.in-TooManyFiltered.counts c.in-TooManyFiltered.ensures)
    (by_any _ seen own _ _ (c.abort-in-TooManyFiltered.ensures (failed c.args.load.sent c.args.txn (too_many_filtered c.in-TooManyFiltered.counts.filtered c.in-TooManyFiltered.counts.total) c.in-TooManyFiltered.counts.filtered c.in-TooManyFiltered.counts.total) c.too_many_filtered-answer.ensures seen own s)))

pub returns-in-NoMemory : goal.returns-in-NoMemory
returns-in-NoMemory g c = λ seen own s cause. by_lacking _ seen own _ _ _ (c.give_up.ensures seen own s)
