-- What a reply gives by itself, whatever history it answers, so that what is done with it meets the conditions of the crates below: the layout of a plan is one for the rows of its base, and the lists of a snapshot, and of a task's source, are of the index's shape, and ascend.
use Rattle.std.specs.List.{AllByRecursion}
use Rattle.partitions.specs.LayoutRules.{IsLayout}
use Rattle.rowsets.specs.RowsetView.{IsListOf}
use Rattle.front_defs.specs.declared.reply.Reply.{Reply}
use Rattle.front_defs.specs.declared.reply.Reply.TheVariants as reply

abbrev pub Gives : Reply → Type 0
Gives reply.Done = Unit {0}
Gives (reply.Begun txn plan) = IsLayout plan.base plan.layout
Gives (reply.Submitted placed) = Unit {0}
Gives (reply.Published txn place) = Unit {0}
Gives (reply.Committed txn place ahead) = Unit {0}
Gives (reply.Aborted txn) = Unit {0}
Gives (reply.Swept aborted cleaned) = Unit {0}
Gives (reply.Snap s) = AllByRecursion (λ l. IsListOf s.index l.value) s.lists
Gives (reply.Shown report) = Unit {0}
Gives (reply.Added job) = Unit {0}
Gives (reply.Cancelled job) = Unit {0}
Gives (reply.Advanced job state) = Unit {0}
Gives (reply.Taken task) = AllByRecursion (λ l. IsListOf task.source.index l.value) task.source.lists
Gives (reply.Given job state) = Unit {0}
Gives reply.BadName = Unit {0}
Gives reply.DbExists = Unit {0}
Gives reply.TooManyDbs = Unit {0}
Gives reply.UnknownDb = Unit {0}
Gives reply.TableExists = Unit {0}
Gives reply.TooManyTables = Unit {0}
Gives (reply.BadTable error) = Unit {0}
Gives reply.UnknownTable = Unit {0}
Gives (reply.BadPartition error) = Unit {0}
Gives reply.BadLabel = Unit {0}
Gives (reply.Used txn state) = Unit {0}
Gives reply.NoSuchTxn = Unit {0}
Gives (reply.WrongState state) = Unit {0}
Gives (reply.Expired since) = Unit {0}
Gives reply.NothingToPublish = Unit {0}
Gives reply.NothingToSweep = Unit {0}
Gives (reply.Busy job) = Unit {0}
Gives reply.TooManyJobs = Unit {0}
Gives reply.TooManyRollups = Unit {0}
Gives reply.DoubleName = Unit {0}
Gives (reply.BadAlter error) = Unit {0}
Gives reply.NoJob = Unit {0}
Gives reply.NothingToAdvance = Unit {0}
Gives reply.NoTask = Unit {0}
Gives (reply.Stale live) = Unit {0}
Gives (reply.TaskOver state) = Unit {0}
Gives reply.KeeperFault = Unit {0}
Gives (reply.BadJournal seq) = Unit {0}
Gives reply.NoMemory = Unit {0}
