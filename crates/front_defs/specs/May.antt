-- What a seat may give: a load is submitted as the plan of its Begin says, and built from its rows as that plan says; a piece is given of a task that was taken, and is what comes of it.
use Rattle.std.specs.Prelude.{◌≡◌, ℕ, List, [], ◌∷◌, Some, None, ◌⊎◌, map}
use Rattle.std.specs.List.{AllByRecursion, flat_map}
use Rattle.dl_values.specs.declared.cell.Cell.{Cell}
use Rattle.schema_models.specs.ShapeView.{ShapeView}
use Rattle.partitions.specs.LayoutView.{LayoutView}
use Rattle.rowsets.specs.RowsetView.{IsMadeFor, IsRowsetOf, rowset_rows}
use Rattle.shadow_writes.specs.declared.plan.Plan.{Plan}
use Rattle.shadow_writes.specs.declared.built.Built.{Built}
use Rattle.shadow_writes.specs.declared.built.Mapped.{Mapped}
use Rattle.shadow_writes.specs.declared.built.Mapped.TheVariants.{Sets, Bad}
use Rattle.shadow_writes.specs.declared.plan.Target.{Target}
use Rattle.row_map.specs.Maps.{Converts, bad_of, conv}
use Rattle.history_convert.specs.declared.task.Piece.{Piece}
use Rattle.history_convert.specs.declared.task.PieceResult.{PieceResult}
use Rattle.history_convert.specs.declared.task.PieceResult.TheVariants as piece_result
use Rattle.history_convert.specs.declared.task.Task.{Task}
use Rattle.schema_models.specs.Folds.{fold_of}
use Rattle.front_defs.specs.Indexes.{Index, mapped_index}
use Rattle.shadow_writes.specs.declared.built.TabletRows.{TabletRows}
use Rattle.front_defs.specs.declared.command.Command.{Command}
use Rattle.front_defs.specs.declared.command.Command.TheVariants as command
use Rattle.front_defs.specs.declared.reply.Reply.{Reply}
use Rattle.front_defs.specs.declared.reply.Reply.TheVariants as reply
use Rattle.front_defs.specs.declared.history.Entry.{Entry}
use Rattle.front_defs.specs.declared.history.Entry.TheVariants.{Told, Made}
use Rattle.front_defs.specs.Stored.{AreRowsOf, PlacedRows, sets_of}

-- the rows that a tablet gets, with its place
abbrev pub seen_set : TabletRows → PlacedRows
seen_set x = record { place = record { part = x.part; bucket = x.bucket }; rows = rowset_rows x.rows.value }

-- the fold of the rows in each tablet of the partitions that got one of them, by partition and bucket; each is made for the shape of the index
pub record SetsOf (layout : LayoutView) (x : Index) (rows : List (List Cell)) (sets : List TabletRows) : Type 0 where
  pub made : AllByRecursion (λ (s : TabletRows). IsMadeFor x.shape s.rows.value) sets
  pub folded : map seen_set sets ≡ sets_of layout x rows

-- the base gets the rows as they are
abbrev pub BaseOf : ShapeView → LayoutView → List (List Cell) → Mapped → Type 0
BaseOf base layout rows (Sets sets) = SetsOf layout (record { shape = base; map = None }) rows sets
BaseOf base layout rows (Bad row column) = ⊥

-- a target gets the converted rows, or the first row that fails
abbrev pub MappedOf : LayoutView → List (List Cell) → Target → Mapped → Type 0
MappedOf layout rows x (Sets sets) = Converts x.map rows × SetsOf layout (mapped_index x.map) rows sets
MappedOf layout rows x (Bad row column) = bad_of x.map rows ≡ Some (record { row = row; column = column })

abbrev pub AllMapped : LayoutView → List (List Cell) → List Target → List Mapped → Type 0
AllMapped layout rows [] [] = Unit {0}
AllMapped layout rows (x ∷ xs) (y ∷ ys) = MappedOf layout rows x y × AllMapped layout rows xs ys
AllMapped layout rows _ _ = ⊥

-- the base first, and then the targets of the plan in their order
abbrev pub TargetsOf : Plan → List (List Cell) → List Mapped → Type 0
TargetsOf plan rows [] = ⊥
TargetsOf plan rows (y ∷ ys) = BaseOf plan.base plan.layout rows y × AllMapped plan.layout rows plan.targets ys

-- what the building of a load makes of a plan and rows of its base
pub record IsBuilt (plan : Plan) (built : Built) : Type 0 where
  pub plan_is : built.plan ≡ plan
  pub rows : AreRowsOf plan.base plan.layout built.rows
  pub targets : TargetsOf plan built.rows built.targets

-- the reply began that transaction, and the load was built by its plan
abbrev pub PlannedBy : ℕ → Built → Reply → Type 0
PlannedBy txn built (reply.Begun id plan) = (txn ≡ id) × IsBuilt plan built
PlannedBy txn built _ = ⊥

-- what comes of a task: the converted rows of its source, or the first row that fails, or want of memory
abbrev pub source_rows : Task → List (List Cell)
source_rows task = fold_of task.map.from (flat_map (λ l. l) (map (λ l. rowset_rows l.value) task.source.lists))

abbrev pub Works : Task → PieceResult → Type 0
Works task (piece_result.Rows rows) = Converts task.map (source_rows task) × IsRowsetOf task.map.to (conv task.map (source_rows task)) rows.value
Works task (piece_result.Fault row column) = bad_of task.map (source_rows task) ≡ Some (record { row = row; column = column })
Works task piece_result.Back = Unit {0}

pub record PieceOf (task : Task) (piece : Piece) : Type 0 where
  pub number : piece.number ≡ task.number
  pub born : piece.born ≡ task.born
  pub job : piece.job ≡ task.job
  pub index : piece.index ≡ task.index
  pub part : piece.part ≡ task.part
  pub bucket : piece.bucket ≡ task.bucket
  pub work : Works task piece.result

-- the reply gave that task, and the piece is of it
abbrev pub WorkedBy : Piece → Reply → Type 0
WorkedBy piece (reply.Taken task) = PieceOf task piece
WorkedBy piece _ = ⊥

-- The command carries what this reply gave. Of a command that carries nothing this is never asked.
abbrev pub Carries : Command → Reply → Type 0
Carries (command.Submit txn built at) r = PlannedBy txn built r
Carries (command.Give piece at) r = WorkedBy piece r
Carries _ r = ⊥

-- some reply of the history gave what the command carries
abbrev pub HasCause : Command → List Entry → Type 0
HasCause c [] = ⊥
HasCause c (Told e ∷ H) = HasCause c H
HasCause c (Made x ∷ H) = Carries c x.reply ⊎ HasCause c H

-- the commands that carry something of the history
abbrev pub IsBound : Command → Type 0
IsBound (command.Submit txn built at) = Unit {0}
IsBound (command.Give piece at) = Unit {0}
IsBound _ = ⊥

-- a seat that has seen this history may give the command
abbrev pub May : List Entry → Command → Type 0
May H (command.Submit txn built at) = HasCause (command.Submit txn built at) H
May H (command.Give piece at) = HasCause (command.Give piece at) H
May H _ = Unit {0}
