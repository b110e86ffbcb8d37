use Rattle.std.proofs.Common.{◌≡◌, ℕ, List, [], ◌∷◌, pos, subst, w64}
use Rattle.std.proofs.Common.{to_z, of_z}
use Rattle.sqlite.specs.declared.types.Value.TheVariants.{Int, Blob}
use Rattle.std.proofs.lemmas.Int.{to_z-of_z}
use Rattle.sqlite.specs.Held.{state}
use Rattle.sqlite.specs.State.{Executes}
use Rattle.keeper_sqlite.proofs.Meaning.{insert_text, adds}
use Rattle.keeper_sqlite.proofs.statements.insert.Goals as goal

pub returns : goal.returns
returns g c = λ clean recs holds last.
    let old = state g.S.Store c.args.connection.now in
    let new = state g.S.Store c.execute.new.self in
    let ran : Executes insert_text (Int (to_z w64 (of_z w64 c.args.seq)) ∷ Blob c.args.bytes.now ∷ []) old new c.execute.result = rw (c.params-to_sql.ensures, c.params-to_sql-2.ensures) at (c.execute.ensures.runs clean) in
    adds old new c.args.seq c.args.bytes.now recs c.execute.result holds.0 holds.1 last
    (subst (λ n. Executes insert_text (Int n ∷ Blob c.args.bytes.now ∷ []) old new c.execute.result) (to_z-of_z w64 c.args.seq c.ranges.seq) ran)
