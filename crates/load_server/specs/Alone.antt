-- A core that no others share: it stands for pairs of one legal list, in which no call has a mark.
use Rattle.std.specs.Prelude.{◌≡◌, false, List, [], ◌∷◌}
use Rattle.front_defs.specs.declared.history.Call.{Call}
use Rattle.front_defs.specs.declared.history.Entry.{Entry}
use Rattle.front_defs.specs.declared.history.Entry.TheVariants.{Told, Made}
use Rattle.front_defs.specs.Legal.{Legal}
use Rattle.front_defs.specs.Stands.{Stands, View}

-- a call of a core without a keeper: it opened nothing, and no fault was counted
pub record IsUnmarked (c : Call) : Type 0 where
  pub opened : c.opened ≡ false
  pub rose : c.rose ≡ false
  pub took : c.took ≡ false
  pub faults_in : c.faults_in ≡ 0
  pub faults_out : c.faults_out ≡ 0

abbrev pub AllUnmarked : List Entry → Type 0
AllUnmarked [] = Unit {0}
AllUnmarked (Told e ∷ H) = AllUnmarked H
AllUnmarked (Made c ∷ H) = IsUnmarked c × AllUnmarked H

-- what it has seen and what are its own entries are one list, which is legal, and for which the front stands
pub record IsAlone (v : View) (seen own : List Entry) : Type 0 where
  pub stands : Stands v seen
  pub legal : Legal seen
  pub unmarked : AllUnmarked seen
  pub same : own ≡ seen
