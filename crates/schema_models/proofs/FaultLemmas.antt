-- The first fault of columns, column by column.
use Rattle.std.proofs.Common.{◌≡◌, ℕ, ◌+◌, ◌<◌, List, [], ◌∷◌, ◌++◌, length, get_or, take, drop, Option, Some, None, refl, sym, ap, ◌∙◌}
use Rattle.schema_models.specs.Faults.{first_of}
use Rattle.schema_models.specs.ShapeRules.{column_faults, faults_after}
use Rattle.schema_models.specs.declared.column_def.ColumnDef.{ColumnDef}
use Rattle.schema_models.specs.declared.model.Model.{Model}
use Rattle.schema_models.specs.declared.shape_error.ShapeError.{ShapeError}
use Rattle.schema_models.proofs.Lists.{cut, front}

first_none : {E : Type 0} (xs ys : List (Option E)) → None ≡ first_of xs → first_of (xs ++ ys) ≡ first_of ys
first_none [] ys e = refl
first_none (None ∷ xs) ys e = first_none xs ys e
first_none (Some x ∷ xs) ys e = cc

first_some : {E : Type 0} (xs ys : List (Option E)) (x : E) → Some x ≡ first_of xs → first_of (xs ++ ys) ≡ Some x
first_some [] ys x e = cc
first_some (None ∷ xs) ys x e = first_some xs ys x e
first_some (Some y ∷ xs) ys x e = sym e

-- the faults from a column on are its own and those after it
turn : (m : Model) (cs : List ColumnDef) (i : ℕ) (c : ColumnDef) → i < length cs → c ≡ get_or cs i c
    → faults_after m (take i cs) (drop i cs) ≡ column_faults m (take i cs) c ++ faults_after m (take (i + 1) cs) (drop (i + 1) cs)
turn m cs i c h e = ap (faults_after m (take i cs)) (cut cs i c h e) ∙ ap (λ b. column_faults m (take i cs) c ++ faults_after m b (drop (i + 1) cs)) (sym (front cs i c h e))

pub column_passes : (m : Model) (cs : List ColumnDef) (i : ℕ) (c : ColumnDef) → i < length cs → c ≡ get_or cs i c → None ≡ first_of (column_faults m (take i cs) c)
    → first_of (faults_after m (take (i + 1) cs) (drop (i + 1) cs)) ≡ first_of (faults_after m (take i cs) (drop i cs))
column_passes m cs i c h e n = sym (ap first_of (turn m cs i c h e) ∙ first_none (column_faults m (take i cs) c) (faults_after m (take (i + 1) cs) (drop (i + 1) cs)) n)

pub column_fails : (m : Model) (cs : List ColumnDef) (i : ℕ) (c : ColumnDef) (f : ShapeError) → i < length cs → c ≡ get_or cs i c → Some f ≡ first_of (column_faults m (take i cs) c)
    → Some f ≡ first_of (faults_after m (take i cs) (drop i cs))
column_fails m cs i c f h e n = sym (ap first_of (turn m cs i c h e) ∙ first_some (column_faults m (take i cs) c) (faults_after m (take (i + 1) cs) (drop (i + 1) cs)) f n)
