-- The layout of a definition that nothing is wrong with is one for the rows of its shape.
use Rattle.std.proofs.Common.{◌≡◌, ℕ, List, [], ◌∷◌, Option, None, sym, subst}
use Rattle.schema_models.specs.Faults.{refuse_if}
use Rattle.schema_models.specs.ShapeView.{ShapeView}
use Rattle.std.specs.List.{list_any}
use Rattle.std.specs.Option.{option_map}
use Rattle.partitions.specs.LayoutRules.{IsLayout}
use Rattle.partitions.specs.LayoutView.{LayoutView}
use Rattle.sql_text.specs.declared.table_def.TableDef.{TableDef}
use Rattle.table_defs.specs.Columns.{shape_of}
use Rattle.table_defs.specs.Defined.{columns_fault, def_fault, is_bad, key_fault, layout_faults, layout_of}
use Rattle.table_defs.specs.declared.def_error.DefError.{DefError}
use Rattle.table_defs.specs.declared.def_error.DefError.TheVariants as def_error
use Rattle.front_laws.proofs.Submitting.{laid_out, none_first}

no_layout_fault : (table : List ℕ) (def : TableDef) → def_fault table def ≡ None → layout_faults table def ≡ None
no_layout_fault table def h =
    let rest : List (Option DefError) = refuse_if (list_any is_bad def.properties) def_error.BadProperty ∷ [] in
    let first = none_first (option_map def_error.Shape (key_fault def)) (columns_fault def ∷ layout_faults table def ∷ rest) h in
    let second = none_first (columns_fault def) (layout_faults table def ∷ rest) first.1 in
    (none_first (layout_faults table def) rest second.1).0

pub laid_by : (table : List ℕ) (def : TableDef) (shape : ShapeView) (layout : LayoutView) → shape ≡ shape_of def → layout ≡ layout_of table def → def_fault table def ≡ None → IsLayout shape layout
laid_by table def shape layout s l none =
    subst (λ (x : ShapeView). IsLayout x layout) (sym s) (subst (λ (x : LayoutView). IsLayout (shape_of def) x) (sym l) (laid_out table def (no_layout_fault table def none)))
