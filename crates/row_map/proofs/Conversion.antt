-- The law of conversion: the map of an admitted rollup may be taken before rows are folded, or after.
use Rattle.std.proofs.Common.{◌≡◌, ℕ, Bool, true, false, cond, not, ◌&&◌, List, [], ◌∷◌, Some, None, ◌⊎◌, inl, inr, find, refl}
use Rattle.std.specs.List.{AllByRecursion, list_any}
use Rattle.std.specs.Str.{bytes_eq}
use Rattle.schema_models.proofs.ShapeLemmas.{shape_fits}
use Rattle.schema_models.specs.ShapeRules.{is_key}
use Rattle.schema_models.specs.ShapeView.{ShapeView}
use Rattle.schema_models.specs.declared.column_def.ColumnDef.{ColumnDef}
use Rattle.schema_models.specs.declared.model.Model.{Model}
use Rattle.schema_models.specs.declared.model.Model.TheVariants as model
use Rattle.row_map.specs.Maps.{Admits, AdmittedRollupsJoin, Joins, picked, replaces, rollup_map}
use Rattle.row_map.proofs.Commuting.{Commutes, picked_commute}
use Rattle.row_map.proofs.MergedConversion as merging
use Rattle.row_map.proofs.SortedConversion as sorted
use Rattle.row_map.proofs.PickedRows.{HasKeys, picks}
use Rattle.row_map.proofs.ShapeColumns.{shape_ordered}

abbrev shape_of : Model → List ColumnDef → ShapeView
shape_of m cs = record { model = m; columns = cs }

-- no key column is lacking
has_keys : (names : List (List ℕ)) (cs : List ColumnDef) → find (λ (c : ColumnDef). is_key c.role && not (list_any (bytes_eq c.name) names)) cs ≡ None → HasKeys names cs
has_keys names [] e = tt
has_keys names (c ∷ cs) e = go (is_key c.role) (list_any (bytes_eq c.name) names) refl refl e (λ h. has_keys names cs h)
  where
    go : (k b : Bool) → is_key c.role ≡ k → list_any (bytes_eq c.name) names ≡ b → cond (k && not b) (Some c) (find (λ (d : ColumnDef). is_key d.role && not (list_any (bytes_eq d.name) names)) cs) ≡ None
        → (find (λ (d : ColumnDef). is_key d.role && not (list_any (bytes_eq d.name) names)) cs ≡ None → HasKeys names cs) → HasKeys names (c ∷ cs)
    go true true i j h more = (λ k. j, more h)
    go true false i j h more = absurd (cc)
    go false b i j h more = (λ k. absurd (differ k), more h)
      where
        differ : is_key c.role ≡ true → ⊥
        differ k = cc

joins_in : (m : Model) (cs : List ColumnDef) (names : List (List ℕ)) → Admits (shape_of m cs) names → Joins (rollup_map (shape_of m cs) names)
joins_in model.Duplicate cs names a =
    let ds = picked cs names in
    record { longer = sorted.longer cs names ds; joins = sorted.joins cs names ds; swaps = λ x y e s t zs. sorted.swaps cs names ds x y zs }
joins_in model.Unique cs names a =
    let ds = picked cs names in
    let p = picks cs names a.known in
    let o = shape_ordered (shape_of model.Unique cs) a.base in
    let q = shape_ordered (shape_of model.Unique ds) a.shape in
    let apart = inl (has_keys names cs a.keyed) in
    record { longer = merging.longer cs names ds p o q apart; joins = merging.joins_longer cs names ds p o q apart; swaps = merging.swaps cs names ds p o q apart }
joins_in model.Aggregate cs names a =
    let ds = picked cs names in
    let p = picks cs names a.known in
    let o = shape_ordered (shape_of model.Aggregate cs) a.base in
    let q = shape_ordered (shape_of model.Aggregate ds) a.shape in
    let apart = told (list_any (λ (c : ColumnDef). replaces c.role) cs) refl a.keyed in
    record { longer = merging.longer cs names ds p o q apart; joins = merging.joins_longer cs names ds p o q apart; swaps = merging.swaps cs names ds p o q apart }
  where
    told : (b : Bool) → list_any (λ (c : ColumnDef). replaces c.role) cs ≡ b → cond b (find (λ (c : ColumnDef). is_key c.role && not (list_any (bytes_eq c.name) names)) cs) None ≡ None → HasKeys names cs ⊎ AllByRecursion Commutes (picked cs names)
    told true h e = inl (has_keys names cs e)
    told false h e = inr (picked_commute cs (shape_fits (shape_of model.Aggregate cs) a.base) h names (picked cs names) (picks cs names a.known))

pub admitted_join : AdmittedRollupsJoin
admitted_join s names a = joins_in s.model s.columns names a
