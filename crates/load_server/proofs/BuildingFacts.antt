-- The way to build that a built load shows.
use Rattle.std.proofs.Common.{◌≡◌, ◌∙◌, List, [], ◌∷◌, Option, Some, None, Bool, true, false, cond, not, is_some, map, find, refl, sym, ap}
use Rattle.std.proofs.lemmas.Bool.{false≢true}
use Rattle.std.specs.List.{AllByRecursion}
use Rattle.std.specs.Option.{option_map}
use Rattle.std.specs.Ptr.{Ptr, null_ptr}
use Rattle.columnar.specs.Marks.{marks_of}
use Rattle.dl_values.specs.declared.cell.Cell.{Cell}
use Rattle.partitions.specs.LayoutView.{LayoutView}
use Rattle.rowsets.specs.RowsetView.{IsMadeFor}
use Rattle.row_map.specs.Maps.{BadRow, Converts, bad_of, converts_row}
use Rattle.row_map.specs.declared.map.RowMap.{RowMap}
use Rattle.schema_models.specs.ShapeView.{ShapeView}
use Rattle.shadow_writes.specs.declared.plan.Plan.{Plan}
use Rattle.shadow_writes.specs.declared.plan.Target.{Target}
use Rattle.shadow_writes.specs.declared.built.Built.{Built}
use Rattle.shadow_writes.specs.declared.built.Mapped.{Mapped}
use Rattle.shadow_writes.specs.declared.built.Mapped.TheVariants.{Sets, Bad}
use Rattle.shadow_writes.specs.declared.built.TabletRows.{TabletRows}
use Rattle.front_defs.specs.Indexes.{Index, mapped_index}
use Rattle.front_defs.specs.May.{AllMapped, MappedOf, SetsOf, TargetsOf, seen_set}
use Rattle.front_defs.specs.Stored.{PlacedRows, sets_of}
use Rattle.load_build.specs.Building.{IsBuiltOf}
use Rattle.load_server.specs.Building.{IsBuilding}

-- ---- the rows of tablets, at the places in memory that others show

abbrev set_at : Ptr → ShapeView → PlacedRows → TabletRows
set_at p s x = record { part = x.place.part; bucket = x.place.bucket; rows = record { ptr = p; value = record { marks = marks_of s; rows = x.rows } } }

abbrev sets_like : List TabletRows → ShapeView → List PlacedRows → List TabletRows
sets_like shown s [] = []
sets_like [] s (x ∷ xs) = set_at null_ptr s x ∷ sets_like [] s xs
sets_like (d ∷ ds) s (x ∷ xs) = set_at d.rows.ptr s x ∷ sets_like ds s xs

like_made : (shown : List TabletRows) (s : ShapeView) (xs : List PlacedRows) → AllByRecursion (λ (t : TabletRows). IsMadeFor s t.rows.value) (sets_like shown s xs)
like_made shown s [] = tt
like_made [] s (x ∷ xs) = (refl, like_made [] s xs)
like_made (d ∷ ds) s (x ∷ xs) = (refl, like_made ds s xs)

like_seen : (shown : List TabletRows) (s : ShapeView) (xs : List PlacedRows) → map seen_set (sets_like shown s xs) ≡ xs
like_seen shown s [] = refl
like_seen [] s (x ∷ xs) = ap (λ (l : List PlacedRows). x ∷ l) (like_seen [] s xs)
like_seen (d ∷ ds) s (x ∷ xs) = ap (λ (l : List PlacedRows). x ∷ l) (like_seen ds s xs)

like_is : (shown : List TabletRows) (l : LayoutView) (x : Index) (rows : List (List Cell)) → SetsOf l x rows (sets_like shown x.shape (sets_of l x rows))
like_is shown l x rows = record { made = like_made shown x.shape (sets_of l x rows); folded = like_seen shown x.shape (sets_of l x rows) }

-- rows that show their own places are these
like_same : (sets : List TabletRows) (s : ShapeView) → AllByRecursion (λ (t : TabletRows). IsMadeFor s t.rows.value) sets → sets_like sets s (map seen_set sets) ≡ sets
like_same [] s made = refl
like_same (d ∷ ds) s (made, rest) =
    let m : marks_of s ≡ d.rows.value.marks = sym made in
    let r : sets_like ds s (map seen_set ds) ≡ ds = like_same ds s rest in
    λ i. record { part = d.part; bucket = d.bucket; rows = record { ptr = d.rows.ptr; value = record { marks = m i; rows = d.rows.value.rows } } } ∷ r i

sets_same : (l : LayoutView) (x : Index) (rows : List (List Cell)) (sets : List TabletRows) → SetsOf l x rows sets → sets_like sets x.shape (sets_of l x rows) ≡ sets
sets_same l x rows sets is = ap (sets_like sets x.shape) (sym is.folded) ∙ like_same sets x.shape is.made

-- ---- what a target gets

abbrev sets_shown : Mapped → List TabletRows
sets_shown (Sets sets) = sets
sets_shown (Bad row column) = []

abbrev mapped_by : Option BadRow → List TabletRows → Mapped
mapped_by None sets = Sets sets
mapped_by (Some b) sets = Bad b.row b.column

abbrev mapped_like : List TabletRows → LayoutView → List (List Cell) → RowMap → Mapped
mapped_like shown l rows m = mapped_by (bad_of m rows) (sets_like shown m.to (sets_of l (mapped_index m) rows))

abbrev targets_like : List Mapped → LayoutView → List (List Cell) → List Target → List Mapped
targets_like shown l rows [] = []
targets_like [] l rows (x ∷ xs) = mapped_like [] l rows x.map ∷ targets_like [] l rows xs
targets_like (y ∷ ys) l rows (x ∷ xs) = mapped_like (sets_shown y) l rows x.map ∷ targets_like ys l rows xs

some_none : {X : Type 0} (x : X) → Some x ≡ None → ⊥
some_none x e = false≢true (sym (ap is_some e))

passes_more : (test : List Cell → Bool) (r : List Cell) (rs : List (List Cell)) → (find (λ r. not (test r)) rs ≡ None → AllByRecursion (λ r. test r ≡ true) rs) → (b : Bool) → test r ≡ b → cond (not b) (Some r) (find (λ r. not (test r)) rs) ≡ None → AllByRecursion (λ r. test r ≡ true) (r ∷ rs)
passes_more test r rs rest true e k = (e, rest k)
passes_more test r rs rest false e k = absurd (some_none r k)

all_pass : (test : List Cell → Bool) (rows : List (List Cell)) → find (λ r. not (test r)) rows ≡ None → AllByRecursion (λ r. test r ≡ true) rows
all_pass test [] h = tt
all_pass test (r ∷ rs) h = passes_more test r rs (all_pass test rs) (test r) refl h

none_fails : (test : List Cell → Bool) (rows : List (List Cell)) → AllByRecursion (λ r. test r ≡ true) rows → find (λ r. not (test r)) rows ≡ None
none_fails test [] h = refl
none_fails test (r ∷ rs) (e, h) = ap (λ (b : Bool). cond (not b) (Some r) (find (λ r. not (test r)) rs)) e ∙ none_fails test rs h

no_value : {X Y : Type 0} (f : X → Y) (o : Option X) → option_map f o ≡ None → o ≡ None
no_value f None e = refl
no_value f (Some x) e = absurd (some_none (f x) e)

all_convert : (m : RowMap) (rows : List (List Cell)) → bad_of m rows ≡ None → Converts m rows
all_convert m rows e = all_pass (converts_row m) rows (no_value _ (find (λ r. not (converts_row m r)) rows) e)

none_bad : (m : RowMap) (rows : List (List Cell)) → Converts m rows → bad_of m rows ≡ None
none_bad m rows h = ap (option_map _) (none_fails (converts_row m) rows h)

mapped_is : (shown : List TabletRows) (l : LayoutView) (rows : List (List Cell)) (x : Target) → MappedOf l rows x (mapped_like shown l rows x.map)
mapped_is shown l rows x = go (bad_of x.map rows) refl
  where
    go : (o : Option BadRow) → bad_of x.map rows ≡ o → MappedOf l rows x (mapped_by o (sets_like shown x.map.to (sets_of l (mapped_index x.map) rows)))
    go None e = (all_convert x.map rows e, like_is shown l (mapped_index x.map) rows)
    go (Some b) e = e

targets_are : (shown : List Mapped) (l : LayoutView) (rows : List (List Cell)) (xs : List Target) → AllMapped l rows xs (targets_like shown l rows xs)
targets_are shown l rows [] = tt
targets_are [] l rows (x ∷ xs) = (mapped_is [] l rows x, targets_are [] l rows xs)
targets_are (y ∷ ys) l rows (x ∷ xs) = (mapped_is (sets_shown y) l rows x, targets_are ys l rows xs)

mapped_same : (l : LayoutView) (rows : List (List Cell)) (x : Target) (y : Mapped) → MappedOf l rows x y → mapped_like (sets_shown y) l rows x.map ≡ y
mapped_same l rows x (Sets sets) (all, is) =
    ap (λ (o : Option BadRow). mapped_by o (sets_like sets x.map.to (sets_of l (mapped_index x.map) rows))) (none_bad x.map rows all) ∙ ap Sets (sets_same l (mapped_index x.map) rows sets is)
mapped_same l rows x (Bad row column) e = ap (λ (o : Option BadRow). mapped_by o (sets_like [] x.map.to (sets_of l (mapped_index x.map) rows))) e

targets_same : (l : LayoutView) (rows : List (List Cell)) (xs : List Target) (ys : List Mapped) → AllMapped l rows xs ys → targets_like ys l rows xs ≡ ys
targets_same l rows [] [] all = refl
targets_same l rows [] (y ∷ ys) all = absurd all
targets_same l rows (x ∷ xs) [] all = absurd all
targets_same l rows (x ∷ xs) (y ∷ ys) (h, all) =
    let a : mapped_like (sets_shown y) l rows x.map ≡ y = mapped_same l rows x y h in
    let b : targets_like ys l rows xs ≡ ys = targets_same l rows xs ys all in
    λ i. a i ∷ b i

-- ---- a load, whose base comes first

abbrev base_like : List TabletRows → Plan → List (List Cell) → Mapped
base_like shown plan rows = Sets (sets_like shown plan.base (sets_of plan.layout (record { shape = plan.base; map = None }) rows))

abbrev all_like : List Mapped → Plan → List (List Cell) → List Mapped
all_like [] plan rows = base_like [] plan rows ∷ targets_like [] plan.layout rows plan.targets
all_like (y ∷ ys) plan rows = base_like (sets_shown y) plan rows ∷ targets_like ys plan.layout rows plan.targets

abbrev pub building_by : List Mapped → Plan → List (List Cell) → Built
building_by shown plan rows = record { plan = plan; rows = rows; targets = all_like shown plan rows }

all_are : (shown : List Mapped) (plan : Plan) (rows : List (List Cell)) → TargetsOf plan rows (all_like shown plan rows)
all_are [] plan rows = (like_is [] plan.layout (record { shape = plan.base; map = None }) rows, targets_are [] plan.layout rows plan.targets)
all_are (y ∷ ys) plan rows = (like_is (sets_shown y) plan.layout (record { shape = plan.base; map = None }) rows, targets_are ys plan.layout rows plan.targets)

pub building_is : (shown : List Mapped) → IsBuilding (building_by shown)
building_is shown plan rows = record { plan_is = refl; rows_are = refl; targets = all_are shown plan rows }

all_same : (plan : Plan) (rows : List (List Cell)) (ys : List Mapped) → TargetsOf plan rows ys → all_like ys plan rows ≡ ys
all_same plan rows [] is = absurd is
all_same plan rows (Sets sets ∷ ys) (base, all) =
    let a : sets_like sets plan.base (sets_of plan.layout (record { shape = plan.base; map = None }) rows) ≡ sets = sets_same plan.layout (record { shape = plan.base; map = None }) rows sets base in
    let b : targets_like ys plan.layout rows plan.targets ≡ ys = targets_same plan.layout rows plan.targets ys all in
    λ i. Sets (a i) ∷ b i
all_same plan rows (Bad row column ∷ ys) (base, all) = absurd base

pub building_same : (plan : Plan) (rows : List (List Cell)) (built : Built) → IsBuiltOf plan rows built → building_by built.targets plan rows ≡ built
building_same plan rows built is =
    let p : plan ≡ built.plan = sym is.plan_is in
    let r : rows ≡ built.rows = sym is.rows_are in
    let t : all_like built.targets plan rows ≡ built.targets = all_same plan rows built.targets is.targets in
    λ i. record { plan = p i; rows = r i; targets = t i }
