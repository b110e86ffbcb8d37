-- What waits of a load, after one begins, is submitted or ends.
use Rattle.std.proofs.Common.{◌≡◌, ℕ, zero, suc, ◌+◌, ◌≤◌, Bool, true, false, cond, List, [], ◌∷◌, ◌++◌, Option, Some, None, map, filter, find, get_or, refl, sym, ◌∙◌, ap, arith, subst, nat_eq}
use Rattle.std.proofs.lemmas.Bool.Decides.{nat_tests}
use Rattle.std.specs.List.{list_any}
use Rattle.dl_values.specs.declared.cell.Cell.{Cell}
use Rattle.partitions.specs.LayoutView.{LayoutView}
use Rattle.partitions.specs.Places.{Place, lies_in, rows_at, tablets_of}
use Rattle.row_map.specs.declared.map.RowMap.{RowMap}
use Rattle.alter_core.specs.declared.job.JobInfo.{JobInfo}
use Rattle.front_defs.specs.declared.catalogue.Table.{Table}
use Rattle.front_defs.specs.declared.txn.Txn.{Txn}
use Rattle.front_defs.specs.Catalogue.{table_at}
use Rattle.front_defs.specs.Indexes.{Index}
use Rattle.front_defs.specs.Stands.{WaitingRows, waiting_for, waiting_found}
use Rattle.front_defs.specs.Stored.{PlacedRows, indexed, sets_in, sets_of, spoils_map, target_at, waiting_by, waiting_in}
use Rattle.front_defs.specs.Transactions.{txn_at, changed, committed_at}
use Rattle.front_laws.specs.Tidy.{Each}
use Rattle.front_laws.proofs.Lists.{each_found, eq_is}
use Rattle.front_laws.proofs.Keeping.{made_apart}
use Rattle.front_state.specs.Parts.{given}

-- ---- without rows nothing waits
none_spoils : (o : Option RowMap) (sets : List PlacedRows) → cond (spoils_map o []) [] sets ≡ sets
none_spoils None sets = refl
none_spoils (Some m) sets = refl

no_places : (l : LayoutView) (ws : List Place) → filter (λ (w : Place). list_any (lies_in l w.part) []) ws ≡ []
no_places l [] = refl
no_places l (w ∷ ws) = no_places l ws

no_sets : (o : Option Index) (t : Table) → sets_in o t [] ≡ []
no_sets None t = refl
no_sets (Some x) t = none_spoils x.map (sets_of t.layout x []) ∙ ap (map (λ (w : Place). record { place = w; rows = indexed x (rows_at t.layout w []) })) (no_places t.layout (tablets_of t.layout))

pub no_rows : (o : Option Table) (jobs : List JobInfo) (index id : ℕ) (rows : List (List Cell)) → rows ≡ [] → waiting_in o jobs index id rows ≡ []
no_rows None jobs index id rows e = refl
no_rows (Some t) jobs index id rows e = rw e (no_sets (target_at t jobs index id) t)

pub no_set_at : (index : ℕ) → (let none : List PlacedRows = [] in get_or (none ∷ []) index none ≡ none)
no_set_at zero = refl
no_set_at (suc n) = refl

-- ---- one that begins waits with nothing
with_more : (n index : ℕ) (w : WaitingRows) → w.sets ≡ [] ∷ [] → waiting_found index (cond (nat_eq w.txn n) (Some w) None) ≡ []
with_more n index w e = elim (nat_eq w.txn n) as (λ (b : Bool). waiting_found index (cond b (Some w) None) ≡ []) [ true ↦ ap (λ (s : List (List PlacedRows)). get_or s index []) e ∙ no_set_at index | false ↦ refl ]

more_cons : (index : ℕ) (w : WaitingRows) (a b : Option WaitingRows) (t : Bool) → waiting_found index a ≡ waiting_found index b → waiting_found index (cond t (Some w) a) ≡ waiting_found index (cond t (Some w) b)
more_cons index w a b true e = refl
more_cons index w a b false e = e

pub waiting_more : (n index : ℕ) (ws : List WaitingRows) (w : WaitingRows) → w.sets ≡ [] ∷ [] → waiting_for n index (ws ++ w ∷ []) ≡ waiting_for n index ws
waiting_more n index [] w e = with_more n index w e
waiting_more n index (x ∷ xs) w e = more_cons index x (find (λ y. nat_eq y.txn n) (xs ++ w ∷ [])) (find (λ y. nat_eq y.txn n) xs) (nat_eq x.txn n) (waiting_more n index xs w e)

by_none : (n index : ℕ) (t : Txn) (tables : List Table) (jobs : List JobInfo) → t.rows ≡ [] → waiting_by (cond (nat_eq t.id n) (Some t) None) index tables jobs ≡ []
by_none n index t tables jobs e = elim (nat_eq t.id n) as (λ (b : Bool). waiting_by (cond b (Some t) None) index tables jobs ≡ []) [ true ↦ no_rows (table_at t.table tables) jobs index t.id t.rows e | false ↦ refl ]

by_cons : (index : ℕ) (t : Txn) (a b : Option Txn) (tables : List Table) (jobs : List JobInfo) (h : Bool) → waiting_by a index tables jobs ≡ waiting_by b index tables jobs → waiting_by (cond h (Some t) a) index tables jobs ≡ waiting_by (cond h (Some t) b) index tables jobs
by_cons index t a b tables jobs true e = refl
by_cons index t a b tables jobs false e = e

pub by_more : (n index : ℕ) (ts : List Txn) (t : Txn) (tables : List Table) (jobs : List JobInfo) → t.rows ≡ [] → waiting_by (txn_at n (ts ++ t ∷ [])) index tables jobs ≡ waiting_by (txn_at n ts) index tables jobs
by_more n index [] t tables jobs e = by_none n index t tables jobs e
by_more n index (u ∷ us) t tables jobs e = by_cons index u (txn_at n (us ++ t ∷ [])) (txn_at n us) tables jobs (nat_eq u.id n) (by_more n index us t tables jobs e)

-- ---- what is given to one number
given_cons : (id n index : ℕ) (sets : List PlacedRows) (w : WaitingRows) (a b : Option WaitingRows) (h t : Bool) → nat_eq w.txn id ≡ h → nat_eq w.txn n ≡ t → nat_eq n id ≡ false → waiting_found index a ≡ waiting_found index b → waiting_found index (cond (nat_eq (given id sets w).txn n) (Some (given id sets w)) a) ≡ waiting_found index (cond t (Some w) b)
given_cons id n index sets w a b true true e f off k = absurd (let x : w.txn ≡ id = eq_is w.txn id e in let y : w.txn ≡ n = eq_is w.txn n f in let z : nat_eq n id ≡ true = grind (arith, nat_tests) in cc (z, off))
given_cons id n index sets w a b true false e f off k = rw (e, f) k
given_cons id n index sets w a b false t e f off k = rw (e, f) (more_cons index w a b t k)

given_other : (id n index : ℕ) (sets : List PlacedRows) (ws : List WaitingRows) → nat_eq n id ≡ false → waiting_for n index (map (given id sets) ws) ≡ waiting_for n index ws
given_other id n index sets [] off = refl
given_other id n index sets (w ∷ ws) off = given_cons id n index sets w (find (λ y. nat_eq y.txn n) (map (given id sets) ws)) (find (λ y. nat_eq y.txn n) ws) (nat_eq w.txn id) (nat_eq w.txn n) refl refl off (given_other id n index sets ws off)

none_cons : (id index : ℕ) (w : WaitingRows) (a : Option WaitingRows) (h : Bool) → nat_eq w.txn id ≡ h → waiting_found index a ≡ [] → waiting_found index (cond (nat_eq (given id [] w).txn id) (Some (given id [] w)) a) ≡ []
none_cons id index w a true e k = rw (e, e) (no_set_at index)
none_cons id index w a false e k = rw (e, e) k

given_none : (id index : ℕ) (ws : List WaitingRows) → waiting_for id index (map (given id []) ws) ≡ []
given_none id index [] = refl
given_none id index (w ∷ ws) = none_cons id index w (find (λ y. nat_eq y.txn id) (map (given id []) ws)) (nat_eq w.txn id) refl (given_none id index ws)

-- ---- a change of one number
changed_cons : (id n index : ℕ) (f : Txn → Txn) (t : Txn) (a b : Option Txn) (tables : List Table) (jobs : List JobInfo) (h k : Bool) → nat_eq t.id id ≡ h → nat_eq t.id n ≡ k → nat_eq n id ≡ false → (f t).id ≡ t.id → waiting_by a index tables jobs ≡ waiting_by b index tables jobs → waiting_by (cond (nat_eq (changed id f t).id n) (Some (changed id f t)) a) index tables jobs ≡ waiting_by (cond k (Some t) b) index tables jobs
changed_cons id n index f t a b tables jobs true true e g off same i = absurd (let x : t.id ≡ id = eq_is t.id id e in let y : t.id ≡ n = eq_is t.id n g in let z : nat_eq n id ≡ true = grind (arith, nat_tests) in cc (z, off))
changed_cons id n index f t a b tables jobs true false e g off same i = let miss : nat_eq (f t).id n ≡ false = ap (λ (m : ℕ). nat_eq m n) same ∙ g in rw (e, miss) i
changed_cons id n index f t a b tables jobs false k e g off same i = rw (e, g) (by_cons index t a b tables jobs k i)

changed_other : (id n index : ℕ) (f : Txn → Txn) (ts : List Txn) (tables : List Table) (jobs : List JobInfo) → ((t : Txn) → (f t).id ≡ t.id) → nat_eq n id ≡ false → waiting_by (txn_at n (map (changed id f) ts)) index tables jobs ≡ waiting_by (txn_at n ts) index tables jobs
changed_other id n index f [] tables jobs same off = refl
changed_other id n index f (t ∷ ts) tables jobs same off = changed_cons id n index f t (txn_at n (map (changed id f) ts)) (txn_at n ts) tables jobs (nat_eq t.id id) (nat_eq t.id n) refl refl off (same t) (changed_other id n index f ts tables jobs same off)

ended_cons : (id index : ℕ) (f : Txn → Txn) (t : Txn) (a : Option Txn) (tables : List Table) (jobs : List JobInfo) (h : Bool) → nat_eq t.id id ≡ h → (f t).id ≡ t.id → (f t).rows ≡ [] → waiting_by a index tables jobs ≡ [] → waiting_by (cond (nat_eq (changed id f t).id id) (Some (changed id f t)) a) index tables jobs ≡ []
ended_cons id index f t a tables jobs true e same none k = let hit : nat_eq (f t).id id ≡ true = ap (λ (m : ℕ). nat_eq m id) same ∙ e in rw (e, hit) (no_rows (table_at (f t).table tables) jobs index (f t).id (f t).rows none)
ended_cons id index f t a tables jobs false e same none k = rw (e, e) k

changed_none : (id index : ℕ) (f : Txn → Txn) (ts : List Txn) (tables : List Table) (jobs : List JobInfo) → ((t : Txn) → (f t).id ≡ t.id) → ((t : Txn) → (f t).rows ≡ []) → waiting_by (txn_at id (map (changed id f) ts)) index tables jobs ≡ []
changed_none id index f [] tables jobs same none = refl
changed_none id index f (t ∷ ts) tables jobs same none = ended_cons id index f t (txn_at id (map (changed id f) ts)) tables jobs (nat_eq t.id id) refl (same t) (none t) (changed_none id index f ts tables jobs same none)

-- what waits after an end
pub waiting_ended : (id n index : ℕ) (f : Txn → Txn) (ws : List WaitingRows) (ts : List Txn) (tables : List Table) (jobs : List JobInfo) → ((t : Txn) → (f t).id ≡ t.id) → ((t : Txn) → (f t).rows ≡ []) → waiting_for n index ws ≡ waiting_by (txn_at n ts) index tables jobs → waiting_for n index (map (given id []) ws) ≡ waiting_by (txn_at n (map (changed id f) ts)) index tables jobs
waiting_ended id n index f ws ts tables jobs same none e = by_eq (nat_eq n id) refl
  where
    by_eq : (b : Bool) → nat_eq n id ≡ b → waiting_for n index (map (given id []) ws) ≡ waiting_by (txn_at n (map (changed id f) ts)) index tables jobs
    by_eq true is = let j : id ≡ n = sym (eq_is n id is) in subst (λ (m : ℕ). waiting_for m index (map (given id []) ws) ≡ waiting_by (txn_at m (map (changed id f) ts)) index tables jobs) j (given_none id index ws ∙ sym (changed_none id index f ts tables jobs same none))
    by_eq false is = given_other id n index [] ws is ∙ e ∙ sym (changed_other id n index f ts tables jobs same is)

-- ---- what is given to a number that is there
there_cons : (id index : ℕ) (sets : List PlacedRows) (w : WaitingRows) (a : Option WaitingRows) (h : Bool) → nat_eq w.txn id ≡ h → (nat_eq w.txn id ≡ false → waiting_found index a ≡ get_or (sets ∷ []) index []) → waiting_found index (cond (nat_eq (given id sets w).txn id) (Some (given id sets w)) a) ≡ get_or (sets ∷ []) index []
there_cons id index sets w a true e k = rw (e, e) refl
there_cons id index sets w a false e k = rw (e, e) (k e)

found_tail : (id : ℕ) (u t : Txn) (o : Option Txn) (b : Bool) → nat_eq u.id id ≡ b → b ≡ false → cond b (Some u) o ≡ Some t → o ≡ Some t
found_tail id u t o true e f g = absurd (cc)
found_tail id u t o false e f g = g

given_there : (id index : ℕ) (sets : List PlacedRows) (ws : List WaitingRows) (ts : List Txn) (t : Txn) → map (λ (w : WaitingRows). w.txn) ws ≡ map (λ (t : Txn). t.id) ts → txn_at id ts ≡ Some t → waiting_for id index (map (given id sets) ws) ≡ get_or (sets ∷ []) index []
given_there id index sets ws [] t al f = absurd (cc)
given_there id index sets [] (u ∷ us) t al f = absurd (cc)
given_there id index sets (w ∷ ws) (u ∷ us) t al f =
    let same : w.txn ≡ u.id = cc in
    let rest : map (λ (w : WaitingRows). w.txn) ws ≡ map (λ (t : Txn). t.id) us = cc in
    there_cons id index sets w (find (λ y. nat_eq y.txn id) (map (given id sets) ws)) (nat_eq w.txn id) refl
    (λ off. given_there id index sets ws us t rest (found_tail id u t (txn_at id us) (nat_eq u.id id) refl (ap (λ (n : ℕ). nat_eq n id) (sym same) ∙ off) f))

-- what is found after a change of it
changed_found_cons : (id : ℕ) (f : Txn → Txn) (u t : Txn) (a b : Option Txn) (h : Bool) → nat_eq u.id id ≡ h → (f u).id ≡ u.id → cond h (Some u) b ≡ Some t → (b ≡ Some t → a ≡ Some (f t)) → cond (nat_eq (changed id f u).id id) (Some (changed id f u)) a ≡ Some (f t)
changed_found_cons id f u t a b true e same g k = let i : u ≡ t = cc in let hit : nat_eq (f u).id id ≡ true = ap (λ (m : ℕ). nat_eq m id) same ∙ e in rw (e, hit) (ap (λ (x : Txn). Some (f x)) i)
changed_found_cons id f u t a b false e same g k = rw (e, e) (k g)

changed_found : (id : ℕ) (f : Txn → Txn) (ts : List Txn) (t : Txn) → ((t : Txn) → (f t).id ≡ t.id) → txn_at id ts ≡ Some t → txn_at id (map (changed id f) ts) ≡ Some (f t)
changed_found id f [] t same g = absurd (cc)
changed_found id f (u ∷ us) t same g = changed_found_cons id f u t (txn_at id (map (changed id f) us)) (txn_at id us) (nat_eq u.id id) refl (same u) g (changed_found id f us t same)

-- what waits after a Submit
pub waiting_taken : (id n index : ℕ) (f : Txn → Txn) (sets : List PlacedRows) (ws : List WaitingRows) (ts : List Txn) (t : Txn) (tables : List Table) (jobs : List JobInfo) → ((t : Txn) → (f t).id ≡ t.id) → map (λ (w : WaitingRows). w.txn) ws ≡ map (λ (t : Txn). t.id) ts → txn_at id ts ≡ Some t → get_or (sets ∷ []) index [] ≡ waiting_in (table_at (f t).table tables) jobs index (f t).id (f t).rows → waiting_for n index ws ≡ waiting_by (txn_at n ts) index tables jobs → waiting_for n index (map (given id sets) ws) ≡ waiting_by (txn_at n (map (changed id f) ts)) index tables jobs
waiting_taken id n index f sets ws ts t tables jobs same al found is e = by_eq (nat_eq n id) refl
  where
    by_eq : (b : Bool) → nat_eq n id ≡ b → waiting_for n index (map (given id sets) ws) ≡ waiting_by (txn_at n (map (changed id f) ts)) index tables jobs
    by_eq true eq = let j : id ≡ n = sym (eq_is n id eq) in subst (λ (m : ℕ). waiting_for m index (map (given id sets) ws) ≡ waiting_by (txn_at m (map (changed id f) ts)) index tables jobs) j (given_there id index sets ws ts t al found ∙ is ∙ ap (λ (o : Option Txn). waiting_by o index tables jobs) (sym (changed_found id f ts t same found)))
    by_eq false eq = given_other id n index sets ws eq ∙ e ∙ sym (changed_other id n index f ts tables jobs same eq)

-- ---- a new table changes nothing of what waits, since its number is new
by_used : (o : Option Txn) (index : ℕ) (tables : List Table) (jobs : List JobInfo) (m : Table) (last : ℕ) → m.number ≡ last + 1 → ((u : Txn) → o ≡ Some u → u.table ≤ last) → waiting_by o index (tables ++ m ∷ []) jobs ≡ waiting_by o index tables jobs
by_used None index tables jobs m last n h = refl
by_used (Some u) index tables jobs m last n h =
    let low = h u refl in
    let apart : nat_eq m.number u.table ≡ false = grind (arith, nat_tests) in
    ap (λ (o : Option Table). waiting_in o jobs index u.id u.rows) (made_apart u.table m tables apart)

pub waiting_tabled : (n index : ℕ) (ts : List Txn) (tables : List Table) (jobs : List JobInfo) (m : Table) (last : ℕ) → m.number ≡ last + 1 → Each (λ (t : Txn). t.table ≤ last) ts → waiting_by (txn_at n ts) index (tables ++ m ∷ []) jobs ≡ waiting_by (txn_at n ts) index tables jobs
waiting_tabled n index ts tables jobs m last new e = by_used (txn_at n ts) index tables jobs m last new (λ u f. each_found (λ (t : Txn). t.table ≤ last) (λ t. nat_eq t.id n) ts u e f)

-- ---- a commit changes nothing of what waits
committed_hit : (index place at : ℕ) (t : Txn) (a b : Option Txn) (tables : List Table) (jobs : List JobInfo) (h : Bool) → waiting_by a index tables jobs ≡ waiting_by b index tables jobs → waiting_by (cond h (Some (committed_at place at t)) a) index tables jobs ≡ waiting_by (cond h (Some t) b) index tables jobs
committed_hit index place at t a b tables jobs true e = refl
committed_hit index place at t a b tables jobs false e = e

committed_cons : (id n index place at : ℕ) (t : Txn) (a b : Option Txn) (tables : List Table) (jobs : List JobInfo) (h : Bool) → nat_eq t.id id ≡ h → waiting_by a index tables jobs ≡ waiting_by b index tables jobs → waiting_by (cond (nat_eq (changed id (committed_at place at) t).id n) (Some (changed id (committed_at place at) t)) a) index tables jobs ≡ waiting_by (cond (nat_eq t.id n) (Some t) b) index tables jobs
committed_cons id n index place at t a b tables jobs true is e = rw is (committed_hit index place at t a b tables jobs (nat_eq t.id n) e)
committed_cons id n index place at t a b tables jobs false is e = rw is (by_cons index t a b tables jobs (nat_eq t.id n) e)

pub waiting_committed : (id n index place at : ℕ) (ts : List Txn) (tables : List Table) (jobs : List JobInfo) → waiting_by (txn_at n (map (changed id (committed_at place at)) ts)) index tables jobs ≡ waiting_by (txn_at n ts) index tables jobs
waiting_committed id n index place at [] tables jobs = refl
waiting_committed id n index place at (t ∷ ts) tables jobs = committed_cons id n index place at t (txn_at n (map (changed id (committed_at place at)) ts)) (txn_at n ts) tables jobs (nat_eq t.id id) refl (waiting_committed id n index place at ts tables jobs)
