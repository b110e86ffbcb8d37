-- What each call of a book makes of what contracts see of the transactions.
use Rattle.std.proofs.Common.{◌≡◌, ℕ, ◌+◌, Bool, true, false, cond, not, List, [], ◌∷◌, ◌++◌, Option, Some, None, Result, Ok, Err, OnOk, OnErr, filter, map, refl, sym, ◌∙◌, ap, ap₂, nat_eq}
use Rattle.std.proofs.lemmas.List.{map-append}
use Rattle.std.specs.Option.{option_map}
use Rattle.labels.specs.declared.txn_state.TxnState.{TxnState}
use Rattle.labels.specs.declared.txn_state.TxnState.TheVariants as state
use Rattle.front_defs.specs.declared.reply.Placed.{Placed}
use Rattle.front_defs.specs.declared.txn.Txn.{Txn}
use Rattle.front_defs.specs.Stands.{WaitingRows}
use Rattle.front_defs.specs.Stored.{PlacedRows}
use Rattle.front_defs.specs.Transactions.{aborted_at, ahead_of, begun_txn, changed, committed_at, dropped, dropped_at, due, is_expired, is_over, swept_at}
use Rattle.txn_core.specs.Book as books
use Rattle.txn_core.specs.Book.{BookView, at_id, commit_as, drop_as, dropped_in, end_as, info_of, is_old, is_stale, place_for, submit_as, swept_as, txns_in}
use Rattle.txn_core.specs.Seen.{rows_in, seen, sets_in}
use Rattle.front_defs.specs.Answer.{placed_for}
use Rattle.txn_core.specs.declared.error.TxnError.{TxnError}
use Rattle.txn_core.specs.declared.info.Held.{Held}
use Rattle.txn_core.specs.declared.info.TxnInfo.{TxnInfo}
use Rattle.txn_core.specs.declared.start.TxnStart.{TxnStart}
use Rattle.front_state.specs.Parts.{TransactionsView, begun, committed, emptied, emptied_where, ended, ended_at, given, is_fresh, is_of, place_by, placed_at, published, published_as, range_for, started, state_by, submitted, submitted_at, swept, transactions_seen, waits_where, without_table}
use Rattle.front_state.specs.Waits.{waits}

-- a change of one is a change of what is seen of it
seen_one : (id : ℕ) (f : TxnInfo → TxnInfo) (g : Txn → Txn) (k : TxnInfo) → seen (f k) ≡ g (seen k) → seen (at_id id f k) ≡ changed id g (seen k)
seen_one id f g k e = elim (nat_eq k.id id) as (λ (b : Bool). seen (cond b (f k) k) ≡ cond b (g (seen k)) (seen k)) [ true ↦ e | false ↦ refl ]

seen_at : (id : ℕ) (f : TxnInfo → TxnInfo) (g : Txn → Txn) → ((k : TxnInfo) → seen (f k) ≡ g (seen k)) → (ks : List TxnInfo) → map seen (map (at_id id f) ks) ≡ map (changed id g) (map seen ks)
seen_at id f g h [] = refl
seen_at id f g h (k ∷ ks) = ap₂ (λ (t : Txn) (ts : List Txn). t ∷ ts) (seen_one id f g k (h k)) (seen_at id f g h ks)

waits_one : (id : ℕ) (f : TxnInfo → TxnInfo) (sets : List PlacedRows) (k : TxnInfo) → waits (f k) ≡ record { txn = k.id; sets = sets ∷ [] } → waits (at_id id f k) ≡ given id sets (waits k)
waits_one id f sets k e = elim (nat_eq k.id id) as (λ (b : Bool). waits (cond b (f k) k) ≡ cond b (record { txn = k.id; sets = sets ∷ [] }) (waits k)) [ true ↦ e | false ↦ refl ]

waits_at : (id : ℕ) (f : TxnInfo → TxnInfo) (sets : List PlacedRows) → ((k : TxnInfo) → waits (f k) ≡ record { txn = k.id; sets = sets ∷ [] }) → (ks : List TxnInfo) → map waits (map (at_id id f) ks) ≡ map (given id sets) (map waits ks)
waits_at id f sets h [] = refl
waits_at id f sets h (k ∷ ks) = ap₂ (λ (w : WaitingRows) (ws : List WaitingRows). w ∷ ws) (waits_one id f sets k (h k)) (waits_at id f sets h ks)

waits_still : (id : ℕ) (f : TxnInfo → TxnInfo) → ((k : TxnInfo) → waits (f k) ≡ waits k) → (ks : List TxnInfo) → map waits (map (at_id id f) ks) ≡ map waits ks
waits_still id f h [] = refl
waits_still id f h (k ∷ ks) = ap₂ (λ (w : WaitingRows) (ws : List WaitingRows). w ∷ ws) (elim (nat_eq k.id id) as (λ (b : Bool). waits (cond b (f k) k) ≡ waits k) [ true ↦ h k | false ↦ refl ]) (waits_still id f h ks)

pub begun_seen : (s : TxnStart) (b : BookView) (range : ℕ) → transactions_seen (books.begun s b) (range_for range b.next) ≡ begun (begun_txn (started s b.next)) (record { txn = b.next; sets = [] ∷ [] }) (transactions_seen b range)
begun_seen s b range = ap₂ (λ (ts : List Txn) (ws : List WaitingRows). record { txns = ts; waiting = ws; range = range_for range b.next; next = b.next + 1; places = b.places }) (map-append seen b.kept (info_of s b.next ∷ [])) (map-append waits b.kept (info_of s b.next ∷ []))

pub submitted_seen : (id : ℕ) (placed : Option Placed) (held : Option Held) (at : ℕ) (b : BookView) (range : ℕ) → transactions_seen (books.submitted id (place_by placed) held at b) range ≡ submitted id placed (rows_in held) (sets_in held) at (transactions_seen b range)
submitted_seen id None held at b range = ap₂ (λ (ts : List Txn) (ws : List WaitingRows). record { txns = ts; waiting = ws; range = range; next = b.next; places = b.places })
    (seen_at id (submit_as None held at) (submitted_at None (rows_in held) at) (λ k. refl) b.kept) (waits_at id (submit_as None held at) (sets_in held) (λ k. refl) b.kept)
submitted_seen id (Some p) held at b range = ap₂ (λ (ts : List Txn) (ws : List WaitingRows). record { txns = ts; waiting = ws; range = range; next = b.next; places = p.place })
    (seen_at id (submit_as (Some p.place) held at) (submitted_at (Some p) (rows_in held) at) (λ k. refl) b.kept) (waits_at id (submit_as (Some p.place) held at) (sets_in held) (λ k. refl) b.kept)

pub committed_seen : (id at : ℕ) (b : BookView) (range : ℕ) → transactions_seen (books.committed id at b) range ≡ committed id at (transactions_seen b range)
committed_seen id at b range = ap₂ (λ (ts : List Txn) (ws : List WaitingRows). record { txns = ts; waiting = ws; range = range; next = b.next; places = b.places + 1 })
    (seen_at id (commit_as (b.places + 1) at) (committed_at (b.places + 1) at) (λ k. refl) b.kept) (waits_still id (commit_as (b.places + 1) at) (λ k. refl) b.kept)

pub ended_seen : (id : ℕ) (s : TxnState) (at : ℕ) (b : BookView) (range : ℕ) → transactions_seen (books.ended id s at b) range ≡ ended id s at (transactions_seen b range)
ended_seen id s at b range = ap₂ (λ (ts : List Txn) (ws : List WaitingRows). record { txns = ts; waiting = ws; range = range; next = b.next; places = b.places })
    (seen_at id (end_as s at) (ended_at s at) (λ k. refl) b.kept) (waits_at id (end_as s at) [] (λ k. refl) b.kept)

published_by : (o : Option Txn) (at : ℕ) (b : BookView) (range : ℕ) → transactions_seen (books.published_as o at b) range ≡ published_as o at (transactions_seen b range)
published_by None at b range = refl
published_by (Some t) at b range = ended_seen t.id state.Visible at b range

pub published_seen : (at : ℕ) (b : BookView) (range : ℕ) → transactions_seen (books.published at b) range ≡ published at (transactions_seen b range)
published_seen at b range = published_by (due (txns_in b)) at b range

pub publishes : (r : Result ℕ TxnError) (at : ℕ) (old new : BookView) (range : ℕ) → OnOk r (new ≡ books.published at old) → OnErr r (due (txns_in old) ≡ None) → OnErr r (new ≡ old) → transactions_seen new range ≡ published at (transactions_seen old range)
publishes (Ok id) at old new range e none same = ap (λ (b : BookView). transactions_seen b range) e ∙ published_seen at old range
publishes (Err x) at old new range e none same = ap (λ (b : BookView). transactions_seen b range) same ∙ ap (λ (o : Option Txn). published_as o at (transactions_seen old range)) (sym none)

-- the place that a Submit answers
placed_step : (b : Bool) (txns : List Txn) (last ahead : ℕ) → ahead ≡ ahead_of (last + 1) txns → placed_at (place_for b last) ahead ≡ cond b None (Some (record { place = last + 1; ahead = ahead_of (last + 1) txns }))
placed_step true txns last ahead a = refl
placed_step false txns last ahead a = ap (λ (n : ℕ). placed_at (Some (last + 1)) n) a

pub placed_is : (o : Option Txn) (p : Option ℕ) (txns : List Txn) (last ahead : ℕ) → Some p ≡ option_map (λ (t : Txn). place_for t.two_phase last) o → ahead ≡ ahead_of (last + 1) txns → placed_at p ahead ≡ placed_for o txns last
placed_is None p txns last ahead e a = absurd (cc)
placed_is (Some t) p txns last ahead e a = let i : p ≡ place_for t.two_phase last = cc in ap (λ (q : Option ℕ). placed_at q ahead) i ∙ placed_step t.two_phase txns last ahead a

pub taken_seen : (id : ℕ) (p : Option ℕ) (ahead : ℕ) (held : Option Held) (at : ℕ) (b : BookView) (range : ℕ) → transactions_seen (books.submitted id p held at b) range ≡ submitted id (placed_at p ahead) (rows_in held) (sets_in held) at (transactions_seen b range)
taken_seen id None ahead held at b range = submitted_seen id None held at b range
taken_seen id (Some p) ahead held at b range = submitted_seen id (Some (record { place = p; ahead = ahead })) held at b range

-- a sweep
swept_one : (at : ℕ) (k : TxnInfo) → seen (swept_as at k) ≡ swept_at at (seen k)
swept_one at k = elim (is_stale at k) as (λ (b : Bool). seen (cond b (end_as state.Aborted at k) k) ≡ cond b (aborted_at at (seen k)) (seen k)) [ true ↦ refl | false ↦ refl ]

swept_waits : (at : ℕ) (k : TxnInfo) → waits (swept_as at k) ≡ cond (is_stale at k) (emptied (waits k)) (waits k)
swept_waits at k = elim (is_stale at k) as (λ (b : Bool). waits (cond b (end_as state.Aborted at k) k) ≡ cond b (emptied (waits k)) (waits k)) [ true ↦ refl | false ↦ refl ]

sweep_step : (at : ℕ) (k : TxnInfo) (us : List TxnInfo) (ts : List Txn) (b : Bool) → map seen (map (swept_as at) us) ≡ map (swept_at at) ts → map seen (map (swept_as at) (cond b (k ∷ us) us)) ≡ map (swept_at at) (cond b (seen k ∷ ts) ts)
sweep_step at k us ts true h = ap₂ (λ (t : Txn) (l : List Txn). t ∷ l) (swept_one at k) h
sweep_step at k us ts false h = h

sweep_seen : (at : ℕ) (ks : List TxnInfo) → map seen (map (swept_as at) (filter (λ (k : TxnInfo). not (is_old at k)) ks)) ≡ map (swept_at at) (filter (λ (t : Txn). not (is_over at t)) (map seen ks))
sweep_seen at [] = refl
sweep_seen at (k ∷ ks) = sweep_step at k (filter (λ (x : TxnInfo). not (is_old at x)) ks) (filter (λ (t : Txn). not (is_over at t)) (map seen ks)) (not (is_old at k)) (sweep_seen at ks)

waits_step : (at : ℕ) (k : TxnInfo) (us : List TxnInfo) (ts : List Txn) (ws : List WaitingRows) (b : Bool) → map waits (map (swept_as at) us) ≡ emptied_where (is_expired at) ts ws → map waits (map (swept_as at) (cond b (k ∷ us) us)) ≡ emptied_where (is_expired at) (cond b (seen k ∷ ts) ts) (cond b (waits k ∷ ws) ws)
waits_step at k us ts ws true h = ap₂ (λ (w : WaitingRows) (l : List WaitingRows). w ∷ l) (swept_waits at k) h
waits_step at k us ts ws false h = h

sweep_waits : (at : ℕ) (ks : List TxnInfo) → map waits (map (swept_as at) (filter (λ (k : TxnInfo). not (is_old at k)) ks)) ≡ emptied_where (is_expired at) (filter (is_fresh at) (map seen ks)) (waits_where (is_fresh at) (map seen ks) (map waits ks))
sweep_waits at [] = refl
sweep_waits at (k ∷ ks) = waits_step at k (filter (λ (x : TxnInfo). not (is_old at x)) ks) (filter (is_fresh at) (map seen ks)) (waits_where (is_fresh at) (map seen ks) (map waits ks)) (not (is_old at k)) (sweep_waits at ks)

pub swept_seen : (at : ℕ) (b : BookView) (range : ℕ) → transactions_seen (books.swept at b) range ≡ swept at (transactions_seen b range)
swept_seen at b range = ap₂ (λ (ts : List Txn) (ws : List WaitingRows). record { txns = ts; waiting = ws; range = range; next = b.next; places = b.places }) (sweep_seen at b.kept) (sweep_waits at b.kept)

-- a table less
dropped_one : (table at : ℕ) (k : TxnInfo) → seen (dropped_in table at k) ≡ dropped table at (seen k)
dropped_one table at k = elim (nat_eq k.table table) as (λ (b : Bool). seen (cond b (drop_as at k) k) ≡ cond b (dropped_at at (seen k)) (seen k)) [ true ↦ refl | false ↦ refl ]

dropped_waits : (table at : ℕ) (k : TxnInfo) → waits (dropped_in table at k) ≡ cond (nat_eq k.table table) (emptied (waits k)) (waits k)
dropped_waits table at k = elim (nat_eq k.table table) as (λ (b : Bool). waits (cond b (drop_as at k) k) ≡ cond b (emptied (waits k)) (waits k)) [ true ↦ refl | false ↦ refl ]

drop_seen : (table at : ℕ) (ks : List TxnInfo) → map seen (map (dropped_in table at) ks) ≡ map (dropped table at) (map seen ks)
drop_seen table at [] = refl
drop_seen table at (k ∷ ks) = ap₂ (λ (t : Txn) (l : List Txn). t ∷ l) (dropped_one table at k) (drop_seen table at ks)

drop_waits : (table at : ℕ) (ks : List TxnInfo) → map waits (map (dropped_in table at) ks) ≡ emptied_where (is_of table) (map seen ks) (map waits ks)
drop_waits table at [] = refl
drop_waits table at (k ∷ ks) = ap₂ (λ (w : WaitingRows) (l : List WaitingRows). w ∷ l) (dropped_waits table at k) (drop_waits table at ks)

pub without_seen : (table at : ℕ) (b : BookView) (range : ℕ) → transactions_seen (books.without_table table at b) range ≡ without_table table at (transactions_seen b range)
without_seen table at b range = ap₂ (λ (ts : List Txn) (ws : List WaitingRows). record { txns = ts; waiting = ws; range = range; next = b.next; places = b.places }) (drop_seen table at b.kept) (drop_waits table at b.kept)
