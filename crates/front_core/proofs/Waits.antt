-- What waits where transactions lose their rows, or are forgotten.
use Rattle.std.proofs.Common.{◌≡◌, ℕ, ◌<◌, Bool, true, false, cond, List, [], ◌∷◌, Option, Some, None, map, filter, find, refl, sym, ◌∙◌, ap, arith, nat_eq}
use Rattle.std.proofs.lemmas.Bool.Decides.{nat_tests}
use Rattle.alter_core.specs.declared.job.JobInfo.{JobInfo}
use Rattle.front_defs.specs.declared.catalogue.Table.{Table}
use Rattle.front_defs.specs.declared.txn.Txn.{Txn}
use Rattle.front_defs.specs.Catalogue.{table_at}
use Rattle.front_defs.specs.Stands.{WaitingRows, waiting_for, waiting_found}
use Rattle.front_defs.specs.Stored.{waiting_by}
use Rattle.front_defs.specs.Transactions.{txn_at}
use Rattle.front_laws.specs.Tidy.{Each, Ascends}
use Rattle.front_laws.proofs.Lists.{each_imp, eq_is}
use Rattle.front_state.specs.Parts.{emptied, emptied_where, waits_where}
use Rattle.front_core.proofs.Loads.{no_rows, no_set_at}

abbrev passes : (Txn → Bool) → Option Txn → Bool
passes p None = false
passes p (Some t) = p t

abbrev Aligned : List WaitingRows → List Txn → Type 0
Aligned ws ts = map (λ (w : WaitingRows). w.txn) ws ≡ map (λ (t : Txn). t.id) ts

-- ---- where they lose their rows
empty_cons : (p : Txn → Bool) (n index : ℕ) (t : Txn) (w : WaitingRows) (a x : Option WaitingRows) (o : Option Txn) (h b : Bool) → p t ≡ h → nat_eq w.txn n ≡ b → nat_eq t.id n ≡ b → waiting_found index a ≡ cond (passes p o) [] (waiting_found index x) → waiting_found index (cond (nat_eq (cond h (emptied w) w).txn n) (Some (cond h (emptied w) w)) a) ≡ cond (passes p (cond b (Some t) o)) [] (waiting_found index (cond b (Some w) x))
empty_cons p n index t w a x o true true e f g k = rw (f, e) (no_set_at index)
empty_cons p n index t w a x o false true e f g k = rw (f, e) refl
empty_cons p n index t w a x o true false e f g k = rw f k
empty_cons p n index t w a x o false false e f g k = rw f k

emptied_for : (p : Txn → Bool) (n index : ℕ) (ts : List Txn) (ws : List WaitingRows) → Aligned ws ts → waiting_for n index (emptied_where p ts ws) ≡ cond (passes p (txn_at n ts)) [] (waiting_for n index ws)
emptied_for p n index [] [] al = refl
emptied_for p n index [] (w ∷ ws) al = absurd (cc)
emptied_for p n index (t ∷ ts) [] al = absurd (cc)
emptied_for p n index (t ∷ ts) (w ∷ ws) al =
    let same : w.txn ≡ t.id = cc in
    let rest : Aligned ws ts = cc in
    let hit : nat_eq w.txn n ≡ nat_eq t.id n = ap (λ (m : ℕ). nat_eq m n) same in
    rw hit (empty_cons p n index t w (find (λ y. nat_eq y.txn n) (emptied_where p ts ws)) (find (λ y. nat_eq y.txn n) ws) (txn_at n ts) (p t) (nat_eq t.id n) refl hit refl (emptied_for p n index ts ws rest))

by_cons : (p : Txn → Bool) (f : Txn → Txn) (n index : ℕ) (t : Txn) (a o : Option Txn) (tables : List Table) (jobs : List JobInfo) (h b : Bool) → p t ≡ h → nat_eq t.id n ≡ b → (f t).id ≡ t.id → (p t ≡ true → (f t).rows ≡ []) → (p t ≡ false → f t ≡ t) → waiting_by a index tables jobs ≡ cond (passes p o) [] (waiting_by o index tables jobs) → waiting_by (cond (nat_eq (f t).id n) (Some (f t)) a) index tables jobs ≡ cond (passes p (cond b (Some t) o)) [] (waiting_by (cond b (Some t) o) index tables jobs)
by_cons p f n index t a o tables jobs true true e g same none still k = let hit : nat_eq (f t).id n ≡ true = ap (λ (m : ℕ). nat_eq m n) same ∙ g in rw (hit, e) (no_rows (table_at (f t).table tables) jobs index (f t).id (f t).rows (none e))
by_cons p f n index t a o tables jobs false true e g same none still k = let hit : nat_eq (f t).id n ≡ true = ap (λ (m : ℕ). nat_eq m n) same ∙ g in rw (hit, e) (ap (λ (u : Txn). waiting_by (Some u) index tables jobs) (still e))
by_cons p f n index t a o tables jobs h false e g same none still k = let miss : nat_eq (f t).id n ≡ false = ap (λ (m : ℕ). nat_eq m n) same ∙ g in rw miss k

emptied_by : (p : Txn → Bool) (f : Txn → Txn) (n index : ℕ) (ts : List Txn) (tables : List Table) (jobs : List JobInfo) → ((t : Txn) → (f t).id ≡ t.id) → ((t : Txn) → p t ≡ true → (f t).rows ≡ []) → ((t : Txn) → p t ≡ false → f t ≡ t) → waiting_by (txn_at n (map f ts)) index tables jobs ≡ cond (passes p (txn_at n ts)) [] (waiting_by (txn_at n ts) index tables jobs)
emptied_by p f n index [] tables jobs same none still = refl
emptied_by p f n index (t ∷ ts) tables jobs same none still = by_cons p f n index t (txn_at n (map f ts)) (txn_at n ts) tables jobs (p t) (nat_eq t.id n) refl refl (same t) (none t) (still t) (emptied_by p f n index ts tables jobs same none still)

-- what waits where some lose their rows
pub waiting_emptied : (p : Txn → Bool) (f : Txn → Txn) (n index : ℕ) (ts : List Txn) (ws : List WaitingRows) (tables : List Table) (jobs : List JobInfo) → ((t : Txn) → (f t).id ≡ t.id) → ((t : Txn) → p t ≡ true → (f t).rows ≡ []) → ((t : Txn) → p t ≡ false → f t ≡ t) → Aligned ws ts → waiting_for n index ws ≡ waiting_by (txn_at n ts) index tables jobs → waiting_for n index (emptied_where p ts ws) ≡ waiting_by (txn_at n (map f ts)) index tables jobs
waiting_emptied p f n index ts ws tables jobs same none still al e = emptied_for p n index ts ws al ∙ ap (λ x. cond (passes p (txn_at n ts)) [] x) e ∙ sym (emptied_by p f n index ts tables jobs same none still)

-- ---- where they are forgotten
no_txn_step : (n : ℕ) (t : Txn) (us : List Txn) (b : Bool) → n < t.id → txn_at n us ≡ None → txn_at n (cond b (t ∷ us) us) ≡ None
no_txn_step n t us true h k = let off : nat_eq t.id n ≡ false = grind (arith, nat_tests) in rw off k
no_txn_step n t us false h k = k

no_txn : (q : Txn → Bool) (n : ℕ) (ts : List Txn) → Each (λ (t : Txn). n < t.id) ts → txn_at n (filter q ts) ≡ None
no_txn q n [] e = refl
no_txn q n (t ∷ ts) e = no_txn_step n t (filter q ts) (q t) e.0 (no_txn q n ts e.1)

no_wait_step : (n index : ℕ) (w : WaitingRows) (us : List WaitingRows) (b : Bool) → n < w.txn → waiting_for n index us ≡ [] → waiting_for n index (cond b (w ∷ us) us) ≡ []
no_wait_step n index w us true h k = let off : nat_eq w.txn n ≡ false = grind (arith, nat_tests) in rw off k
no_wait_step n index w us false h k = k

no_wait : (q : Txn → Bool) (n index : ℕ) (ts : List Txn) (ws : List WaitingRows) → Aligned ws ts → Each (λ (t : Txn). n < t.id) ts → waiting_for n index (waits_where q ts ws) ≡ []
no_wait q n index [] ws al e = refl
no_wait q n index (t ∷ ts) [] al e = refl
no_wait q n index (t ∷ ts) (w ∷ ws) al e =
    let same : w.txn ≡ t.id = cc in
    let rest : Aligned ws ts = cc in
    let low = e.0 in
    no_wait_step n index w (waits_where q ts ws) (q t) (omega (arith, same, low)) (no_wait q n index ts ws rest e.1)

above_as : (n : ℕ) (t : Txn) (ts : List Txn) → nat_eq t.id n ≡ true → Each (λ (u : Txn). t.id < u.id) ts → Each (λ (u : Txn). n < u.id) ts
above_as n t ts e a = let same = eq_is t.id n e in each_imp (λ (u : Txn). t.id < u.id) (λ (u : Txn). n < u.id) (λ u h. omega (arith, same, h)) ts a

kept_by_step : (q : Txn → Bool) (n index : ℕ) (t : Txn) (us : List Txn) (o : Option Txn) (tables : List Table) (jobs : List JobInfo) (h b : Bool) → q t ≡ h → nat_eq t.id n ≡ b → (b ≡ true → txn_at n us ≡ None) → waiting_by (txn_at n us) index tables jobs ≡ cond (passes q o) (waiting_by o index tables jobs) [] → waiting_by (txn_at n (cond h (t ∷ us) us)) index tables jobs ≡ cond (passes q (cond b (Some t) o)) (waiting_by (cond b (Some t) o) index tables jobs) []
kept_by_step q n index t us o tables jobs true true e f none k = rw (f, e) refl
kept_by_step q n index t us o tables jobs true false e f none k = rw f k
kept_by_step q n index t us o tables jobs false true e f none k = rw e (ap (λ (x : Option Txn). waiting_by x index tables jobs) (none refl))
kept_by_step q n index t us o tables jobs false false e f none k = k

kept_by : (q : Txn → Bool) (n index : ℕ) (ts : List Txn) (tables : List Table) (jobs : List JobInfo) → Ascends ts → waiting_by (txn_at n (filter q ts)) index tables jobs ≡ cond (passes q (txn_at n ts)) (waiting_by (txn_at n ts) index tables jobs) []
kept_by q n index [] tables jobs a = refl
kept_by q n index (t ∷ ts) tables jobs a = kept_by_step q n index t (filter q ts) (txn_at n ts) tables jobs (q t) (nat_eq t.id n) refl refl (λ f. no_txn q n ts (above_as n t ts f a.0)) (kept_by q n index ts tables jobs a.1)

kept_for_step : (q : Txn → Bool) (n index : ℕ) (t : Txn) (w : WaitingRows) (us : List WaitingRows) (o : Option Txn) (x : Option WaitingRows) (h b : Bool) → q t ≡ h → nat_eq t.id n ≡ b → nat_eq w.txn n ≡ b → (b ≡ true → waiting_for n index us ≡ []) → waiting_for n index us ≡ cond (passes q o) (waiting_found index x) [] → waiting_for n index (cond h (w ∷ us) us) ≡ cond (passes q (cond b (Some t) o)) (waiting_found index (cond b (Some w) x)) []
kept_for_step q n index t w us o x true true e f g none k = rw (g, e) refl
kept_for_step q n index t w us o x true false e f g none k = rw g k
kept_for_step q n index t w us o x false true e f g none k = rw e (none refl)
kept_for_step q n index t w us o x false false e f g none k = k

kept_for : (q : Txn → Bool) (n index : ℕ) (ts : List Txn) (ws : List WaitingRows) → Aligned ws ts → Ascends ts → waiting_for n index (waits_where q ts ws) ≡ cond (passes q (txn_at n ts)) (waiting_for n index ws) []
kept_for q n index [] ws al a = refl
kept_for q n index (t ∷ ts) [] al a = absurd (cc)
kept_for q n index (t ∷ ts) (w ∷ ws) al a =
    let same : w.txn ≡ t.id = cc in
    let rest : Aligned ws ts = cc in
    let hit : nat_eq w.txn n ≡ nat_eq t.id n = ap (λ (m : ℕ). nat_eq m n) same in
    rw hit (kept_for_step q n index t w (waits_where q ts ws) (txn_at n ts) (find (λ y. nat_eq y.txn n) ws) (q t) (nat_eq t.id n) refl refl hit (λ f. no_wait q n index ts ws rest (above_as n t ts f a.0)) (kept_for q n index ts ws rest a.1))

-- those that are kept stand as before
pub waiting_kept : (q : Txn → Bool) (n index : ℕ) (ts : List Txn) (ws : List WaitingRows) (tables : List Table) (jobs : List JobInfo) → Aligned ws ts → Ascends ts → waiting_for n index ws ≡ waiting_by (txn_at n ts) index tables jobs → waiting_for n index (waits_where q ts ws) ≡ waiting_by (txn_at n (filter q ts)) index tables jobs
waiting_kept q n index ts ws tables jobs al a e = kept_for q n index ts ws al a ∙ ap (λ x. cond (passes q (txn_at n ts)) x []) e ∙ sym (kept_by q n index ts tables jobs a)

aligned_step : (t : Txn) (w : WaitingRows) (us : List Txn) (vs : List WaitingRows) (b : Bool) → w.txn ≡ t.id → Aligned vs us → Aligned (cond b (w ∷ vs) vs) (cond b (t ∷ us) us)
aligned_step t w us vs true e k = cc
aligned_step t w us vs false e k = k

pub kept_aligned : (q : Txn → Bool) (ts : List Txn) (ws : List WaitingRows) → Aligned ws ts → Aligned (waits_where q ts ws) (filter q ts)
kept_aligned q [] [] al = refl
kept_aligned q [] (w ∷ ws) al = refl
kept_aligned q (t ∷ ts) [] al = absurd (cc)
kept_aligned q (t ∷ ts) (w ∷ ws) al =
    let same : w.txn ≡ t.id = cc in
    let rest : Aligned ws ts = cc in
    aligned_step t w (filter q ts) (waits_where q ts ws) (q t) same (kept_aligned q ts ws rest)
