-- The steps of a turn keep the rule.
use Rattle.std.proofs.Common.{◌≡◌, ◌≢◌, ◌⊎◌, ℕ, ◌+◌, ◌%◌, ◌^◌, eqb, List, [], ◌∷◌, map, length, set, get_or, refl, sym, ap, ◌∙◌, subst, inl, inr, ⊎_elim, arith, Some, None, Option}
use mathlib.Core.Option as maybe
use mathlib.Core.Option.{some, some-ne-none}
use prog.Atomic.{either}
use lib.ListN.{get_elem?}
use lib.Seq.{set-get_or}
use Rattle.atomic_table.specs.Table.{State, Me, step, keeps, takes, gives, opening, put_back, rest, Allows}
use Rattle.atomic_table.proofs.Lists.{set_again, at_map}
use Rattle.desk.specs.declared.book.Home.{Home}
use Rattle.desk.specs.declared.view.View.{View}
use Rattle.desk.specs.History.{entries_by}
use Rattle.desk.specs.Names.{mark, In, Knows, AreNamed}
use Rattle.desk.specs.Rule.{IsLegalFrom, StandsFrom, Fits, IsHome, IsOut, IsLive, Kept, newcomer, spent, tag, mark_of, Took, added, idle, Adds, GaveBack, Looked}
use Rattle.desk.proofs.Books.{counts, one_longer, some_some}
use Rattle.desk.proofs.Lists.{the_one, in_map, set_here, goes_by, goes_same, goes_through}
use Rattle.desk.proofs.Naming.{starts, called_more}
use Rattle.desk.proofs.Own.{own_more, own_else}
use Rattle.desk.proofs.Views.{each_set, same_tags, fresh, live_at, fit_live, fit_held, knows_own, knows_joined, held_is}

module _ {E N : Type 0} (seat_of : N → Option (List ℕ)) (stands : E → List N → Type 0) (legal : List N → Type 0) (key : E) where
  abbrev V : Type 0
  V = View E N

  abbrev L : Type 0
  L = List N

  abbrev St : Type 0
  St = State (Option (Home E N)) V

  abbrev M : Type 0
  M = Me (Option (Home E N)) V

  abbrev Rule : St → Type 0
  Rule = Kept seat_of stands legal key

  abbrev Fit : L → V → Type 0
  Fit = Fits seat_of key

  pub opens : (home : Home E N) → home.engine ≡ key → home.book.pen.me.0.since ≡ [] → Rule (opening (0 ∷ 0 ∷ []) (Some home ∷ []) (newcomer key))
  opens home is none = record {
    log = [];
    called = [];
    called_is = refl;
    is_legal = λ first f. f.3;
    place = inl (
      home,
      refl,
      refl,
      (λ first f. subst (λ (x : E). stands x first) (sym (some_some key f.0 f.1) ∙ sym is) f.2),
      none,
      only (λ v. v.held ≡ None) refl,
    );
    fits = only (λ v. (v ≡ spent) ⊎ Fit [] v) (inr (record { start_is = refl; seen = ([], refl); own_all = refl; own_seen = refl; told = λ k i. absurd i }));
    names = starts;
  }
    where
      only : (P : V → Type 0) → P (newcomer key) → (k : ℕ) (v : V) → get_elem? (newcomer key ∷ []) k ≡ some v → P v
      only P p k v e = subst P (the_one (newcomer key) k v e).1 p

  pub takes_it : (slots id : ℕ) (me : M) → me.0.held ≡ None → IsLive me.0 → Allows Rule slots id me 1 (λ n. either (eqb n 0) 1 n) (Took seat_of stands legal (step slots 1 0 1 maybe.none) me)
  takes_it slots id me free live s r long at small = ⊎_elim
      (λ (h : IsHome seat_of stands legal key s.words s.homes s.views r.log).
      let word : get_or s.words 1 0 ≡ 0 = ap (λ l. get_or l 1 0) h.1 in
      let w : V = record me.0 { held = Some r.log } in
      let f = fit_live seat_of key r.log me.0 (r.fits id me.0 at) live in (
        w,
        takes 0 (Some h.0),
        ap (λ l. get_elem? l 0) h.2,
        record {
          log = r.log;
          called = r.called;
          called_is = r.called_is;
          is_legal = r.is_legal;
          place = inr (
            id,
            (λ i. set (h.1 i) 1 (either (eqb (word i) 0) 1 (word i))),
            ap (λ l. set l 0 maybe.none) h.2,
            (w, set_here s.views id w me.0 at, refl),
            each_set (λ k v. (v.held ≡ None) ⊎ ((v.held ≡ Some r.log) × (k ≡ id))) s.views id w (inr (refl, refl)) (λ k v other e. inl (h.5 k v e)),
          );
          fits = each_set (λ _ v. (v ≡ spent) ⊎ Fit r.log v) s.views id w (inr (record { start_is = f.start_is; seen = f.seen; own_all = f.own_all; own_seen = f.own_seen; told = f.told })) (λ k v _ e. r.fits k v e);
          names = subst (AreNamed r.called) (sym (same_tags s.views id me.0 w at refl)) r.names;
        },
        (
          (λ _. (h.0, r.log, refl, subst (λ x. StandsFrom stands legal x h.0.engine r.log) (sym f.start_is) h.3, h.4, subst (λ x. IsLegalFrom stands legal x r.log) (sym f.start_is) r.is_legal, f.seen, f.own_all, f.own_seen)),
          (λ n. absurd (n word)),
        ),
      ))
      (λ (h : IsOut seat_of stands legal s.words s.homes s.views r.log).
      let word : get_or s.words 1 0 ≡ 1 = ap (λ l. get_or l 1 0) h.1 in
      let same_views = set_again s.views id me.0 at in
      let same_words : set s.words 1 (either (eqb (get_or s.words 1 0) 0) 1 (get_or s.words 1 0)) ≡ s.words = (λ i. set (h.1 i) 1 (either (eqb (word i) 0) 1 (word i))) ∙ sym h.1 in (
        me.0,
        keeps,
        tt,
        subst Rule (λ i. record { words = sym same_words i; homes = s.homes; views = sym same_views i }) r,
        ((λ z. absurd (omega arith)), (λ _. refl)),
      ))
      r.place

  -- a view of another seat, after an entry
  fits_other : (s : St) (r : Rule s) (id : ℕ) (me : V) (e : N) → get_elem? s.views id ≡ some me → IsLive me → seat_of e ≡ Some me.name
      → (k : ℕ) (v : V) → k ≢ id → get_elem? s.views k ≡ some v → (v ≡ spent) ⊎ Fit (e ∷ r.log) v
  fits_other s r id me e at live said k v other at_k = ⊎_elim
      (λ (t : v ≡ spent). inl t)
      (λ (g : Fit r.log v).
      let not_called : (n : List ℕ) (splits : ℕ) → Knows (tag v) n splits → seat_of e ≡ Some n → ⊥ =
      λ n splits x same. other (r.names.apart k id (tag v) (tag me) (at_map tag s.views k v at_k) (at_map tag s.views id me at) me.name splits me.splits
      (subst (λ (m : List ℕ). Knows (tag v) m splits) (some_some n me.name (sym same ∙ said)) x) (knows_own me live)).0 in
      inr (record {
        start_is = g.start_is;
        seen = goes_by r.log v.seen e g.seen;
        own_all = own_else seat_of v.name e r.log (not_called v.name v.splits (knows_own v (live_at v key g.start_is))) ∙ g.own_all;
        own_seen = g.own_seen;
        told = λ k' i. let t = g.told k' i in (t.0, own_else seat_of k'.name e r.log (not_called k'.name k'.splits (knows_joined v (live_at v key g.start_is) k' i)) ∙ t.1);
      }))
      (r.fits k v at_k)

  -- the view of the seat that called
  fits_caller : (s : St) (r : Rule s) (id : ℕ) (me : V) (e : N) → get_elem? s.views id ≡ some me → Fit r.log me → seat_of e ≡ Some me.name → Fit (e ∷ r.log) (added me r.log e)
  fits_caller s r id me e at f said =
      let own : entries_by seat_of me.name (e ∷ r.log) ≡ e ∷ me.own = own_more seat_of me.name e r.log said ∙ ap (λ l. e ∷ l) f.own_all in record {
        start_is = f.start_is;
        seen = goes_same (e ∷ r.log);
        own_all = own;
        own_seen = own;
        told = λ k i.
            let t = f.told k i in
            let other : seat_of e ≡ Some k.name → ⊥ = λ same. r.names.alone id (tag me) (at_map tag s.views id me at) (fresh me (live_at me key f.start_is)) k.splits
            (subst (λ (m : List ℕ). In (mark m k.splits) (tag me).joined) (some_some k.name me.name (sym same ∙ said)) (in_map mark_of k me.joined i)) in
            (goes_by r.log k.seen e (goes_through r.log me.seen k.seen f.seen t.0), own_else seat_of k.name e r.log other ∙ t.1);
      }

  pub adds_it : (slots id : ℕ) (me : M) (fits : N → Type 0) (e : N) (log : L) → fits e → seat_of e ≡ Some me.0.name → me.0.held ≡ Some log → IsLegalFrom stands legal me.0.start (e ∷ log)
      → Allows Rule slots id me 0 (λ n. (n + 1) % 2 ^ 64) (Adds fits (step slots 0 1 0 maybe.none) me)
  adds_it slots id me fits e log fit said held legal_on s it long at small =
      let o = held_is seat_of stands legal key s it id me.0 log at held in
      let h = o.0 in
      let f = fit_held seat_of key it.log me.0 (it.fits id me.0 at) log held in
      let same : it.log ≡ log = o.2 in
      let w : V = added me.0 it.log e in
      let now : L = e ∷ it.log in
      let word : get_or s.words 0 0 ≡ length it.log % 2 ^ 64 = ap (λ l. get_or l 0 0) h.1 in
      let count : (get_or s.words 0 0 + 1) % 2 ^ 64 ≡ length now % 2 ^ 64 = ap (λ n. (n + 1) % 2 ^ 64) word ∙ (counts (length it.log) ∙ one_longer e it.log) in (
        w,
        keeps,
        tt,
        record {
          log = now;
          called = me.0.name ∷ it.called;
          called_is = λ i. said i ∷ it.called_is i;
          is_legal = subst (λ (x : Option E × L). IsLegalFrom stands legal x.0 (e ∷ x.1)) (λ i. (f.start_is i, sym same i)) legal_on;
          place = inr (
            id,
            (λ i. set (h.1 i) 0 (count i)),
            h.2,
            (w, set_here s.views id w me.0 at, refl),
            each_set (λ k v. (v.held ≡ None) ⊎ ((v.held ≡ Some now) × (k ≡ id))) s.views id w (inr (refl, refl))
                (λ k v other at_k. inl (⊎_elim (λ (t : v.held ≡ None). t) (λ (t : (v.held ≡ Some it.log) × (k ≡ h.0)). absurd (other (t.1 ∙ sym o.1))) (h.4 k v at_k))),
          );
          fits = each_set (λ _ v. (v ≡ spent) ⊎ Fit now v) s.views id w (inr (fits_caller s it id me.0 e at f said)) (fits_other s it id me.0 e at (live_at me.0 key f.start_is) said);
          names = subst (AreNamed (me.0.name ∷ it.called)) (sym (same_tags s.views id me.0 w at refl))
              (called_more it.called (map tag s.views) it.names id (tag me.0) (at_map tag s.views id me.0 at) (fresh me.0 (live_at me.0 key f.start_is)));
        },
        (λ log' held'. (e, fit, λ i. (added me.0 ((same ∙ some_some log log' (sym held ∙ held')) i) e, me.1))),
      )

  pub gives_it : (slots id : ℕ) (me : M) (now : Home E N) (log : L) → me.0.held ≡ Some log → me.1 ≡ (0, Some now) ∷ [] → StandsFrom stands legal me.0.start now.engine log → now.book.pen.me.0.since ≡ log
      → Allows Rule slots id me 1 (λ _. 0) (λ _. GaveBack (step slots 1 0 0 maybe.none) me 0)
  gives_it slots id me now log held has stood book s it long at small =
      let o = held_is seat_of stands legal key s it id me.0 log at held in
      let h = o.0 in
      let w : V = idle me.0 in
      let f = fit_held seat_of key it.log me.0 (it.fits id me.0 at) log held in
      let same : it.log ≡ log = o.2 in (
        w,
        gives,
        tt,
        record {
          log = it.log;
          called = it.called;
          called_is = it.called_is;
          is_legal = it.is_legal;
          place = inl (
            now,
            ap (λ l. set l 1 0) h.1,
            (λ i. put_back (h.2 i) (has i)),
            subst (λ (x : Option E × L). StandsFrom stands legal x.0 now.engine x.1) (λ i. (f.start_is i, sym same i)) stood,
            book ∙ sym same,
            each_set (λ _ v. v.held ≡ None) s.views id w refl
                (λ k v other at_k. ⊎_elim (λ (t : v.held ≡ None). t) (λ (t : (v.held ≡ Some it.log) × (k ≡ h.0)). absurd (other (t.1 ∙ sym o.1))) (h.4 k v at_k)),
          );
          fits = each_set (λ _ v. (v ≡ spent) ⊎ Fit it.log v) s.views id w (inr (record { start_is = f.start_is; seen = f.seen; own_all = f.own_all; own_seen = f.own_seen; told = f.told })) (λ k v _ e. it.fits k v e);
          names = subst (AreNamed it.called) (sym (same_tags s.views id me.0 w at refl)) it.names;
        },
        (λ i. (w, rest (has i))),
      )

  -- a look changes nothing
  pub looks_at : (slots id : ℕ) (me : M) → IsLive me.0 → Allows Rule slots id me 0 (λ n. n) (Looked (step slots 0 0 0 maybe.none) me)
  looks_at slots id me live s r long at small =
      let f = fit_live seat_of key r.log me.0 (r.fits id me.0 at) live in
      let same_words : set s.words 0 (get_or s.words 0 0) ≡ s.words = set-get_or s.words 0 0 in (
        me.0,
        keeps,
        tt,
        subst Rule (λ i. record { words = sym same_words i; homes = s.homes; views = sym (set_again s.views id me.0 at) i }) r,
        (refl, λ k i. (f.told k i).0),
      )
