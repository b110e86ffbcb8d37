-- A snapshot shows what is stored.
use Rattle.std.proofs.Common.{◌≡◌, ℕ, ◌+◌, ◌<◌, Bool, true, false, cond, List, [], ◌∷◌, ◌++◌, Option, Some, None, MatchOption, ◌⊎◌, inl, inr, map, find, flat_map, length, length-append, refl, sym, ◌∙◌, ap, arith, subst, nat_eq}
use Rattle.rowsets.specs.RowsetView.{rowset_rows}
use Rattle.std.proofs.lemmas.Bool.Decides.{nat_tests}
use Rattle.dl_values.specs.declared.cell.Cell.{Cell}
use Rattle.partitions.specs.Places.{Place, tablets_of}
use Rattle.sql_text.specs.declared.query.Query.{Query}
use Rattle.schema_models.specs.Faults.{first_of}
use Rattle.schema_models.specs.Folds.{fold_of}
use Rattle.front_defs.specs.declared.event.Event.{Event}
use Rattle.front_defs.specs.declared.catalogue.Table.{Table}
use Rattle.front_defs.specs.declared.reply.Reply.{Reply}
use Rattle.front_defs.specs.declared.reply.Reply.TheVariants as reply
use Rattle.front_defs.specs.declared.command.Command.TheVariants as command
use Rattle.front_defs.specs.Answer.{snapshot_refusals, Answer, Shows, ShownFor, ShowsIndex}
use Rattle.front_defs.specs.Catalogue.{is_named, table_named, table_at, databases_of, tables_of}
use Rattle.front_defs.specs.Indexes.{base_index}
use Rattle.front_defs.specs.Stands.{View, StandsOpen, lists_for, stored_for}
use Rattle.front_defs.specs.Stored.{base_of, cost_of, indexed, lists_of, rows_in, stored_of, index_lists}
use Rattle.front_laws.specs.Laws.{IndexFoldsTo, NumbersAscend, joined}
use Rattle.front_laws.specs.Tidy.{Each, Pairs}
use Rattle.front_laws.proofs.Lists.{each_found, eq_is}
use Rattle.front_core.specs.Parts.{Shares, SharedFor, SharesLists}
use Rattle.front_state.specs.Tablets.{base_lists}

named_cons : (t u : Table) (us : List Table) (b h : Bool) → nat_eq u.number t.number ≡ h → Each (λ (x : Table). u.number < x.number) us → (p : Table → Bool) → cond b (Some u) (find p us) ≡ Some t → (find p us ≡ Some t → table_at t.number us ≡ Some t) → cond h (Some u) (table_at t.number us) ≡ Some t
named_cons t u us true true is a p f k = f
named_cons t u us true false is a p f k = let i : u ≡ t = cc in absurd (let e : nat_eq u.number u.number ≡ true = grind (arith, nat_tests) in let z : nat_eq u.number u.number ≡ false = ap (λ (x : Table). nat_eq u.number x.number) i ∙ is in cc (e, z))
named_cons t u us false true is a p f k = let lt = each_found (λ (x : Table). u.number < x.number) p us t a f in let same = eq_is u.number t.number is in absurd (omega (arith, lt, same))
named_cons t u us false false is a p f k = k f

found_number : (p : Table → Bool) (ts : List Table) (t : Table) → Pairs NumbersAscend ts → find p ts ≡ Some t → table_at t.number ts ≡ Some t
found_number p [] t a f = absurd (cc)
found_number p (u ∷ us) t a f = named_cons t u us (p u) (nat_eq u.number t.number) refl a.0 p f (λ g. found_number p us t a.1 g)

cost_joined : (ls : List (List (List Cell))) → length (joined ls) ≡ cost_of ls
cost_joined [] = refl
cost_joined (l ∷ ls) = length-append l (joined ls) ∙ ap (λ (n : ℕ). length l + n) (cost_joined ls)

-- lists that are the same in each tablet are the same together
same_lists : (f g : Place → List (List (List Cell))) → ((w : Place) → f w ≡ g w) → (ws : List Place) → flat_map f ws ≡ flat_map g ws
same_lists f g e [] = refl
same_lists f g e (w ∷ ws) = ap (λ (x : List (List (List Cell))). x ++ flat_map f ws) (e w) ∙ ap (λ (x : List (List (List Cell))). g w ++ x) (same_lists f g e ws)

-- what a front has stored of a table is what is stored of its base
stored_is : (v : View) (Es : List Event) (t : Table) → table_at t.number (tables_of Es) ≡ Some t → StandsOpen v Es → base_lists t.layout (stored_for t.number v.tablets) ≡ stored_of Es t.number 0
stored_is v Es t at s =
    same_lists (λ (w : Place). rows_in (lists_for 0 w (stored_for t.number v.tablets))) (λ (w : Place). rows_in (lists_of Es t.number 0 w)) (λ w. ap rows_in (s.tablets.lists t.number 0 w)) (tablets_of t.layout)
    ∙ ap (λ (o : Option Table). index_lists o (lists_of Es t.number 0)) (sym at)

folds_found : (o : Option Table) (t : Table) (base : List (List Cell)) (lists : List (List (List Cell))) → o ≡ Some t → IndexFoldsTo o 0 base lists → fold_of t.shape (joined lists) ≡ indexed (base_index t) base
folds_found o t base lists e h = subst (λ (x : Option Table). IndexFoldsTo x 0 base lists) e h

shows_base : (t : Table) (base : List (List Cell)) (lists shown : List (List (List Cell))) → fold_of t.shape (joined lists) ≡ indexed (base_index t) base → shown ≡ lists → ShowsIndex (base_index t) base (cost_of lists) shown
shows_base t base lists shown e same = record { rows = ap (λ (ls : List (List (List Cell))). fold_of t.shape (joined ls)) same ∙ e; stored = let c = ap (λ (ls : List (List (List Cell))). length (joined ls)) same ∙ cost_joined lists in omega (arith, c) }

shown_table : (v : View) (Es : List Event) (t : Table) (r : Reply) → table_at t.number (tables_of Es) ≡ Some t → IndexFoldsTo (table_at t.number (tables_of Es)) 0 (base_of Es t.number) (stored_of Es t.number 0) → StandsOpen v Es → SharesLists t v.tablets r → Shows t (base_index t) (base_of Es t.number) (cost_of (stored_of Es t.number 0)) r
shown_table v Es t (reply.Snap snapshot) at h s k = (k.0, k.1, shows_base t (base_of Es t.number) (stored_of Es t.number 0) (map (λ l. rowset_rows l.value) snapshot.lists) (folds_found (table_at t.number (tables_of Es)) t (base_of Es t.number) (stored_of Es t.number 0) at h) (k.2 ∙ stored_is v Es t at s))
shown_table v Es t _ at h s k = absurd k

shown_for : (v : View) (Es : List Event) (o : Option Table) (query : Query) (r : Reply) → ((t : Table) → o ≡ Some t → table_at t.number (tables_of Es) ≡ Some t) → ((table : ℕ) → IndexFoldsTo (table_at table (tables_of Es)) 0 (base_of Es table) (stored_of Es table 0)) → StandsOpen v Es → SharedFor o v.tablets r → ShownFor o query (base_of Es) (λ t index. cost_of (stored_of Es t index)) r
shown_for v Es None query r at h s k = absurd k
shown_for v Es (Some t) query r at h s k = shown_table v Es t r (at t refl) (h t.number) s k

shown_by : (q : Option Reply) (ok shown : Type 0) (r : Reply) → (ok → shown) → (r ≡ reply.NoMemory) ⊎ MatchOption q ok (λ x. r ≡ x) → (r ≡ reply.NoMemory) ⊎ MatchOption q shown (λ x. r ≡ x)
shown_by q ok shown r f (inl e) = inl e
shown_by None ok shown r f (inr h) = inr (f h)
shown_by (Some x) ok shown r f (inr h) = inr h

pub snaps : (v : View) (Es : List Event) (db table : List ℕ) (query : Query) (r : Reply) → Pairs NumbersAscend (tables_of Es) → ((table : ℕ) → IndexFoldsTo (table_at table (tables_of Es)) 0 (base_of Es table) (stored_of Es table 0)) → Shares db table v.databases v.tables v.tablets r → StandsOpen v Es → Answer Es (command.Snapshot db table query) r
snaps v Es db table query r ascend folds h s =
    let there = rw (s.cat.databases, s.cat.tables) at h in
    shown_by (first_of (snapshot_refusals db table (databases_of Es) (tables_of Es))) (SharedFor (table_named db table (tables_of Es)) v.tablets r) (ShownFor (table_named db table (tables_of Es)) query (base_of Es) (λ t index. cost_of (stored_of Es t index)) r) r
    (shown_for v Es (table_named db table (tables_of Es)) query r (λ t f. found_number (is_named db table) (tables_of Es) t ascend f) folds s) there
