-- A table less, and what is stored of it.
use Rattle.std.proofs.Common.{◌≡◌, ℕ, ◌<◌, ◌≤◌, Bool, true, false, cond, not, List, [], ◌∷◌, map, filter, refl, ◌∙◌, ap, ap₂, nat_eq}
use Rattle.std.specs.Map.{values_of}
use Rattle.front_defs.specs.declared.catalogue.Table.{Table}
use Rattle.front_defs.specs.Stands.{TableTablets}
use Rattle.front_laws.specs.Tidy.{Each}
use Rattle.front_laws.proofs.Lists.{each_filter, pairs_filter}
use Rattle.front_state.specs.Catalogued.{HoldsPlain, IsCatalogued, key_of}
use Rattle.front_state.specs.Parts.{CatalogueView, table_dropped}
use Rattle.front_state.specs.Tablets.{table_seen}
use Rattle.front_state.specs.declared.stored_table.StoredTable.{StoredTable}
use Rattle.front_state.specs.declared.table_key.TableKey.{TableKey}

abbrev others_named : ℕ → List (TableKey × Table) → List (TableKey × Table)
others_named n es = filter (λ (e : TableKey × Table). not (nat_eq e.1.number n)) es

abbrev others_stored : ℕ → List StoredTable → List StoredTable
others_stored n ks = filter (λ (k : StoredTable). not (nat_eq k.table n)) ks

pub less_catalogued : (n last : ℕ) (es : List (TableKey × Table)) (ks : List StoredTable) → IsCatalogued es ks last → IsCatalogued (others_named n es) (others_stored n ks) last
less_catalogued n last es ks h = record {
  keyed = each_filter (λ (e : TableKey × Table). e.0 ≡ key_of e.1) (λ (e : TableKey × Table). not (nat_eq e.1.number n)) es h.keyed;
  known = each_filter (λ (k : StoredTable). k.table ≤ last) (λ (k : StoredTable). not (nat_eq k.table n)) ks h.known;
  ascends = pairs_filter (λ (a b : StoredTable). a.table < b.table) (λ (k : StoredTable). not (nat_eq k.table n)) ks h.ascends;
  plain = each_filter HoldsPlain (λ (e : TableKey × Table). not (nat_eq e.1.number n)) es h.plain;
}

values_step : (e : TableKey × Table) (es : List (TableKey × Table)) (b : Bool) (ts : List Table) → values_of es ≡ ts → values_of (cond b (e ∷ es) es) ≡ cond b (e.1 ∷ ts) ts
values_step e es true ts h = ap (λ (l : List Table). e.1 ∷ l) h
values_step e es false ts h = h

values_less : (n : ℕ) (es : List (TableKey × Table)) → values_of (others_named n es) ≡ filter (λ (t : Table). not (nat_eq t.number n)) (values_of es)
values_less n [] = refl
values_less n (e ∷ es) = values_step e (others_named n es) (not (nat_eq e.1.number n)) (filter (λ (t : Table). not (nat_eq t.number n)) (values_of es)) (values_less n es)

seen_step : (k : StoredTable) (ks : List StoredTable) (b : Bool) (xs : List TableTablets) → map (λ (y : StoredTable). table_seen y) ks ≡ xs → map (λ (y : StoredTable). table_seen y) (cond b (k ∷ ks) ks) ≡ cond b (table_seen k ∷ xs) xs
seen_step k ks true xs h = ap (λ (l : List TableTablets). table_seen k ∷ l) h
seen_step k ks false xs h = h

seen_less : (n : ℕ) (ks : List StoredTable) → map (λ (y : StoredTable). table_seen y) (others_stored n ks) ≡ filter (λ (x : TableTablets). not (nat_eq x.table n)) (map (λ (y : StoredTable). table_seen y) ks)
seen_less n [] = refl
seen_less n (k ∷ ks) = seen_step k (others_stored n ks) (not (nat_eq k.table n)) (filter (λ (x : TableTablets). not (nat_eq x.table n)) (map (λ (y : StoredTable). table_seen y) ks)) (seen_less n ks)

abbrev viewed : List (List ℕ) → List (TableKey × Table) → ℕ → List StoredTable → CatalogueView
viewed dbs es last ks = record { databases = dbs; tables = values_of es; last_table = last; tablets = map (λ (y : StoredTable). table_seen y) ks }

pub view_less : (n : ℕ) (dbs : List (List ℕ)) (es : List (TableKey × Table)) (last : ℕ) (ks : List StoredTable) → viewed dbs (others_named n es) last (others_stored n ks) ≡ table_dropped n (viewed dbs es last ks)
view_less n dbs es last ks = ap₂ (λ (ts : List Table) (xs : List TableTablets). record { databases = dbs; tables = ts; last_table = last; tablets = xs }) (values_less n es) (seen_less n ks)
