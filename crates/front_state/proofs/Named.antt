-- Databases and tables by their names.
use Rattle.std.proofs.Common.{◌≡◌, ℕ, ◌+◌, ◌≤◌, ◌<◌, Bool, true, false, if◌then◌else◌, cond, ◌&&◌, List, [], ◌∷◌, ◌++◌, Option, Some, None, IfSome, Bor, refl, sym, ◌∙◌, ap, ap₂, subst, arith, nat_eq}
use Rattle.std.specs.Map.{lookup, values_of}
use Rattle.std.specs.Option.{option_copied}
use Rattle.std.specs.Str.{bytes_eq}
use Rattle.indexmap.specs.IndexMap.{insert_entry}
use Rattle.front_laws.proofs.Lists.{each_imp, each_snoc, pairs_snoc}
use Rattle.front_state.proofs.Tablets.{known_snoc}
use Rattle.front_defs.specs.declared.catalogue.Table.{Table}
use Rattle.front_defs.specs.Catalogue.{table_named}
use Rattle.front_state.specs.declared.table_key.TableKey.{TableKey}
use Rattle.front_laws.specs.Tidy.{Each}
use Rattle.front_state.specs.Catalogued.{HoldsPlain, IsCatalogued, IsPlainTable, Keyed, key_of}
use Rattle.front_state.specs.declared.stored_table.StoredTable.{StoredTable}

byte_turned : (x y : ℕ) → nat_eq x y ≡ nat_eq y x
byte_turned x y = grind arith

-- equal names either way round
turned : (a b : List ℕ) → bytes_eq a b ≡ bytes_eq b a
turned [] [] = refl
turned [] (y ∷ ys) = refl
turned (x ∷ xs) [] = refl
turned (x ∷ xs) (y ∷ ys) = ap₂ (λ (p q : Bool). p && q) (byte_turned x y) (turned xs ys)

-- a table is found under its name
test_is : (db name : List ℕ) (k : TableKey) (t : Table) → k ≡ key_of t → (bytes_eq db k.db && bytes_eq name k.name) ≡ (bytes_eq t.db db && bytes_eq t.name name)
test_is db name k t e = ap (λ (x : TableKey). bytes_eq db x.db && bytes_eq name x.name) e ∙ ap₂ (λ (p q : Bool). p && q) (turned db t.db) (turned name t.name)

pub table_is : (db name : List ℕ) (es : List (TableKey × Table)) → Keyed es → lookup (λ k. bytes_eq db k.db && bytes_eq name k.name) es ≡ table_named db name (values_of es)
table_is db name [] h = refl
table_is db name (e ∷ es) h = ap₂ (λ (p : Bool) (q : Option Table). cond p (Some e.1) q) (test_is db name e.0 e.1 h.0) (table_is db name es h.1)

-- a table more
pub table_more : (es : List (TableKey × Table)) (tablets : List StoredTable) (last next : ℕ) (key : TableKey) (t : Table) (k : StoredTable) → key ≡ key_of t → next ≡ last + 1 → k.table ≡ next → IsPlainTable t → IsCatalogued es tablets last → IsCatalogued (es ++ (key, t) ∷ []) (tablets ++ k ∷ []) next
table_more es tablets last next key t k e n at plain h = record {
  keyed = each_snoc (λ (e : TableKey × Table). e.0 ≡ key_of e.1) es (key, t) h.keyed e;
  known = known_snoc last next tablets k n at h.known;
  ascends = pairs_snoc (λ (a b : StoredTable). a.table < b.table) tablets k h.ascends (each_imp (λ (a : StoredTable). a.table ≤ last) (λ (a : StoredTable). a.table < k.table) (λ a l. omega (arith, l, n, at)) tablets h.known);
  plain = each_snoc HoldsPlain es (key, t) h.plain plain;
}

found_plain : (b : Bool) (e : TableKey × Table) (o : Option Table) (t : Table) → HoldsPlain e → cond b (Some e.1) o ≡ Some t → (o ≡ Some t → IsPlainTable t) → IsPlainTable t
found_plain true e o t here is later = let same : e.1 ≡ t = cc in subst (λ (x : Table). IsPlainTable x) same here
found_plain false e o t here is later = later is

-- a table that is found is plain
pub lookup_plain : (test : TableKey → Bool) (es : List (TableKey × Table)) (t : Table) → Each HoldsPlain es → lookup test es ≡ Some t → IsPlainTable t
lookup_plain test [] t all is = absurd (cc)
lookup_plain test (e ∷ es) t all is = found_plain (test e.0) e (lookup test es) t all.0 is (lookup_plain test es t all.1)

-- so is one that is handed out
pub plain_in : (result : Option (Bor Table)) (found : Option Table) → option_copied result ≡ found → ((t : Table) → found ≡ Some t → IsPlainTable t) → IfSome result (λ t. IsPlainTable t.now)
plain_in None found e plain = tt
plain_in (Some t) found e plain = plain t.now (sym e)

-- and each of them
pub each_plain : (es : List (TableKey × Table)) → Each HoldsPlain es → Each IsPlainTable (values_of es)
each_plain [] h = tt
each_plain (e ∷ es) h = (h.0, each_plain es h.1)

absent_step : (b : Bool) (e : TableKey × Table) (es ins : List (TableKey × Table)) (o : Option Table) (key : TableKey) (t : Table) → cond b (Some e.1) o ≡ None → (o ≡ None → ins ≡ es ++ (key, t) ∷ []) → (if b then (e.0, t) ∷ es else e ∷ ins) ≡ e ∷ es ++ (key, t) ∷ []
absent_step true e es ins o key t h f = absurd (cc)
absent_step false e es ins o key t h f = ap (λ xs. e ∷ xs) (f h)

-- a name that is not there goes last
pub put_last : (es : List (TableKey × Table)) (key : TableKey) (t : Table) → lookup (λ k. bytes_eq key.db k.db && bytes_eq key.name k.name) es ≡ None → insert_entry (λ j k. bytes_eq j.db k.db && bytes_eq j.name k.name) es key t ≡ es ++ (key, t) ∷ []
put_last [] key t h = refl
put_last (e ∷ es) key t h = absent_step (bytes_eq key.db e.0.db && bytes_eq key.name e.0.name) e es (insert_entry (λ j k. bytes_eq j.db k.db && bytes_eq j.name k.name) es key t) (lookup (λ k. bytes_eq key.db k.db && bytes_eq key.name k.name) es) key t h (put_last es key t)
