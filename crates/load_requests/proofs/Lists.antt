-- A loop over what stands between commas reads the list.
use Rattle.std.proofs.Common.{◌≡◌, ◌<◌, ◌≤◌, ◌∙◌, ℕ, Bool, true, false, cond, Option, Some, None, List, [], ◌∷◌, ◌++◌, length, refl, sym, ap, append_assoc, arith}
use Rattle.std.specs.Prelude.{codes, if◌then◌else◌}
use Rattle.dl_values.specs.declared.col_type.ColType.{ColType}
use Rattle.dl_values.specs.declared.col_type.ColType.TheVariants as type
use Rattle.sql_text.specs.declared.plain_def.PlainColumn.{PlainColumn}
use Rattle.load_requests.specs.Tokens.{Token}
use Rattle.load_requests.specs.declared.stop.Stop.{Stop}
use Rattle.load_requests.specs.declared.stop.Stop.TheVariants as stop
use Rattle.load_requests.specs.Statements.{Fails, Reader, bind, is, comma_at, name_at, names_at, type_at, column_at, columns_at, is_name, is_plain, one_more}

abbrev pub with_front : {A : Type 0} → List A → Option (List A × List Token) → Option (List A × List Token)
with_front front r = bind r (λ ys. is (front ++ ys))

-- front is read, and rest is left of the whole
pub record Reading {A : Type 0} (list : List Token → Option (List A × List Token)) (front : List A) (rest : List Token) (total : Option (List A × List Token)) : Type 0 where
  pub so_far : with_front front (list rest) ≡ total

-- behind one: the others where a comma comes
abbrev pub others : {A : Type 0} → Reader (List A) → A → Bool → Reader (List A)
others list x comma tokens = cond comma (bind (list tokens) (λ xs. is (x ∷ xs))) (Some (x ∷ [], tokens))

-- one and others
abbrev pub listed : {A : Type 0} → Reader A → Reader (List A) → Reader (List A)
listed item list tokens = bind (item tokens) (λ x us. bind (comma_at us) (others list x))

pub record IsList {A : Type 0} (item : List Token → Option (A × List Token)) (list : List Token → Option (List A × List Token)) : Type 0 where
  pub law : (tokens : List Token) → list tokens ≡ listed item list tokens
  pub leaves : (tokens rest : List Token) (x : A) → item tokens ≡ Some (x, rest) → length rest ≤ length tokens

begun : {A : Type 0} (r : Option (List A × List Token)) → with_front [] r ≡ r
begun None = refl
begun (Some x) = refl

pub begins : {A : Type 0} (list : Reader (List A)) (tokens : List Token) → Reading list [] tokens (list tokens)
begins list tokens = record { so_far = begun (list tokens) }

regroup : {A : Type 0} (front : List A) (y : A) (r : Option (List A × List Token)) → with_front front (bind r (λ xs. is (y ∷ xs))) ≡ with_front (front ++ y ∷ []) r
regroup front y None = refl
regroup front y (Some z) = ap (λ l. Some (l, z.1)) (sym (append_assoc front (y ∷ []) z.0))

held : {P : Type 0} (x y : P) → Some x ≡ Some y → x ≡ y
held x y h = cc

second : {A : Type 0} (a b : A) (us vs : List Token) → ◌≡◌ {A = Option (A × List Token)} (Some (a, us)) (Some (b, vs)) → us ≡ vs
second {A} a b us vs h =
    let x : A × List Token = (a, us) in
    let y : A × List Token = (b, vs) in
    ap (λ (p : A × List Token). p.1) (held x y h)

abbrev comma_by : Bool → Bool → List Token → Option (Bool × List Token)
comma_by p q ts = if p then Some (true, ts) else if q then Some (false, ts) else None

comma_leaves : (p q : Bool) (t : Token) (ts vs : List Token) (comma : Bool) → comma_by p q ts ≡ Some (comma, vs) → length vs < length (t ∷ ts)
comma_leaves true q t ts vs comma h = let same : ts ≡ vs = second true comma ts vs h in rw (sym same) (omega arith)
comma_leaves false true t ts vs comma h = let same : ts ≡ vs = second false comma ts vs h in rw (sym same) (omega arith)
comma_leaves false false t ts vs comma h = cc

comma_left : (us vs : List Token) (comma : Bool) → comma_at us ≡ Some (comma, vs) → length vs < length us
unfolding comma_at
comma_left [] vs comma e = cc
comma_left (t ∷ ts) vs comma e = comma_leaves (is_plain (codes ",") t) (is_plain (codes ")") t) t ts vs comma e

pub fails : {X Y : Type 0} (e : Stop) (r : Option X) (s : Option Y) → (r ≡ None → s ≡ None) → Fails e r → Fails e s
fails stop.Memory r s h k = tt
fails stop.Absent r s h k = h k

module _ {A : Type 0} {item : List Token → Option (A × List Token)} {list : List Token → Option (List A × List Token)} (l : IsList item list) where
  -- behind one
  read : (rest us : List Token) (x : A) → item rest ≡ Some (x, us) → list rest ≡ bind (comma_at us) (others list x)
  read rest us x e = l.law rest ∙ ap (λ r. bind r (λ x us. bind (comma_at us) (others list x))) e

  pub goes_on : (front : List A) (rest us vs : List Token) (x : A) (comma : Bool) (total : Option (List A × List Token)) → item rest ≡ Some (x, us) → comma_at us ≡ Some (comma, vs) → comma ≡ true → Reading list front rest total → Reading list (front ++ x ∷ []) vs total
  goes_on front rest us vs x comma total e k t so = record {
    so_far =
        let one : list rest ≡ bind (list vs) (λ xs. is (x ∷ xs)) = read rest us x e ∙ ap (λ r. bind r (others list x)) k ∙ ap (λ b. others list x b vs) t in
        sym (regroup front x (list vs)) ∙ sym (ap (with_front front) one) ∙ so.so_far;
  }

  pub ends : (front : List A) (rest us vs : List Token) (x : A) (comma : Bool) (total : Option (List A × List Token)) → item rest ≡ Some (x, us) → comma_at us ≡ Some (comma, vs) → comma ≡ false → Reading list front rest total → total ≡ Some (front ++ x ∷ [], vs)
  ends front rest us vs x comma total e k t so =
      let one : list rest ≡ Some (x ∷ [], vs) = read rest us x e ∙ ap (λ r. bind r (others list x)) k ∙ ap (λ b. others list x b vs) t in
      sym so.so_far ∙ ap (with_front front) one

  pub lacks_item : (front : List A) (rest : List Token) (total : Option (List A × List Token)) → item rest ≡ None → Reading list front rest total → total ≡ None
  lacks_item front rest total e so =
      let none : list rest ≡ None = l.law rest ∙ ap (λ r. bind r (λ x us. bind (comma_at us) (others list x))) e in
      sym so.so_far ∙ ap (with_front front) none

  pub lacks_comma : (front : List A) (rest us : List Token) (x : A) (total : Option (List A × List Token)) → item rest ≡ Some (x, us) → comma_at us ≡ None → Reading list front rest total → total ≡ None
  lacks_comma front rest us x total e k so =
      let none : list rest ≡ None = read rest us x e ∙ ap (λ r. bind r (others list x)) k in
      sym so.so_far ∙ ap (with_front front) none

  pub shrinks : (rest us vs : List Token) (x : A) (comma : Bool) → item rest ≡ Some (x, us) → comma_at us ≡ Some (comma, vs) → length vs < length rest
  shrinks rest us vs x comma e k = let a = l.leaves rest us x e in let b = comma_left us vs comma k in omega (arith, a, b)

-- ---- the two lists

one_by : {A : Type 0} (list : Reader (List A)) (x : A) (rest : List Token) (p q : Bool) → (if p then bind (list rest) (λ xs. is (x ∷ xs)) else if q then Some (x ∷ [], rest) else None) ≡ bind (comma_by p q rest) (others list x)
one_by list x rest true q = refl
one_by list x rest false true = refl
one_by list x rest false false = refl

one_law : {A : Type 0} (list : Reader (List A)) (x : A) (s : Token) (rest : List Token) → one_more (Some (x, [])) s rest (list rest) ≡ bind (comma_at (s ∷ rest)) (others list x)
unfolding comma_at
one_law list x s rest = one_by list x rest (is_plain (codes ",") s) (is_plain (codes ")") s)

abbrev named : Bool → Token → List Token → Option (List ℕ × List Token)
named n t ts = if n then Some (t.1, ts) else None

named_leaves : (n : Bool) (t : Token) (ts rest : List Token) (x : List ℕ) → named n t ts ≡ Some (x, rest) → length rest ≤ length (t ∷ ts)
named_leaves true t ts rest x e = let same : ts ≡ rest = second t.1 x ts rest e in rw (sym same) (omega arith)
named_leaves false t ts rest x e = cc

name_leaves : (tokens rest : List Token) (x : List ℕ) → name_at tokens ≡ Some (x, rest) → length rest ≤ length tokens
unfolding name_at
name_leaves [] rest x e = cc
name_leaves (t ∷ ts) rest x e = named_leaves (is_name t) t ts rest x e

name_alone : (n : Bool) (t : Token) → None ≡ bind (named n t []) (λ x us. bind (comma_at us) (others names_at x))
unfolding comma_at
name_alone true t = refl
name_alone false t = refl

names_by : (n : Bool) (t s : Token) (rest : List Token) → one_more (named n t []) s rest (names_at rest) ≡ bind (named n t (s ∷ rest)) (λ x us. bind (comma_at us) (others names_at x))
names_by true t s rest = one_law names_at t.1 s rest
names_by false t s rest = refl

names_law : (tokens : List Token) → names_at tokens ≡ listed name_at names_at tokens
unfolding names_at name_at
names_law [] = refl
names_law (t ∷ []) = name_alone (is_name t) t
names_law (t ∷ s ∷ rest) = names_by (is_name t) t s rest

pub names_are : IsList name_at names_at
names_are = record { law = names_law; leaves = name_leaves }

abbrev typed : Bool → Bool → List Token → Option (ColType × List Token)
typed i b ts = if i then Some (type.Int, ts) else if b then Some (type.BigInt, ts) else None

abbrev made : List ℕ → ColType → PlainColumn
made name kind = record { name = name; kind = kind; nullable = true }

abbrev column_by : Bool → Bool → Bool → Token → List Token → Option (PlainColumn × List Token)
column_by n i b t ts = if n then bind (typed i b ts) (λ kind. is (made t.1 kind)) else None

column_named : (n : Bool) (t k : Token) (ts : List Token) → bind (named n t (k ∷ ts)) (λ name rest. bind (type_at rest) (λ kind. is (made name kind))) ≡ column_by n (is_plain (codes "INT") k) (is_plain (codes "BIGINT") k) t ts
unfolding type_at
column_named true t k ts = refl
column_named false t k ts = refl

column_is : (t k : Token) (ts : List Token) → column_at (t ∷ k ∷ ts) ≡ column_by (is_name t) (is_plain (codes "INT") k) (is_plain (codes "BIGINT") k) t ts
unfolding column_at name_at
column_is t k ts = column_named (is_name t) t k ts

no_type : (n : Bool) (t : Token) → bind (named n t []) (λ name rest. bind (type_at rest) (λ kind. is (made name kind))) ≡ None
unfolding type_at
no_type true t = refl
no_type false t = refl

column_alone : (t : Token) → column_at (t ∷ []) ≡ None
unfolding column_at name_at
column_alone t = no_type (is_name t) t

column_nowhere : column_at [] ≡ None
unfolding column_at name_at
column_nowhere = refl

column_by_leaves : (n i b : Bool) (t k : Token) (ts rest : List Token) (x : PlainColumn) → column_by n i b t ts ≡ Some (x, rest) → length rest ≤ length (t ∷ k ∷ ts)
column_by_leaves true true b t k ts rest x e = let same : ts ≡ rest = second (made t.1 type.Int) x ts rest e in rw (sym same) (omega arith)
column_by_leaves true false true t k ts rest x e = let same : ts ≡ rest = second (made t.1 type.BigInt) x ts rest e in rw (sym same) (omega arith)
column_by_leaves true false false t k ts rest x e = cc
column_by_leaves false i b t k ts rest x e = cc

column_leaves : (tokens rest : List Token) (x : PlainColumn) → column_at tokens ≡ Some (x, rest) → length rest ≤ length tokens
column_leaves [] rest x e = let none = column_nowhere in cc
column_leaves (t ∷ []) rest x e = let none = column_alone t in cc
column_leaves (t ∷ k ∷ ts) rest x e = column_by_leaves (is_name t) (is_plain (codes "INT") k) (is_plain (codes "BIGINT") k) t k ts rest x (sym (column_is t k ts) ∙ e)

abbrev behind_column : Option (PlainColumn × List Token) → Option (List PlainColumn × List Token)
behind_column r = bind r (λ x us. bind (comma_at us) (others columns_at x))

columns_end : (n i b : Bool) (t : Token) → None ≡ behind_column (column_by n i b t [])
unfolding comma_at
columns_end true true b t = refl
columns_end true false true t = refl
columns_end true false false t = refl
columns_end false i b t = refl

columns_by : (n i b : Bool) (t s : Token) (rest : List Token) → one_more (column_by n i b t []) s rest (columns_at rest) ≡ behind_column (column_by n i b t (s ∷ rest))
columns_by true true b t s rest = one_law columns_at (made t.1 type.Int) s rest
columns_by true false true t s rest = one_law columns_at (made t.1 type.BigInt) s rest
columns_by true false false t s rest = refl
columns_by false i b t s rest = refl

columns_law : (tokens : List Token) → columns_at tokens ≡ listed column_at columns_at tokens
unfolding columns_at
columns_law [] = sym (ap behind_column column_nowhere)
columns_law (t ∷ []) = sym (ap behind_column (column_alone t))
columns_law (t ∷ k ∷ []) = columns_end (is_name t) (is_plain (codes "INT") k) (is_plain (codes "BIGINT") k) t ∙ sym (ap behind_column (column_is t k []))
columns_law (t ∷ k ∷ s ∷ rest) =
    ap (λ r. one_more r s rest (columns_at rest)) (column_is t k [])
    ∙ columns_by (is_name t) (is_plain (codes "INT") k) (is_plain (codes "BIGINT") k) t s rest
    ∙ sym (ap behind_column (column_is t k (s ∷ rest)))

pub columns_are : IsList column_at columns_at
columns_are = record { law = columns_law; leaves = column_leaves }
