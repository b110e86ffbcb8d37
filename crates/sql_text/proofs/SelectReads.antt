-- Queries are read by their reader.
use Rattle.std.proofs.Common.{◌≡◌, ◌<◌, ℕ, Bool, true, false, cond, List, [], ◌∷◌, ◌++◌, length, Option, Some, None, Result, refl, sym, ap, subst, ◌∙◌, ◌||◌, ◌⊎◌, rules, codes, inl, inr}
use Rattle.std.proofs.lemmas.List.{append-nil}
use Rattle.std.specs.Prelude.{IfOk}
use Rattle.std.specs.Str.{bytes_eq}
use Rattle.std.proofs.lemmas.Slice.Eq.{bytes_eq-Decides}
use Rattle.sql_tokens.specs.declared.token.Token.{Token}
use Rattle.sql_tokens.specs.declared.token.TokenKind.{TokenKind}
use Rattle.sql_tokens.specs.declared.token.TokenKind.TheVariants as kind
use Rattle.sql_tokens.specs.declared.token.Sign.TheVariants as sign
use Rattle.sql_text.specs.declared.query.Item.{Item}
use Rattle.sql_text.specs.declared.query.Item.TheVariants as item
use Rattle.sql_text.specs.declared.query.AggFn.{AggFn}
use Rattle.sql_text.specs.declared.query.AggFn.TheVariants as function
use Rattle.sql_text.specs.declared.query.Filter.{Filter}
use Rattle.sql_text.specs.declared.query.OrderKey.{OrderKey}
use Rattle.sql_text.specs.declared.query.OrderBy.TheVariants as by
use Rattle.sql_text.specs.declared.query.Check.TheVariants as check
use Rattle.sql_text.specs.declared.query.CompareOp.TheVariants as op
use Rattle.sql_grammar.specs.declared.stop.Stop.{Stop}
use Rattle.sql_grammar.specs.Marks.{Mark, marked_word, marked_sign, marked_name, marked_integer, lower, is_reserved, kind_is, whether, name_in, a_word, mark_is, matches}
use Rattle.sql_grammar.specs.Lang.{Tok, Is, Then, Or, Means, Sign_, Word, or_else}
use Rattle.sql_grammar.specs.Reading.{Gives, word_at}
use Rattle.sql_grammar.proofs.Laws.{Reads, reads_wide, tok_reads, is_reads, is_reads_wide, next_reads, either_reads, maybe_reads, reads_along, leaves_less}
use Rattle.sql_grammar.proofs.Singles.{whether_some, word_reads, sign_reads, means_reads, stands_reads, name_reads, integer_reads, count_reads, list_reads, commas_read}
use Rattle.sql_text.specs.Names.{Name, Count}
use Rattle.sql_text.specs.Select.{Function, Aggregate, CountAll, Item_, SelectList, Operator, Comparison, NullCheck, Test, Filters, Group, OrderBy_, Descending, Key, Order, Limit, Select}
use Rattle.sql_text.specs.ReadSelect.{function_of, head_in, a_head, head_at, column_in_at, star_in_at, inside_at, call_at, after_head_at, item_at, select_list_at, operator_at, operator_first, comparison_at, null_check_at, check_at, test_at, filters_at, group_at, order_by_at, descending_at, key_at, order_at, limit_at, select_at}
use Rattle.sql_text.proofs.NamesReads.{word, literal_reads}

-- ---- items: a word that names a function is also a name, and the token after it tells

head_starts : (v : TokenKind) (x : List ℕ × Option AggFn) → head_in v ≡ Some x → kind_is marked_name v ≡ true
head_starts (kind.Word v) x e = go (is_reserved (lower v)) refl
  where
    go : (b : Bool) → is_reserved (lower v) ≡ b → kind_is marked_name (kind.Word v) ≡ true
    go false h = rw h refl
    go true h = absurd (let k : head_in (kind.Word v) ≡ None = rw h refl in cc)
head_starts (kind.Quoted v) x e = refl
head_starts v x e = absurd cc

abbrev made : TokenKind → Token
made k = record { kind = k; at = 0 }

head_reads : Reads (Tok a_head) head_at (marked_name ∷ []) [] false
unfolding head_at
head_reads = tok_reads a_head (marked_name ∷ []) (made (kind.Quoted [])) ([], None) refl (λ t x e. head_starts t.kind x e)

abbrev ColumnIn : AggFn → Item → List Token → Type 0
ColumnIn f = Then Name (λ n. Then (Sign_ sign.Close) (λ _. Is (item.Agg f n)))

abbrev StarIn : Item → List Token → Type 0
StarIn = Then (Sign_ sign.Star) (λ _. Then (Sign_ sign.Close) (λ _. Is item.CountAll))

abbrev Inside : AggFn → Item → List Token → Type 0
Inside function.Count = Or StarIn (ColumnIn function.Count)
Inside function.Sum = ColumnIn function.Sum
Inside function.Min = ColumnIn function.Min
Inside function.Max = ColumnIn function.Max

abbrev Call : AggFn → Item → List Token → Type 0
Call f = Then (Sign_ sign.Open) (λ _. Inside f)

abbrev AfterHead : List ℕ × Option AggFn → Item → List Token → Type 0
AfterHead (n, Some f) = Or (Call f) (Is (item.Column n))
AfterHead (n, None) = Is (item.Column n)

abbrev inside_first : List Mark
inside_first = marked_sign sign.Star ∷ marked_name ∷ []

column_in_reads : (f : AggFn) → Reads (ColumnIn f) (column_in_at f) (marked_name ∷ []) [] false
unfolding column_in_at Name
column_in_reads f = next_reads name_reads (λ n. next_reads (sign_reads sign.Close refl) (λ _. is_reads (item.Agg f n)) refl) refl

star_in_reads : Reads StarIn star_in_at (marked_sign sign.Star ∷ []) [] false
unfolding star_in_at
star_in_reads = next_reads (sign_reads sign.Star refl) (λ _. next_reads (sign_reads sign.Close refl) (λ _. is_reads item.CountAll) refl) refl

or_later : (a b : Bool) → b ≡ true → (a || b) ≡ true
or_later true b h = refl
or_later false b h = h

name_or_star : (t : Token) → matches (marked_name ∷ []) t ≡ true → matches inside_first t ≡ true
name_or_star t h = or_later (mark_is (marked_sign sign.Star) t) _ h

inside_reads : (f : AggFn) → Reads (Inside f) (inside_at f) inside_first [] false
unfolding inside_at
inside_reads function.Count = either_reads star_in_reads (column_in_reads function.Count) refl
inside_reads function.Sum = reads_wide name_or_star (column_in_reads function.Sum)
inside_reads function.Min = reads_wide name_or_star (column_in_reads function.Min)
inside_reads function.Max = reads_wide name_or_star (column_in_reads function.Max)

call_reads : (f : AggFn) → Reads (Call f) (call_at f) (marked_sign sign.Open ∷ []) [] false
unfolding call_at
call_reads f = next_reads (sign_reads sign.Open refl) (λ _. inside_reads f) refl

after_head_reads : (h : List ℕ × Option AggFn) → Reads (AfterHead h) (after_head_at h) (marked_sign sign.Open ∷ []) (marked_sign sign.Open ∷ []) true
unfolding after_head_at
after_head_reads (n, Some f) = either_reads (call_reads f) (is_reads (item.Column n)) refl
after_head_reads (n, None) = is_reads_wide (item.Column n) (marked_sign sign.Open ∷ []) (marked_sign sign.Open ∷ [])

-- a head is a name, and where it says so the word of a function
abbrev got : {A : Type 0} → A → Option A
got x = Some x

some_is : {A : Type 0} (x y : A) → got x ≡ got y → x ≡ y
some_is x y e = cc

abbrev pair : List ℕ → Option AggFn → List ℕ × Option AggFn
pair v c = (v, c)

split : (r : Bool) (v n : List ℕ) (c b : Option AggFn) → cond r None (got (pair v c)) ≡ got (pair n b) → (r ≡ false) × (v ≡ n) × (c ≡ b)
split true v n c b e = absurd cc
split false v n c b e =
    let k = some_is (pair v c) (pair n b) e in
    (refl, ap (λ (z : List ℕ × Option AggFn). z.0) k, ap (λ (z : List ℕ × Option AggFn). z.1) k)

split_name : (r : Bool) (v n : List ℕ) → cond r None (got v) ≡ got n → (r ≡ false) × (v ≡ n)
split_name true v n e = absurd cc
split_name false v n e = (refl, some_is v n e)

join : (r : Bool) (v n : List ℕ) (c b : Option AggFn) → r ≡ false → v ≡ n → c ≡ b → cond r None (got (pair v c)) ≡ got (pair n b)
join r v n c b h e k = ap (λ x. cond x None (got (pair v c))) h ∙ ap (λ x. got (pair x c)) e ∙ ap (λ x. got (pair n x)) k

head_is_name : (v : TokenKind) (n : List ℕ) (b : Option AggFn) → head_in v ≡ Some (n, b) → name_in v ≡ Some n
head_is_name (kind.Word v) n b e =
    let s = split (is_reserved (lower v)) v n (function_of (lower v)) b e in
    ap (λ x. cond x None (got v)) s.0 ∙ ap (λ x. got x) s.1
head_is_name (kind.Quoted v) n b e =
    let k = some_is (pair v None) (pair n b) e in
    ap (λ (z : List ℕ × Option AggFn). got z.0) k
head_is_name v n b e = absurd cc

name_is_head : (v : TokenKind) (n : List ℕ) → name_in v ≡ Some n → (b : Option AggFn) × (head_in v ≡ Some (n, b))
name_is_head (kind.Word v) n e =
    let s = split_name (is_reserved (lower v)) v n e in
    (function_of (lower v), join (is_reserved (lower v)) v n (function_of (lower v)) (function_of (lower v)) s.0 s.1 refl)
name_is_head (kind.Quoted v) n e = (None, ap (λ x. got (pair x None)) (some_is v n e))
name_is_head v n e = absurd cc

abbrev is_word : List ℕ → List ℕ → Bool
is_word l w = bytes_eq l (lower w)

-- which of the four words it is
cases : (a b c d : Bool) (f : AggFn) → cond a (Some function.Sum) (cond b (Some function.Min) (cond c (Some function.Max) (cond d (Some function.Count) None))) ≡ Some f
    → ((a ≡ true) × (function.Sum ≡ f)) ⊎ (((b ≡ true) × (function.Min ≡ f)) ⊎ (((c ≡ true) × (function.Max ≡ f)) ⊎ ((d ≡ true) × (function.Count ≡ f))))
cases true b c d f e = inl (refl, some_is function.Sum f e)
cases false true c d f e = inr (inl (refl, some_is function.Min f e))
cases false false true d f e = inr (inr (inl (refl, some_is function.Max f e)))
cases false false false true f e = inr (inr (inr (refl, some_is function.Count f e)))
cases false false false false f e = absurd cc

word_spelled : (w v : List ℕ) (t : Token) → t.kind ≡ kind.Word v → is_word (lower v) w ≡ true → Word w tt (t ∷ [])
word_spelled w v t e h = (t, refl, ap (λ k. whether (kind_is (marked_word w) k)) e ∙ ap whether h)

means_spelled : (w v : List ℕ) (f g : AggFn) (t : Token) → t.kind ≡ kind.Word v → is_word (lower v) w ≡ true → f ≡ g → Means w f g (t ∷ [])
means_spelled w v f g t e h k = record { value = tt; front = t ∷ []; back = []; parts = refl; first = word_spelled w v t e h; second = (refl, k) }

function_spelled : (v : List ℕ) (f : AggFn) (t : Token) → t.kind ≡ kind.Word v → function_of (lower v) ≡ Some f → Function f (t ∷ [])
unfolding function_of Function
function_spelled v f t e h =
    elim (cases (is_word (lower v) (codes "SUM")) (is_word (lower v) (codes "MIN")) (is_word (lower v) (codes "MAX")) (is_word (lower v) (codes "COUNT")) f h) [
      | inl a ↦ inl (means_spelled (codes "SUM") v function.Sum f t e a.0 a.1)
      | inr r ↦ elim r [
        | inl b ↦ inr (inl (means_spelled (codes "MIN") v function.Min f t e b.0 b.1))
        | inr r ↦ elim r [
          | inl c ↦ inr (inr (inl (means_spelled (codes "MAX") v function.Max f t e c.0 c.1)))
          | inr d ↦ inr (inr (inr (means_spelled (codes "COUNT") v function.Count f t e d.0 d.1)))
        ]
      ]
    ]

head_is_function : (v : TokenKind) (n : List ℕ) (f : AggFn) (t : Token) → t.kind ≡ v → head_in v ≡ Some (n, Some f) → Function f (t ∷ [])
head_is_function (kind.Word v) n f t h e =
    let s = split (is_reserved (lower v)) v n (function_of (lower v)) (Some f) e in
    function_spelled v f t h s.2
head_is_function (kind.Quoted v) n f t h e = absurd (let k = ap (λ (z : List ℕ × Option AggFn). z.1) (some_is (pair v None) (pair n (Some f)) e) in cc)
head_is_function v n f t h e = absurd cc

function_is : (v : TokenKind) (n : List ℕ) (f : AggFn) (front : List Token) → Tok a_head (n, Some f) front → Function f front
function_is v n f front s = subst (Function f) (sym s.1) (head_is_function s.0.kind n f s.0 refl s.2)

-- COUNT is one word
count_is : (front : List Token) → Function function.Count front → Word (codes "COUNT") tt front
unfolding Function
count_is front s =
    elim s [
      | inl a ↦ absurd (let k = a.second.1 in cc)
      | inr r ↦ elim r [
        | inl b ↦ absurd (let k = b.second.1 in cc)
        | inr r ↦ elim r [
          | inl c ↦ absurd (let k = c.second.1 in cc)
          | inr d ↦ whole d
        ]
      ]
    ]
  where
    whole : Means (codes "COUNT") function.Count function.Count front → Word (codes "COUNT") tt front
    whole d = subst (Word (codes "COUNT") tt) (sym (append-nil d.front) ∙ ap (λ (l : List Token). d.front ++ l) (sym d.second.0) ∙ sym d.parts) d.first

word_is_head : (w : List ℕ) (f : AggFn) (k : TokenKind) → is_reserved (lower w) ≡ false → function_of (lower w) ≡ Some f → whether (kind_is (marked_word w) k) ≡ Some tt → (n : List ℕ) × (head_in k ≡ Some (n, Some f))
word_is_head w f (kind.Word v) r s e =
    let h : is_word (lower v) w ≡ true = whether_some (is_word (lower v) w) tt e in
    let k : lower v ≡ lower w = search (rules, bytes_eq-Decides, h) in
    (v, join (is_reserved (lower v)) v v (function_of (lower v)) (Some f) (ap is_reserved k ∙ r) refl (ap function_of k ∙ s))
word_is_head w f k r s e = absurd cc

-- a word of a function is a head that says so
pub record Headed (f : AggFn) (front : List Token) : Type 0 where
  pub name : List ℕ
  pub spelled : Tok a_head (name, Some f) front

means_is_head : (w : List ℕ) (g f : AggFn) (front : List Token) → is_reserved (lower w) ≡ false → function_of (lower w) ≡ Some g → Means w g f front → Headed f front
means_is_head w g f front r s m =
    let h = word_is_head w g m.first.0.kind r s m.first.2 in
    record { name = h.0; spelled = (m.first.0, m.parts ∙ ap (λ (l : List Token). m.front ++ l) m.second.0 ∙ append-nil m.front ∙ m.first.1, h.1 ∙ ap (λ x. got (pair h.0 (Some x))) m.second.1) }

function_is_head : (f : AggFn) (front : List Token) → Function f front → Headed f front
unfolding Function function_of is_reserved
function_is_head f front s =
    elim s [
      | inl a ↦ means_is_head (codes "SUM") function.Sum f front refl refl a
      | inr r ↦ elim r [
        | inl b ↦ means_is_head (codes "MIN") function.Min f front refl refl b
        | inr r ↦ elim r [
          | inl c ↦ means_is_head (codes "MAX") function.Max f front refl refl c
          | inr d ↦ means_is_head (codes "COUNT") function.Count f front refl refl d
        ]
      ]
    ]

column_inside : (f : AggFn) (x : Item) (ts : List Token) → ColumnIn f x ts → Inside f x ts
column_inside function.Count x ts s = inr s
column_inside function.Sum x ts s = s
column_inside function.Min x ts s = s
column_inside function.Max x ts s = s

called : (f : AggFn) (x : Item) (ts front back : List Token) → ts ≡ front ++ back → Function f front → Call f x back → Item_ x ts
unfolding Item_ Aggregate CountAll
called function.Count x ts front back parts p s =
    elim s.second [
      | inl star ↦ inr (inr (record { value = tt; front = front; back = back; parts = parts; first = count_is front p; second = record { value = s.value; front = s.front; back = s.back; parts = s.parts; first = s.first; second = star } }))
      | inr column ↦ inr (inl (record { value = function.Count; front = front; back = back; parts = parts; first = p; second = record { value = s.value; front = s.front; back = s.back; parts = s.parts; first = s.first; second = column } }))
    ]
called function.Sum x ts front back parts p s = inr (inl (record { value = function.Sum; front = front; back = back; parts = parts; first = p; second = s }))
called function.Min x ts front back parts p s = inr (inl (record { value = function.Min; front = front; back = back; parts = parts; first = p; second = s }))
called function.Max x ts front back parts p s = inr (inl (record { value = function.Max; front = front; back = back; parts = parts; first = p; second = s }))

to_item : (x : Item) (ts : List Token) → Then (Tok a_head) AfterHead x ts → Item_ x ts
unfolding Item_ Name
to_item x ts s = go s.value s.front s.back s.parts s.first s.second
  where
    go : (h : List ℕ × Option AggFn) (front back : List Token) → ts ≡ front ++ back → Tok a_head h front → AfterHead h x back → Item_ x ts
    go (n, Some f) front back parts t (inl q) = called f x ts front back parts (function_is t.0.kind n f front t) q
    go (n, Some f) front back parts t (inr q) = inl (record { value = n; front = front; back = back; parts = parts; first = (t.0, t.1, head_is_name t.0.kind n (Some f) t.2); second = q })
    go (n, None) front back parts t q = inl (record { value = n; front = front; back = back; parts = parts; first = (t.0, t.1, head_is_name t.0.kind n None t.2); second = q })

from_item : (x : Item) (ts : List Token) → Item_ x ts → Then (Tok a_head) AfterHead x ts
unfolding Item_ Name Aggregate CountAll is_reserved function_of
from_item x ts (inl s) = go (name_is_head s.first.0.kind s.value s.first.2)
  where
    go : ((b : Option AggFn) × (head_in s.first.0.kind ≡ Some (s.value, b))) → Then (Tok a_head) AfterHead x ts
    go (Some f, e) = record { value = (s.value, Some f); front = s.front; back = s.back; parts = s.parts; first = (s.first.0, s.first.1, e); second = inr s.second }
    go (None, e) = record { value = (s.value, None); front = s.front; back = s.back; parts = s.parts; first = (s.first.0, s.first.1, e); second = s.second }
from_item x ts (inr (inl s)) =
    let h = function_is_head s.value s.front s.first in
    record {
      value = (h.name, Some s.value);
      front = s.front;
      back = s.back;
      parts = s.parts;
      first = h.spelled;
      second = inl (record { value = s.second.value; front = s.second.front; back = s.second.back; parts = s.second.parts; first = s.second.first; second = column_inside s.value x s.second.back s.second.second });
    }
from_item x ts (inr (inr s)) =
    let h = word_is_head (codes "COUNT") function.Count s.first.0.kind (let r : is_reserved (lower (codes "COUNT")) ≡ false = refl in r) (let s : function_of (lower (codes "COUNT")) ≡ Some function.Count = refl in s) s.first.2 in
    record {
      value = (h.0, Some function.Count);
      front = s.front;
      back = s.back;
      parts = s.parts;
      first = (s.first.0, s.first.1, h.1);
      second = inl (record { value = s.second.value; front = s.second.front; back = s.second.back; parts = s.second.parts; first = s.second.first; second = inl s.second.second });
    }

pub item_reads : Reads Item_ item_at (marked_name ∷ []) (marked_sign sign.Open ∷ []) false
unfolding item_at
item_reads = reads_along to_item from_item (next_reads head_reads after_head_reads refl)

pub item_leaves_less : {B : Type 0} (view : B → Item × List Token) (tokens : List Token) (r : Result B Stop) → Gives view r (item_at tokens) → IfOk r (λ x. length (view x).1 < length tokens)
item_leaves_less view tokens r given = leaves_less item_reads view tokens r given

-- ---- the select list, WHERE, GROUP BY, ORDER BY, LIMIT

abbrev comma : Mark
comma = marked_sign sign.Comma

abbrev opening : Mark
opening = marked_sign sign.Open

select_list_reads : Reads SelectList select_list_at (marked_sign sign.Star ∷ marked_name ∷ []) (opening ∷ comma ∷ opening ∷ []) false
unfolding select_list_at SelectList
select_list_reads = either_reads (stands_reads sign.Star (true, []) refl) (next_reads (commas_read item_reads refl refl) (λ xs. is_reads (false, xs)) refl) refl

operator_reads : Reads Operator operator_at operator_first [] false
unfolding operator_at Operator
operator_reads =
    either_reads (stands_reads sign.Equal op.Eq refl)
    (either_reads (stands_reads sign.Unequal op.Ne refl)
    (either_reads (stands_reads sign.Less op.Lt refl)
    (either_reads (stands_reads sign.AtMost op.Le refl)
    (either_reads (stands_reads sign.Greater op.Gt refl) (stands_reads sign.AtLeast op.Ge refl) refl) refl) refl) refl) refl

comparison_reads : Reads Comparison comparison_at operator_first [] false
unfolding comparison_at Comparison
comparison_reads = next_reads operator_reads (λ o. next_reads literal_reads (λ l. is_reads (check.Compare o l)) refl) refl

null_check_reads : Reads NullCheck null_check_at (word (codes "IS")) [] false
unfolding null_check_at NullCheck
null_check_reads = next_reads (word_reads (codes "IS") refl) (λ _. next_reads (either_reads (means_reads (codes "NULL") check.IsNull refl) (next_reads (word_reads (codes "NOT") refl) (λ _. means_reads (codes "NULL") check.IsNotNull refl) refl) refl) (λ c. is_reads c) refl) refl

check_reads : Reads (Or Comparison NullCheck) check_at (operator_first ++ word (codes "IS")) [] false
unfolding check_at
check_reads = either_reads comparison_reads null_check_reads refl

test_reads : Reads Test test_at (marked_name ∷ []) [] false
unfolding test_at Test Name
test_reads = next_reads name_reads (λ n. next_reads check_reads (λ c. is_reads _) refl) refl

pub test_leaves_less : {B : Type 0} (view : B → Filter × List Token) (tokens : List Token) (r : Result B Stop) → Gives view r (test_at tokens) → IfOk r (λ x. length (view x).1 < length tokens)
test_leaves_less view tokens r given = leaves_less test_reads view tokens r given

abbrev filters_more : List Mark
filters_more = marked_word (codes "AND") ∷ marked_word (codes "WHERE") ∷ []

filters_read : Reads Filters filters_at (word (codes "WHERE")) filters_more true
unfolding filters_at Filters
filters_read = next_reads (maybe_reads (next_reads (word_reads (codes "WHERE") refl) (λ _. list_reads (marked_word (codes "AND")) (a_word (codes "AND")) (word_at (codes "AND")) (word_reads (codes "AND") refl) test_reads refl refl) refl)) (λ o. is_reads (or_else [] o)) refl

abbrev group_more : List Mark
group_more = comma ∷ marked_word (codes "GROUP") ∷ []

group_reads : Reads Group group_at (word (codes "GROUP")) group_more true
unfolding group_at Group Name
group_reads = next_reads (maybe_reads (next_reads (word_reads (codes "GROUP") refl) (λ _. next_reads (word_reads (codes "BY") refl) (λ _. commas_read name_reads refl refl) refl) refl)) (λ o. is_reads (or_else [] o)) refl

order_by_reads : Reads OrderBy_ order_by_at (marked_name ∷ marked_integer ∷ []) (opening ∷ []) false
unfolding order_by_at OrderBy_
order_by_reads = either_reads (next_reads item_reads (λ i. is_reads (by.Item i)) refl) (next_reads integer_reads (λ n. is_reads (by.Position n)) refl) refl

abbrev asc_desc : List Mark
asc_desc = marked_word (codes "ASC") ∷ marked_word (codes "DESC") ∷ []

descending_reads : Reads Descending descending_at asc_desc asc_desc true
unfolding descending_at Descending
descending_reads = next_reads (maybe_reads (either_reads (means_reads (codes "ASC") false refl) (means_reads (codes "DESC") true refl) refl)) (λ o. is_reads (or_else false o)) refl

key_reads : Reads Key key_at (marked_name ∷ marked_integer ∷ []) (asc_desc ++ opening ∷ []) false
unfolding key_at Key
key_reads = next_reads order_by_reads (λ b. next_reads descending_reads (λ d. is_reads _) refl) refl

pub key_leaves_less : {B : Type 0} (view : B → OrderKey × List Token) (tokens : List Token) (r : Result B Stop) → Gives view r (key_at tokens) → IfOk r (λ x. length (view x).1 < length tokens)
key_leaves_less view tokens r given = leaves_less key_reads view tokens r given

abbrev order_more : List Mark
order_more = (asc_desc ++ opening ∷ comma ∷ asc_desc) ++ opening ∷ marked_word (codes "ORDER") ∷ []

order_reads : Reads Order order_at (word (codes "ORDER")) order_more true
unfolding order_at Order
order_reads = next_reads (maybe_reads (next_reads (word_reads (codes "ORDER") refl) (λ _. next_reads (word_reads (codes "BY") refl) (λ _. commas_read key_reads refl refl) refl) refl)) (λ o. is_reads (or_else [] o)) refl

limit_reads : Reads Limit limit_at (word (codes "LIMIT")) (word (codes "LIMIT")) true
unfolding limit_at Limit Count
limit_reads = maybe_reads (next_reads (word_reads (codes "LIMIT") refl) (λ _. count_reads) refl)

abbrev pub select_more : List Mark
select_more = marked_word (codes "LIMIT") ∷ order_more ++ (group_more ++ filters_more)

pub select_reads : Reads Select select_at (word (codes "SELECT")) select_more false
unfolding select_at Select Name
select_reads = next_reads (word_reads (codes "SELECT") refl) (λ _. next_reads select_list_reads (λ list. next_reads (word_reads (codes "FROM") refl) (λ _. next_reads name_reads (λ n. next_reads filters_read (λ f. next_reads group_reads (λ g. next_reads order_reads (λ o. next_reads limit_reads (λ l. is_reads _) refl) refl) refl) refl) refl) refl) refl) refl
