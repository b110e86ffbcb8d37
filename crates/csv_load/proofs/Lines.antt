-- The reader of `csv`, set to no quoting, gives the records of a body.
use Rattle.std.proofs.Common.{◌≡◌, ◌≢◌, ◌⊎◌, inl, inr, ℕ, Bool, true, false, cond, List, [], ◌∷◌, ◌++◌, ◌==◌, ◌&&◌, not, drop, take, Bor, Option, Some, None, map, if◌then◌else◌, refl, sym, ap, ◌∙◌, subst, arith, append_assoc, append-nil}
use Rattle.std.specs.List.{filter, slice_split, onto_first}
use Rattle.csv.specs.Machine.{Read, step, is_end, fields_after, field_after, ends_at_end, next_record}
use Rattle.csv.specs.declared.error.ErrorKind.{ErrorKind}
use Rattle.csv.specs.declared.error.ErrorKind.TheVariants as kind
use Rattle.csv.specs.Reading.{ExplainsRead, Ready, is_flexible, has_failed, ReadRecord, Reached, source_of, unread_of, records_next, strip_bom}
use Rattle.csv.proofs.ReadFacts.{rows-end, rows-more}
use Rattle.csv.specs.declared.parser.Config.{Config}
use Rattle.csv.specs.declared.parser.State.{State}
use Rattle.csv.specs.declared.parser.State.TheVariants as st
use Rattle.csv.specs.declared.reader.Reader.{Reader}
use Rattle.csv.specs.declared.reader.Trim.TheVariants as trim
use Rattle.csv_load.specs.Reading.{body_config, records_from, records_of_known, records_left, ReadsBody, IsOutside}
use Rattle.csv_load.specs.Records.{without_mark, ends_line, has_bytes, lines, line_fields, records}

-- the pieces of a text between the bytes that pass the test, where `piece` is the part of the first one that is already read
unfoldable pieces_from : (ℕ → Bool) → List ℕ → List ℕ → List (List ℕ)
pieces_from test piece [] = piece ∷ []
pieces_from test piece (b ∷ rest) = if test b then piece ∷ pieces_from test [] rest else pieces_from test (piece ++ (b ∷ [])) rest

-- a part that is already read, in front of the first piece
abbrev onto : List ℕ → List (List ℕ) → List (List ℕ)
onto part [] = part ∷ []
onto part (piece ∷ pieces) = (part ++ piece) ∷ pieces

onto-none : (test : ℕ → Bool) (xs : List ℕ) → onto [] (slice_split test xs) ≡ slice_split test xs
onto-none test [] = refl
onto-none test (b ∷ rest) = onto-none-at b (slice_split test rest) (test b) where
  onto-none-first : (b : ℕ) (pieces : List (List ℕ)) → onto [] (onto_first b pieces) ≡ onto_first b pieces
  onto-none-first b [] = refl
  onto-none-first b (piece ∷ pieces) = refl

  onto-none-at : (b : ℕ) (pieces : List (List ℕ)) (t : Bool) → onto [] (cond t ([] ∷ pieces) (onto_first b pieces)) ≡ cond t ([] ∷ pieces) (onto_first b pieces)
  onto-none-at b pieces true = refl
  onto-none-at b pieces false = onto-none-first b pieces

onto-more : (part : List ℕ) (b : ℕ) (pieces : List (List ℕ)) → onto (part ++ (b ∷ [])) pieces ≡ onto part (onto_first b pieces)
onto-more part b [] = refl
onto-more part b (piece ∷ pieces) = ap (λ l. l ∷ pieces) (append_assoc part (b ∷ []) piece)

-- they are the split of the text
pieces_from-split : (test : ℕ → Bool) (part xs : List ℕ) → pieces_from test part xs ≡ onto part (slice_split test xs)
unfolding pieces_from
pieces_from-split test part [] = ap (λ p. p ∷ []) (sym (append-nil part))
pieces_from-split test part (b ∷ rest) =
    elim (test b) as (λ t. (if t then part ∷ pieces_from test [] rest else pieces_from test (part ++ (b ∷ [])) rest) ≡ onto part (cond t ([] ∷ slice_split test rest) (onto_first b (slice_split test rest))))
    [ true ↦ cc (pieces_from-split test [] rest, onto-none test rest, append-nil part) | false ↦ pieces_from-split test (part ++ (b ∷ [])) rest ∙ onto-more part b (slice_split test rest) ]

pieces-split : (test : ℕ → Bool) (xs : List ℕ) → pieces_from test [] xs ≡ slice_split test xs
pieces-split test xs = pieces_from-split test [] xs ∙ onto-none test xs

-- they are the next one and those after it
pub records_from-next : (cfg : Config) (s : State) (fields : List (List ℕ)) (field xs : List ℕ)
    → records_from cfg s fields field xs ≡ records_next (λ s2 ys. records_from cfg s2 [] [] ys) (next_record cfg s fields field xs)
unfolding records_from next_record
records_from-next cfg s fields field [] =
    elim (ends_at_end s) as (λ b. (if b then (fields ++ (field ∷ [])) ∷ [] else []) ≡ records_next (λ s2 ys. records_from cfg s2 [] [] ys) (if b then Some (fields ++ (field ∷ []), st.StartRecord, []) else None)) [ true ↦ refl | false ↦ refl ]
records_from-next cfg s fields field (c ∷ rest) =
    elim (is_end (step cfg s c).1) as (λ b. (if b then fields_after (step cfg s c).1 fields field ∷ records_from cfg (step cfg s c).0 [] [] rest
    else records_from cfg (step cfg s c).0 (fields_after (step cfg s c).1 fields field) (field_after (step cfg s c).1 c field) rest)
    ≡ records_next (λ s2 ys. records_from cfg s2 [] [] ys) (if b then Some (fields_after (step cfg s c).1 fields field, (step cfg s c).0, rest)
    else next_record cfg (step cfg s c).0 (fields_after (step cfg s c).1 fields field) (field_after (step cfg s c).1 c field) rest))
    [ true ↦ refl | false ↦ records_from-next cfg (step cfg s c).0 (fields_after (step cfg s c).1 fields field) (field_after (step cfg s c).1 c field) rest ]

abbrev is_separator : ℕ → ℕ → Bool
is_separator separator b = b == separator

-- the records of the lines whose first one has begun
abbrev rows_from : ℕ → List ℕ → List ℕ → List (List (List ℕ))
rows_from separator line xs = map (pieces_from (is_separator separator) []) (filter has_bytes (pieces_from ends_line line xs))

-- a line that has begun has these whole fields and this part of one
abbrev Splits : ℕ → List ℕ → List (List ℕ) → List ℕ → Type 0
Splits separator line fields field = (ys : List ℕ) → pieces_from (is_separator separator) [] (line ++ ys) ≡ fields ++ pieces_from (is_separator separator) field ys

either : (b : Bool) → (b ≡ true) ⊎ (b ≡ false)
either true = inl refl
either false = inr refl

splits-more : (separator : ℕ) (line : List ℕ) (fields : List (List ℕ)) (field : List ℕ) (c : ℕ) → is_separator separator c ≡ false
    → Splits separator line fields field → Splits separator (line ++ (c ∷ [])) fields (field ++ (c ∷ []))
unfolding pieces_from
splits-more separator line fields field c e h ys =
    ap (pieces_from (is_separator separator) []) (append_assoc line (c ∷ []) ys) ∙ h (c ∷ ys)
    ∙ ap (λ b. fields ++ (if b then field ∷ pieces_from (is_separator separator) [] ys else pieces_from (is_separator separator) (field ++ (c ∷ [])) ys)) e

splits-end : (separator : ℕ) (line : List ℕ) (fields : List (List ℕ)) (field : List ℕ) (c : ℕ) → is_separator separator c ≡ true
    → Splits separator line fields field → Splits separator (line ++ (c ∷ [])) (fields ++ (field ∷ [])) []
unfolding pieces_from
splits-end separator line fields field c e h ys =
    ap (pieces_from (is_separator separator) []) (append_assoc line (c ∷ []) ys) ∙ h (c ∷ ys)
    ∙ ap (λ b. fields ++ (if b then field ∷ pieces_from (is_separator separator) [] ys else pieces_from (is_separator separator) (field ++ (c ∷ [])) ys)) e
    ∙ sym (append_assoc fields (field ∷ []) (pieces_from (is_separator separator) [] ys))

splits-none : (separator : ℕ) → Splits separator [] [] []
splits-none separator ys = refl

-- the reader's records, at each state, are those of the lines
record Agrees (separator : ℕ) (xs : List ℕ) : Type 0 where
  start : records_from (body_config separator) st.StartRecord [] [] xs ≡ rows_from separator [] xs
  after_cr : records_from (body_config separator) st.AfterCr [] [] xs ≡ rows_from separator [] xs
  in_field : (b : ℕ) (line : List ℕ) (fields : List (List ℕ)) (field : List ℕ) → Splits separator (b ∷ line) fields field
      → records_from (body_config separator) st.InField fields field xs ≡ rows_from separator (b ∷ line) xs
  start_field : (b : ℕ) (line : List ℕ) (fields : List (List ℕ)) (field : List ℕ) → Splits separator (b ∷ line) fields field
      → records_from (body_config separator) st.StartField fields field xs ≡ rows_from separator (b ∷ line) xs

whole-line : (separator : ℕ) (line : List ℕ) (fields : List (List ℕ)) (field : List ℕ) → Splits separator line fields field
    → fields ++ (field ∷ []) ≡ pieces_from (is_separator separator) [] line
unfolding pieces_from
whole-line separator line fields field h =
    sym (subst (λ l. pieces_from (is_separator separator) [] l ≡ fields ++ (field ∷ [])) (append-nil line) (h []))

agrees : (separator : ℕ) (xs : List ℕ) → separator ≢ 10 → separator ≢ 13 → Agrees separator xs
unfolding records_from pieces_from
agrees separator [] n10 n13 = record {
  start = refl;
  after_cr = refl;
  in_field = λ b line fields field h. ap (λ r. r ∷ []) (whole-line separator (b ∷ line) fields field h);
  start_field = λ b line fields field h. ap (λ r. r ∷ []) (whole-line separator (b ∷ line) fields field h);
}
agrees separator (c ∷ rest) n10 n13 =
    let ih = agrees separator rest n10 n13 in
    elim (either (c == separator)) [
      | inl e ↦
          let l : (c == 10) ≡ false = grind arith in
          let r : (c == 13) ≡ false = grind arith in
          record {
            start = rw (e, l, r) (ih.start_field c [] ([] ∷ []) [] (splits-end separator [] [] [] c e (splits-none separator)));
            after_cr = rw (e, l, r) (ih.start_field c [] ([] ∷ []) [] (splits-end separator [] [] [] c e (splits-none separator)));
            in_field = λ b line fields field h. rw (e, l, r) (ih.start_field b (line ++ (c ∷ [])) (fields ++ (field ∷ [])) [] (splits-end separator (b ∷ line) fields field c e h));
            start_field = λ b line fields field h. rw (e, l, r) (ih.start_field b (line ++ (c ∷ [])) (fields ++ (field ∷ [])) [] (splits-end separator (b ∷ line) fields field c e h));
          }
      | inr n ↦ elim (either (c == 13)) [
        | inl r ↦
            let l : (c == 10) ≡ false = grind arith in
            record {
              start = rw (l, r) ih.start;
              after_cr = rw (l, r) ih.start;
              in_field = λ b line fields field h. rw (n, l, r) (ap (λ rs. (fields ++ (field ∷ [])) ∷ rs) ih.after_cr ∙ ap (λ f. f ∷ rows_from separator [] rest) (whole-line separator (b ∷ line) fields field h));
              start_field = λ b line fields field h. rw (n, l, r) (ap (λ rs. (fields ++ (field ∷ [])) ∷ rs) ih.after_cr ∙ ap (λ f. f ∷ rows_from separator [] rest) (whole-line separator (b ∷ line) fields field h));
            }
        | inr r ↦ elim (either (c == 10)) [
          | inl l ↦
              record {
                start = rw (l, r) ih.start;
                after_cr = rw l ih.start;
                in_field = λ b line fields field h. rw (n, l, r) (ap (λ rs. (fields ++ (field ∷ [])) ∷ rs) ih.start ∙ ap (λ f. f ∷ rows_from separator [] rest) (whole-line separator (b ∷ line) fields field h));
                start_field = λ b line fields field h. rw (n, l, r) (ap (λ rs. (fields ++ (field ∷ [])) ∷ rs) ih.start ∙ ap (λ f. f ∷ rows_from separator [] rest) (whole-line separator (b ∷ line) fields field h));
              }
          | inr l ↦
              record {
                start = rw (n, l, r) (ih.in_field c [] [] (c ∷ []) (splits-more separator [] [] [] c n (splits-none separator)));
                after_cr = rw (n, l, r) (ih.in_field c [] [] (c ∷ []) (splits-more separator [] [] [] c n (splits-none separator)));
                in_field = λ b line fields field h. rw (n, l, r) (ih.in_field b (line ++ (c ∷ [])) fields (field ++ (c ∷ [])) (splits-more separator (b ∷ line) fields field c n h));
                start_field = λ b line fields field h. rw (n, l, r) (ih.in_field b (line ++ (c ∷ [])) fields (field ++ (c ∷ [])) (splits-more separator (b ∷ line) fields field c n h));
              }
        ]
      ]
    ]

-- from the start of a text, the reader gives the records of its lines
from_start : (separator : ℕ) (xs : List ℕ) → separator ≢ 10 → separator ≢ 13
    → records_from (body_config separator) st.StartRecord [] [] xs ≡ map (line_fields separator) (lines xs)
from_start separator xs n10 n13 =
    (agrees separator xs n10 n13).start
    ∙ ap (λ ls. map (pieces_from (is_separator separator) []) (filter has_bytes ls)) (pieces-split ends_line xs)
    ∙ map-same (pieces_from (is_separator separator) []) (line_fields separator) (pieces-split (is_separator separator)) (filter has_bytes (slice_split ends_line xs))
  where
    map-same : (f g : List ℕ → List (List ℕ)) → ((l : List ℕ) → f l ≡ g l) → (ls : List (List ℕ)) → map f ls ≡ map g ls
    map-same f g h [] = refl
    map-same f g h (l ∷ ls) = cc (h l, map-same f g h ls)

-- a text that is shorter than a mark has none
short : (p q : Bool) (x y : List ℕ) → x ≡ (if p && (q && false) then y else x)
short true true x y = refl
short true false x y = refl
short false q x y = refl

whole : (p q r : Bool) (x y : List ℕ) → (if p && q && r then y else x) ≡ (if p && (q && (r && true)) then y else x)
whole true true true x y = refl
whole true true false x y = refl
whole true false r x y = refl
whole false q r x y = refl

-- the byte order mark of `csv` is ours
mark : (xs : List ℕ) → strip_bom xs ≡ without_mark xs
unfolding strip_bom without_mark
mark [] = refl
mark (a ∷ []) = short (a == 0xEF) true (a ∷ []) []
mark (a ∷ b ∷ []) = short (a == 0xEF) (b == 0xBB) (a ∷ b ∷ []) []
mark (a ∷ b ∷ c ∷ rest) = whole (a == 0xEF) (b == 0xBB) (c == 0xBF) (a ∷ b ∷ c ∷ rest) rest

-- a reader at the start of a body has its records left
pub left-at_start : {R : Type 0} (rem : R → Option (List ℕ)) (r : Reader R) (separator : ℕ) (body : List ℕ) → separator ≢ 10 → separator ≢ 13
    → r.config ≡ body_config separator → r.state ≡ st.StartRecord → source_of rem r ≡ Some (strip_bom body) → records_left rem r ≡ records separator body
unfolding records
left-at_start rem r separator body n10 n13 ec es ex =
    ap (λ c. records_of_known c r.state (source_of rem r)) ec
    ∙ ap (λ s. records_of_known (body_config separator) s (source_of rem r)) es
    ∙ ap (records_of_known (body_config separator) st.StartRecord) (ex ∙ ap Some (mark body))
    ∙ from_start separator (without_mark body) n10 n13

some-either : (b : Bool) (x y : List ℕ) → (z : List ℕ) × ((if b then Some x else Some y) ≡ Some z)
some-either true x y = (x, refl)
some-either false x y = (y, refl)

-- what a reader of bytes reads from is known until it has failed
known : (r : Reader (Bor (List ℕ))) → has_failed r ≡ false → (bytes : List ℕ) × (source_of (λ s. Some s.now) r ≡ Some bytes)
known r e =
    let rem : Bor (List ℕ) → Option (List ℕ) = λ s. Some s.now in
    let s = some-either (not r.bom_checked && (r.at == 0) && (r.filled == 0)) (strip_bom r.rdr.now) (drop r.at (take r.filled r.buffer) ++ r.rdr.now) in
    (s.0, ap (λ b. if b then None else unread_of rem r) e ∙ s.1)

-- a read that found a record took the first of those that are left
pub left-more : (a b : Reader (Bor (List ℕ))) (f : List (List ℕ)) → has_failed a ≡ false → ReadRecord (λ s. Some s.now) a b true f
    → records_left (λ s. Some s.now) a ≡ f ∷ records_left (λ s. Some s.now) b
unfolding Reached
left-more a b f e r =
    let rem : Bor (List ℕ) → Option (List ℕ) = λ s. Some s.now in
    let k = known a e in
    let y : List ℕ = k.0 in
    let g = rows-more rem a b f a.config a.state y y [] refl k.1 (refl, refl) r in
    let more : State → List ℕ → List (List (List ℕ)) = λ s2 ys. records_from a.config s2 [] [] ys in
    let p : Read = g.2.0 in
    let first : records_from a.config a.state [] [] y ≡ p.0 ∷ records_from a.config p.1 [] [] p.2 = records_from-next a.config a.state [] [] y ∙ ap (records_next more) g.2.1 in
    let here : records_left rem a ≡ records_from a.config a.state [] [] y = ap (records_of_known a.config a.state) k.1 in
    let there : records_left rem b ≡ records_from b.config b.state [] [] g.0 = ap (records_of_known b.config b.state) g.1 in
    let fields : f ≡ p.0 = g.2.2 in
    let state : p.1 ≡ b.state = g.2.3.0 in
    let rest : p.2 ≡ g.0 = g.2.3.1 in
    cc (first, here, there, fields, state, rest, r.2)

-- one that found none is at the end
pub left-none : (a b : Reader (Bor (List ℕ))) (f : List (List ℕ)) → has_failed a ≡ false → ReadRecord (λ s. Some s.now) a b false f → records_left (λ s. Some s.now) a ≡ []
left-none a b f e r =
    let rem : Bor (List ℕ) → Option (List ℕ) = λ s. Some s.now in
    let k = known a e in
    let more : State → List ℕ → List (List (List ℕ)) = λ s2 ys. records_from a.config s2 [] [] ys in
    ap (records_of_known a.config a.state) k.1 ∙ records_from-next a.config a.state [] [] k.0 ∙ ap (records_next more) (rows-end rem a b f a.config k.0 refl k.1 r)

either-failed : (b : Bool) → (b ≡ true) ⊎ (b ≡ false)
either-failed true = inl refl
either-failed false = inr refl

-- so a read takes the first of the records that are left, if one is
pub left-read : (a b : Reader (Bor (List ℕ))) (found : Bool) (f : List (List ℕ)) → ReadsBody a → (has_failed a ≡ true → found ≡ false)
    → (a.trim ≡ trim.None → Ready a → ReadRecord (λ s. Some s.now) a b found f)
    → records_left (λ s. Some s.now) a ≡ (if found then f ∷ records_left (λ s. Some s.now) b else [])
left-read a b found f inv stopped reads = elim (either-failed (has_failed a)) [
  | inl e ↦
      let none : records_left (λ s. Some s.now) a ≡ [] = ap (λ x. records_of_known a.config a.state (if x then None else unread_of (λ s. Some s.now) a)) e in
      none ∙ ap (λ x. if x then f ∷ records_left (λ s. Some s.now) b else []) (sym (stopped e))
  | inr e ↦ at found e (reads (inv e).trims (inv e).ready)
]
  where
    at : (found : Bool) → has_failed a ≡ false → ReadRecord (λ s. Some s.now) a b found f
        → records_left (λ s. Some s.now) a ≡ (if found then f ∷ records_left (λ s. Some s.now) b else [])
    at true e r = left-more a b f e r
    at false e r = left-none a b f e r

-- a flexible reader of bytes fails for the reader underneath or for memory alone
pub only_outside : {R : Type 0} (rem : R → Option (List ℕ)) (a b : Reader R) (k : ErrorKind) → is_flexible a ≡ true → ExplainsRead rem a b false k → IsOutside k
only_outside rem a b (kind.Io e) f h = tt
only_outside rem a b kind.OutOfMemory f h = tt
only_outside rem a b (kind.UnequalLengths pos expected len) f h = let g = h.0 in cc
only_outside rem a b (kind.Utf8 pos err) f h = let g = h.0 in cc
only_outside rem a b (kind.Serialize why) f h = h
only_outside rem a b (kind.Deserialize pos err) f h = h
