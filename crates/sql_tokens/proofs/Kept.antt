-- The scan of a string: what it has so far, and where it ends if no later quote comes.
use Rattle.std.proofs.Common.{◌≡◌, ℕ, ◌≤◌, List, [], ◌∷◌, ◌++◌, length, take, Option, Some, None, refl, sym, ap, ◌∙◌, arith, append_assoc, length-append}
use Rattle.std.specs.Prelude.{option_map, IfSome}
use Rattle.std.proofs.lemmas.List.{append-nil, take_at, take-append-le}
use Rattle.sql_tokens.specs.Strings.{with_first, or_closed, string_at}

abbrev pub finish : List ℕ → Option (ℕ × List ℕ) → Option (List ℕ × List ℕ) → Option (List ℕ × List ℕ)
finish text kept (Some x) = Some (text ++ x.0, x.1)
finish text None None = None
finish text (Some k) None = Some (take k.0 text, k.1)

pub record Scanning (q : ℕ) (text : List ℕ) (kept : Option (ℕ × List ℕ)) (rest bytes : List ℕ) : Type 0 where
  pub so_far : finish text kept (string_at q rest) ≡ string_at q bytes
  pub within : IfSome kept (λ k. k.0 ≤ length text)

abbrev found : List ℕ → List ℕ → Option (List ℕ × List ℕ)
found v rest = Some (v, rest)

at_quote : (q : ℕ) (text : List ℕ) (kept : Option (ℕ × List ℕ)) (rest : List ℕ) (o : Option (List ℕ × List ℕ)) → finish text kept (or_closed q rest o) ≡ finish (text ++ q ∷ []) (Some (length text, rest)) o
at_quote q text kept rest (Some x) = ap (λ v. found v x.1) (sym (append_assoc text (q ∷ []) x.0))
at_quote q text kept rest None = ap (λ v. found v rest) (append-nil text ∙ sym (take_at text (q ∷ []) (length text) refl))

at_byte : (d : ℕ) (text : List ℕ) (kept : Option (ℕ × List ℕ)) (o : Option (List ℕ × List ℕ)) → IfSome kept (λ k. k.0 ≤ length text) → finish text kept (option_map (with_first d) o) ≡ finish (text ++ d ∷ []) kept o
at_byte d text kept (Some x) h = ap (λ v. found v x.1) (sym (append_assoc text (d ∷ []) x.0))
at_byte d text None None h = refl
at_byte d text (Some k) None h = ap (λ v. found v k.1) (sym (take-append-le k.0 text (d ∷ []) h))

still : (d : ℕ) (text : List ℕ) (kept : Option (ℕ × List ℕ)) → IfSome kept (λ k. k.0 ≤ length text) → IfSome kept (λ k. k.0 ≤ length (text ++ d ∷ []))
still d text None h = tt
still d text (Some k) h = omega (arith, length-append text (d ∷ []))

pub begins : (q : ℕ) (bytes : List ℕ) → Scanning q [] None bytes bytes
begins q bytes = record { so_far = go (string_at q bytes); within = tt }
  where
    go : (o : Option (List ℕ × List ℕ)) → finish [] None o ≡ o
    go None = refl
    go (Some x) = refl

pub quoted : (q : ℕ) (after next text : List ℕ) (kept : Option (ℕ × List ℕ)) (rest bytes : List ℕ) → string_at q rest ≡ or_closed q after (string_at q next) → Scanning q text kept rest bytes → Scanning q (text ++ q ∷ []) (Some (length text, after)) next bytes
quoted q after next text kept rest bytes e s = record {
  so_far = sym (at_quote q text kept after (string_at q next)) ∙ ap (finish text kept) (sym e) ∙ s.so_far;
  within = omega (arith, length-append text (q ∷ []));
}

pub byte : (q d : ℕ) (next text : List ℕ) (kept : Option (ℕ × List ℕ)) (rest bytes : List ℕ) → string_at q rest ≡ option_map (with_first d) (string_at q next) → Scanning q text kept rest bytes → Scanning q (text ++ d ∷ []) kept next bytes
byte q d next text kept rest bytes e s = record {
  so_far = sym (at_byte d text kept (string_at q next) s.within) ∙ ap (finish text kept) (sym e) ∙ s.so_far;
  within = still d text kept s.within;
}

pub ended : (q : ℕ) (after text : List ℕ) (kept : Option (ℕ × List ℕ)) (rest bytes : List ℕ) → string_at q rest ≡ found [] after → Scanning q text kept rest bytes → found text after ≡ string_at q bytes
ended q after text kept rest bytes e s = ap (λ v. found v after) (sym (append-nil text)) ∙ ap (finish text kept) (sym e) ∙ s.so_far

pub stuck : (q : ℕ) (text : List ℕ) (kept : Option (ℕ × List ℕ)) (rest bytes : List ℕ) → string_at q rest ≡ None → Scanning q text kept rest bytes → finish text kept None ≡ string_at q bytes
stuck q text kept rest bytes e s = ap (finish text kept) (sym e) ∙ s.so_far
