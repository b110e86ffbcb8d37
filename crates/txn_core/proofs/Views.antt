-- What is found among kept transactions, as contracts see them.
use Rattle.std.proofs.Common.{◌≡◌, ℕ, Bool, true, false, cond, ◌||◌, List, [], ◌∷◌, ◌++◌, Option, Some, map, find, refl, sym, ◌∙◌, ap}
use Rattle.std.proofs.lemmas.List.{map-append}
use Rattle.std.proofs.lemmas.Grind.{reverse_onto}
use Rattle.std.specs.Prelude.{reverse, nat_eq}
use Rattle.std.specs.List.{list_any}
use Rattle.std.specs.Option.{option_map}
use Rattle.front_defs.specs.declared.txn.Txn.{Txn}
use Rattle.front_defs.specs.Transactions.{txn_at}
use Rattle.txn_core.specs.declared.info.TxnInfo.{TxnInfo}
use Rattle.txn_core.specs.Seen.{seen}

find_cons : {X Y : Type 0} (f : X → Y) (x : X) (o : Option X) (q : Option Y) (b : Bool) → q ≡ option_map f o → cond b (Some (f x)) q ≡ option_map f (cond b (Some x) o)
find_cons f x o q true e = refl
find_cons f x o q false e = e

pub find_map : {X Y : Type 0} (f : X → Y) (p : Y → Bool) (xs : List X) → find p (map f xs) ≡ option_map f (find (λ x. p (f x)) xs)
find_map f p [] = refl
find_map f p (x ∷ xs) = find_cons f x (find (λ y. p (f y)) xs) (find p (map f xs)) (p (f x)) (find_map f p xs)

pub any_map : {X Y : Type 0} (f : X → Y) (p : Y → Bool) (xs : List X) → list_any p (map f xs) ≡ list_any (λ x. p (f x)) xs
any_map f p [] = refl
any_map f p (x ∷ xs) = ap (λ b. p (f x) || b) (any_map f p xs)

pub reverse_map : {X Y : Type 0} (f : X → Y) (xs : List X) → reverse (map f xs) ≡ map f (reverse xs)
reverse_map f [] = refl
reverse_map f (x ∷ xs) = reverse_onto (map f xs) (f x) [] ∙ ap (λ ys. ys ++ f x ∷ []) (reverse_map f xs) ∙ sym (map-append f (reverse xs) (x ∷ [])) ∙ ap (map f) (sym (reverse_onto xs x []))

-- what is found of them is what is found of what is seen
pub seen_found : (p : Txn → Bool) (ks : List TxnInfo) (r : Option TxnInfo) → r ≡ find (λ k. p (seen k)) ks → option_map seen r ≡ find p (map seen ks)
seen_found p ks r e = ap (option_map seen) e ∙ sym (find_map seen p ks)

-- the transaction of a number, as it is found
pub txn_seen : (id : ℕ) (ks : List TxnInfo) → txn_at id (map seen ks) ≡ option_map seen (find (λ (k : TxnInfo). nat_eq k.id id) ks)
txn_seen id ks = find_map seen (λ (t : Txn). nat_eq t.id id) ks
