-- Making the lists of a load ready, one by one, for their tablets.
use Rattle.std.proofs.Common.{◌≡◌, ℕ, zero, suc, ◌+◌, ◌≤◌, ◌<◌, Bool, true, false, List, [], ◌∷◌, ◌++◌, length, get_or, take, Option, Some, None, map, refl, sym, ◌∙◌, ap, subst, arith, nat_eq}
use Rattle.std.proofs.lemmas.Bool.Decides.{nat_tests}
use Rattle.std.proofs.lemmas.List.{map_more, map_push}
use Rattle.std.specs.Option.{option_map}
use Rattle.std.specs.Prelude.{MatchOption, slice_get}
use Rattle.tablets.specs.SetView.{IndexView, IsRoomier, OnTablet, SetView, changed, changed_at, changed_in, tablet_at, tablet_in, tablet_of}
use Rattle.tablets.specs.TabletView.{TabletView}
use Rattle.shadow_writes.specs.declared.built.TabletRows.{TabletRows}
use Rattle.front_defs.specs.May.{seen_set}
use Rattle.front_laws.proofs.Lists.{each_imp, each_snoc}
use Rattle.front_state.specs.Ready.{AreReady, CanTake, HasRoom, IsNext, IsReady, Takes, seen_list}
use Rattle.front_state.specs.declared.ready.ReadyList.{ReadyList}
use Rattle.front_state.proofs.Changed.{room_unseen}

-- one place of a list changed: that one, and another one

get_here : {X : Type 0} (f : X → X) (n : ℕ) (xs : List X) → slice_get (changed_at n f xs) n ≡ option_map f (slice_get xs n)
get_here f n [] = refl
get_here f zero (x ∷ xs) = refl
get_here f (suc n) (x ∷ xs) = get_here f n xs

get_beside : {X : Type 0} (f : X → X) (n m : ℕ) (xs : List X) → (n ≡ m → ⊥) → slice_get (changed_at n f xs) m ≡ slice_get xs m
get_beside f n m [] ne = refl
get_beside f zero zero (x ∷ xs) ne = absurd (ne refl)
get_beside f zero (suc m) (x ∷ xs) ne = refl
get_beside f (suc n) zero (x ∷ xs) ne = refl
get_beside f (suc n) (suc m) (x ∷ xs) ne = get_beside f n m xs (λ e. ne (ap suc e))

in_here : (f : TabletView → TabletView) (p b : ℕ) (ps : List (List TabletView)) → tablet_in p b (changed_at p (changed_at b f) ps) ≡ option_map f (tablet_in p b ps)
in_here f p b [] = refl
in_here f zero b (ts ∷ ps) = get_here f b ts
in_here f (suc p) b (ts ∷ ps) = in_here f p b ps

in_beside : (f : TabletView → TabletView) (p b q c : ℕ) (ps : List (List TabletView)) → (p ≡ q → b ≡ c → ⊥) → tablet_in q c (changed_at p (changed_at b f) ps) ≡ tablet_in q c ps
in_beside f p b q c [] ne = refl
in_beside f zero b zero c (ts ∷ ps) ne = get_beside f b c ts (ne refl)
in_beside f zero b (suc q) c (ts ∷ ps) ne = refl
in_beside f (suc p) b zero c (ts ∷ ps) ne = refl
in_beside f (suc p) b (suc q) c (ts ∷ ps) ne = in_beside f p b q c ps (λ e. ne (ap suc e))

-- a tablet of the base changed

abbrev of_base : (TabletView → TabletView) → ℕ → ℕ → ℕ → ℕ → List IndexView → Option TabletView
of_base f p b q c is = tablet_of 0 q c (map (changed_in 0 p b f) is)

of_here : (f : TabletView → TabletView) (p b : ℕ) (is : List IndexView) → of_base f p b p b is ≡ option_map f (tablet_of 0 p b is)
of_here f p b [] = refl
of_here f p b (i ∷ is) = go (nat_eq i.number 0) refl (of_here f p b is)
  where
    go : (n : Bool) → nat_eq i.number 0 ≡ n → of_base f p b p b is ≡ option_map f (tablet_of 0 p b is) → of_base f p b p b (i ∷ is) ≡ option_map f (tablet_of 0 p b (i ∷ is))
    go true e r = rw e (rw e (in_here f p b i.parts))
    go false e r = rw e (rw e r)

of_beside : (f : TabletView → TabletView) (p b q c : ℕ) (is : List IndexView) → (p ≡ q → b ≡ c → ⊥) → of_base f p b q c is ≡ tablet_of 0 q c is
of_beside f p b q c [] ne = refl
of_beside f p b q c (i ∷ is) ne = go (nat_eq i.number 0) refl (of_beside f p b q c is ne)
  where
    go : (n : Bool) → nat_eq i.number 0 ≡ n → of_base f p b q c is ≡ tablet_of 0 q c is → of_base f p b q c (i ∷ is) ≡ tablet_of 0 q c (i ∷ is)
    go true e r = rw e (rw e (in_beside f p b q c i.parts ne))
    go false e r = rw e (rw e r)

-- another tablet is as it was
pub on_beside : (s : SetView) (f : TabletView → TabletView) (p b q c : ℕ) (P : TabletView → Type 0) → (p ≡ q → b ≡ c → ⊥) → OnTablet s 0 q c P → OnTablet (changed 0 p b f s) 0 q c P
on_beside s f p b q c P ne h = subst (λ (o : Option TabletView). MatchOption o ⊥ P) (sym (of_beside f p b q c s.indexes ne)) h

-- and what f keeps stays of this one
on_here : (s : SetView) (f : TabletView → TabletView) (p b : ℕ) (P Q : TabletView → Type 0) → ((t : TabletView) → Q t → P t → P (f t)) → OnTablet s 0 p b Q → OnTablet s 0 p b P → OnTablet (changed 0 p b f s) 0 p b P
on_here s f p b P Q k g h = subst (λ (o : Option TabletView). MatchOption o ⊥ P) (sym (of_here f p b s.indexes)) (go (tablet_at s 0 p b) g h)
  where
    go : (o : Option TabletView) → MatchOption o ⊥ Q → MatchOption o ⊥ P → MatchOption (option_map f o) ⊥ P
    go None a e = e
    go (Some t) a e = k t a e

-- room

pub room_twice : (a b c : SetView) → HasRoom a b → HasRoom b c → HasRoom a c
room_twice a b c h k = record { unseen = k.unseen ∙ h.unseen; kept = λ l e. k.kept l (h.kept l e) }

takes_more : (l : ReadyList) (room : ℕ) (t : TabletView) → t.room ≤ room → Takes l t → Takes l (record t { room = room })
takes_more l room t le h = record { room = (let s = h.room in omega (arith, le, s)); above = h.above; made = h.made }

takes_kept : (p b : ℕ) (old new : SetView) → IsRoomier 0 p b old new → (l : ReadyList) → CanTake old l → CanTake new l
takes_kept p b old new h l e = subst (λ (s : SetView). CanTake s l) (sym h.rest) (go (nat_eq p l.part) (nat_eq b l.bucket) refl refl)
  where
    room : ℕ
    room = h.room

    f : TabletView → TabletView
    f t = record t { room = room }

    here : p ≡ l.part → b ≡ l.bucket → CanTake (changed 0 p b f old) l
    here i j =
        let part = subst (λ (q : ℕ). OnTablet old 0 q l.bucket (Takes l)) (sym i) e in
        let both = subst (λ (c : ℕ). OnTablet old 0 p c (Takes l)) (sym j) part in
        subst (λ (q : ℕ). OnTablet (changed 0 p b f old) 0 q l.bucket (Takes l)) i
        (subst (λ (c : ℕ). OnTablet (changed 0 p b f old) 0 p c (Takes l)) j
        (on_here old f p b (Takes l) (λ t. t.room ≤ room) (λ t le k. takes_more l room t le k) h.more both))

    go : (x y : Bool) → nat_eq p l.part ≡ x → nat_eq b l.bucket ≡ y → CanTake (changed 0 p b f old) l
    go true true i j = here (grind (arith, nat_tests, i)) (grind (arith, nat_tests, j))
    go false y i j = on_beside old f p b l.part l.bucket (Takes l) (λ k m. absurd (grind (arith, nat_tests, i, k))) e
    go true false i j = on_beside old f p b l.part l.bucket (Takes l) (λ k m. absurd (grind (arith, nat_tests, j, m))) e

pub roomier : {p b : ℕ} (old new : SetView) → IsRoomier 0 p b old new → HasRoom old new
roomier {p} {b} old new h = record { unseen = room_unseen 0 p b old new h; kept = takes_kept p b old new h }

-- one list more is ready

pub one_ready : (versions : List ℕ) (now next : SetView) (sets : List TabletRows) (i : ℕ) (x : TabletRows) (ls : List ReadyList) (l : ReadyList) → i < length sets → x ≡ get_or sets i x → HasRoom now next → IsReady versions next x l → AreReady versions now (take i sets) ls → AreReady versions next (take (i + 1) sets) (ls ++ l ∷ [])
one_ready versions now next sets i x ls l lt at room h a = record {
  takes = each_snoc (CanTake next) ls l (each_imp (CanTake now) (CanTake next) room.kept ls a.takes) h.takes;
  next = each_snoc (IsNext versions) ls l a.next h.next;
  are =
      map_push seen_list ls l
      ∙ (ap (λ ys. ys ++ seen_list l ∷ []) a.are
      ∙ (ap (λ y. map seen_set (take i sets) ++ y ∷ []) (h.is ∙ ap seen_set at)
      ∙ sym (map_more seen_set sets i x lt)));
}
