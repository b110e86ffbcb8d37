-- Seats of the tests, by what stays of them.
use Rattle.std.specs.Prelude.{◌≡◌, [], ◌∷◌}
use Rattle.desk.specs.declared.view.View.{View}

-- a seat that only made calls
abbrev pub IsSame : {E N : Type 0} → View E N → View E N → Type 0
IsSame v w = (w.start ≡ v.start) × (w.name ≡ v.name) × (w.splits ≡ v.splits) × (w.joined ≡ v.joined)

-- the first seat, one that was split off from it, and one that was split off from that
abbrev pub AreThree : {E N : Type 0} → View E N → View E N → View E N → Type 0
AreThree v a b =
    (v.name ≡ []) × (v.splits ≡ 1) × (v.joined ≡ [])
    × (a.name ≡ 0 ∷ []) × (a.splits ≡ 1) × (a.joined ≡ [])
    × (b.name ≡ 0 ∷ 0 ∷ []) × (b.splits ≡ 0) × (b.joined ≡ [])
