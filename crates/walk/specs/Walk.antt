-- What the walk along the pages finds out.
-- Assumes nothing.
use Rattle.std.specs.Prelude.{◌≡◌, Bool, true, false, ◌&&◌, List, [], ◌∷◌, ℕ, ◌%◌, eqb, get_or, set, take}
use Rattle.order.specs.Count.{count}
use Rattle.order.specs.Places.{places}

-- marked one after the other, none of them meets a mark
abbrev pub fresh : List ℕ → List ℕ → Bool
fresh [] marks = true
fresh (q ∷ qs) marks = eqb (get_or marks q 0) 0 && fresh qs (set marks q 1)

-- of the pages of a list, marked one after the other at their remainders, each meets no mark or stands once in all places
abbrev pub Apart : List ℕ → List ℕ → List Bool → Type 0
Apart page [] marks = Unit {0}
Apart page (q ∷ qs) marks = (get_or marks (q % 2048) false ≡ true → count q (take places page) ≡ 1) × Apart page qs (set marks (q % 2048) true)
