-- One window of n times: when what is kept of it is true of its places, and what it is once a time took its place.
-- Assumes nothing.
use Rattle.std.specs.Prelude.{Bool, true, not, ◌&&◌, cond as if-else, List, [], ◌∷◌, ℕ, ◌+◌, ◌-◌, min, eqb, leb, ltb, length, get_or, take, drop}
use Rattle.model.specs.declared.Window.{Window}

abbrev pub sum_of : List ℕ → ℕ
sum_of [] = 0
sum_of (t ∷ ts) = t + sum_of ts

abbrev pub none_zero : List ℕ → Bool
none_zero [] = true
none_zero (t ∷ ts) = not (eqb t 0) && none_zero ts

abbrev pub all_zero : List ℕ → Bool
all_zero [] = true
all_zero (t ∷ ts) = eqb t 0 && all_zero ts

-- "the next place equals the fill, and once the window is full goes round below n, from 0"
abbrev pub next_right : ℕ → Window → Bool
next_right n w = if-else (ltb w.fill n) (eqb w.next w.fill) (ltb w.next n)

-- "The first fill places are filled, the rest hold 0"
abbrev pub places_right : ℕ → List ℕ → Bool
places_right fill ts = none_zero (take fill ts) && all_zero (drop fill ts)

-- a window that is not n long, "a fill out of range, a next place not as said, a 0 in a filled place or none in an unfilled one, or a kept sum that is not the
-- window's" is not right
unfoldable pub window_right : ℕ → Window → List ℕ → Bool
window_right n w ts = eqb (length ts) n && (leb w.fill n && (next_right n w && (places_right w.fill ts && eqb w.sum (sum_of ts))))

-- the place behind the given one, round below n
abbrev pub place_after : ℕ → ℕ → ℕ
place_after n at = if-else (ltb (at + 1) n) (at + 1) 0

-- a time takes the next place of a window, and what stood there is taken off the sum
unfoldable pub window_after : ℕ → Window → List ℕ → ℕ → Window
window_after n w ts t =
    record {
      fill = min (w.fill + 1) n;
      next = place_after n w.next;
      sum = w.sum - get_or ts w.next 0 + t;
    }
