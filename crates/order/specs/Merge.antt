-- Frames by their numbers: `reference` has a number for each frame, the larger the later it was last referenced.
--     Under     every frame of a list has a number below n
--     Falls     numbers fall down a list
--     merged    the frames of two lists, the latest first; `takes_first` says which list gives the next one
--     Ordered   two lists by falling numbers, none of them twice
-- Assumes nothing.
use Rattle.std.specs.Prelude.{◌≢◌, Bool, true, false, cond as if-else, List, [], ◌∷◌, ℕ, ◌+◌, ◌≤◌, ◌<◌, get_or, ltb}
use Rattle.order.specs.Count.{count}

abbrev pub Under : List ℕ → ℕ → List ℕ → Type 0
Under reference n fs = (f : ℕ) → 1 ≤ count f fs → get_or reference f 0 < n

-- the number of a frame is above those of all behind it
abbrev pub Falls : List ℕ → List ℕ → Type 0
Falls reference [] = Unit {0}
Falls reference (f ∷ fs) = Under reference (get_or reference f 0) fs × Falls reference fs

-- which list gives the next frame
abbrev pub takes_first : List ℕ → List ℕ → List ℕ → Bool
takes_first reference [] ys = false
takes_first reference (x ∷ xs) [] = true
takes_first reference (x ∷ xs) (y ∷ ys) = ltb (get_or reference y 0) (get_or reference x 0)

-- "merges both lists, latest reference first"
abbrev pub merged : List ℕ → List ℕ → List ℕ → List ℕ
merged reference [] ys = ys
merged reference (x ∷ xs) [] = x ∷ xs
merged reference (x ∷ xs) (y ∷ ys) =
    if-else (takes_first reference (x ∷ xs) (y ∷ ys)) (x ∷ merged reference xs (y ∷ ys)) (y ∷ merged reference (x ∷ xs) ys)

-- "falling numbers down each list, each 1 to" top, "none twice": within a list the fall says so
pub record Ordered (reference : List ℕ) (top : ℕ) (xs ys : List ℕ) : Type 0 where
  pub first_falls : Falls reference xs
  pub second_falls : Falls reference ys
  pub apart : (f g : ℕ) → 1 ≤ count f xs → 1 ≤ count g ys → get_or reference f 0 ≢ get_or reference g 0
  pub low : (f : ℕ) → 1 ≤ count f xs + count f ys → 1 ≤ get_or reference f 0
  pub high : (f : ℕ) → 1 ≤ count f xs + count f ys → get_or reference f 0 ≤ top
