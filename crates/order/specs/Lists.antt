-- Plain lists of frame numbers, the most recently used first.
--     remove_at i xs       xs without what stands at place i
--     insert_at i x xs     xs with x put in at place i
--     move_to_front i xs    what stands at place i goes to the front
--     down_from n          the numbers below n, the largest first
-- Assumes nothing.
use Rattle.std.specs.Prelude.{List, [], ◌∷◌, ℕ, zero, suc, get_or}

abbrev pub remove_at : ℕ → List ℕ → List ℕ
remove_at i [] = []
remove_at zero (x ∷ xs) = xs
remove_at (suc i) (x ∷ xs) = x ∷ remove_at i xs

abbrev pub insert_at : ℕ → ℕ → List ℕ → List ℕ
insert_at zero x xs = x ∷ xs
insert_at (suc i) x [] = x ∷ []
insert_at (suc i) x (y ∷ ys) = y ∷ insert_at i x ys

abbrev pub move_to_front : ℕ → List ℕ → List ℕ
move_to_front i xs = get_or xs i 0 ∷ remove_at i xs

abbrev pub down_from : ℕ → List ℕ
down_from zero = []
down_from (suc n) = n ∷ down_from n
