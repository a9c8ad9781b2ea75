-- Pages in a list of bytes: page p of P bytes stands at p * P.
--     splice at ys xs      xs with ys in the place of as many elements, from place `at` on
--     page_of P p xs        the bytes of page p
--     with_page P p ys xs   xs with ys as page p, and every other byte as it was
--     InPages P p n        page p lies within n bytes
-- Assumes nothing.
use Rattle.std.specs.Prelude.{List, ◌++◌, ℕ, ◌+◌, ◌*◌, ◌≤◌, length, take, drop}

unfoldable pub splice : ℕ → List ℕ → List ℕ → List ℕ
splice at ys xs = take at xs ++ (ys ++ drop (length ys) (drop at xs))

unfoldable pub page_of : ℕ → ℕ → List ℕ → List ℕ
page_of P p xs = take P (drop (p * P) xs)

unfoldable pub with_page : ℕ → ℕ → List ℕ → List ℕ → List ℕ
with_page P p ys xs = splice (p * P) ys xs

abbrev pub InPages : ℕ → ℕ → ℕ → Type 0
InPages P p n = p * P + P ≤ n
