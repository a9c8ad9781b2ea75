-- Numbers as bytes, the low byte first, for any width.
--     bytes_of w x          x in w bytes; what does not fit is left out
--     number_of bs          the number that bytes spell
--     bytes_of_all w xs      each number of a list in w bytes, one after the other
--     numbers_of w n bs     the n numbers of w bytes each that bytes spell
-- Assumes nothing.
use Rattle.std.specs.Prelude.{List, [], ◌∷◌, ◌++◌, ℕ, zero, suc, ◌+◌, ◌*◌, ◌/◌, ◌%◌, ◌<◌, take, drop, get_or}

unfoldable pub bytes_of : ℕ → ℕ → List ℕ
bytes_of zero x = []
bytes_of (suc w) x = x % 256 ∷ bytes_of w (x / 256)

unfoldable pub number_of : List ℕ → ℕ
number_of [] = 0
number_of (b ∷ bs) = number_of bs * 256 + b

unfoldable pub bytes_of_all : ℕ → List ℕ → List ℕ
bytes_of_all w [] = []
bytes_of_all w (x ∷ xs) = bytes_of w x ++ bytes_of_all w xs

unfoldable pub numbers_of : ℕ → ℕ → List ℕ → List ℕ
numbers_of w zero bs = []
numbers_of w (suc n) bs = number_of (take w bs) ∷ numbers_of w n (drop w bs)

-- each element is below n: of bytes, below 256; of numbers of w bytes, below 256 ^ w
unfoldable pub AllBelow : ℕ → List ℕ → Type 0
AllBelow n xs = (i : ℕ) → get_or xs i 0 < n
