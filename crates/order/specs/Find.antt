-- Where in a list of frames the first one stands that has a page, and whether a page stands at all among those of the first frames.
-- Assumes nothing.
use Rattle.std.specs.Prelude.{Bool, false, ◌||◌, cond as if-else, List, [], ◌∷◌, ℕ, zero, suc, Option, Some, None, get_or, eqb}

-- the place, counted from k, of the first frame of fs whose page is `wanted`; `page` has the page of each frame
abbrev pub find_from : ℕ → List ℕ → ℕ → List ℕ → Option ℕ
find_from k page wanted [] = None
find_from k page wanted (f ∷ fs) = if-else (eqb (get_or page f 0) wanted) (Some k) (find_from (suc k) page wanted fs)

-- q stands in the first n places
abbrev pub has_before : List ℕ → ℕ → ℕ → Bool
has_before page zero q = false
has_before page (suc n) q = has_before page n q || eqb (get_or page n 0) q
