-- A list in 64 places: the list first, and 0 in each place past its end.
-- Assumes nothing.
use Rattle.std.specs.Prelude.{◌≡◌, List, ◌++◌, ℕ, ◌-◌, ◌≤◌, ◌<◌, length, take, replicate, All}
use Rattle.order.specs.declared.FrameList.{FrameList}

abbrev pub places : ℕ
places = 64

abbrev pub pad : List ℕ → List ℕ
pad xs = xs ++ replicate (places - length xs) 0

-- the first n of the places hold the list xs, and the others 0
pub record InPlaces (list : List ℕ) (n : ℕ) (xs : List ℕ) : Type 0 where
  pub is : list ≡ pad xs
  pub len : length xs ≡ n
  pub fits : n ≤ places

-- ---- the list that the code holds, whatever stands in it

-- its frames, and the places of a list of frames
abbrev pub listed : FrameList → List ℕ
listed l = take l.len l.places

abbrev pub list_of : List ℕ → FrameList
list_of xs = record { places = pad xs; len = length xs }

-- its length is one, and each of its frames has a place
pub record Listed (l : FrameList) : Type 0 where
  pub fits : l.len ≤ places
  pub low : All (λ f. f < places) (listed l)
