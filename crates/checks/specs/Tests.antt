-- Tests of the elements of a list, and what the tests of lists of frames and of their pages find out.
-- Assumes nothing.
use Rattle.std.specs.Prelude.{◌≡◌, Bool, true, false, not, ◌&&◌, ◌||◌, List, ℕ, zero, suc, ◌+◌, ◌≤◌, ◌<◌, eqb, leb, get_or, set}
use Rattle.std.specs.List.{list_all, fold}
use Rattle.order.specs.Count.{count}
use Rattle.order.specs.Find.{has_before}

-- r says whether A holds
abbrev pub Decides : Bool → Type 0 → Type 0
Decides true A = A
Decides false A = A → ⊥

-- ---- tests of the elements of a list

-- every element passes
abbrev pub every : {A : Type 0} → (A → Bool) → List A → Bool
every t xs = list_all t xs

-- every number below n passes
abbrev pub every_below : ℕ → (ℕ → Bool) → Bool
every_below zero t = true
every_below (suc n) t = t n && every_below n t

abbrev pub is_zero : ℕ → Bool
is_zero x = eqb x 0

abbrev pub is_at_most : ℕ → ℕ → Bool
is_at_most top x = leb x top

-- a mark at each place that the list names
abbrev pub marked : List ℕ → List Bool → List Bool
marked fs marks = fold (λ m f. set m f true) marks fs

-- every frame of a list has page 0
abbrev pub blank_all : List ℕ → List ℕ → Bool
blank_all page fs = every (λ f. eqb (get_or page f 0) 0) fs

-- no page but 0 stands twice in the first n places
abbrev pub nonzero_apart : List ℕ → ℕ → Bool
nonzero_apart page zero = true
nonzero_apart page (suc n) = nonzero_apart page n && (eqb (get_or page n 0) 0 || not (has_before page n (get_or page n 0)))

-- ---- what is found out

-- every frame stands in exactly one of the lists, and nothing else does
pub record FramesRight (b : ℕ) (E C D : List ℕ) : Type 0 where
  pub once : (f : ℕ) → f < b → count f E + (count f C + count f D) ≡ 1
  pub others : (f : ℕ) → b ≤ f → count f E + (count f C + count f D) ≡ 0

-- the empty frames are frames, and none stands twice
pub record EmptyRight (b : ℕ) (E : List ℕ) : Type 0 where
  pub once : (f : ℕ) → count f E ≤ 1
  pub others : (f : ℕ) → b ≤ f → count f E ≡ 0

-- the page of an empty frame is 0, that of any other is below N and in no other such frame
pub record PagesRight (b N : ℕ) (E page : List ℕ) : Type 0 where
  pub blank : (f : ℕ) → 1 ≤ count f E → get_or page f 0 ≡ 0
  pub inside : (f : ℕ) → f < b → count f E ≡ 0 → get_or page f 0 < N
  pub apart : (f g : ℕ) → f < b → g < b → count f E ≡ 0 → count g E ≡ 0 → get_or page f 0 ≡ get_or page g 0 → f ≡ g
