-- Soundness as a test that computes, line by line beside `Good`, `Blank` and `Sound`; `sound_test-decides` says that it is true of the sound pools and no
-- other. Assumes nothing.
use Rattle.std.specs.Prelude.{◌≡◌, Bool, true, not, ◌&&◌, ◌||◌, List, [], ◌∷◌, ◌++◌, ℕ, ◌+◌, ◌*◌, ◌≤◌, eqb, leb, ltb, length, drop}
use Rattle.order.specs.Places.{places}
use Rattle.order.specs.Count.{count}
use Rattle.checks.specs.Tests.{every, every_below, is_zero}
use Rattle.model.specs.Numbers.{in_limits, unit, most_served}
use Rattle.model.specs.State.{State, page_in, number_in, resident, standing}
use Rattle.pool.specs.Pool.{state_of}
use Rattle.pool.specs.declared.Pool.{Pool}

-- `once` and `others`
abbrev pub frames_test : State → Bool
frames_test s =
    every_below s.numbers.b (λ f. eqb (standing s.lists f) 1)
    && every (λ f. ltb f s.numbers.b) (s.lists.E ++ (s.lists.C ++ s.lists.D))

-- `paged`, `inside` and `apart`
abbrev pub apart_test : State → ℕ → ℕ → Bool
apart_test s f g = (eqb (resident s.lists f) 0 || eqb (resident s.lists g) 0) || not (eqb (page_in s f) (page_in s g))

abbrev pub pages_test : State → Bool
pages_test s =
    eqb (length s.page) s.numbers.b
    && (every_below s.numbers.b (λ f. eqb (resident s.lists f) 0 || ltb (page_in s f) s.numbers.N)
    && every_below s.numbers.b (λ f. every_below f (λ g. apart_test s f g)))

-- `each`, `ordered` and `blank`
abbrev pub falls_test : State → List ℕ → Bool
falls_test s [] = true
falls_test s (f ∷ fs) = every (λ g. ltb (number_in s g) (number_in s f)) fs && falls_test s fs

abbrev pub ordered_test : State → Bool
ordered_test s =
    (falls_test s s.lists.C && falls_test s s.lists.D)
    && (every (λ f. every (λ g. not (eqb (number_in s f) (number_in s g))) s.lists.D) s.lists.C
    && every (λ f. leb 1 (number_in s f) && leb (number_in s f) s.counts.served) (s.lists.C ++ s.lists.D))

abbrev pub numbered_test : State → Bool
numbered_test s = eqb (length s.reference) s.numbers.b && (ordered_test s && every (λ f. eqb (number_in s f) 0) s.lists.E)

-- `target_high`, `served_high`, `reads_high` and `writes_high`
abbrev pub counts_test : State → Bool
counts_test s =
    leb s.target (s.numbers.b * unit)
    && (leb s.counts.served most_served
    && (leb s.counts.nR s.counts.served && leb s.counts.nW (s.numbers.b * s.counts.served)))

abbrev pub good_test : State → Bool
good_test s = in_limits s.numbers && (frames_test s && (pages_test s && (numbered_test s && counts_test s)))

abbrev pub blank_test : State → Bool
blank_test s = every_below s.numbers.b (λ f. eqb (count f s.lists.E) 0 || eqb (page_in s f) 0)

-- the first n of 64 places are a list's, and the others hold 0
abbrev pub in_places_test : List ℕ → ℕ → Bool
in_places_test list n = eqb (length list) places && (leb n places && every is_zero (drop n list))

abbrev pub whole_test : Pool → Bool
whole_test p =
    in_places_test p.lists.empty.places p.lists.empty.len
    && (in_places_test p.lists.clean.places p.lists.clean.len
    && (in_places_test p.lists.dirty.places p.lists.dirty.len && (in_places_test p.page p.numbers.frames && in_places_test p.reference p.numbers.frames)))

unfoldable pub sound_test : Pool → Bool
sound_test p = whole_test p && (good_test (state_of p) && blank_test (state_of p))

-- ---- what parts of the test find out

pub record CountsRight (b target served nR nW : ℕ) : Type 0 where
  pub target_high : target ≤ b * unit
  pub served_high : served ≤ most_served
  pub reads_high : nR ≤ served
  pub writes_high : nW ≤ b * served

abbrev pub CountsIn : Pool → Type 0
CountsIn p = CountsRight p.numbers.frames p.target p.served p.reads.0 p.writes.0

-- the lengths of the lists add up to the number of frames
abbrev pub LengthsIn : Pool → Type 0
LengthsIn p = p.lists.empty.len + (p.lists.clean.len + p.lists.dirty.len) ≡ p.numbers.frames

-- each list has its 64 places, and so have the pages and the reference numbers
pub record PlacesIn (p : Pool) : Type 0 where
  pub empty : length p.lists.empty.places ≡ places
  pub clean : length p.lists.clean.places ≡ places
  pub dirty : length p.lists.dirty.places ≡ places
  pub pages : length p.page ≡ places
  pub references : length p.reference ≡ places

-- the places past the ends hold 0
pub record TailsRight (p : Pool) : Type 0 where
  pub empty : every is_zero (drop p.lists.empty.len p.lists.empty.places) ≡ true
  pub clean : every is_zero (drop p.lists.clean.len p.lists.clean.places) ≡ true
  pub dirty : every is_zero (drop p.lists.dirty.len p.lists.dirty.places) ≡ true
  pub pages : every is_zero (drop p.numbers.frames p.page) ≡ true
  pub references : every is_zero (drop p.numbers.frames p.reference) ≡ true
