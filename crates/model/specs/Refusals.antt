-- When something is refused: the scope's table, in the scope's order.
-- Assumes nothing.
use Rattle.std.specs.Prelude.{◌≡◌, Bool, true, false, not, ◌&&◌, List, [], ◌∷◌, ℕ, ◌+◌, ◌*◌, ◌<◌, leb, ltb, eqb, Ok, Err}
use Rattle.pages.specs.Memory.{sizes_match}
use Rattle.model.specs.Numbers.{Numbers, in_limits, meant, most_served}
use Rattle.model.specs.declared.Refusal.{Refusal}
use Rattle.model.specs.declared.Refusal.TheVariants.{OutOfLimits, BrokenPool, BrokenWindows, WrongMemory, NoSuchPage, WrongBytes, Spent}
use Rattle.model.specs.Words.{Verdict}

pub record Row : Type 0 where
  pub when : Bool
  pub why : Refusal

abbrev pub verdict_by : Bool → Refusal → Verdict → Verdict
verdict_by true x later = Err x
verdict_by false x later = later

-- the first row whose condition holds
abbrev pub first : List Row → Verdict
first [] = Ok tt
first (x ∷ xs) = verdict_by x.when x.why (first xs)

-- y is given by the first row whose condition holds: its own does, and none before it
pub data GivenBy (y : Refusal) : List Row → Type 0 where
  here : {x : Row} {xs : List Row} → x.when ≡ true → x.why ≡ y → GivenBy y (x ∷ xs)
  later : {x : Row} {xs : List Row} → x.when ≡ false → GivenBy y xs → GivenBy y (x ∷ xs)

-- ---- the conditions

abbrev pub out_of_limits : Numbers → Row
out_of_limits n = record { when = not (in_limits n); why = OutOfLimits }

abbrev pub broken_pool : Bool → Row
broken_pool sound = record { when = not sound; why = BrokenPool }

abbrev pub broken_windows : Bool → Row
broken_windows fit = record { when = not fit; why = BrokenWindows }

-- m bytes of frame memory and n of store are lent
abbrev pub wrong_memory : Numbers → ℕ → ℕ → Row
wrong_memory a m n = record { when = not (sizes_match a.P a.b a.N m n); why = WrongMemory }

abbrev pub no_such_page : Numbers → ℕ → Row
no_such_page a page = record { when = leb a.N page; why = NoSuchPage }

abbrev pub wrong_bytes : Bool → Row
wrong_bytes fit = record { when = not fit; why = WrongBytes }

abbrev pub spent : ℕ → Row
spent served = record { when = leb most_served served; why = Spent }

-- the output of a read is a page; a write has bytes, and they end within the page
abbrev pub output_fits : ℕ → ℕ → Bool
output_fits P n = eqb n P

abbrev pub stretch_fits : ℕ → ℕ → ℕ → Bool
stretch_fits P start n = ltb 0 n && leb (start + n) P

-- ---- the order in each call

abbrev pub open_rows : Numbers → List Row
open_rows n = out_of_limits (meant n) ∷ []

-- of a read or a write, behind 2: whether the kept numbers fit, if it takes any ("13, after 2"), the pool's numbers and served calls, the bytes lent, the page,
-- whether the caller's bytes fit
abbrev pub request_rows : Bool → Numbers → ℕ → ℕ → ℕ → ℕ → Bool → List Row
request_rows timed a served m n page fit = broken_windows timed ∷ wrong_memory a m n ∷ no_such_page a page ∷ wrong_bytes fit ∷ spent served ∷ []

abbrev pub flush_rows : Numbers → ℕ → ℕ → ℕ → List Row
flush_rows a served m n = wrong_memory a m n ∷ spent served ∷ []

-- of a drop: "Refusals: order 2, 3, 4, 6"
abbrev pub drop_rows : Numbers → ℕ → ℕ → ℕ → ℕ → List Row
drop_rows a served m n page = wrong_memory a m n ∷ no_such_page a page ∷ spent served ∷ []

unfoldable pub open_verdict : Numbers → Verdict
open_verdict n = first (open_rows n)

unfoldable pub request_verdict : Bool → Bool → Numbers → ℕ → ℕ → ℕ → ℕ → Bool → Verdict
request_verdict sound timed a served m n page fit = first (broken_pool sound ∷ request_rows timed a served m n page fit)

unfoldable pub flush_verdict : Bool → Numbers → ℕ → ℕ → ℕ → Verdict
flush_verdict sound a served m n = first (broken_pool sound ∷ flush_rows a served m n)

unfoldable pub drop_verdict : Bool → Numbers → ℕ → ℕ → ℕ → ℕ → Verdict
drop_verdict sound a served m n page = first (broken_pool sound ∷ drop_rows a served m n page)

-- ---- what a read, a write, a flush or a drop that is served may count on: the lent memory is of the right size, and a call more may be served

pub record Ready (a : Numbers) (served m n : ℕ) : Type 0 where
  pub frames : m ≡ a.b * a.P
  pub store : n ≡ a.N * a.P
  pub more : served < most_served
