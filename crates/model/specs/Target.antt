-- The target in units, and what an adjustment does to it; the exact target as a fraction, and what the same adjustment does to that.
-- Assumes nothing.
use Rattle.std.specs.Prelude.{Bool, List, [], ◌∷◌, ℕ, ◌+◌, ◌*◌, ◌-◌, ◌/◌, ◌≤◌, ◌<◌, min, ltb}
use Rattle.model.specs.Numbers.{Numbers, unit}

-- what a physical read and a physical write cost at the time of a call
pub record Costs : Type 0 where
  pub r : ℕ
  pub w : ℕ

abbrev pub costs : ℕ → ℕ → Costs
costs r w = record { r = r; w = w }

-- those that a pool was opened with
abbrev pub costs_of : Numbers → Costs
costs_of n = costs n.r n.w

-- costs in force may be as high as this: 32,768 times of 65,535
abbrev pub most_cost : ℕ
most_cost = 2147450880

-- an adjustment, with the costs in force and |C| and |D| before the page moves: up by a read hit in C, down by a write hit in D
pub data Adjustment : Type 0 where
  up : Costs → ℕ → ℕ → Adjustment
  down : Costs → ℕ → ℕ → Adjustment

-- its exact step in pages: r·|D| over (r+w)·|C|, or w·|C| over (r+w)·|D|
abbrev pub step_num : Adjustment → ℕ
step_num (up k c d) = k.r * d
step_num (down k c d) = k.w * c

abbrev pub step_den : Adjustment → ℕ
step_den (up k c d) = (k.r + k.w) * c
step_den (down k c d) = (k.r + k.w) * d

-- "to the nearest unit, a half upwards": half a unit more, rounded down
abbrev pub rounded : ℕ → ℕ → ℕ
rounded n d = (2 * n + d) / (2 * d)

-- and what that means: q is the whole number nearest to n / d, and where two are as near the upper one
pub record Nearest (n d q : ℕ) : Type 0 where
  pub over : 2 * (q * d) ≤ 2 * n + d
  pub under : 2 * n < 2 * (q * d) + d

-- ---- the pool's target, for a way to round

abbrev pub step_units : (ℕ → ℕ → ℕ) → Adjustment → ℕ
step_units round a = round (unit * step_num a) (step_den a)

-- at most b × 65,536, at least 0
abbrev pub adjust_by : (ℕ → ℕ → ℕ) → ℕ → ℕ → Adjustment → ℕ
adjust_by round b τ (up k c d) = min (τ + step_units round (up k c d)) (b * unit)
adjust_by round b τ (down k c d) = τ - step_units round (down k c d)

abbrev pub adjust : ℕ → ℕ → Adjustment → ℕ
adjust = adjust_by rounded

abbrev pub adjust_all_by : (ℕ → ℕ → ℕ) → ℕ → ℕ → List Adjustment → ℕ
adjust_all_by round b τ [] = τ
adjust_all_by round b τ (a ∷ as') = adjust_all_by round b (adjust_by round b τ a) as'

-- ---- the exact target, a numerator over a denominator

pub record Exact : Type 0 where
  pub num : ℕ
  pub den : ℕ

abbrev pub exact_zero : Exact
exact_zero = record { num = 0; den = 1 }

-- unrounded, and held between 0 and b
abbrev pub exact_step : ℕ → Exact → Adjustment → Exact
exact_step b x (up k c d) =
    record {
      num = min (x.num * step_den (up k c d) + step_num (up k c d) * x.den) (b * (x.den * step_den (up k c d)));
      den = x.den * step_den (up k c d);
    }
exact_step b x (down k c d) =
    record {
      num = x.num * step_den (down k c d) - step_num (down k c d) * x.den;
      den = x.den * step_den (down k c d);
    }

abbrev pub exact_all : ℕ → Exact → List Adjustment → Exact
exact_all b x [] = x
exact_all b x (a ∷ as') = exact_all b (exact_step b x a) as'

-- ---- how far apart they are

-- a way to round is within e halves of a unit of the quotient
pub record RoundsWithin (e : ℕ) (round : ℕ → ℕ → ℕ) : Type 0 where
  pub over : (n d : ℕ) → 0 < d → 2 * (round n d * d) ≤ 2 * n + e * d
  pub under : (n d : ℕ) → 0 < d → 2 * n ≤ 2 * (round n d * d) + e * d

-- the nearest unit is at most half a unit away
abbrev pub rounding_error : ℕ
rounding_error = 1

-- "twice the gap is at most k units": the gap between τ / 65,536 and num / den, by cross-multiplying
pub record Near (k τ : ℕ) (x : Exact) : Type 0 where
  pub above : 2 * (τ * x.den) ≤ 2 * (unit * x.num) + k * x.den
  pub below : 2 * (unit * x.num) ≤ 2 * (τ * x.den) + k * x.den

-- the exact target is a fraction from 0 to b
pub record Bounded (b : ℕ) (x : Exact) : Type 0 where
  pub positive : 0 < x.den
  pub most : x.num ≤ b * x.den

-- a clean list of c pages is further than that from the exact target, above it or below it: twice their gap is more than k units
pub data FurtherThan (k c : ℕ) (x : Exact) : Type 0 where
  longer : 2 * (unit * x.num) + k * x.den < 2 * (unit * (c * x.den)) → FurtherThan k c x
  shorter : 2 * (unit * (c * x.den)) + k * x.den < 2 * (unit * x.num) → FurtherThan k c x

-- "It picks C if |C| is above it, else D."
abbrev pub above_target : ℕ → ℕ → Bool
above_target c τ = ltb τ (c * unit)

abbrev pub above_exact : ℕ → Exact → Bool
above_exact c x = ltb x.num (c * x.den)
