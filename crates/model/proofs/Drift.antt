-- The pool's target stays near the exact one. One adjustment rounds once, and rounding is off by at most e half-units, so k adjustments are off by
-- at most k · e; holding both between 0 and b brings them no further apart. The way to round and its e are parameters.
--     drift            after k adjustments, for any way to round
--     rounded-nearest  the way that the pool rounds is to the nearest unit, a half upwards; and that is one number (`nearest-one`)
--     target-near      so twice the gap is at most k units
--     exact-bounded    the exact target is a fraction from 0 to b
--     near-least       no smaller bound holds: steps of 1.5 units, each rounded to 2, reach it (`near-reached`)
--     victim-same      a clean list further than that from the exact target is on the same side of both
-- Assumes nothing.
use mathlib.Core.Path.{◌≡◌, sym, ◌∙◌, ap, subst}
use mathlib.Core.List.{List, [], ◌∷◌}
use Prim.Native.Nat.{ℕ, zero, suc, ◌+◌, ◌*◌, ◌-◌, ◌≤◌, ◌<◌, min}
use native.Mathlib.Nat.{mul-le-mul_right, mul-pos, zero-add, min-le_right, mul-sub, mul_comm}
use native.Mathlib.Nat.{min-eq_left, min-eq_right, lt_of_mul-lt-mul_right, div-mul-le_self, lt-div-mul-add, mul-one}
use native.Mathlib.Decide.{dec_le}
use native.Mathlib.Omega.{arith}
use lib.ListN.{length, replicate}
use borrow.Author.Tests.{lt-ltb, le-ltb}
use Rattle.model.specs.Numbers.{unit}
use Rattle.model.specs.Target.{Adjustment, up, down, step_den, rounded, step_units, adjust_by, adjust_all_by, Exact, exact_zero, exact_step}
use Rattle.model.specs.Target.{exact_all, RoundsWithin, rounding_error, Nearest, Near, Bounded, FurtherThan, longer, shorter, above_target, above_exact}
use Rattle.model.specs.Request.{victim_by}
use Rattle.model.specs.Table.{half_costs}

min-mul : (a b k : ℕ) → min a b * k ≡ min (a * k) (b * k)
min-mul a b k = go (dec_le a b)
  where
    go : Dec (a ≤ b) → min a b * k ≡ min (a * k) (b * k)
    go (yes h) = rw (min-eq_left h) (sym (min-eq_left (mul-le-mul_right k h)))
    go (no h) = let l : b ≤ a = omega arith in rw (min-eq_right l) (sym (min-eq_right (mul-le-mul_right k l)))

sub-mul : (a b k : ℕ) → (a - b) * k ≡ a * k - b * k
sub-mul a b k = rw (mul_comm (a - b) k, mul_comm a k, mul_comm b k) (mul-sub k a b)

-- the targets are τ and n / d, twice their gap at most g; the exact one moves by a / c, the other by q
module _ (b e g τ n d a c q : ℕ) (above : 2 * (τ * d) ≤ 2 * (unit * n) + g * d) (below : 2 * (unit * n) ≤ 2 * (τ * d) + g * d)
    (over : 2 * (q * c) ≤ 2 * (unit * a) + e * c) (under : 2 * (unit * a) ≤ 2 * (q * c) + e * c) where
  near-up : Near (g + e) (min (τ + q) (b * unit)) (record { num = min (n * c + a * d) (b * (d * c)); den = d * c })
  near-up =
      record {
        above = rw (min-mul (τ + q) (b * unit) (d * c)) (omega (arith, mul-le-mul_right c above, mul-le-mul_right d over));
        below = rw (min-mul (τ + q) (b * unit) (d * c)) (omega (arith, mul-le-mul_right c below, mul-le-mul_right d under));
      }

  near-down : Near (g + e) (τ - q) (record { num = n * c - a * d; den = d * c })
  near-down =
      record {
        above = rw (sub-mul τ q (d * c)) (omega (arith, mul-le-mul_right c above, mul-le-mul_right d under));
        below = rw (sub-mul τ q (d * c)) (omega (arith, mul-le-mul_right c below, mul-le-mul_right d over));
      }

-- every adjustment divides by something
abbrev pub AllDivide : List Adjustment → Type 0
AllDivide [] = Unit {0}
AllDivide (a ∷ as') = (0 < step_den a) × AllDivide as'

module _ (b e : ℕ) (round : ℕ → ℕ → ℕ) (ok : RoundsWithin e round) where
  near-step : (g τ : ℕ) (x : Exact) (a : Adjustment) → 0 < step_den a → Near g τ x → Near (g + e) (adjust_by round b τ a) (exact_step b x a)
  near-step g τ x (up k c d) p near =
      near-up b e g τ x.num x.den (k.r * d) ((k.r + k.w) * c) (step_units round (up k c d))
      near.above near.below (ok.over _ _ p) (ok.under _ _ p)
  near-step g τ x (down k c d) p near =
      near-down b e g τ x.num x.den (k.w * c) ((k.r + k.w) * d) (step_units round (down k c d))
      near.above near.below (ok.over _ _ p) (ok.under _ _ p)

  near-steps : (l : List Adjustment) (g τ : ℕ) (x : Exact) → AllDivide l → Near g τ x → Near (g + length l * e) (adjust_all_by round b τ l) (exact_all b x l)
  near-steps [] g τ x p near = subst (λ k. Near k τ x) (omega arith) near
  near-steps (a ∷ l) g τ x p near =
      subst (λ k. Near k (adjust_all_by round b (adjust_by round b τ a) l) (exact_all b (exact_step b x a) l)) (omega arith)
      (near-steps l (g + e) (adjust_by round b τ a) (exact_step b x a) p.1 (near-step g τ x a p.0 near))

  -- from opening, where both are 0
  pub drift : (l : List Adjustment) → AllDivide l → Near (length l * e) (adjust_all_by round b 0 l) (exact_all b exact_zero l)
  drift l p = rw zero-add at (near-steps l 0 0 exact_zero p (record { above = omega arith; below = omega arith }))

-- ---- the way that the pool rounds

pub rounded-nearest : (n d : ℕ) → 0 < d → Nearest n d (rounded n d)
rounded-nearest n d h =
    let p : 0 < 2 * d = omega arith in
    record { over = omega (arith, div-mul-le_self (2 * n + d) (2 * d)); under = omega (arith, lt-div-mul-add {a = 2 * n + d} p) }

nearest-most : (n d p q : ℕ) → Nearest n d p → Nearest n d q → p ≤ q
nearest-most n d p q x y = let l : p < q + 1 = lt_of_mul-lt-mul_right d (omega (arith, x.over, y.under)) in omega arith

pub nearest-one : (n d p q : ℕ) → Nearest n d p → Nearest n d q → p ≡ q
nearest-one n d p q x y = omega (arith, nearest-most n d p q x y, nearest-most n d q p y x)

pub rounded-within : RoundsWithin rounding_error rounded
rounded-within =
    record {
      over = λ n d h. omega (arith, (rounded-nearest n d h).over);
      under = λ n d h. omega (arith, (rounded-nearest n d h).under);
    }

pub target-near : (b : ℕ) (l : List Adjustment) → AllDivide l → Near (length l) (adjust_all_by rounded b 0 l) (exact_all b exact_zero l)
target-near b l p = rw mul-one at (drift b rounding_error rounded rounded-within l p)

-- ---- the exact target is bounded

step-bounded : (b : ℕ) (x : Exact) (a : Adjustment) → 0 < step_den a → Bounded b x → Bounded b (exact_step b x a)
step-bounded b x (up k c d) p h = record { positive = mul-pos h.positive p; most = min-le_right _ _ }
step-bounded b x (down k c d) p h =
    record { positive = mul-pos h.positive p; most = omega (arith, mul-le-mul_right ((k.r + k.w) * d) h.most) }

steps-bounded : (b : ℕ) (l : List Adjustment) (x : Exact) → AllDivide l → Bounded b x → Bounded b (exact_all b x l)
steps-bounded b [] x p h = h
steps-bounded b (a ∷ l) x p h = steps-bounded b l (exact_step b x a) p.1 (step-bounded b x a p.0 h)

pub exact-bounded : (b : ℕ) (l : List Adjustment) → AllDivide l → Bounded b (exact_all b exact_zero l)
exact-bounded b l p = steps-bounded b l exact_zero p (record { positive = omega arith; most = omega arith })

-- ---- the bound is reached, so no smaller one holds

-- k steps, each of 3 over 131,072 of a page: 1.5 units, rounded 2
abbrev pub halves : ℕ → List Adjustment
halves k = replicate k (up half_costs 1 1)

-- below its top the exact target is not held
reached-step : (b g τ n d : ℕ) → τ + 2 ≤ b * unit → 2 * (τ * d) ≡ 2 * (unit * n) + g * d
    → min (n * 131072 + 3 * d) (b * (d * 131072)) ≡ n * 131072 + 3 * d
reached-step b g τ n d h e = min-eq_left (omega (arith, mul-le-mul_right d h))

module _ (b : ℕ) where
  reached-steps : (k g τ : ℕ) (x : Exact) → τ + 2 * k ≤ b * unit → 2 * (τ * x.den) ≡ 2 * (unit * x.num) + g * x.den
      → let y = exact_all b x (halves k) in
      2 * (adjust_all_by rounded b τ (halves k) * y.den) ≡ 2 * (unit * y.num) + (g + k) * y.den
  reached-steps zero g τ x h e = omega (arith, e)
  reached-steps (suc k) g τ x h e =
      let l : τ + 2 ≤ b * unit = omega arith in
      let next : 2 * (min (τ + 2) (b * unit) * (x.den * 131072)) ≡ 2 * (unit * (exact_step b x (up half_costs 1 1)).num) + (g + 1) * (x.den * 131072) =
      rw (min-eq_left l, reached-step b g τ x.num x.den l e) (omega (arith, e)) in
      omega (arith, reached-steps k (g + 1) (min (τ + 2) (b * unit)) (exact_step b x (up half_costs 1 1)) (omega arith) next)

  pub near-reached : (k : ℕ) → 2 * k ≤ b * unit
      → let x = exact_all b exact_zero (halves k) in
      2 * (adjust_all_by rounded b 0 (halves k) * x.den) ≡ 2 * (unit * x.num) + k * x.den
  near-reached k h = rw zero-add at (reached-steps k 0 0 exact_zero (omega arith) (omega arith))

  halves-divide : (k : ℕ) → AllDivide (halves k)
  halves-divide zero = tt
  halves-divide (suc k) = (omega arith, halves-divide k)

  pub near-least : (k g : ℕ) → 2 * k ≤ b * unit → Near g (adjust_all_by rounded b 0 (halves k)) (exact_all b exact_zero (halves k)) → k ≤ g
  near-least k g h near =
      let x = exact_all b exact_zero (halves k) in
      let p : 0 < x.den = (exact-bounded b (halves k) (halves-divide k)).positive in
      let l : k < g + 1 = lt_of_mul-lt-mul_right x.den (omega (arith, near-reached k h, near.above, p)) in
      omega arith

-- ---- the victim

-- a list that is further from the exact target than the targets are apart is on the same side of both
pub above-same : (k τ c : ℕ) (x : Exact) → Near k τ x → FurtherThan k c x → above_target c τ ≡ above_exact c x
above-same k τ c x near (longer h) =
    let l : τ < c * unit = lt_of_mul-lt-mul_right x.den (omega (arith, near.above)) in
    lt-ltb τ (c * unit) l ∙ sym (lt-ltb x.num (c * x.den) (omega arith))
above-same k τ c x near (shorter h) =
    let l : c * unit < τ = lt_of_mul-lt-mul_right x.den (omega (arith, near.below)) in
    le-ltb τ (c * unit) (omega arith) ∙ sym (le-ltb x.num (c * x.den) (omega arith))

pub victim-same : (k τ c d : ℕ) (x : Exact) → Near k τ x → FurtherThan k c x → victim_by (above_target c τ) c d ≡ victim_by (above_exact c x) c d
victim-same k τ c d x near far = ap (λ t. victim_by t c d) (above-same k τ c x near far)
