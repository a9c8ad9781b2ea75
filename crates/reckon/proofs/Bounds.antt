-- The numbers of an adjustment are small: a step's numerator is a cost times a length, its denominator the sum of the costs times a length, and its units are
-- no more than what is divided. The check finds this of the code by itself; here it stands for whoever reckons a step elsewhere.
-- Assumes nothing.
use Prim.Native.Nat.{ℕ, ◌+◌, ◌*◌, ◌≤◌}
use native.Mathlib.Nat.{mul-le-mul, mul-pos, div-le_self}
use native.Mathlib.Omega.{arith}
use mir.Syntax.{w64}
use mir.Val.{Fits}
use Rattle.order.specs.Places.{places}
use Rattle.pages.proofs.Memory.{product-fits}
use Rattle.model.specs.Numbers.{unit}
use Rattle.model.specs.Target.{rounded, most_cost}

pub num-fits : (k n : ℕ) → k ≤ most_cost → n ≤ places → Fits w64 (k * n)
num-fits k n hk hn = product-fits most_cost places hk hn tt

pub den-fits : (r w n : ℕ) → r ≤ most_cost → w ≤ most_cost → n ≤ places → Fits w64 ((r + w) * n)
den-fits r w n hr hw hn = product-fits (2 * most_cost) places (omega arith) hn tt

-- a step of cost k times n over the costs r and w times m is one that `step_units` takes
pub step-in : (k n r w m : ℕ) → (k ≤ most_cost) × (n ≤ places) → (1 ≤ r) × (r ≤ most_cost) × (w ≤ most_cost) → (1 ≤ m) × (m ≤ places)
    → (k * n ≤ most_cost * places) × (1 ≤ (r + w) * m) × ((r + w) * m ≤ 2 * most_cost * places)
step-in k n r w m x y z =
    let p : 1 ≤ r + w = omega (arith, y.0) in
    let most : r + w ≤ 2 * most_cost = omega (arith, y.1, y.2) in
    (mul-le-mul x.0 x.1, mul-pos p z.0, mul-le-mul most z.1)

pub sum-fits : (τ n d : ℕ) → τ ≤ places * unit → n ≤ most_cost * places → d ≤ 2 * most_cost * places → Fits w64 (τ + rounded (unit * n) d)
sum-fits τ n d h hn hd = record { fits = omega (arith, div-le_self (2 * (unit * n) + d) (2 * d)) }
