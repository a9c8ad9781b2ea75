-- Opening is refused exactly when a number is out of its limits, and then gives the pool of all zeros, which is broken. Assumes nothing.
use Rattle.std.specs.Prelude.{Ok}
use mathlib.Core.Path.{◌≡◌, refl, ap}
use mathlib.Core.Bool.{Bool, true, false, not}
use Prim.Native.Nat.{ℕ}
use native.Mathlib.Omega.{arith}
use Rattle.model.specs.Numbers.{Numbers, Limits, in_limits, meant}
use Rattle.model.specs.Words.{refusal_says}
use Rattle.model.specs.Refusals.{verdict_by, open_verdict}
use Rattle.model.specs.declared.Refusal.TheVariants.{OutOfLimits}
use Rattle.model.proofs.Limits.{in_limits-limits, limits-in_limits}
use Rattle.pool.specs.Pool.{Sound}
use Rattle.casa.specs.Calls.{OpenLeft, zero_pool, open_if, open_after}

pub zero-broken : Sound zero_pool → ⊥
zero-broken s = omega (arith, s.good.limits.b_low)

module _ (n : Numbers) where
  open-by : (t : Bool) → in_limits (meant n) ≡ t → open_after n ≡ open_if (verdict_by (not t) OutOfLimits (Ok tt)) (meant n)
  unfolding open_after open_verdict
  open-by t e = rw e

  pub open-says : (open_after n).said ≡ refusal_says OutOfLimits → Limits (meant n) → ⊥
  open-says e l =
      let d = ap (λ (x : OpenLeft). x.said) (open-by true (limits-in_limits (meant n) l)) in let z : ◌≡◌ {A = ℕ} 0 1 = cc in omega arith

  pub open-refused : (Limits (meant n) → ⊥) → open_after n ≡ record { pool = zero_pool; said = refusal_says OutOfLimits }
  open-refused h = go (in_limits (meant n)) refl
    where
      go : (t : Bool) → in_limits (meant n) ≡ t → open_after n ≡ record { pool = zero_pool; said = refusal_says OutOfLimits }
      go true e = absurd (h (in_limits-limits (meant n) e))
      go false e = open-by false e
