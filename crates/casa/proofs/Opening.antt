-- Which way opening goes. Assumes nothing.
use mathlib.Core.Path.{◌≡◌}
use mathlib.Core.Bool.{true, false, ◌&&◌}
use mathlib.Core.Logic.{◌≢◌}
use Prim.Native.Nat.{ℕ}
use lib.Dec.{eqb}
use borrow.Author.Tests.{eq-eqb, ne_eqb}
use Rattle.model.specs.Numbers.{Numbers, in_limits, on_drive, usual_read, usual_write, numbers}
use Rattle.model.specs.State.{opened}
use Rattle.model.specs.Refusals.{open_verdict}
use Rattle.model.specs.declared.Refusal.TheVariants.{OutOfLimits}
use Rattle.model.specs.Words.{opened as said_opened, refusal_says}
use Rattle.pool.specs.Pool.{pool_of}
use Rattle.pool.specs.declared.Pool.{Pool}
use Rattle.casa.specs.Calls.{zero_pool, OpenLeft, open_by, open_after}

pub open-refused : (n : Numbers) (p : Pool) → in_limits n ≡ false → p ≡ zero_pool
    → ◌≡◌ {A = OpenLeft} (record { pool = p; said = refusal_says OutOfLimits }) (open_by n)
unfolding open_by
open-refused n p e z = rw (e, z)

pub open-fine : (n : Numbers) (p : Pool) → in_limits n ≡ true → p ≡ pool_of (opened n) → ◌≡◌ {A = OpenLeft} (record { pool = p; said = said_opened })
    (open_by n)
unfolding open_by
open-fine n p e z = rw (e, z)

-- both costs 0 mean the usual drive, and others themselves
pub open-usual : (b P N r w : ℕ) → r ≡ 0 → w ≡ 0 → open_by (numbers b P N usual_read usual_write) ≡ open_after (numbers b P N r w)
unfolding open_by open_after open_verdict on_drive
open-usual b P N r w e d = rw (e, d)

module _ (b P N r w : ℕ) where
  meant-so : (eqb r 0 && eqb w 0) ≡ false → open_by (numbers b P N r w) ≡ open_after (numbers b P N r w)
  unfolding open_by open_after open_verdict on_drive
  meant-so e = rw e

  pub open-read-cost : r ≢ 0 → open_by (numbers b P N r w) ≡ open_after (numbers b P N r w)
  open-read-cost n = meant-so (rw (ne_eqb r 0 n))

  pub open-write-cost : r ≡ 0 → w ≢ 0 → open_by (numbers b P N r w) ≡ open_after (numbers b P N r w)
  open-write-cost e n = meant-so (rw (eq-eqb r 0 e, ne_eqb w 0 n))
