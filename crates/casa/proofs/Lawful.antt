-- CASA's pools are a lawful policy, with `Sound` for a good state: a sound pool holds a good state, the pool made of one is sound and holds it, and CASA's
-- states are framed. So a pool that was opened and used through its calls is sound, and model's theorem on last written bytes speaks of it.
-- Assumes nothing.
use Rattle.std.specs.Prelude.{Ok}
use mathlib.Core.Path.{◌≡◌, sym, subst}
use Rattle.model.specs.Numbers.{Numbers, Limits, in_limits, meant}
use Rattle.model.specs.Request.{states}
use Rattle.model.specs.Refusals.{open_rows, open_verdict}
use Rattle.model.specs.Words.{Verdict}
use Rattle.model.proofs.Limits.{in_limits-limits}
use Rattle.model.proofs.Refusals.{not-false, first-clear}
use Rattle.model.proofs.Good.{opened-good, opened-blank}
use Rattle.model.proofs.LastWritten.{Lawful}
use Rattle.model.proofs.Framed.{Framed, framed-lawful, framed-pooled}
use Rattle.model.proofs.Steps.{states-framed}
use Rattle.pool.specs.Pool.{pool_of, state_of, Sound}
use Rattle.pool.specs.Test.{sound_test}
use Rattle.pool.specs.declared.Pool.{Pool}
use Rattle.pool.proofs.Form.{state-pool, sound-of}
use Rattle.casa.specs.Calls.{pools, open_after, open_if}

unfoldable pub pools-framed : Framed pools
unfolding states-framed
pools-framed =
    framed-pooled states states-framed Pool state_of pool_of sound_test Sound (λ p s. record { good = s.good; blank = s.blank })
    (λ s w. sound-of s w.good w.blank) (λ s w. state-pool s w.good.placed.paged w.good.numbered.each)

unfoldable pub pools-lawful : Lawful pools
pools-lawful = framed-lawful pools pools-framed

-- ---- an accepted open

module _ (n : Numbers) (accepted : open_verdict n ≡ Ok tt) where
  pub open-limits : Limits (meant n)
  unfolding open_verdict
  open-limits = in_limits-limits (meant n) (not-false (in_limits (meant n)) (first-clear (open_rows n) accepted).0)

  pub open-sound : Sound (open_after n).pool
  unfolding open_after
  open-sound =
      subst (λ (v : Verdict). Sound (open_if v (meant n)).pool) (sym accepted) (sound-of _ (opened-good (meant n) open-limits) (opened-blank (meant n)))
