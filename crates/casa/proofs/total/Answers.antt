-- `casa::total` meets its contract: a sound pool's counts and costs are small enough for the products and their sum. Assumes nothing.
use Rattle.std.proofs.Common.{◌≡◌, sym, ◌∙◌, true, arith}
use Rattle.pool.specs.Test.{sound_test}
use Rattle.casa.proofs.Calls.{sound-is, reads-cost, writes-cost, total-refused, total-fine}
use Rattle.casa.proofs.total.Goals as goal
use Rattle.casa.proofs.total.Goals.{Else-not-is_sound}

-- behind the test
said-so : (c : Else-not-is_sound) → sound_test c.args.pool ≡ true
said-so c = sym c.is_sound.ensures ∙ c.if-not-is_sound.false

pub returns-then-not-is_sound : goal.returns-then-not-is_sound
returns-then-not-is_sound c = total-refused c.args.pool (sym c.is_sound.ensures ∙ c.if-not-is_sound.true)

pub overflow_mul-result : goal.overflow_mul-result
overflow_mul-result c = omega (arith, reads-cost _ (sound-is _ (said-so (goal.at.overflow_mul-result c).Else-not-is_sound)))

pub overflow_mul-result-2 : goal.overflow_mul-result-2
overflow_mul-result-2 c = omega (arith, writes-cost _ (sound-is _ (said-so (goal.at.overflow_mul-result-2 c).Else-not-is_sound)))

pub overflow_add-result : goal.overflow_add-result
overflow_add-result c =
    let s = sound-is _ (said-so (goal.at.overflow_add-result c).Else-not-is_sound) in
    omega (arith, reads-cost _ s, writes-cost _ s)

pub returns : goal.returns
returns c = total-fine _ (said-so (goal.at.returns c).Else-not-is_sound)
