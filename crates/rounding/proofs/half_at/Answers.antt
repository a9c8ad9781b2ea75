-- `rounding::half_at` meets its contract: the test has said that the pool is sound before a step is made of it. Assumes nothing.
use Rattle.std.proofs.Common.{sym, ◌∙◌}
use Rattle.casa.proofs.Calls.{sound-is}
use Rattle.rounding.proofs.half_at.Goals as goal

pub read-step-requires-clause-sound : goal.read-step-requires-clause-sound
read-step-requires-clause-sound g c = sound-is _ (sym c.is_sound.ensures ∙ c.if-is_sound.true)

pub write-step-requires-clause-sound : goal.write-step-requires-clause-sound
write-step-requires-clause-sound g c = sound-is _ (sym c.is_sound.ensures ∙ c.if-is_sound.true)
