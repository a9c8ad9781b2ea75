-- `step::locate` meets its contract: what stands in the lists of a sound pool is a frame, and the search over the places of a list finds the page where the
-- state has it. Assumes nothing.
use Rattle.std.proofs.Common.{◌∙◌}
use Rattle.pool.proofs.Form.{clean-listed, dirty-listed}
use Rattle.step.proofs.Requests.{place-is}
use Rattle.step.proofs.locate.Goals as goal

pub place_of-requires : goal.place_of-requires
place_of-requires c = record { clean = clean-listed _ c.requires; dirty = dirty-listed _ c.requires }

pub returns : goal.returns
returns c = c.place_of.ensures ∙ place-is _ c.requires _
