-- `casa::read_page` meets its contract: with nothing measured yet, the form with kept numbers is the call without it. Assumes nothing.
use Rattle.std.proofs.Common.{ap, ◌∙◌, arith}
use Rattle.model.specs.Times.{measured, fresh_kept}
use Rattle.model.specs.Run.{read, left}
use Rattle.model.specs.declared.Kept.{Kept}
use Rattle.model.proofs.Times.{fresh-fits, fresh-opened, read-opened}
use Rattle.casa.specs.Calls.{pools, world_of}
use Rattle.casa.proofs.read_page.Goals as goal

pub returns : goal.returns
returns c =
    let a = c.args in
    let world = world_of a.pool a.frames.now a.store.now in
    c.read_page_measured.ensures ∙ ap (λ (k : Kept). left pools world (read (measured k) a.page a.out.now)) c.fresh-kept.ensures
    ∙ read-opened pools world (measured (fresh_kept 1)) (fresh-fits 1 (omega arith) (omega arith)) (fresh-opened 1 (omega arith)) a.page a.out.now
