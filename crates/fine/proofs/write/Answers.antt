-- `fine::write` meets its contract: the costs in force can be reckoned with, so the step is that of the definitions; its frame, page and victim lie within
-- the lent bytes, since the state is good; the bytes after the step are those of the definitions, and the stretch is laid over the frame. Assumes nothing.
use Rattle.std.proofs.Common.{◌≡◌, ◌∙◌, ap, arith}
use Rattle.model.specs.Target.{Costs, costs_of}
use Rattle.model.specs.Times.{measured, in_force}
use Rattle.model.specs.Request.{request}
use Rattle.model.specs.declared.Op.TheVariants.{Write}
use Rattle.pool.specs.Pool.{numbers_in, state_of}
use Rattle.step.specs.Step.{step_of}
use Rattle.fine.proofs.Serving.{frame-in, bring-in, write-served}
use Rattle.fine.proofs.write.Goals as goal
use Rattle.fine.proofs.write.Goals.{After-write-wrote}

abbrev in-force : After-write-wrote → Costs
in-force c = let a = c.args in in_force (measured a.kept) (costs_of (numbers_in a.pool))

stepped : (c : After-write-wrote) → c.write-wrote.result ≡ step_of (request Write (in-force c) (state_of c.args.pool) c.args.page)
stepped c =
    c.write-wrote.ensures ∙ ap (λ (k : Costs). step_of (request Write k (state_of c.args.pool) c.args.page)) c.drive-drive.ensures

pub write-wrote-requires : goal.write-wrote-requires
write-wrote-requires c = record { sound = c.requires.sound.0; page_lt_pages = c.requires.ready.1 }

pub bring-requires : goal.bring-requires
bring-requires c =
    let l = c.requires.ready in
    let ok = bring-in c.args.pool c.requires.sound.0 c.args.page _ _ l.0 l.1 Write (in-force (goal.at.bring-requires c).After-write-wrote)
    c.write-wrote.result (stepped (goal.at.bring-requires c).After-write-wrote) in
    record { in_pages = ok.0; in_pages_2 = ok.1.0; answer_in = ok.1.1 }

pub overlay-requires : goal.overlay-requires
overlay-requires c =
    let l = c.requires.ready in
    let inside = frame-in c.args.pool c.requires.sound.0 c.args.page _ _ l.0 l.1 Write (in-force (goal.at.overlay-requires c).After-write-wrote)
    c.write-wrote.result (stepped (goal.at.overlay-requires c).After-write-wrote) in
    record { in_pages = omega (arith, inside, c.bring.auto); bytes_bound = c.requires.bytes_bound }

pub returns : goal.returns
returns c =
    let a = c.args in
    write-served a.pool (measured a.kept) a.page a.frames.now a.store.now _ _ c.write-wrote.result a.start a.bytes.now _
    (stepped (goal.at.returns c).After-write-wrote)
    c.bring.ensures c.overlay.ensures
