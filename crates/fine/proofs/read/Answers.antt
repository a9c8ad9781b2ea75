-- `fine::read` meets its contract: the costs in force can be reckoned with, so the step is that of the definitions; its frame, page and victim lie within
-- the lent bytes, since the state is good; the bytes after the step are those of the definitions, and the frame is copied out. Assumes nothing.
use Rattle.std.proofs.Common.{◌≡◌, ◌∙◌, ap, arith}
use Rattle.model.specs.Target.{Costs, costs_of}
use Rattle.model.specs.Times.{measured, in_force}
use Rattle.model.specs.Request.{request}
use Rattle.model.specs.declared.Op.TheVariants.{Read}
use Rattle.pool.specs.Pool.{numbers_in, state_of}
use Rattle.step.specs.Step.{step_of}
use Rattle.fine.proofs.Serving.{frame-in, bring-in, read-served}
use Rattle.fine.proofs.read.Goals as goal
use Rattle.fine.proofs.read.Goals.{After-read-read}

abbrev in-force : After-read-read → Costs
in-force c = let a = c.args in in_force (measured a.kept) (costs_of (numbers_in a.pool))

stepped : (c : After-read-read) → c.read-read.result ≡ step_of (request Read (in-force c) (state_of c.args.pool) c.args.page)
stepped c =
    c.read-read.ensures ∙ ap (λ (k : Costs). step_of (request Read k (state_of c.args.pool) c.args.page)) c.drive-drive.ensures

pub read-read-requires : goal.read-read-requires
read-read-requires c = record { sound = c.requires.sound.0; page_lt_pages = c.requires.ready.1 }

pub bring-requires : goal.bring-requires
bring-requires c =
    let l = c.requires.ready in
    let ok = bring-in c.args.pool c.requires.sound.0 c.args.page _ _ l.0 l.1 Read (in-force (goal.at.bring-requires c).After-read-read) c.read-read.result
    (stepped (goal.at.bring-requires c).After-read-read) in
    record { in_pages = ok.0; in_pages_2 = ok.1.0; answer_in = ok.1.1 }

pub copy_out-requires : goal.copy_out-requires
copy_out-requires c =
    let l = c.requires.ready in
    let inside = frame-in c.args.pool c.requires.sound.0 c.args.page _ _ l.0 l.1 Read (in-force (goal.at.copy_out-requires c).After-read-read)
    c.read-read.result (stepped (goal.at.copy_out-requires c).After-read-read) in
    record { out_len = c.requires.out_len; in_pages = omega (arith, inside, c.bring.auto) }

pub returns : goal.returns
returns c =
    let a = c.args in
    read-served a.pool (measured a.kept) a.page a.frames.now a.store.now _ _ c.read-read.result a.out.now _ (stepped (goal.at.returns c).After-read-read)
    c.bring.ensures c.copy_out.ensures
