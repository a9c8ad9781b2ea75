-- `record_casa::read_page` meets its contract: what `casa::read_page` leaves is left, and its answer tells whether it was refused. Assumes nothing.
use Rattle.std.proofs.Common.{ap, ◌∙◌}
use Rattle.model.specs.Times.{unmeasured}
use Rattle.model.specs.Run as run
use Rattle.model.specs.Words.{Verdict}
use Rattle.trace.specs.declared.Record.TheVariants.{Read}
use Rattle.recorder.specs.Runs.{tape, recorded_by}
use Rattle.record_casa.proofs.Laws.{answer-verdict-is}
use Rattle.record_casa.proofs.read_page.Goals as goal

pub returns : goal.returns
returns c =
    let a = c.args in
    let e = c.read_page-done.ensures in
    let call = run.read unmeasured a.page a.out.now in
    let v = answer-verdict-is a.pool a.frames.now a.store.now call c.read_page-done.result _ _ _ e in
    record { out_after = e; buffer_after = c.add_served-recorded.ensures ∙ ap (λ (w : Verdict). recorded_by w (Read a.page) (tape a.recorder a.buffer.now)) v }
