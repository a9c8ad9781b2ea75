-- `record_casa::flush` meets its contract: what `casa::flush` leaves is left, and its answer tells whether it was refused. Assumes nothing.
use Rattle.std.proofs.Common.{ap, ◌∙◌}
use Rattle.model.specs.Run as run
use Rattle.model.specs.Words.{Verdict}
use Rattle.trace.specs.declared.Record.TheVariants.{Flush}
use Rattle.recorder.specs.Runs.{tape, recorded_by}
use Rattle.record_casa.proofs.Laws.{flushing-verdict-is}
use Rattle.record_casa.proofs.flush.Goals as goal

pub returns : goal.returns
returns c =
    let a = c.args in
    let e = c.flush-done.ensures in
    let v = flushing-verdict-is a.pool a.frames.now a.store.now run.flush c.flush-done.result _ _ e in
    record { store_after = e; buffer_after = c.add_served-recorded.ensures ∙ ap (λ (w : Verdict). recorded_by w Flush (tape a.recorder a.buffer.now)) v }
