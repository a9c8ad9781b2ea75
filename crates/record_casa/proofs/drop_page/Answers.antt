-- `record_casa::drop_page` meets its contract: what `casa::drop_page` leaves is left, and its answer tells whether it was refused. Assumes nothing.
use Rattle.std.proofs.Common.{ap, ◌∙◌}
use Rattle.model.specs.Run as run
use Rattle.model.specs.Words.{Verdict}
use Rattle.trace.specs.declared.Record.TheVariants.{Drop}
use Rattle.recorder.specs.Runs.{tape, recorded_by}
use Rattle.record_casa.proofs.Laws.{dropping-verdict-is}
use Rattle.record_casa.proofs.drop_page.Goals as goal

pub returns : goal.returns
returns c =
    let a = c.args in
    let e = c.drop_page-done.ensures in
    let v = dropping-verdict-is a.pool a.frames.now a.store.now (run.drop a.page) c.drop_page-done.result _ _ e in
    record {
      store_after = e;
      buffer_after = c.add_served-recorded.ensures ∙ ap (λ (w : Verdict). recorded_by w (Drop a.page) (tape a.recorder a.buffer.now)) v;
    }
