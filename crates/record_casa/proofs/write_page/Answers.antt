-- `record_casa::write_page` meets its contract: what `casa::write_page` leaves is left, its answer tells whether it was refused, and where it was served the
-- page that was written stands first in D. Assumes nothing.
use Rattle.std.proofs.Common.{◌∙◌}
use Rattle.model.specs.Times.{unmeasured}
use Rattle.model.specs.Run as run
use Rattle.recorder.specs.Runs.{tape, recorded_by}
use Rattle.record_casa.proofs.Laws.{answer-verdict-is, written-recorded}
use Rattle.record_casa.proofs.write_page.Goals as goal

pub returns : goal.returns
returns c =
    let a = c.args in
    let e = c.write_page-done.ensures in
    let r = c.write_page-done.result in
    let call = run.write unmeasured a.page a.start a.bytes.now in
    let x = tape a.recorder a.buffer.now in
    let v = answer-verdict-is a.pool a.frames.now a.store.now call r _ _ _ e in record {
      store_after = e;
      buffer_after = c.add_served-recorded.ensures ∙ (λ i. recorded_by (v i) (c.written-what.ensures i) x)
          ∙ written-recorded a.pool a.frames.now a.store.now a.page a.start a.bytes.now r _ _ e x;
    }
