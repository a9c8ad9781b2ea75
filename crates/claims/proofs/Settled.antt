-- Settled: any two results that the promise of a public call allows, with the bytes that they leave, are equal. A citation for each call of `casa`, `lent`,
-- `times`, `trace`, `recorder` and `record_casa`; docs/PROMISES.md says why the other crates need none. Assumes nothing.
pub use Rattle.casa.proofs.Settled.{open-settled, served-settled, flushed-settled, dropped-settled, total-settled}
pub use Rattle.lent.proofs.Settled.{served-in-settled, flushed-in-settled, dropped-in-settled}
pub use Rattle.times.proofs.Settled.{timed-settled}
pub use Rattle.trace.proofs.Settled.{header-settled, check-settled, record-at-settled, place-after-settled, first-place-settled}
pub use Rattle.trace.proofs.Settled.{new-settled, next-settled, moved-settled, nth-settled}
pub use Rattle.recorder.proofs.Settled.{recorded-settled, closed-settled}
pub use Rattle.record_casa.proofs.Settled.{noted-settled, noted-flush-settled, noted-drop-settled}
