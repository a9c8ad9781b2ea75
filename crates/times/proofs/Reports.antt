-- What a report leaves, by its verdict, and what the start of two windows leaves.
--     report-clear      what a report that is not refused may count on
--     report-refused    refused, it leaves everything as it was
--     report-noted      else the time is in its window
--     start-refused, start-noted    both windows are as they were, or zeros
-- Assumes nothing.
use Rattle.std.specs.Prelude.{Ok, Err}
use mathlib.Core.Path.{◌≡◌, sym, ◌∙◌}
use mathlib.Core.Bool.{Bool, true, false, ◌&&◌}
use mathlib.Core.List.{List}
use Prim.Native.Nat.{ℕ, ◌≤◌}
use lib.Dec.{eqb}
use lib.ListN.{length, replicate}
use borrow.Author.Tests.{eqb-true, not-false}
use Rattle.model.specs.Times.{most_times, length_fits, fresh_kept}
use Rattle.model.specs.Refusals.{first}
use Rattle.model.specs.Words.{noted as said_noted}
use Rattle.model.specs.declared.Refusal.{Refusal}
use Rattle.model.specs.declared.Refusal.TheVariants.{BrokenWindows}
use Rattle.model.specs.Words.{Verdict}
use Rattle.model.proofs.Refusals.{first-clear, and-both}
use Rattle.model.proofs.Limits.{between-means}
use Rattle.window.specs.Window.{window_right}
use Rattle.times.specs.Reports.{Windows, windows, Report, windows_right, report_rows, report_verdict, noted, report_after, timed_left}
use Rattle.times.specs.Reports.{start_verdict, zero_kept, start_after}
use Rattle.times.specs.declared.Timed.{Timed}

-- ---- a report

-- n is in range, and the numbers kept of each window are true of it
pub record Clear (x : Windows) : Type 0 where
  pub n : x.kept.n ≤ most_times
  pub reads : window_right x.kept.n x.kept.reads x.reads ≡ true
  pub writes : window_right x.kept.n x.kept.writes x.writes ≡ true

module _ (x : Windows) (r : Report) {v : Verdict} (e : v ≡ first (report_rows x r)) where
  pub report-clear : v ≡ Ok tt → Clear x
  unfolding windows_right
  report-clear f =
      let a = and-both _ _ (not-false _ (first-clear (report_rows x r) (sym e ∙ f)).0) in
      let b = and-both _ _ a.1 in
      record { n = (between-means 1 x.kept.n most_times a.0).1; reads = b.0; writes = b.1 }

  pub report-refused : {why : Refusal} (t : Timed) → v ≡ Err why → t.kept ≡ x.kept → t.answer ≡ Err why
      → timed_left t x.reads x.writes ≡ report_after x r
  unfolding report_after report_verdict
  report-refused t f k a = rw (sym e ∙ f, k, a)

  pub report-noted : (t : Timed) {reads writes : List ℕ} → v ≡ Ok tt → windows t.kept reads writes ≡ noted x r → t.answer ≡ Ok tt
      → timed_left t reads writes ≡ report_after x r
  unfolding report_after report_verdict
  report-noted t f n a = rw (sym e ∙ f, a) (λ i. record { windows = n i; said = said_noted })

-- ---- a start

module _ (n : ℕ) (reads writes : List ℕ) {t : Bool} (e : t ≡ (length_fits n && (eqb (length reads) n && eqb (length writes) n))) (r : Timed) where
  pub start-refused : t ≡ false → r.kept ≡ zero_kept → r.answer ≡ Err BrokenWindows → timed_left r reads writes ≡ start_after n reads writes
  unfolding start_after start_verdict
  start-refused f k a = rw (sym e ∙ f, k, a)

  pub start-noted : {a b : List ℕ} → t ≡ true → r.kept ≡ fresh_kept n → r.answer ≡ Ok tt
      → a ≡ replicate (length reads) 0 → b ≡ replicate (length writes) 0 → timed_left r a b ≡ start_after n reads writes
  unfolding start_after start_verdict
  start-noted f k a p q =
      let fit = sym e ∙ f in
      let long = and-both _ _ (and-both (length_fits n) _ fit).1 in
      rw (fit, k, a, p, q, eqb-true (length reads) n long.0, eqb-true (length writes) n long.1)
