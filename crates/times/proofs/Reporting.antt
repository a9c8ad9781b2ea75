-- The start of two windows and a report say a refusal exactly when that refusal's row is the first whose condition holds. Refused, a report leaves the kept
-- numbers and every place of both windows; a start leaves every place and returns kept numbers of all zeros, which a report and a serving call then refuse.
--     report-given, given-report    what a report says, told from its rows
--     start-given, given-start      the same of the start of two windows
--     report-leaves, start-leaves   what either leaves when it says a refusal
--     zero-refused, zero-unfit      what is returned by a refused start is refused
-- Assumes nothing.
use Rattle.std.specs.Prelude.{Ok, Err}
use mathlib.Core.Path.{◌≡◌, refl, sym, ap, ◌∙◌}
use mathlib.Core.Bool.{false}
use mathlib.Core.List.{List}
use Prim.Native.Nat.{ℕ}
use native.Mathlib.Omega.{arith}
use lib.ListN.{length}
use Rattle.model.specs.Words.{noted, refusal_says}
use Rattle.model.specs.Refusals.{GivenBy}
use Rattle.model.specs.Times.{kept_fits}
use Rattle.model.specs.declared.Refusal.{Refusal}
use Rattle.model.specs.declared.Refusal.TheVariants.{BrokenWindows}
use Rattle.model.specs.Words.{Verdict}
use Rattle.model.proofs.Words.{refusal-one-to-one}
use Rattle.model.proofs.Exactly.{first-given, given-first}
use Rattle.times.specs.Reports.{Windows, windows, Report, Reported, windows_right, zero_kept}
use Rattle.times.specs.Reports.{report_rows, report_verdict, report_if, report_after, start_rows, start_verdict, start_if, start_after}

-- where Refused says its refusal and Fine that the call is noted, what is said leads back to the verdict
says-refused : (leave : Verdict → Reported) → ((z : Refusal) → (leave (Err z)).said ≡ refusal_says z) → (leave (Ok tt)).said ≡ noted
    → (v : Verdict) (y : Refusal) → (leave v).said ≡ refusal_says y → v ≡ Err y
says-refused leave refuse note (Err z) y e = ap Err (refusal-one-to-one z y (sym (refuse z) ∙ e))
says-refused leave refuse note (Ok u) y e =
    let n : (leave (Ok u)).said ≡ noted = note in
    let z : ◌≡◌ {A = ℕ} 0 1 = cc in
    absurd (omega arith)

module _ (x : Windows) (r : Report) (y : Refusal) where
  report-refused : (report_after x r).said ≡ refusal_says y → report_verdict x r ≡ Err y
  unfolding report_after
  report-refused = says-refused (λ v. report_if v x r) (λ z. refl) refl (report_verdict x r) y

  pub report-given : (report_after x r).said ≡ refusal_says y → GivenBy y (report_rows x r)
  unfolding report_verdict
  report-given e = first-given (report_rows x r) y (report-refused e)

  pub given-report : GivenBy y (report_rows x r) → (report_after x r).said ≡ refusal_says y
  unfolding report_after report_verdict
  given-report g = ap (λ (v : Verdict). (report_if v x r).said) (given-first (report_rows x r) y g)

  pub report-leaves : (report_after x r).said ≡ refusal_says y → report_after x r ≡ record { windows = x; said = refusal_says y }
  unfolding report_after
  report-leaves e = ap (λ (v : Verdict). report_if v x r) (report-refused e)

module _ (n : ℕ) (reads writes : List ℕ) (y : Refusal) where
  start-refused : (start_after n reads writes).said ≡ refusal_says y → start_verdict n (length reads) (length writes) ≡ Err y
  unfolding start_after
  start-refused = says-refused (λ v. start_if v n reads writes) (λ z. refl) refl (start_verdict n (length reads) (length writes)) y

  pub start-given : (start_after n reads writes).said ≡ refusal_says y → GivenBy y (start_rows n (length reads) (length writes))
  unfolding start_verdict
  start-given e = first-given (start_rows n (length reads) (length writes)) y (start-refused e)

  pub given-start : GivenBy y (start_rows n (length reads) (length writes)) → (start_after n reads writes).said ≡ refusal_says y
  unfolding start_after start_verdict
  given-start g = ap (λ (v : Verdict). (start_if v n reads writes).said) (given-first (start_rows n (length reads) (length writes)) y g)

  pub start-leaves : (start_after n reads writes).said ≡ refusal_says y
      → start_after n reads writes ≡ record { windows = windows zero_kept reads writes; said = refusal_says y }
  unfolding start_after
  start-leaves e = ap (λ (v : Verdict). start_if v n reads writes) (start-refused e)

-- ---- kept numbers of all zeros

pub zero-refused : (reads writes : List ℕ) (r : Report)
    → report_after (windows zero_kept reads writes) r ≡ record { windows = windows zero_kept reads writes; said = refusal_says BrokenWindows }
unfolding report_after report_verdict windows_right
zero-refused reads writes r = refl

pub zero-unfit : kept_fits zero_kept ≡ false
unfolding kept_fits
zero-unfit = refl
