-- Windows whose kept numbers are true of their places stay so: windows that are started are right, a time that takes its place leaves its window right and the
-- other one as it was, and a report that is refused leaves everything. So a report on right windows is refused for a time of 0 alone, and no serving call
-- refuses the numbers kept of them.
--     windows-right, right-windows    the test of both windows, as facts about their places
--     start-right                     windows that are started are right
--     report-right                    and right again after a report
--     right-verdict                   a report on right windows is refused for a time of 0 alone
--     right-fits                      a serving call does not refuse what is kept of right windows of 16-bit times
-- Assumes nothing.
use Rattle.std.specs.Prelude.{Ok, Err}
use mathlib.Core.Path.{◌≡◌, refl}
use mathlib.Core.Bool.{Bool, true, false, cond as if-else}
use mathlib.Core.List.{List}
use Prim.Native.Nat.{ℕ, ◌≤◌}
use lib.Dec.{eqb}
use lib.ListN.{length, get_or, replicate}
use borrow.Author.Tests.{eqb-true, eqb-false}
use Rattle.model.specs.Refusals.{verdict_by}
use Rattle.model.specs.Times.{most_times, most_time, kept_fits, fresh_kept}
use Rattle.model.specs.declared.Refusal.TheVariants.{ZeroTime}
use Rattle.model.proofs.Refusals.{first-clear, not-false, and-both}
use Rattle.model.proofs.Limits.{both-and, between-means, means-between}
use Rattle.model.proofs.Times.{fits-kept}
use Rattle.window.proofs.Stays.{RightWindow, window-right, right-window, fresh-right, place-right, window-in}
use Rattle.times.specs.Reports.{Windows, windows, Report, read_took, write_took, time_in, windows_right, report_verdict, noted, report_if, report_after}
use Rattle.times.specs.Reports.{start_rows, start_verdict, start_after}

-- ---- the test of both windows

pub record RightWindows (x : Windows) : Type 0 where
  pub some : 1 ≤ x.kept.n
  pub most : x.kept.n ≤ most_times
  pub reads : RightWindow x.kept.n x.kept.reads x.reads
  pub writes : RightWindow x.kept.n x.kept.writes x.writes

module _ (x : Windows) where
  pub windows-right : windows_right x ≡ true → RightWindows x
  unfolding windows_right
  windows-right e =
      let k = x.kept in
      let a = and-both _ _ e in
      let b = and-both _ _ a.1 in
      let n = between-means 1 k.n most_times a.0 in
      record {
        some = n.0;
        most = n.1;
        reads = window-right k.n k.reads x.reads b.0;
        writes = window-right k.n k.writes x.writes b.1;
      }

  pub right-windows : RightWindows x → windows_right x ≡ true
  unfolding windows_right
  right-windows h =
      let k = x.kept in
      both-and (means-between 1 k.n most_times h.some h.most)
      (both-and (right-window k.n k.reads x.reads h.reads) (right-window k.n k.writes x.writes h.writes))

-- ---- the start of two windows

pub start-right : (n : ℕ) (reads writes : List ℕ) → start_verdict n (length reads) (length writes) ≡ Ok tt
    → windows_right (start_after n reads writes).windows ≡ true
unfolding start_after start_verdict
start-right n reads writes fine =
    let c = first-clear (start_rows n (length reads) (length writes)) fine in
    let l = between-means 1 n most_times (and-both _ _ (not-false _ c.0)).0 in
    let w = fresh-right n l.0 in
    rw fine (right-windows (windows (fresh_kept n) (replicate n 0) (replicate n 0)) (record { some = l.0; most = l.1; reads = w; writes = w }))

-- ---- reports

module _ (x : Windows) (r : Report) where
  pub right-verdict : windows_right x ≡ true → report_verdict x r ≡ if-else (eqb (time_in r) 0) (Err ZeroTime) (Ok tt)
  unfolding report_verdict
  right-verdict right = rw right (go (eqb (time_in r) 0))
    where
      go : (b : Bool) → verdict_by b ZeroTime (Ok tt) ≡ if-else b (Err ZeroTime) (Ok tt)
      go true = refl
      go false = refl

  -- what holds of the windows that a report on right ones leaves: for a time of 0 they stay, any other is noted
  pub report-cases : (P : Windows → Type 0) → windows_right x ≡ true → (time_in r ≡ 0 → P x) → ((time_in r ≡ 0 → ⊥) → P (noted x r))
      → P (report_after x r).windows
  unfolding report_after
  report-cases P right stay note = rw (right-verdict right) (go (eqb (time_in r) 0) refl)
    where
      go : (b : Bool) → eqb (time_in r) 0 ≡ b → P (report_if (if-else b (Err ZeroTime) (Ok tt)) x r).windows
      go true e = stay (eqb-true (time_in r) 0 e)
      go false e = note (eqb-false (time_in r) 0 e)

module _ (x : Windows) (r : Report) (right : windows_right x ≡ true) where
  pub noted-right : (time_in r ≡ 0 → ⊥) → windows_right (noted x r) ≡ true
  noted-right some = right-windows (noted x r) (go r (windows-right x right) some)
    where
      go : (q : Report) → RightWindows x → (time_in q ≡ 0 → ⊥) → RightWindows (noted x q)
      go (read_took t) h some =
          let reads = place-right x.kept.n x.kept.reads x.reads h.reads t some in
          record { some = h.some; most = h.most; reads = reads; writes = h.writes }
      go (write_took t) h some =
          let writes = place-right x.kept.n x.kept.writes x.writes h.writes t some in
          record { some = h.some; most = h.most; reads = h.reads; writes = writes }

  pub report-right : windows_right (report_after x r).windows ≡ true
  report-right = report-cases x r (λ y. windows_right y ≡ true) right (λ e. right) noted-right

-- ---- what a serving call sees

pub right-fits : (x : Windows) → windows_right x ≡ true → ((i : ℕ) → get_or x.reads i 0 ≤ most_time) → ((i : ℕ) → get_or x.writes i 0 ≤ most_time)
    → kept_fits x.kept ≡ true
right-fits x right reads writes =
    let k = x.kept in
    let h = windows-right x right in
    let r = window-in k.n k.reads x.reads h.reads reads in
    let w = window-in k.n k.writes x.writes h.writes writes in
    fits-kept k (record { some = h.some; most = h.most; reads = r; writes = w })
