-- Times that are measured on the drive and reported, in two windows that the caller lends: when a report is refused, and what it leaves, for any kept numbers
-- and any windows; and what is in the windows after a run of reports.
--     start_after, report_after    what the start of two windows and a report leave: the kept numbers, every place of both windows, what is said
--     timed_left                  what a call returned, with the windows as it left them
--     HasLast                    a window has the last n times reported, in their places
-- Assumes nothing.
use Rattle.std.specs.Prelude.{◌≡◌, Bool, ◌&&◌, cond as if-else, List, [], ◌∷◌, ℕ, ◌+◌, ◌%◌, ◌≤◌, ◌<◌, min, eqb, length, get_or, set, replicate, Ok, Err}
use Rattle.model.specs.Words.{Said, noted as said_noted, refusal_says, timing_says}
use Rattle.model.specs.Refusals.{Row, first, broken_windows}
use Rattle.model.specs.Times.{length_fits, fresh_kept}
use Rattle.model.specs.declared.Window.{Window}
use Rattle.model.specs.declared.Kept.{Kept}
use Rattle.model.specs.declared.Refusal.TheVariants.{ZeroTime}
use Rattle.model.specs.Words.{Verdict}
use Rattle.window.specs.Window.{sum_of, window_right, window_after}
use Rattle.times.specs.declared.Timed.{Timed}

-- what a report sees: the numbers that are kept of both windows, and the windows as they are lent
pub record Windows : Type 0 where
  pub kept : Kept
  pub reads : List ℕ
  pub writes : List ℕ

abbrev pub windows : Kept → List ℕ → List ℕ → Windows
windows k reads writes = record { kept = k; reads = reads; writes = writes }

-- the time that a physical read took, or a physical write
pub data Report : Type 0 where
  read_took : ℕ → Report
  write_took : ℕ → Report

abbrev pub time_in : Report → ℕ
time_in (read_took t) = t
time_in (write_took t) = t

-- ---- when a report is refused

-- "windows not both n long, n or a fill out of range", or one of them not right
unfoldable pub windows_right : Windows → Bool
windows_right x = let k = x.kept in length_fits k.n && (window_right k.n k.reads x.reads && window_right k.n k.writes x.writes)

-- "then 12 for a time of 0"
abbrev pub zero_time : ℕ → Row
zero_time t = record { when = eqb t 0; why = ZeroTime }

abbrev pub report_rows : Windows → Report → List Row
report_rows x r = broken_windows (windows_right x) ∷ zero_time (time_in r) ∷ []

unfoldable pub report_verdict : Windows → Report → Verdict
report_verdict x r = first (report_rows x r)

-- ---- what a report leaves

pub record Reported : Type 0 where
  pub windows : Windows
  pub said : Said

abbrev pub noted : Windows → Report → Windows
noted x (read_took t) =
    let k = x.kept in
    windows (record { n = k.n; reads = window_after k.n k.reads x.reads t; writes = k.writes }) (set x.reads k.reads.next t) x.writes
noted x (write_took t) =
    let k = x.kept in
    windows (record { n = k.n; reads = k.reads; writes = window_after k.n k.writes x.writes t }) x.reads (set x.writes k.writes.next t)

-- "a refused report changes nothing"
abbrev pub report_if : Verdict → Windows → Report → Reported
report_if (Err y) x r = record { windows = x; said = refusal_says y }
report_if (Ok _) x r = record { windows = noted x r; said = said_noted }

unfoldable pub report_after : Windows → Report → Reported
report_after x r = report_if (report_verdict x r) x r

-- ---- the start of two windows of n times, a and b places long: they become zeros, and nothing is measured yet

abbrev pub start_rows : ℕ → ℕ → ℕ → List Row
start_rows n a b = broken_windows (length_fits n && (eqb a n && eqb b n)) ∷ []

unfoldable pub start_verdict : ℕ → ℕ → ℕ → Verdict
start_verdict n a b = first (start_rows n a b)

-- refused, it returns kept numbers of all zeros, which are refused 13, and changes no place
abbrev pub zero_kept : Kept
zero_kept = fresh_kept 0

abbrev pub start_if : Verdict → ℕ → List ℕ → List ℕ → Reported
start_if (Err y) n reads writes = record { windows = windows zero_kept reads writes; said = refusal_says y }
start_if (Ok _) n reads writes = record { windows = windows (fresh_kept n) (replicate n 0) (replicate n 0); said = said_noted }

unfoldable pub start_after : ℕ → List ℕ → List ℕ → Reported
start_after n reads writes = start_if (start_verdict n (length reads) (length writes)) n reads writes

-- ---- what a call returned

abbrev pub timed_left : Timed → List ℕ → List ℕ → Reported
timed_left r reads writes = record { windows = windows r.kept reads writes; said = timing_says r.answer }

-- ---- runs of reports

abbrev pub after_reports : Windows → List Report → Windows
after_reports x [] = x
after_reports x (r ∷ rs) = after_reports (report_after x r).windows rs

-- a time of 0 is refused, so it is none of the times reported
abbrev pub with_time : ℕ → List ℕ → List ℕ
with_time t ts = if-else (eqb t 0) ts (t ∷ ts)

-- the times reported of reads, first to last, and of writes
abbrev pub read_times : List Report → List ℕ
read_times [] = []
read_times (read_took t ∷ rs) = with_time t (read_times rs)
read_times (write_took t ∷ rs) = read_times rs

abbrev pub write_times : List Report → List ℕ
write_times [] = []
write_times (read_took t ∷ rs) = write_times rs
write_times (write_took t ∷ rs) = with_time t (write_times rs)

-- a window of n places has the last n of the times ts, each in its place: the first at place 0, the next behind it, round below n
pub record HasLast (n : ℕ) (ts : List ℕ) (w : Window) (places : List ℕ) : Type 0 where
  pub long : length places ≡ n
  pub last : (k : ℕ) → k < length ts → length ts ≤ k + n → get_or places (k % n) 0 ≡ get_or ts k 0
  pub rest : (i : ℕ) → length ts ≤ i → get_or places i 0 ≡ 0
  pub fill : w.fill ≡ min (length ts) n
  pub next : w.next ≡ length ts % n
  pub sum : w.sum ≡ sum_of places
