-- `times::report_read` meets its contract, by the verdict: refused, nothing is changed; else the kept numbers are true of both windows, and the time takes its
-- place among the reads. Assumes nothing.
use Rattle.times.specs.Reports.{Windows, windows, read_took}
use Rattle.times.proofs.Reports.{report-clear, report-refused, report-noted}
use Rattle.times.proofs.report_read.Goals as goal
use Rattle.times.proofs.report_read.Goals.{Start}

-- what the report sees
abbrev seen : Start → Windows
seen c = let a = c.args in windows a.kept a.reads.now a.writes.now

pub place-placed-requires : goal.place-placed-requires
place-placed-requires c =
    let clear = report-clear (seen (goal.at.place-placed-requires c).Start) (read_took c.args.time) c.verdict.ensures c.in-Ok.is in
    (clear.n, clear.reads)

pub returns-in-Err : goal.returns-in-Err
returns-in-Err c =
    let r = c.refused in
    report-refused (seen (goal.at.returns-in-Err c).Start) (read_took c.args.time) c.verdict.ensures r.result c.in-Err.is r.ensures.0 r.ensures.1

pub returns-in-Ok : goal.returns-in-Ok
returns-in-Ok c =
    let a = c.args in
    let p = c.place-placed.ensures in
    let r = c.noted in
    report-noted (seen (goal.at.returns-in-Ok c).Start) (read_took a.time) c.verdict.ensures r.result c.in-Ok.is
    (rw r.ensures.0 (λ i. windows (record { n = a.kept.n; reads = p.value i; writes = a.kept.writes }) (p.times_after i) a.writes.now)) r.ensures.1
