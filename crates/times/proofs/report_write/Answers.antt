-- `times::report_write` meets its contract, by the verdict: refused, nothing is changed; else the kept numbers are true of both windows, and the time takes its
-- place among the writes. Assumes nothing.
use Rattle.times.specs.Reports.{Windows, windows, write_took}
use Rattle.times.proofs.Reports.{report-clear, report-refused, report-noted}
use Rattle.times.proofs.report_write.Goals as goal
use Rattle.times.proofs.report_write.Goals.{Start}

-- what the report sees
abbrev seen : Start → Windows
seen c = let a = c.args in windows a.kept a.reads.now a.writes.now

pub place-placed-requires : goal.place-placed-requires
place-placed-requires c =
    let clear = report-clear (seen (goal.at.place-placed-requires c).Start) (write_took c.args.time) c.verdict.ensures c.in-Ok.is in
    (clear.n, clear.writes)

pub returns-in-Err : goal.returns-in-Err
returns-in-Err c =
    let r = c.refused in
    report-refused (seen (goal.at.returns-in-Err c).Start) (write_took c.args.time) c.verdict.ensures r.result c.in-Err.is r.ensures.0 r.ensures.1

pub returns-in-Ok : goal.returns-in-Ok
returns-in-Ok c =
    let a = c.args in
    let p = c.place-placed.ensures in
    let r = c.noted in
    report-noted (seen (goal.at.returns-in-Ok c).Start) (write_took a.time) c.verdict.ensures r.result c.in-Ok.is
    (rw r.ensures.0 (λ i. windows (record { n = a.kept.n; reads = a.kept.reads; writes = p.value i }) a.reads.now (p.times_after i))) r.ensures.1
