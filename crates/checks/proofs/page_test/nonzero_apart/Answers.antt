-- The answer of `checks::page_test::nonzero_apart`, by the invariant that is argued in Invariants. Assumes nothing.
use Rattle.std.proofs.Common.{◌≡◌, ◌%◌, arith, get_or, take}
use Rattle.std.proofs.lemmas.Grind.{common_steps}
use Rattle.checks.proofs.Apart.{knows-more, knows-met, knows-new, nonzero_apart-twice, nonzero_apart-zero, nonzero_apart-new}
use Rattle.checks.proofs.page_test.nonzero_apart.Goals as goal
use Rattle.checks.proofs.page_test.nonzero_apart.Goals.{then-not-marks-k, else-not-marks-k+then-q-ne0+then-stands_before, else-not-marks-k+else-q-ne0}

pub loop-i-preserved : goal.loop-i-preserved
loop-i-preserved c =
    let page = c.args.page.now in
    let l = c.loop-i in
    let q : get_or (take c.args.frames page) l.i 0 ≡ get_or page l.i 0 = grind (arith, common_steps) in
    let k : c.from-k.result ≡ get_or page l.i 0 % 2048 = rw q at c.from-k.ensures in
    let met = knows-met page l.marks l.i l.invariant.1 in (
      grind (
        arith,
        common_steps,
        nonzero_apart-twice page l.i,
        nonzero_apart-zero page l.i,
        nonzero_apart-new page l.i,
        knows-new page l.marks l.i l.invariant.1,
      ),
      elim c.if-not-marks-k.branch [
        | then-not-marks-k w ↦ rw (w.marks-is, k) (knows-more page l.marks l.i l.invariant.1)
        | else-not-marks-k+then-q-ne0+then-stands_before w ↦ rw w.marks-is (met (rw k at w.if-not-marks-k.false))
        | else-not-marks-k+else-q-ne0 w ↦ rw w.marks-is (met (rw k at w.if-not-marks-k.false))
      ],
    )
