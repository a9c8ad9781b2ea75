-- The answers of `merging::merge`, by the invariant that is argued in Invariants. Assumes nothing.
use Rattle.std.proofs.Common.{refl, sym, ◌∙◌, [], arith}
use Rattle.order.proofs.Places.{none-in-places}
use Rattle.merging.proofs.Merging.{merging-first, merging-second, merging-end}
use Rattle.merging.proofs.merge.Goals as goal
use Rattle.merging.proofs.merge.Goals.{then-takes_first, else-takes_first}

pub loop-init : goal.loop-init
loop-init c =
    record {
      first_in_places = c.requires.first_in_places;
      second_in_places = c.requires.second_in_places;
      count = omega arith;
      len = refl;
      taken = [];
      holds = none-in-places;
      there = refl;
    }

pub loop-preserved : goal.loop-preserved
loop-preserved c =
    let l = c.loop.invariant in
    let n = c.requires.fits in
    let at = c.loop-test.true in
    elim c.if-takes_first.branch [
      | then-takes_first w ↦
          rw (w.list-is, w.first-is, w.second-is, w.push.ensures) (merging-first _ _ _ l at n (sym c.takes_first.ensures ∙ w.if-takes_first.true))
      | else-takes_first w ↦
          rw (w.list-is, w.first-is, w.second-is, w.push-else-takes_first.ensures)
          (merging-second _ _ _ l at n (sym c.takes_first.ensures ∙ w.if-takes_first.false))
    ]

pub returns : goal.returns
returns c = merging-end _ _ _ c.loop.invariant (omega arith)
