-- The answers of `order::FrameList::all`, by the invariant that is argued in Invariants. Assumes nothing.
use Rattle.std.proofs.Common.{◌≡◌, ◌∙◌, refl, ap, ◌-◌, suc, arith, take_all}
use Rattle.order.specs.declared.FrameList.{FrameList}
use Rattle.order.specs.Lists.{down_from}
use Rattle.order.proofs.Lists.{down_from-length, down_from-drop}
use Rattle.order.proofs.Places.{none-in-places, turn-in-places, as-promised, list_of-held}
use Rattle.order.proofs.FrameList.all.Goals as goal

pub loop-k-init : goal.loop-k-init
loop-k-init c = (none-in-places, refl)

pub push-requires : goal.push-requires
push-requires c = omega (arith, c.loop-k.invariant.1)

pub loop-k-preserved : goal.loop-k-preserved
loop-k-preserved c =
    let k = c.loop-k.k in
    let n = c.args.n in
    let e = c.loop-k.invariant.1 in
    let next : n - k ≡ suc (n - 1 - k) = omega arith in
    let held = rw e at c.loop-k.invariant.0 in
    let more = turn-in-places (down_from n) (down_from (n - 1 - k)) (omega (arith, down_from-length n)) (omega arith)
    (down_from-drop n k (omega arith) ∙ ap down_from next) held in
    (as-promised (rw e at c.push.ensures) more, omega (arith, ap (λ (l : FrameList). l.len) c.push.ensures))

pub returns : goal.returns
returns c =
    let e : c.loop-k.k ≡ c.args.n = omega arith in
    list_of-held (rw (e, take_all c.args.n (down_from c.args.n) (omega (arith, down_from-length c.args.n))) at c.loop-k.invariant.0)
