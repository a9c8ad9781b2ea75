-- `order::FrameList::put_front` meets its contract: the places up to the first free one are turned by one, and the frame takes the first. Assumes nothing.
use Rattle.std.proofs.Common.{ap, ℕ, List, ◌≡◌, ◌+◌, ◌-◌, length, take, set, arith, length-take-le}
use Rattle.order.proofs.Lists.{turned-right}
use Rattle.order.proofs.FrameList.put_front.Goals as goal

pub returns : goal.returns
returns c =
    let l = c.args.self.now in
    let n : length (take (l.len + 1) l.places) - 1 ≡ l.len = omega (arith, length-take-le (l.len + 1) l.places (omega arith)) in
    ap (λ (r : List ℕ). record { places = set r 0 c.args.frame; len = l.len + 1 })
    (turned-right l.places _ l.len _ (omega arith) n c.rotate_right.ensures.after)
