-- `order::FrameList::move_to_front` meets its contract: the places up to `at` are turned by one, so what stands there comes first. Assumes nothing.
use Rattle.std.proofs.Common.{ap, ℕ, List, ◌≡◌, ◌+◌, ◌-◌, length, take, arith, length-take-le}
use Rattle.order.proofs.Lists.{turned-right}
use Rattle.order.proofs.FrameList.move_to_front.Goals as goal

pub returns : goal.returns
returns c =
    let l = c.args.self.now in
    let n : length (take (c.args.at + 1) l.places) - 1 ≡ c.args.at = omega (arith, length-take-le (c.args.at + 1) l.places (omega arith)) in
    ap (λ (r : List ℕ). record { places = r; len = l.len }) (turned-right l.places _ c.args.at _ (omega arith) n c.rotate_right.ensures.after)
