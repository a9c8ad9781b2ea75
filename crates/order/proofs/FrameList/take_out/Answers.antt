-- `order::FrameList::take_out` meets its contract: what stands at `at` is turned behind the last, and its place becomes 0. Assumes nothing.
use Rattle.std.proofs.Common.{ap, ℕ, List, ◌≡◌, ◌-◌, suc, arith}
use Rattle.order.proofs.Lists.{turned-left}
use Rattle.order.proofs.FrameList.take_out.Goals as goal

pub returns-clause-rest : goal.returns-clause-rest
returns-clause-rest c =
    let l = c.args.self.now in
    let at = c.args.at in
    let k : l.len - at ≡ suc (l.len - 1 - at) = omega arith in
    let t = turned-left l.places at (l.len - 1 - at) (l.len - 1) (omega arith) (omega arith) in
    ap (λ (r : List ℕ). record { places = r; len = l.len - 1 }) (rw (c.rotate_left.ensures.after, k) t)
