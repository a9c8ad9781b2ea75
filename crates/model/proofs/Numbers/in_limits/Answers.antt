-- `model::Numbers::in_limits` meets its contract: each number is between its limits, in the order of the limits. Assumes nothing.
use Rattle.std.proofs.Common.{◌≡◌, refl, Bool, true, false, ◌&&◌}
use Rattle.model.specs.Numbers.{in_limits}
use Rattle.model.proofs.Numbers.in_limits.Goals as goal

and-assoc : (a b c : Bool) → ((a && b) && c) ≡ (a && (b && c))
and-assoc true b c = refl
and-assoc false b c = refl

pub returns : goal.returns
unfolding in_limits
returns c =
    rw (c.between.ensures, c.between-2.ensures, c.between-3.ensures, c.between-4.ensures, c.between-5.ensures)
    (simp and-assoc)
