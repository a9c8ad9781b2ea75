-- `times::both_right` meets its contract: each answer no names a test that fails, and the last test is the one that is left. Assumes nothing.
use Rattle.std.proofs.Common.{◌≡◌, sym, ◌∙◌, true, ◌≤◌}
use Rattle.model.specs.Times.{length_fits, most_times}
use Rattle.model.proofs.Limits.{between-means}
use Rattle.times.specs.Reports.{windows_right}
use Rattle.times.proofs.both_right.Goals as goal
use Rattle.times.proofs.both_right.Goals.{Else-not-length_fits}

long-right : (c : Else-not-length_fits) → length_fits c.args.kept.n ≡ true
long-right c = sym c.length_fits.ensures ∙ c.if-not-length_fits.false

n-most : (c : Else-not-length_fits) → c.args.kept.n ≤ most_times
n-most c = (between-means 1 _ most_times (long-right c)).1

pub returns-then-not-length_fits : goal.returns-then-not-length_fits
unfolding windows_right
returns-then-not-length_fits c = rw (sym c.length_fits.ensures ∙ c.if-not-length_fits.true)

pub right-requires : goal.right-requires
right-requires c = n-most (goal.at.right-requires c).Else-not-length_fits

pub returns-then-not-right : goal.returns-then-not-right
unfolding windows_right
returns-then-not-right c = rw (long-right (goal.at.returns-then-not-right c).Else-not-length_fits, sym c.right.ensures ∙ c.if-not-right.true)

pub right-requires-2 : goal.right-requires-2
right-requires-2 c = n-most (goal.at.right-requires-2 c).Else-not-length_fits

pub returns : goal.returns
unfolding windows_right
returns c =
    c.right-2.ensures ∙ rw (long-right (goal.at.returns c).Else-not-length_fits, sym c.right.ensures ∙ c.if-not-right.false)
