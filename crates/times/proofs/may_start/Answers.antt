-- `times::may_start` meets its contract: each answer no names a test that fails, and the last test is the one that is left. Assumes nothing.
use Rattle.std.proofs.Common.{sym, ◌∙◌, eq-eqb, ne_eqb}
use Rattle.times.proofs.may_start.Goals as goal

pub returns-then-not-length_fits : goal.returns-then-not-length_fits
returns-then-not-length_fits c = rw (sym c.length_fits.ensures ∙ c.if-not-length_fits.true)

pub returns-then-reads-n : goal.returns-then-reads-n
returns-then-reads-n c = rw (sym c.length_fits.ensures ∙ c.if-not-length_fits.false, ne_eqb _ _ c.if-reads-n.true)

pub returns : goal.returns
returns c = rw (sym c.length_fits.ensures ∙ c.if-not-length_fits.false, eq-eqb _ _ c.if-reads-n.false)
