-- `reckon::choose` meets its contract. Each way out has passed the tests of `chosen_by` with the same answers; some list has a frame, so where E and D have
-- none C has one. Whether C is above the target follows by arithmetic from what was compared: of a wrong comparison the checker names a case. Assumes nothing.
use Rattle.std.proofs.Common.{◌*◌, arith, lt-ltb, le-ltb, rules}
use Rattle.model.specs.Numbers.{unit}
use Rattle.reckon.proofs.choose.Goals as goal

pub returns-then-en-gt0 : goal.returns-then-en-gt0
returns-then-en-gt0 c = (rw (lt-ltb _ _ c.if-en-gt0.true), search rules)

pub returns-then-target-clean : goal.returns-then-target-clean
returns-then-target-clean c =
    let s = c.args in
    (rw (le-ltb _ _ c.if-en-gt0.false, lt-ltb s.target (s.cn * unit) (omega arith)), search rules)

pub returns-then-dn-gt0 : goal.returns-then-dn-gt0
returns-then-dn-gt0 c =
    let s = c.args in
    (rw (le-ltb _ _ c.if-en-gt0.false, le-ltb s.target (s.cn * unit) (omega arith), lt-ltb _ _ c.if-dn-gt0.true), search rules)

pub returns : goal.returns
returns c =
    let s = c.args in
    (rw (le-ltb _ _ c.if-en-gt0.false, le-ltb s.target (s.cn * unit) (omega arith), le-ltb _ _ c.if-dn-gt0.false), search rules)
