-- `times::verdict` meets its contract. Each return is the row of the table whose condition holds, with those before it false. Assumes nothing.
use Rattle.std.proofs.Common.{◌≡◌, sym, ◌∙◌, true, false, eqb}
use borrow.Author.Tests.{eq-eqb, ne_eqb}
use Rattle.times.specs.Reports.{windows, windows_right}
use Rattle.times.proofs.verdict.Goals as goal
use Rattle.times.proofs.verdict.Goals.{Else-not-kept_true}

-- behind the first test
true-of-both : (c : Else-not-kept_true) → let a = c.args in windows_right (windows a.kept a.reads.now a.writes.now) ≡ true
true-of-both c = sym c.both_right-kept_true.ensures ∙ c.if-not-kept_true.false

pub returns-then-not-kept_true : goal.returns-then-not-kept_true
returns-then-not-kept_true c = rw (sym c.both_right-kept_true.ensures ∙ c.if-not-kept_true.true)

pub returns-then-not-some_time : goal.returns-then-not-some_time
returns-then-not-some_time c =
    let none : eqb c.args.time 0 ≡ true = eq-eqb _ _ c.if-not-some_time.true in
    rw (true-of-both (goal.at.returns-then-not-some_time c).Else-not-kept_true, none)

pub returns : goal.returns
returns c =
    let some : eqb c.args.time 0 ≡ false = ne_eqb _ _ c.if-not-some_time.false in
    rw (true-of-both (goal.at.returns c).Else-not-kept_true, some)
