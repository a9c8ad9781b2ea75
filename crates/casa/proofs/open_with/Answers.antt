-- `casa::open_with` meets its contract, by the test on the numbers: refused, it returns the pool with no frames, which is all zeros. Assumes nothing.
use Rattle.std.proofs.Common.{◌≡◌, sym, ap, ◌∙◌, rules}
use Rattle.model.specs.Numbers.{numbers_held}
use Rattle.model.specs.declared.Numbers.{Numbers}
use Rattle.model.specs.State.{opened}
use Rattle.pool.specs.Pool.{pool_of}
use Rattle.model.proofs.Limits.{in_limits-limits}
use Rattle.casa.proofs.Opening.{open-refused, open-fine}
use Rattle.casa.proofs.open_with.Goals as goal

pub returns-then-not-in_limits : goal.returns-then-not-in_limits
returns-then-not-in_limits c =
    let zero : c.default.result ≡ record { frames = 0; page_bytes = 0; pages = 0; read_cost = 0; write_cost = 0 } = search rules in
    open-refused _ c.fresh.result (sym c.in_limits.ensures ∙ c.if-not-in_limits.true)
    (c.fresh.ensures ∙ ap (λ (n : Numbers). pool_of (opened (numbers_held n))) zero)

pub fresh-requires-2 : goal.fresh-requires-2
fresh-requires-2 c =
    (in_limits-limits (numbers_held c.args.numbers)
    (sym c.in_limits.ensures ∙ c.if-not-in_limits.false)).b_high

pub returns : goal.returns
returns c =
    let fresh2 = c.fresh-2 in
    open-fine _ fresh2.result (sym c.in_limits.ensures ∙ c.if-not-in_limits.false) fresh2.ensures
