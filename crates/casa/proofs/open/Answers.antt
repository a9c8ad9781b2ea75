-- `casa::open` meets its contract, by three ways to come: both costs 0 mean the usual drive; one of them 0, or none, mean themselves. Assumes nothing.
use Rattle.std.proofs.Common.{◌∙◌, ⊎_elim}
use Rattle.casa.proofs.Opening.{open-usual, open-read-cost, open-write-cost}
use Rattle.casa.proofs.open.Goals as goal

pub returns-then-numbers-eq0-2 : goal.returns-then-numbers-eq0-2
returns-then-numbers-eq0-2 c = c.open_with.ensures ∙ open-usual _ _ _ _ _ c.if-numbers-eq0.true c.if-numbers-eq0-2.true

pub returns : goal.returns
returns c =
    c.open_with-2.ensures
    ∙ ⊎_elim (λ e. open-write-cost _ _ _ _ _ e.0 e.1) (λ d. open-read-cost _ _ _ _ _ d) c.else-numbers-eq0.either
