-- Which served call last read or wrote a page, told by the served calls of a run, without the numbers that a state carries.
--     referencing      what a served call references
--     last_reference    the number of the last call of a run that read or wrote a page
-- Assumes nothing.
use Rattle.std.specs.Prelude.{cond as if-else, List, [], ◌∷◌, ℕ, ◌+◌, eqb}
use Rattle.model.specs.Policy.{Policy}
use Rattle.model.specs.Run.{Call, read, write, flush, drop, total, World, gathered}

-- a page, or none
pub data Reference : Type 0 where
  page : ℕ → Reference
  none : Reference

-- a flush or a drop is a served call that references no page; a total is no served call
abbrev pub referencing : Call → List Reference
referencing (read t q out) = page q ∷ []
referencing (write t q start bytes) = page q ∷ []
referencing flush = none ∷ []
referencing (drop q) = none ∷ []
referencing total = []

-- of served calls with the numbers from n + 1 on, the number of the last that references page q; `last` where there is none
abbrev pub last_from : ℕ → ℕ → ℕ → List Reference → ℕ
last_from q n last [] = last
last_from q n last (page p ∷ rs) = last_from q (n + 1) (if-else (eqb p q) (n + 1) last) rs
last_from q n last (none ∷ rs) = last_from q (n + 1) last rs

-- "the number of the served call that last read or wrote" page q since opening, counted from 1; 0 where none did
abbrev pub last_reference : (π : Policy) → World π.State → List Call → ℕ → ℕ
last_reference π x cs q = last_from q 0 0 (gathered π (λ y c. referencing c) x cs)
