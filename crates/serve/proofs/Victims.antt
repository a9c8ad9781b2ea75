-- What an answer asks of the store holds of a victim that is a page of it. Assumes nothing.
use Rattle.std.specs.Prelude.{Some, None, Ok, Err}
use mathlib.Core.Path.{◌≡◌}
use Prim.Native.Nat.{ℕ, ◌*◌}
use Rattle.pages.proofs.Pages.{page-in}
use Rattle.model.specs.declared.Victim.TheVariants.{Clean, Dirty}
use Rattle.model.specs.Words.{Answer}
use Rattle.model.specs.declared.Access.TheVariants.{Hit, Fault}
use Rattle.model.proofs.Outcomes.{VictimBelow}
use Rattle.serve.specs.Serve.{AnswerIn}

-- a victim below N lies within a store of N pages
pub answer-in : (P N n : ℕ) (a : Answer) → n ≡ N * P → VictimBelow N a → AnswerIn P a n
answer-in P N n (Err x) e h = tt
answer-in P N n (Ok Hit) e h = tt
answer-in P N n (Ok (Fault None)) e h = tt
answer-in P N n (Ok (Fault (Some (Clean q)))) e h = tt
answer-in P N n (Ok (Fault (Some (Dirty q)))) e h = page-in P q N n e h
