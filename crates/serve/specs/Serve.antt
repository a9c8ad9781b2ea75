-- What the bytes' part of a request asks of its answer.
-- Assumes nothing.
use Rattle.std.specs.Prelude.{ℕ, Some, None, Ok, Err}
use Rattle.pages.specs.Pages.{InPages}
use Rattle.model.specs.declared.Victim.TheVariants.{Clean, Dirty}
use Rattle.model.specs.Words.{Answer}
use Rattle.model.specs.declared.Access.TheVariants.{Hit, Fault}

-- a dirty victim's page lies within n bytes of store
abbrev pub AnswerIn : ℕ → Answer → ℕ → Type 0
AnswerIn P (Err x) n = Unit {0}
AnswerIn P (Ok Hit) n = Unit {0}
AnswerIn P (Ok (Fault None)) n = Unit {0}
AnswerIn P (Ok (Fault (Some (Clean q)))) n = Unit {0}
AnswerIn P (Ok (Fault (Some (Dirty q)))) n = InPages P q n
