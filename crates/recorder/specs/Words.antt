-- What the answers of a recorder say in the scope's numbers and values.
-- Assumes nothing.
use Rattle.std.specs.Prelude.{ℕ, List, Result, Ok, Err}
use Rattle.model.specs.Words.{Verdict, number_of, named_by}
use Rattle.model.specs.declared.Refusal.{Refusal}

pub data RecorderSaid : Type 0 where
  -- the refusal's number, and for 8 the record
  refused : ℕ → List ℕ → RecorderSaid
  recorded : RecorderSaid
  -- how many bytes the trace has
  closed : ℕ → RecorderSaid

abbrev pub refusal_says : Refusal → RecorderSaid
refusal_says x = refused (number_of x) (named_by x)

abbrev pub recording_says : Verdict → RecorderSaid
recording_says (Err x) = refusal_says x
recording_says (Ok _) = recorded

-- what `close` answers
abbrev pub Closing : Type 0
Closing = Result ℕ Refusal

abbrev pub closing_says : Closing → RecorderSaid
closing_says (Err x) = refusal_says x
closing_says (Ok n) = closed n
