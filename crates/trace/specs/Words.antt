-- What the answers on traces say in the scope's numbers and values.
-- Assumes nothing.
use Rattle.std.specs.Prelude.{ℕ, List, [], ◌∷◌, Option, Some, None, Ok, Err}
use Rattle.model.specs.Words.{number_of, named_by}
use Rattle.trace.specs.declared.Record.{Record}
use Rattle.trace.specs.declared.Record.TheVariants.{Read, Write, Flush, Drop}
use Rattle.trace.specs.Format.{Checked}

pub data TraceSaid : Type 0 where
  -- the refusal's number, and for 8 the record
  refused : ℕ → List ℕ → TraceSaid
  -- the seven numbers of the trailer, in the file's order
  fine : List ℕ → TraceSaid

abbrev pub checked_says : Checked → TraceSaid
checked_says (Err x) = refused (number_of x) (named_by x)
checked_says (Ok t) =
    fine (t.distance ∷ t.records ∷ t.numbers.frames ∷ t.numbers.page_bytes ∷ t.numbers.pages ∷ t.numbers.read_cost ∷ t.numbers.write_cost ∷ [])

-- letter, value and page; nothing where there is no record
abbrev pub record_says : Record → List ℕ
record_says (Read q) = 82 ∷ 0 ∷ q ∷ []
record_says (Write q v) = 87 ∷ v ∷ q ∷ []
record_says Flush = 70 ∷ 0 ∷ 0 ∷ []
record_says (Drop q) = 68 ∷ 0 ∷ q ∷ []

abbrev pub next_says : Option Record → List ℕ
next_says (Some r) = record_says r
next_says None = []
