-- What a call does to the lent bytes: a request by its frame and answer alone, a flush by the dirty frames, a drop by its page, so every policy shares it.
-- Assumes nothing.
use Rattle.std.specs.Prelude.{List, replicate, ℕ, ◌+◌, ◌*◌, Option, Some, None, Ok, Err}
use Rattle.pages.specs.Pages.{splice, page_of, with_page}
use Rattle.pages.specs.Memory.{written_back}
use Rattle.model.specs.declared.Victim.{Victim}
use Rattle.model.specs.declared.Victim.TheVariants.{Clean, Dirty}
use Rattle.model.specs.Words.{Answer}
use Rattle.model.specs.declared.Access.TheVariants.{Hit, Fault}

pub record Memory : Type 0 where
  pub frames : List ℕ
  pub store : List ℕ

abbrev pub memory : List ℕ → List ℕ → Memory
memory frames store = record { frames = frames; store = store }

-- the victim of frame f is put back: a dirty one's bytes go to its place in the store
abbrev pub put_back : ℕ → ℕ → Option Victim → Memory → Memory
put_back P f None m = m
put_back P f (Some (Clean q)) m = m
put_back P f (Some (Dirty q)) m = record { frames = m.frames; store = with_page P q (page_of P f m.frames) m.store }

-- page q is read from the store into frame f
abbrev pub fetched : ℕ → ℕ → ℕ → Memory → Memory
fetched P f q m = record { frames = with_page P f (page_of P q m.store) m.frames; store = m.store }

-- page q is in frame f: on a fault the victim is put back, and then the page is fetched
abbrev pub brought : ℕ → ℕ → ℕ → Answer → Memory → Memory
brought P f q (Err x) m = m
brought P f q (Ok Hit) m = m
brought P f q (Ok (Fault v)) m = fetched P f q (put_back P f v m)

-- a write replaces only the named stretch in the frame
abbrev pub overlaid : ℕ → ℕ → ℕ → List ℕ → Memory → Memory
overlaid P f start bytes m = record { frames = splice (f * P + start) bytes m.frames; store = m.store }

-- a drop of page q: "Its store bytes become zero"; "Frame memory stays"
abbrev pub wiped : ℕ → ℕ → Memory → Memory
wiped P q m = record { frames = m.frames; store = with_page P q (replicate P 0) m.store }

-- a flush writes the frames of a list, from last to first; `page` has the page of each frame
abbrev pub flushed_bytes : ℕ → List ℕ → List ℕ → Memory → Memory
flushed_bytes P page fs m = record { frames = m.frames; store = written_back P page m.frames fs m.store }
