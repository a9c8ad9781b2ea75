-- Runs of a recorder, and what it is to record the calls of a pool and to run a trace, over any policy.
--     after_adds, kept      records that are added one after the other, refused ones among them, and those that were not refused
--     Reads                bytes that the reader accepts, and what it reads in them
--     records_of            the record of a served call
--     after_recording       a run of calls that are served and recorded
--     call_of               the call that a record stands for
--     shown                what a run shows of a served call
--     AsOpened             calls that had the opened costs, or were refused for their kept numbers
-- Assumes nothing.
use Rattle.std.specs.Prelude.{◌≡◌, true, List, [], ◌∷◌, ◌++◌, ℕ, length, get_or, Result, Ok, Err}
use Rattle.pages.specs.Pages.{page_of}
use Rattle.model.specs.Numbers.{Numbers}
use Rattle.model.specs.Words.{Verdict, Said}
use Rattle.model.specs.Policy.{Policy}
use Rattle.model.specs.Times.{Times, unmeasured, as_opened}
use Rattle.model.specs.Run.{Call, read, write, flush, drop, total, times_of, World, verdict_of, outcome_of, written_in, left, after}
use Rattle.model.specs.declared.Op.TheVariants.{Write as Writes}
use Rattle.model.specs.declared.Refusal.{Refusal}
use Rattle.trace.specs.Format.{numbers_in, checked_of, notes_in, records_in}
use Rattle.trace.specs.Encode.{trailer_of}
use Rattle.trace.specs.declared.Record.{Record}
use Rattle.trace.specs.declared.Record.TheVariants.{Read, Write, Flush, Drop}
use Rattle.recorder.specs.Words.{refusal_says}
use Rattle.recorder.specs.Calls.{RecorderLeft, add_verdict, add_after, close_after}
use Rattle.recorder.specs.declared.Recorder.{Recorder}

-- ---- a recorder and its buffer, which nobody else touches

pub record Tape : Type 0 where
  pub recorder : Recorder
  pub buffer : List ℕ

abbrev pub tape : Recorder → List ℕ → Tape
tape x buffer = record { recorder = x; buffer = buffer }

abbrev pub tape_of : RecorderLeft → Tape
tape_of l = tape l.recorder l.buffer

abbrev pub after_add : Tape → Record → Tape
after_add x r = tape_of (add_after x.recorder r x.buffer)

abbrev pub after_adds : Tape → List Record → Tape
after_adds x [] = x
after_adds x (r ∷ rs) = after_adds (after_add x r) rs

abbrev pub after_close : Tape → Tape
after_close x = tape_of (close_after x.recorder x.buffer)

abbrev pub kept_by : Verdict → Record → List Record
kept_by (Err y) r = []
kept_by (Ok _) r = r ∷ []

-- those that are not refused
abbrev pub kept : Tape → List Record → List Record
kept x [] = []
kept x (r ∷ rs) = kept_by (add_verdict x.recorder r (length x.buffer)) r ++ kept (after_add x r) rs

-- bytes that the reader accepts, and reads as these notes, records and numbers
pub record Reads (s notes : List ℕ) (rs : List Record) (n : Numbers) : Type 0 where
  pub accepted : checked_of s ≡ Ok (trailer_of (length rs) n)
  pub notes_same : notes_in s (trailer_of (length rs) n) ≡ notes
  pub records_same : records_in s (trailer_of (length rs) n) ≡ rs
  pub numbers_same : numbers_in (trailer_of (length rs) n) ≡ n

-- ---- what a run of calls brings, by model's `gathered`, which asks the served ones alone

module _ (π : Policy) where
  -- "For a write the record's value is byte 0 of the page after the call."
  abbrev pub value_of : World π.State → Times → ℕ → ℕ → List ℕ → ℕ
  value_of x t q start bytes =
      let o = outcome_of π Writes x t q in
      get_or (page_of (π.numbers x.state).P o.frame (written_in π x q start bytes o).frames) 0 0

  -- a total is no served call: it has no record
  abbrev pub records_of : World π.State → Call → List Record
  records_of x (read t q out) = Read q ∷ []
  records_of x (write t q start bytes) = Write q (value_of x t q start bytes) ∷ []
  records_of x flush = Flush ∷ []
  records_of x (drop q) = Drop q ∷ []
  records_of x total = []

  -- what is said, "hits, victims", and the state that is left, "lists, target and counts"
  pub record Shown : Type 0 where
    pub said : Said
    pub state : π.State

  abbrev pub shown_of : World π.State → Call → List Shown
  shown_of x c = record { said = (left π x c).said; state = (left π x c).state } ∷ []

  abbrev pub shown : World π.State → Call → List Shown
  shown x (read t q out) = shown_of x (read t q out)
  shown x (write t q start bytes) = shown_of x (write t q start bytes)
  shown x flush = shown_of x flush
  shown x (drop q) = shown_of x (drop q)
  shown x total = []

-- ---- a call that is served and recorded at once: a refused call records nothing, and the recorder's answer is the call's refusal; a call that is served stays
-- served though its record is refused

-- whether a call was refused, by its answer
abbrev pub answer_verdict : {T : Type 0} → Result T Refusal → Verdict
answer_verdict (Err x) = Err x
answer_verdict (Ok t) = Ok tt

abbrev pub recorded_by : Verdict → Record → Tape → RecorderLeft
recorded_by (Err y) r x = record { recorder = x.recorder; said = refusal_says y; buffer = x.buffer }
recorded_by (Ok _) r x = add_after x.recorder r x.buffer

module _ (π : Policy) where
  -- the recorder after a call; a total leaves it
  abbrev pub after_recorded : World π.State → Call → Tape → Tape
  after_recorded w (read t q out) x = tape_of (recorded_by (verdict_of π w (read t q out)) (Read q) x)
  after_recorded w (write t q start bytes) x = tape_of (recorded_by (verdict_of π w (write t q start bytes)) (Write q (value_of π w t q start bytes)) x)
  after_recorded w flush x = tape_of (recorded_by (verdict_of π w flush) Flush x)
  after_recorded w (drop q) x = tape_of (recorded_by (verdict_of π w (drop q)) (Drop q) x)
  after_recorded w total x = x

  -- a run of calls that are all recorded
  abbrev pub after_recording : World π.State → List Call → Tape → Tape
  after_recording w [] x = x
  after_recording w (c ∷ cs) x = after_recording (after π w c) cs (after_recorded w c x)

-- ---- a run of a trace: "W: value goes to byte 0 of the page"; reads go to the output `out`

abbrev pub call_of : List ℕ → Record → Call
call_of out (Read q) = read unmeasured q out
call_of out (Write q v) = write unmeasured q 0 (v ∷ [])
call_of out Flush = flush
call_of out (Drop q) = drop q

abbrev pub calls_of : List ℕ → List Record → List Call
calls_of out [] = []
calls_of out (r ∷ rs) = call_of out r ∷ calls_of out rs

-- "CR 2's rerun holds only without reports": a trace has no times, so what was recorded must have had the opened costs; a call that was refused for its kept
-- numbers records nothing
abbrev pub AsOpened : List Call → Type 0
AsOpened [] = Unit {0}
AsOpened (c ∷ cs) = (as_opened (times_of c) ≡ true) × AsOpened cs
