-- The writer of trace files: when each of its calls is refused, and what it leaves, for every recorder and every buffer.
--     begin_after, add_after, close_after     what a call leaves: the recorder, what is said, every byte of the lent buffer
--     recorded_left, closed_left             what a call returned, with the buffer as it left it
-- Assumes nothing.
use Rattle.std.specs.Prelude.{Bool, not, ◌&&◌, List, [], ◌∷◌, ℕ, ◌+◌, ◌*◌, ◌^◌, leb, ltb, length, Option, is_none, Ok, Err}
use Rattle.pages.specs.Pages.{splice}
use Rattle.model.specs.Numbers.{Numbers, numbers, numbers_held, holding}
use Rattle.model.specs.Refusals.{Row, first, out_of_limits}
use Rattle.model.specs.declared.Refusal.TheVariants.{BadRecord, NoRoom}
use Rattle.model.specs.Words.{Verdict}
use Rattle.trace.specs.Format.{trailer_length, recorded_on, record_of}
use Rattle.trace.specs.Encode.{record_bytes, trailer_of, trailer_bytes}
use Rattle.trace.specs.declared.Record.{Record}
use Rattle.trace.specs.declared.Record.TheVariants.{Read, Write, Flush, Drop}
use Rattle.recorder.specs.Words.{Closing, RecorderSaid, recorded, closed, refusal_says, recording_says, closing_says}
use Rattle.recorder.specs.declared.Recorder.{Recorder}
use Rattle.recorder.specs.declared.Recorded.{Recorded}

-- ---- a recorder

-- of the numbers n, raw as they were given, with k records from byte `start` on
abbrev pub recorder_of : Numbers → ℕ → ℕ → Recorder
recorder_of n start k = record { numbers = holding n; start = start; records = k }

abbrev pub numbers_of : Recorder → Numbers
numbers_of x = numbers_held x.numbers

-- where the next record goes, or the trailer
abbrev pub end_of : Recorder → ℕ
end_of x = x.start + 4 * x.records

abbrev pub one_more : Recorder → Recorder
one_more x = recorder_of (numbers_of x) x.start (x.records + 1)

-- refused, `begin` returns this one: `add` and `close` refuse it 1
abbrev pub zero_recorder : Recorder
zero_recorder = recorder_of (numbers 0 0 0 0 0) 0 0

-- ---- the conditions: "1 for the numbers", as the reader refuses a trailer

abbrev pub wrong_numbers : Numbers → Row
wrong_numbers n = out_of_limits (recorded_on n)

-- what the reader would find for a record of a trace over N pages; none where it would refuse the record, whose page is not cut to 16 bits first
abbrev pub found_for : ℕ → Record → Option Record
found_for N (Read q) = record_of N 82 0 q
found_for N (Write q v) = record_of N 87 v q
found_for N Flush = record_of N 70 0 0
found_for N (Drop q) = record_of N 68 0 q

-- "8 for a record the reader would refuse": it would have been record k, counted from 1
abbrev pub refused_record : ℕ → ℕ → Record → Row
refused_record N k r = record { when = is_none (found_for N r); why = BadRecord k }

-- k records from byte `start` on, and the trailer, fit n bytes; and the distance fits 32 bits
unfoldable pub room_for : ℕ → ℕ → ℕ → Bool
room_for start k n = leb (start + (trailer_length + 4 * k)) n && ltb (trailer_length + 4 * k) (2 ^ 32)

-- "11 if what is there, what is added and the trailer would not fit the buffer, or the distance would pass 32 bits"
abbrev pub no_room : ℕ → ℕ → ℕ → Row
no_room start k n = record { when = not (room_for start k n); why = NoRoom }

-- ---- the order in each call, for a buffer of m bytes

abbrev pub begin_rows : Numbers → ℕ → ℕ → List Row
begin_rows n notes m = wrong_numbers n ∷ no_room notes 0 m ∷ []

abbrev pub add_rows : Recorder → Record → ℕ → List Row
add_rows x r m = wrong_numbers (numbers_of x) ∷ refused_record x.numbers.pages (x.records + 1) r ∷ no_room x.start (x.records + 1) m ∷ []

abbrev pub close_rows : Recorder → ℕ → List Row
close_rows x m = wrong_numbers (numbers_of x) ∷ no_room x.start x.records m ∷ []

unfoldable pub begin_verdict : Numbers → ℕ → ℕ → Verdict
begin_verdict n notes m = first (begin_rows n notes m)

unfoldable pub add_verdict : Recorder → Record → ℕ → Verdict
add_verdict x r m = first (add_rows x r m)

unfoldable pub close_verdict : Recorder → ℕ → Verdict
close_verdict x m = first (close_rows x m)

-- ---- what a call leaves: "bytes past it stay", and refused "buffer and recorder stay"

pub record RecorderLeft : Type 0 where
  pub recorder : Recorder
  pub said : RecorderSaid
  pub buffer : List ℕ

-- "begin with notes in a lent buffer": they are copied to its front
abbrev pub begin_if : Verdict → Numbers → List ℕ → List ℕ → RecorderLeft
begin_if (Err y) n notes buffer = record { recorder = zero_recorder; said = refusal_says y; buffer = buffer }
begin_if (Ok _) n notes buffer = record { recorder = recorder_of n (length notes) 0; said = recorded; buffer = splice 0 notes buffer }

unfoldable pub begin_after : Numbers → List ℕ → List ℕ → RecorderLeft
begin_after n notes buffer = begin_if (begin_verdict n (length notes) (length buffer)) n notes buffer

-- "add a record"
abbrev pub add_if : Verdict → Recorder → Record → List ℕ → RecorderLeft
add_if (Err y) x r buffer = record { recorder = x; said = refusal_says y; buffer = buffer }
add_if (Ok _) x r buffer = record { recorder = one_more x; said = recorded; buffer = splice (end_of x) (record_bytes r) buffer }

unfoldable pub add_after : Recorder → Record → List ℕ → RecorderLeft
add_after x r buffer = add_if (add_verdict x r (length buffer)) x r buffer

-- "close with the trailer"; the recorder stays, so a further record goes over the trailer, and a further trailer behind that
abbrev pub close_if : Verdict → Recorder → List ℕ → RecorderLeft
close_if (Err y) x buffer = record { recorder = x; said = refusal_says y; buffer = buffer }
close_if (Ok _) x buffer =
    record {
      recorder = x;
      said = closed (end_of x + trailer_length);
      buffer = splice (end_of x) (trailer_bytes (trailer_of x.records (numbers_of x))) buffer;
    }

unfoldable pub close_after : Recorder → List ℕ → RecorderLeft
close_after x buffer = close_if (close_verdict x (length buffer)) x buffer

-- ---- what a call returned

abbrev pub recorded_left : Recorded → List ℕ → RecorderLeft
recorded_left r buffer = record { recorder = r.recorder; said = recording_says r.answer; buffer = buffer }

-- `close` returns no recorder: the caller's own, which it was handed, stays
abbrev pub closed_left : Recorder → Closing → List ℕ → RecorderLeft
closed_left x r buffer = record { recorder = x; said = closing_says r; buffer = buffer }
