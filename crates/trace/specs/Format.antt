-- The format of trace files, as it is read. All numbers are little-endian.
--
--     notes, any bytes | records of 4 bytes | trailer of 20 bytes
--     record:   letter 1, value 1, page 2
--     trailer:  distance 4, records 4, b 2, P 2, N 4, r 2, w 2
--
-- The distance goes from the end of the file back to the first record.
-- Assumes nothing.
use Rattle.std.specs.Prelude.{ℕ, zero, suc, ◌+◌, ◌*◌, ◌-◌, Bool, not, ◌&&◌, cond as if-else, List, [], ◌∷◌, ◌++◌, eqb, leb, ltb, length, get_or}
use Rattle.std.specs.Prelude.{take, drop, Option, Some, None, is_none, option_to_list, Result, Ok, Err}
use Rattle.little.specs.Little.{number_of}
use Rattle.model.specs.Numbers.{Numbers, numbers_held, on_drive}
use Rattle.model.specs.Refusals.{Row, first, out_of_limits}
use Rattle.model.specs.Words.{named_by}
use Rattle.model.specs.declared.Refusal.{Refusal}
use Rattle.model.specs.declared.Refusal.TheVariants.{NotATrace, BadRecord}
use Rattle.model.specs.Words.{Verdict}
use Rattle.trace.specs.declared.Trailer.{Trailer}
use Rattle.trace.specs.declared.Record.{Record}
use Rattle.trace.specs.declared.Record.TheVariants.{Read, Write, Flush, Drop}

-- the number of n bytes from byte `at` on
unfoldable pub number_at : ℕ → ℕ → List ℕ → ℕ
number_at at n s = number_of (take n (drop at s))

-- ---- the trailer

abbrev pub trailer_length : ℕ
trailer_length = 20

-- the trailer that starts at byte `at`
unfoldable pub trailer_at : List ℕ → ℕ → Trailer
trailer_at s at =
    record {
      distance = number_at at 4 s;
      records = number_at (at + 4) 4 s;
      numbers =
          record {
            frames = number_at (at + 8) 2 s;
            page_bytes = number_at (at + 10) 2 s;
            pages = number_at (at + 12) 4 s;
            read_cost = number_at (at + 16) 2 s;
            write_cost = number_at (at + 18) 2 s;
          };
    }

abbrev pub numbers_in : Trailer → Numbers
numbers_in t = numbers_held t.numbers

-- "stored files were recorded on 1 and 4"
abbrev pub recorded_read : ℕ
recorded_read = 1

abbrev pub recorded_write : ℕ
recorded_write = 4

-- the numbers that a trace with n in its trailer was recorded with: "must turn 0, 0 into these before opening"
abbrev pub recorded_on : Numbers → Numbers
recorded_on n = on_drive recorded_read recorded_write n

-- "The distance is 20 + 4 × records as whole numbers", and not beyond a file of n bytes
unfoldable pub points_back : ℕ → ℕ → ℕ → Bool
points_back n distance records = eqb distance (trailer_length + 4 * records) && leb distance n

-- ---- refusals 7 and 1, in that order

-- a trailer, or why a trace is refused
abbrev pub Checked : Type 0
Checked = Result Trailer Refusal

abbrev pub not_a_trace : Bool → Row
not_a_trace fine = record { when = not fine; why = NotATrace }

-- of a file of n bytes with trailer t
abbrev pub trailer_rows : ℕ → Trailer → List Row
trailer_rows n t = not_a_trace (points_back n t.distance t.records) ∷ out_of_limits (recorded_on (numbers_in t)) ∷ []

abbrev pub checked_by : Verdict → Trailer → Checked
checked_by (Err x) t = Err x
checked_by (Ok _) t = Ok t

unfoldable pub judged : ℕ → Trailer → Checked
judged n t = checked_by (first (trailer_rows n t)) t

unfoldable pub header_of : List ℕ → Checked
header_of s = if-else (ltb (length s) trailer_length) (Err NotATrace) (judged (length s) (trailer_at s (length s - trailer_length)))

-- ---- records

-- "R: value 0. W: value goes to byte 0 of the page. F: value 0, page 0." "the letter D with value 0". Of a store of N pages; none where 8 refuses the record
unfoldable pub record_of : ℕ → ℕ → ℕ → ℕ → Option Record
record_of N letter value page =
    if-else (eqb letter 82) (if-else (eqb value 0 && ltb page N) (Some (Read page)) None)
    (if-else (eqb letter 87) (if-else (ltb page N) (Some (Write page value)) None)
    (if-else (eqb letter 70) (if-else (eqb value 0 && eqb page 0) (Some Flush) None)
    (if-else (eqb letter 68) (if-else (eqb value 0 && ltb page N) (Some (Drop page)) None) None)))

-- the record whose four bytes start at byte `at`
unfoldable pub record_in : List ℕ → ℕ → ℕ → Option Record
record_in s at N = record_of N (get_or s at 0) (get_or s (at + 1) 0) (number_at (at + 2) 2 s)

-- the byte at which record k starts, counted from 0
abbrev pub start_of : List ℕ → Trailer → ℕ → ℕ
start_of s t k = length s - t.distance + 4 * k

abbrev pub record_by : Checked → List ℕ → ℕ → Option Record
record_by (Err x) s k = None
record_by (Ok t) s k = if-else (ltb k t.records) (record_in s (start_of s t k) t.numbers.pages) None

-- what the reader finds at place k
unfoldable pub record_at : List ℕ → ℕ → Option Record
record_at s k = record_by (header_of s) s k

-- ---- refusal 8, after 7 and 1

-- the place after the record at place k; where there is none, the same place
unfoldable pub place_after : List ℕ → ℕ → ℕ
place_after s k = if-else (is_none (record_at s k)) k (k + 1)

-- the number, from 1, of the first bad one among the `left` records that follow k others from byte `start` on
unfoldable pub first_bad : List ℕ → ℕ → ℕ → ℕ → ℕ → Option ℕ
first_bad s N start k zero = None
first_bad s N start k (suc left) = if-else (is_none (record_in s (start + 4 * k) N)) (Some (k + 1)) (first_bad s N start (k + 1) left)

abbrev pub bad_in : List ℕ → Trailer → Option ℕ
bad_in s t = first_bad s t.numbers.pages (length s - t.distance) 0 t.records

-- of a trailer that is not refused, and the first bad record
abbrev pub checked_records : Trailer → Option ℕ → Checked
checked_records t None = Ok t
checked_records t (Some k) = Err (BadRecord k)

abbrev pub checked_all : Checked → List ℕ → Checked
checked_all (Err x) s = Err x
checked_all (Ok t) s = checked_records t (bad_in s t)

-- a whole trace: refusals 7, 1 and 8, in that order
unfoldable pub checked_of : List ℕ → Checked
checked_of s = checked_all (header_of s) s

-- ---- the whole of what a reader finds in a trace with trailer t that is not refused

abbrev pub notes_in : List ℕ → Trailer → List ℕ
notes_in s t = take (length s - t.distance) s

-- the `left` records from place k on
abbrev pub records_from : List ℕ → ℕ → ℕ → List Record
records_from s k zero = []
records_from s k (suc left) = option_to_list (record_at s k) ++ records_from s (k + 1) left

abbrev pub records_in : List ℕ → Trailer → List Record
records_in s t = records_from s 0 t.records

-- ---- a reader that the library made

-- where it begins: at place 0, or where 8 names record k, counted from 1, at the place of that record. "A refused trace yields no records": at that place
-- there is none, so the reader stays; and where 7 or 1 refuses the trace there is none at any place
abbrev pub place_by : Checked → ℕ
place_by (Err x) = get_or (named_by x) 0 1 - 1
place_by (Ok t) = 0

unfoldable pub first_place : List ℕ → ℕ
first_place s = place_by (checked_of s)

-- the place of one that was moved n times
abbrev pub place_after_moves : List ℕ → ℕ → ℕ
place_after_moves s zero = first_place s
place_after_moves s (suc n) = place_after s (place_after_moves s n)
