-- What is encoded decodes to itself: the header, each record and the whole trace, and with it the notes and the list of records. The notes and the
-- records have known lengths, so the reader's places in the file are the starts of the trailer and of each record; there the bytes of a number spell
-- the number. Assumes nothing.
use Rattle.std.specs.Prelude.{Some, is_none, Ok}
use mathlib.Core.Path.{◌≡◌, refl, sym, ap, ◌∙◌}
use mathlib.Core.Bool.{true}
use mathlib.Core.List.{List, [], ◌∷◌, ◌++◌, append_assoc}
use Prim.Native.Nat.{ℕ, zero, suc, ◌+◌, ◌*◌, ◌-◌, ◌^◌, ◌≤◌, ◌<◌}
use native.Mathlib.Nat.{add-zero, mul-suc, add_comm, not-suc-le-zero, le_of_suc-le-suc}
use native.Mathlib.Numerals.{add-one}
use native.Mathlib.Omega.{arith}
use lib.ListN.{length, get_or, drop, length-append, drop_of_length-le}
use lib.Seq.{drop_at, drop-cons, drop-drop, take-append_seam, drop-append_seam, get_or-drop}
use borrow.Author.Tests.{lt-ltb, le-ltb, eq-eqb, le-leb}
use Rattle.little.specs.Little.{bytes_of}
use Rattle.little.proofs.Laws.{number_of-bytes_of}
use Rattle.model.specs.Numbers.{Numbers, in_limits}
use Rattle.trace.specs.declared.Trailer.{Trailer}
use Rattle.trace.specs.declared.Record.{Record}
use Rattle.trace.specs.declared.Record.TheVariants.{Read, Write, Flush, Drop}
use Rattle.trace.specs.Format.{number_at, trailer_length, trailer_at, recorded_on, points_back, judged, header_of}
use Rattle.trace.specs.Format.{record_of, record_in, record_at, checked_of, notes_in, records_from, records_in}
use Rattle.trace.specs.Encode.{record_bytes, records_bytes, trailer_of, trailer_bytes, trace_bytes, RecordIn, RecordsIn}
use Rattle.trace.proofs.Bytes.{number_at-drop}
use Rattle.model.proofs.Limits.{on_drive-limits}
use Rattle.trace.proofs.Records.{first_bad-fine}

-- ---- the parts of the file

pub record_bytes-length : (r : Record) → length (record_bytes r) ≡ 4
unfolding bytes_of
record_bytes-length (Read q) = refl
record_bytes-length (Write q v) = refl
record_bytes-length Flush = refl
record_bytes-length (Drop q) = refl

pub records_bytes-length : (rs : List Record) → length (records_bytes rs) ≡ 4 * length rs
records_bytes-length [] = refl
records_bytes-length (r ∷ rs) =
    rw (length-append, record_bytes-length, records_bytes-length rs, mul-suc) (add_comm 4 (4 * length rs))

pub records_bytes-append : (rs qs : List Record) → records_bytes (rs ++ qs) ≡ records_bytes rs ++ records_bytes qs
records_bytes-append [] qs = refl
records_bytes-append (r ∷ rs) qs = rw (records_bytes-append rs qs, append_assoc)

pub records_in-append : (N : ℕ) (rs qs : List Record) → RecordsIn N rs → RecordsIn N qs → RecordsIn N (rs ++ qs)
records_in-append N [] qs h k = k
records_in-append N (r ∷ rs) qs h k = (h.0, records_in-append N rs qs h.1 k)

pub trailer_bytes-length : (t : Trailer) → length (trailer_bytes t) ≡ trailer_length
unfolding trailer_bytes bytes_of
trailer_bytes-length t = refl

pub trace_bytes-length : (notes : List ℕ) (rs : List Record) (n : Numbers)
    → length (trace_bytes notes rs n) ≡ length notes + (4 * length rs + trailer_length)
unfolding trace_bytes
trace_bytes-length notes rs n = rw (length-append, length-append, records_bytes-length, trailer_bytes-length)

-- after the notes come the records, and after them the trailer
drop-notes : (notes : List ℕ) (rs : List Record) (n : Numbers)
    → drop (length notes) (trace_bytes notes rs n) ≡ records_bytes rs ++ trailer_bytes (trailer_of (length rs) n)
unfolding trace_bytes
drop-notes notes rs n = drop-append_seam notes _

drop-records : (notes : List ℕ) (rs : List Record) (n : Numbers)
    → drop (length notes + 4 * length rs) (trace_bytes notes rs n) ≡ trailer_bytes (trailer_of (length rs) n)
drop-records notes rs n = rw (← drop-drop, drop-notes) (drop_at (records_bytes rs) _ (4 * length rs) (records_bytes-length rs))

-- ---- the trailer

-- its numbers fit their bytes
record Fits (t : Trailer) : Type 0 where
  pub distance : t.distance < 256 ^ 4
  pub records : t.records < 256 ^ 4
  pub frames : t.numbers.frames < 256 ^ 2
  pub page_bytes : t.numbers.page_bytes < 256 ^ 2
  pub pages : t.numbers.pages < 256 ^ 4
  pub read_cost : t.numbers.read_cost < 256 ^ 2
  pub write_cost : t.numbers.write_cost < 256 ^ 2

trailer-fits : (k : ℕ) (n : Numbers) → in_limits (recorded_on n) ≡ true → trailer_length + 4 * k < 2 ^ 32 → Fits (trailer_of k n)
trailer-fits k n e h =
    let l = on_drive-limits _ _ n e in
    record {
      distance = h;
      records = omega arith;
      frames = omega arith;
      page_bytes = omega arith;
      pages = omega arith;
      read_cost = omega arith;
      write_cost = omega arith;
    }

trailer-decoded : (s : List ℕ) (at : ℕ) (t : Trailer) → drop at s ≡ trailer_bytes t → Fits t → trailer_at s at ≡ t
unfolding trailer_at number_at trailer_bytes bytes_of
trailer-decoded s at t e f =
    let field : (k w : ℕ) → number_at (at + k) w s ≡ number_at k w (trailer_bytes t) = λ k w. number_at-drop at k w s ∙ ap (number_at k w) e in
    let distance : number_at at 4 s ≡ t.distance = rw e (number_of-bytes_of 4 t.distance f.distance) in
    λ i. record {
      distance = distance i;
      records = (field 4 4 ∙ number_of-bytes_of 4 t.records f.records) i;
      numbers = record {
        frames = (field 8 2 ∙ number_of-bytes_of 2 t.numbers.frames f.frames) i;
        page_bytes = (field 10 2 ∙ number_of-bytes_of 2 t.numbers.page_bytes f.page_bytes) i;
        pages = (field 12 4 ∙ number_of-bytes_of 4 t.numbers.pages f.pages) i;
        read_cost = (field 16 2 ∙ number_of-bytes_of 2 t.numbers.read_cost f.read_cost) i;
        write_cost = (field 18 2 ∙ number_of-bytes_of 2 t.numbers.write_cost f.write_cost) i;
      };
    }

judged-decoded : (m k : ℕ) (n : Numbers) → in_limits (recorded_on n) ≡ true → trailer_length + 4 * k ≤ m
    → judged m (trailer_of k n) ≡ Ok (trailer_of k n)
unfolding judged points_back
judged-decoded m k n e h = rw (eq-eqb (trailer_length + 4 * k) _ refl, le-leb (trailer_length + 4 * k) m h, e)

pub decoded-header : (notes : List ℕ) (rs : List Record) (n : Numbers) → in_limits (recorded_on n) ≡ true → trailer_length + 4 * length rs < 2 ^ 32
    → header_of (trace_bytes notes rs n) ≡ Ok (trailer_of (length rs) n)
unfolding header_of
decoded-header notes rs n e h =
    let s = trace_bytes notes rs n in
    let l = trace_bytes-length notes rs n in
    let at : length s - trailer_length ≡ length notes + 4 * length rs = omega arith in
    let t = trailer-decoded s (length notes + 4 * length rs) _ (drop-records notes rs n) (trailer-fits (length rs) n e h) in
    rw (le-ltb (length s) trailer_length (omega arith), at, t) (judged-decoded (length s) (length rs) n e (omega arith))

-- ---- the records

record_in-drop : (s : List ℕ) (at N : ℕ) → record_in s at N ≡ record_in (drop at s) 0 N
unfolding record_in
record_in-drop s at N =
    let letter : get_or s at 0 ≡ get_or (drop at s) 0 0 = rw (get_or-drop, add-zero) in
    let value : get_or s (at + 1) 0 ≡ get_or (drop at s) 1 0 = sym (get_or-drop at s 1 0) in
    rw (letter, value, number_at-drop at 2 2 s)

-- a record's bytes, whatever follows them
record-decoded : (N : ℕ) (r : Record) (rest : List ℕ) → N ≤ 65536 → RecordIn N r → record_in (record_bytes r ++ rest) 0 N ≡ Some r
unfolding record_in record_of number_at bytes_of
record-decoded N (Read q) rest l h = rw (number_of-bytes_of 2 q (omega arith), lt-ltb q N h)
record-decoded N (Write q v) rest l h = rw (number_of-bytes_of 2 q (omega arith), lt-ltb q N h)
record-decoded N Flush rest l h = rw (number_of-bytes_of 2 0 (omega arith))
record-decoded N (Drop q) rest l h = rw (number_of-bytes_of 2 q (omega arith), lt-ltb q N h)

drop-record : (r : Record) (rs : List Record) (rest : List ℕ) (k : ℕ)
    → drop (4 * suc k) (records_bytes (r ∷ rs) ++ rest) ≡ drop (4 * k) (records_bytes rs ++ rest)
drop-record r rs rest k =
    rw (append_assoc, mul-suc, add_comm (4 * k) 4, ← drop-drop, drop_at (record_bytes r) _ 4 (record_bytes-length r))

records-decoded : (N : ℕ) (rs : List Record) (rest : List ℕ) → N ≤ 65536 → RecordsIn N rs → (k : ℕ) → k < length rs
    → record_in (drop (4 * k) (records_bytes rs ++ rest)) 0 N ≡ Some (get_or rs k Flush)
records-decoded N [] rest l h k i = absurd (not-suc-le-zero i)
records-decoded N (r ∷ rs) rest l h zero i = rw append_assoc (record-decoded N r (records_bytes rs ++ rest) l h.0)
records-decoded N (r ∷ rs) rest l h (suc k) i =
    rw (drop-record r rs rest k) (records-decoded N rs rest l h.1 k (le_of_suc-le-suc i))

-- record k of the file
record_in-decoded : (notes : List ℕ) (rs : List Record) (n : Numbers) → in_limits (recorded_on n) ≡ true → RecordsIn n.N rs
    → (k : ℕ) → k < length rs → record_in (trace_bytes notes rs n) (length notes + 4 * k) n.N ≡ Some (get_or rs k Flush)
record_in-decoded notes rs n e r k h =
    rw (record_in-drop, ← drop-drop, drop-notes) (records-decoded n.N rs _ (on_drive-limits _ _ n e).2 r k h)

-- where the reader starts
start-decoded : (notes : List ℕ) (rs : List Record) (n : Numbers) → length (trace_bytes notes rs n) - (trailer_length + 4 * length rs) ≡ length notes
start-decoded notes rs n = let l = trace_bytes-length notes rs n in omega arith

pub decoded-record : (notes : List ℕ) (rs : List Record) (n : Numbers) → in_limits (recorded_on n) ≡ true → RecordsIn n.N rs
    → trailer_length + 4 * length rs < 2 ^ 32 → (k : ℕ) → k < length rs → record_at (trace_bytes notes rs n) k ≡ Some (get_or rs k Flush)
unfolding record_at
decoded-record notes rs n e r h k i =
    rw (decoded-header notes rs n e h, lt-ltb k (length rs) i, start-decoded notes rs n) (record_in-decoded notes rs n e r k i)

-- ---- the whole trace

pub decoded : (notes : List ℕ) (rs : List Record) (n : Numbers) → in_limits (recorded_on n) ≡ true → RecordsIn n.N rs
    → trailer_length + 4 * length rs < 2 ^ 32 → checked_of (trace_bytes notes rs n) ≡ Ok (trailer_of (length rs) n)
unfolding checked_of
decoded notes rs n e r h =
    let none =
    first_bad-fine (trace_bytes notes rs n) n.N (length notes) 0 (length rs)
    (λ k l m. ap is_none (record_in-decoded notes rs n e r k (omega arith)))
    in
    rw (decoded-header notes rs n e h, start-decoded notes rs n, none)

-- ---- what the reader finds in the whole trace

pub decoded-notes : (notes : List ℕ) (rs : List Record) (n : Numbers) → notes_in (trace_bytes notes rs n) (trailer_of (length rs) n) ≡ notes
unfolding trace_bytes
decoded-notes notes rs n = rw (start-decoded notes rs n) (take-append_seam notes _)

-- where each of rs is found at its place, the `left` records from place k on are those of rs
records_from-drop : (s : List ℕ) (rs : List Record) → ((k : ℕ) → k < length rs → record_at s k ≡ Some (get_or rs k Flush))
    → (k left : ℕ) → k + left ≡ length rs → records_from s k left ≡ drop k rs
records_from-drop s rs f k zero h = sym (drop_of_length-le rs {i = k} (omega arith))
records_from-drop s rs f k (suc left) h =
    rw (f k (omega arith), records_from-drop s rs f (k + 1) left (omega arith), add-one) (sym (drop-cons rs k Flush (omega arith)))

pub decoded-records : (notes : List ℕ) (rs : List Record) (n : Numbers) → in_limits (recorded_on n) ≡ true → RecordsIn n.N rs
    → trailer_length + 4 * length rs < 2 ^ 32 → records_in (trace_bytes notes rs n) (trailer_of (length rs) n) ≡ rs
decoded-records notes rs n e r h = records_from-drop (trace_bytes notes rs n) rs (decoded-record notes rs n e r h) 0 (length rs) (omega arith)
