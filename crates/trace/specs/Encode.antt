-- The format of trace files, as it is written: what is encoded decodes to itself.
-- Assumes nothing.
use Rattle.std.specs.Prelude.{ℕ, ◌+◌, ◌*◌, ◌<◌, List, [], ◌∷◌, ◌++◌, length}
use Rattle.little.specs.Little.{bytes_of}
use Rattle.model.specs.Numbers.{Numbers, holding}
use Rattle.trace.specs.declared.Trailer.{Trailer}
use Rattle.trace.specs.declared.Record.{Record}
use Rattle.trace.specs.declared.Record.TheVariants.{Read, Write, Flush, Drop}
use Rattle.trace.specs.Format.{trailer_length}

abbrev pub record_bytes : Record → List ℕ
record_bytes (Read q) = 82 ∷ 0 ∷ bytes_of 2 q
record_bytes (Write q v) = 87 ∷ v ∷ bytes_of 2 q
record_bytes Flush = 70 ∷ 0 ∷ bytes_of 2 0
record_bytes (Drop q) = 68 ∷ 0 ∷ bytes_of 2 q

abbrev pub records_bytes : List Record → List ℕ
records_bytes [] = []
records_bytes (r ∷ rs) = record_bytes r ++ records_bytes rs

-- the trailer of k records and the numbers of a pool
abbrev pub trailer_of : ℕ → Numbers → Trailer
trailer_of k n =
    record {
      distance = trailer_length + 4 * k;
      records = k;
      numbers = holding n;
    }

unfoldable pub trailer_bytes : Trailer → List ℕ
trailer_bytes t =
    bytes_of 4 t.distance
    ++ (bytes_of 4 t.records
    ++ (bytes_of 2 t.numbers.frames
    ++ (bytes_of 2 t.numbers.page_bytes ++ (bytes_of 4 t.numbers.pages ++ (bytes_of 2 t.numbers.read_cost ++ bytes_of 2 t.numbers.write_cost)))))

unfoldable pub trace_bytes : List ℕ → List Record → Numbers → List ℕ
trace_bytes notes rs n = notes ++ (records_bytes rs ++ trailer_bytes (trailer_of (length rs) n))

-- a record that a trace over N pages may have, its value being a byte
abbrev pub RecordIn : ℕ → Record → Type 0
RecordIn N (Read q) = q < N
RecordIn N (Write q v) = q < N
RecordIn N Flush = Unit {0}
RecordIn N (Drop q) = q < N

abbrev pub RecordsIn : ℕ → List Record → Type 0
RecordsIn N [] = Unit {0}
RecordsIn N (r ∷ rs) = RecordIn N r × RecordsIn N rs
