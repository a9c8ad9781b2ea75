-- What the reader accepts, encoded, is the same bytes: `decoded` of Round, the other way round. A number that was read from w bytes, written in w bytes, is
-- these bytes, since each is below 256. So each record that is found is written as the four bytes in which it was found, and the trailer as the last
-- twenty. The distance of an accepted trailer is twenty and four for each record, so the notes, the records and the trailer are the whole file, in
-- that order and with nothing between them. Assumes nothing.
use Rattle.std.specs.Prelude.{Option, Some, None, is_none, Ok}
use mathlib.Core.Path.{◌≡◌, refl, sym, ap, ◌∙◌}
use mathlib.Core.Bool.{Bool, true, false, ◌&&◌, cond as if-else}
use mathlib.Core.List.{List, ◌∷◌, ◌++◌}
use Prim.Native.Nat.{ℕ, zero, suc, ◌+◌, ◌*◌, ◌-◌, ◌^◌, ◌≤◌, ◌<◌}
use native.Mathlib.Nat.{add-zero, mul-suc, add_comm}
use native.Mathlib.Numerals.{add-one}
use native.Mathlib.Omega.{arith}
use lib.Dec.{eqb, ltb}
use lib.ListN.{length, get_or, take, drop, length-drop, take-append-drop}
use lib.Seq.{length-take-le, drop-cons, drop-drop, take-add, take_all}
use borrow.Author.Tests.{ltb-true, eqb-true}
use Rattle.little.specs.Little.{bytes_of, AllBelow}
use Rattle.little.proofs.Laws.{all_below-take, all_below-drop, bytes_of-number_of}
use Rattle.model.proofs.Refusals.{and-both}
use Rattle.trace.specs.declared.Trailer.{Trailer}
use Rattle.trace.specs.declared.Record.{Record}
use Rattle.trace.specs.declared.Record.TheVariants.{Read, Write, Flush, Drop}
use Rattle.trace.specs.Format.{number_at, trailer_length, trailer_at, numbers_in, header_of, record_of, record_in}
use Rattle.trace.specs.Format.{start_of, record_at, checked_of, notes_in, records_from, records_in}
use Rattle.trace.specs.Encode.{record_bytes, records_bytes, trailer_of, trailer_bytes, trace_bytes, RecordIn, RecordsIn}
use Rattle.trace.proofs.Bytes.{number_at-below}
use Rattle.trace.proofs.Trailers.{header-trailer, header-accepts}
use Rattle.trace.proofs.Reading.{fine-header, fine-record, record_at-in}

-- a number that was read from w bytes is written as these bytes
number_at-bytes : (at w : ℕ) (s : List ℕ) → at + w ≤ length s → AllBelow 256 s → bytes_of w (number_at at w s) ≡ take w (drop at s)
unfolding number_at
number_at-bytes at w s h b =
    let l : length (take w (drop at s)) ≡ w = length-take-le w (drop at s) (rw length-drop (omega arith)) in
    rw l at (bytes_of-number_of (take w (drop at s)) (all_below-take 256 w (drop at s) (all_below-drop 256 at s b)))

-- and with what follows them, these are all bytes from there on
number_at-rest : (at w to : ℕ) (s : List ℕ) → at + w ≡ to → to ≤ length s → AllBelow 256 s → bytes_of w (number_at at w s) ++ drop to s ≡ drop at s
number_at-rest at w to s e h b = rw (← e, number_at-bytes at w s (omega arith) b, ← drop-drop, take-append-drop)

-- ---- the trailer

pub distance-fits : (s : List ℕ) (t : Trailer) → AllBelow 256 s → header_of s ≡ Ok t → t.distance < 2 ^ 32
unfolding trailer_at
distance-fits s t b e =
    let d : number_at (length s - trailer_length) 4 s ≡ t.distance = ap (λ u. u.distance) (header-trailer s t e) in
    rw (← d) (number_at-below (length s - trailer_length) 4 s b)

trailer_at-bytes : (s : List ℕ) (at : ℕ) → at + trailer_length ≡ length s → AllBelow 256 s → trailer_bytes (trailer_at s at) ≡ drop at s
unfolding trailer_at trailer_bytes
trailer_at-bytes s at h b =
    let last : bytes_of 2 (number_at (at + 18) 2 s) ≡ drop (at + 18) s =
    number_at-bytes (at + 18) 2 s (omega arith) b ∙ take_all 2 (drop (at + 18) s) (rw length-drop (omega arith))
    in
    let next : (k w to : ℕ) → k + w ≡ to → to ≤ trailer_length → bytes_of w (number_at (at + k) w s) ++ drop (at + to) s ≡ drop (at + k) s =
    λ k w to e l. number_at-rest (at + k) w (at + to) s (omega arith) (omega arith) b
    in
    rw (last, next 16 2 18 refl (omega arith), next 12 4 16 refl (omega arith), next 10 2 12 refl (omega arith), next 8 2 10 refl (omega arith))
    (rw (next 4 4 8 refl (omega arith)) (number_at-rest at 4 (at + 4) s refl (omega arith) b))

-- ---- a record

not-found : (r : Record) → ◌≡◌ {A = (Option Record)} None (Some r) → ⊥
not-found r e = cc

-- a record was found by a test's answer, or by what follows the test
found-by : {W : Type 0} (b : Bool) {x y : Option Record} {r : Record} → ((b ≡ true) × (x ≡ Some r) → W) → (y ≡ Some r → W) → if-else b x y ≡ Some r → W
found-by true here later e = here (refl, e)
found-by false here later e = later e

found-if : (b : Bool) (x r : Record) → if-else b (Some x) None ≡ Some r → (b ≡ true) × (x ≡ r)
found-if true x r e = (refl, cc)
found-if false x r e = absurd (not-found r e)

-- a letter, a value and a page that spell a record are those that are written for it, and its page is one of the N
record_of-bytes : (N letter value page : ℕ) (r : Record) → record_of N letter value page ≡ Some r
    → (record_bytes r ≡ letter ∷ value ∷ bytes_of 2 page) × RecordIn N r
unfolding record_of
record_of-bytes N letter value page r e =
    found-by (eqb letter 82) read
    (found-by (eqb letter 87) write (found-by (eqb letter 70) flush (found-by (eqb letter 68) dropped (λ d. absurd (not-found r d))))) e
  where
    Was : Type 0
    Was = (record_bytes r ≡ letter ∷ value ∷ bytes_of 2 page) × RecordIn N r

    read : (eqb letter 82 ≡ true) × (if-else (eqb value 0 && ltb page N) (Some (Read page)) None ≡ Some r) → Was
    read h =
        let f = found-if _ (Read page) r h.1 in
        let c = and-both (eqb value 0) (ltb page N) f.0 in
        rw (← f.1, eqb-true letter 82 h.0, eqb-true value 0 c.0) (refl, ltb-true page N c.1)

    write : (eqb letter 87 ≡ true) × (if-else (ltb page N) (Some (Write page value)) None ≡ Some r) → Was
    write h =
        let f = found-if _ (Write page value) r h.1 in
        rw (← f.1, eqb-true letter 87 h.0) (refl, ltb-true page N f.0)

    flush : (eqb letter 70 ≡ true) × (if-else (eqb value 0 && eqb page 0) (Some Flush) None ≡ Some r) → Was
    flush h =
        let f = found-if _ Flush r h.1 in
        let c = and-both (eqb value 0) (eqb page 0) f.0 in
        rw (← f.1, eqb-true letter 70 h.0, eqb-true value 0 c.0, eqb-true page 0 c.1) (refl, tt)

    dropped : (eqb letter 68 ≡ true) × (if-else (eqb value 0 && ltb page N) (Some (Drop page)) None ≡ Some r) → Was
    dropped h =
        let f = found-if _ (Drop page) r h.1 in
        let c = and-both (eqb value 0) (ltb page N) f.0 in
        rw (← f.1, eqb-true letter 68 h.0, eqb-true value 0 c.0) (refl, ltb-true page N c.1)

-- the four bytes in which a record was found are those that are written for it
record_in-bytes : (s : List ℕ) (at N : ℕ) (r : Record) → record_in s at N ≡ Some r → at + 4 ≤ length s → AllBelow 256 s
    → record_bytes r ≡ take 4 (drop at s)
unfolding record_in
record_in-bytes s at N r e h b =
    let two : suc (at + 1) ≡ at + 2 = omega arith in
    let cut : drop at s ≡ get_or s at 0 ∷ get_or s (at + 1) 0 ∷ drop (at + 2) s =
    rw (drop-cons s at 0 (omega arith), ← add-one at, drop-cons s (at + 1) 0 (omega arith), two)
    in
    rw cut (rw (number_at-bytes (at + 2) 2 s (omega arith) b) at (record_of-bytes N _ _ _ r e).0)

record_in-in : (s : List ℕ) (at N : ℕ) (r : Record) → record_in s at N ≡ Some r → RecordIn N r
unfolding record_in
record_in-in s at N r e = (record_of-bytes N _ _ _ r e).1

-- ---- the records

-- the one at place k of a trace that is not refused
found : (s : List ℕ) (t : Trailer) → checked_of s ≡ Ok t → (k : ℕ) → k < t.records → (r : Record) × (record_at s k ≡ Some r)
found s t e k h = go (record_at s k) (fine-record s t e k h)
  where
    go : (x : Option Record) → is_none x ≡ false → (r : Record) × (x ≡ Some r)
    go (Some r) d = (r, refl)
    go None d = cc

-- of the `left` records from place k on, all are found
records-length : (s : List ℕ) (t : Trailer) → checked_of s ≡ Ok t → (k left : ℕ) → k + left ≤ t.records → length (records_from s k left) ≡ left
records-length s t e k zero h = refl
records-length s t e k (suc left) h = rw (found s t e k (omega arith)).1 (ap suc (records-length s t e (k + 1) left (omega arith)))

records-in : (s : List ℕ) (t : Trailer) → checked_of s ≡ Ok t → (k left : ℕ) → k + left ≤ t.records → RecordsIn t.numbers.pages (records_from s k left)
records-in s t e k zero h = tt
records-in s t e k (suc left) h =
    let f = found s t e k (omega arith) in
    let d = sym (record_at-in s t (fine-header s t e).0 k (omega arith)) ∙ f.1 in
    rw f.1 (record_in-in s (start_of s t k) t.numbers.pages f.0 d, records-in s t e (k + 1) left (omega arith))

records-bytes : (s : List ℕ) (t : Trailer) → AllBelow 256 s → checked_of s ≡ Ok t → (k left : ℕ) → k + left ≤ t.records
    → records_bytes (records_from s k left) ≡ take (4 * left) (drop (start_of s t k) s)
records-bytes s t b e k zero h = refl
records-bytes s t b e k (suc left) h =
    let head = (fine-header s t e).0 in
    let a = header-accepts s t head in
    let f = found s t e k (omega arith) in
    let d = sym (record_at-in s t head k (omega arith)) ∙ f.1 in
    let at : start_of s t (k + 1) ≡ start_of s t k + 4 = omega arith in
    let one : record_bytes f.0 ≡ take 4 (drop (start_of s t k) s) =
    record_in-bytes s (start_of s t k) t.numbers.pages f.0 d (omega (arith, a.whole, a.within)) b
    in
    rw (f.1, one, records-bytes s t b e (k + 1) left (omega arith), at, mul-suc, add_comm (4 * left) 4, take-add, drop-drop)

pub records_in-length : (s : List ℕ) (t : Trailer) → checked_of s ≡ Ok t → length (records_in s t) ≡ t.records
records_in-length s t e = records-length s t e 0 t.records (omega arith)

pub records_in-in : (s : List ℕ) (t : Trailer) → checked_of s ≡ Ok t → RecordsIn t.numbers.pages (records_in s t)
records_in-in s t e = records-in s t e 0 t.records (omega arith)

-- ---- the whole trace

-- the trailer that is written is the one that was read
trailer_of-in : (s : List ℕ) (t : Trailer) → checked_of s ≡ Ok t → trailer_of (length (records_in s t)) (numbers_in t) ≡ t
trailer_of-in s t e =
    let l = records_in-length s t e in
    let d : trailer_length + 4 * length (records_in s t) ≡ t.distance = rw l (sym (header-accepts s t (fine-header s t e).0).whole) in
    λ i. record {
      distance = d i;
      records = l i;
      numbers = t.numbers;
    }

pub encoded : (s : List ℕ) (t : Trailer) → AllBelow 256 s → checked_of s ≡ Ok t
    → trace_bytes (notes_in s t) (records_in s t) (numbers_in t) ≡ s
unfolding trace_bytes
encoded s t b e =
    let head = (fine-header s t e).0 in
    let a = header-accepts s t head in
    let start = length s - t.distance in
    let end : length s - trailer_length ≡ start + 4 * t.records = omega (arith, a.whole, a.within) in
    let trailer : trailer_bytes t ≡ drop (start + 4 * t.records) s =
    ap trailer_bytes (sym (header-trailer s t head)) ∙ rw end (trailer_at-bytes s (start + 4 * t.records) (omega (arith, a.whole, a.within)) b)
    in
    let records : records_bytes (records_in s t) ≡ take (4 * t.records) (drop start s) =
    rw add-zero at (records-bytes s t b e 0 t.records (omega arith))
    in
    rw (trailer_of-in s t e, trailer, records, ← drop-drop, take-append-drop, take-append-drop)
