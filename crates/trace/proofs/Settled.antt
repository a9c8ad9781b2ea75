-- The promises on traces settle the answers: no two answers say the same, so two answers that a promise allows are equal. Assumes nothing.
use Rattle.std.specs.Prelude.{Option, Some, None, Ok, Err}
use mathlib.Core.Bool.{cond as if-else}
use mathlib.Core.Path.{◌≡◌, refl, sym, ap, ◌∙◌}
use mathlib.Core.List.{List}
use Prim.Native.Nat.{ℕ}
use lib.Dec.{eqb}
use lib.ListN.{get_or}
use denote.Ref.{Bor}
use Rattle.model.proofs.Words.{refusal-one-to-one}
use Rattle.trace.specs.declared.Record.TheVariants.{Read, Write, Flush, Drop}
use Rattle.trace.specs.declared.Record.{Record}
use Rattle.trace.specs.declared.reader.Reader.{Reader}
use Rattle.trace.specs.Format.{Checked, header_of, record_at, checked_of, place_after, first_place}
use Rattle.trace.specs.Words.{checked_says, next_says}

-- ---- what is said of a trace

pub checked-one-to-one : (x y : Checked) → checked_says x ≡ checked_says y → x ≡ y
checked-one-to-one (Err x) (Err y) e = ap Err (refusal-one-to-one x y (cc))
checked-one-to-one (Err x) (Ok u) e = cc
checked-one-to-one (Ok t) (Err y) e = cc
checked-one-to-one (Ok t) (Ok u) e =
    let distance : t.distance ≡ u.distance = cc in
    let records : t.records ≡ u.records = cc in
    let frames : t.numbers.frames ≡ u.numbers.frames = cc in
    let page_bytes : t.numbers.page_bytes ≡ u.numbers.page_bytes = cc in
    let pages : t.numbers.pages ≡ u.numbers.pages = cc in
    let read_cost : t.numbers.read_cost ≡ u.numbers.read_cost = cc in
    let write_cost : t.numbers.write_cost ≡ u.numbers.write_cost = cc in
    λ i. Ok record {
      distance = distance i;
      records = records i;
      numbers = record { frames = frames i; page_bytes = page_bytes i; pages = pages i; read_cost = read_cost i; write_cost = write_cost i };
    }

pub header-settled : (s : List ℕ) (x y : Checked) → checked_says x ≡ checked_says (header_of s) → checked_says y ≡ checked_says (header_of s) → x ≡ y
header-settled s x y a b = checked-one-to-one x y (a ∙ sym b)

pub check-settled : (s : List ℕ) (x y : Checked) → checked_says x ≡ checked_says (checked_of s) → checked_says y ≡ checked_says (checked_of s) → x ≡ y
check-settled s x y a b = checked-one-to-one x y (a ∙ sym b)

-- ---- what is said of a place: it leads back to what was found

abbrev next_by : ℕ → ℕ → ℕ → Option Record
next_by letter value page =
    if-else (eqb letter 82) (Some (Read page))
    (if-else (eqb letter 87) (Some (Write page value))
    (if-else (eqb letter 70) (Some Flush)
    (if-else (eqb letter 68) (Some (Drop page)) None)))

abbrev next_in : List ℕ → Option Record
next_in said = next_by (get_or said 0 0) (get_or said 1 0) (get_or said 2 0)

next-home : (x : Option Record) → next_in (next_says x) ≡ x
next-home (Some (Read q)) = refl
next-home (Some (Write q v)) = refl
next-home (Some Flush) = refl
next-home (Some (Drop q)) = refl
next-home None = refl

pub next-one-to-one : (x y : Option Record) → next_says x ≡ next_says y → x ≡ y
next-one-to-one x y e = sym (next-home x) ∙ ap next_in e ∙ next-home y

pub record-at-settled : (s : List ℕ) (k : ℕ) (x y : Option Record) → next_says x ≡ next_says (record_at s k) → next_says y ≡ next_says (record_at s k) → x ≡ y
record-at-settled s k x y a b = next-one-to-one x y (a ∙ sym b)

pub place-after-settled : (s : List ℕ) (k x y : ℕ) → x ≡ place_after s k → y ≡ place_after s k → x ≡ y
place-after-settled s k x y a b = a ∙ sym b

pub first-place-settled : (s : List ℕ) (x y : ℕ) → x ≡ first_place s → y ≡ first_place s → x ≡ y
first-place-settled s x y a b = a ∙ sym b

-- ---- what is said of a reader

pub reader-one-to-one : (x y : Reader) → x.trace ≡ y.trace → x.place ≡ y.place → x ≡ y
reader-one-to-one x y t p i = record { trace = t i; place = p i }

pub new-settled : (trace : Bor (List ℕ)) (x y : Reader) → (x.trace ≡ trace) × (x.place ≡ first_place trace.now)
    → (y.trace ≡ trace) × (y.place ≡ first_place trace.now) → x ≡ y
new-settled trace x y a b = reader-one-to-one x y (a.0 ∙ sym b.0) (a.1 ∙ sym b.1)

pub moved-settled : (r x y : Reader) → (x.trace ≡ r.trace) × (x.place ≡ place_after r.trace.now r.place)
    → (y.trace ≡ r.trace) × (y.place ≡ place_after r.trace.now r.place) → x ≡ y
moved-settled r x y a b = reader-one-to-one x y (a.0 ∙ sym b.0) (a.1 ∙ sym b.1)

pub next-settled : (r : Reader) (x y : Option Record) → next_says x ≡ next_says (record_at r.trace.now r.place)
    → next_says y ≡ next_says (record_at r.trace.now r.place) → x ≡ y
next-settled r x y a b = next-one-to-one x y (a ∙ sym b)

pub nth-settled : (trace : Bor (List ℕ)) (k : ℕ) (x y : Option Record) → next_says x ≡ next_says (record_at trace.now k)
    → next_says y ≡ next_says (record_at trace.now k) → x ≡ y
nth-settled trace k x y a b = next-one-to-one x y (a ∙ sym b)
