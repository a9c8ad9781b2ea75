-- What the reader finds, told from what the check says of the trace, where it begins and where it goes on. One that the library made of a refused trace
-- begins where there is no record; where there is none it stays; so it finds none, however often it is moved. Assumes nothing.
use Rattle.std.specs.Prelude.{Option, Some, None, is_none, Ok, Err}
use mathlib.Core.Path.{◌≡◌, refl, ap, ◌∙◌}
use mathlib.Core.Bool.{Bool, true, false, cond as if-else}
use mathlib.Core.List.{List, [], ◌∷◌}
use Prim.Native.Nat.{ℕ, zero, suc, ◌+◌, ◌*◌, ◌-◌, ◌≤◌, ◌<◌}
use native.Mathlib.Omega.{arith}
use lib.Dec.{ltb}
use lib.ListN.{length}
use borrow.Author.Tests.{lt-ltb, le-ltb}
use Rattle.model.specs.Refusals.{first, verdict_by, out_of_limits}
use Rattle.model.specs.declared.Refusal.{Refusal}
use Rattle.model.specs.declared.Refusal.TheVariants.{OutOfLimits, BrokenPool, WrongMemory, NoSuchPage, WrongBytes, Spent}
use Rattle.model.specs.declared.Refusal.TheVariants.{NotATrace, BadRecord, LongFile, LargePool, NoRoom, ZeroTime, BrokenWindows}
use Rattle.model.specs.Words.{named_by}
use Rattle.trace.specs.declared.Trailer.{Trailer}
use Rattle.trace.specs.declared.Record.{Record}
use Rattle.trace.specs.Format.{Checked, trailer_length, trailer_at, numbers_in, recorded_on, points_back, not_a_trace, checked_by, judged, header_of, record_in}
use Rattle.trace.specs.Format.{start_of, record_at, place_after, bad_in, checked_records, checked_all, checked_of, first_place, place_after_moves}
use Rattle.trace.proofs.Trailers.{header-accepts}
use Rattle.trace.proofs.Records.{first_bad-none, first_bad-at}

-- ---- what the check says of the header

-- a trace that is refused, but not for its trailer, is refused for its first bad record
pub refused-record : (s : List ℕ) (t : Trailer) (x : Refusal) → header_of s ≡ Ok t → checked_of s ≡ Err x
    → (k : ℕ) × ((x ≡ BadRecord k) × (bad_in s t ≡ Some k))
unfolding checked_of
refused-record s t x h e = by (bad_in s t) refl (rw h at e)
  where
    by : (b : Option ℕ) → bad_in s t ≡ b → checked_records t b ≡ Err x → (k : ℕ) × ((x ≡ BadRecord k) × (bad_in s t ≡ Some k))
    by None p d = cc
    by (Some k) p d = (k, (cc, p))

-- a trace that is refused, but not for a record, is refused for its trailer
pub refused-header : (s : List ℕ) (x : Refusal) → ((k : ℕ) → x ≡ BadRecord k → ⊥) → checked_of s ≡ Err x → header_of s ≡ Err x
unfolding checked_of
refused-header s x other e = go (header_of s) refl
  where
    go : (h : Checked) → header_of s ≡ h → header_of s ≡ Err x
    go (Err y) h = h ∙ (rw h at e)
    go (Ok t) h = let r = refused-record s t x h e in absurd (other r.0 r.1.0)

-- a trace that is not refused has the trailer of its header, and no bad record
pub fine-header : (s : List ℕ) (t : Trailer) → checked_of s ≡ Ok t → (header_of s ≡ Ok t) × (bad_in s t ≡ None)
unfolding checked_of
fine-header s t e = go (header_of s) e
  where
    by : (u : Trailer) (b : Option ℕ) → bad_in s u ≡ b → checked_records u b ≡ Ok t → (◌≡◌ {A = Checked} (Ok u) (Ok t)) × (bad_in s t ≡ None)
    by u None p d = (d, let f : u ≡ t = cc in rw f at p)
    by u (Some k) p d = cc

    go : (h : Checked) → checked_all h s ≡ Ok t → (h ≡ Ok t) × (bad_in s t ≡ None)
    go (Err y) d = cc
    go (Ok u) d = by u (bad_in s u) refl d

-- the trailer is refused with 7 or 1, never for a record
pub header-no-record : (s : List ℕ) (k : ℕ) → header_of s ≡ Err (BadRecord k) → ⊥
unfolding header_of judged
header-no-record s k e = by (ltb (length s) trailer_length) e
  where
    t : Trailer
    t = trailer_at s (length s - trailer_length)

    limits : (b : Bool) → checked_by (verdict_by b OutOfLimits (Ok tt)) t ≡ Err (BadRecord k) → ⊥
    limits true d = cc
    limits false d = cc

    back : (b : Bool) → checked_by (verdict_by b NotATrace (first (out_of_limits (recorded_on (numbers_in t)) ∷ []))) t ≡ Err (BadRecord k) → ⊥
    back true d = cc
    back false d = limits (out_of_limits (recorded_on (numbers_in t))).when d

    by : (b : Bool) → if-else b (Err NotATrace) (judged (length s) t) ≡ Err (BadRecord k) → ⊥
    by true d = cc
    by false d = back (not_a_trace (points_back (length s) t.distance t.records)).when d

-- a trace that is refused for a record has a trailer that is not
pub bad-header : (s : List ℕ) (k : ℕ) → checked_of s ≡ Err (BadRecord k) → (t : Trailer) × (header_of s ≡ Ok t)
unfolding checked_of
bad-header s k e = go (header_of s) refl
  where
    go : (h : Checked) → header_of s ≡ h → (t : Trailer) × (header_of s ≡ Ok t)
    go (Err x) h = absurd (header-no-record s k (h ∙ (rw h at e)))
    go (Ok t) h = (t, h)

-- ---- what the reader finds, at any place: one made by hand may be over any bytes

-- where 7 or 1 refuses the bytes there is no record
pub refused-none : (s : List ℕ) (x : Refusal) → header_of s ≡ Err x → (k : ℕ) → record_at s k ≡ None
unfolding record_at
refused-none s x e k = rw e

-- past the last there is no record
pub past-none : (s : List ℕ) (t : Trailer) → header_of s ≡ Ok t → (k : ℕ) → t.records ≤ k → record_at s k ≡ None
unfolding record_at
past-none s t e k h = rw (e, le-ltb k t.records h)

-- before that there is the record that its four bytes spell, and none just where 8 refuses that record
pub record_at-in : (s : List ℕ) (t : Trailer) → header_of s ≡ Ok t → (k : ℕ) → k < t.records → record_at s k ≡ record_in s (start_of s t k) t.numbers.pages
unfolding record_at
record_at-in s t e k h = rw (e, lt-ltb k t.records h)

-- a trace that is not refused has a record at each place
pub fine-record : (s : List ℕ) (t : Trailer) → checked_of s ≡ Ok t → (k : ℕ) → k < t.records → is_none (record_at s k) ≡ false
fine-record s t e k h =
    let f = fine-header s t e in
    rw (record_at-in s t f.0 k h)
    (first_bad-none s t.numbers.pages (length s - t.distance) 0 t.records f.1 k (omega arith) (omega arith))

-- 8 names the first bad record, counted from 1: there is none at its place, and one at each place before it
pub record BadAt (s : List ℕ) (t : Trailer) (k : ℕ) : Type 0 where
  pub low : 1 ≤ k
  pub high : k ≤ t.records
  pub bad : is_none (record_at s (k - 1)) ≡ true
  pub before : (i : ℕ) → i + 1 < k → is_none (record_at s i) ≡ false

pub bad-record : (s : List ℕ) (t : Trailer) (k : ℕ) → header_of s ≡ Ok t → checked_of s ≡ Err (BadRecord k) → BadAt s t k
bad-record s t k h e =
    let d = refused-record s t (BadRecord k) h e in
    let n : bad_in s t ≡ Some k = cc in
    let f = first_bad-at s t.numbers.pages (length s - t.distance) 0 t.records k n in
    record {
      low = omega (arith, f.from);
      high = omega (arith, f.within);
      bad = rw (record_at-in s t h (k - 1) (omega (arith, f.within))) f.bad;
      before = λ i l. rw (record_at-in s t h i (omega (arith, f.within))) (f.before i (omega arith) l);
    }

pub bad-low : (s : List ℕ) (k : ℕ) → checked_of s ≡ Err (BadRecord k) → 1 ≤ k
bad-low s k e = let h = bad-header s k e in (bad-record s h.0 k h.1 e).low

-- a refusal that is not 8 names no record
pub other-names-none : (x : Refusal) → ((k : ℕ) → x ≡ BadRecord k → ⊥) → named_by x ≡ []
other-names-none OutOfLimits n = refl
other-names-none BrokenPool n = refl
other-names-none WrongMemory n = refl
other-names-none NoSuchPage n = refl
other-names-none WrongBytes n = refl
other-names-none Spent n = refl
other-names-none NotATrace n = refl
other-names-none (BadRecord k) n = absurd (n k refl)
other-names-none LongFile n = refl
other-names-none LargePool n = refl
other-names-none NoRoom n = refl
other-names-none ZeroTime n = refl
other-names-none BrokenWindows n = refl

-- where there is a record, its four bytes stand before the trailer
pub found-within : (s : List ℕ) (k : ℕ) (r : Record) → record_at s k ≡ Some r → 4 * k + 4 + trailer_length ≤ length s
found-within s k r e = go (header_of s) refl
  where
    not-none : record_at s k ≡ None → ⊥
    not-none d = cc

    go : (h : Checked) → header_of s ≡ h → 4 * k + 4 + trailer_length ≤ length s
    go (Err x) h = absurd (not-none (refused-none s x h k))
    go (Ok t) h = let before : t.records ≤ k → ⊥ = λ p. not-none (past-none s t h k p) in omega (arith, header-accepts s t h)

-- ---- the place after a record

pub place_after-found : (s : List ℕ) (k : ℕ) (r : Record) → record_at s k ≡ Some r → place_after s k ≡ k + 1
unfolding place_after
place_after-found s k r e = rw e

pub place_after-end : (s : List ℕ) (k : ℕ) → record_at s k ≡ None → place_after s k ≡ k
unfolding place_after
place_after-end s k e = rw e

-- ---- a reader that the library made

-- one of a trace that is not refused begins at the first record
pub fine-starts : (s : List ℕ) (t : Trailer) → checked_of s ≡ Ok t → first_place s ≡ 0
unfolding first_place
fine-starts s t e = rw e

is-none : (x : Option Record) → is_none x ≡ true → x ≡ None
is-none (Some r) e = cc
is-none None e = refl

-- one of a refused trace begins where there is no record
pub refused-starts : (s : List ℕ) (x : Refusal) → checked_of s ≡ Err x → record_at s (first_place s) ≡ None
unfolding first_place
refused-starts s x e = go (header_of s) refl
  where
    by : (t : Trailer) (k : ℕ) → header_of s ≡ Ok t → checked_of s ≡ Err (BadRecord k) → record_at s (first_place s) ≡ None
    by t k h d = rw d (is-none _ (bad-record s t k h d).bad)

    go : (h : Checked) → header_of s ≡ h → record_at s (first_place s) ≡ None
    go (Err y) h = refused-none s y h (first_place s)
    go (Ok t) h =
        let r = refused-record s t x h e in
        by t r.0 h (e ∙ ap Err r.1.0)

-- "A refused trace yields no records": however often it is moved, it finds none
pub refused-yields-none : (s : List ℕ) (x : Refusal) → checked_of s ≡ Err x → (n : ℕ) → record_at s (place_after_moves s n) ≡ None
refused-yields-none s x e zero = refused-starts s x e
refused-yields-none s x e (suc n) =
    let none = refused-yields-none s x e n in
    rw (place_after-end s (place_after_moves s n) none) none
