-- The verdicts of a recorder: what room is, which records the reader would find, and what a call that is not refused may count on. Assumes nothing.
use Rattle.std.specs.Prelude.{Some, None, is_none, Ok}
use mathlib.Core.Path.{◌≡◌, refl}
use mathlib.Core.Bool.{Bool, true, false, cond as if-else}
use Prim.Native.Nat.{ℕ, ◌+◌, ◌*◌, ◌^◌, ◌≤◌, ◌<◌}
use native.Mathlib.Omega.{arith}
use lib.Dec.{ltb}
use borrow.Author.Tests.{leb-true, le-leb, ltb-true, lt-ltb}
use Rattle.model.specs.Numbers.{Numbers, in_limits}
use Rattle.model.proofs.Refusals.{first-clear, not-false, and-both}
use Rattle.trace.specs.Format.{trailer_length, recorded_on, record_of}
use Rattle.trace.specs.Encode.{RecordIn}
use Rattle.trace.specs.declared.Record.{Record}
use Rattle.trace.specs.declared.Record.TheVariants.{Read, Write, Flush, Drop}
use Rattle.recorder.specs.Calls.{recorder_of, numbers_of, found_for, room_for, add_rows, close_rows, begin_verdict, add_verdict, close_verdict}
use Rattle.recorder.specs.declared.Recorder.{Recorder}

-- ---- k records from byte `start` on, and the trailer, in n bytes

abbrev pub Room : ℕ → ℕ → ℕ → Type 0
Room start k n = (start + (trailer_length + 4 * k) ≤ n) × (trailer_length + 4 * k < 2 ^ 32)

module _ (start k n : ℕ) where
  pub room_for-room : room_for start k n ≡ true → Room start k n
  unfolding room_for
  room_for-room e = let a = and-both _ _ e in (leb-true (start + (trailer_length + 4 * k)) n a.0, ltb-true (trailer_length + 4 * k) (2 ^ 32) a.1)

  pub room-room_for : Room start k n → room_for start k n ≡ true
  unfolding room_for
  room-room_for h = rw (le-leb (start + (trailer_length + 4 * k)) n h.0, lt-ltb (trailer_length + 4 * k) (2 ^ 32) h.1)

pub room-fewer : (start k m n : ℕ) → k ≤ m → room_for start m n ≡ true → room_for start k n ≡ true
room-fewer start k m n h e = let a = room_for-room start m n e in room-room_for start k n (omega arith, omega arith)

-- ---- the reader would find just the records that a trace over N pages may have

found-if : (t : Bool) (r : Record) → is_none (if-else t (Some r) None) ≡ false → t ≡ true
found-if true r e = refl
found-if false r e = cc

pub found-in : (N : ℕ) (r : Record) → is_none (found_for N r) ≡ false → RecordIn N r
unfolding record_of
found-in N (Read q) e = ltb-true q N (found-if (ltb q N) (Read q) e)
found-in N (Write q v) e = ltb-true q N (found-if (ltb q N) (Write q v) e)
found-in N Flush e = tt
found-in N (Drop q) e = ltb-true q N (found-if (ltb q N) (Drop q) e)

pub in-found : (N : ℕ) (r : Record) → RecordIn N r → is_none (found_for N r) ≡ false
unfolding record_of
in-found N (Read q) h = rw (lt-ltb q N h)
in-found N (Write q v) h = rw (lt-ltb q N h)
in-found N Flush h = refl
in-found N (Drop q) h = rw (lt-ltb q N h)

-- ---- what a call that is not refused may count on, for a buffer of m bytes

pub close-clear : (x : Recorder) (m : ℕ) → close_verdict x m ≡ Ok tt → (in_limits (recorded_on (numbers_of x)) ≡ true) × Room x.start x.records m
unfolding close_verdict
close-clear x m e =
    let c = first-clear (close_rows x m) e in
    (not-false _ c.0, room_for-room x.start x.records m (not-false _ c.1.0))

pub add-clear : (x : Recorder) (r : Record) (m : ℕ) → add_verdict x r m ≡ Ok tt
    → (in_limits (recorded_on (numbers_of x)) ≡ true) × (is_none (found_for x.numbers.pages r) ≡ false) × Room x.start (x.records + 1) m
unfolding add_verdict
add-clear x r m e =
    let c = first-clear (add_rows x r m) e in
    (not-false _ c.0, c.1.0, room_for-room x.start (x.records + 1) m (not-false _ c.1.1.0))

-- its room, for which a buffer is lent
pub close-room : (x : Recorder) (m : ℕ) → close_verdict x m ≡ Ok tt → Room x.start x.records m
close-room x m e = (close-clear x m e).1

pub add-room : (x : Recorder) (r : Record) (m : ℕ) → add_verdict x r m ≡ Ok tt → Room x.start (x.records + 1) m
add-room x r m e = (add-clear x r m e).2

-- ---- a recorder that begins is refused as one that closes behind its notes

pub begin-as-close : (n : Numbers) (notes m : ℕ) → begin_verdict n notes m ≡ close_verdict (recorder_of n notes 0) m
unfolding begin_verdict close_verdict
begin-as-close n notes m = refl

-- ---- the laws by which `begin`, `add` and `close` meet their contracts: a call that is not refused has room, so that what it puts lies within the buffer

pub ruleset begins = (close-room, begin-as-close)

pub ruleset adds = (add-room)

pub ruleset closes = (close-room)
