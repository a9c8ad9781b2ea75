-- `record_casa::first_byte` meets its contract. Of a frame that is not the first, a size above the length divided by the frame puts byte 0 past the end; any
-- other puts it there or before, so that the product fits. Assumes nothing.
use Rattle.std.proofs.Common.{◌≢◌, sym, ℕ, ◌*◌, ◌/◌, ◌≤◌, ◌<◌, zero-mul, mul_comm, mul-le-mul_left, div-lt_iff_lt-mul, arith, length}
use native.Mathlib.Nat.{mul-div-le}
use lib.ListN.{get_or-eq_default}
use Rattle.record_casa.proofs.first_byte.Goals as goal
use Rattle.record_casa.proofs.first_byte.Goals.{Joined-frame-ne0, then-frame-ne0+else-n-frame, else-frame-ne0}

beyond : (n f size : ℕ) → f ≢ 0 → n / f < size → n ≤ f * size
beyond n f size h l = rw (mul_comm f size) (omega (arith, (div-lt_iff_lt-mul {k = f} {x = n} {y = size} (omega (arith, h))).0 l))

within : (n f size : ℕ) → size ≤ n / f → f * size ≤ n
within n f size l = omega (arith, mul-le-mul_left f l, mul-div-le n f)

-- past the test
reaches : (c : Joined-frame-ne0) → c.args.frame * c.args.size ≤ length c.args.frames.now
reaches c =
    let a = c.args in
    elim c.if-frame-ne0.branch [
      | then-frame-ne0+else-n-frame w ↦ within (length a.frames.now) a.frame a.size (omega (arith, w.if-n-frame.false))
      | else-frame-ne0 w ↦ rw (w.if-frame-ne0.false, zero-mul) (omega arith)
    ]

pub returns-then-n-frame : goal.returns-then-n-frame
returns-then-n-frame c =
    let a = c.args in
    sym (get_or-eq_default a.frames.now 0 (beyond (length a.frames.now) a.frame a.size c.if-frame-ne0.true c.if-n-frame.true))

pub overflow_mul-at : goal.overflow_mul-at
overflow_mul-at c = record { fits = omega (arith, reaches c) }

pub returns : goal.returns
returns c = sym (get_or-eq_default c.args.frames.now 0 (omega arith))
