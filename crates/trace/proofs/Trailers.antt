-- Laws of the trailer: what is known of one that is not refused, and on which numbers its trace was recorded. Assumes nothing.
use Rattle.std.specs.Prelude.{Ok, Err}
use mathlib.Core.Path.{◌≡◌, refl}
use mathlib.Core.Bool.{Bool, true, false, cond as if-else}
use mathlib.Core.List.{List}
use Prim.Native.Nat.{ℕ, ◌+◌, ◌*◌, ◌-◌, ◌≤◌}
use lib.ListN.{length}
use lib.Dec.{ltb}
use borrow.Author.Tests.{eqb-true, leb-true}
use Rattle.model.specs.Numbers.{in_limits, usual_read, usual_write, meant}
use Rattle.model.specs.Refusals.{first, open_verdict}
use Rattle.model.proofs.Limits.{in_limits-limits, on_drive-within}
use Rattle.model.proofs.Refusals.{first-clear, not-false, and-both}
use Rattle.model.specs.declared.Refusal.TheVariants.{NotATrace}
use Rattle.model.specs.Words.{Verdict}
use Rattle.trace.specs.declared.Trailer.{Trailer}
use Rattle.trace.specs.Format.{trailer_length, trailer_at, numbers_in, recorded_on, points_back, trailer_rows}
use Rattle.trace.specs.Format.{Checked, checked_by, judged, header_of}

-- ---- a trailer that is not refused

pub record Accepted (n : ℕ) (t : Trailer) : Type 0 where
  pub whole : t.distance ≡ trailer_length + 4 * t.records
  pub within : t.distance ≤ n
  pub numbers : in_limits (recorded_on (numbers_in t)) ≡ true

fine-by : (v : Verdict) (t u : Trailer) → checked_by v t ≡ Ok u → (v ≡ Ok tt) × (t ≡ u)
fine-by (Err x) t u e = cc
fine-by (Ok _) t u e = (refl, cc)

judged-fine : (n : ℕ) (t u : Trailer) → judged n t ≡ Ok u → Accepted n u
unfolding judged points_back
judged-fine n t u e =
    let f = fine-by (first (trailer_rows n t)) t u e in
    let clear = first-clear (trailer_rows n t) f.0 in
    let back = and-both _ _ (not-false _ clear.0) in
    rw (← f.1)
    record { whole = eqb-true _ _ back.0; within = leb-true _ _ back.1; numbers = not-false _ clear.1.0 }

long-enough : (b : Bool) (x : Checked) (t : Trailer) → if-else b (Err NotATrace) x ≡ Ok t → x ≡ Ok t
long-enough true x t e = cc
long-enough false x t e = e

-- it is that of the last twenty bytes
pub header-trailer : (s : List ℕ) (t : Trailer) → header_of s ≡ Ok t → trailer_at s (length s - trailer_length) ≡ t
unfolding header_of judged
header-trailer s t e =
    let u = trailer_at s (length s - trailer_length) in
    (fine-by (first (trailer_rows (length s) u)) u t (long-enough (ltb (length s) trailer_length) _ t e)).1

pub header-accepts : (s : List ℕ) (t : Trailer) → header_of s ≡ Ok t → Accepted (length s) t
unfolding header_of
header-accepts s t e = judged-fine _ _ t (long-enough (ltb (length s) trailer_length) _ t e)

-- so all records lie before it
pub header-room : (s : List ℕ) (t : Trailer) → header_of s ≡ Ok t → (t.distance ≡ trailer_length + 4 * t.records) × (t.distance ≤ length s)
header-room s t e = let a = header-accepts s t e in (a.whole, a.within)

-- ---- the numbers on which a trace was recorded

-- opening with those of a trailer that is not refused is accepted, and means just these
pub accepted-opens : {n : ℕ} {t : Trailer} → Accepted n t
    → (open_verdict (recorded_on (numbers_in t)) ≡ Ok tt) × (meant (recorded_on (numbers_in t)) ≡ recorded_on (numbers_in t))
unfolding open_verdict
accepted-opens {n} {t} a =
    let same = on_drive-within usual_read usual_write (recorded_on (numbers_in t)) (in_limits-limits _ a.numbers) in (rw (same, a.numbers), same)
