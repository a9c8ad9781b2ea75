-- A flush and a drop are refused as requests are that fit. Assumes nothing.
use mathlib.Core.Path.{◌≡◌, refl}
use mathlib.Core.Bool.{Bool, true, false}
use Prim.Native.Nat.{ℕ, ◌<◌}
use borrow.Author.Tests.{lt-leb}
use Rattle.model.specs.Numbers.{Numbers}
use Rattle.model.specs.Refusals.{request_verdict, flush_verdict, drop_verdict}

-- page 0 is in every store that has a page, and no kept numbers and no bytes are wrong, so these three rows never refuse
pub flush-as-request : (sound : Bool) (k : Numbers) (served m n : ℕ) → (sound ≡ true → 0 < k.N)
    → request_verdict sound true k served m n 0 true ≡ flush_verdict sound k served m n
unfolding request_verdict flush_verdict
flush-as-request false k served m n h = refl
flush-as-request true k served m n h = rw (lt-leb k.N 0 (h refl))

-- a drop has neither kept numbers nor bytes of the caller's that could be wrong
pub drop-as-request : (sound : Bool) (k : Numbers) (served m n page : ℕ) → request_verdict sound true k served m n page true ≡ drop_verdict sound k served
    m n page
unfolding request_verdict drop_verdict
drop-as-request sound k served m n page = refl
