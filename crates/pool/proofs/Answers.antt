-- The answers of the functions of the test: a no where something is wrong, and behind the tests that have passed the answer of the last one.
--     counts-last, lengths-last    counts, lengths
--     sound-refused, sound-last, sound-full    the whole
-- Assumes nothing.
use mathlib.Core.Path.{◌≡◌, ap}
use mathlib.Core.Bool.{Bool, true, false}
use mathlib.Core.List.{[]}
use Prim.Native.Nat.{ℕ, ◌+◌, ◌*◌, ◌-◌, ◌≤◌}
use native.Mathlib.Omega.{arith}
use lib.ListN.{take}
use lib.Dec.{eqb, leb}
use Rattle.checks.specs.Tests.{Decides, PagesRight}
use Rattle.checks.proofs.Exact.{exact-iff, exact-eqb, exact-leb}
use Rattle.checks.proofs.Decides.{decides-of, decides-iff, decides-same}
use Rattle.model.specs.Numbers.{unit, most_served}
use Rattle.pool.specs.Test.{CountsRight, CountsIn, LengthsIn, PlacesIn, TailsRight, sound_test}
use Rattle.pool.specs.Pool.{Sound}
use Rattle.pool.specs.declared.Pool.{Pool}
use Rattle.pool.proofs.Parts.{LimitsIn, StandingIn, PagesIn, PartsRight, sound-parts, parts-sound}
use Rattle.pool.proofs.Decides.{sound_test-decides}

-- ---- numbers

pub counts-last : (b target served nR nW : ℕ) → target ≤ b * unit → served ≤ most_served → nR ≤ served
    → Decides (leb nW (b * served)) (CountsRight b target served nR nW)
counts-last b target served nR nW t s r =
    decides-of (leb nW (b * served))
    (exact-iff (λ w. record { target_high = t; served_high = s; reads_high = r; writes_high = w }) (λ c. c.writes_high) (exact-leb nW (b * served)))

pub lengths-last : (b en cn dn : ℕ) → en ≤ b → cn ≤ b - en → Decides (eqb dn (b - en - cn)) (en + (cn + dn) ≡ b)
lengths-last b en cn dn h k =
    decides-of (eqb dn (b - en - cn)) (exact-iff (λ e. omega arith) (λ e. omega arith) (exact-eqb dn (b - en - cn)))

-- ---- the whole

pub sound-refused : (p : Pool) → (PartsRight p → ⊥) → false ≡ sound_test p
sound-refused p wrong = decides-same (Sound p) false (sound_test p) (λ s. wrong (sound-parts p s)) (sound_test-decides p)

pub sound-last : (p : Pool) → PlacesIn p → LimitsIn p → CountsIn p → LengthsIn p → TailsRight p → StandingIn p
    → (t : Bool) → Decides t (PagesIn p) → t ≡ sound_test p
sound-last p w l c n o f t d =
    decides-same (Sound p) t (sound_test p)
    (decides-iff t
    (λ g. parts-sound p w (record { limits = l; counts = c; lengths = n; tails = o; standing = f; pages = g }))
    (λ s. (sound-parts p s).pages)
    d)
    (sound_test-decides p)

-- no frame is empty
pub sound-full : (p : Pool) → PlacesIn p → LimitsIn p → CountsIn p → LengthsIn p → TailsRight p → StandingIn p → p.lists.empty.len ≡ 0
    → PagesRight p.numbers.frames p.numbers.pages [] p.page → true ≡ sound_test p
sound-full p w l c n o f z g =
    let none : take p.lists.empty.len p.lists.empty.places ≡ [] = ap (λ (k : ℕ). take k p.lists.empty.places) z in
    sound-last p w l c n o f true (rw none g)
