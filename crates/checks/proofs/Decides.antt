-- A test's answer and what it tells.
--     test-passed, test-refuted, decides-passed, decides-refuted    behind `if !test`
--     decides-of, decides-iff, decides-same    a test's answer
-- Assumes nothing.
use mathlib.Core.Path.{◌≡◌, refl, sym, ◌∙◌}
use mathlib.Core.Bool.{Bool, true, false, false≢true}
use mathlib.Core.Logic.{◌≢◌}
use Rattle.checks.specs.Tests.{Decides}
use Rattle.checks.proofs.Exact.{Exact}

-- ---- behind `if !test`

pub test-passed : {s t : Bool} → s ≡ t → s ≡ true → t ≡ true
test-passed e h = sym e ∙ h

pub test-refuted : {s t : Bool} → s ≡ t → s ≡ false → t ≢ true
test-refuted e h x = false≢true (sym h ∙ e ∙ x)

module _ {A : Type 0} where
  pub decides-passed : (t : Bool) → Decides t A → t ≡ true → A
  decides-passed true d e = d
  decides-passed false d e = absurd (false≢true e)

  pub decides-refuted : (t : Bool) → Decides t A → t ≡ false → A → ⊥
  decides-refuted true d e x = false≢true (sym e)
  decides-refuted false d e x = d x

-- ---- a test's answer

pub decides-of : {A : Type 0} (t : Bool) → Exact t A → Decides t A
decides-of true a = a.means refl
decides-of false a = λ x. false≢true (a.test x)

pub decides-iff : {A B : Type 0} (t : Bool) → (A → B) → (B → A) → Decides t A → Decides t B
decides-iff true f g d = f d
decides-iff false f g d = λ b. d (g b)

pub decides-same : (A : Type 0) (s t : Bool) → Decides s A → Decides t A → s ≡ t
decides-same A true true d e = refl
decides-same A true false d e = absurd (e d)
decides-same A false true d e = absurd (d e)
decides-same A false false d e = refl
