-- Each promise allows one result: two results of a start or of a report that meet it are equal, the returned struct and every place of both windows. What an
-- answer says leads back to the answer, so nothing is lost by stating promises in the scope's words. Assumes nothing.
use mathlib.Core.Path.{◌≡◌, sym, ap, ◌∙◌}
use mathlib.Core.List.{List}
use Prim.Native.Nat.{ℕ}
use Rattle.model.proofs.Words.{timing-one-to-one}
use Rattle.times.specs.Reports.{Reported, timed_left}
use Rattle.times.specs.declared.Timed.{Timed}

pub timed-settled : (l : Reported) (r t : Timed) (R₁ W₁ R₂ W₂ : List ℕ)
    → timed_left r R₁ W₁ ≡ l → timed_left t R₂ W₂ ≡ l → (r ≡ t) × (R₁ ≡ R₂) × (W₁ ≡ W₂)
timed-settled l r t R₁ W₁ R₂ W₂ a b =
    let e : timed_left r R₁ W₁ ≡ timed_left t R₂ W₂ = a ∙ sym b in
    let d = timing-one-to-one r.answer t.answer (ap (λ (x : Reported). x.said) e) in
    ((λ i. record { kept = (e i).windows.kept; answer = d i }), (λ i. (e i).windows.reads), (λ i. (e i).windows.writes))
