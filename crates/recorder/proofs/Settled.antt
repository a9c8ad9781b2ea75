-- Each promise allows one result: two results of a call that meet it are equal, the returned struct and every byte of the lent buffer. What an answer says
-- leads back to the answer, so nothing is lost by stating promises in the scope's words. The laws speak of any right result l, so each serves every call that
-- returns its struct. Assumes nothing.
use Rattle.std.specs.Prelude.{Ok, Err}
use mathlib.Core.Path.{◌≡◌, refl, sym, ap, ◌∙◌}
use mathlib.Core.List.{List}
use Prim.Native.Nat.{ℕ}
use Rattle.model.proofs.Words.{refusal-one-to-one}
use Rattle.model.specs.Words.{Verdict}
use Rattle.recorder.specs.Words.{Closing, recording_says, closing_says}
use Rattle.recorder.specs.Calls.{RecorderLeft, recorded_left, closed_left}
use Rattle.recorder.specs.declared.Recorder.{Recorder}
use Rattle.recorder.specs.declared.Recorded.{Recorded}

-- ---- what an answer says

pub recording-one-to-one : (x y : Verdict) → recording_says x ≡ recording_says y → x ≡ y
recording-one-to-one (Err x) (Err y) e = ap Err (refusal-one-to-one x y (cc))
recording-one-to-one (Err x) (Ok u) e = cc
recording-one-to-one (Ok t) (Err y) e = cc
recording-one-to-one (Ok t) (Ok u) e = refl

pub closing-one-to-one : (x y : Closing) → closing_says x ≡ closing_says y → x ≡ y
closing-one-to-one (Err x) (Err y) e = ap Err (refusal-one-to-one x y (cc))
closing-one-to-one (Err x) (Ok n) e = cc
closing-one-to-one (Ok m) (Err y) e = cc
closing-one-to-one (Ok m) (Ok n) e = ap Ok (cc)

-- ---- what a call leaves

-- a beginning or a further record
pub recorded-settled : (l : RecorderLeft) (r t : Recorded) (B₁ B₂ : List ℕ) → recorded_left r B₁ ≡ l → recorded_left t B₂ ≡ l → (r ≡ t) × (B₁ ≡ B₂)
recorded-settled l r t B₁ B₂ a b =
    let e : recorded_left r B₁ ≡ recorded_left t B₂ = a ∙ sym b in
    let d = recording-one-to-one r.answer t.answer (ap (λ (x : RecorderLeft). x.said) e) in
    ((λ i. record { recorder = (e i).recorder; answer = d i }), (λ i. (e i).buffer))

pub closed-settled : (l : RecorderLeft) (x : Recorder) (r t : Closing) (B₁ B₂ : List ℕ) → closed_left x r B₁ ≡ l → closed_left x t B₂ ≡ l
    → (r ≡ t) × (B₁ ≡ B₂)
closed-settled l x r t B₁ B₂ a b =
    let e : closed_left x r B₁ ≡ closed_left x t B₂ = a ∙ sym b in
    (closing-one-to-one r t (ap (λ (y : RecorderLeft). y.said) e), (λ i. (e i).buffer))
