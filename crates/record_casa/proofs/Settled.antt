-- Each promise allows one result: two results of a call that meet it are equal, the returned struct and every lent byte. What is left of pool and memory is
-- settled by casa's laws, what is left of the recorder by recorder's. Assumes nothing.
use mathlib.Core.Path.{◌≡◌}
use mathlib.Core.List.{List, []}
use Prim.Native.Nat.{ℕ}
use Rattle.std.specs.Prelude.{Result}
use Rattle.model.specs.Run.{Left}
use Rattle.model.specs.Words.{Said, flushed, dropped, access_says, says}
use Rattle.model.specs.declared.Access.{Access}
use Rattle.model.specs.declared.Refusal.{Refusal}
use Rattle.model.proofs.Words.{answer-one-to-one, flushing-one-to-one, dropping-one-to-one}
use Rattle.pool.specs.declared.Pool.{Pool}
use Rattle.casa.specs.Calls.{done_left, served_left, flushed_left, dropped_left}
use Rattle.casa.proofs.Settled.{done-settled}
use Rattle.recorder.specs.Calls.{RecorderLeft, recorded_left}
use Rattle.recorder.proofs.Settled.{recorded-settled}
use Rattle.record_casa.specs.declared.Noted.{Noted}

module _ (l : Left Pool) (m : RecorderLeft) (B₁ B₂ : List ℕ) where
  -- any call, by the words that it answers in
  noted-any-settled : {T : Type 0} (word : T → Said) → ((x y : Result T Refusal) → says word x ≡ says word y → x ≡ y)
      → (r t : Noted T) (F₁ S₁ O₁ F₂ S₂ O₂ : List ℕ) → done_left word r.done F₁ S₁ O₁ ≡ l → done_left word t.done F₂ S₂ O₂ ≡ l
      → recorded_left r.recorded B₁ ≡ m → recorded_left t.recorded B₂ ≡ m → (r ≡ t) × (F₁ ≡ F₂) × (S₁ ≡ S₂) × (O₁ ≡ O₂) × (B₁ ≡ B₂)
  noted-any-settled word one-to-one r t F₁ S₁ O₁ F₂ S₂ O₂ a b c d =
      let s = done-settled word one-to-one l r.done t.done F₁ S₁ O₁ F₂ S₂ O₂ a b in
      let k = recorded-settled m r.recorded t.recorded B₁ B₂ c d in
      ((λ i. record { done = s.0 i; recorded = k.0 i }), s.1, s.2, s.3, k.1)

  -- a read or a write
  pub noted-settled : (r t : Noted Access) (F₁ S₁ O₁ F₂ S₂ O₂ : List ℕ) → served_left r.done F₁ S₁ O₁ ≡ l → served_left t.done F₂ S₂ O₂ ≡ l
      → recorded_left r.recorded B₁ ≡ m → recorded_left t.recorded B₂ ≡ m → (r ≡ t) × (F₁ ≡ F₂) × (S₁ ≡ S₂) × (O₁ ≡ O₂) × (B₁ ≡ B₂)
  noted-settled = noted-any-settled access_says answer-one-to-one

  pub noted-flush-settled : (r t : Noted ℕ) (F₁ S₁ F₂ S₂ : List ℕ) → flushed_left r.done F₁ S₁ ≡ l → flushed_left t.done F₂ S₂ ≡ l
      → recorded_left r.recorded B₁ ≡ m → recorded_left t.recorded B₂ ≡ m → (r ≡ t) × (F₁ ≡ F₂) × (S₁ ≡ S₂) × (B₁ ≡ B₂)
  noted-flush-settled r t F₁ S₁ F₂ S₂ a b c d =
      let h = noted-any-settled flushed flushing-one-to-one r t F₁ S₁ [] F₂ S₂ [] a b c d in (h.0, h.1, h.2, h.4)

  pub noted-drop-settled : (r t : Noted (Unit {0})) (F₁ S₁ F₂ S₂ : List ℕ) → dropped_left r.done F₁ S₁ ≡ l → dropped_left t.done F₂ S₂ ≡ l
      → recorded_left r.recorded B₁ ≡ m → recorded_left t.recorded B₂ ≡ m → (r ≡ t) × (F₁ ≡ F₂) × (S₁ ≡ S₂) × (B₁ ≡ B₂)
  noted-drop-settled r t F₁ S₁ F₂ S₂ a b c d =
      let h = noted-any-settled (λ _. dropped) dropping-one-to-one r t F₁ S₁ [] F₂ S₂ [] a b c d in (h.0, h.1, h.2, h.4)
