-- Each promise allows one result: two results of a call that meet it are equal, the returned struct and every lent byte. What an answer says leads back to
-- the answer, so nothing is lost by stating promises in the scope's words. The laws speak of any right result l, so each serves every call that returns its
-- struct. Assumes nothing.
use mathlib.Core.Path.{◌≡◌, sym, ap, ◌∙◌}
use mathlib.Core.List.{List, []}
use Prim.Native.Nat.{ℕ}
use Rattle.std.specs.Prelude.{Result}
use Rattle.model.specs.Words.{Said, flushed, dropped, access_says, says, costing_says}
use Rattle.model.specs.Run.{Left}
use Rattle.model.specs.declared.Access.{Access}
use Rattle.model.specs.declared.Refusal.{Refusal}
use Rattle.model.proofs.Words.{answer-one-to-one, opening-one-to-one, flushing-one-to-one, dropping-one-to-one, costing-one-to-one}
use Rattle.pool.specs.declared.Pool.{Pool}
use Rattle.casa.specs.Calls.{OpenLeft, open_left, done_left, served_left, flushed_left, dropped_left}
use Rattle.casa.specs.declared.Done.{Done}

pub open-settled : (l : OpenLeft) (r t : Done (Unit {0})) → open_left r ≡ l → open_left t ≡ l → r ≡ t
open-settled l r t a b =
    let e : open_left r ≡ open_left t = a ∙ sym b in
    let d = opening-one-to-one r.answer t.answer (ap (λ (x : OpenLeft). x.said) e) in
    λ i. record { pool = (e i).pool; answer = d i }

-- any call that hands back a pool, by the words that it answers in
pub done-settled : {T : Type 0} (word : T → Said) → ((x y : Result T Refusal) → says word x ≡ says word y → x ≡ y)
    → (l : Left Pool) (r t : Done T) (F₁ S₁ O₁ F₂ S₂ O₂ : List ℕ)
    → done_left word r F₁ S₁ O₁ ≡ l → done_left word t F₂ S₂ O₂ ≡ l → (r ≡ t) × (F₁ ≡ F₂) × (S₁ ≡ S₂) × (O₁ ≡ O₂)
done-settled {T} word one-to-one l r t F₁ S₁ O₁ F₂ S₂ O₂ a b =
    let e : done_left word r F₁ S₁ O₁ ≡ done_left word t F₂ S₂ O₂ = a ∙ sym b in
    let d = one-to-one r.answer t.answer (ap (λ (x : Left Pool). x.said) e) in
    ((λ i. record { pool = (e i).state; answer = d i }), (λ i. (e i).memory.frames), (λ i. (e i).memory.store), (λ i. (e i).out))

pub served-settled : (l : Left Pool) (r t : Done Access) (F₁ S₁ O₁ F₂ S₂ O₂ : List ℕ)
    → served_left r F₁ S₁ O₁ ≡ l → served_left t F₂ S₂ O₂ ≡ l → (r ≡ t) × (F₁ ≡ F₂) × (S₁ ≡ S₂) × (O₁ ≡ O₂)
served-settled = done-settled access_says answer-one-to-one

pub flushed-settled : (l : Left Pool) (r t : Done ℕ) (F₁ S₁ F₂ S₂ : List ℕ)
    → flushed_left r F₁ S₁ ≡ l → flushed_left t F₂ S₂ ≡ l → (r ≡ t) × (F₁ ≡ F₂) × (S₁ ≡ S₂)
flushed-settled l r t F₁ S₁ F₂ S₂ a b =
    let h = done-settled flushed flushing-one-to-one l r t F₁ S₁ [] F₂ S₂ [] a b in (h.0, h.1, h.2)

pub dropped-settled : (l : Left Pool) (r t : Done (Unit {0})) (F₁ S₁ F₂ S₂ : List ℕ)
    → dropped_left r F₁ S₁ ≡ l → dropped_left t F₂ S₂ ≡ l → (r ≡ t) × (F₁ ≡ F₂) × (S₁ ≡ S₂)
dropped-settled l r t F₁ S₁ F₂ S₂ a b =
    let h = done-settled (λ _. dropped) dropping-one-to-one l r t F₁ S₁ [] F₂ S₂ [] a b in (h.0, h.1, h.2)

pub total-settled : (l : Said) (r t : Result ℕ Refusal) → costing_says r ≡ l → costing_says t ≡ l → r ≡ t
total-settled l r t a b = costing-one-to-one r t (a ∙ sym b)
