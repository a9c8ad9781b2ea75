-- Each promise on a lent pool allows one result: two results that meet it are equal, the pool at exit, the answer and every lent byte. The pool and
-- the answer, put together, are the struct that the call by value returns, of which this is known.
-- Assumes nothing.
use mathlib.Core.Path.{◌≡◌, ap}
use Prim.Native.Nat.{ℕ}
use mathlib.Core.List.{List, []}
use Rattle.std.specs.Prelude.{Result}
use Rattle.model.specs.Run.{Left}
use Rattle.model.specs.Words.{Said, Answer, Verdict, flushed, dropped, access_says, says}
use Rattle.model.specs.declared.Refusal.{Refusal}
use Rattle.model.proofs.Words.{answer-one-to-one, flushing-one-to-one, dropping-one-to-one}
use Rattle.pool.specs.declared.Pool.{Pool}
use Rattle.casa.specs.Calls.{done_left, served_left, flushed_left, dropped_left}
use Rattle.casa.specs.declared.Done.{Done}
use Rattle.casa.proofs.Settled.{done-settled}

-- what a thin call leaves in its pool and what it answers, as the call by value returns both
abbrev done : {T : Type 0} → Pool → Result T Refusal → Done T
done p x = record { pool = p; answer = x }

-- any call, by the words that it answers in
done-in-settled : {T : Type 0} (word : T → Said) → ((x y : Result T Refusal) → says word x ≡ says word y → x ≡ y)
    → (l : Left Pool) (p₁ p₂ : Pool) (x₁ x₂ : Result T Refusal) (F₁ S₁ O₁ F₂ S₂ O₂ : List ℕ)
    → done_left word (done p₁ x₁) F₁ S₁ O₁ ≡ l → done_left word (done p₂ x₂) F₂ S₂ O₂ ≡ l → (p₁ ≡ p₂) × (x₁ ≡ x₂) × (F₁ ≡ F₂) × (S₁ ≡ S₂) × (O₁ ≡ O₂)
done-in-settled {T} word one-to-one l p₁ p₂ x₁ x₂ F₁ S₁ O₁ F₂ S₂ O₂ a b =
    let e = done-settled word one-to-one l (done p₁ x₁) (done p₂ x₂) F₁ S₁ O₁ F₂ S₂ O₂ a b in
    (ap (λ (r : Done T). r.pool) e.0, ap (λ (r : Done T). r.answer) e.0, e.1, e.2, e.3)

-- a read or a write
pub served-in-settled : (l : Left Pool) (p₁ p₂ : Pool) (x₁ x₂ : Answer) (F₁ S₁ O₁ F₂ S₂ O₂ : List ℕ)
    → served_left (done p₁ x₁) F₁ S₁ O₁ ≡ l → served_left (done p₂ x₂) F₂ S₂ O₂ ≡ l → (p₁ ≡ p₂) × (x₁ ≡ x₂) × (F₁ ≡ F₂) × (S₁ ≡ S₂) × (O₁ ≡ O₂)
served-in-settled = done-in-settled access_says answer-one-to-one

pub flushed-in-settled : (l : Left Pool) (p₁ p₂ : Pool) (x₁ x₂ : Result ℕ Refusal) (F₁ S₁ F₂ S₂ : List ℕ)
    → flushed_left (done p₁ x₁) F₁ S₁ ≡ l → flushed_left (done p₂ x₂) F₂ S₂ ≡ l → (p₁ ≡ p₂) × (x₁ ≡ x₂) × (F₁ ≡ F₂) × (S₁ ≡ S₂)
flushed-in-settled l p₁ p₂ x₁ x₂ F₁ S₁ F₂ S₂ a b =
    let e = done-in-settled flushed flushing-one-to-one l p₁ p₂ x₁ x₂ F₁ S₁ [] F₂ S₂ [] a b in (e.0, e.1, e.2, e.3)

pub dropped-in-settled : (l : Left Pool) (p₁ p₂ : Pool) (x₁ x₂ : Verdict) (F₁ S₁ F₂ S₂ : List ℕ)
    → dropped_left (done p₁ x₁) F₁ S₁ ≡ l → dropped_left (done p₂ x₂) F₂ S₂ ≡ l → (p₁ ≡ p₂) × (x₁ ≡ x₂) × (F₁ ≡ F₂) × (S₁ ≡ S₂)
dropped-in-settled l p₁ p₂ x₁ x₂ F₁ S₁ F₂ S₂ a b =
    let e = done-in-settled (λ _. dropped) dropping-one-to-one l p₁ p₂ x₁ x₂ F₁ S₁ [] F₂ S₂ [] a b in (e.0, e.1, e.2, e.3)
