-- A call says a refusal exactly when that refusal's row is the first whose condition holds, and then it leaves everything. A call that is served says no
-- refusal: the answer of a lawful policy to a request is none, and a flush, a drop and a total have words of their own.
--     first-given, given-first    the first row whose condition holds, both ways
--     says-given, given-says      what a call says, told from its rows, for any lawful policy
--     says-leaves                 a call that says a refusal leaves everything
-- Assumes nothing.
use Rattle.std.specs.Prelude.{Some, None, Ok, Err}
use mathlib.Core.Path.{◌≡◌, refl, ap, ◌∙◌}
use mathlib.Core.Bool.{Bool, true, false}
use mathlib.Core.List.{List, [], ◌∷◌}
use Prim.Native.Nat.{ℕ}
use native.Mathlib.Omega.{arith}
use Rattle.model.specs.Words.{answer_says, refusal_says}
use Rattle.model.specs.Moves.{Content}
use Rattle.model.specs.Policy.{Policy}
use Rattle.model.specs.Times.{Times}
use Rattle.model.specs.Refusals.{Row, verdict_by, first, GivenBy, here, later}
use Rattle.model.specs.Run.{Call, read, write, flush, drop, total, output_of, World, rows_of, verdict_of, costs_in, outcome_of, served, left, left_by}
use Rattle.model.specs.declared.Op.{Op}
use Rattle.model.specs.declared.Op.TheVariants.{Read, Write}
use Rattle.model.specs.declared.Refusal.{Refusal}
use Rattle.model.specs.Words.{Answer}
use Rattle.model.specs.declared.Access.TheVariants.{Hit, Fault}
use Rattle.model.specs.declared.Victim.TheVariants.{Clean, Dirty}
use Rattle.model.specs.Words.{Verdict}
use Rattle.model.proofs.Words.{refusal-one-to-one}
use Rattle.model.proofs.Outcomes.{AnswerRight}
use Rattle.model.proofs.Refusals.{call-cases, RequestClear, read-clear, write-clear}
use Rattle.model.proofs.LastWritten.{Lawful}

pub first-given : (xs : List Row) (y : Refusal) → first xs ≡ Err y → GivenBy y xs
first-given [] y e = let z : ◌≡◌ {A = ℕ} 0 1 = cc in absurd (omega arith)
first-given (x ∷ xs) y e = go x.when refl e (first-given xs y)
  where
    go : (t : Bool) → x.when ≡ t → verdict_by t x.why (first xs) ≡ Err y → (first xs ≡ Err y → GivenBy y xs) → GivenBy y (x ∷ xs)
    go true h d ih = let w : x.why ≡ y = cc in here h w
    go false h d ih = later h (ih d)

pub given-first : (xs : List Row) (y : Refusal) → GivenBy y xs → first xs ≡ Err y
given-first [] y g = elim g [ ]
given-first (x ∷ xs) y (here h w) = rw (h, w)
given-first (x ∷ xs) y (later h g) = rw h (given-first xs y g)

-- an answer that is right says no refusal
right-says : (h : ℕ → Content) (q f : ℕ) (a : Answer) → AnswerRight h q f a → (y : Refusal) → answer_says a ≡ refusal_says y → ⊥
right-says h q f (Err x) ok y e = ok
right-says h q f (Ok Hit) ok y e = let z : ◌≡◌ {A = ℕ} 0 1 = cc in omega arith
right-says h q f (Ok (Fault None)) ok y e = let z : ◌≡◌ {A = ℕ} 0 1 = cc in omega arith
right-says h q f (Ok (Fault (Some (Clean p)))) ok y e = let z : ◌≡◌ {A = ℕ} 0 1 = cc in omega arith
right-says h q f (Ok (Fault (Some (Dirty p)))) ok y e = let z : ◌≡◌ {A = ℕ} 0 1 = cc in omega arith

module _ (π : Policy) (ok : Lawful π) (means : (s : π.State) → π.sound s ≡ true → ok.Good s) (x : World π.State) (c : Call) (y : Refusal) where
  pub refused-says : verdict_of π x c ≡ Err y → (left π x c).said ≡ refusal_says y
  unfolding left
  refused-says e = ap (λ (v : Verdict). (left_by π v x c).said) e

  -- the answer to a request that may be served
  request-says : (op : Op) (t : Times) (q : ℕ) {fit : Bool} → RequestClear π x t q fit → answer_says (outcome_of π op x t q).answer ≡ refusal_says y → ⊥
  request-says op t q a e =
      right-says (ok.content x.state) q (outcome_of π op x t q).frame (outcome_of π op x t q).answer
      (ok.request op (costs_in π x t) x.state q (means x.state a.0) a.2 a.1.more).right y e

  pub says-refused : (left π x c).said ≡ refusal_says y → verdict_of π x c ≡ Err y
  says-refused =
      call-cases π x c (λ l. l.said ≡ refusal_says y → verdict_of π x c ≡ Err y) (λ z h e. h ∙ ap Err (refusal-one-to-one z y e))
      (λ h e. absurd (served-says c h e))
    where
      served-says : (d : Call) → verdict_of π x d ≡ Ok tt → (served π x d).said ≡ refusal_says y → ⊥
      served-says (read t q out) h e = request-says Read t q (read-clear π x t q out h) e
      served-says (write t q start bytes) h e = request-says Write t q (write-clear π x t q start bytes h) e
      served-says flush h e = let z : ◌≡◌ {A = ℕ} 0 1 = cc in omega arith
      served-says (drop q) h e = let z : ◌≡◌ {A = ℕ} 0 1 = cc in omega arith
      served-says total h e = let z : ◌≡◌ {A = ℕ} 0 1 = cc in omega arith

  pub says-given : (left π x c).said ≡ refusal_says y → GivenBy y (rows_of π x c)
  says-given e = first-given (rows_of π x c) y (says-refused e)

  pub given-says : GivenBy y (rows_of π x c) → (left π x c).said ≡ refusal_says y
  given-says g = refused-says (given-first (rows_of π x c) y g)

  pub says-leaves : (left π x c).said ≡ refusal_says y → left π x c ≡ record { state = x.state; said = refusal_says y; memory = x.memory; out = output_of c }
  unfolding left
  says-leaves e = ap (λ (v : Verdict). left_by π v x c) (says-refused e)
