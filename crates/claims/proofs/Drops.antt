-- Pages that are cut. A drop is a write of zeros to the history, so a read that is served then hands out zeros. Where a frame had the page it is the tail of E
-- then; and a fault takes the tail of E.
-- Assumes nothing.
use Rattle.std.specs.Prelude.{None, Ok}
use mathlib.Core.Path.{◌≡◌, sym, ap, ◌∙◌, subst}
use mathlib.Core.List.{List, [], ◌∷◌, ◌++◌}
use Prim.Native.Nat.{ℕ, ◌≤◌}
use lib.ListN.{replicate}
use Rattle.model.specs.Numbers.{Numbers, meant}
use Rattle.model.specs.Words.{answer_says}
use Rattle.model.specs.Target.{Costs}
use Rattle.model.specs.Times.{Times}
use Rattle.model.specs.State.{State, page_in, resident}
use Rattle.model.specs.Refusals.{open_verdict}
use Rattle.model.specs.Request.{locate, request}
use Rattle.model.specs.Run.{Call, read, write, drop, World, Left, verdict_of, costs_in, left, after, after_all}
use Rattle.model.specs.declared.Op.{Op}
use Rattle.model.specs.declared.Op.TheVariants.{Read, Write}
use Rattle.model.proofs.LastWritten.{drop-zeros}
use Rattle.model.proofs.Reuse.{Takes, tail-taken, drop-tail}
use Rattle.model.proofs.Steps.{Whole}
use Rattle.pool.specs.Pool.{state_of, Sound}
use Rattle.pool.specs.declared.Pool.{Pool}
use Rattle.casa.specs.Calls.{pools}
use Rattle.casa.proofs.Lawful.{pools-lawful}
use Rattle.claims.specs.World.{opened, Requested, Asks, reads, writes, Took}
use Rattle.claims.proofs.Runs.{call-follows, run-drop-right}
use Rattle.claims.proofs.Drift.{run-numbers}

module _ (n : Numbers) (accepted : open_verdict n ≡ Ok tt) (frames store : List ℕ) (cs : List Call) where
  abbrev used : World Pool
  used = after_all pools (opened n frames store) cs

  pub run-cut : (t : Times) (q : ℕ) (out : List ℕ)
      → verdict_of pools used (drop q) ≡ Ok tt → verdict_of pools (after pools used (drop q)) (read t q out) ≡ Ok tt
      → (left pools (after pools used (drop q)) (read t q out)).out ≡ replicate (meant n).P 0
  run-cut t q out d e =
      drop-zeros pools pools-lawful used _ (run-drop-right n accepted frames store cs q d) t q out d e
      ∙ ap (λ (k : Numbers). replicate k.P 0) (run-numbers n accepted frames store cs)

module _ (x : World Pool) (s : Sound x.state) where
  abbrev state : State
  state = state_of x.state

  whole : Whole state
  whole = record { good = s.good; blank = s.blank }

  pub drop-last : (q f : ℕ) → 1 ≤ resident state.lists f → page_in state f ≡ q → verdict_of pools x (drop q) ≡ Ok tt
      → (state_of (after pools x (drop q)).state).lists.E ≡ state.lists.E ++ (f ∷ [])
  drop-last q f here has d = ap (λ (t : State). t.lists.E) (call-follows x s (drop q) d).0 ∙ drop-tail state whole q f here has

  -- a request that took a frame leaves it so
  took : (op : Op) (k : Costs) (q f : ℕ) (E : List ℕ) (l : Left Pool) → Requested op k state q l → Takes q f E (request op k state q) → Took q f E l
  took op k q f E l a r = (
    a.1 ∙ ap answer_says r.answer,
    subst (λ (t : State). 1 ≤ resident t.lists f) (sym a.0) r.here,
    ap (λ (t : State). page_in t f) a.0 ∙ r.page,
    ap (λ (t : State). t.lists.E) a.0 ∙ r.rest,
  )

  pub last-taken : (f : ℕ) (E : List ℕ) → state.lists.E ≡ E ++ (f ∷ []) → (q : ℕ) → locate state q ≡ None
      → (c : Call) → Asks q c → verdict_of pools x c ≡ Ok tt → Took q f E (left pools x c)
  last-taken f E e q a c (reads t out) v =
      let k = costs_in pools x t in
      took Read k q f E (left pools x (read t q out)) (call-follows x s (read t q out) v).0 (tail-taken state whole Read k q f E e a)
  last-taken f E e q a c (writes t start bytes) v =
      let k = costs_in pools x t in
      took Write k q f E (left pools x (write t q start bytes)) (call-follows x s (write t q start bytes) v).0 (tail-taken state whole Write k q f E e a)
