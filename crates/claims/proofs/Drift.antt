-- Demand 3 for runs of the public calls: the pool's target is the start at 0 with the adjustments of the run made in order, so the model's drift theorem
-- speaks of it; and a fault of a full pool says the victim that the target picks.
-- Assumes nothing.
use Rattle.std.specs.Prelude.{Option, None, Ok}
use mathlib.Core.Path.{◌≡◌, refl, sym, ap, ◌∙◌, subst}
use mathlib.Core.Bool.{true}
use mathlib.Core.List.{List, [], ◌∷◌}
use Prim.Native.Nat.{ℕ, ◌+◌, ◌≤◌, ◌<◌}
use native.Mathlib.Omega.{arith}
use lib.ListN.{length}
use borrow.Author.Tests.{le-ltb}
use Rattle.model.specs.Numbers.{Numbers, meant}
use Rattle.model.specs.Words.{fault_says, answer_says}
use Rattle.model.specs.Target.{Costs, costs_of, Adjustment, Exact, exact_zero, exact_all, Near, Bounded, FurtherThan, above_exact}
use Rattle.model.specs.Times.{Times, times_fit}
use Rattle.model.specs.State.{State, opened as opened_state}
use Rattle.model.specs.Refusals.{open_verdict}
use Rattle.model.specs.Request.{locate, victim_by, chosen, taken, request, request_at}
use Rattle.model.specs.Run.{Call, read, write, flush, drop, total, World, verdict_of, costs_in, left, after, after_all, brought_by, gathered}
use Rattle.model.specs.declared.Op.{Op}
use Rattle.model.specs.declared.Op.TheVariants.{Read, Write}
use Rattle.model.specs.declared.Place.{Place}
use Rattle.model.specs.declared.Choice.{Choice}
use Rattle.model.proofs.Drift.{target-near, exact-bounded, victim-same}
use Rattle.model.proofs.Adjust.{Adjusted, stays, request-adjusted, flush-adjusted, drop-adjusted, adjusted-append}
use Rattle.model.proofs.Refusals.{call-cases, read-clear, write-clear}
use Rattle.model.proofs.Times.{costs-right, opened-payable}
use Rattle.model.proofs.LastWritten.{call-good}
use Rattle.model.proofs.Framed.{framed-lawful, framed-pooled}
use Rattle.pool.specs.Pool.{state_of, Sound}
use Rattle.pool.specs.declared.Pool.{Pool}
use Rattle.casa.specs.Calls.{pools}
use Rattle.casa.proofs.Lawful.{pools-framed, pools-lawful, open-sound}
use Rattle.claims.specs.World.{opened, adjusting, Asks, reads, writes, last_said}
use Rattle.claims.proofs.Runs.{open-state, call-follows}

-- ---- one call, and a run of them

module _ (x : World Pool) (s : Sound x.state) where
  abbrev before : State
  before = state_of x.state

  -- a served request has costs that can be divided by
  costs-some : (t : Times) → times_fit t ≡ true → 0 < (costs_in pools x t).r + (costs_in pools x t).w
  costs-some t fits = omega (arith, (costs-right t (costs_of before.numbers) fits (opened-payable before.numbers s.good.limits)).r_low)

  abbrev made-by : Call → List Adjustment
  made-by c = brought_by pools (verdict_of pools x c) (adjusting x c)

  -- a refused call makes no adjustment; a served one leaves state t, and makes those that lead to it
  moved-by : (c : Call) (t : State) → (verdict_of pools x c ≡ Ok tt → state_of (left pools x c).state ≡ t)
      → (verdict_of pools x c ≡ Ok tt → Adjusted before t (adjusting x c))
      → Adjusted before (state_of (after pools x c).state) (made-by c)
  moved-by c t is a =
      call-cases pools x c (λ l. (verdict_of pools x c ≡ Ok tt → state_of l.state ≡ t) → Adjusted before (state_of l.state) (made-by c))
      (λ y e at. rw e (stays before before refl refl)) (λ e at. rw e (subst (λ (z : State). Adjusted before z (adjusting x c)) (sym (at e)) (a e))) is

  call-moves : (c : Call) → Adjusted before (state_of (after pools x c).state) (made-by c)
  call-moves (read t q out) =
      moved-by (read t q out) _ (λ e. (call-follows x s (read t q out) e).0.0)
      (λ e. request-adjusted Read (costs_in pools x t) (costs-some t (read-clear pools x t q out e).4) before q)
  call-moves (write t q start bytes) =
      moved-by (write t q start bytes) _ (λ e. (call-follows x s (write t q start bytes) e).0.0)
      (λ e. request-adjusted Write (costs_in pools x t) (costs-some t (write-clear pools x t q start bytes e).4) before q)
  call-moves flush = moved-by flush _ (λ e. (call-follows x s flush e).0) (λ e. flush-adjusted before)
  call-moves (drop q) = moved-by (drop q) _ (λ e. (call-follows x s (drop q) e).0) (λ e. drop-adjusted before q)
  call-moves total = moved-by total _ (λ e. (call-follows x s total e).0) (λ e. stays before before refl refl)

pub run-moves : (cs : List Call) (x : World Pool) → Sound x.state
    → Adjusted (state_of x.state) (state_of (after_all pools x cs).state) (gathered pools adjusting x cs)
unfolding pools-lawful pools-framed framed-lawful framed-pooled
run-moves [] x s = stays _ _ refl refl
run-moves (c ∷ cs) x s =
    adjusted-append _ (state_of (after pools x c).state) _ _ (gathered pools adjusting (after pools x c) cs)
    (call-moves x s c) (run-moves cs (after pools x c) (call-good pools pools-lawful x s c))

-- ---- from an accepted open

module _ (n : Numbers) (accepted : open_verdict n ≡ Ok tt) (frames store : List ℕ) (cs : List Call) where
  abbrev used : World Pool
  used = after_all pools (opened n frames store) cs

  abbrev made : List Adjustment
  made = gathered pools adjusting (opened n frames store) cs

  -- from the opened state to that of the used pool
  run-moved : Adjusted (opened_state (meant n)) (state_of used.state) made
  run-moved =
      subst (λ (z : State). Adjusted z (state_of used.state) made) (open-state n accepted frames store)
      (run-moves cs (opened n frames store) (open-sound n accepted))

  -- the numbers that it was opened with
  pub run-numbers : (state_of used.state).numbers ≡ meant n
  run-numbers = run-moved.numbers

  pub run-near : Near (length made) used.state.target (exact_all (meant n).b exact_zero made)
  run-near = rw run-moved.target (target-near (meant n).b made run-moved.divide)

  pub run-bounded : Bounded (meant n).b (exact_all (meant n).b exact_zero made)
  run-bounded = exact-bounded (meant n).b made run-moved.divide

-- ---- the victim that a fault says

module _ (x : World Pool) (s : Sound x.state) (k : ℕ) (exact : Exact) (near : Near k x.state.target exact)
    (full : length (state_of x.state).lists.E ≡ 0) (far : FurtherThan k (length (state_of x.state).lists.C) exact)
    (q : ℕ) (absent : locate (state_of x.state) q ≡ None) where
  abbrev state : State
  state = state_of x.state

  chosen-is : chosen state ≡ victim_by (above_exact (length state.lists.C) exact) (length state.lists.C) (length state.lists.D)
  chosen-is =
      let z : length state.lists.E ≤ 0 = omega arith in
      rw (le-ltb 0 (length state.lists.E) z)
      (victim-same k state.target (length state.lists.C) (length state.lists.D) exact near far)

  fault-says : (op : Op) (c : Costs) → answer_says (request op c state q).answer ≡ last_said state (above_exact (length state.lists.C) exact)
  fault-says Read c =
      ap (λ (p : Option Place). answer_says (request_at Read c state q p).answer) absent ∙ ap (λ (t : Choice). fault_says (taken state t).victim) chosen-is
  fault-says Write c =
      ap (λ (p : Option Place). answer_says (request_at Write c state q p).answer) absent ∙ ap (λ (t : Choice). fault_says (taken state t).victim) chosen-is

  pub victim-said : (c : Call) → Asks q c → verdict_of pools x c ≡ Ok tt → (left pools x c).said ≡ last_said state (above_exact (length state.lists.C) exact)
  victim-said c (reads t out) e = (call-follows x s (read t q out) e).0.1 ∙ fault-says Read (costs_in pools x t)
  victim-said c (writes t start bytes) e = (call-follows x s (write t q start bytes) e).0.1 ∙ fault-says Write (costs_in pools x t)
