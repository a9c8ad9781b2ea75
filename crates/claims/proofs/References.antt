-- Both lists are ordered by last reference: the number of each resident frame is that of the last served call of the run that read or wrote its page, and a
-- sound pool has falling numbers down each list.
-- Assumes nothing.
use Rattle.std.specs.Prelude.{Ok}
use mathlib.Core.Path.{◌≡◌, sym, subst}
use mathlib.Core.List.{List, [], ◌∷◌}
use Prim.Native.Nat.{ℕ, ◌≤◌, ◌<◌}
use native.Mathlib.Omega.{arith}
use lib.ListN.{length, get_or}
use Rattle.order.specs.Count.{count}
use Rattle.order.proofs.Count.{count-here}
use Rattle.order.proofs.Merged.{falls-places}
use Rattle.model.specs.Numbers.{Numbers}
use Rattle.model.specs.State.{State, number_in, resident}
use Rattle.model.specs.Refusals.{open_verdict}
use Rattle.model.specs.References.{Reference, referencing, last_reference}
use Rattle.model.specs.Run.{Call, read, write, flush, drop, total, World, verdict_of, costs_in, left, after, after_all, brought_by, gathered}
use Rattle.model.specs.declared.Op.TheVariants.{Read, Write}
use Rattle.model.proofs.Refusals.{call-cases, read-clear, write-clear}
use Rattle.model.proofs.References.{Tracked, Tracks, request-tracks, flush-tracks, drop-tracks, nothing-tracks, tracks-append}
use Rattle.model.proofs.Steps.{Whole}
use Rattle.model.proofs.LastWritten.{call-good}
use Rattle.model.proofs.Framed.{framed-lawful, framed-pooled}
use Rattle.pool.specs.Pool.{state_of, Sound}
use Rattle.pool.specs.declared.Pool.{Pool}
use Rattle.casa.specs.Calls.{pools}
use Rattle.casa.proofs.Lawful.{pools-framed, pools-lawful, open-sound}
use Rattle.claims.specs.World.{opened, LatestFirst}
use Rattle.claims.proofs.Runs.{run-sound, open-state, call-follows}

-- ---- one call, and a run of them

module _ (x : World Pool) (s : Sound x.state) where
  abbrev before : State
  before = state_of x.state

  whole : Whole before
  whole = record { good = s.good; blank = s.blank }

  abbrev brought : Call → List Reference
  brought c = brought_by pools (verdict_of pools x c) (referencing c)

  -- a refused call references nothing; a served one leaves state t, and references what leads to it
  tracked-by : (c : Call) (t : State) → (verdict_of pools x c ≡ Ok tt → state_of (left pools x c).state ≡ t)
      → (verdict_of pools x c ≡ Ok tt → Tracks before t (referencing c)) → Tracks before (state_of (after pools x c).state) (brought c)
  tracked-by c t is tracks =
      call-cases pools x c (λ l. (verdict_of pools x c ≡ Ok tt → state_of l.state ≡ t) → Tracks before (state_of l.state) (brought c))
      (λ y e at. rw e (nothing-tracks before))
      (λ e at. rw e (subst (λ (z : State). Tracks before z (referencing c)) (sym (at e)) (tracks e))) is

  call-tracks : (c : Call) → Tracks before (state_of (after pools x c).state) (brought c)
  call-tracks (read t q out) =
      tracked-by (read t q out) _ (λ e. (call-follows x s (read t q out) e).0.0)
      (λ e. let a = read-clear pools x t q out e in request-tracks before whole Read (costs_in pools x t) q a.2 a.1.more)
  call-tracks (write t q start bytes) =
      tracked-by (write t q start bytes) _ (λ e. (call-follows x s (write t q start bytes) e).0.0)
      (λ e. let a = write-clear pools x t q start bytes e in request-tracks before whole Write (costs_in pools x t) q a.2 a.1.more)
  call-tracks flush = tracked-by flush _ (λ e. (call-follows x s flush e).0) (λ e. flush-tracks before whole)
  call-tracks (drop q) = tracked-by (drop q) _ (λ e. (call-follows x s (drop q) e).0) (λ e. drop-tracks before whole q)
  call-tracks total = tracked-by total _ (λ e. (call-follows x s total e).0) (λ e. nothing-tracks before)

run-tracks : (cs : List Call) (x : World Pool) → Sound x.state
    → Tracks (state_of x.state) (state_of (after_all pools x cs).state) (gathered pools (λ y c. referencing c) x cs)
unfolding pools-lawful pools-framed framed-lawful framed-pooled
run-tracks [] x s = nothing-tracks _
run-tracks (c ∷ cs) x s =
    tracks-append _ (state_of (after pools x c).state) _ _ (gathered pools (λ y d. referencing d) (after pools x c) cs)
    (call-tracks x s c) (run-tracks cs (after pools x c) (call-good pools pools-lawful x s c))

-- ---- from an accepted open

module _ (n : Numbers) (accepted : open_verdict n ≡ Ok tt) (frames store : List ℕ) (cs : List Call) where
  abbrev used : State
  used = state_of (after_all pools (opened n frames store) cs).state

  abbrev last : ℕ → ℕ
  last = last_reference pools (opened n frames store) cs

  -- an opened pool has no page
  pub run-tracked : Tracked last used
  run-tracked =
      (subst (λ (z : State). Tracks z used (gathered pools (λ y c. referencing c) (opened n frames store) cs)) (open-state n accepted frames store)
      (run-tracks cs (opened n frames store) (open-sound n accepted))).tracked (λ q. 0) (λ f c. absurd (omega arith))

  -- numbers that fall down a list of resident frames are those of their pages
  latest : (fs : List ℕ) → ((f : ℕ) → 1 ≤ count f fs → 1 ≤ resident used.lists f)
      → ((i j : ℕ) → i < j → j < length fs → number_in used (get_or fs j 0) < number_in used (get_or fs i 0)) → LatestFirst last used fs
  latest fs there falls i j l h =
      omega (
        arith,
        falls i j l h,
        run-tracked (get_or fs i 0) (there (get_or fs i 0) (count-here fs i (omega arith))),
        run-tracked (get_or fs j 0) (there (get_or fs j 0) (count-here fs j h)),
      )

  pub run-ordered : LatestFirst last used used.lists.C × LatestFirst last used used.lists.D
  run-ordered =
      let o = (run-sound cs (opened n frames store) (open-sound n accepted)).good.numbered.ordered in (
        latest used.lists.C (λ f c. omega arith) (falls-places used.reference used.lists.C o.first_falls),
        latest used.lists.D (λ f c. omega arith) (falls-places used.reference used.lists.D o.second_falls),
      )
