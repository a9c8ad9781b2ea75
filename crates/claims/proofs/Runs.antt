-- Runs of calls from an accepted open. Where the lent memory is not of the right size, every call leaves the world as it is; so a read that is served shows
-- that it was, and then every page is as its history says. A served call does what Algorithm 1 does to the state that the pool holds.
-- Assumes nothing.
use Rattle.std.specs.Prelude.{Ok}
use mathlib.Core.Path.{◌≡◌, refl, sym, ap, ◌∙◌, subst}
use mathlib.Core.Bool.{Bool, true, false, false≢true}
use mathlib.Core.List.{List, [], ◌∷◌}
use Prim.Native.Nat.{ℕ, ◌*◌}
use lib.ListN.{length}
use Rattle.pages.specs.Pages.{page_of}
use Rattle.pages.specs.Memory.{sizes_match}
use Rattle.pages.proofs.Memory.{sizes_match-sound}
use Rattle.model.specs.Numbers.{Numbers, meant}
use Rattle.model.specs.State.{State, opened as opened_state, frames_of}
use Rattle.model.specs.Frames.{content_in}
use Rattle.model.specs.Bytes.{Memory}
use Rattle.model.specs.Moves.{Keeps}
use Rattle.model.specs.Request.{flushed}
use Rattle.model.specs.Refusals.{open_verdict}
use Rattle.model.specs.Times.{Times}
use Rattle.model.specs.Run.{Call, read, write, flush, drop, total, times_of, World, rows_of, verdict_of, costs_in, served, left, after, after_all, history}
use Rattle.model.specs.declared.Op.TheVariants.{Read, Write}
use Rattle.model.proofs.Refusals.{call-cases, first-clear, not-false, read-clear, write-clear, drop-ready}
use Rattle.model.proofs.Moves.{vacant-keeps}
use Rattle.model.proofs.Outcomes.{keeps-same}
use Rattle.model.proofs.Good.{opened-good}
use Rattle.model.proofs.LastWritten.{run-good, Right, run-right, last-written}
use Rattle.model.proofs.Framed.{framed-lawful, framed-pooled}
use Rattle.model.proofs.Steps.{states-framed, request-stepped, drop-stepped}
use Rattle.pool.specs.Pool.{state_of, Sound}
use Rattle.pool.specs.declared.Pool.{Pool}
use Rattle.pool.proofs.Form.{state-pool}
use Rattle.casa.specs.Calls.{pools, open_after}
use Rattle.casa.proofs.Lawful.{pools-framed, pools-lawful, open-limits, open-sound}
use Rattle.claims.specs.World.{opened, Followed}

-- ---- memory that is not of the right size

abbrev sized : World Pool → Bool
sized x = let n = (state_of x.state).numbers in sizes_match n.P n.b n.N (length x.memory.frames) (length x.memory.store)

-- no call is served but a total, which leaves the world too
sized-stays : (x : World Pool) → sized x ≡ false → (c : Call) → after pools x c ≡ x
sized-stays x h c = call-cases pools x c (λ l. ◌≡◌ {A = World Pool} (record { state = l.state; memory = l.memory }) x) (λ y e. refl) (stays-served c)
  where
    clash : {A : Type 0} → sized x ≡ true → A
    clash t = absurd (false≢true (sym h ∙ t))

    stays-served : (d : Call) → verdict_of pools x d ≡ Ok tt
        → ◌≡◌ {A = World Pool} (record { state = (served pools x d).state; memory = (served pools x d).memory }) x
    stays-served (read t q out) e = clash (not-false _ (first-clear (rows_of pools x (read t q out)) e).1.1.0)
    stays-served (write t q start bytes) e = clash (not-false _ (first-clear (rows_of pools x (write t q start bytes)) e).1.1.0)
    stays-served flush e = clash (not-false _ (first-clear (rows_of pools x flush) e).1.0)
    stays-served (drop q) e = clash (not-false _ (first-clear (rows_of pools x (drop q)) e).1.0)
    stays-served total e = refl

run-stays : (cs : List Call) (x : World Pool) → sized x ≡ false → after_all pools x cs ≡ x
run-stays [] x h = refl
run-stays (c ∷ cs) x h = ap (λ (y : World Pool). after_all pools y cs) (sized-stays x h c) ∙ run-stays cs x h

-- a served call that lends bytes shows it
abbrev Sized : Call → Type 0
Sized c = (x : World Pool) → verdict_of pools x c ≡ Ok tt → sized x ≡ true

run-sized : (c : Call) → Sized c → (cs : List Call) (x : World Pool) → verdict_of pools (after_all pools x cs) c ≡ Ok tt → sized x ≡ true
run-sized c lends cs x e = go (sized x) refl
  where
    go : (t : Bool) → sized x ≡ t → sized x ≡ true
    go true h = h
    go false h = lends x (subst (λ (y : World Pool). verdict_of pools y c ≡ Ok tt) (run-stays cs x h) e)

read-sized : (t : Times) (q : ℕ) (out : List ℕ) → Sized (read t q out)
read-sized t q out x e = not-false _ (first-clear (rows_of pools x (read t q out)) e).1.1.0

write-sized : (t : Times) (q start : ℕ) (bytes : List ℕ) → Sized (write t q start bytes)
write-sized t q start bytes x e = not-false _ (first-clear (rows_of pools x (write t q start bytes)) e).1.1.0

drop-sized : (q : ℕ) → Sized (drop q)
drop-sized q x e = not-false _ (first-clear (rows_of pools x (drop q)) e).1.0

-- ---- a pool that is sound stays so

pub run-sound : (cs : List Call) (x : World Pool) → Sound x.state → Sound (after_all pools x cs).state
unfolding pools-lawful pools-framed framed-lawful framed-pooled
run-sound = run-good pools pools-lawful

-- ---- from an accepted open

module _ (n : Numbers) (accepted : open_verdict n ≡ Ok tt) (frames store : List ℕ) where
  pub open-state : state_of (open_after n).pool ≡ opened_state (meant n)
  unfolding open_after
  open-state =
      let g = opened-good (meant n) (open-limits n accepted) in
      rw accepted (state-pool (opened_state (meant n)) g.placed.paged g.numbered.each)

  -- over memory of the right sizes every page is as the store has it
  pub open-right : length frames ≡ (meant n).b * (meant n).P → length store ≡ (meant n).N * (meant n).P
      → Right pools pools-lawful (opened n frames store) (λ p. page_of (meant n).P p store)
  unfolding pools-lawful pools-framed framed-lawful framed-pooled states-framed
  open-right f s =
      let m : Memory = record { frames = frames; store = store } in
      record {
        good = open-sound n accepted;
        keeps = subst (λ (s : State). Keeps s.numbers (record { content = content_in (frames_of s); memory = m }) (λ p. page_of (meant n).P p store))
            (sym open-state) (keeps-same (meant n) _ _ m _ (λ f. refl) (vacant-keeps (meant n) m f s));
      }

  sized-right : sized (opened n frames store) ≡ true → Right pools pools-lawful (opened n frames store) (λ p. page_of (meant n).P p store)
  sized-right h =
      let z = sizes_match-sound (meant n).P (meant n).b (meant n).N (length frames) (length store)
      (subst (λ (s : State). sizes_match s.numbers.P s.numbers.b s.numbers.N (length frames) (length store) ≡ true) open-state h) in
      open-right z.0 z.1

  abbrev Kept-so : List Call → Type 0
  Kept-so cs =
      Right pools pools-lawful (after_all pools (opened n frames store) cs) (history pools (opened n frames store) cs (λ p. page_of (meant n).P p store))

  -- where a call that lends bytes is served, every page is as its history says
  run-right-by : (c : Call) → Sized c → (cs : List Call) → verdict_of pools (after_all pools (opened n frames store) cs) c ≡ Ok tt → Kept-so cs
  run-right-by c lends cs e = run-right pools pools-lawful cs (opened n frames store) _ (sized-right (run-sized c lends cs (opened n frames store) e))

  -- a read that is served hands out the page as its history says
  pub run-read : (cs : List Call) (t : Times) (q : ℕ) (out : List ℕ) → verdict_of pools (after_all pools (opened n frames store) cs) (read t q out) ≡ Ok tt
      → (left pools (after_all pools (opened n frames store) cs) (read t q out)).out ≡ history pools (opened n frames store) cs
      (λ p. page_of (meant n).P p store) q
  run-read cs t q out e =
      last-written pools pools-lawful (after_all pools (opened n frames store) cs) _ (run-right-by (read t q out) (read-sized t q out) cs e) t q out e

  pub run-write-right : (cs : List Call) (t : Times) (q start : ℕ) (bytes : List ℕ)
      → verdict_of pools (after_all pools (opened n frames store) cs) (write t q start bytes) ≡ Ok tt → Kept-so cs
  run-write-right cs t q start bytes e = run-right-by (write t q start bytes) (write-sized t q start bytes) cs e

  pub run-drop-right : (cs : List Call) (q : ℕ) → verdict_of pools (after_all pools (opened n frames store) cs) (drop q) ≡ Ok tt → Kept-so cs
  run-drop-right cs q e = run-right-by (drop q) (drop-sized q) cs e

-- ---- a served call of a sound pool does what Algorithm 1 does

module _ (x : World Pool) (s : Sound x.state) where
  pub call-follows : (c : Call) → verdict_of pools x c ≡ Ok tt → Followed (costs_in pools x (times_of c)) (state_of x.state) x.memory c (left pools x c)
  unfolding left
  call-follows (read t q out) e =
      let a = read-clear pools x t q out e in
      let z = request-stepped (state_of x.state) (record { good = s.good; blank = s.blank }) q a.2 a.1.more Read (costs_in pools x t) in
      rw e ((state-pool _ z.good.good.placed.paged z.good.good.numbered.each, refl), refl, refl)
  call-follows (write t q start bytes) e =
      let a = write-clear pools x t q start bytes e in
      let z = request-stepped (state_of x.state) (record { good = s.good; blank = s.blank }) q a.2 a.1.more Write (costs_in pools x t) in
      rw e ((state-pool _ z.good.good.placed.paged z.good.good.numbered.each, refl), refl)
  call-follows flush e = rw e (state-pool (flushed (state_of x.state)) s.good.placed.paged s.good.numbered.each, refl, refl)
  call-follows (drop q) e =
      let a = drop-ready pools x q e in
      let t = drop-stepped (state_of x.state) (record { good = s.good; blank = s.blank }) q a.1.more in
      rw e (state-pool _ t.good.good.placed.paged t.good.good.numbered.each, refl, refl)
  call-follows total e = rw e (refl, refl, refl)
