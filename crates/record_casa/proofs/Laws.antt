-- A call's answer tells whether its rows refused it, since a served call says no refusal; and what stands first in D after a served write is the frame of
-- the page that was written. Assumes nothing.
use Rattle.std.specs.Prelude.{Option, Some, None, Result, Ok, Err}
use mathlib.Core.Path.{◌≡◌, refl, sym, ap, ◌∙◌}
use mathlib.Core.List.{List, []}
use Prim.Native.Nat.{ℕ, ◌*◌, ◌≤◌}
use native.Mathlib.Nat.{add-zero}
use native.Mathlib.Omega.{arith}
use lib.ListN.{get_or}
use lib.Seq.{get_or-take, get_or-drop}
use Rattle.pages.specs.Pages.{page_of}
use Rattle.model.specs.Words.{Said, flushed, dropped, access_says, says, refusal_says}
use Rattle.model.specs.Numbers.{Numbers}
use Rattle.model.specs.State.{State}
use Rattle.model.specs.Request.{chosen, taken, request, request_at, locate}
use Rattle.model.specs.Target.{Costs}
use Rattle.model.specs.Times.{unmeasured}
use Rattle.model.specs.Run.{Call, write, World, Left, verdict_of, costs_in, outcome_of, written_in, served, left_by, left}
use Rattle.model.specs.declared.Op.TheVariants.{Write}
use Rattle.model.specs.declared.Place.{Place}
use Rattle.model.specs.declared.Place.TheVariants.{InClean, InDirty}
use Rattle.model.specs.declared.Choice.{Choice}
use Rattle.model.specs.declared.Choice.TheVariants.{OfEmpty, OfClean, OfDirty}
use Rattle.model.specs.declared.Access.{Access}
use Rattle.model.specs.declared.Refusal.{Refusal}
use Rattle.model.specs.Words.{Verdict}
use Rattle.model.proofs.Exactly.{refused-says, says-refused}
use Rattle.model.proofs.Framed.{framed-lawful, framed-pooled}
use Rattle.model.proofs.Refusals.{write-clear}
use Rattle.model.proofs.Words.{answer-one-to-one, flushing-one-to-one, dropping-one-to-one}
use Rattle.pool.specs.Pool.{pool_of, state_of}
use Rattle.pool.specs.declared.Pool.{Pool}
use Rattle.casa.specs.Calls.{pools, world_of, after, done_left, served_left, flushed_left, dropped_left}
use Rattle.casa.specs.declared.Done.{Done}
use Rattle.casa.proofs.Calls.{sound-is}
use Rattle.casa.proofs.Lawful.{pools-framed, pools-lawful}
use Rattle.trace.specs.declared.Record.{Record}
use Rattle.trace.specs.declared.Record.TheVariants as record_of
use Rattle.recorder.specs.Runs.{Tape, value_of, answer_verdict, recorded_by}
use Rattle.record_casa.specs.Calls.{written_record, call_verdict}

-- ---- whether a call was refused

module _ (x : World Pool) (c : Call) where
  -- an answer that says what the call says: v is what it tells
  says-verdict : (v : Verdict) → ((y : Refusal) → v ≡ Err y → (left pools x c).said ≡ refusal_says y)
      → ((y : Refusal) → (left pools x c).said ≡ refusal_says y → v ≡ Err y) → v ≡ verdict_of pools x c
  unfolding pools-lawful pools-framed framed-lawful framed-pooled
  says-verdict v says told = go v refl (verdict_of pools x c) refl
    where
      go : (u : Verdict) → v ≡ u → (w : Verdict) → verdict_of pools x c ≡ w → v ≡ verdict_of pools x c
      go (Err y) e w k = e ∙ sym (says-refused pools pools-lawful sound-is x c y (says y e))
      go (Ok _) e (Err y) k = told y (refused-says pools pools-lawful sound-is x c y k) ∙ sym k
      go (Ok _) e (Ok _) k = e ∙ sym k

answer-refused : {T : Type 0} (a : Result T Refusal) (y : Refusal) → answer_verdict a ≡ Err y → a ≡ Err y
answer-refused (Err x) y e = ap Err (cc)
answer-refused (Ok t) y e = absurd (let z : ◌≡◌ {A = ℕ} 0 1 = cc in omega arith)

module _ (p : Pool) (F S : List ℕ) (c : Call) where
  -- the answer of any call that hands back a pool, by the words that it answers in
  pub verdict-is : {T : Type 0} (word : T → Said) → ((x y : Result T Refusal) → says word x ≡ says word y → x ≡ y)
      → (r : Done T) (F' S' O' : List ℕ) → done_left word r F' S' O' ≡ after p F S c → answer_verdict r.answer ≡ call_verdict p F S c
  unfolding call_verdict
  verdict-is {T} word one-to-one r F' S' O' h =
      let a = r.answer in
      let e : says word a ≡ (after p F S c).said = ap (λ (l : Left Pool). l.said) h in
      says-verdict (world_of p F S) c (answer_verdict a) (λ y k. sym e ∙ ap (says word) (answer-refused a y k))
      (λ y k. ap answer_verdict (one-to-one a (Err y) (e ∙ k)))

  pub answer-verdict-is : (r : Done Access) (F' S' O' : List ℕ) → served_left r F' S' O' ≡ after p F S c → answer_verdict r.answer ≡ call_verdict p F S c
  answer-verdict-is = verdict-is access_says answer-one-to-one

  pub flushing-verdict-is : (r : Done ℕ) (F' S' : List ℕ) → flushed_left r F' S' ≡ after p F S c → answer_verdict r.answer ≡ call_verdict p F S c
  flushing-verdict-is r F' S' = verdict-is flushed flushing-one-to-one r F' S' []

  pub dropping-verdict-is : (r : Done (Unit {0})) (F' S' : List ℕ) → dropped_left r F' S' ≡ after p F S c → answer_verdict r.answer ≡ call_verdict p F S c
  dropping-verdict-is r F' S' = verdict-is (λ _. dropped) dropping-one-to-one r F' S' []

-- ---- the record of a served write

-- the frame of the page that was written stands first in D
written-first : (k : Costs) (s : State) (q : ℕ) (at : Option Place)
    → get_or (pool_of (request_at Write k s q at).state).lists.dirty.places 0 0 ≡ (request_at Write k s q at).frame
written-first k s q (Some (InClean i)) = refl
written-first k s q (Some (InDirty i)) = refl
written-first k s q None = refl

taken-numbers : (s : State) (t : Choice) → (taken s t).state.numbers ≡ s.numbers
taken-numbers s (OfEmpty i) = refl
taken-numbers s (OfClean i) = refl
taken-numbers s (OfDirty i) = refl

written-size : (k : Costs) (s : State) (q : ℕ) (at : Option Place) → (pool_of (request_at Write k s q at).state).numbers.page_bytes ≡ s.numbers.P
written-size k s q (Some (InClean i)) = refl
written-size k s q (Some (InDirty i)) = refl
written-size k s q None = ap (λ (n : Numbers). n.P) (taken-numbers s (chosen s))

-- byte 0 of a page
page_of-first : (P f : ℕ) (xs : List ℕ) → 1 ≤ P → get_or (page_of P f xs) 0 0 ≡ get_or xs (f * P) 0
unfolding page_of
page_of-first P f xs h = rw (get_or-take, get_or-drop, add-zero)

module _ (p : Pool) (F S : List ℕ) (q start : ℕ) (bytes : List ℕ) where
  abbrev world : World Pool
  world = world_of p F S

  abbrev call : Call
  call = write unmeasured q start bytes

  -- what a served write left: its pool and its frame memory give the record
  pub written-is : (r : Done Access) (F' S' : List ℕ) → served_left r F' S' [] ≡ after p F S call → verdict_of pools world call ≡ Ok tt
      → written_record r.pool q F' ≡ record_of.Write q (value_of pools world unmeasured q start bytes)
  unfolding left
  written-is r F' S' e fine =
      let l : served_left r F' S' [] ≡ served pools world call = e ∙ ap (λ (v : Verdict). left_by pools v world call) fine in
      let state = state_of p in
      let k = costs_in pools world unmeasured in
      let pool : r.pool ≡ pool_of (request Write k state q).state = ap (λ (z : Left Pool). z.state) l in
      let size : r.pool.numbers.page_bytes ≡ p.numbers.page_bytes = ap (λ (z : Pool). z.numbers.page_bytes) pool ∙ written-size k state q (locate state q) in
      let o = outcome_of pools Write world unmeasured q in
      let frame : get_or r.pool.lists.dirty.places 0 0 ≡ o.frame =
      ap (λ (z : Pool). get_or z.lists.dirty.places 0 0) pool ∙ written-first k state q (locate state q) in
      let low = (sound-is p (write-clear pools world unmeasured q start bytes fine).0).good.limits.P_low in
      let frames : F' ≡ (written_in pools world q start bytes o).frames = ap (λ (z : Left Pool). z.memory.frames) l in
      let value = page_of-first p.numbers.page_bytes o.frame (written_in pools world q start bytes o).frames (omega (arith, low)) in
      (λ i. record_of.Write q (get_or (frames i) (frame i * size i) 0)) ∙ ap (record_of.Write q) (sym value)

  -- what a refused one left is not recorded
  pub written-recorded : (r : Done Access) (F' S' : List ℕ) → served_left r F' S' [] ≡ after p F S call → (x : Tape)
      → recorded_by (call_verdict p F S call) (written_record r.pool q F') x
      ≡ recorded_by (call_verdict p F S call) (record_of.Write q (value_of pools world unmeasured q start bytes)) x
  unfolding call_verdict
  written-recorded r F' S' e x = go (verdict_of pools world call) refl
    where
      go : (v : Verdict) → verdict_of pools world call ≡ v
          → recorded_by v (written_record r.pool q F') x ≡ recorded_by v (record_of.Write q (value_of pools world unmeasured q start bytes)) x
      go (Err y) k = refl
      go (Ok _) k = ap (λ (w : Record). recorded_by (Ok tt) w x) (written-is r F' S' e k)
