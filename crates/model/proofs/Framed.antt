-- A policy whose states are seen as frames is lawful, if its calls are steps; and so is the one whose pools hold such states.
-- Assumes nothing.
use mathlib.Core.Path.{◌≡◌, refl, sym, ap, ◌∙◌, subst}
use mathlib.Core.Bool.{Bool}
use mathlib.Core.List.{List}
use Prim.Native.Nat.{ℕ, ◌≤◌, ◌<◌}
use native.Mathlib.Omega.{arith}
use lib.ListN.{get_or}
use Rattle.order.specs.Count.{count}
use Rattle.model.specs.Numbers.{most_served}
use Rattle.model.specs.Target.{Costs}
use Rattle.model.specs.Moves.{Has}
use Rattle.model.specs.Frames.{Frames, content_in, Placed, Step, FlushStep, DropStep}
use Rattle.model.specs.Policy.{Outcome, Policy, pooled}
use Rattle.model.specs.declared.Op.{Op}
use Rattle.model.proofs.Outcomes.{cleaned_by}
use Rattle.model.proofs.LastWritten.{Lawful}
use Rattle.model.proofs.Frames.{frame-below, resident-has, step-frame, step-victim, step-right, step-content, flush-content, drop-content}

-- a request for page q of state s has outcome o
pub record Stepped (π : Policy) (Good : π.State → Type 0) (frames : π.State → Frames) (op : Op) (s : π.State) (q : ℕ) (o : Outcome π.State) : Type 0 where
  pub step : Step op q o.frame o.answer (frames s) (frames o.state)
  pub same : π.numbers o.state ≡ π.numbers s
  pub good : Good o.state

pub record FlushStepped (π : Policy) (Good : π.State → Type 0) (frames : π.State → Frames) (s : π.State) : Type 0 where
  pub step : FlushStep (π.dirty s) (frames s) (frames (π.flushed s))
  pub same : π.numbers (π.flushed s) ≡ π.numbers s
  pub good : Good (π.flushed s)

-- a drop of page q of state s leaves state t
pub record DropStepped (π : Policy) (Good : π.State → Type 0) (frames : π.State → Frames) (s : π.State) (q : ℕ) (t : π.State) : Type 0 where
  pub step : DropStep q (frames s) (frames t)
  pub same : π.numbers t ≡ π.numbers s
  pub good : Good t

pub record Framed (π : Policy) : Type 1 where
  pub Good : π.State → Type 0
  pub frames : π.State → Frames
  pub placed : (s : π.State) → Good s → Placed (π.numbers s) (frames s)
  pub pages : (s : π.State) → (frames s).page ≡ π.page s
  pub request : (op : Op) (k : Costs) (s : π.State) (q : ℕ) → Good s → q < (π.numbers s).N → (π.counts s).served < most_served
      → Stepped π Good frames op s q (π.request op k s q)
  pub flush : (s : π.State) → Good s → (π.counts s).served < most_served → FlushStepped π Good frames s
  pub drop : (s : π.State) (q : ℕ) → Good s → q < (π.numbers s).N → (π.counts s).served < most_served → DropStepped π Good frames s q (π.dropped s q)

module _ (π : Policy) (k : Framed π) where
  -- what a flush writes can be written
  pub flush-writable : (s : π.State) → k.Good s → (fs : List ℕ) (y : Frames) → FlushStep fs (k.frames s) y → (f : ℕ) → 1 ≤ count f fs
      → (get_or (π.page s) f 0 < (π.numbers s).N) × (f < (π.numbers s).b) × Has (get_or (π.page s) f 0) (content_in (k.frames s) f)
  flush-writable s g fs y t f l =
      let r = t.listed f l in
      let p = k.placed s g in
      subst (λ (z : List ℕ). (get_or z f 0 < (π.numbers s).N) × (f < (π.numbers s).b) × Has (get_or z f 0) (content_in (k.frames s) f)) (k.pages s)
      (p.inside f r, frame-below (π.numbers s) (k.frames s) p f (omega arith), resident-has ((k.frames s).resident f) ((k.frames s).unsaved f) _ _ r refl)

  unfoldable pub framed-lawful : Lawful π
  framed-lawful =
      record {
        Good = k.Good;
        content = λ s. content_in (k.frames s);
        request = λ op c s q g inside more.
            let o : Outcome π.State = π.request op c s q in
            let t = k.request op c s q g inside more in
            let p = k.placed s g in
            let y : Frames = k.frames o.state in
            record {
              same = t.same;
              good = t.good;
              frame = step-frame (π.numbers s) (k.frames s) p y op q o.frame o.answer t.step;
              victim = step-victim (π.numbers s) (k.frames s) p y op q o.frame o.answer t.step;
              right = step-right (π.numbers s) (k.frames s) p y op q o.frame o.answer t.step;
              contents = step-content (π.numbers s) (k.frames s) p y op q o.frame o.answer t.step;
            };
        flush = λ s g more.
            let t = k.flush s g more in
            record {
              same = t.same;
              good = t.good;
              right = flush-writable s g (π.dirty s) (k.frames (π.flushed s)) t.step;
              contents = λ f.
                  subst (λ (z : List ℕ). cleaned_by z (π.dirty s) (content_in (k.frames s)) f ≡ content_in (k.frames (π.flushed s)) f) (k.pages s)
                  (flush-content (k.frames s) (k.frames (π.flushed s)) (π.dirty s) t.step f);
            };
        drop = λ s q g inside more.
            let t = k.drop s q g inside more in
            record {
              same = t.same;
              good = t.good;
              contents = drop-content (π.numbers s) (k.frames s) (k.placed s g) (k.frames (π.dropped s q)) q t.step;
            };
      }

  -- ---- in pools: a pool that is right holds a good state, and the pool made of a good state is right and holds it

  module _ (Pool : Type 0) (state_of : Pool → π.State) (pool_of : π.State → Pool) (sound : Pool → Bool) (Right : Pool → Type 0)
      (good-of : (p : Pool) → Right p → k.Good (state_of p)) (made : (s : π.State) → k.Good s → Right (pool_of s))
      (back : (s : π.State) → k.Good s → state_of (pool_of s) ≡ s) where
    unfoldable pub framed-pooled : Framed (pooled π Pool state_of pool_of sound)
    framed-pooled =
        record {
          Good = Right;
          frames = λ p. k.frames (state_of p);
          placed = λ p r. k.placed (state_of p) (good-of p r);
          pages = λ p. k.pages (state_of p);
          request = λ op c p q r inside more.
              let o : Outcome π.State = π.request op c (state_of p) q in
              let t = k.request op c (state_of p) q (good-of p r) inside more in
              let e = back o.state t.good in
              record {
                step = subst (λ (z : π.State). Step op q o.frame o.answer (k.frames (state_of p)) (k.frames z)) (sym e) t.step;
                same = ap (λ (z : π.State). π.numbers z) e ∙ t.same;
                good = made o.state t.good;
              };
          flush = λ p r more.
              let t = k.flush (state_of p) (good-of p r) more in
              let e = back (π.flushed (state_of p)) t.good in
              record {
                step = subst (λ (z : π.State). FlushStep (π.dirty (state_of p)) (k.frames (state_of p)) (k.frames z)) (sym e) t.step;
                same = ap (λ (z : π.State). π.numbers z) e ∙ t.same;
                good = made (π.flushed (state_of p)) t.good;
              };
          drop = λ p q r inside more.
              let t = k.drop (state_of p) q (good-of p r) inside more in
              let e = back (π.dropped (state_of p) q) t.good in
              record {
                step = subst (λ (z : π.State). DropStep q (k.frames (state_of p)) (k.frames z)) (sym e) t.step;
                same = ap (λ (z : π.State). π.numbers z) e ∙ t.same;
                good = made (π.dropped (state_of p) q) t.good;
              };
        }
