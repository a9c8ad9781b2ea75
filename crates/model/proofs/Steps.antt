-- CASA's requests, flushes and drops are steps on frames, and keep a state good. A hit moves a frame within C and D, so each frame is resident as often as
-- before and pages stay where they are. On a fault the chosen frame leaves its list and comes back to C or D with a page that no frame had. A drop takes the
-- frame of its page from C or D to E. All by counts. The frame of a request has the largest number and goes to a front, a merge keeps the order, and a frame
-- that leaves takes its number away, so numbers still fall.
--     locate-right, chosen-in    a page is where it is found, and the chosen place is one of its list
--     request-stepped, flush-stepped, drop-stepped    what a request, a flush and a drop do to frames, and that the state stays good
--     states-framed    so CASA's states are framed
-- Assumes nothing.
use Rattle.std.specs.Prelude.{Option, Some, None}
use mathlib.Core.Path.{◌≡◌, refl, sym, subst}
use mathlib.Core.Bool.{Bool, true, false, cond as if-else}
use mathlib.Core.Logic.{◌≢◌, dite}
use mathlib.Core.List.{List, [], ◌∷◌, ◌++◌}
use Prim.Native.Nat.{ℕ, zero, suc, ◌+◌, ◌-◌, ◌*◌, ◌≤◌, ◌<◌}
use native.Mathlib.Nat.{min-le_right}
use native.Mathlib.Decide.{dec_lt}
use native.Mathlib.Omega.{arith}
use lib.ListN.{length, get_or, set}
use lib.Dec.{eqb, ltb}
use borrow.Author.Tests.{ltb-true, ltb-false}
use Rattle.order.specs.Lists.{remove_at, move_to_front}
use Rattle.order.specs.Count.{bit, count}
use Rattle.order.specs.Find.{find_from}
use Rattle.order.proofs.Search.{find_from-below, find_from-at, find_from-none}
use Rattle.order.specs.Merge.{Ordered}
use Rattle.order.proofs.Count.{bit-same, bit-other, count-append, count-remove_at, count-move_to_front, count-other, count-alone, count-here}
use Rattle.order.proofs.Merged.{count-merged, ordered-swap, ordered-remove_at}
use Rattle.model.specs.Numbers.{Numbers, unit, most_served}
use Rattle.model.specs.Target.{Costs, up, down, adjust, above_target}
use Rattle.model.specs.Counts.{counted_by}
use Rattle.model.specs.Frames.{Blank, HitMark, VictimOf, Step, DropStep, vacates, misses}
use Rattle.model.specs.Policy.{Outcome}
use Rattle.model.specs.State.{State, with_lists, with_target, counted, page_in, resident, standing, frames_of}
use Rattle.model.specs.Good.{Numbered, Good}
use Rattle.model.specs.Request.{place_by, locate, chosen_by, ChoiceIn, chosen, taken, writes_of}
use Rattle.model.specs.Request.{hit, fault_into, faulted, request_at, request, flushed, vacated, dropped_at, dropped, states}
use Rattle.model.specs.declared.Op.{Op}
use Rattle.model.specs.declared.Op.TheVariants.{Read, Write}
use Rattle.model.specs.declared.Place.{Place}
use Rattle.model.specs.declared.Place.TheVariants.{InClean, InDirty}
use Rattle.model.specs.declared.Choice.{Choice}
use Rattle.model.specs.declared.Choice.TheVariants.{OfEmpty, OfClean, OfDirty}
use Rattle.model.specs.declared.Victim.{Victim}
use Rattle.model.specs.declared.Victim.TheVariants.{Clean, Dirty}
use Rattle.model.proofs.Frames.{placed-same, step-placed, step-blank, drop-placed, drop-blank, counts-in, Leaves, leaves-step}
use Rattle.model.proofs.Framed.{Stepped, FlushStepped, DropStepped, Framed}
use Rattle.model.proofs.Good.{standing-below, standing-once, lengths-sum}
use Rattle.model.proofs.Numbered.{clean-latest, dirty-latest, numbered-latest, numbered-flushed, numbered-vacated, numbered-later}

-- ---- where a page is found

-- a page that is found is in the frame at that place; one that is absent is in no frame
abbrev pub PlaceRight : State → ℕ → Option Place → Type 0
PlaceRight s q (Some (InClean i)) = (i < length s.lists.C) × (page_in s (get_or s.lists.C i 0) ≡ q)
PlaceRight s q (Some (InDirty i)) = (i < length s.lists.D) × (page_in s (get_or s.lists.D i 0) ≡ q)
PlaceRight s q None = (f : ℕ) → 1 ≤ resident s.lists f → page_in s f ≢ q

pub locate-right : (s : State) (q : ℕ) → PlaceRight s q (locate s q)
locate-right s q = go (find_from 0 s.page q s.lists.C) (find_from 0 s.page q s.lists.D) refl refl
  where
    go : (x y : Option ℕ) → find_from 0 s.page q s.lists.C ≡ x → find_from 0 s.page q s.lists.D ≡ y → PlaceRight s q (place_by x y)
    go (Some i) y e d = (omega (arith, find_from-below s.page q 0 s.lists.C i e), find_from-at s.page q 0 s.lists.C i i (omega arith) e)
    go None (Some i) e d = (omega (arith, find_from-below s.page q 0 s.lists.D i d), find_from-at s.page q 0 s.lists.D i i (omega arith) d)
    go None None e d =
        λ f h. dite (dec_lt 0 (count f s.lists.C)) (λ l. find_from-none s.page q 0 s.lists.C e f l)
        (λ n. find_from-none s.page q 0 s.lists.D d f (omega arith))

-- ---- the chosen place is one of its list

-- a list that is above the target has a place
above-some : (c τ : ℕ) → above_target c τ ≡ true → 0 < c
above-some zero τ e = absurd (omega (arith, ltb-true τ 0 e))
above-some (suc c) τ e = omega arith

pub chosen-in : (e c d τ : ℕ) → 1 ≤ e + (c + d) → ChoiceIn e c d (chosen_by e c d τ)
chosen-in e c d τ h = go (ltb 0 e) refl (above_target c τ) refl (ltb 0 d) refl
  where
    go : (x : Bool) → ltb 0 e ≡ x → (y : Bool) → above_target c τ ≡ y → (z : Bool) → ltb 0 d ≡ z
        → ChoiceIn e c d (if-else x (OfEmpty (e - 1)) (if-else y (OfClean (c - 1)) (if-else z (OfDirty (d - 1)) (OfClean (c - 1)))))
    go true x y ey z ez = omega (arith, ltb-true 0 e x)
    go false x true y z ez = omega (arith, above-some c τ y)
    go false x false y true z = omega (arith, ltb-true 0 d z)
    go false x false y false z = omega (arith, ltb-false 0 e x, ltb-false 0 d z)

-- ---- states that are good, with 0 for the page of each empty frame

pub record Whole (s : State) : Type 0 where
  pub good : Good s
  pub blank : Blank (frames_of s)

abbrev CasaStepped : Op → State → ℕ → Outcome State → Type 0
CasaStepped op s q o = Stepped states Whole frames_of op s q o

module _ (s : State) (w : Whole s) (q : ℕ) (q-inside : q < s.numbers.N) (more : s.counts.served < most_served) where
  -- a step that keeps b to w, leaves right reference numbers and holds target and counts within their limits leaves a good state
  after-step : (op : Op) (o : Outcome State) (reads writes : ℕ) → Step op q o.frame o.answer (frames_of s) (frames_of o.state)
      → s.numbers ≡ o.state.numbers → Numbered s.numbers.b o.state.counts.served o.state.reference o.state.lists
      → o.state.target ≤ s.numbers.b * unit
      → counted_by reads writes s.counts ≡ o.state.counts → reads ≤ 1 → writes ≤ s.numbers.b → CasaStepped op s q o
  after-step op o reads writes t e n top c one few =
      let g = w.good in
      record {
        step = t;
        same = sym e;
        good = record {
          good = record {
            limits = rw e at g.limits;
            placed = rw e at (step-placed s.numbers (frames_of s) g.placed (frames_of o.state) op q o.frame o.answer t q-inside);
            numbered = subst (λ (m : Numbers). Numbered m.b o.state.counts.served o.state.reference o.state.lists) e n;
            target_high = rw e at top;
            counts = rw (e, c) at (counts-in s.numbers s.counts g.counts more reads writes one few);
          };
          blank = step-blank s.numbers (frames_of s) g.placed (frames_of o.state) op q o.frame o.answer t w.blank;
        };
      }

  -- ---- a hit on frame f: C and D have the same frames as before, and the target is τ

  hit-stepped : (op : Op) (C D : List ℕ) (τ f : ℕ) → 1 ≤ resident s.lists f → page_in s f ≡ q → ((h : ℕ) → count h C + count h D ≡ resident s.lists h)
      → HitMark op (count f s.lists.D) (count f D) → ((h : ℕ) → f ≢ h → count h D ≡ count h s.lists.D)
      → Ordered (set s.reference f (s.counts.served + 1)) (s.counts.served + 1) C D → τ ≤ s.numbers.b * unit
      → CasaStepped op s q (hit f (with_target τ (with_lists s.lists.E C D s)))
  hit-stepped op C D τ f here has same mark off ordered top =
      after-step op (hit f (with_target τ (with_lists s.lists.E C D s))) 0 0
      (record { here = here; has = has; empty_same = λ h. refl; resident_same = same; page_same = refl; mark = mark; mark_off = off })
      refl
      (numbered-latest w.good.numbered s.lists.E C D f
      (λ h c. (λ e. let k : 1 ≤ count f s.lists.E = rw e c in omega (arith, standing-once s w.good f), c)) ordered)
      top refl (omega arith) (omega arith)

  -- a frame that stands in a list has a number
  numbered-frame : (f : ℕ) → 1 ≤ standing s.lists f → f < length s.reference
  numbered-frame f h = omega (arith, w.good.numbered.each, standing-below s w.good f h)

  -- ---- a fault: frame f leaves its list, which makes the lists E, C and D, and comes back to C or D

  module _ (away : (f : ℕ) → 1 ≤ resident s.lists f → page_in s f ≢ q) where
    module _ (E C D : List ℕ) (f : ℕ) (v : Option Victim) (l : Leaves (frames_of s) (λ h. count h E) (λ h. count h C + count h D) f)
        (dirty-off : (h : ℕ) → f ≢ h → count h D ≡ count h s.lists.D)
        (victim : VictimOf v (resident s.lists f) (count f s.lists.D) (page_in s f))
        (ordered : Ordered s.reference s.counts.served C D) where
      few : (v : Option Victim) → writes_of v ≤ s.numbers.b
      few None = omega arith
      few (Some (Clean p)) = omega arith
      few (Some (Dirty p)) = omega (arith, w.good.limits.b_low)

      -- it stands in no list between
      out : count f E + (count f C + count f D) ≡ 0
      out = omega (arith, l.out f, standing-once s w.good f, bit-same f)

      inside : f < length s.reference
      inside = numbered-frame f (omega (arith, l.out f, bit-same f))

      numbered : (C' D' : List ℕ) → Ordered (set s.reference f (s.counts.served + 1)) (s.counts.served + 1) C' D'
          → Numbered s.numbers.b (s.counts.served + 1) (set s.reference f (s.counts.served + 1)) (record { E = E; C = C'; D = D' })
      numbered C' D' =
          numbered-latest w.good.numbered E C' D' f
          (λ h c.
          let n : f ≢ h = λ e. let k : 1 ≤ count f E = rw e c in omega (arith, out) in
          (n, omega (arith, (l.off h n).0)))

      abbrev into : Op → Outcome State
      into op = fault_into op q (record { state = with_lists E C D s; frame = f; victim = v })

      back-stepped : (op : Op) → CasaStepped op s q (into op)
      back-stepped Read =
          after-step Read (into Read) 1 (writes_of v)
          (leaves-step s.numbers (frames_of s) w.good.placed (frames_of (into Read).state) Read q f v _ l
          (λ h. omega arith) away victim refl (omega (arith, out)) dirty-off)
          refl (numbered (f ∷ C) D (clean-latest ordered f inside (omega (arith, out)) (omega (arith, out)))) w.good.target_high refl (omega arith) (few v)
      back-stepped Write =
          after-step Write (into Write) 1 (writes_of v)
          (leaves-step s.numbers (frames_of s) w.good.placed (frames_of (into Write).state) Write q f v _ l
          (λ h. omega arith) away victim refl (omega (arith, bit-same f)) (λ h n. omega (arith, dirty-off h n, bit-other f h n)))
          refl (numbered C (f ∷ D) (dirty-latest ordered f inside (omega (arith, out)) (omega (arith, out)))) w.good.target_high refl (omega arith) (few v)

    taken-stepped : (op : Op) (k : Choice) → ChoiceIn (length s.lists.E) (length s.lists.C) (length s.lists.D) k
        → CasaStepped op s q (fault_into op q (taken s k))
    taken-stepped op (OfEmpty i) h =
        let f : ℕ = get_or s.lists.E i 0 in
        back-stepped (remove_at i s.lists.E) s.lists.C s.lists.D f None
        (record { out = λ g. omega (arith, count-remove_at g s.lists.E i h); off = λ g n. (count-other g s.lists.E i h n, refl) })
        (λ g n. refl) (omega (arith, count-here s.lists.E i h, standing-once s w.good f)) w.good.numbered.ordered op
    taken-stepped op (OfClean i) h =
        let f : ℕ = get_or s.lists.C i 0 in
        let c = count-here s.lists.C i h in
        back-stepped s.lists.E (remove_at i s.lists.C) s.lists.D f (Some (Clean (page_in s f)))
        (record { out = λ g. omega (arith, count-remove_at g s.lists.C i h); off = λ g n. (refl, omega (arith, count-other g s.lists.C i h n)) })
        (λ g n. refl) (omega arith, omega (arith, standing-once s w.good f), refl) (ordered-remove_at w.good.numbered.ordered i h) op
    taken-stepped op (OfDirty i) h =
        let f : ℕ = get_or s.lists.D i 0 in
        let c = count-here s.lists.D i h in
        back-stepped s.lists.E s.lists.C (remove_at i s.lists.D) f (Some (Dirty (page_in s f)))
        (record { out = λ g. omega (arith, count-remove_at g s.lists.D i h); off = λ g n. (refl, omega (arith, count-other g s.lists.D i h n)) })
        (λ g n. count-other g s.lists.D i h n) (omega arith, refl) (ordered-swap (ordered-remove_at (ordered-swap w.good.numbered.ordered) i h)) op

  -- ---- any request

  pub request-stepped : (op : Op) (k : Costs) → CasaStepped op s q (request op k s q)
  request-stepped op k = go op (locate s q) (locate-right s q)
    where
      absent : (o : Op) → PlaceRight s q None → CasaStepped o s q (faulted o s q)
      absent o p =
          taken-stepped p o (chosen s)
          (chosen-in (length s.lists.E) (length s.lists.C) (length s.lists.D) s.target
          (omega (arith, lengths-sum s w.good, w.good.limits.b_low)))

      o : Ordered s.reference s.counts.served s.lists.C s.lists.D
      o = w.good.numbered.ordered

      -- the frame at a place of C stands there alone, and so does that of D
      clean-alone : (i : ℕ) → i < length s.lists.C
          → (count (get_or s.lists.C i 0) (remove_at i s.lists.C) ≡ 0) × (count (get_or s.lists.C i 0) s.lists.D ≡ 0)
      clean-alone = count-alone s.lists.C s.lists.D (λ f. omega (arith, standing-once s w.good f))

      dirty-alone : (i : ℕ) → i < length s.lists.D
          → (count (get_or s.lists.D i 0) (remove_at i s.lists.D) ≡ 0) × (count (get_or s.lists.D i 0) s.lists.C ≡ 0)
      dirty-alone = count-alone s.lists.D s.lists.C (λ f. omega (arith, standing-once s w.good f))

      -- a frame of D goes to its front
      dirty-front : (i : ℕ) → i < length s.lists.D
          → Ordered (set s.reference (get_or s.lists.D i 0) (s.counts.served + 1)) (s.counts.served + 1) s.lists.C (move_to_front i s.lists.D)
      dirty-front i h =
          let f : ℕ = get_or s.lists.D i 0 in
          let c = count-here s.lists.D i h in
          dirty-latest (ordered-swap (ordered-remove_at (ordered-swap o) i h)) f (numbered-frame f (omega arith)) (dirty-alone i h).1 (dirty-alone i h).0

      go : (op : Op) (x : Option Place) → PlaceRight s q x → CasaStepped op s q (request_at op k s q x)
      go Read (Some (InClean i)) p =
          let c = count-here s.lists.C i p.0 in
          hit-stepped Read (move_to_front i s.lists.C) s.lists.D (adjust s.numbers.b s.target (up k (length s.lists.C) (length s.lists.D)))
          _ (omega arith) p.1 (λ h. omega (arith, count-move_to_front h s.lists.C i p.0)) refl (λ h n. refl)
          (clean-latest (ordered-remove_at o i p.0) _ (numbered-frame _ (omega arith)) (clean-alone i p.0).0 (clean-alone i p.0).1) (min-le_right _ _)
      go Write (Some (InClean i)) p =
          let f : ℕ = get_or s.lists.C i 0 in
          let c = count-here s.lists.C i p.0 in
          hit-stepped Write (remove_at i s.lists.C) (f ∷ s.lists.D) s.target f
          (omega arith) p.1 (λ h. omega (arith, count-remove_at h s.lists.C i p.0)) (omega (arith, bit-same f)) (λ h n. omega (arith, bit-other f h n))
          (dirty-latest (ordered-remove_at o i p.0) f (numbered-frame f (omega arith)) (clean-alone i p.0).0 (clean-alone i p.0).1) w.good.target_high
      go Write (Some (InDirty i)) p =
          let f : ℕ = get_or s.lists.D i 0 in
          let c = count-here s.lists.D i p.0 in
          hit-stepped Write s.lists.C (move_to_front i s.lists.D)
          (adjust s.numbers.b s.target (down k (length s.lists.C) (length s.lists.D))) f
          (omega arith) p.1 (λ h. omega (arith, count-move_to_front h s.lists.D i p.0)) (omega (arith, bit-same f))
          (λ h n. count-move_to_front h s.lists.D i p.0) (dirty-front i p.0) (omega (arith, w.good.target_high))
      go Read (Some (InDirty i)) p =
          let f : ℕ = get_or s.lists.D i 0 in
          let c = count-here s.lists.D i p.0 in
          hit-stepped Read s.lists.C (move_to_front i s.lists.D) s.target f
          (omega arith) p.1 (λ h. omega (arith, count-move_to_front h s.lists.D i p.0)) (count-move_to_front f s.lists.D i p.0)
          (λ h n. count-move_to_front h s.lists.D i p.0) (dirty-front i p.0) w.good.target_high
      go Read None p = absent Read p
      go Write None p = absent Write p

-- ---- a flush

pub flush-stepped : (s : State) → Whole s → s.counts.served < most_served → FlushStepped states Whole frames_of s
flush-stepped s w more =
    let g = w.good in
    let same : (f : ℕ) → resident (flushed s).lists f ≡ resident s.lists f = λ f. omega (arith, count-merged s.reference f s.lists.D s.lists.C) in
    record {
      step = record { empty_same = λ f. refl; resident_same = same; page_same = refl; listed = λ f l. omega arith; rest = λ f e l. e; saved = λ f. refl };
      same = refl;
      good = record {
        good = record {
          limits = g.limits;
          placed = placed-same s.numbers (frames_of s) g.placed (frames_of (flushed s)) (λ f. refl) same refl;
          numbered = numbered-flushed g.numbered;
          target_high = g.target_high;
          counts = counts-in s.numbers s.counts g.counts more 0 (length s.lists.D) (omega arith) (omega (arith, lengths-sum s g));
        };
        blank = w.blank;
      };
    }

-- ---- a drop

module _ (s : State) (w : Whole s) (q : ℕ) (more : s.counts.served < most_served) where
  abbrev CasaDropped : State → Type 0
  CasaDropped t = DropStepped states Whole frames_of s q t

  -- a drop that keeps b to w and the target, counts one write and leaves right reference numbers leaves a good state
  after-drop : (t : State) → DropStep q (frames_of s) (frames_of t) → s.numbers ≡ t.numbers
      → Numbered s.numbers.b t.counts.served t.reference t.lists → s.target ≡ t.target → counted_by 0 1 s.counts ≡ t.counts → CasaDropped t
  after-drop t d e n τ c =
      let g = w.good in
      record {
        step = d;
        same = sym e;
        good = record {
          good = record {
            limits = rw e at g.limits;
            placed = rw e at (drop-placed s.numbers (frames_of s) g.placed (frames_of t) q d);
            numbered = subst (λ (m : Numbers). Numbered m.b t.counts.served t.reference t.lists) e n;
            target_high = rw (e, τ) at g.target_high;
            counts = rw (e, c) at (counts-in s.numbers s.counts g.counts more 0 1 (omega arith) g.limits.b_low);
          };
          blank = drop-blank s.numbers (frames_of s) g.placed (frames_of t) q d w.blank;
        };
      }

  -- frame f leaves its list, which makes the lists C and D
  vacated-stepped : (C D : List ℕ) (f : ℕ) → ((h : ℕ) → bit (eqb f h) + (count h C + count h D) ≡ resident s.lists h) → page_in s f ≡ q
      → ((h : ℕ) → f ≢ h → count h D ≡ count h s.lists.D) → Ordered s.reference s.counts.served C D
      → CasaDropped (counted 0 1 (vacated f (with_lists s.lists.E C D s)))
  vacated-stepped C D f left has dirty-off ordered =
      let here : 1 ≤ resident s.lists f = omega (arith, left f, bit-same f) in
      let out : count f C + count f D ≡ 0 = omega (arith, left f, bit-same f, standing-once s w.good f) in
      let stands : (h : ℕ) → count h (s.lists.E ++ (f ∷ [])) + (count h C + count h D) ≡ standing s.lists h =
      λ h. omega (arith, left h, count-append h s.lists.E (f ∷ [])) in
      after-drop (counted 0 1 (vacated f (with_lists s.lists.E C D s)))
      (vacates f
      (record {
        here = here;
        has = has;
        stands = stands;
        gone = out;
        resident_off = λ h m. omega (arith, left h, bit-other f h m);
        page_set = refl;
        mark_off = dirty-off;
      }))
      refl
      (numbered-vacated w.good.numbered C D f (omega (arith, w.good.numbered.each, standing-below s w.good f (omega arith))) out ordered)
      refl refl

  pub drop-stepped : CasaDropped (dropped s q)
  drop-stepped = go (locate s q) (locate-right s q)
    where
      o : Ordered s.reference s.counts.served s.lists.C s.lists.D
      o = w.good.numbered.ordered

      go : (x : Option Place) → PlaceRight s q x → CasaDropped (dropped_at s x)
      go (Some (InClean i)) p =
          vacated-stepped (remove_at i s.lists.C) s.lists.D (get_or s.lists.C i 0)
          (λ h. omega (arith, count-remove_at h s.lists.C i p.0)) p.1 (λ h n. refl) (ordered-remove_at o i p.0)
      go (Some (InDirty i)) p =
          vacated-stepped s.lists.C (remove_at i s.lists.D) (get_or s.lists.D i 0)
          (λ h. omega (arith, count-remove_at h s.lists.D i p.0)) p.1 (λ h n. count-other h s.lists.D i p.0 n)
          (ordered-swap (ordered-remove_at (ordered-swap o) i p.0))
      go None p =
          after-drop (counted 0 1 s)
          (misses (record { absent = p; empty_same = λ h. refl; resident_same = λ h. refl; page_same = refl; mark_same = λ h. refl }))
          refl (numbered-later w.good.numbered) refl refl

unfoldable pub states-framed : Framed states
states-framed =
    record {
      Good = Whole;
      frames = frames_of;
      placed = λ s w. w.good.placed;
      pages = λ s. refl;
      request = λ op k s q w inside more. request-stepped s w q inside more op k;
      flush = flush-stepped;
      drop = λ s q w inside more. drop-stepped s w q more;
    }
