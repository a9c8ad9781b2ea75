-- The numbers that CASA's states carry are those of the last references: a request gives its frame, which has its page, the number of the call, and no other
-- resident frame has that page; a flush and a drop give none.
--     request-tracks, flush-tracks, drop-tracks, nothing-tracks    one call
--     tracks-append    one after the other
-- Assumes nothing.
use Rattle.std.specs.Prelude.{Option, Some, None}
use mathlib.Core.Path.{◌≡◌, refl, sym, ap, ◌∙◌}
use mathlib.Core.Logic.{◌≢◌, dite}
use mathlib.Core.List.{List, [], ◌∷◌, ◌++◌}
use Prim.Native.Nat.{ℕ, suc, ◌+◌, ◌≤◌, ◌<◌}
use native.Mathlib.Nat.{add-zero}
use native.Mathlib.Decide.{ℕ_discrete}
use native.Mathlib.Omega.{arith}
use lib.Dec.{eqb}
use lib.ListN.{length, get_or, set, length-append}
use lib.Seq.{get_or-set_same, get_or-set_other}
use borrow.Author.Tests.{eq-eqb, ne_eqb}
use Rattle.order.specs.Lists.{remove_at}
use Rattle.order.specs.Count.{bit, count}
use Rattle.order.proofs.Count.{bit-same, count-remove_at}
use Rattle.order.proofs.Merged.{count-merged}
use Rattle.model.specs.Numbers.{most_served}
use Rattle.model.specs.Target.{Costs}
use Rattle.model.specs.Policy.{Outcome}
use Rattle.model.specs.References.{Reference, page, none, last_from}
use Rattle.model.specs.State.{State, with_lists, counted, page_in, number_in, resident, frames_of}
use Rattle.model.specs.Request.{locate, chosen, taken, fault_into, request_at, request, flushed, vacated, dropped_at, dropped, states}
use Rattle.model.specs.declared.Op.{Op}
use Rattle.model.specs.declared.Op.TheVariants.{Read, Write}
use Rattle.model.specs.declared.Place.{Place}
use Rattle.model.specs.declared.Place.TheVariants.{InClean, InDirty}
use Rattle.model.specs.declared.Choice.{Choice}
use Rattle.model.specs.declared.Choice.TheVariants.{OfEmpty, OfClean, OfDirty}
use Rattle.model.proofs.Frames.{step-frame, step-here, step-off}
use Rattle.model.proofs.Framed.{Stepped}
use Rattle.model.proofs.Good.{standing-once}
use Rattle.model.proofs.Steps.{PlaceRight, locate-right, Whole, request-stepped}

-- the number of each resident frame is what `last` says of its page
abbrev pub Tracked : (ℕ → ℕ) → State → Type 0
Tracked last s = (f : ℕ) → 1 ≤ resident s.lists f → number_in s f ≡ last (page_in s f)

-- from state s to state t so much was referenced
pub record Tracks (s t : State) (rs : List Reference) : Type 0 where
  pub served : t.counts.served ≡ s.counts.served + length rs
  pub tracked : (last : ℕ → ℕ) → Tracked last s → Tracked (λ q. last_from q s.counts.served (last q) rs) t

-- ---- one call

-- the frame has the number of the call, and one call more is served
record Given (s : State) (o : Outcome State) : Type 0 where
  reference : o.state.reference ≡ set s.reference o.frame (s.counts.served + 1)
  served : o.state.counts.served ≡ s.counts.served + 1

fault-given : (op : Op) (s : State) (q : ℕ) (k : Choice) → Given s (fault_into op q (taken s k))
fault-given Read s q (OfEmpty i) = record { reference = refl; served = refl }
fault-given Read s q (OfClean i) = record { reference = refl; served = refl }
fault-given Read s q (OfDirty i) = record { reference = refl; served = refl }
fault-given Write s q (OfEmpty i) = record { reference = refl; served = refl }
fault-given Write s q (OfClean i) = record { reference = refl; served = refl }
fault-given Write s q (OfDirty i) = record { reference = refl; served = refl }

place-given : (op : Op) (k : Costs) (s : State) (q : ℕ) (x : Option Place) → Given s (request_at op k s q x)
place-given Read k s q (Some (InClean i)) = record { reference = refl; served = refl }
place-given Write k s q (Some (InClean i)) = record { reference = refl; served = refl }
place-given Write k s q (Some (InDirty i)) = record { reference = refl; served = refl }
place-given Read k s q (Some (InDirty i)) = record { reference = refl; served = refl }
place-given Read k s q None = fault-given Read s q (chosen s)
place-given Write k s q None = fault-given Write s q (chosen s)

module _ (s : State) (w : Whole s) where
  pub request-tracks : (op : Op) (k : Costs) (q : ℕ) → q < s.numbers.N → s.counts.served < most_served
      → Tracks s (request op k s q).state (page q ∷ [])
  request-tracks op k q inside more = record { served = given.served; tracked = go }
    where
      o : Outcome State
      o = request op k s q

      given : Given s o
      given = place-given op k s q (locate s q)

      stepped : Stepped states Whole frames_of op s q o
      stepped = request-stepped s w q inside more op k

      below : o.frame < s.numbers.b
      below = step-frame s.numbers (frames_of s) w.good.placed (frames_of o.state) op q o.frame o.answer stepped.step

      here : (1 ≤ resident o.state.lists o.frame) × (page_in o.state o.frame ≡ q)
      here = step-here s.numbers (frames_of s) w.good.placed (frames_of o.state) op q o.frame o.answer stepped.step

      go : (last : ℕ → ℕ) → Tracked last s → (g : ℕ) → 1 ≤ resident o.state.lists g
          → number_in o.state g ≡ last_from (page_in o.state g) s.counts.served (last (page_in o.state g)) (page q ∷ [])
      go last h g c =
          let n : ℕ = s.counts.served in
          dite (ℕ_discrete o.frame g)
          (λ e.
          let number : number_in o.state g ≡ n + 1 =
          rw (given.reference, ← e) (get_or-set_same s.reference o.frame (n + 1) 0 (omega (arith, below, w.good.numbered.each))) in
          let its : q ≡ page_in o.state g = rw (← e) (sym here.1) in
          rw (number, eq-eqb q (page_in o.state g) its))
          (λ m.
          let off = step-off s.numbers (frames_of s) w.good.placed (frames_of o.state) op q o.frame o.answer stepped.step g m in
          let number : number_in o.state g ≡ number_in s g =
          rw given.reference (get_or-set_other s.reference o.frame g (n + 1) 0 (λ e. m (sym e))) in
          let other : q ≢ page_in o.state g = λ e. m (stepped.good.good.placed.apart o.frame g here.0 c (here.1 ∙ e)) in
          number ∙ h g (omega (arith, off.0)) ∙ ap last (sym off.2) ∙ sym (rw (ne_eqb q (page_in o.state g) other)))

  pub flush-tracks : Tracks s (flushed s) (none ∷ [])
  flush-tracks =
      record {
        served = refl;
        tracked = λ last h f c. h f (omega (arith, count-merged s.reference f s.lists.D s.lists.C));
      }

  pub drop-tracks : (q : ℕ) → Tracks s (dropped s q) (none ∷ [])
  drop-tracks q = go (locate s q) (locate-right s q)
    where
      -- frame f leaves its list, which makes the lists C and D
      vacated-tracks : (C D : List ℕ) (f : ℕ) → ((h : ℕ) → bit (eqb f h) + (count h C + count h D) ≡ resident s.lists h)
          → Tracks s (counted 0 1 (vacated f (with_lists s.lists.E C D s))) (none ∷ [])
      vacated-tracks C D f left =
          record {
            served = refl;
            tracked = λ last h g c.
                let m : f ≢ g = λ e. let k : 1 ≤ count f C + count f D = rw e c in omega (arith, left f, bit-same f, standing-once s w.good f) in
                get_or-set_other s.reference f g 0 0 (λ e. m (sym e)) ∙ h g (omega (arith, left g))
                ∙ ap last (sym (get_or-set_other s.page f g 0 0 (λ e. m (sym e))));
          }

      go : (x : Option Place) → PlaceRight s q x → Tracks s (dropped_at s x) (none ∷ [])
      go (Some (InClean i)) p = vacated-tracks (remove_at i s.lists.C) s.lists.D (get_or s.lists.C i 0) (λ h. omega (arith, count-remove_at h s.lists.C i p.0))
      go (Some (InDirty i)) p = vacated-tracks s.lists.C (remove_at i s.lists.D) (get_or s.lists.D i 0) (λ h. omega (arith, count-remove_at h s.lists.D i p.0))
      go None p = record { served = refl; tracked = λ last h. h }

pub nothing-tracks : (s : State) → Tracks s s []
nothing-tracks s = record { served = sym (add-zero s.counts.served); tracked = λ last h. h }

-- ---- one after the other

last_from-append : (q n last : ℕ) (l k : List Reference) → last_from q n last (l ++ k) ≡ last_from q (n + length l) (last_from q n last l) k
last_from-append q n last [] k = ap (λ (m : ℕ). last_from q m last k) (sym (add-zero n))
last_from-append q n last (page p ∷ l) k =
    let e : n + 1 + length l ≡ n + suc (length l) = omega arith in
    last_from-append q (n + 1) _ l k ∙ ap (λ (m : ℕ). last_from q m (last_from q n last (page p ∷ l)) k) e
last_from-append q n last (none ∷ l) k =
    let e : n + 1 + length l ≡ n + suc (length l) = omega arith in
    last_from-append q (n + 1) last l k ∙ ap (λ (m : ℕ). last_from q m (last_from q n last (none ∷ l)) k) e

pub tracks-append : (s t u : State) (l k : List Reference) → Tracks s t l → Tracks t u k → Tracks s u (l ++ k)
tracks-append s t u l k x y =
    record {
      served = omega (arith, x.served, y.served, length-append l k);
      tracked = λ last h f c.
          y.tracked (λ q. last_from q s.counts.served (last q) l) (x.tracked last h) f c
          ∙ ap (λ (m : ℕ). last_from (page_in u f) m (last_from (page_in u f) s.counts.served (last (page_in u f)) l) k) x.served
          ∙ sym (last_from-append (page_in u f) s.counts.served (last (page_in u f)) l k);
    }
