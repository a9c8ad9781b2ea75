-- E is a stack: a drop of a resident page puts its frame behind the last of E, and a fault takes the last of E, for no victim, and leaves the others. So of two
-- drops the frame of the later one is used first.
--     tail-taken    what a fault does where E has a last frame
--     drop-tail    what E is after a drop
-- Assumes nothing.
use Rattle.std.specs.Prelude.{Option, Some, None, Ok}
use mathlib.Core.Path.{◌≡◌, refl, sym, ap, ◌∙◌, subst}
use mathlib.Core.List.{List, [], ◌∷◌, ◌++◌, append-nil}
use Prim.Native.Nat.{ℕ, ◌+◌, ◌≤◌, ◌<◌}
use native.Mathlib.Nat.{add-sub_cancel}
use native.Mathlib.Omega.{arith}
use lib.ListN.{length, get_or, length-append}
use lib.Seq.{get_or-set_same, get_or-append_seam}
use borrow.Author.Tests.{lt-ltb}
use Rattle.order.specs.Lists.{remove_at}
use Rattle.order.specs.Count.{count}
use Rattle.order.proofs.Count.{bit-same, count-append, count-here}
use Rattle.order.proofs.Lists.{remove_at-seam}
use Rattle.model.specs.Target.{Costs}
use Rattle.model.specs.State.{State, page_in, resident, standing}
use Rattle.model.specs.Policy.{Outcome}
use Rattle.model.specs.Request.{locate, chosen_by, chosen, taken, fault_into, faulted, request_at, request, dropped_at, dropped}
use Rattle.model.specs.declared.Op.{Op}
use Rattle.model.specs.declared.Op.TheVariants.{Read, Write}
use Rattle.model.specs.declared.Place.{Place}
use Rattle.model.specs.declared.Place.TheVariants.{InClean, InDirty}
use Rattle.model.specs.declared.Choice.{Choice}
use Rattle.model.specs.declared.Choice.TheVariants.{OfEmpty}
use Rattle.model.specs.declared.Access.TheVariants.{Fault}
use Rattle.model.proofs.Good.{standing-below}
use Rattle.model.proofs.Steps.{PlaceRight, locate-right, Whole}

-- a fault for page q took frame f, for no victim, and left E of the empty ones
pub record Takes (q f : ℕ) (E : List ℕ) (o : Outcome State) : Type 0 where
  pub frame : o.frame ≡ f
  pub here : 1 ≤ resident o.state.lists f
  pub page : page_in o.state f ≡ q
  pub answer : o.answer ≡ Ok (Fault None)
  pub rest : o.state.lists.E ≡ E

fault-taken : (op : Op) (s : State) (q f : ℕ) (E : List ℕ) → s.lists.E ≡ E ++ (f ∷ []) → f < length s.page → Takes q f E (faulted op s q)
fault-taken op s q f E e l =
    let n : length s.lists.E ≡ length E + 1 = ap length e ∙ length-append E (f ∷ []) in
    let which : chosen s ≡ OfEmpty (length E) =
    ap (λ (k : ℕ). chosen_by k (length s.lists.C) (length s.lists.D) s.target) n
    ∙ rw (lt-ltb 0 (length E + 1) (omega arith), add-sub_cancel) in
    let frame : get_or s.lists.E (length E) 0 ≡ f = rw e (get_or-append_seam E f [] 0) in
    let rest : remove_at (length E) s.lists.E ≡ E = rw e (remove_at-seam E f [] ∙ append-nil E) in
    subst (λ (k : Choice). Takes q f E (fault_into op q (taken s k))) (sym which) (go op frame rest)
  where
    go : (o : Op) → get_or s.lists.E (length E) 0 ≡ f → remove_at (length E) s.lists.E ≡ E → Takes q f E (fault_into o q (taken s (OfEmpty (length E))))
    go Read x y = record { frame = x; here = rw x (omega (arith, bit-same f)); page = rw x (get_or-set_same s.page f q 0 l); answer = refl; rest = y }
    go Write x y = record { frame = x; here = rw x (omega (arith, bit-same f)); page = rw x (get_or-set_same s.page f q 0 l); answer = refl; rest = y }

module _ (s : State) (w : Whole s) where
  -- "so the next fault uses it"
  pub tail-taken : (op : Op) (k : Costs) (q f : ℕ) (E : List ℕ) → s.lists.E ≡ E ++ (f ∷ []) → locate s q ≡ None → Takes q f E (request op k s q)
  tail-taken op k q f E e a = subst (λ (x : Option Place). Takes q f E (request_at op k s q x)) (sym a) (go op)
    where
      -- it stands in E
      below : f < length s.page
      below =
          let c : count f s.lists.E ≡ count f (E ++ (f ∷ [])) = ap (count f) e in
          let here : 1 ≤ standing s.lists f = omega (arith, c, count-append f E (f ∷ []), bit-same f) in
          omega (arith, w.good.placed.paged, standing-below s w.good f here)

      go : (o : Op) → Takes q f E (request_at o k s q None)
      go Read = fault-taken Read s q f E e below
      go Write = fault-taken Write s q f E e below

  -- "its frame leaves C or D and becomes the tail of E"; frame f alone has the page
  pub drop-tail : (q f : ℕ) → 1 ≤ resident s.lists f → page_in s f ≡ q → (dropped s q).lists.E ≡ s.lists.E ++ (f ∷ [])
  drop-tail q f here has = go (locate s q) (locate-right s q)
    where
      alone : (g : ℕ) → 1 ≤ resident s.lists g → page_in s g ≡ q → g ≡ f
      alone g l e = w.good.placed.apart g f l here (e ∙ sym has)

      go : (x : Option Place) → PlaceRight s q x → (dropped_at s x).lists.E ≡ s.lists.E ++ (f ∷ [])
      go (Some (InClean i)) p =
          let c = count-here s.lists.C i p.0 in ap (λ (g : ℕ). s.lists.E ++ (g ∷ [])) (alone (get_or s.lists.C i 0) (omega arith) p.1)
      go (Some (InDirty i)) p =
          let c = count-here s.lists.D i p.0 in ap (λ (g : ℕ). s.lists.E ++ (g ∷ [])) (alone (get_or s.lists.D i 0) (omega arith) p.1)
      go None p = absurd (p f here has)
