-- A request moves the target by the adjustments that it makes, each with the sizes that the lists really have then, and a flush and a drop make none. So
-- after a run the target is the start with the run's adjustments made in order, and the drift theorem speaks of it.
-- Assumes nothing.
use Rattle.std.specs.Prelude.{Option, Some, None}
use mathlib.Core.Path.{◌≡◌, refl, sym, ◌∙◌}
use mathlib.Core.List.{List, [], ◌∷◌, ◌++◌}
use Prim.Native.Nat.{ℕ, ◌+◌, ◌<◌}
use native.Mathlib.Nat.{mul-pos}
use native.Mathlib.Omega.{arith}
use Rattle.model.specs.Target.{Costs, Adjustment, rounded, adjust_by, adjust_all_by}
use Rattle.model.specs.State.{State}
use Rattle.model.specs.Request.{locate, chosen, taken, fault_into, request_at, request, flushed, dropped_at, dropped, adjustments_at, adjustments_of}
use Rattle.model.specs.declared.Op.{Op}
use Rattle.model.specs.declared.Op.TheVariants.{Read, Write}
use Rattle.model.specs.declared.Place.{Place}
use Rattle.model.specs.declared.Place.TheVariants.{InClean, InDirty}
use Rattle.model.specs.declared.Choice.{Choice}
use Rattle.model.specs.declared.Choice.TheVariants.{OfEmpty, OfClean, OfDirty}
use Rattle.model.proofs.Steps.{PlaceRight, locate-right}
use Rattle.model.proofs.Drift.{AllDivide}

-- from state s to state t the numbers stay, and the target moves by the adjustments l, none of which divides by 0
pub record Adjusted (s t : State) (l : List Adjustment) : Type 0 where
  pub numbers : t.numbers ≡ s.numbers
  pub target : t.target ≡ adjust_all_by rounded s.numbers.b s.target l
  pub divide : AllDivide l

pub stays : (s t : State) → t.numbers ≡ s.numbers → t.target ≡ s.target → Adjusted s t []
stays s t n e = record { numbers = n; target = e; divide = tt }

fault-adjusted : (op : Op) (s : State) (q : ℕ) (k : Choice) → Adjusted s (fault_into op q (taken s k)).state []
fault-adjusted Read s q (OfEmpty i) = stays _ _ refl refl
fault-adjusted Read s q (OfClean i) = stays _ _ refl refl
fault-adjusted Read s q (OfDirty i) = stays _ _ refl refl
fault-adjusted Write s q (OfEmpty i) = stays _ _ refl refl
fault-adjusted Write s q (OfClean i) = stays _ _ refl refl
fault-adjusted Write s q (OfDirty i) = stays _ _ refl refl

place-adjusted : (op : Op) (k : Costs) → 0 < k.r + k.w → (s : State) (q : ℕ) (x : Option Place) → PlaceRight s q x
    → Adjusted s (request_at op k s q x).state (adjustments_at op k s x)
place-adjusted Read k h s q (Some (InClean i)) p = record { numbers = refl; target = refl; divide = (mul-pos h (omega (arith, p.0)), tt) }
place-adjusted Write k h s q (Some (InClean i)) p = stays _ _ refl refl
place-adjusted Write k h s q (Some (InDirty i)) p = record { numbers = refl; target = refl; divide = (mul-pos h (omega (arith, p.0)), tt) }
place-adjusted Read k h s q (Some (InDirty i)) p = stays _ _ refl refl
place-adjusted Read k h s q None p = fault-adjusted Read s q (chosen s)
place-adjusted Write k h s q None p = fault-adjusted Write s q (chosen s)

pub request-adjusted : (op : Op) (k : Costs) → 0 < k.r + k.w → (s : State) (q : ℕ) → Adjusted s (request op k s q).state (adjustments_of op k s q)
request-adjusted op k h s q = place-adjusted op k h s q (locate s q) (locate-right s q)

pub flush-adjusted : (s : State) → Adjusted s (flushed s) []
flush-adjusted s = stays s (flushed s) refl refl

pub drop-adjusted : (s : State) (q : ℕ) → Adjusted s (dropped s q) []
drop-adjusted s q = go (locate s q)
  where
    go : (x : Option Place) → Adjusted s (dropped_at s x) []
    go (Some (InClean i)) = stays _ _ refl refl
    go (Some (InDirty i)) = stays _ _ refl refl
    go None = stays _ _ refl refl

-- ---- one after the other

adjust_all-append : (b τ : ℕ) (l k : List Adjustment) → adjust_all_by rounded b τ (l ++ k) ≡ adjust_all_by rounded b (adjust_all_by rounded b τ l) k
adjust_all-append b τ [] k = refl
adjust_all-append b τ (a ∷ l) k = adjust_all-append b (adjust_by rounded b τ a) l k

divide-append : (l k : List Adjustment) → AllDivide l → AllDivide k → AllDivide (l ++ k)
divide-append [] k p q = q
divide-append (a ∷ l) k p q = (p.0, divide-append l k p.1 q)

pub adjusted-append : (s t u : State) (l k : List Adjustment) → Adjusted s t l → Adjusted t u k → Adjusted s u (l ++ k)
adjusted-append s t u l k x y =
    record {
      numbers = y.numbers ∙ x.numbers;
      target = y.target ∙ (λ i. adjust_all_by rounded (x.numbers i).b (x.target i) k) ∙ sym (adjust_all-append s.numbers.b s.target l k);
      divide = divide-append l k x.divide y.divide;
    }
