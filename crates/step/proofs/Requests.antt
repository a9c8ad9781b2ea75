-- A request as a whole. Where the code finds the page is where the state has it, at a place of its list; what is done there is the request.
-- Assumes nothing.
use Rattle.std.specs.Prelude.{Option, Some}
use mathlib.Core.Path.{◌≡◌, sym, ◌∙◌}
use Prim.Native.Nat.{ℕ, ◌<◌}
use native.Mathlib.Omega.{arith}
use Rattle.order.specs.Places.{listed}
use Rattle.order.specs.Find.{find_from}
use Rattle.model.specs.Target.{Costs}
use Rattle.model.specs.Request.{place_by, locate, request_at, request}
use Rattle.model.specs.declared.Op.{Op}
use Rattle.model.specs.declared.Place.{Place}
use Rattle.model.specs.declared.Place.TheVariants.{InClean, InDirty}
use Rattle.model.proofs.Steps.{PlaceRight, locate-right}
use Rattle.pool.specs.Pool.{state_of, Sound}
use Rattle.pool.specs.declared.Pool.{Pool}
use Rattle.pool.proofs.Form.{clean-in-places, dirty-in-places, find-clean, find-dirty}
use Rattle.step.specs.Step.{step_of}

-- the searches of the code find page q where the state has it
pub place-is : (p : Pool) (s : Sound p) (q : ℕ)
    → place_by (find_from 0 p.page q (listed p.lists.clean)) (find_from 0 p.page q (listed p.lists.dirty)) ≡ locate (state_of p) q
place-is p s q = λ i. place_by (find-clean p s q i) (find-dirty p s q i)

-- page q is at x
module _ (p : Pool) (s : Sound p) (q : ℕ) (x : Option Place) (e : x ≡ locate (state_of p) q) where
  place-right : {y : Option Place} → x ≡ y → PlaceRight (state_of p) q y
  place-right k = rw (sym e ∙ k) at (locate-right (state_of p) q)

  pub clean-place : {i : ℕ} → x ≡ Some (InClean i) → i < p.lists.clean.len
  clean-place k = omega (arith, (place-right k).0, (clean-in-places p s).len)

  pub dirty-place : {i : ℕ} → x ≡ Some (InDirty i) → i < p.lists.dirty.len
  dirty-place k = omega (arith, (place-right k).0, (dirty-in-places p s).len)

  -- what is done there
  pub request-is : (k : Costs) (op : Op) {y : Option Place} → x ≡ y → step_of (request_at op k (state_of p) q y) ≡ step_of (request op k (state_of p) q)
  request-is k op b = λ i. step_of (request_at op k (state_of p) q ((sym b ∙ e) i))
