-- What a drop leaves. The frame stands behind the last of E, with 0 for its page and its number, C or D is held by its places without it, and so the whole pool
-- holds the next state. Where no frame has the page, only the counts change.
-- Assumes nothing.
use Rattle.std.specs.Prelude.{Option, None}
use mathlib.Core.Path.{◌≡◌, refl, sym, ◌∙◌, subst}
use Prim.Native.Nat.{ℕ, ◌+◌, ◌<◌}
use native.Mathlib.Nat.{add-zero}
use native.Mathlib.Omega.{arith}
use mathlib.Core.List.{List, [], ◌∷◌, ◌++◌}
use lib.ListN.{set}
use Rattle.order.specs.declared.FrameList.{FrameList}
use Rattle.order.specs.Places.{places, InPlaces}
use Rattle.order.proofs.Places.{tail-in-places, as-promised}
use Rattle.model.specs.State.{with_lists, counted}
use Rattle.model.specs.Request.{vacated, locate, dropped_at, dropped}
use Rattle.model.specs.declared.Place.{Place}
use Rattle.pool.specs.Pool.{pool_of, state_of, Sound}
use Rattle.pool.specs.declared.Pool.{Pool}
use Rattle.pool.proofs.Form.{refilled, refilled-is, empty-in-places, clean-in-places, dirty-in-places, lengths-frames, page-pad, page_set, reference-pad}
use Rattle.pool.proofs.Form.{reference-set}

module _ (p : Pool) (s : Sound p) where
  -- a frame in C or D leaves room in E
  pub room-by-clean : {i : ℕ} → i < p.lists.clean.len → p.lists.empty.len < places
  room-by-clean l = omega (arith, lengths-frames p s, s.good.limits.b_high)

  pub room-by-dirty : {i : ℕ} → i < p.lists.dirty.len → p.lists.empty.len < places
  room-by-dirty l = omega (arith, lengths-frames p s, s.good.limits.b_high)

  pub vacate-is : {e : FrameList} {c d : List ℕ} {cn dn f : ℕ} → f < p.numbers.frames → p.lists.empty.len < places
      → e ≡ record { places = set p.lists.empty.places p.lists.empty.len f; len = p.lists.empty.len + 1 }
      → {C D : List ℕ} {g : ℕ} → InPlaces c cn C → InPlaces d dn D → f ≡ g
      → refilled e.places e.len c cn d dn (set p.page f 0) (set p.reference f 0) p.target (p.served + 1) p.reads.0 (p.writes.0 + 1) p
      ≡ pool_of (counted 0 1 (vacated g (with_lists (state_of p).lists.E C D (state_of p))))
  vacate-is {e} {c} {d} {cn} {dn} {f} l room k {C} {D} hc hd hf =
      let tail : InPlaces e.places e.len ((state_of p).lists.E ++ (f ∷ [])) = as-promised k (tail-in-places (empty-in-places p s) f room) in
      subst
      (λ (h : ℕ). refilled e.places e.len c cn d dn (set p.page f 0) (set p.reference f 0) p.target (p.served + 1) p.reads.0 (p.writes.0 + 1) p
      ≡ pool_of (counted 0 1 (vacated h (with_lists (state_of p).lists.E C D (state_of p)))))
      hf
      (refilled-is p (state_of p) (set (state_of p).page f 0) (set (state_of p).reference f 0) s.whole tail hc hd
      (page_set p s f 0 l) (reference-set p s f 0 l) refl refl (sym (add-zero p.reads.0)) refl)

  pub absent-is : refilled p.lists.empty.places p.lists.empty.len p.lists.clean.places p.lists.clean.len p.lists.dirty.places p.lists.dirty.len
      p.page p.reference p.target (p.served + 1) p.reads.0 (p.writes.0 + 1) p
      ≡ pool_of (dropped_at (state_of p) None)
  absent-is =
      refilled-is p (state_of p) (state_of p).page (state_of p).reference s.whole (empty-in-places p s) (clean-in-places p s) (dirty-in-places p s)
      (page-pad p s) (reference-pad p s) refl refl (sym (add-zero p.reads.0)) refl

-- what is done where the page is, is the drop of it
pub drop-is : (p : Pool) (q : ℕ) (x : Option Place) → x ≡ locate (state_of p) q → {y : Option Place} → x ≡ y
    → pool_of (dropped_at (state_of p) y) ≡ pool_of (dropped (state_of p) q)
drop-is p q x e b = λ i. pool_of (dropped_at (state_of p) ((sym b ∙ e) i))
