-- What a hit and a flush leave. Each list of the pool afterwards is held by its places, by the laws of the lists, and so the whole pool holds the next state.
-- Assumes nothing.
use Rattle.std.specs.Prelude.{Ok}
use mathlib.Core.Path.{◌≡◌, refl, sym, ap, ◌∙◌, subst}
use Prim.Native.Nat.{ℕ, ◌+◌, ◌≤◌, ◌<◌}
use native.Mathlib.Nat.{add-zero}
use native.Mathlib.Omega.{arith}
use mathlib.Core.List.{List}
use lib.ListN.{length, set, replicate}
use Rattle.order.specs.Places.{places, pad, InPlaces, list_of}
use Rattle.order.specs.declared.FrameList.{FrameList}
use Rattle.order.specs.Merge.{merged}
use Rattle.order.proofs.Places.{none-in-places, list_of-in-places, as-promised}
use Rattle.order.proofs.Merged.{merged-same, merged-length}
use Rattle.model.specs.Target.{Adjustment, adjust}
use Rattle.model.specs.State.{with_lists, with_target}
use Rattle.model.specs.Request.{hit, flushed}
use Rattle.model.specs.declared.Access.TheVariants.{Hit}
use Rattle.pool.specs.Pool.{pool_of, state_of, Sound}
use Rattle.pool.specs.declared.Pool.{Pool}
use Rattle.pool.proofs.Form.{refilled, refilled-is, empty-in-places, clean-in-places, dirty-in-places, lengths-frames, page-pad, reference-pad, reference-at}
use Rattle.pool.proofs.Form.{reference-set}
use Rattle.step.specs.Step.{step_of}
use Rattle.step.specs.declared.Step.{Step}

-- a hit on frame f that leaves C, D, pages, numbers, the target and the counts of reads and writes so
abbrev hit_with : List ℕ → ℕ → List ℕ → ℕ → List ℕ → List ℕ → ℕ → ℕ → ℕ → ℕ → Pool → Step
hit_with c cn d dn page reference t nR nW f p =
    record { pool = refilled p.lists.empty.places p.lists.empty.len c cn d dn page reference t (p.served + 1) nR nW p; frame = f; answer = Ok Hit }

module _ (p : Pool) (s : Sound p) where
  pub hit-is : {c d : List ℕ} {cn dn t f : ℕ} → f < p.numbers.frames → {C D : List ℕ} {τ g : ℕ} → InPlaces c cn C → InPlaces d dn D → t ≡ τ → f ≡ g
      → hit_with c cn d dn p.page (set p.reference f (p.served + 1)) t p.reads.0 p.writes.0 f p
      ≡ step_of (hit g (with_target τ (with_lists (state_of p).lists.E C D (state_of p))))
  hit-is {f = f} l {g = g} hc hd ht hf =
      let numbers : set p.reference f (p.served + 1) ≡ pad (set (state_of p).reference g (p.served + 1)) =
      reference-set p s f (p.served + 1) l ∙ ap (λ (h : ℕ). pad (set (state_of p).reference h (p.served + 1))) hf in
      λ i. hit_with (hc.is i) (sym hc.len i) (hd.is i) (sym hd.len i) (page-pad p s i) (numbers i) (ht i)
      (sym (add-zero p.reads.0) i) (sym (add-zero p.writes.0) i) (hf i) (s.whole i)

  -- the target by the lengths of the pool is the one by those of the state
  pub target-is : (by : ℕ → ℕ → Adjustment) {t : ℕ} → t ≡ adjust p.numbers.frames p.target (by p.lists.clean.len p.lists.dirty.len)
      → t ≡ adjust p.numbers.frames p.target (by (length (state_of p).lists.C) (length (state_of p).lists.D))
  target-is by e = e ∙ (λ i. adjust p.numbers.frames p.target (by (sym (clean-in-places p s).len i) (sym (dirty-in-places p s).len i)))

  pub dirty-room : {i : ℕ} → i < p.lists.clean.len → p.lists.dirty.len < places
  dirty-room l = omega (arith, lengths-frames p s, s.good.limits.b_high)

  -- ---- a flush

  -- the merge by the numbers in their places is the one by those of the state
  pub flush-is : {l : FrameList} → l ≡ list_of (merged p.reference (state_of p).lists.D (state_of p).lists.C)
      → refilled p.lists.empty.places p.lists.empty.len l.places l.len (replicate places 0) 0
      p.page p.reference p.target (p.served + 1) p.reads.0 (p.writes.0 + p.lists.dirty.len) p
      ≡ pool_of (flushed (state_of p))
  flush-is {l} all =
      let fits : length (merged p.reference (state_of p).lists.D (state_of p).lists.C) ≤ places =
      omega (
        arith,
        merged-length p.reference (state_of p).lists.D (state_of p).lists.C,
        (dirty-in-places p s).len,
        (clean-in-places p s).len,
        lengths-frames p s,
        s.good.limits.b_high,
      ) in
      let same : merged p.reference (state_of p).lists.D (state_of p).lists.C ≡ merged (state_of p).reference (state_of p).lists.D (state_of p).lists.C =
      merged-same (state_of p).reference p.reference (reference-at p s) (state_of p).lists.D (state_of p).lists.C in
      refilled-is p (state_of p) (state_of p).page (state_of p).reference s.whole (empty-in-places p s)
      (subst (λ (xs : List ℕ). InPlaces l.places l.len xs) same (as-promised all (list_of-in-places _ fits))) none-in-places
      (page-pad p s) (reference-pad p s) refl refl (sym (add-zero _)) (ap (λ (n : ℕ). p.writes.0 + n) (sym (dirty-in-places p s).len))
