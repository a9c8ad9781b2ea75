-- What the parts of a fault leave. The chosen frame leaves its list, and the pool between holds the state between, which lacks that frame; the frame is filled
-- with the page, and goes to the front of C or D.
-- Assumes nothing.
use Rattle.std.specs.Prelude.{Option, Some, None, Ok}
use mathlib.Core.Path.{◌≡◌, refl, sym, ap, ◌∙◌}
use Prim.Native.Nat.{ℕ, ◌+◌, ◌*◌, ◌≤◌, ◌<◌}
use native.Mathlib.Omega.{arith}
use mathlib.Core.List.{List, ◌∷◌}
use lib.ListN.{length, get_or, set}
use Rattle.order.specs.Lists.{remove_at}
use Rattle.order.specs.Places.{places, InPlaces}
use Rattle.order.proofs.Lists.{remove_at-length}
use Rattle.order.specs.declared.FrameList.{FrameList}
use Rattle.order.proofs.Places.{pad-set, in-places-get_or, cons-in-places, as-promised}
use Rattle.model.specs.Numbers.{most_served}
use Rattle.model.specs.Counts.{Counts}
use Rattle.model.specs.State.{State, with_lists}
use Rattle.model.specs.Good.{Good}
use Rattle.model.specs.Request.{chosen_by, chosen, ChoiceIn, Taken, taken, writes_of}
use Rattle.model.specs.declared.Choice.{Choice}
use Rattle.model.specs.declared.Choice.TheVariants.{OfEmpty, OfClean, OfDirty}
use Rattle.model.specs.declared.Victim.{Victim}
use Rattle.model.specs.declared.Victim.TheVariants.{Clean, Dirty}
use Rattle.model.specs.declared.Access.TheVariants.{Fault}
use Rattle.model.proofs.Good.{E-below, C-below, D-below, lengths-sum}
use Rattle.pool.specs.Pool.{state_of, Sound}
use Rattle.pool.specs.declared.Pool.{Pool}
use Rattle.pool.proofs.Form.{pool-clean, pool-dirty, refilled, empty-in-places, clean-in-places, dirty-in-places, writes-fit, page-pad, reference-pad}
use Rattle.step.specs.Step.{step_of, freed_of, filled}
use Rattle.step.specs.declared.Step.{Step}
use Rattle.step.specs.declared.Freed.{Freed}

-- ---- a frame leaves its list

-- the pool with these pages, numbers, counts and lists, frame f, and its victim v
abbrev freed_with : List ℕ → List ℕ → ℕ → ℕ → ℕ → List ℕ → ℕ → List ℕ → ℕ → List ℕ → ℕ → ℕ → Option Victim → Pool → Freed
freed_with page reference served nR nW e en c cn d dn f v p =
    record { pool = refilled e en c cn d dn page reference p.target served nR nW p; frame = f; victim = v }

-- place i is one of the n of a list, and what stands there is a frame
pub record Stands (list : List ℕ) (n i : ℕ) : Type 0 where
  pub place : i < n
  pub fits : n ≤ places
  pub frame : get_or list i 0 < places

-- so the choice, in its list
abbrev pub StandsIn : Pool → Choice → Type 0
StandsIn p (OfEmpty i) = Stands p.lists.empty.places p.lists.empty.len i
StandsIn p (OfClean i) = Stands p.lists.clean.places p.lists.clean.len i
StandsIn p (OfDirty i) = Stands p.lists.dirty.places p.lists.dirty.len i

module _ (p : Pool) (s : Sound p) where
  stands : {list : List ℕ} {n : ℕ} {xs : List ℕ} {i : ℕ}
      → InPlaces list n xs → ((k : ℕ) → k < length xs → get_or xs k 0 < p.numbers.frames) → i < n → Stands list n i
  stands {i = i} h below l =
      let f = below i (omega (arith, h.len)) in
      record { place = l; fits = h.fits; frame = rw (in-places-get_or h i l) (omega (arith, f, s.good.limits.b_high)) }

  pub freed-is : {e c d : List ℕ} {en cn dn f : ℕ} {E C D : List ℕ} {g : ℕ} {v w : Option Victim}
      → InPlaces e en E → InPlaces c cn C → InPlaces d dn D → f ≡ g → v ≡ w
      → freed_with p.page p.reference p.served p.reads.0 p.writes.0 e en c cn d dn f v p
      ≡ freed_of (record { state = with_lists E C D (state_of p); frame = g; victim = w })
  freed-is he hc hd hf hv =
      λ i. freed_with (page-pad p s i) (reference-pad p s i) p.served p.reads.0 p.writes.0
      (he.is i) (sym he.len i) (hc.is i) (sym hc.len i) (hd.is i) (sym hd.len i) (hf i) (hv i) (s.whole i)

  pub choice-stands : (k : Choice) → ChoiceIn p.lists.empty.len p.lists.clean.len p.lists.dirty.len k → StandsIn p k
  choice-stands (OfEmpty i) = stands (empty-in-places p s) (E-below (state_of p) s.good)
  choice-stands (OfClean i) = stands (clean-in-places p s) (C-below (state_of p) s.good)
  choice-stands (OfDirty i) = stands (dirty-in-places p s) (D-below (state_of p) s.good)

-- ---- the frame is filled

-- what was taken is a frame, C and D have room for it, and pages, numbers and counts are as they were
record TakenIn (s : State) (t : Taken) : Type 0 where
  frame : t.frame < s.numbers.b
  clean : length t.state.lists.C < places
  dirty : length t.state.lists.D < places
  page : t.state.page ≡ s.page
  reference : t.state.reference ≡ s.reference
  counts : t.state.counts ≡ s.counts

taken-in : (s : State) → Good s → (k : Choice) → ChoiceIn (length s.lists.E) (length s.lists.C) (length s.lists.D) k → TakenIn s (taken s k)
taken-in s g (OfEmpty i) h =
    let l = lengths-sum s g in
    let b = g.limits.b_high in
    record { frame = E-below s g i h; clean = omega arith; dirty = omega arith; page = refl; reference = refl; counts = refl }
taken-in s g (OfClean i) h =
    let l = lengths-sum s g in
    let b = g.limits.b_high in
    record { frame = C-below s g i h; clean = omega (arith, remove_at-length s.lists.C i h); dirty = omega arith; page = refl; reference = refl; counts = refl }
taken-in s g (OfDirty i) h =
    let l = lengths-sum s g in
    let b = g.limits.b_high in
    record { frame = D-below s g i h; clean = omega arith; dirty = omega (arith, remove_at-length s.lists.D i h); page = refl; reference = refl; counts = refl }

writes-one : (v : Option Victim) → writes_of v ≤ 1
writes-one None = omega arith
writes-one (Some (Clean q)) = omega arith
writes-one (Some (Dirty q)) = omega arith

-- what is freed, with so many writes, can be filled, and C and D have room for it
pub record Fillable (x : Freed) (n : ℕ) : Type 0 where
  pub frame : x.frame < places
  pub few : n ≤ 1
  pub served : x.pool.served ≤ most_served
  pub reads : x.pool.reads.0 ≤ most_served
  pub writes : x.pool.writes.0 ≤ places * most_served
  pub clean : x.pool.lists.clean.len < places
  pub dirty : x.pool.lists.dirty.len < places

-- page q is in the frame, with one call and one read more, and n writes more
abbrev fill_with : ℕ → ℕ → Freed → Freed
fill_with q n x =
    freed_with (set x.pool.page x.frame q) (set x.pool.reference x.frame (x.pool.served + 1)) (x.pool.served + 1) (x.pool.reads.0 + 1) (x.pool.writes.0 + n)
    x.pool.lists.empty.places x.pool.lists.empty.len x.pool.lists.clean.places x.pool.lists.clean.len x.pool.lists.dirty.places x.pool.lists.dirty.len
    x.frame x.victim x.pool

filled-is : (q : ℕ) (t : Taken) → t.frame < length t.state.page → t.frame < length t.state.reference
    → fill_with q (writes_of t.victim) (freed_of t) ≡ freed_of (filled q t)
filled-is q t h l = rw (pad-set t.state.page t.frame q h, pad-set t.state.reference t.frame (t.state.counts.served + 1) l)

module _ (p : Pool) (s : Sound p) (k : Choice) (h : ChoiceIn p.lists.empty.len p.lists.clean.len p.lists.dirty.len k)
    (x : Freed) (e : x ≡ freed_of (taken (state_of p) k)) {n : ℕ} (m : n ≡ writes_of x.victim) where
  inside : TakenIn (state_of p) (taken (state_of p) k)
  inside = taken-in (state_of p) s.good k (rw ((empty-in-places p s).len, (clean-in-places p s).len, (dirty-in-places p s).len) h)

  counts-are : ◌≡◌ {A = Counts} (record { served = x.pool.served; nR = x.pool.reads.0; nW = x.pool.writes.0 }) (state_of p).counts
  counts-are = ap (λ (y : Freed). record { served = y.pool.served; nR = y.pool.reads.0; nW = y.pool.writes.0 }) e ∙ inside.counts

  pub freed-fillable : Fillable x n
  freed-fillable =
      let b : p.numbers.frames ≤ places = s.good.limits.b_high in
      let f : x.frame ≡ (taken (state_of p) k).frame = ap (λ (y : Freed). y.frame) e in
      let v : x.pool.served ≡ p.served = ap (λ (n : Counts). n.served) counts-are in
      let r : x.pool.reads.0 ≡ p.reads.0 = ap (λ (n : Counts). n.nR) counts-are in
      let w : x.pool.writes.0 ≡ p.writes.0 = ap (λ (n : Counts). n.nW) counts-are in
      let c : x.pool.lists.clean.len ≡ length (taken (state_of p) k).state.lists.C = ap (λ (y : Freed). y.pool.lists.clean.len) e in
      let d : x.pool.lists.dirty.len ≡ length (taken (state_of p) k).state.lists.D = ap (λ (y : Freed). y.pool.lists.dirty.len) e in
      record {
        frame = omega (arith, inside.frame);
        few = rw m (writes-one x.victim);
        served = omega (arith, s.good.counts.served_high);
        reads = omega (arith, s.good.counts.served_high, s.good.counts.reads_high);
        writes = omega (arith, writes-fit p s);
        clean = omega (arith, inside.clean);
        dirty = omega (arith, inside.dirty);
      }

  pub taken-is : (q : ℕ) → k ≡ chosen_by p.lists.empty.len p.lists.clean.len p.lists.dirty.len p.target
      → fill_with q n x ≡ freed_of (filled q (taken (state_of p) (chosen (state_of p))))
  taken-is q c =
      let l : length (taken (state_of p) k).state.page ≡ p.numbers.frames = ap length inside.page ∙ s.good.placed.paged in
      let n : length (taken (state_of p) k).state.reference ≡ p.numbers.frames = ap length inside.reference ∙ s.good.numbered.each in
      let which : k ≡ chosen (state_of p) =
      c ∙ (λ i. chosen_by (sym (empty-in-places p s).len i) (sym (clean-in-places p s).len i) (sym (dirty-in-places p s).len i) p.target) in
      (λ i. fill_with q ((m ∙ ap (λ (z : Freed). writes_of z.victim) e) i) (e i))
      ∙ filled-is q (taken (state_of p) k) (omega (arith, inside.frame)) (omega (arith, inside.frame))
      ∙ ap (λ (z : Choice). freed_of (filled q (taken (state_of p) z))) which

-- ---- the frame that was taken and filled goes to a front

-- what was taken, with these C and D
abbrev fault_with : Freed → List ℕ → ℕ → List ℕ → ℕ → Step
fault_with x c cn d dn =
    let p = x.pool in
    record {
      pool = refilled p.lists.empty.places p.lists.empty.len c cn d dn p.page p.reference p.target p.served p.reads.0 p.writes.0 p;
      frame = x.frame;
      answer = Ok (Fault x.victim);
    }

module _ (s : State) (q : ℕ) (x : Freed) (e : x ≡ freed_of (filled q (taken s (chosen s)))) where
  abbrev full : Taken
  full = filled q (taken s (chosen s))

  pub taken-clean : x.pool.lists.clean.len < places → InPlaces x.pool.lists.clean.places x.pool.lists.clean.len full.state.lists.C
  taken-clean l = pool-clean x.pool full.state (ap (λ (z : Freed). z.pool) e) (omega arith)

  pub taken-dirty : x.pool.lists.dirty.len < places → InPlaces x.pool.lists.dirty.places x.pool.lists.dirty.len full.state.lists.D
  taken-dirty l = pool-dirty x.pool full.state (ap (λ (z : Freed). z.pool) e) (omega arith)

  pub taken-front : {l : FrameList} {list : List ℕ} {n : ℕ} {xs : List ℕ} → InPlaces list n xs → n < places
      → l ≡ record { places = x.frame ∷ remove_at n list; len = n + 1 } → InPlaces l.places l.len (full.frame ∷ xs)
  taken-front h r k = as-promised k (rw (ap (λ (z : Freed). z.frame) e) (cons-in-places h _ r))

  pub fault-is : {c d : List ℕ} {cn dn : ℕ} {C D : List ℕ} → InPlaces c cn C → InPlaces d dn D
      → fault_with x c cn d dn
      ≡ step_of (record { state = with_lists full.state.lists.E C D full.state; frame = full.frame; answer = Ok (Fault full.victim) })
  fault-is hc hd = λ i. fault_with (e i) (hc.is i) (sym hc.len i) (hd.is i) (sym hd.len i)
