-- Laws of the form of a pool.
--     state-pool, sound-of    the pool that holds a good state is sound
--     pool-empty, pool-clean, pool-dirty    its places hold the lists of the state
--     refilled-is    a pool with other lists, pages, numbers, target and counts holds the state with these
--     find-pad, find-clean, find-dirty    the search for a page over all places is the search over the frames
--     lengths-frames, empty-in-places, clean-in-places, dirty-in-places    the lists of a sound pool
--     empty-listed, clean-listed, dirty-listed    they are lists, and what stands in them has a place
--     clean-frame, dirty-frame    what stands in C and D is a frame
--     page-pad, page_set, page-at, listed-page    the page of each frame
--     reference-pad, reference-at, reference-set    its reference number
--     writes-fit    the count of physical writes is small
-- Assumes nothing.
use mathlib.Core.Path.{◌≡◌, refl, sym, ap, subst, ◌∙◌}
use mathlib.Core.List.{List, [], ◌∷◌}
use Prim.Native.Nat.{ℕ, suc, ◌+◌, ◌*◌, ◌≤◌, ◌<◌}
use native.Mathlib.Nat.{le_trans, mul-le-mul}
use native.Mathlib.Omega.{arith}
use lib.ListN.{length, get_or, set, take, get_or-append}
use lib.Seq.{take_at}
use Rattle.order.specs.Places.{places, pad, InPlaces, Listed}
use Rattle.order.specs.Find.{find_from}
use Rattle.order.proofs.Places.{pad-set, pad-get_or, in-places-get_or}
use Rattle.model.specs.Numbers.{most_served}
use Rattle.model.specs.State.{State, frames_of}
use Rattle.model.specs.Frames.{Blank}
use Rattle.model.specs.Good.{Good}
use Rattle.model.proofs.Good.{E-below, C-below, D-below, lengths-sum}
use Rattle.std.proofs.lemmas.List.Elements.{All-from_get_or}
use Rattle.pool.specs.Pool.{pool_of, state_of, Sound}
use Rattle.pool.specs.declared.Pool.{Pool}

-- ---- the pool that holds a state

pub state-pool : (s : State) → length s.page ≡ s.numbers.b → length s.reference ≡ s.numbers.b → state_of (pool_of s) ≡ s
state-pool s h k =
    rw (
      take_at s.lists.E _ _ refl,
      take_at s.lists.C _ _ refl,
      take_at s.lists.D _ _ refl,
      take_at s.page _ _ h,
      take_at s.reference _ _ k,
    )

pub sound-of : (s : State) → Good s → Blank (frames_of s) → Sound (pool_of s)
sound-of s g b =
    let e = state-pool s g.placed.paged g.numbered.each in
    record { good = rw e g; blank = subst (λ (t : State). Blank (frames_of t)) (sym e) b; whole = ap pool_of (sym e) }

module _ (p : Pool) (s : State) (w : p ≡ pool_of s) where
  pub pool-empty : p.lists.empty.len ≤ places → InPlaces p.lists.empty.places p.lists.empty.len s.lists.E
  pool-empty h = record { is = ap (λ (q : Pool). q.lists.empty.places) w; len = sym (ap (λ (q : Pool). q.lists.empty.len) w); fits = h }

  pub pool-clean : p.lists.clean.len ≤ places → InPlaces p.lists.clean.places p.lists.clean.len s.lists.C
  pool-clean h = record { is = ap (λ (q : Pool). q.lists.clean.places) w; len = sym (ap (λ (q : Pool). q.lists.clean.len) w); fits = h }

  pub pool-dirty : p.lists.dirty.len ≤ places → InPlaces p.lists.dirty.places p.lists.dirty.len s.lists.D
  pool-dirty h = record { is = ap (λ (q : Pool). q.lists.dirty.places) w; len = sym (ap (λ (q : Pool). q.lists.dirty.len) w); fits = h }

-- pool p with other places, target and counts: a field that nothing of this changes is named here alone
abbrev pub refilled : List ℕ → ℕ → List ℕ → ℕ → List ℕ → ℕ → List ℕ → List ℕ → ℕ → ℕ → ℕ → ℕ → Pool → Pool
refilled e en c cn d dn page reference τ served nR nW p =
    record {
      numbers = p.numbers;
      lists =
          record {
            empty = record { places = e; len = en };
            clean = record { places = c; len = cn };
            dirty = record { places = d; len = dn };
          };
      page = page;
      reference = reference;
      target = τ;
      served = served;
      reads = record { 0 = nR };
      writes = record { 0 = nW };
    }

pub refilled-is : (p : Pool) (s : State) (page reference : List ℕ) {e c d pages numbers : List ℕ} {en cn dn t v r n : ℕ} {E C D : List ℕ}
    {τ served nR nW : ℕ} → p ≡ pool_of s → InPlaces e en E → InPlaces c cn C → InPlaces d dn D → pages ≡ pad page → numbers ≡ pad reference
    → t ≡ τ → v ≡ served → r ≡ nR → n ≡ nW
    → refilled e en c cn d dn pages numbers t v r n p
    ≡ pool_of
    (record {
      numbers = s.numbers;
      lists = record { E = E; C = C; D = D };
      page = page;
      reference = reference;
      target = τ;
      counts = record { served = served; nR = nR; nW = nW };
    })
refilled-is p s page reference w he hc hd hp hf ht hv hr hn =
    λ i. refilled (he.is i) (sym he.len i) (hc.is i) (sym hc.len i) (hd.is i) (sym hd.len i) (hp i) (hf i) (ht i) (hv i) (hr i) (hn i) (w i)

-- ---- a search over all places

pub find-pad : (page : List ℕ) (wanted k : ℕ) (fs : List ℕ) → ((i : ℕ) → i < length fs → get_or fs i 0 < length page)
    → find_from k (pad page) wanted fs ≡ find_from k page wanted fs
find-pad page wanted k [] h = refl
find-pad page wanted k (f ∷ fs) h =
    rw (get_or-append page _ 0 f (h 0 (omega arith)), find-pad page wanted (suc k) fs (λ i l. h (suc i) (omega arith)))

-- ---- a sound pool

module _ (p : Pool) (s : Sound p) where
  pub lengths-frames : p.lists.empty.len + (p.lists.clean.len + p.lists.dirty.len) ≡ p.numbers.frames
  lengths-frames = ap (λ (q : Pool). q.lists.empty.len + (q.lists.clean.len + q.lists.dirty.len)) s.whole ∙ lengths-sum (state_of p) s.good

  pub empty-in-places : InPlaces p.lists.empty.places p.lists.empty.len (state_of p).lists.E
  empty-in-places = pool-empty p (state_of p) s.whole (omega (arith, lengths-frames, s.good.limits.b_high))

  pub clean-in-places : InPlaces p.lists.clean.places p.lists.clean.len (state_of p).lists.C
  clean-in-places = pool-clean p (state_of p) s.whole (omega (arith, lengths-frames, s.good.limits.b_high))

  pub dirty-in-places : InPlaces p.lists.dirty.places p.lists.dirty.len (state_of p).lists.D
  dirty-in-places = pool-dirty p (state_of p) s.whole (omega (arith, lengths-frames, s.good.limits.b_high))

  -- each is a list, and what stands in it has a place
  pub empty-listed : Listed p.lists.empty
  empty-listed =
      record {
        fits = empty-in-places.fits;
        low = All-from_get_or (λ f. f < places) (state_of p).lists.E 0 (λ i h. omega (arith, E-below (state_of p) s.good i h, s.good.limits.b_high));
      }

  pub clean-listed : Listed p.lists.clean
  clean-listed =
      record {
        fits = clean-in-places.fits;
        low = All-from_get_or (λ f. f < places) (state_of p).lists.C 0 (λ i h. omega (arith, C-below (state_of p) s.good i h, s.good.limits.b_high));
      }

  pub dirty-listed : Listed p.lists.dirty
  dirty-listed =
      record {
        fits = dirty-in-places.fits;
        low = All-from_get_or (λ f. f < places) (state_of p).lists.D 0 (λ i h. omega (arith, D-below (state_of p) s.good i h, s.good.limits.b_high));
      }

  pub writes-fit : p.writes.0 ≤ places * most_served
  writes-fit = le_trans s.good.counts.writes_high (mul-le-mul s.good.limits.b_high s.good.counts.served_high)

  -- ---- frames

  pub clean-frame : (i : ℕ) → i < p.lists.clean.len → get_or p.lists.clean.places i 0 < p.numbers.frames
  clean-frame i h = rw (in-places-get_or clean-in-places i h) (C-below (state_of p) s.good i (omega (arith, clean-in-places.len)))

  pub dirty-frame : (i : ℕ) → i < p.lists.dirty.len → get_or p.lists.dirty.places i 0 < p.numbers.frames
  dirty-frame i h = rw (in-places-get_or dirty-in-places i h) (D-below (state_of p) s.good i (omega (arith, dirty-in-places.len)))

  -- ---- pages

  pub page-pad : p.page ≡ pad (state_of p).page
  page-pad = ap (λ (q : Pool). q.page) s.whole

  pub reference-pad : p.reference ≡ pad (state_of p).reference
  reference-pad = ap (λ (q : Pool). q.reference) s.whole

  pub reference-at : (f : ℕ) → get_or p.reference f 0 ≡ get_or (state_of p).reference f 0
  reference-at f = ap (λ (l : List ℕ). get_or l f 0) reference-pad ∙ pad-get_or (state_of p).reference f

  -- frame f gets another number
  pub reference-set : (f n : ℕ) → f < p.numbers.frames → set p.reference f n ≡ pad (set (state_of p).reference f n)
  reference-set f n h = ap (λ (l : List ℕ). set l f n) reference-pad ∙ pad-set (state_of p).reference f n (omega (arith, s.good.numbered.each))

  -- and another page
  pub page_set : (f q : ℕ) → f < p.numbers.frames → set p.page f q ≡ pad (set (state_of p).page f q)
  page_set f q h = ap (λ (l : List ℕ). set l f q) page-pad ∙ pad-set (state_of p).page f q (omega (arith, s.good.placed.paged))

  pub page-at : (f : ℕ) → f < p.numbers.frames → get_or p.page f 0 ≡ get_or (state_of p).page f 0
  page-at f h =
      let k : f < length (state_of p).page = omega (arith, s.good.placed.paged) in
      ap (λ (l : List ℕ). get_or l f 0) page-pad ∙ get_or-append (state_of p).page _ 0 f k

  -- the page of the frame at a place of a list
  pub listed-page : {list : List ℕ} {n : ℕ} {xs : List ℕ} → InPlaces list n xs → (i : ℕ) → i < n → get_or list i 0 < p.numbers.frames
      → get_or p.page (get_or list i 0) 0 ≡ get_or (state_of p).page (get_or xs i 0) 0
  listed-page h i l f = page-at _ f ∙ ap (λ (g : ℕ). get_or (state_of p).page g 0) (in-places-get_or h i l)

  find-frames : (wanted : ℕ) (fs : List ℕ) → ((i : ℕ) → i < length fs → get_or fs i 0 < p.numbers.frames)
      → find_from 0 p.page wanted fs ≡ find_from 0 (state_of p).page wanted fs
  find-frames wanted fs h =
      ap (λ (l : List ℕ). find_from 0 l wanted fs) page-pad
      ∙ find-pad (state_of p).page wanted 0 fs (λ i l. omega (arith, h i l, s.good.placed.paged))

  pub find-clean : (wanted : ℕ)
      → find_from 0 p.page wanted (take p.lists.clean.len p.lists.clean.places) ≡ find_from 0 (state_of p).page wanted (state_of p).lists.C
  find-clean wanted = find-frames wanted (state_of p).lists.C (C-below (state_of p) s.good)

  pub find-dirty : (wanted : ℕ)
      → find_from 0 p.page wanted (take p.lists.dirty.len p.lists.dirty.places) ≡ find_from 0 (state_of p).page wanted (state_of p).lists.D
  find-dirty wanted = find-frames wanted (state_of p).lists.D (D-below (state_of p) s.good)
