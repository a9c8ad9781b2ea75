-- What a sound pool is made of.
--     ListsIn, lists-whole, sound-lists    the lists of a sound pool in their places
--     PartsRight, sound-parts, parts-sound    the parts that the test looks at, one after the other
-- Assumes nothing.
use mathlib.Core.Path.{◌≡◌, sym, ap, ◌∙◌}
use Prim.Native.Nat.{ℕ, ◌≤◌, ◌<◌}
use native.Mathlib.Omega.{arith}
use lib.ListN.{length, get_or, take}
use lib.Seq.{get_or-take}
use Rattle.order.specs.Count.{count}
use Rattle.order.specs.Places.{InPlaces, listed}
use Rattle.order.proofs.Merged.{ordered-same}
use Rattle.checks.specs.Tests.{PagesRight}
use Rattle.checks.proofs.Zeros.{in-places-zeros, zeros-in-places}
use Rattle.checks.proofs.Frames.{frames-below}
use Rattle.recency.specs.Recency.{StandingRight}
use Rattle.model.specs.Numbers.{Limits}
use Rattle.model.specs.State.{resident, standing}
use Rattle.model.proofs.Good.{standing-below, lengths-sum}
use Rattle.pool.specs.Test.{CountsIn, LengthsIn, PlacesIn, TailsRight}
use Rattle.pool.specs.Pool.{pool_of, numbers_in, state_of, Sound}
use Rattle.pool.specs.declared.Pool.{Pool}
use Rattle.pool.proofs.Form.{refilled}

-- ---- the lists in their places

pub record ListsIn (p : Pool) : Type 0 where
  pub empty : InPlaces p.lists.empty.places p.lists.empty.len (listed p.lists.empty)
  pub clean : InPlaces p.lists.clean.places p.lists.clean.len (listed p.lists.clean)
  pub dirty : InPlaces p.lists.dirty.places p.lists.dirty.len (listed p.lists.dirty)
  pub page : InPlaces p.page p.numbers.frames (take p.numbers.frames p.page)
  pub reference : InPlaces p.reference p.numbers.frames (take p.numbers.frames p.reference)

-- what each part of the test finds out of a pool
abbrev pub LimitsIn : Pool → Type 0
LimitsIn p = Limits (numbers_in p)

abbrev pub StandingIn : Pool → Type 0
StandingIn p =
    StandingRight p.numbers.frames p.served (listed p.lists.empty) (listed p.lists.clean) (listed p.lists.dirty) p.reference

abbrev pub PagesIn : Pool → Type 0
PagesIn p = PagesRight p.numbers.frames p.numbers.pages (listed p.lists.empty) p.page

pub record PartsRight (p : Pool) : Type 0 where
  pub limits : LimitsIn p
  pub counts : CountsIn p
  pub lengths : LengthsIn p
  pub tails : TailsRight p
  pub standing : StandingIn p
  pub pages : PagesIn p

module _ (p : Pool) where
  pub lists-whole : ListsIn p → p ≡ pool_of (state_of p)
  lists-whole h =
      λ i. refilled (h.empty.is i) (sym h.empty.len i) (h.clean.is i) (sym h.clean.len i) (h.dirty.is i) (sym h.dirty.len i) (h.page.is i) (h.reference.is i)
      p.target p.served p.reads.0 p.writes.0 p

  pub sound-lists : Sound p → ListsIn p
  sound-lists s =
      let en : length (listed p.lists.empty) ≡ p.lists.empty.len = ap (λ (q : Pool). q.lists.empty.len) (sym s.whole) in
      let cn : length (listed p.lists.clean) ≡ p.lists.clean.len = ap (λ (q : Pool). q.lists.clean.len) (sym s.whole) in
      let dn : length (listed p.lists.dirty) ≡ p.lists.dirty.len = ap (λ (q : Pool). q.lists.dirty.len) (sym s.whole) in
      let sum = lengths-sum (state_of p) s.good in
      let high = s.good.limits.b_high in
      record {
        empty = record { is = ap (λ (q : Pool). q.lists.empty.places) s.whole; len = en; fits = omega arith };
        clean = record { is = ap (λ (q : Pool). q.lists.clean.places) s.whole; len = cn; fits = omega arith };
        dirty = record { is = ap (λ (q : Pool). q.lists.dirty.places) s.whole; len = dn; fits = omega arith };
        page = record { is = ap (λ (q : Pool). q.page) s.whole; len = s.good.placed.paged; fits = high };
        reference = record { is = ap (λ (q : Pool). q.reference) s.whole; len = s.good.numbered.each; fits = high };
      }

  -- ---- the parts

  -- the page of a frame, in the state and in the pool
  page_same : (f : ℕ) → f < p.numbers.frames → get_or (take p.numbers.frames p.page) f 0 ≡ get_or p.page f 0
  page_same f = get_or-take p.numbers.frames p.page f 0

  -- so is its number
  number-same : (f : ℕ) → f < p.numbers.frames → get_or (take p.numbers.frames p.reference) f 0 ≡ get_or p.reference f 0
  number-same f = get_or-take p.numbers.frames p.reference f 0

  pub sound-parts : Sound p → PartsRight p
  sound-parts s =
      let g = s.good in
      let k = g.counts in
      let h = sound-lists s in
      record {
        limits = g.limits;
        counts = record { target_high = g.target_high; served_high = k.served_high; reads_high = k.reads_high; writes_high = k.writes_high };
        lengths = omega (arith, lengths-sum (state_of p) g, h.empty.len, h.clean.len, h.dirty.len);
        tails =
            record {
              empty = in-places-zeros h.empty;
              clean = in-places-zeros h.clean;
              dirty = in-places-zeros h.dirty;
              pages = in-places-zeros h.page;
              references = in-places-zeros h.reference;
            };
        standing =
            record {
              frames = record { once = g.placed.once; others = g.placed.others };
              ordered = ordered-same (state_of p).reference p.reference p.served (state_of p).lists.C (state_of p).lists.D
                  (λ f c. sym (number-same f (standing-below (state_of p) g f (omega arith)))) g.numbered.ordered;
              blank = λ f c. sym (number-same f (standing-below (state_of p) g f (omega arith))) ∙ g.numbered.blank f c;
            };
        pages =
            record {
              blank = λ f c. sym (page_same f (standing-below (state_of p) g f (omega arith))) ∙ s.blank f c;
              inside = λ f l c. rw (page_same f l) at (g.placed.inside f (omega (arith, g.placed.once f l)));
              apart = λ f k l m c d e.
                  g.placed.apart f k (omega (arith, g.placed.once f l)) (omega (arith, g.placed.once k m)) (page_same f l ∙ e ∙ sym (page_same k m));
            };
      }

  module _ (w : PlacesIn p) where
    pub parts-sound : PartsRight p → Sound p
    parts-sound r =
        record {
          good =
              record {
                limits = r.limits;
                placed = record {
                  once = r.standing.frames.once;
                  others = r.standing.frames.others;
                  paged = lists.page.len;
                  inside = λ f c. rw (page_same f (below f (omega arith))) (r.pages.inside f (below f (omega arith)) (full f c));
                  apart = λ f k c d e.
                      let l : f < p.numbers.frames = below f (omega arith) in
                      let m : k < p.numbers.frames = below k (omega arith) in
                      r.pages.apart f k l m (full f c) (full k d) (sym (page_same f l) ∙ e ∙ page_same k m);
                };
                numbered = record {
                  each = lists.reference.len;
                  ordered = ordered-same p.reference (state_of p).reference p.served (state_of p).lists.C (state_of p).lists.D
                      (λ f c. number-same f (below f (omega arith))) r.standing.ordered;
                  blank = λ f c. number-same f (below f (omega arith)) ∙ r.standing.blank f c;
                };
                target_high = r.counts.target_high;
                counts = record { served_high = r.counts.served_high; reads_high = r.counts.reads_high; writes_high = r.counts.writes_high };
              };
          blank = λ f c. page_same f (below f (omega arith)) ∙ r.pages.blank f c;
          whole = lists-whole lists;
        }
      where
        lists : ListsIn p
        lists =
            let sum = r.lengths in
            let high = r.limits.b_high in
            record {
              empty = zeros-in-places p.lists.empty.places p.lists.empty.len w.empty (omega arith) r.tails.empty;
              clean = zeros-in-places p.lists.clean.places p.lists.clean.len w.clean (omega arith) r.tails.clean;
              dirty = zeros-in-places p.lists.dirty.places p.lists.dirty.len w.dirty (omega arith) r.tails.dirty;
              page = zeros-in-places p.page p.numbers.frames w.pages high r.tails.pages;
              reference = zeros-in-places p.reference p.numbers.frames w.references high r.tails.references;
            }

        below : (f : ℕ) → 1 ≤ standing (state_of p).lists f → f < p.numbers.frames
        below = frames-below r.standing.frames

        full : (f : ℕ) → 1 ≤ resident (state_of p).lists f → count f (listed p.lists.empty) ≡ 0
        full f c = omega (arith, r.standing.frames.once f (below f (omega arith)))
