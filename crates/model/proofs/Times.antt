-- Kept numbers that a serving call does not refuse lead to costs with which the target's step can be reckoned; and as long as not both windows are full, a
-- call that takes them is the call without them.
--     kept-fits             the test of kept numbers, as inequalities
--     fresh-fits            numbers kept of fresh windows are not refused
--     costs-right           costs in force are from 1 to 2,147,450,880
--     read-opened, write-opened    until both windows are full, the form is the call without it
-- Assumes nothing.
use Rattle.std.specs.Prelude.{Ok, Err}
use mathlib.Core.Path.{◌≡◌, refl, ap, ◌∙◌}
use mathlib.Core.Bool.{Bool, true, false, not, ◌&&◌, cond as if-else}
use mathlib.Core.List.{List}
use Prim.Native.Nat.{ℕ, ◌*◌, ◌≤◌}
use native.Mathlib.Omega.{arith}
use borrow.Author.Tests.{leb-true, le-leb, eqb-true, ne_eqb, not-true}
use Rattle.model.specs.Numbers.{Numbers, Limits}
use Rattle.model.specs.Target.{Costs, costs, costs_of, most_cost}
use Rattle.model.specs.Times.{Times, unmeasured, measured, most_times, most_time, length_fits, window_fits, kept_fits, times_fit, both_full, measured_costs}
use Rattle.model.specs.Times.{in_force, as_opened, fresh_kept}
use Rattle.model.specs.Policy.{Policy}
use Rattle.model.specs.Run.{Call, read, write, output_of, World, verdict_of, outcome_of, read_by, written_by, served, left_by, left}
use Rattle.model.specs.declared.Op.{Op}
use Rattle.model.specs.declared.Op.TheVariants.{Read, Write}
use Rattle.model.specs.declared.Window.{Window}
use Rattle.model.specs.declared.Kept.{Kept}
use Rattle.model.specs.Words.{Verdict}
use Rattle.model.proofs.Refusals.{and-both}
use Rattle.model.proofs.Limits.{both-and, between-means, means-between}

-- ---- the test of kept numbers

pub record WindowIn (n : ℕ) (w : Window) : Type 0 where
  pub fill : w.fill ≤ n
  pub low : w.fill ≤ w.sum
  pub high : w.sum ≤ w.fill * most_time

pub record KeptIn (k : Kept) : Type 0 where
  pub some : 1 ≤ k.n
  pub most : k.n ≤ most_times
  pub reads : WindowIn k.n k.reads
  pub writes : WindowIn k.n k.writes

window-fits : (n : ℕ) (w : Window) → window_fits n w ≡ true → WindowIn n w
window-fits n w e =
    let a = and-both _ _ e in
    let b = between-means w.fill w.sum (w.fill * most_time) a.1 in
    record { fill = leb-true w.fill n a.0; low = b.0; high = b.1 }

fits-window : (n : ℕ) (w : Window) → WindowIn n w → window_fits n w ≡ true
fits-window n w i = both-and (le-leb w.fill n i.fill) (means-between w.fill w.sum (w.fill * most_time) i.low i.high)

module _ (k : Kept) where
  pub kept-fits : kept_fits k ≡ true → KeptIn k
  unfolding kept_fits
  kept-fits e =
      let a = and-both _ _ e in
      let b = and-both _ _ a.1 in
      let n = between-means 1 k.n most_times a.0 in
      record { some = n.0; most = n.1; reads = window-fits k.n k.reads b.0; writes = window-fits k.n k.writes b.1 }

  pub fits-kept : KeptIn k → kept_fits k ≡ true
  unfolding kept_fits
  fits-kept i =
      both-and (means-between 1 k.n most_times i.some i.most)
      (both-and (fits-window k.n k.reads i.reads) (fits-window k.n k.writes i.writes))

-- ---- the costs in force

-- both costs are at least 1, and such that no product with a list's length wraps
pub record Payable (k : Costs) : Type 0 where
  pub r_low : 1 ≤ k.r
  pub r_high : k.r ≤ most_cost
  pub w_low : 1 ≤ k.w
  pub w_high : k.w ≤ most_cost

pub opened-payable : (n : Numbers) → Limits n → Payable (costs_of n)
opened-payable n l = record { r_low = l.r_low; r_high = omega (arith, l.r_high); w_low = l.w_low; w_high = omega (arith, l.w_high) }

pub costs-right : (t : Times) (opened : Costs) → times_fit t ≡ true → Payable opened → Payable (in_force t opened)
unfolding measured_costs
costs-right unmeasured opened e ok = ok
costs-right (measured k) opened e ok = go (both_full k) refl
  where
    i : KeptIn k
    i = kept-fits k e

    -- a full window has a time or more, each of 1 or more
    full : both_full k ≡ true → Payable (costs k.reads.sum k.writes.sum)
    full h =
        let a = and-both _ _ h in
        let r = eqb-true k.reads.fill k.n a.0 in
        let w = eqb-true k.writes.fill k.n a.1 in
        record {
          r_low = omega (arith, r, i.some, i.reads.low);
          r_high = omega (arith, r, i.most, i.reads.high);
          w_low = omega (arith, w, i.some, i.writes.low);
          w_high = omega (arith, w, i.most, i.writes.high);
        }

    go : (b : Bool) → both_full k ≡ b → Payable (if-else b (costs k.reads.sum k.writes.sum) opened)
    go true h = full h
    go false h = ok

-- each cost by itself
pub costs-each : (k : Kept) (opened : Costs)
    → costs (if-else (both_full k) k.reads.sum opened.r) (if-else (both_full k) k.writes.sum opened.w) ≡ measured_costs k opened
unfolding measured_costs
costs-each k opened = go (both_full k)
  where
    go : (b : Bool) → costs (if-else b k.reads.sum opened.r) (if-else b k.writes.sum opened.w)
        ≡ if-else b (costs k.reads.sum k.writes.sum) opened
    go true = refl
    go false = refl

-- ---- until both windows are full

pub unfilled-opened : (k : Kept) → both_full k ≡ false → as_opened (measured k) ≡ true
unfilled-opened k unfilled = rw unfilled (go (kept_fits k))
  where
    go : (b : Bool) → not (b && false) ≡ true
    go true = refl
    go false = refl

pub opened-in-force : (t : Times) (opened : Costs) → times_fit t ≡ true → as_opened t ≡ true → in_force t opened ≡ opened
unfolding measured_costs
opened-in-force unmeasured opened fits e = refl
opened-in-force (measured k) opened fits e = let unfilled : both_full k ≡ false = not-true (both_full k) (rw fits at e) in rw unfilled

-- with nothing measured yet
module _ (n : ℕ) (h : 1 ≤ n) where
  pub fresh-fits : n ≤ most_times → kept_fits (fresh_kept n) ≡ true
  fresh-fits m =
      let w : WindowIn n (fresh_kept n).reads = record { fill = omega arith; low = omega arith; high = omega arith } in
      fits-kept (fresh_kept n) (record { some = h; most = m; reads = w; writes = w })

  fresh-unfilled : both_full (fresh_kept n) ≡ false
  fresh-unfilled = let z : 0 ≡ n → ⊥ = λ e. omega arith in rw (ne_eqb 0 n z)

  pub fresh-opened : as_opened (measured (fresh_kept n)) ≡ true
  fresh-opened = unfilled-opened (fresh_kept n) fresh-unfilled

pub fresh-kept : (n : ℕ) → length_fits n ≡ true → (kept_fits (fresh_kept n) ≡ true) × (both_full (fresh_kept n) ≡ false)
fresh-kept n e = let a = between-means 1 n most_times e in (fresh-fits n a.0 a.1, fresh-unfilled n a.0)

module _ (π : Policy) (x : World π.State) (t : Times) (fits : times_fit t ≡ true) (opened : as_opened t ≡ true) where
  same-outcome : (op : Op) (q : ℕ) → outcome_of π op x t q ≡ outcome_of π op x unmeasured q
  same-outcome op q = ap (λ (c : Costs). π.request op c x.state q) (opened-in-force t (costs_of (π.numbers x.state)) fits opened)

  -- either is refused alike, and served alike
  same-left : (c d : Call) → verdict_of π x c ≡ verdict_of π x d → output_of c ≡ output_of d → served π x c ≡ served π x d → left π x c ≡ left π x d
  unfolding left
  same-left c d v o s = ap (λ (z : Verdict). left_by π z x c) v ∙ go (verdict_of π x d)
    where
      go : (z : Verdict) → left_by π z x c ≡ left_by π z x d
      go (Err y) = ap (λ (l : List ℕ). left_by π (Err y) x (read unmeasured 0 l)) o
      go (Ok _) = s

  pub read-opened : (q : ℕ) (out : List ℕ) → left π x (read t q out) ≡ left π x (read unmeasured q out)
  read-opened q out = same-left (read t q out) (read unmeasured q out) (rw fits) refl (ap (read_by π x q) (same-outcome Read q))

  pub write-opened : (q start : ℕ) (bytes : List ℕ) → left π x (write t q start bytes) ≡ left π x (write unmeasured q start bytes)
  write-opened q start bytes =
      same-left (write t q start bytes) (write unmeasured q start bytes) (rw fits) refl (ap (written_by π x q start bytes) (same-outcome Write q))
