-- The test on the numbers says what the inequalities say; and what numbers are on a drive, which they may name or not. Assumes nothing.
use mathlib.Core.Path.{◌≡◌, refl}
use mathlib.Core.Bool.{Bool, true, false, ◌&&◌, cond as if-else}
use Prim.Native.Nat.{ℕ, ◌≤◌}
use native.Mathlib.Omega.{arith}
use lib.Dec.{eqb}
use borrow.Author.Tests.{leb-true, le-leb, eqb-true, eq-eqb}
use Rattle.model.specs.Numbers.{Numbers, between, in_limits, Limits, with_costs, on_drive}
use Rattle.model.proofs.Refusals.{and-both}

pub both-and : {s t : Bool} → s ≡ true → t ≡ true → (s && t) ≡ true
both-and a b = rw (a, b)

pub between-means : (low x high : ℕ) → between low x high ≡ true → (low ≤ x) × (x ≤ high)
between-means low x high e = let a = and-both _ _ e in (leb-true low x a.0, leb-true x high a.1)

pub means-between : (low x high : ℕ) → low ≤ x → x ≤ high → between low x high ≡ true
means-between low x high h k = both-and (le-leb low x h) (le-leb x high k)

pub in_limits-limits : (n : Numbers) → in_limits n ≡ true → Limits n
unfolding in_limits
in_limits-limits n e =
    let b = and-both _ _ e in
    let P = and-both _ _ b.1 in
    let N = and-both _ _ P.1 in
    let c = and-both _ _ N.1 in
    let hb = between-means 1 n.b 64 b.0 in
    let hP = between-means 16 n.P 4096 P.0 in
    let hN = between-means 1 n.N 65536 N.0 in
    let hr = between-means 1 n.r 1000 c.0 in
    let hw = between-means 1 n.w 1000 c.1 in
    record {
      b_low = hb.0;
      b_high = hb.1;
      P_low = hP.0;
      P_high = hP.1;
      N_low = hN.0;
      N_high = hN.1;
      r_low = hr.0;
      r_high = hr.1;
      w_low = hw.0;
      w_high = hw.1;
    }

pub limits-in_limits : (n : Numbers) → Limits n → in_limits n ≡ true
unfolding in_limits
limits-in_limits n l =
    both-and (means-between 1 n.b 64 l.b_low l.b_high)
    (both-and (means-between 16 n.P 4096 l.P_low l.P_high)
    (both-and (means-between 1 n.N 65536 l.N_low l.N_high)
    (both-and (means-between 1 n.r 1000 l.r_low l.r_high) (means-between 1 n.w 1000 l.w_low l.w_high))))

-- ---- numbers that name no drive, and those that do

module _ (read write : ℕ) (n : Numbers) where
  pub on_drive-none : n.r ≡ 0 → n.w ≡ 0 → on_drive read write n ≡ with_costs read write n
  unfolding on_drive
  on_drive-none e f = rw (eq-eqb _ _ e, eq-eqb _ _ f)

  pub on_drive-named : (n.r ≡ 0 → n.w ≡ 0 → ⊥) → on_drive read write n ≡ n
  unfolding on_drive
  on_drive-named h = go (eqb n.r 0 && eqb n.w 0) refl
    where
      go : (t : Bool) → (eqb n.r 0 && eqb n.w 0) ≡ t → if-else t (with_costs read write n) n ≡ n
      go true p = let z = and-both _ _ p in absurd (h (eqb-true n.r 0 z.0) (eqb-true n.w 0 z.1))
      go false p = refl

  -- only the costs are the drive's
  pub on_drive-costs : with_costs (on_drive read write n).r (on_drive read write n).w n ≡ on_drive read write n
  unfolding on_drive
  on_drive-costs = go (eqb n.r 0 && eqb n.w 0)
    where
      go : (t : Bool) → let m = if-else t (with_costs read write n) n in with_costs m.r m.w n ≡ m
      go true = refl
      go false = refl

  -- where the numbers are in their limits on that drive, they are not above them as they are given
  pub on_drive-limits : in_limits (on_drive read write n) ≡ true
      → (n.b ≤ 64) × (n.P ≤ 4096) × (n.N ≤ 65536) × (n.r ≤ 1000) × (n.w ≤ 1000)
  unfolding on_drive
  on_drive-limits e = go (eqb n.r 0 && eqb n.w 0) refl e
    where
      go : (t : Bool) → (eqb n.r 0 && eqb n.w 0) ≡ t → in_limits (if-else t (with_costs read write n) n) ≡ true
          → (n.b ≤ 64) × (n.P ≤ 4096) × (n.N ≤ 65536) × (n.r ≤ 1000) × (n.w ≤ 1000)
      go true p h =
          let l = in_limits-limits (with_costs read write n) h in
          let z = and-both _ _ p in
          (l.b_high, l.P_high, l.N_high, omega (arith, eqb-true n.r 0 z.0), omega (arith, eqb-true n.w 0 z.1))
      go false p h = let l = in_limits-limits n h in (l.b_high, l.P_high, l.N_high, l.r_high, l.w_high)

  -- numbers in their limits name their drive
  pub on_drive-within : Limits n → on_drive read write n ≡ n
  on_drive-within l = on_drive-named (λ e f. omega (arith, l.r_low, e))
