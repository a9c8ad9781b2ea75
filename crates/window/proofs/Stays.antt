-- A window whose kept numbers are true of its places stays so. With nothing in it yet, nothing is filled and all is 0. A time that takes the next place fills
-- the first place that is not filled, or once all are, takes the place of an older time; the next place goes on, round below n, and the sum follows.
--     window-right, right-window    the test of one window, as facts about its places
--     right_windows                 those facts, for a tactic
--     fresh-right                   a window with nothing in it yet is right
--     place-right                   a window that takes a time is right again
--     window-in                     what is kept of a right window of 16-bit times is in range
-- Assumes nothing.
use mathlib.Core.Path.{◌≡◌, refl, sym, ◌∙◌}
use mathlib.Core.Bool.{Bool, true, false, cond as if-else}
use mathlib.Core.Logic.{dite}
use mathlib.Core.List.{List}
use Prim.Native.Nat.{ℕ, ◌+◌, ◌-◌, ◌%◌, ◌≤◌, ◌<◌, min, zero-le}
use native.Mathlib.Nat.{mod-lt, mod-eq_of_lt, mod_self}
use native.Mathlib.Decide.{dec_lt, ℕ_discrete}
use native.Mathlib.Omega.{arith}
use lib.Dec.{eqb, ltb}
use lib.ListN.{length, get_or, set, replicate, length-set, length-replicate}
use lib.Seq.{get_or-set_same, get_or-set_other}
use borrow.Author.Tests.{eqb-true, eq-eqb, leb-true, le-leb, ltb-true, ltb-false, lt-ltb, le-ltb}
use Rattle.model.specs.Times.{most_time, fresh_window}
use Rattle.model.specs.declared.Window.{Window}
use Rattle.model.proofs.Times.{WindowIn}
use Rattle.model.proofs.Refusals.{and-both}
use Rattle.model.proofs.Limits.{both-and}
use Rattle.window.specs.Window.{sum_of, next_right, window_right, place_after, window_after}
use Rattle.window.proofs.Sums.{sum-least}
use Rattle.window.proofs.Places.{none_zero-means, means-none_zero, all_zero-means, means-all_zero, sum-set, sum-low, sum-high, sum-most, zeros-zero, zeros-sum}

-- ---- the test of a window, as facts about its places

pub record RightWindow (n : ℕ) (w : Window) (ts : List ℕ) : Type 0 where
  pub long : length ts ≡ n
  pub fill : w.fill ≤ n
  pub next : w.next < n
  pub going : w.fill < n → w.next ≡ w.fill
  pub filled : (i : ℕ) → i < w.fill → get_or ts i 0 ≡ 0 → ⊥
  pub rest : (i : ℕ) → w.fill ≤ i → get_or ts i 0 ≡ 0
  pub sum : w.sum ≡ sum_of ts

module _ (n : ℕ) (w : Window) where
  next_right-means : next_right n w ≡ true → (w.next < n) × (w.fill < n → w.next ≡ w.fill)
  next_right-means = go (ltb w.fill n) refl
    where
      go : (b : Bool) → ltb w.fill n ≡ b → if-else b (eqb w.next w.fill) (ltb w.next n) ≡ true
          → (w.next < n) × (w.fill < n → w.next ≡ w.fill)
      go true l e = let z = eqb-true w.next w.fill e in (omega (arith, ltb-true w.fill n l), λ h. z)
      go false l e = (ltb-true w.next n e, λ h. absurd (omega (arith, ltb-false w.fill n l)))

  means-next_right : w.next < n → (w.fill < n → w.next ≡ w.fill) → next_right n w ≡ true
  means-next_right h going =
      dite (dec_lt w.fill n) (λ l. rw (lt-ltb w.fill n l) (eq-eqb w.next w.fill (going l)))
      (λ l. rw (le-ltb w.fill n (omega arith)) (lt-ltb w.next n h))

module _ (n : ℕ) (w : Window) (ts : List ℕ) where
  pub window-right : window_right n w ts ≡ true → RightWindow n w ts
  unfolding window_right
  window-right e =
      let a = and-both _ _ e in
      let b = and-both _ _ a.1 in
      let c = and-both _ _ b.1 in
      let d = and-both _ _ c.1 in
      let places = and-both _ _ d.0 in
      let long = eqb-true (length ts) n a.0 in
      let fill = leb-true w.fill n b.0 in
      let next = next_right-means n w c.0 in
      record {
        long = long;
        fill = fill;
        next = next.0;
        going = next.1;
        filled = none_zero-means w.fill ts (omega (arith, long, fill)) places.0;
        rest = all_zero-means w.fill ts places.1;
        sum = eqb-true w.sum (sum_of ts) d.1;
      }

  pub right-window : RightWindow n w ts → window_right n w ts ≡ true
  unfolding window_right
  right-window h =
      let places = both-and (means-none_zero w.fill ts h.filled) (means-all_zero w.fill ts h.rest) in
      let next = means-next_right n w h.next h.going in
      both-and (eq-eqb _ _ h.long) (both-and (le-leb _ _ h.fill) (both-and next (both-and places (eq-eqb _ _ h.sum))))

-- what the tactics of `place` are to know of a right window: its next place is one of its places, what stands there is part of the sum, and no sum of so many
-- times is near 2 ^ 64
pub ruleset right_windows = (window-right, sum-least, sum-most)

-- ---- with nothing in it yet

pub fresh-right : (n : ℕ) → 0 < n → RightWindow n fresh_window (replicate n 0)
fresh-right n h =
    record {
      long = length-replicate n 0;
      fill = zero-le;
      next = h;
      going = λ l. refl;
      filled = λ i l. absurd (omega arith);
      rest = λ i l. zeros-zero n i;
      sum = zeros-sum n;
    }

-- ---- a time takes the next place

pub place_after-mod : (n at : ℕ) → at < n → place_after n at ≡ (at + 1) % n
place_after-mod n at h = go (ltb (at + 1) n) refl
  where
    go : (b : Bool) → ltb (at + 1) n ≡ b → if-else b (at + 1) 0 ≡ (at + 1) % n
    go true l = sym (mod-eq_of_lt (ltb-true (at + 1) n l))
    go false l = let e : at + 1 ≡ n = omega (arith, ltb-false (at + 1) n l) in rw e (sym (mod_self n))

pub place-sum : (w : Window) (ts : List ℕ) (t : ℕ) → w.next < length ts → w.sum ≡ sum_of ts
    → w.sum - get_or ts w.next 0 + t ≡ sum_of (set ts w.next t)
place-sum w ts t h e = omega (arith, sum-set ts w.next t h, sum-least ts w.next)

module _ (n : ℕ) (w : Window) (ts : List ℕ) (h : RightWindow n w ts) (t : ℕ) (some : t ≡ 0 → ⊥) where
  place-next : place_after n w.next < n
  place-next = rw (place_after-mod n w.next h.next) (mod-lt (w.next + 1) (omega (arith, h.next)))

  place-going : min (w.fill + 1) n < n → place_after n w.next ≡ min (w.fill + 1) n
  place-going l =
      let e = h.going (omega arith) in
      let m : w.next + 1 < n = omega arith in
      place_after-mod n w.next h.next ∙ mod-eq_of_lt m ∙ omega arith

  -- a place that was filled before, or the one that the time takes
  place-filled : (i : ℕ) → i < min (w.fill + 1) n → get_or (set ts w.next t) i 0 ≡ 0 → ⊥
  place-filled i l =
      dite (ℕ_discrete i w.next) (λ e. rw (e, get_or-set_same ts w.next t 0 (omega (arith, h.next, h.long))) some)
      (λ e. rw (get_or-set_other ts w.next i t 0 e) (h.filled i (before e)))
    where
      before : (i ≡ w.next → ⊥) → i < w.fill
      before e = dite (dec_lt w.fill n) (λ m. omega (arith, h.going m)) (λ m. omega arith)

  place-rest : (i : ℕ) → min (w.fill + 1) n ≤ i → get_or (set ts w.next t) i 0 ≡ 0
  place-rest i l = get_or-set_other ts w.next i t 0 behind ∙ h.rest i (omega (arith, h.fill))
    where
      behind : i ≡ w.next → ⊥
      behind e = dite (dec_lt w.fill n) (λ m. omega (arith, h.going m, h.next)) (λ m. omega (arith, h.next))

  pub place-right : RightWindow n (window_after n w ts t) (set ts w.next t)
  unfolding window_after
  place-right =
      record {
        long = length-set ts w.next t ∙ h.long;
        fill = omega arith;
        next = place-next;
        going = place-going;
        filled = place-filled;
        rest = place-rest;
        sum = place-sum w ts t (omega (arith, h.next, h.long)) h.sum;
      }

-- ---- what a serving call sees

pub window-in : (n : ℕ) (w : Window) (ts : List ℕ) → RightWindow n w ts → ((i : ℕ) → get_or ts i 0 ≤ most_time) → WindowIn n w
window-in n w ts h most =
    let low = sum-low w.fill ts (omega (arith, h.fill, h.long)) h.filled in
    let high = sum-high w.fill ts h.rest most in
    record { fill = h.fill; low = omega (arith, h.sum); high = omega (arith, h.sum) }
