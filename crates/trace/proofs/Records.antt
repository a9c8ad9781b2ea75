-- The search for the first record that 8 refuses. Assumes nothing.
use Rattle.std.specs.Prelude.{Some, None, is_none}
use mathlib.Core.Path.{◌≡◌, refl}
use mathlib.Core.Bool.{Bool, true, false, cond as if-else}
use mathlib.Core.List.{List}
use mathlib.Core.Logic.{dite}
use Prim.Native.Nat.{ℕ, zero, suc, ◌+◌, ◌*◌, ◌-◌, ◌≤◌, ◌<◌}
use native.Mathlib.Decide.{dec_lt}
use native.Mathlib.Omega.{arith}
use Rattle.trace.specs.Format.{record_in, first_bad}

-- ---- one turn of the search, after k of n records

pub first_bad-next : (s : List ℕ) (N start k n : ℕ) → k < n
    → first_bad s N start k (n - k) ≡ if-else (is_none (record_in s (start + 4 * k) N)) (Some (k + 1)) (first_bad s N start (k + 1) (n - (k + 1)))
unfolding first_bad
first_bad-next s N start k n h =
    let l : n - k ≡ suc (n - (k + 1)) = omega arith in
    rw l

pub first_bad-done : (s : List ℕ) (N start k n : ℕ) → n ≤ k → first_bad s N start k (n - k) ≡ None
unfolding first_bad
first_bad-done s N start k n h =
    let l : n - k ≡ 0 = omega arith in
    rw l

-- ---- the search among the `left` records after the first k finds none just where there is none

pub first_bad-fine : (s : List ℕ) (N start k left : ℕ) → ((i : ℕ) → k ≤ i → i < k + left → is_none (record_in s (start + 4 * i) N) ≡ false)
    → first_bad s N start k left ≡ None
unfolding first_bad
first_bad-fine s N start k zero h = refl
first_bad-fine s N start k (suc left) h =
    rw (h k (omega arith) (omega arith)) (first_bad-fine s N start (k + 1) left (λ i l m. h i (omega arith) (omega arith)))

pub first_bad-none : (s : List ℕ) (N start k left : ℕ) → first_bad s N start k left ≡ None
    → (i : ℕ) → k ≤ i → i < k + left → is_none (record_in s (start + 4 * i) N) ≡ false
unfolding first_bad
first_bad-none s N start k zero e i l m = absurd (omega arith)
first_bad-none s N start k (suc left) e i l m = go (is_none (record_in s (start + 4 * k) N)) refl e (first_bad-none s N start (k + 1) left)
  where
    go : (t : Bool) → is_none (record_in s (start + 4 * k) N) ≡ t → if-else t (Some (k + 1)) (first_bad s N start (k + 1) left) ≡ None
        → (first_bad s N start (k + 1) left ≡ None → (i : ℕ) → k + 1 ≤ i → i < k + 1 + left → is_none (record_in s (start + 4 * i) N) ≡ false)
        → is_none (record_in s (start + 4 * i) N) ≡ false
    go true p d ih = cc
    go false p d ih = dite (dec_lt k i) (λ h. ih d i (omega arith) (omega arith)) (λ h. let f : i ≡ k = omega arith in rw f p)

-- ---- where the search finds record m, counted from 1, that one is bad and none before it is

pub record FirstAt (s : List ℕ) (N start k left m : ℕ) : Type 0 where
  pub from : k < m
  pub within : m ≤ k + left
  pub bad : is_none (record_in s (start + 4 * (m - 1)) N) ≡ true
  pub before : (i : ℕ) → k ≤ i → i + 1 < m → is_none (record_in s (start + 4 * i) N) ≡ false

pub first_bad-at : (s : List ℕ) (N start k left m : ℕ) → first_bad s N start k left ≡ Some m → FirstAt s N start k left m
unfolding first_bad
first_bad-at s N start k zero m e = cc
first_bad-at s N start k (suc left) m e = go (is_none (record_in s (start + 4 * k) N)) refl e (first_bad-at s N start (k + 1) left m)
  where
    go : (t : Bool) → is_none (record_in s (start + 4 * k) N) ≡ t → if-else t (Some (k + 1)) (first_bad s N start (k + 1) left) ≡ Some m
        → (first_bad s N start (k + 1) left ≡ Some m → FirstAt s N start (k + 1) left m) → FirstAt s N start k (suc left) m
    go true p d ih =
        let e : k + 1 ≡ m = cc in
        let f : m - 1 ≡ k = omega arith in
        record { from = omega arith; within = omega arith; bad = rw f p; before = λ i l h. absurd (omega arith) }
    go false p d ih =
        let f = ih d in
        record {
          from = omega (arith, f.from);
          within = omega (arith, f.within);
          bad = f.bad;
          before = λ i l h. dite (dec_lt k i) (λ g. f.before i (omega arith) h) (λ g. let z : i ≡ k = omega arith in rw z p);
        }
