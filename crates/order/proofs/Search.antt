-- Laws of the search for a page.
--     find_from-hit, find_from-miss, find_from-end    a loop from the front, over the frames that are left: it finds, goes on, or is through
--     find_from-below, find_from-at    a place that is found is one of the list, and its frame holds the page
--     find_from-none, find_from-nowhere    of a list where nothing is found no frame holds the page, and the reverse
--     find_from-position    it is what `position` finds
--     has_before-hit, has_before-miss    one place more is looked through
--     has_before-none, has_before-nowhere    what does not stand before a place
-- Assumes nothing.
use mathlib.Core.Path.{◌≡◌, refl, sym, ◌∙◌}
use mathlib.Core.Logic.{◌⊎◌, inl, inr, ⊎_elim, dite, ◌≢◌}
use mathlib.Core.List.{List, [], ◌∷◌}
use mathlib.Core.Bool.{false, or-false, true, or-true, false≢true}
use Prim.Native.Nat.{ℕ, zero, suc, ◌+◌, ◌≤◌, ◌<◌}
use native.Mathlib.Decide.{ℕ_discrete}
use native.Mathlib.Numerals.{add-one}
use native.Mathlib.Omega.{arith}
use native.Mathlib.Nat.{not-suc-le-zero, eq-or-lt_of_le, le_of_suc-le-suc}
use lib.ListN.{length, get_or, take, drop}
use borrow.Author.Tests.{eq-eqb, ne_eqb}
use Rattle.order.specs.Count.{count}
use Rattle.order.specs.Find.{find_from, has_before}
use Rattle.std.specs.Prelude.{Some, None, nat_eq, position}
use Rattle.std.specs.List.{position_from}
use Rattle.std.proofs.lemmas.Iterator.Adapters.{position_from-zero}
use Rattle.order.proofs.Lists.{drop-take-next, drop-take-end}
use Rattle.order.proofs.Count.{bit-other}

module _ (page : List ℕ) (wanted : ℕ) where
  -- ---- a loop over the first n

  module _ (list : List ℕ) (n i : ℕ) (l : n ≤ length list) where
    pub find_from-hit : i < n → get_or page (get_or list i 0) 0 ≡ wanted → find_from i page wanted (drop i (take n list)) ≡ Some i
    find_from-hit h e = rw (drop-take-next list n i l h, eq-eqb _ _ e)

    pub find_from-miss : i < n → get_or page (get_or list i 0) 0 ≢ wanted
        → find_from (i + 1) page wanted (drop (i + 1) (take n list)) ≡ find_from i page wanted (drop i (take n list))
    find_from-miss h e = rw (drop-take-next list n i l h, ne_eqb _ _ e, add-one)

    pub find_from-end : n ≤ i → find_from i page wanted (drop i (take n list)) ≡ None
    find_from-end h = rw (drop-take-end list n i h)

  -- ---- what a search tells

  found : (k f : ℕ) (fs : List ℕ) (i : ℕ) → find_from k page wanted (f ∷ fs) ≡ Some i
      → ((k ≡ i) × (get_or page f 0 ≡ wanted)) ⊎ (find_from (suc k) page wanted fs ≡ Some i)
  found k f fs i e =
      dite (ℕ_discrete (get_or page f 0) wanted)
      (λ y. let d : Some k ≡ Some i = rw (eq-eqb _ _ y) at e in inl (cc, y))
      (λ n. inr (rw (ne_eqb _ _ n) at e))

  find_from-above : (k : ℕ) (fs : List ℕ) (i : ℕ) → find_from k page wanted fs ≡ Some i → k ≤ i
  find_from-above k [] i e = let z : ◌≡◌ {A = ℕ} 0 1 = cc in omega arith
  find_from-above k (f ∷ fs) i e = ⊎_elim (λ h. omega arith) (λ d. omega (arith, find_from-above (suc k) fs i d)) (found k f fs i e)

  pub find_from-below : (k : ℕ) (fs : List ℕ) (i : ℕ) → find_from k page wanted fs ≡ Some i → i < k + length fs
  find_from-below k [] i e = let z : ◌≡◌ {A = ℕ} 0 1 = cc in omega arith
  find_from-below k (f ∷ fs) i e = ⊎_elim (λ h. omega arith) (λ d. omega (arith, find_from-below (suc k) fs i d)) (found k f fs i e)

  pub find_from-at : (k : ℕ) (fs : List ℕ) (i j : ℕ) → i ≡ k + j → find_from k page wanted fs ≡ Some i → get_or page (get_or fs j 0) 0 ≡ wanted
  find_from-at k [] i j x e = let z : ◌≡◌ {A = ℕ} 0 1 = cc in absurd (omega arith)
  find_from-at k (f ∷ fs) i zero x e = ⊎_elim (λ h. h.1) (λ d. absurd (omega (arith, find_from-above (suc k) fs i d))) (found k f fs i e)
  find_from-at k (f ∷ fs) i (suc j) x e = ⊎_elim (λ h. absurd (omega arith)) (λ d. find_from-at (suc k) fs i j (omega arith) d) (found k f fs i e)

  pub find_from-none : (k : ℕ) (fs : List ℕ) → find_from k page wanted fs ≡ None → (f : ℕ) → 1 ≤ count f fs → get_or page f 0 ≢ wanted
  find_from-none k [] e f c x = omega arith
  find_from-none k (g ∷ fs) e f c x =
      dite (ℕ_discrete (get_or page g 0) wanted)
      (λ y. let d : Some k ≡ None = rw (eq-eqb _ _ y) at e in let z : ◌≡◌ {A = ℕ} 0 1 = cc in omega arith)
      (λ n.
      let d : find_from (suc k) page wanted fs ≡ None = rw (ne_eqb _ _ n) at e in
      let m : g ≢ f = λ (j : g ≡ f). n (rw j x) in
      find_from-none (suc k) fs d f (omega (arith, bit-other g f m)) x)

  pub find_from-nowhere : (k : ℕ) (fs : List ℕ) → ((i : ℕ) → i < length fs → get_or page (get_or fs i 0) 0 ≢ wanted) → find_from k page wanted fs ≡ None
  find_from-nowhere k [] p = refl
  find_from-nowhere k (f ∷ fs) p = rw (ne_eqb _ _ (p 0 (omega arith))) (find_from-nowhere (suc k) fs (λ i h. p (suc i) (omega arith)))

-- ---- what `position` finds

find_from-position_from : (page : List ℕ) (wanted k : ℕ) (fs : List ℕ) → find_from k page wanted fs ≡ position_from (λ f. nat_eq (get_or page f 0) wanted) k fs
find_from-position_from page wanted k [] = refl
find_from-position_from page wanted k (f ∷ fs) = rw (find_from-position_from page wanted (suc k) fs, add-one)

pub find_from-position : (page : List ℕ) (wanted : ℕ) (fs : List ℕ) → find_from 0 page wanted fs ≡ position (λ f. nat_eq (get_or page f 0) wanted) fs
find_from-position page wanted fs = find_from-position_from page wanted 0 fs ∙ sym (position_from-zero _ fs)

-- ---- a page stands before a place

module _ (page : List ℕ) where
  pub has_before-hit : (n q : ℕ) → get_or page n 0 ≡ q → has_before page (n + 1) q ≡ true
  has_before-hit n q e = rw (add-one, eq-eqb _ _ e, or-true)

  pub has_before-miss : (n q : ℕ) → get_or page n 0 ≢ q → has_before page (n + 1) q ≡ has_before page n q
  has_before-miss n q e = rw (add-one, ne_eqb _ _ e, or-false)

  pub has_before-nowhere : (n q : ℕ) → ((j : ℕ) → j < n → get_or page j 0 ≢ q) → has_before page n q ≡ false
  has_before-nowhere zero q p = refl
  has_before-nowhere (suc n) q p = rw (ne_eqb _ _ (p n (omega arith)), or-false) (has_before-nowhere n q (λ j h. p j (omega arith)))

  pub has_before-none : (n q : ℕ) → has_before page n q ≡ false → (j : ℕ) → j < n → get_or page j 0 ≢ q
  has_before-none zero q e j h y = not-suc-le-zero h
  has_before-none (suc n) q e j h y =
      dite (ℕ_discrete (get_or page n 0) q)
      (λ z. false≢true (sym (rw (eq-eqb _ _ z, or-true) at e)))
      (λ d.
      ⊎_elim
      (λ (k : j ≡ n). d (rw k at y))
      (λ (k : j < n). has_before-none n q (rw (ne_eqb _ _ d, or-false) at e) j k y)
      (eq-or-lt_of_le (le_of_suc-le-suc h)))
