-- Laws of pages that stand twice.
--     nonzero_apart-twice, nonzero_apart-zero, nonzero_apart-new    one page more is looked at
--     nonzero_apart-means, nonzero_apart-of    pages that stand apart, place by place
--     knows-more, knows-met, knows-new    marks that know every earlier page: one page more that leaves a mark or meets one, and a page that they do not know
-- Assumes nothing.
use mathlib.Core.Path.{◌≡◌, refl, sym, ◌∙◌}
use mathlib.Core.Bool.{Bool, true, false, false≢true, not, ◌||◌, or-true, and-true, and-false, and-eq-true_iff}
use mathlib.Core.Logic.{◌≢◌, dite, ⊎_elim}
use mathlib.Core.List.{List}
use Prim.Native.Nat.{ℕ, zero, suc, ◌+◌, ◌%◌, ◌<◌}
use native.Mathlib.Nat.{le_of_suc-le-suc, not-suc-le-zero, eq-or-lt_of_le}
use native.Mathlib.Decide.{dec_lt, ℕ_discrete}
use native.Mathlib.Numerals.{add-one}
use native.Mathlib.Omega.{arith}
use lib.ListN.{length, get_or, set, length-set}
use lib.Seq.{get_or-set_same, get_or-set_other}
use lib.Dec.{eqb}
use borrow.Author.Count.{below_more}
use borrow.Author.Tests.{eq-eqb, ne_eqb, not-true}
use Rattle.order.specs.Find.{has_before}
use Rattle.order.proofs.Search.{has_before-nowhere, has_before-none}
use Rattle.checks.specs.Tests.{nonzero_apart}

-- 2,048 marks know the first n pages: each has a mark at its remainder
abbrev pub Knows : List Bool → List ℕ → ℕ → Type 0
Knows marks page n = (length marks ≡ 2048) × ((j : ℕ) → j < n → get_or marks (get_or page j 0 % 2048) false ≡ true)

module _ (page : List ℕ) where
  -- ---- no page but 0 stands twice

  pub nonzero_apart-twice : (i : ℕ) → get_or page i 0 ≢ 0 → has_before page i (get_or page i 0) ≡ true → nonzero_apart page (i + 1) ≡ false
  nonzero_apart-twice i d e = rw (add-one, ne_eqb _ _ d, e, and-false)

  pub nonzero_apart-zero : (i : ℕ) → get_or page i 0 ≡ 0 → nonzero_apart page (i + 1) ≡ nonzero_apart page i
  nonzero_apart-zero i z = rw (add-one, eq-eqb _ _ z, and-true)

  pub nonzero_apart-new : (i : ℕ) → has_before page i (get_or page i 0) ≡ false → nonzero_apart page (i + 1) ≡ nonzero_apart page i
  nonzero_apart-new i e = rw (add-one, e, or-true, and-true)

  -- of two equal pages the later one would have met the earlier one
  nonzero_apart-earlier : (n : ℕ) → nonzero_apart page n ≡ true → (f g : ℕ) → f < g → g < n → get_or page f 0 ≡ get_or page g 0 → get_or page g 0 ≢ 0 → ⊥
  nonzero_apart-earlier zero a f g h k e d = not-suc-le-zero k
  nonzero_apart-earlier (suc n) a f g h k e d =
      let both = (and-eq-true_iff (nonzero_apart page n) (eqb (get_or page n 0) 0 || not (has_before page n (get_or page n 0)))).0 a in
      ⊎_elim
      (λ (s : g ≡ n).
      let z : get_or page n 0 ≢ 0 = rw s at d in
      has_before-none page n (get_or page n 0) (not-true _ (rw (ne_eqb _ _ z) at both.1)) f (omega arith) (rw s at e))
      (λ (l : g < n). nonzero_apart-earlier n both.0 f g h l e d)
      (eq-or-lt_of_le (le_of_suc-le-suc k))

  pub nonzero_apart-means : (n : ℕ) → nonzero_apart page n ≡ true
      → (f g : ℕ) → f < n → g < n → get_or page f 0 ≡ get_or page g 0 → get_or page f 0 ≢ 0 → f ≡ g
  nonzero_apart-means n a f g h k e d =
      dite (dec_lt f g)
      (λ l. absurd (nonzero_apart-earlier n a f g l k e (rw e at d)))
      (λ m.
      dite (dec_lt g f)
      (λ l. absurd (nonzero_apart-earlier n a g f l h (sym e) d))
      (λ o. omega arith))

  pub nonzero_apart-of : (n : ℕ) → ((f g : ℕ) → f < n → g < n → get_or page f 0 ≡ get_or page g 0 → get_or page f 0 ≢ 0 → f ≡ g)
      → nonzero_apart page n ≡ true
  nonzero_apart-of zero p = refl
  nonzero_apart-of (suc n) p =
      rw (nonzero_apart-of n (λ f g h k. p f g (omega arith) (omega arith)))
      (dite (ℕ_discrete (get_or page n 0) 0)
      (λ z. rw (eq-eqb _ _ z))
      (λ d. rw (has_before-nowhere page n (get_or page n 0) (λ j h e. omega (arith, p j n (omega arith) (omega arith) e (rw e d))), or-true)))

  -- ---- marks by remainders

  pub knows-more : (marks : List Bool) (i : ℕ) → Knows marks page i → Knows (set marks (get_or page i 0 % 2048) true) page (i + 1)
  knows-more marks i (l, k) =
      let r : ℕ = get_or page i 0 % 2048 in
      let here : get_or (set marks r true) r false ≡ true = get_or-set_same marks r true false (omega arith) in (
        length-set marks r true ∙ l,
        below_more _ i
            (λ j h.
            dite (ℕ_discrete (get_or page j 0 % 2048) r)
            (λ e. rw e here)
            (λ d. get_or-set_other marks r _ true false d ∙ k j h))
            here,
      )

  pub knows-met : (marks : List Bool) (i : ℕ) → Knows marks page i → get_or marks (get_or page i 0 % 2048) false ≡ true → Knows marks page (i + 1)
  knows-met marks i (l, k) met = (l, below_more _ i k met)

  pub knows-new : (marks : List Bool) (i : ℕ) → Knows marks page i → get_or marks (get_or page i 0 % 2048) false ≡ false
      → has_before page i (get_or page i 0) ≡ false
  knows-new marks i (l, k) z = has_before-nowhere page i (get_or page i 0) (λ j h e. false≢true (sym z ∙ rw e at (k j h)))
