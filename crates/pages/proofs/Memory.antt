-- Laws of `written_back` and `sizes_match`, and of small products.
-- Assumes nothing.
use mathlib.Core.Path.{◌≡◌, refl, sym, ap, ◌∙◌}
use mathlib.Core.Logic.{◌≢◌, dite}
use mathlib.Core.Bool.{true, false, false≢true}
use mathlib.Core.List.{List, [], ◌∷◌, ◌++◌}
use Prim.Native.Nat.{ℕ, suc, ◌-◌, ◌*◌, ◌^◌, ◌≤◌, ◌<◌}
use native.Mathlib.Nat.{lt_of_le_of_lt, mul-le-mul}
use native.Mathlib.Decide.{ℕ_discrete}
use native.Mathlib.Omega.{arith}
use lib.Dec.{T, ltb, eqb, lit<}
use lib.ListN.{length, get_or, take, drop, length-take}
use lib.Seq.{drop-cons, get_or-take}
use borrow.Author.Tests.{eqb-true, eq-eqb, ne_eqb}
use mir.Syntax.{w64}
use mir.Val.{Fits}
use Rattle.pages.specs.Pages.{page_of, with_page}
use Rattle.pages.specs.Memory.{written_back, sizes_match}

-- ---- frames are written back from the last of a list to the first: none yet, and one more

pub written_back-last : (P f : ℕ) (page frames fs store : List ℕ)
    → written_back P page frames (fs ++ (f ∷ [])) store ≡ written_back P page frames fs (with_page P (get_or page f 0) (page_of P f frames) store)
unfolding written_back
written_back-last P f page frames [] store = refl
written_back-last P f page frames (g ∷ fs) store =
    ap (with_page P (get_or page g 0) (page_of P g frames)) (written_back-last P f page frames fs store)

pub written_back-none : (P : ℕ) (page frames fs store : List ℕ) → length fs ≡ 0 → written_back P page frames fs store ≡ store
unfolding written_back
written_back-none P page frames [] store z = refl
written_back-none P page frames (f ∷ fs) store z = absurd (omega arith)

-- of the first n places of a list, those from i on are written back, and then the one before them
pub written_back-more : (P n i : ℕ) (page frames list store : List ℕ) → 0 < i → i ≤ n → n ≤ length list
    → with_page P (get_or page (get_or list (i - 1) 0) 0) (page_of P (get_or list (i - 1) 0) frames) (written_back P page frames (drop i (take n list)) store)
    ≡ written_back P page frames (drop (i - 1) (take n list)) store
unfolding written_back
written_back-more P n i page frames list store h k l =
    let e : suc (i - 1) ≡ i = omega arith in
    let b : i - 1 < length (take n list) = simp length-take (omega arith) in
    let m : i - 1 < n = omega arith in
    let d : get_or list (i - 1) 0 ∷ drop i (take n list) ≡ drop (i - 1) (take n list) = rw (
      drop-cons (take n list) (i - 1) 0,
      get_or-take n list (i - 1) 0,
      e,
    ) in
    ap (λ (fs : List ℕ). written_back P page frames fs store) d

-- ---- sizes

pub sizes_match-not : (P b N m n : ℕ) → m ≢ b * P → sizes_match P b N m n ≡ false
unfolding sizes_match
sizes_match-not P b N m n h = rw (ne_eqb m (b * P) h)

pub sizes_match-if : (P b N m n : ℕ) → m ≡ b * P → sizes_match P b N m n ≡ eqb n (N * P)
unfolding sizes_match
sizes_match-if P b N m n h = rw (eq-eqb m (b * P) h)

pub sizes_match-sound : (P b N m n : ℕ) → sizes_match P b N m n ≡ true → (m ≡ b * P) × (n ≡ N * P)
sizes_match-sound P b N m n h =
    dite (ℕ_discrete m (b * P))
    (λ e. (e, eqb-true n (N * P) (sym (sizes_match-if P b N m n e) ∙ h)))
    (λ ne. absurd (false≢true (sym (sizes_match-not P b N m n ne) ∙ h)))

pub sizes_match-complete : (P b N m n : ℕ) → m ≡ b * P → n ≡ N * P → sizes_match P b N m n ≡ true
sizes_match-complete P b N m n h k = sizes_match-if P b N m n h ∙ eq-eqb n (N * P) k

pub product-fits : (A B : ℕ) {a b : ℕ} → a ≤ A → b ≤ B → T (ltb (A * B) (2 ^ 64)) → Fits w64 (a * b)
product-fits A B h k t = record { fits = lt_of_le_of_lt (mul-le-mul h k) (lit< t) }
