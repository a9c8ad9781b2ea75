-- The test of the frames is exact: b numbers that mark every place below b are the numbers below b, each once.
--     frames-below, frames-empty    right frames
--     frames-exact, frames-decides    the test
-- Assumes nothing.
use mathlib.Core.Path.{◌≡◌, refl, sym, ◌∙◌, ap}
use mathlib.Core.Logic.{dite}
use mathlib.Core.List.{List, ◌++◌}
use mathlib.Core.Bool.{Bool, false, false≢true}
use Prim.Native.Nat.{ℕ, ◌+◌, ◌≤◌, ◌<◌}
use native.Mathlib.Decide.{dec_lt}
use native.Mathlib.Omega.{arith}
use lib.ListN.{length, get_or, take, replicate, length-append, get_or-replicate}
use Rattle.order.specs.Count.{count}
use Rattle.order.specs.Lists.{down_from}
use Rattle.order.proofs.Count.{count-down_from-below, count-down_from-above}
use Rattle.checks.specs.Tests.{every, marked, FramesRight, EmptyRight, Decides}
use Rattle.checks.proofs.Marks.{marked-length, marked-here, marked-off, marked-append}
use Rattle.checks.proofs.Counting.{count-three, count-all}
use Rattle.checks.proofs.Decides.{decides-of}
use Rattle.checks.proofs.Exact.{Exact, exact-iff, exact-self, exact-places}

abbrev none : List Bool
none = replicate 256 false

none-length : length none ≡ 256
none-length = refl

marks-exact : (b : ℕ) (xs : List ℕ) → b ≤ 256 → length xs ≡ b
    → Exact (every (λ m. m) (take b (marked xs none))) ((f : ℕ) → count f xs ≡ count f (down_from b))
marks-exact b xs small len =
    exact-iff
    (λ x.
    count-all b xs len
    (λ f h.
    dite (dec_lt 0 (count f xs)) (λ p. p)
    (λ n. absurd (false≢true (sym (marked-off f xs none (omega arith) ∙ get_or-replicate 256 f false false (omega arith)) ∙ x f h)))))
    (λ same f h. marked-here f xs none (omega (arith, same f, count-down_from-below b f h)) (omega (arith, none-length)))
    (exact-places (λ m. m) (marked xs none) false b (omega (arith, marked-length xs none, none-length)) (λ f. exact-self (get_or (marked xs none) f false)))

pub frames-exact : (b : ℕ) (E C D : List ℕ) → b ≤ 256 → length E + (length C + length D) ≡ b
    → Exact (every (λ m. m) (take b (marked (E ++ (C ++ D)) (replicate 256 false)))) (FramesRight b E C D)
frames-exact b E C D small sum =
    exact-iff
    (λ same.
    record {
      once = λ f h. omega (arith, count-three f E C D, same f, count-down_from-below b f h);
      others = λ f h. omega (arith, count-three f E C D, same f, count-down_from-above b f h);
    })
    (λ r f.
    dite (dec_lt f b)
    (λ l. omega (arith, count-three f E C D, r.once f l, count-down_from-below b f l))
    (λ n. let l : b ≤ f = omega arith in omega (arith, count-three f E C D, r.others f l, count-down_from-above b f l)))
    (marks-exact b (E ++ (C ++ D)) small (simp length-append sum))

-- the marks of three lists, made one list after the other
pub frames-decides : (b : ℕ) (E C D : List ℕ) → b ≤ 256 → length E + (length C + length D) ≡ b
    → (m1 m2 m3 : List Bool) → m1 ≡ marked E (replicate 256 false) → m2 ≡ marked C m1 → m3 ≡ marked D m2
    → (t : Bool) → t ≡ every (λ m. m) (take b m3) → Decides t (FramesRight b E C D)
frames-decides b E C D small sum m1 m2 m3 e1 e2 e3 t e =
    let all : m3 ≡ marked (E ++ (C ++ D)) (replicate 256 false) = rw (e3, e2, e1, marked-append E (C ++ D) (replicate 256 false), marked-append C D) in
    let x : t ≡ every (λ m. m) (take b (marked (E ++ (C ++ D)) (replicate 256 false))) = e ∙ ap (λ (m : List Bool). every (λ m. m) (take b m)) all in
    rw x (decides-of (every (λ m. m) (take b (marked (E ++ (C ++ D)) (replicate 256 false)))) (frames-exact b E C D small sum))

-- ---- right frames

module _ {b : ℕ} {E C D : List ℕ} (r : FramesRight b E C D) where
  -- what stands in a list is a frame
  pub frames-below : (f : ℕ) → 1 ≤ count f E + (count f C + count f D) → f < b
  frames-below f c = dite (dec_lt f b) (λ l. l) (λ n. absurd (omega (arith, r.others f (omega arith))))

  pub frames-empty : EmptyRight b E
  frames-empty =
      record {
        once = λ f. dite (dec_lt f b) (λ l. omega (arith, r.once f l)) (λ n. omega (arith, r.others f (omega arith)));
        others = λ f h. omega (arith, r.others f h);
      }
