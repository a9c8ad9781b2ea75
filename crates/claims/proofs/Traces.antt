-- Refusals of traces: what `trace::header` and `trace::check` say is the first row whose condition holds, of the trailer's rows and then of the records'. And
-- opening for a trace that is not refused. Assumes nothing.
use Rattle.std.specs.Prelude.{Option, Some, None, is_some, unwrap_or, Ok, Err}
use mathlib.Core.Path.{◌≡◌, refl, sym, ap, ◌∙◌}
use mathlib.Core.Bool.{Bool, true, false, cond as if-else}
use mathlib.Core.List.{List, [], ◌∷◌, ◌++◌}
use Prim.Native.Nat.{ℕ}
use native.Mathlib.Omega.{arith}
use lib.Dec.{ltb}
use lib.ListN.{length}
use Rattle.model.specs.State.{opened}
use Rattle.model.specs.Words.{opened as said_opened}
use Rattle.model.specs.Refusals.{Row, verdict_by, first, GivenBy}
use Rattle.model.specs.declared.Refusal.{Refusal}
use Rattle.model.specs.declared.Refusal.TheVariants.{NotATrace, BadRecord}
use Rattle.model.specs.Words.{Verdict}
use Rattle.model.proofs.Exactly.{first-given, given-first}
use Rattle.trace.specs.Format.{trailer_length, numbers_in, recorded_on, trailer_rows, checked_by, judged, header_of}
use Rattle.trace.specs.Format.{Checked, bad_in, checked_records, checked_all, checked_of}
use Rattle.trace.specs.Words.{checked_says}
use Rattle.trace.specs.declared.Trailer.{Trailer}
use Rattle.trace.proofs.Settled.{checked-one-to-one}
use Rattle.trace.proofs.Trailers.{header-accepts, accepted-opens}
use Rattle.casa.specs.Calls.{open_after}
use Rattle.pool.specs.Pool.{pool_of}
use Rattle.claims.specs.World.{Exactly, TraceSays, trailer_in, header_rows, bad_row, check_rows}

-- the header and the check, as the first of their rows
header-first : (s : List ℕ) → header_of s ≡ checked_by (first (header_rows s)) (trailer_in s)
unfolding header_of judged
header-first s = go (ltb (length s) trailer_length)
  where
    go : (t : Bool) → if-else t (Err NotATrace) (judged (length s) (trailer_in s))
        ≡ checked_by (verdict_by t NotATrace (first (trailer_rows (length s) (trailer_in s)))) (trailer_in s)
    go true = refl
    go false = refl

check-first : (s : List ℕ) → checked_of s ≡ checked_by (first (check_rows s)) (trailer_in s)
unfolding checked_of
check-first s = ap (λ (h : Checked). checked_all h s) (header-first s) ∙ go (header_rows s)
  where
    t : Trailer
    t = trailer_in s

    last : (b : Option ℕ) → checked_records t b ≡ checked_by (verdict_by (is_some b) (BadRecord (unwrap_or b 0)) (Ok tt)) t
    last None = refl
    last (Some k) = refl

    go : (rows : List Row) → checked_all (checked_by (first rows) t) s ≡ checked_by (first (rows ++ (bad_row s ∷ []))) t
    go [] = last (bad_in s t)
    go (r ∷ rows) = by r.when (go rows)
      where
        by : (u : Bool) → checked_all (checked_by (first rows) t) s ≡ checked_by (first (rows ++ (bad_row s ∷ []))) t
            → checked_all (checked_by (verdict_by u r.why (first rows)) t) s ≡ checked_by (verdict_by u r.why (first (rows ++ (bad_row s ∷ [])))) t
        by true ih = refl
        by false ih = ih

-- ---- what is said, both ways: x is what a function answers of rows and a trailer

refusal-of : (v : Verdict) (t : Trailer) (y : Refusal) → checked_by v t ≡ Err y → v ≡ Err y
refusal-of (Err z) t y e = let d : z ≡ y = cc in ap Err d
refusal-of (Ok _) t y e = let z : ◌≡◌ {A = ℕ} 0 1 = cc in absurd (omega arith)

module _ (rows : List Row) (t : Trailer) (x : Checked) (e : x ≡ checked_by (first rows) t) (y : Refusal) where
  exactly : Exactly (TraceSays x y) (GivenBy y rows)
  exactly = (
    λ s. first-given rows y (refusal-of (first rows) t y (sym e ∙ checked-one-to-one x (Err y) s)),
    λ g. ap checked_says (e ∙ ap (λ (v : Verdict). checked_by v t) (given-first rows y g)),
  )

pub header-exactly : (s : List ℕ) (y : Refusal) → Exactly (TraceSays (header_of s) y) (GivenBy y (header_rows s))
header-exactly s = exactly (header_rows s) (trailer_in s) (header_of s) (header-first s)

pub check-exactly : (s : List ℕ) (y : Refusal) → Exactly (TraceSays (checked_of s) y) (GivenBy y (check_rows s))
check-exactly s = exactly (check_rows s) (trailer_in s) (checked_of s) (check-first s)

-- ---- opening for a trace

pub header-opens : (s : List ℕ) (t : Trailer) → header_of s ≡ Ok t
    → open_after (recorded_on (numbers_in t)) ≡ record { pool = pool_of (opened (recorded_on (numbers_in t))); said = said_opened }
unfolding open_after
header-opens s t e = let o = accepted-opens (header-accepts s t e) in rw (o.0, o.1)
