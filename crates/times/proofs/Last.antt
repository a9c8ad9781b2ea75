-- From fresh windows on, after any reports, refused ones among them, each window has the last n of its times, each in its place. The invariant speaks of one
-- window: after times ts the next place is their number round below n, so one more time goes where it belongs, and what it replaces is the time n before it. No
-- other of the last n times has that place. So a pair of windows in use is right after any reports: it is never refused 13, neither by a report nor by a
-- serving call.
--     place-last      a window that has the last of ts, and then takes t, has the last of ts and t
--     last-one        the times tell the window: its kept numbers and every place
--     reports-last    both windows have the last of their times after any reports
--     used-right      they are right
--     used-verdict    a further report is refused for a time of 0 alone
--     used-fits       a serving call does not refuse what is kept of them
-- Assumes nothing.
use Rattle.std.specs.Prelude.{Ok, Err}
use mathlib.Core.Path.{◌≡◌, refl, sym, ap, ◌∙◌}
use mathlib.Core.Bool.{true, cond as if-else}
use mathlib.Core.Logic.{dite}
use mathlib.Core.List.{List, [], ◌∷◌, ◌++◌, append-nil}
use Prim.Native.Nat.{ℕ, ◌+◌, ◌-◌, ◌*◌, ◌/◌, ◌%◌, ◌≤◌, ◌<◌, zero-le}
use native.Mathlib.Nat.{mul-le-mul_left, mod-lt, mod-le, mod-eq_of_lt, mod-add-mod, div-add-mod, mul-div-le, lt-mul-div-succ, add-mul-mod_self_left, zero-mod}
use native.Mathlib.Decide.{dec_lt, ℕ_discrete}
use native.Mathlib.Omega.{arith}
use lib.Dec.{eqb}
use lib.ListN.{length, get_or, set, replicate, length-append, length-set, length-replicate, get_or-eq_default, get_or-append}
use lib.Seq.{append_snoc, get_or-append_seam, get_or-set_same, get_or-set_other, ext_get_or}
use borrow.Author.Tests.{eq-eqb, ne_eqb}
use Rattle.model.specs.Times.{most_time, kept_fits, fresh_window}
use Rattle.model.specs.declared.Window.{Window}
use Rattle.model.specs.declared.Refusal.TheVariants.{ZeroTime}
use Rattle.window.specs.Window.{sum_of, window_after}
use Rattle.times.specs.Reports.{Windows, Report, read_took, write_took, time_in, windows_right, noted, report_verdict}
use Rattle.times.specs.Reports.{start_verdict, start_after, after_reports, read_times, write_times, HasLast}
use Rattle.window.proofs.Places.{zeros-zero, zeros-sum}
use Rattle.window.proofs.Stays.{place_after-mod, place-sum}
use Rattle.times.proofs.Right.{windows-right, start-right, right-verdict, report-cases, noted-right, right-fits}

-- ---- places, round below n

-- of n times in a row no two have one place
places-apart : (n k m : ℕ) → k < m → m < k + n → k % n ≡ m % n → ⊥
places-apart n k m h l e =
    dite (dec_lt (k / n) (m / n)) (λ s. omega (arith, mul-le-mul_left n s, div-add-mod k n, div-add-mod m n))
    (λ s. let b : m / n ≤ k / n = omega arith in omega (arith, mul-le-mul_left n b, div-add-mod k n, div-add-mod m n))

-- the last of m times that has place i
latest : (n m i : ℕ) → i < n → i < m → (k : ℕ) × (k < m) × (m ≤ k + n) × (k % n ≡ i)
latest n m i h l =
    let d = m - 1 - i in
    let z : 0 < n = omega arith in
    let k = i + n * (d / n) in
    (k, omega (arith, mul-div-le d n), omega (arith, lt-mul-div-succ d z), add-mul-mod_self_left i n (d / n) ∙ mod-eq_of_lt h)

-- ---- one window

module _ {n : ℕ} {ts : List ℕ} {w : Window} {places : List ℕ} (h : HasLast n ts w places) where
  -- each place has the latest of the times that have it, or 0
  place-latest : (i : ℕ) (a : i < n) (b : i < length ts) → get_or places i 0 ≡ get_or ts (latest n (length ts) i a b).0 0
  place-latest i a b = let k = latest n (length ts) i a b in ap (λ (j : ℕ). get_or places j 0) (sym k.3) ∙ h.last k.0 k.1 k.2

  last-within : (most : ℕ) → ((i : ℕ) → get_or ts i 0 ≤ most) → (i : ℕ) → get_or places i 0 ≤ most
  last-within most within i =
      dite (dec_lt i (length ts))
      (λ b. dite (dec_lt i n) (λ a. rw (place-latest i a b) (within _)) (λ a. rw (get_or-eq_default places 0 {n = i} (omega (arith, h.long))) zero-le))
      (λ b. rw (h.rest i (omega arith)) zero-le)

  pub place-last : 0 < n → (t : ℕ) → HasLast n (ts ++ t ∷ []) (window_after n w places t) (set places w.next t)
  unfolding window_after
  place-last some t =
      record {
        long = length-set places w.next t ∙ h.long;
        last = last;
        rest = rest;
        fill = rw (h.fill, more) (omega arith);
        next = rw more (place_after-mod n w.next inside ∙ rw h.next (mod-add-mod (length ts) n 1));
        sum = place-sum w places t (omega (arith, inside, h.long)) h.sum;
      }
    where
      more : length (ts ++ t ∷ []) ≡ length ts + 1
      more = length-append ts (t ∷ [])

      inside : w.next < n
      inside = rw h.next (mod-lt (length ts) some)

      last : (k : ℕ) → k < length (ts ++ t ∷ []) → length (ts ++ t ∷ []) ≤ k + n → get_or (set places w.next t) (k % n) 0 ≡ get_or (ts ++ t ∷ []) k 0
      last k a b =
          dite (ℕ_discrete k (length ts))
          (λ e. rw (e, ← h.next, get_or-append_seam) (get_or-set_same places w.next t 0 (omega (arith, inside, h.long))))
          (λ e.
          let c : k < length ts = omega (arith, more) in
          get_or-set_other places w.next (k % n) t 0 (λ d. places-apart n k (length ts) c (omega (arith, more)) (d ∙ h.next))
          ∙ h.last k c (omega (arith, more))
          ∙ sym (get_or-append ts (t ∷ []) 0 k c))

      rest : (i : ℕ) → length (ts ++ t ∷ []) ≤ i → get_or (set places w.next t) i 0 ≡ 0
      rest i a = get_or-set_other places w.next i t 0 (λ e. omega (arith, more, h.next, mod-le (length ts) n)) ∙ h.rest i (omega (arith, more))

-- nothing is left open: the kept numbers and every place are told by the times
pub last-one : {n : ℕ} {ts : List ℕ} {w v : Window} {places others : List ℕ} → HasLast n ts w places → HasLast n ts v others → (w ≡ v) × (places ≡ others)
last-one {n} {ts} {w} {v} {places} {others} h g =
    ((λ j. record { fill = (h.fill ∙ sym g.fill) j; next = (h.next ∙ sym g.next) j; sum = (h.sum ∙ ap sum_of same ∙ sym g.sum) j }), same)
  where
    same : places ≡ others
    same =
        ext_get_or 0 places others (h.long ∙ sym g.long)
        (λ i l.
        let a : i < n = omega (arith, h.long) in
        dite (dec_lt i (length ts)) (λ b. place-latest h i a b ∙ sym (place-latest g i a b)) (λ b. h.rest i (omega arith) ∙ sym (g.rest i (omega arith))))

-- ---- both windows

-- after times R of reads and W of writes
pub record BothLast (n : ℕ) (R W : List ℕ) (x : Windows) : Type 0 where
  pub long : x.kept.n ≡ n
  pub right : windows_right x ≡ true
  pub reads : HasLast x.kept.n R x.kept.reads x.reads
  pub writes : HasLast x.kept.n W x.kept.writes x.writes

module _ {n : ℕ} {R W : List ℕ} {x : Windows} (h : BothLast n R W x) (t : ℕ) (some : t ≡ 0 → ⊥) where
  read-last : BothLast n (R ++ t ∷ []) W (noted x (read_took t))
  read-last =
      let reads = place-last h.reads (windows-right x h.right).some t in
      record { long = h.long; right = noted-right x (read_took t) h.right some; reads = reads; writes = h.writes }

  write-last : BothLast n R (W ++ t ∷ []) (noted x (write_took t))
  write-last =
      let writes = place-last h.writes (windows-right x h.right).some t in
      record { long = h.long; right = noted-right x (write_took t) h.right some; reads = h.reads; writes = writes }

-- a report that is refused leaves the windows, and its time is none of theirs
pub both-last : {n : ℕ} {R W : List ℕ} {x : Windows} → BothLast n R W x → (rs : List Report)
    → BothLast n (R ++ read_times rs) (W ++ write_times rs) (after_reports x rs)
both-last h [] = simp append-nil h
both-last {n} {R} {W} {x} h (read_took t ∷ rs) =
    report-cases x (read_took t) (λ y. BothLast n (R ++ read_times (read_took t ∷ rs)) (W ++ write_times rs) (after_reports y rs)) h.right
    (λ none. rw (eq-eqb t 0 none) (both-last h rs)) (λ some. rw (ne_eqb t 0 some, ← append_snoc) (both-last {R = R ++ t ∷ []} (read-last h t some) rs))
both-last {n} {R} {W} {x} h (write_took t ∷ rs) =
    report-cases x (write_took t) (λ y. BothLast n (R ++ read_times rs) (W ++ write_times (write_took t ∷ rs)) (after_reports y rs)) h.right
    (λ none. rw (eq-eqb t 0 none) (both-last h rs)) (λ some. rw (ne_eqb t 0 some, ← append_snoc) (both-last {W = W ++ t ∷ []} (write-last h t some) rs))

-- ---- from fresh windows on

fresh-last : (n : ℕ) → HasLast n [] fresh_window (replicate n 0)
fresh-last n =
    record {
      long = length-replicate n 0;
      last = λ k l. absurd (omega arith);
      rest = λ i l. zeros-zero n i;
      fill = omega arith;
      next = sym (zero-mod n);
      sum = zeros-sum n;
    }

start-last : (n : ℕ) (reads writes : List ℕ) → start_verdict n (length reads) (length writes) ≡ Ok tt → BothLast n [] [] (start_after n reads writes).windows
unfolding start_after
start-last n reads writes fine =
    let right = rw fine at (start-right n reads writes fine) in
    rw fine (record { long = refl; right = right; reads = fresh-last n; writes = fresh-last n })

-- two windows of n times after a start and reports rs
abbrev pub used : ℕ → List ℕ → List ℕ → List Report → Windows
used n reads writes rs = after_reports (start_after n reads writes).windows rs

module _ (n : ℕ) (reads writes : List ℕ) (fine : start_verdict n (length reads) (length writes) ≡ Ok tt) (rs : List Report) where
  used-last : BothLast n (read_times rs) (write_times rs) (used n reads writes rs)
  used-last = both-last (start-last n reads writes fine) rs

  pub reports-last : let x = used n reads writes rs in
      (x.kept.n ≡ n) × HasLast n (read_times rs) x.kept.reads x.reads × HasLast n (write_times rs) x.kept.writes x.writes
  reports-last = let h = used-last in (h.long, rw h.long at h.reads, rw h.long at h.writes)

  pub used-right : windows_right (used n reads writes rs) ≡ true
  used-right = used-last.right

  pub used-verdict : (r : Report) → report_verdict (used n reads writes rs) r ≡ if-else (eqb (time_in r) 0) (Err ZeroTime) (Ok tt)
  used-verdict r = right-verdict (used n reads writes rs) r used-right

  pub used-fits : ((i : ℕ) → get_or (read_times rs) i 0 ≤ most_time) → ((i : ℕ) → get_or (write_times rs) i 0 ≤ most_time)
      → kept_fits (used n reads writes rs).kept ≡ true
  used-fits r w =
      let h = used-last in
      right-fits (used n reads writes rs) h.right (last-within h.reads most_time r) (last-within h.writes most_time w)
