-- What a recorder has written reads back. The invariant, `Wrote`: the front of the buffer is the notes and the records that were kept, the recorder counts
-- them, and there is room for the trailer behind them. A record that is kept goes just behind them and its room is asked with the trailer's, so the trailer's
-- stays; one that is refused leaves all as it was. So closing is never refused, and what it leaves at the front is the encoded trace, which the reader accepts;
-- no byte behind it was ever touched. A record that the reader would accept is refused for want of room alone, and then so is every further one: a front of
-- such records is kept. Assumes nothing.
use Rattle.std.specs.Prelude.{Ok, Err}
use mathlib.Core.Path.{◌≡◌, refl, sym, ap, ◌∙◌}
use mathlib.Core.Bool.{Bool, true, false}
use mathlib.Core.List.{List, [], ◌∷◌, ◌++◌, append_assoc, append-nil}
use Prim.Native.Nat.{ℕ, suc, ◌+◌, ◌*◌, ◌^◌, ◌≤◌, ◌<◌}
use native.Mathlib.Nat.{add_assoc, add_comm}
use native.Mathlib.Omega.{arith}
use lib.ListN.{length, take, drop, length-append}
use lib.Seq.{drop-drop}
use Rattle.pages.specs.Pages.{splice}
use Rattle.pages.proofs.Splice.{splice-length, splice-front, splice-before, splice-after}
use Rattle.model.specs.Numbers.{Numbers, in_limits}
use Rattle.model.specs.Refusals.{first}
use Rattle.model.specs.declared.Refusal.TheVariants.{NoRoom}
use Rattle.model.specs.Words.{Verdict}
use Rattle.model.proofs.Refusals.{first-clear, not-false}
use Rattle.trace.specs.Format.{trailer_length, recorded_on}
use Rattle.trace.specs.Encode.{record_bytes, records_bytes, trailer_of, trailer_bytes, trace_bytes, RecordIn, RecordsIn}
use Rattle.trace.specs.declared.Record.{Record}
use Rattle.trace.proofs.Round.{records_bytes-append, records_in-append, record_bytes-length, trailer_bytes-length, trace_bytes-length}
use Rattle.trace.proofs.Round.{decoded, decoded-notes, decoded-records}
use Rattle.recorder.specs.Words.{closed}
use Rattle.recorder.specs.Calls.{recorder_of, numbers_of, end_of, room_for, begin_rows, add_rows}
use Rattle.recorder.specs.Calls.{begin_verdict, add_verdict, close_verdict, begin_after, add_if, add_after, close_after}
use Rattle.recorder.specs.Runs.{Tape, tape_of, after_add, after_adds, after_close, kept_by, kept, Reads}
use Rattle.recorder.proofs.Laws.{room_for-room, room-fewer, found-in, in-found}

-- what agrees from a on agrees further on
drop-further : (a k : ℕ) (xs ys : List ℕ) → drop a xs ≡ drop a ys → drop (a + k) xs ≡ drop (a + k) ys
drop-further a k xs ys e = sym (drop-drop k a xs) ∙ ap (drop k) e ∙ drop-drop k a ys

-- ---- the invariant

-- rs are the kept records of a trace begun with notes and numbers n over a buffer that first was b₀
pub record Wrote (n : Numbers) (notes : List ℕ) (rs : List Record) (b₀ : List ℕ) (x : Tape) : Type 0 where
  pub recorder : x.recorder ≡ recorder_of n (length notes) (length rs)
  pub numbers : in_limits (recorded_on n) ≡ true
  pub records : RecordsIn n.N rs
  pub size : length x.buffer ≡ length b₀
  pub room : room_for (length notes) (length rs) (length b₀) ≡ true
  pub front : take (length notes + 4 * length rs) x.buffer ≡ notes ++ records_bytes rs
  pub past : drop (length notes + (4 * length rs + trailer_length)) x.buffer ≡ drop (length notes + (4 * length rs + trailer_length)) b₀

pub begin-wrote : (n : Numbers) (notes b : List ℕ) → begin_verdict n (length notes) (length b) ≡ Ok tt → Wrote n notes [] b (tape_of (begin_after n notes b))
unfolding begin_after begin_verdict
begin-wrote n notes b e =
    let c = first-clear (begin_rows n (length notes) (length b)) e in
    let m = not-false _ c.1.0 in
    let fits = room_for-room (length notes) 0 (length b) m in
    rw e
    record {
      recorder = refl;
      numbers = not-false _ c.0;
      records = tt;
      size = splice-length 0 notes b (omega arith);
      room = m;
      front = rw (add_comm (length notes) 0, append-nil) (splice-front 0 notes b (omega arith));
      past = splice-after (length notes + trailer_length) 0 notes b (omega arith) (omega arith);
    }

module _ {n : Numbers} {notes : List ℕ} {rs : List Record} {b₀ : List ℕ} {x : Tape} (w : Wrote n notes rs b₀ x) where
  -- where the front ends: the next record goes there, or the trailer
  abbrev end : ℕ
  end = length notes + 4 * length rs

  ends : end_of x.recorder ≡ end
  ends = ap end_of w.recorder

  -- the trailer's room is there
  has-room : (end + trailer_length ≤ length x.buffer) × (trailer_length + 4 * length rs < 2 ^ 32)
  has-room = let m = room_for-room (length notes) (length rs) (length b₀) w.room in (omega (arith, w.size), m.1)

  -- ---- one record more

  add-verdict : (r : Record) → add_verdict x.recorder r (length x.buffer) ≡ first (add_rows (recorder_of n (length notes) (length rs)) r (length b₀))
  unfolding add_verdict
  add-verdict r = rw (w.recorder, w.size)

  add-fine : (r : Record) → RecordIn n.N r → room_for (length notes) (length rs + 1) (length b₀) ≡ true
      → add_verdict x.recorder r (length x.buffer) ≡ Ok tt
  add-fine r h m = add-verdict r ∙ rw (w.numbers, in-found n.N r h, m)

  add-none : (r : Record) → RecordIn n.N r → room_for (length notes) (length rs + 1) (length b₀) ≡ false
      → add_verdict x.recorder r (length x.buffer) ≡ Err NoRoom
  add-none r h m = add-verdict r ∙ rw (w.numbers, in-found n.N r h, m)

  -- it goes just behind the front
  added : (r : Record) → add_verdict x.recorder r (length x.buffer) ≡ Ok tt
      → Wrote n notes (rs ++ r ∷ []) b₀ (tape_of (add_if (Ok tt) x.recorder r x.buffer))
  added r e =
      let c = first-clear (add_rows (recorder_of n (length notes) (length rs)) r (length b₀)) (sym (add-verdict r) ∙ e) in
      let m : room_for (length notes) (length rs + 1) (length b₀) ≡ true = not-false _ c.1.1.0 in
      let k : length (rs ++ r ∷ []) ≡ length rs + 1 = length-append rs (r ∷ []) in
      let l : length (record_bytes r) ≡ 4 = record_bytes-length r in
      let at : end_of x.recorder ≡ end = ends in
      let fits = has-room in
      let to : length notes + 4 * length (rs ++ r ∷ []) ≡ end + length (record_bytes r) = omega arith in
      let behind = length notes + (4 * length rs + trailer_length) in
      let on : length notes + (4 * length (rs ++ r ∷ []) + trailer_length) ≡ behind + 4 = omega arith in
      record {
        recorder = rw (w.recorder, k);
        numbers = w.numbers;
        records = records_in-append n.N rs (r ∷ []) w.records (found-in n.N r c.1.0, tt);
        size = splice-length (end_of x.recorder) (record_bytes r) x.buffer (omega arith) ∙ w.size;
        room = rw k m;
        front =
            rw (at, to, records_bytes-append, append-nil (record_bytes r), ← append_assoc)
            (splice-front end (record_bytes r) x.buffer (omega arith) ∙ ap (λ (zs : List ℕ). zs ++ record_bytes r) w.front);
        past =
            rw on
            (splice-after (behind + 4) (end_of x.recorder) (record_bytes r) x.buffer (omega arith) (omega arith)
            ∙ drop-further behind 4 x.buffer b₀ w.past);
      }

  pub add-wrote : (r : Record) → Wrote n notes (rs ++ kept_by (add_verdict x.recorder r (length x.buffer)) r) b₀ (after_add x r)
  unfolding add_after
  add-wrote r = go (add_verdict x.recorder r (length x.buffer)) refl
    where
      go : (v : Verdict) → add_verdict x.recorder r (length x.buffer) ≡ v
          → Wrote n notes (rs ++ kept_by v r) b₀ (tape_of (add_if v x.recorder r x.buffer))
      go (Err y) e = rw append-nil w
      go (Ok _) e = added r e

  -- ---- closing

  abbrev trailer : List ℕ
  trailer = trailer_bytes (trailer_of x.recorder.records (numbers_of x.recorder))

  -- it is never refused
  pub close-fine : close_verdict x.recorder (length x.buffer) ≡ Ok tt
  unfolding close_verdict
  close-fine = rw (w.recorder, w.size, w.numbers, w.room)

  -- the trailer goes just behind the front
  trailer-laid : splice (end_of x.recorder) trailer x.buffer ≡ trace_bytes notes rs n ++ drop (length notes + (4 * length rs + trailer_length)) b₀
  unfolding splice trace_bytes
  trailer-laid = rw (w.recorder, w.front, trailer_bytes-length, drop-drop, add_assoc, w.past) (simp append_assoc)

  -- it leaves the trace at the front and every byte behind it
  pub close-wrote : close_after x.recorder x.buffer
      ≡ record {
        recorder = x.recorder;
        said = closed (length (trace_bytes notes rs n));
        buffer = trace_bytes notes rs n ++ drop (length (trace_bytes notes rs n)) b₀;
      }
  unfolding close_after
  close-wrote =
      let said : end_of x.recorder + trailer_length ≡ length (trace_bytes notes rs n) = rw (ends, trace_bytes-length, add_assoc) in
      let bytes = trailer-laid ∙ ap (λ (k : ℕ). trace_bytes notes rs n ++ drop k b₀) (sym (trace_bytes-length notes rs n)) in
      rw close-fine (λ i. record { recorder = x.recorder; said = closed (said i); buffer = bytes i })

  -- and the recorder may go on
  pub close-stays : Wrote n notes rs b₀ (after_close x)
  unfolding close_after
  close-stays =
      let l : length trailer ≡ trailer_length = trailer_bytes-length _ in
      let at : end_of x.recorder ≡ end = ends in
      let fits = has-room in
      let behind = length notes + (4 * length rs + trailer_length) in
      rw close-fine
      record {
        recorder = w.recorder;
        numbers = w.numbers;
        records = w.records;
        size = splice-length (end_of x.recorder) trailer x.buffer (omega arith) ∙ w.size;
        room = w.room;
        front = splice-before 0 end (end_of x.recorder) trailer x.buffer (omega arith) (omega arith) ∙ w.front;
        past = splice-after behind (end_of x.recorder) trailer x.buffer (omega arith) (omega arith) ∙ w.past;
      }

  -- what is closed reads back
  pub closed-reads : Reads (trace_bytes notes rs n) notes rs n
  closed-reads =
      record {
        accepted = decoded notes rs n w.numbers w.records has-room.1;
        notes_same = decoded-notes notes rs n;
        records_same = decoded-records notes rs n w.numbers w.records has-room.1;
        numbers_same = refl;
      }

-- ---- records that are added one after the other

pub adds-wrote : {n : Numbers} {notes : List ℕ} {rs : List Record} {b₀ : List ℕ} {x : Tape} → Wrote n notes rs b₀ x
    → (qs : List Record) → Wrote n notes (rs ++ kept x qs) b₀ (after_adds x qs)
adds-wrote w [] = rw append-nil w
adds-wrote {rs = rs} {x = x} w (q ∷ qs) =
    rw (← append_assoc) (adds-wrote {rs = rs ++ kept_by (add_verdict x.recorder q (length x.buffer)) q} (add-wrote w q) qs)

-- one that is not refused is kept in front of those behind it
kept-one : (x : Tape) (q : Record) (qs ls : List Record) → add_verdict x.recorder q (length x.buffer) ≡ Ok tt → kept (after_add x q) qs ≡ ls
    → kept x (q ∷ qs) ≡ q ∷ ls
kept-one x q qs ls fine e = rw fine (ap (λ (zs : List Record). q ∷ zs) e)

-- records that the reader would accept are all kept where there is room for them
pub kept-all : {n : Numbers} {notes : List ℕ} {rs : List Record} {b₀ : List ℕ} {x : Tape} → Wrote n notes rs b₀ x
    → (qs : List Record) → RecordsIn n.N qs → room_for (length notes) (length (rs ++ qs)) (length b₀) ≡ true → kept x qs ≡ qs
kept-all w [] h m = refl
kept-all {n} {notes} {rs} {b₀} {x} w (q ∷ qs) h m =
    let k : length (rs ++ q ∷ qs) ≡ length rs + (1 + length qs) = length-append rs (q ∷ qs) ∙ omega arith in
    let fine = add-fine w q h.0 (room-fewer (length notes) (length rs + 1) _ (length b₀) (omega arith) m) in
    kept-one x q qs qs fine (kept-all {rs = rs ++ q ∷ []} (rw fine at (add-wrote w q)) qs h.1 (rw append_assoc m))

-- once there is no room for one more, none is: one that is refused leaves all as it was
kept-none : {n : Numbers} {notes : List ℕ} {rs : List Record} {b₀ : List ℕ} {x : Tape} → Wrote n notes rs b₀ x
    → (qs : List Record) → RecordsIn n.N qs → room_for (length notes) (length rs + 1) (length b₀) ≡ false → kept x qs ≡ []
unfolding add_after
kept-none w [] h m = refl
kept-none w (q ∷ qs) h m = rw (add-none w q h.0 m) (kept-none w qs h.1 m)

front-one : (x : Tape) (q : Record) (qs : List Record) → add_verdict x.recorder q (length x.buffer) ≡ Ok tt
    → (k : ℕ) × (kept (after_add x q) qs ≡ take k qs) → (k : ℕ) × (kept x (q ∷ qs) ≡ take k (q ∷ qs))
front-one x q qs fine f = (suc f.0, kept-one x q qs (take f.0 qs) fine f.1)

-- so of records that the reader would accept a front is kept
pub kept-front : {n : Numbers} {notes : List ℕ} {rs : List Record} {b₀ : List ℕ} {x : Tape} → Wrote n notes rs b₀ x
    → (qs : List Record) → RecordsIn n.N qs → (k : ℕ) × (kept x qs ≡ take k qs)
kept-front w [] h = (0, refl)
kept-front {n} {notes} {rs} {b₀} {x} w (q ∷ qs) h =
    go (λ (v : Wrote n notes (rs ++ q ∷ []) b₀ (after_add x q)). kept-front {rs = rs ++ q ∷ []} v qs h.1)
    (room_for (length notes) (length rs + 1) (length b₀)) refl
  where
    go : (Wrote n notes (rs ++ q ∷ []) b₀ (after_add x q) → (k : ℕ) × (kept (after_add x q) qs ≡ take k qs))
        → (t : Bool) → room_for (length notes) (length rs + 1) (length b₀) ≡ t → (k : ℕ) × (kept x (q ∷ qs) ≡ take k (q ∷ qs))
    go rest false m = (0, kept-none w (q ∷ qs) h m)
    go rest true m =
        let fine = add-fine w q h.0 m in
        front-one x q qs fine (rest (rw fine at (add-wrote w q)))
