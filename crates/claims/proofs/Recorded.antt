-- The writer of trace files. Demand 1: what a call of a recorder says is told from its rows, as for the pool's calls. Then the round: what is closed reads
-- back, and what the reader accepts is written back; both by recorder's invariant `Wrote` and trace's laws on what is encoded. And the replay, for CASA's
-- pools: recorder's law for any lawful policy, from the world that an accepted open leaves, whose frames are all empty. Assumes nothing.
use Rattle.std.specs.Prelude.{Ok, Err}
use mathlib.Core.Path.{◌≡◌, refl, sym, ap, ◌∙◌, subst}
use mathlib.Core.Bool.{true}
use mathlib.Core.List.{List, [], ◌++◌}
use Prim.Native.Nat.{ℕ, ◌*◌, ◌≤◌}
use native.Mathlib.Omega.{arith}
use lib.ListN.{length, get_or, take}
use Rattle.little.specs.Little.{AllBelow}
use Rattle.pages.specs.Pages.{page_of}
use Rattle.model.specs.Numbers.{Numbers, in_limits, on_drive, meant, usual_read, usual_write}
use Rattle.model.specs.Moves.{History, laid}
use Rattle.model.specs.State.{State}
use Rattle.model.specs.Refusals.{Row, first, open_verdict, GivenBy}
use Rattle.model.specs.Times.{Times}
use Rattle.model.specs.Run.{Call, write, World, verdict_of, after_all, history, gathered}
use Rattle.model.specs.declared.Refusal.{Refusal}
use Rattle.model.specs.declared.Refusal.TheVariants.{OutOfLimits}
use Rattle.model.specs.Words.{Verdict}
use Rattle.model.proofs.Exactly.{first-given, given-first}
use Rattle.model.proofs.Framed.{framed-lawful, framed-pooled}
use Rattle.model.proofs.LastWritten.{Right}
use Rattle.model.proofs.Limits.{on_drive-within, limits-in_limits}
use Rattle.model.proofs.Words.{refusal-one-to-one}
use Rattle.pool.specs.Pool.{numbers_in as pool_numbers}
use Rattle.pool.specs.declared.Pool.{Pool}
use Rattle.casa.specs.Calls.{pools, open_after}
use Rattle.casa.proofs.Lawful.{pools-framed, pools-lawful, open-limits, open-sound}
use Rattle.trace.specs.Format.{numbers_in, recorded_read, recorded_write, recorded_on, checked_of, notes_in, records_in}
use Rattle.trace.specs.Encode.{trace_bytes, RecordsIn}
use Rattle.trace.specs.declared.Trailer.{Trailer}
use Rattle.trace.specs.declared.Record.{Record}
use Rattle.trace.proofs.Trailers.{header-accepts}
use Rattle.trace.proofs.Reading.{fine-header}
use Rattle.trace.proofs.Round.{trace_bytes-length}
use Rattle.trace.proofs.Back.{encoded, records_in-length, records_in-in, distance-fits}
use Rattle.recorder.specs.Words.{refusal_says, recorded, closed}
use Rattle.recorder.specs.Calls.{RecorderLeft, room_for, begin_rows, add_rows, close_rows, begin_verdict, add_verdict, close_verdict}
use Rattle.recorder.specs.Calls.{zero_recorder, begin_if, add_if, close_if, begin_after, add_after, close_after}
use Rattle.recorder.specs.Runs.{Tape, tape_of, after_adds, after_close, kept, Reads, value_of, AsOpened, records_of, shown, after_recording, calls_of}
use Rattle.recorder.specs.declared.Recorder.{Recorder}
use Rattle.recorder.proofs.Laws.{room-room_for, room-fewer}
use Rattle.recorder.proofs.Round.{Wrote, begin-wrote, adds-wrote, close-wrote, close-stays, closed-reads, kept-all, kept-front}
use Rattle.recorder.proofs.Replay.{replay, replay-served, replay-front, records-in, recording-adds, recorded-value}
use Rattle.claims.specs.World.{Exactly, opened, ClosesAs}
use Rattle.claims.proofs.Runs.{open-state, open-right, run-write-right}

-- ---- what a call of a recorder says, by its rows

module _ (rows : List Row) (after : Verdict → RecorderLeft) (says : (z : Refusal) → (after (Err z)).said ≡ refusal_says z)
    (serves : (z : Refusal) → (after (Ok tt)).said ≡ refusal_says z → ⊥) (y : Refusal) where
  says-refused : (after (first rows)).said ≡ refusal_says y → first rows ≡ Err y
  says-refused = go (first rows) refl
    where
      go : (v : Verdict) → first rows ≡ v → (after v).said ≡ refusal_says y → first rows ≡ Err y
      go (Err z) e k = e ∙ ap Err (said-one z (sym (says z) ∙ k))
        where
          said-one : (z : Refusal) → refusal_says z ≡ refusal_says y → z ≡ y
          said-one z d = refusal-one-to-one z y (cc)
      go (Ok _) e k = absurd (serves y k)

  pub says-exactly : Exactly ((after (first rows)).said ≡ refusal_says y) (GivenBy y rows)
  says-exactly =
      (λ k. first-given rows y (says-refused k), λ g. ap (λ (v : Verdict). (after v).said) (given-first rows y g) ∙ says y)

  pub says-leaves : (after (first rows)).said ≡ refusal_says y → after (first rows) ≡ after (Err y)
  says-leaves k = ap after (says-refused k)

said-apart : (y : Refusal) → recorded ≡ refusal_says y → ⊥
said-apart y e = let z : ◌≡◌ {A = ℕ} 0 1 = cc in omega arith

closed-apart : (n : ℕ) (y : Refusal) → closed n ≡ refusal_says y → ⊥
closed-apart n y e = let z : ◌≡◌ {A = ℕ} 0 1 = cc in omega arith

module _ (n : Numbers) (notes buffer : List ℕ) (y : Refusal) where
  abbrev begun : Verdict → RecorderLeft
  begun v = begin_if v n notes buffer

  pub begin-exactly : Exactly ((begin_after n notes buffer).said ≡ refusal_says y) (GivenBy y (begin_rows n (length notes) (length buffer)))
  unfolding begin_after begin_verdict
  begin-exactly = says-exactly (begin_rows n (length notes) (length buffer)) begun (λ z. refl) said-apart y

  pub begin-leaves : (begin_after n notes buffer).said ≡ refusal_says y
      → begin_after n notes buffer ≡ record { recorder = zero_recorder; said = refusal_says y; buffer = buffer }
  unfolding begin_after begin_verdict
  begin-leaves = says-leaves (begin_rows n (length notes) (length buffer)) begun (λ z. refl) said-apart y

module _ (x : Recorder) (buffer : List ℕ) (y : Refusal) where
  pub add-exactly : (r : Record) → Exactly ((add_after x r buffer).said ≡ refusal_says y) (GivenBy y (add_rows x r (length buffer)))
  unfolding add_after add_verdict
  add-exactly r = says-exactly (add_rows x r (length buffer)) (λ v. add_if v x r buffer) (λ z. refl) said-apart y

  pub add-leaves : (r : Record) → (add_after x r buffer).said ≡ refusal_says y
      → add_after x r buffer ≡ record { recorder = x; said = refusal_says y; buffer = buffer }
  unfolding add_after add_verdict
  add-leaves r = says-leaves (add_rows x r (length buffer)) (λ v. add_if v x r buffer) (λ z. refl) said-apart y

  pub close-exactly : Exactly ((close_after x buffer).said ≡ refusal_says y) (GivenBy y (close_rows x (length buffer)))
  unfolding close_after close_verdict
  close-exactly = says-exactly (close_rows x (length buffer)) (λ v. close_if v x buffer) (λ z. refl) (closed-apart _) y

  pub close-leaves : (close_after x buffer).said ≡ refusal_says y → close_after x buffer ≡ record { recorder = x; said = refusal_says y; buffer = buffer }
  unfolding close_after close_verdict
  close-leaves = says-leaves (close_rows x (length buffer)) (λ v. close_if v x buffer) (λ z. refl) (closed-apart _) y

-- the recorder of a refused `begin` is refused 1 by every call
pub zero-add : (r : Record) (m : ℕ) → add_verdict zero_recorder r m ≡ Err OutOfLimits
unfolding add_verdict in_limits on_drive
zero-add r m = refl

pub zero-close : (m : ℕ) → close_verdict zero_recorder m ≡ Err OutOfLimits
unfolding close_verdict in_limits on_drive
zero-close m = refl

-- ---- what is closed reads back

-- records that are offered to a trace that was begun, refused ones among them; the trace may have been closed before
module _ (n : Numbers) (notes buffer : List ℕ) (begun : begin_verdict n (length notes) (length buffer) ≡ Ok tt) (offered : List Record) where
  abbrev first-tape : Tape
  first-tape = tape_of (begin_after n notes buffer)

  wrote : Wrote n notes (kept first-tape offered) buffer (after_adds first-tape offered)
  wrote = adds-wrote (begin-wrote n notes buffer begun) offered

  abbrev trace : List ℕ
  trace = trace_bytes notes (kept first-tape offered) n

  pub adds-closed : ClosesAs (after_adds first-tape offered) trace buffer × Reads trace notes (kept first-tape offered) n
  adds-closed = (close-wrote wrote, closed-reads wrote)

  -- closed, and then more records over the trailer
  pub closed-again : (more : List Record)
      → let x = after_close (after_adds first-tape offered) in
      ClosesAs (after_adds x more) (trace_bytes notes (kept first-tape offered ++ kept x more) n) buffer
      × Reads (trace_bytes notes (kept first-tape offered ++ kept x more) n) notes (kept first-tape offered ++ kept x more) n
  closed-again more = let w = adds-wrote (close-stays wrote) more in (close-wrote w, closed-reads w)

-- ---- what the reader accepts is written back

module _ (s : List ℕ) (t : Trailer) (bytes : AllBelow 256 s) (fine : checked_of s ≡ Ok t) (buffer : List ℕ) (long : length s ≤ length buffer) where
  -- the notes, the records and the trailer are as long as the trace
  room : room_for (length (notes_in s t)) (length (records_in s t)) (length buffer) ≡ true
  room =
      let l = sym (trace_bytes-length (notes_in s t) (records_in s t) (numbers_in t)) ∙ ap length (encoded s t bytes fine) in
      let h = (fine-header s t fine).0 in
      let d = distance-fits s t bytes h in
      let k = records_in-length s t fine in
      room-room_for (length (notes_in s t)) (length (records_in s t)) (length buffer) (omega arith, omega (arith, (header-accepts s t h).whole))

  pub back-begins : begin_verdict (numbers_in t) (length (notes_in s t)) (length buffer) ≡ Ok tt
  unfolding begin_verdict
  back-begins =
      let none = room-fewer (length (notes_in s t)) 0 (length (records_in s t)) (length buffer) (omega arith) room in
      rw ((header-accepts s t (fine-header s t fine).0).numbers, none)

  pub back-closed : ClosesAs (after_adds (tape_of (begin_after (numbers_in t) (notes_in s t) buffer)) (records_in s t)) s buffer
  back-closed =
      let w = begin-wrote (numbers_in t) (notes_in s t) buffer back-begins in
      let all = kept-all w (records_in s t) (records_in-in s t fine) room in
      let v = rw all at (adds-wrote w (records_in s t)) in
      rw (encoded s t bytes fine) at (close-wrote v)

-- ---- a recorded run runs again

-- opening with the numbers that a pool holds opens the same pool
module _ (n : Numbers) (accepted : open_verdict n ≡ Ok tt) where
  meant-same : meant (meant n) ≡ meant n
  meant-same = on_drive-within usual_read usual_write (meant n) (open-limits n accepted)

  pub meant-opens : open_verdict (meant n) ≡ Ok tt
  unfolding open_verdict
  meant-opens = rw (meant-same, limits-in_limits (meant n) (open-limits n accepted))

  meant-pool : (open_after n).pool ≡ (open_after (meant n)).pool
  unfolding open_after
  meant-pool = rw (accepted, meant-opens, meant-same)

  pub drive-same : recorded_on (meant n) ≡ meant n
  drive-same = on_drive-within recorded_read recorded_write (meant n) (open-limits n accepted)

  pub pool-numbers : pool_numbers (open_after n).pool ≡ meant n
  pool-numbers = ap (λ (s : State). s.numbers) (open-state n accepted [] [])

  module _ (frames store : List ℕ) (cs : List Call) where
    abbrev records : List Record
    records = gathered pools (records_of pools) (opened n frames store) cs

    module _ (unreported : AsOpened cs) (frames' store' out : List ℕ) (framed : length frames' ≡ (meant n).b * (meant n).P)
        (stored : length store' ≡ (meant n).N * (meant n).P)
        (fit : length out ≡ (meant n).P) where
      abbrev fresh : World Pool
      fresh = opened (meant n) frames' store'

      fresh-right : Right pools pools-lawful fresh (λ p. page_of (meant (meant n)).P p store')
      fresh-right = open-right (meant n) meant-opens frames' store' (rw meant-same framed) (rw meant-same stored)

      fresh-fits : length out ≡ fresh.state.numbers.page_bytes
      fresh-fits = fit ∙ sym (ap (λ (m : Numbers). m.P) meant-same) ∙ sym (ap (λ (s : State). s.numbers.P) (open-state (meant n) meant-opens frames' store'))

      pub run-again : gathered pools (shown pools) (opened n frames store) cs ≡ gathered pools (shown pools) fresh (calls_of out records)
      run-again = replay pools pools-lawful cs unreported (opened n frames store) fresh meant-pool _ fresh-right out fresh-fits

      pub run-again-front : (k : ℕ)
          → gathered pools (shown pools) fresh (calls_of out (take k records)) ≡ take k (gathered pools (shown pools) (opened n frames store) cs)
      run-again-front = replay-front pools pools-lawful cs unreported (opened n frames store) fresh meant-pool _ fresh-right out fresh-fits

      pub run-again-served : length (gathered pools (shown pools) fresh (calls_of out records)) ≡ length records
      run-again-served = replay-served pools pools-lawful cs unreported (opened n frames store) fresh meant-pool _ fresh-right out fresh-fits

    -- the reader would accept them all
    records-right : RecordsIn (meant n).N records
    unfolding pools-lawful pools-framed framed-lawful framed-pooled
    records-right =
        subst (λ (s : State). RecordsIn s.numbers.N records) (open-state n accepted frames store)
        (records-in pools pools-lawful cs (opened n frames store) (open-sound n accepted))

    -- ---- recorded from opening, with the numbers that the pool holds, in a buffer with room for all records

    module _ (notes buffer : List ℕ) (space : room_for (length notes) (length records) (length buffer) ≡ true) where
      pub run-begins : begin_verdict (meant n) (length notes) (length buffer) ≡ Ok tt
      unfolding begin_verdict
      run-begins =
          rw (drive-same, limits-in_limits (meant n) (open-limits n accepted), room-fewer (length notes) 0 (length records) (length buffer) (omega arith) space)

      abbrev begun-tape : Tape
      begun-tape = tape_of (begin_after (meant n) notes buffer)

      run-kept : kept begun-tape records ≡ records
      run-kept = kept-all (begin-wrote (meant n) notes buffer run-begins) records records-right space

      pub run-closed : let x = after_recording pools (opened n frames store) cs begun-tape in
          let s = trace_bytes notes records (meant n) in
          ClosesAs x s buffer × Reads s notes records (meant n)
      run-closed =
          let w = rw run-kept at (adds-wrote (begin-wrote (meant n) notes buffer run-begins) records) in
          rw (recording-adds pools (opened n frames store) cs begun-tape) (close-wrote w, closed-reads w)

    -- ---- in any buffer that the trace could be begun in: the records that found room are a front of them all, and that runs again

    module _ (notes buffer : List ℕ) (begins : begin_verdict (meant n) (length notes) (length buffer) ≡ Ok tt) where
      front : (k : ℕ) × (kept (tape_of (begin_after (meant n) notes buffer)) records ≡ take k records)
      front = kept-front (begin-wrote (meant n) notes buffer begins) records records-right

      pub front-closed : (k : ℕ)
          × (let x = after_recording pools (opened n frames store) cs (tape_of (begin_after (meant n) notes buffer)) in
          let s = trace_bytes notes (take k records) (meant n) in
          ClosesAs x s buffer × Reads s notes (take k records) (meant n))
      front-closed =
          let w = rw front.1 at (adds-wrote (begin-wrote (meant n) notes buffer begins) records) in
          (front.0, rw (recording-adds pools (opened n frames store) cs (tape_of (begin_after (meant n) notes buffer))) (close-wrote w, closed-reads w))

-- ---- the value of a recorded write

module _ (n : Numbers) (accepted : open_verdict n ≡ Ok tt) (frames store : List ℕ) (cs : List Call) (t : Times) (q start : ℕ) (bytes : List ℕ) where
  abbrev before : World Pool
  before = after_all pools (opened n frames store) cs

  abbrev told : History
  told = history pools (opened n frames store) cs (λ p. page_of (meant n).P p store)

  -- byte 0 of the page as all served writes left it, this one the last
  pub value-last : verdict_of pools before (write t q start bytes) ≡ Ok tt → value_of pools before t q start bytes ≡ get_or (laid q start bytes told q) 0 0
  value-last e = recorded-value pools pools-lawful before told (run-write-right n accepted frames store cs t q start bytes e) t q start bytes e
