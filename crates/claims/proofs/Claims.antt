-- The three demands, as theorems about the public calls; each proof is a citation. What a call leaves of a pool and of the bytes lent to it, `left pools`, is
-- what its promise states, whole (`casa`'s specs/Calls.antt, `model`'s specs/Run.antt); the other words stand in specs/World.antt here and in `model`'s specs.
--
-- Where the hypotheses come from: `open_verdict n ≡ Ok tt` says that the open was accepted; `verdict_of .. ≡ Ok tt` that this very call is served; that the
-- page is in no frame says that the call is a fault; that no frame is empty and that the clean list is further from the exact target are the third demand's own
-- "whenever"; that a frame has the page is a drop's "if it was resident". Nothing is asked of a pool that was opened and used through its calls: `used-sound`
-- gives it.
--
-- Of times: `kept_fits k ≡ true` and `both_full k ≡ false` say that kept numbers are not refused, and not of two full windows; `start_verdict .. ≡ Ok tt` that
-- the windows were started; that times are at most `most_time` is that they have 16 bits; `AsOpened` that no call of a recorded run was served with two full
-- windows.
--
-- Then the writer of trace files. `begin_verdict .. ≡ Ok tt` says that the trace was begun; `AllBelow 256` that a file is bytes; `room_for .. ≡ true` that
-- there was room for all records; the lengths that memory lent to a run of the trace is of the right sizes. Assumes nothing.
use Rattle.std.specs.Prelude.{None, Ok, Err}
use mathlib.Core.Path.{◌≡◌, refl, ap, ◌∙◌}
use mathlib.Core.Bool.{true, false, not, cond as if-else}
use mathlib.Core.List.{List, [], ◌∷◌, ◌++◌}
use Prim.Native.Nat.{ℕ, ◌*◌, ◌≤◌, ◌<◌}
use lib.Dec.{eqb}
use lib.ListN.{length, get_or, take, replicate}
use Rattle.little.specs.Little.{AllBelow}
use Rattle.pages.specs.Pages.{page_of}
use Rattle.model.specs.Numbers.{Numbers, Limits, meant}
use Rattle.model.specs.Words.{opened as said_opened, refusal_says}
use Rattle.model.specs.State.{opened as opened_state, page_in, number_in, resident}
use Rattle.model.specs.References.{last_reference}
use Rattle.model.specs.Target.{Adjustment, Exact, exact_zero, exact_all, Near, Bounded, FurtherThan, above_exact}
use Rattle.model.specs.Times.{Times, unmeasured, measured, most_time, length_fits, kept_fits, times_fit, both_full, fresh_kept}
use Rattle.model.specs.Refusals.{open_verdict, GivenBy, here}
use Rattle.model.specs.Request.{locate}
use Rattle.model.specs.Moves.{laid}
use Rattle.model.specs.Run.{Call, read, write, drop, output_of, times_of, World, further_rows, verdict_of, costs_in, left, after, after_all, history, gathered}
use Rattle.model.specs.Table.{worked, expected}
use Rattle.model.specs.declared.Refusal.{Refusal}
use Rattle.model.specs.declared.Refusal.TheVariants.{BrokenPool, OutOfLimits, ZeroTime, BrokenWindows}
use Rattle.model.specs.declared.Kept.{Kept}
use Rattle.model.proofs.Times.{unfilled-opened, fresh-kept, read-opened, write-opened}
use Rattle.model.proofs.Table as proved
use Rattle.pool.specs.Pool.{pool_of, numbers_in as pool_numbers, state_of, Sound}
use Rattle.pool.specs.declared.Pool.{Pool}
use Rattle.casa.specs.Calls.{pools, OpenLeft, zero_pool, open_after}
use Rattle.casa.proofs.Lawful.{open-sound}
use Rattle.trace.specs.Format.{numbers_in, recorded_on, header_of, record_in, start_of, record_at, checked_of, notes_in, records_in, place_after_moves}
use Rattle.trace.specs.Encode.{trace_bytes}
use Rattle.trace.specs.declared.Trailer.{Trailer}
use Rattle.trace.specs.declared.Record.{Record}
use Rattle.trace.proofs.Reading.{refused-none, record_at-in, refused-yields-none}
use Rattle.recorder.specs.Words.{refusal_says as recorder_says}
use Rattle.recorder.specs.Calls.{zero_recorder, room_for, begin_rows, add_rows, close_rows, begin_verdict, add_verdict, close_verdict, begin_after, add_after}
use Rattle.recorder.specs.Calls.{close_after}
use Rattle.recorder.specs.Runs.{Tape, tape_of, after_adds, after_close, kept, Reads, value_of, records_of, shown, after_recording, calls_of, AsOpened}
use Rattle.recorder.specs.declared.Recorder.{Recorder}
use Rattle.times.specs.Reports.{Windows, windows, Report, time_in, Reported, windows_right, report_rows, report_verdict, report_after, start_rows}
use Rattle.times.specs.Reports.{start_verdict, zero_kept, start_after}
use Rattle.times.specs.Reports.{after_reports, read_times, write_times, HasLast}
use Rattle.times.proofs.Right.{report-right}
use Rattle.times.proofs.Last.{reports-last, used-verdict, used-fits}
use Rattle.times.proofs.Reporting.{report-given, given-report, report-leaves, start-given, given-start, start-leaves, zero-unfit, zero-refused}
use Rattle.claims.specs.World.{Exactly, Broken, Says, TraceSays, opened, ClosesAs, Followed, adjusting, LatestFirst, Asks, Took, last_said, header_rows}
use Rattle.claims.specs.World.{check_rows}
use Rattle.claims.proofs.Opening as opening
use Rattle.claims.proofs.Traces as traces
use Rattle.claims.proofs.Refused as refusing
use Rattle.claims.proofs.Recorded as recording
use Rattle.claims.proofs.Runs.{run-sound, run-read, call-follows}
use Rattle.claims.proofs.Drops.{run-cut, drop-last, last-taken}
use Rattle.claims.proofs.Drift.{run-near, run-bounded, victim-said}
use Rattle.claims.proofs.References.{run-tracked, run-ordered}

-- ---- demand 1: on any pool and any bytes, a call says a refusal exactly when the scope's condition is the first that holds, and then it changes nothing

module _ (x : World Pool) (c : Call) where
  -- 2 exactly when the pool is broken
  pub demand-1-broken : Exactly (Says x c BrokenPool) (Broken x.state)
  demand-1-broken = (refusing.broken-says x c, refusing.says-broken x c)

  -- any other number exactly when its row is the first that holds behind 2
  pub demand-1 : Sound x.state → (y : Refusal) → Exactly (Says x c y) (GivenBy y (further_rows pools x c))
  demand-1 s y = (refusing.says-given x c s y, refusing.given-says x c s y)

  -- a call that says a refusal returns the pool that it was given, and changes no byte of frames, store or output
  pub demand-1-leaves : (y : Refusal) → Says x c y
      → ((left pools x c).state ≡ x.state) × ((left pools x c).memory ≡ x.memory) × ((left pools x c).out ≡ output_of c)
  demand-1-leaves = refusing.says-leaves x c

-- opening says 1 exactly when a number is out of its limits; it returns the pool of all zeros then, and that is broken
module _ (n : Numbers) where
  pub demand-1-open : Exactly ((open_after n).said ≡ refusal_says OutOfLimits) (Limits (meant n) → ⊥)
  demand-1-open = (opening.open-says n, λ out. ap (λ (l : OpenLeft). l.said) (opening.open-refused n out))

  pub demand-1-open-leaves : (Limits (meant n) → ⊥) → (open_after n).pool ≡ zero_pool
  demand-1-open-leaves out = ap (λ (l : OpenLeft). l.pool) (opening.open-refused n out)

pub demand-1-zero : Broken zero_pool
demand-1-zero = opening.zero-broken

-- traces: the trailer is refused 7 or 1, the whole trace 7, 1 or 8, by the first row that holds
module _ (s : List ℕ) (y : Refusal) where
  pub demand-1-header : Exactly (TraceSays (header_of s) y) (GivenBy y (header_rows s))
  demand-1-header = traces.header-exactly s y

  pub demand-1-check : Exactly (TraceSays (checked_of s) y) (GivenBy y (check_rows s))
  demand-1-check = traces.check-exactly s y

  -- a reader over bytes that 7 or 1 refuses finds no record at any place
  pub demand-1-by-hand : header_of s ≡ Err y → (place : ℕ) → record_at s place ≡ None
  demand-1-by-hand = refused-none s y

  -- one that the library made of a refused trace finds none however often it is moved
  pub demand-1-reader : checked_of s ≡ Err y → (moves : ℕ) → record_at s (place_after_moves s moves) ≡ None
  demand-1-reader = refused-yields-none s y

-- over other bytes a reader finds at each place the record that its four bytes spell, and none where 8 refuses it
pub demand-1-record : (s : List ℕ) (t : Trailer) → header_of s ≡ Ok t → (place : ℕ) → place < t.records
    → record_at s place ≡ record_in s (start_of s t place) t.numbers.pages
demand-1-record = record_at-in

-- a trace that is not refused opens a pool with the numbers on which it was recorded: of costs 0, 0 those of the stored files, not the usual drive's
pub trace-opens : (s : List ℕ) (t : Trailer) → header_of s ≡ Ok t
    → open_after (recorded_on (numbers_in t)) ≡ record { pool = pool_of (opened_state (recorded_on (numbers_in t))); said = said_opened }
trace-opens = traces.header-opens

-- ---- a pool that was opened and used only through its calls, refused ones among them

module _ (n : Numbers) (accepted : open_verdict n ≡ Ok tt) (frames store : List ℕ) (cs : List Call) where
  abbrev pub used : World Pool
  used = after_all pools (opened n frames store) cs

  -- it is never broken
  pub used-sound : Sound used.state
  used-sound = run-sound cs (opened n frames store) (open-sound n accepted)

  -- ---- demand 2: a call that is served leaves the state, the answer and the bytes of Algorithm 1 on the state before it, with the costs in force,
  -- whatever kept numbers it takes

  pub demand-2-follows : (c : Call) → verdict_of pools used c ≡ Ok tt → Followed (costs_in pools used (times_of c)) (state_of used.state) used.memory c
      (left pools used c)
  demand-2-follows = call-follows used used-sound

  -- and a read that is served returns the page as the store first had it with all served writes laid over it in order, a drop being a write of P zeros
  pub demand-2 : (t : Times) (page : ℕ) (out : List ℕ) → verdict_of pools used (read t page out) ≡ Ok tt
      → (left pools used (read t page out)).out ≡ history pools (opened n frames store) cs (λ p. page_of (meant n).P p store) page
  demand-2 = run-read n accepted frames store cs

  -- so a page that is read next behind its drop is zeros
  pub demand-2-cut : (t : Times) (page : ℕ) (out : List ℕ) → verdict_of pools used (drop page) ≡ Ok tt
      → verdict_of pools (after pools used (drop page)) (read t page out) ≡ Ok tt → (left pools (after pools used (drop page)) (read t page out)).out ≡
      replicate (meant n).P 0
  demand-2-cut = run-cut n accepted frames store cs

  -- "its frame leaves C or D and becomes the tail of E"
  pub drop-tail : (page f : ℕ) → 1 ≤ resident (state_of used.state).lists f → page_in (state_of used.state) f ≡ page
      → verdict_of pools used (drop page) ≡ Ok tt → (state_of (after pools used (drop page)).state).lists.E ≡ (state_of used.state).lists.E ++ (f ∷ [])
  drop-tail = drop-last used used-sound

  -- "so the next fault uses it": a fault takes the tail of E, for no victim, and leaves the others, so of two drops the frame of the later one is used first
  pub tail-taken : (f : ℕ) (E : List ℕ) → (state_of used.state).lists.E ≡ E ++ (f ∷ []) → (page : ℕ) → locate (state_of used.state) page ≡ None
      → (c : Call) → Asks page c → verdict_of pools used c ≡ Ok tt → Took page f E (left pools used c)
  tail-taken = last-taken used used-sound

  -- ---- either list is ordered by last reference, as the paper's section 4.1 wants it

  abbrev pub last_referenced : ℕ → ℕ
  last_referenced = last_reference pools (opened n frames store) cs

  -- the number of a resident frame is that of the served call that last read or wrote its page
  pub last-reference : (f : ℕ) → 1 ≤ resident (state_of used.state).lists f
      → number_in (state_of used.state) f ≡ last_referenced (page_in (state_of used.state) f)
  last-reference = run-tracked n accepted frames store cs

  -- and down C and down D each page was read or written before the one in front of it
  pub latest-first : LatestFirst last_referenced (state_of used.state) (state_of used.state).lists.C
      × LatestFirst last_referenced (state_of used.state) (state_of used.state).lists.D
  latest-first = run-ordered n accepted frames store cs

  -- ---- demand 3: after k adjustments "twice the gap is at most k units", that between the target and the exact target, which is held between 0 and b

  abbrev pub made : List Adjustment
  made = gathered pools adjusting (opened n frames store) cs

  abbrev pub exact : Exact
  exact = exact_all (meant n).b exact_zero made

  pub demand-3 : Near (length made) used.state.target exact
  demand-3 = run-near n accepted frames store cs

  pub demand-3-bounded : Bounded (meant n).b exact
  demand-3-bounded = run-bounded n accepted frames store cs

  -- a full pool whose clean list is further than that from the exact target says, at a fault, the page at the end of the list that the exact target picks
  pub demand-3-victim : length (state_of used.state).lists.E ≡ 0 → FurtherThan (length made) (length (state_of used.state).lists.C) exact
      → (page : ℕ) → locate (state_of used.state) page ≡ None → (c : Call) → Asks page c → verdict_of pools used c ≡ Ok tt
      → (left pools used c).said ≡ last_said (state_of used.state) (above_exact (length (state_of used.state).lists.C) exact)
  demand-3-victim = victim-said used used-sound (length made) exact demand-3

-- ---- times measured on the drive: a call that takes kept numbers, and does not refuse them, is the call without them until both windows are full

module _ (x : World Pool) (k : Kept) (fits : kept_fits k ≡ true) (unfilled : both_full k ≡ false) where
  pub unfilled-read : (page : ℕ) (out : List ℕ) → left pools x (read (measured k) page out) ≡ left pools x (read unmeasured page out)
  unfilled-read = read-opened pools x (measured k) fits (unfilled-opened k unfilled)

  pub unfilled-write : (page start : ℕ) (bytes : List ℕ) → left pools x (write (measured k) page start bytes) ≡ left pools x (write unmeasured page start bytes)
  unfilled-write = write-opened pools x (measured k) fits (unfilled-opened k unfilled)

-- which is so with nothing measured yet
pub fresh-unfilled : (n : ℕ) → length_fits n ≡ true → (kept_fits (fresh_kept n) ≡ true) × (both_full (fresh_kept n) ≡ false)
fresh-unfilled = fresh-kept

-- on any kept numbers and any windows a report says a refusal exactly when its row is the first that holds, and then it changes nothing
module _ (x : Windows) (r : Report) (y : Refusal) where
  pub demand-1-report : Exactly ((report_after x r).said ≡ refusal_says y) (GivenBy y (report_rows x r))
  demand-1-report = (report-given x r y, given-report x r y)

  pub demand-1-report-leaves : (report_after x r).said ≡ refusal_says y → (report_after x r).windows ≡ x
  demand-1-report-leaves e = ap (λ (l : Reported). l.windows) (report-leaves x r y e)

-- so does the start of two windows; refused, it returns kept numbers of all zeros, and changes no place
module _ (n : ℕ) (reads writes : List ℕ) (y : Refusal) where
  pub demand-1-start : Exactly ((start_after n reads writes).said ≡ refusal_says y) (GivenBy y (start_rows n (length reads) (length writes)))
  demand-1-start = (start-given n reads writes y, given-start n reads writes y)

  pub demand-1-start-leaves : (start_after n reads writes).said ≡ refusal_says y → (start_after n reads writes).windows ≡ windows zero_kept reads writes
  demand-1-start-leaves e = ap (λ (l : Reported). l.windows) (start-leaves n reads writes y e)

-- which every report refuses, and on a sound pool every read and every write
pub demand-1-zero-kept : ((reads writes : List ℕ) (r : Report) → (report_after (windows zero_kept reads writes) r).said ≡ refusal_says BrokenWindows)
    × ((x : World Pool) → Sound x.state → (page : ℕ) (out : List ℕ) → Says x (read (measured zero_kept) page out) BrokenWindows)
    × ((x : World Pool) → Sound x.state → (page start : ℕ) (bytes : List ℕ) → Says x (write (measured zero_kept) page start bytes) BrokenWindows)
demand-1-zero-kept = (
  (λ reads writes r. ap (λ (l : Reported). l.said) (zero-refused reads writes r)),
  (λ x s page out. refusing.given-says x (read (measured zero_kept) page out) s BrokenWindows (here (ap not zero-unfit) refl)),
  (λ x s page start bytes. refusing.given-says x (write (measured zero_kept) page start bytes) s BrokenWindows (here (ap not zero-unfit) refl)),
)

-- "The kept sum always equals the window's sum": on windows of which the kept numbers are true a report leaves such again, wherever they come from
pub reported-right : (x : Windows) (r : Report) → windows_right x ≡ true → windows_right (report_after x r).windows ≡ true
reported-right = report-right

-- from the start of two windows, after any reports, refused ones among them
module _ (n : ℕ) (reads writes : List ℕ) (started : start_verdict n (length reads) (length writes) ≡ Ok tt) (rs : List Report) where
  abbrev pub reported : Windows
  reported = after_reports (start_after n reads writes).windows rs

  -- "keeps the last n times of physical reads and as many of writes", and the kept numbers are those of the windows
  pub last-times : (reported.kept.n ≡ n)
      × HasLast n (read_times rs) reported.kept.reads reported.reads
      × HasLast n (write_times rs) reported.kept.writes reported.writes
  last-times = reports-last n reads writes started rs

  -- so a report on them is refused for a time of 0 alone
  pub reported-again : (r : Report) → report_verdict reported r ≡ if-else (eqb (time_in r) 0) (Err ZeroTime) (Ok tt)
  reported-again = used-verdict n reads writes started rs

  -- and no serving call that takes their kept numbers says 13, since a time has 16 bits
  pub reported-serves : ((i : ℕ) → get_or (read_times rs) i 0 ≤ most_time) → ((i : ℕ) → get_or (write_times rs) i 0 ≤ most_time)
      → (x : World Pool) (c : Call) → times_of c ≡ measured reported.kept → Says x c BrokenWindows → ⊥
  reported-serves r w x c e = refusing.fits-says x c (ap times_fit e ∙ used-fits n reads writes started rs r w)

-- ---- the writer of trace files: on any recorder and any buffer its calls say a refusal exactly when its row is the first that holds, and then both stay

module _ (n : Numbers) (notes buffer : List ℕ) (y : Refusal) where
  pub demand-1-begin : Exactly ((begin_after n notes buffer).said ≡ recorder_says y) (GivenBy y (begin_rows n (length notes) (length buffer)))
  demand-1-begin = recording.begin-exactly n notes buffer y

  -- there is no recorder yet: the one of all zeros is returned
  pub demand-1-begin-leaves : (begin_after n notes buffer).said ≡ recorder_says y
      → begin_after n notes buffer ≡ record { recorder = zero_recorder; said = recorder_says y; buffer = buffer }
  demand-1-begin-leaves = recording.begin-leaves n notes buffer y

module _ (x : Recorder) (buffer : List ℕ) (y : Refusal) where
  pub demand-1-add : (r : Record) → Exactly ((add_after x r buffer).said ≡ recorder_says y) (GivenBy y (add_rows x r (length buffer)))
  demand-1-add = recording.add-exactly x buffer y

  pub demand-1-add-leaves : (r : Record) → (add_after x r buffer).said ≡ recorder_says y
      → add_after x r buffer ≡ record { recorder = x; said = recorder_says y; buffer = buffer }
  demand-1-add-leaves = recording.add-leaves x buffer y

  pub demand-1-close : Exactly ((close_after x buffer).said ≡ recorder_says y) (GivenBy y (close_rows x (length buffer)))
  demand-1-close = recording.close-exactly x buffer y

  pub demand-1-close-leaves : (close_after x buffer).said ≡ recorder_says y → close_after x buffer ≡ record {
    recorder = x;
    said = recorder_says y;
    buffer = buffer;
  }
  demand-1-close-leaves = recording.close-leaves x buffer y

-- and that of all zeros is refused 1
pub demand-1-zero-recorder : (r : Record) (m : ℕ)
    → (add_verdict zero_recorder r m ≡ Err OutOfLimits) × (close_verdict zero_recorder m ≡ Err OutOfLimits)
demand-1-zero-recorder r m = (recording.zero-add r m, recording.zero-close m)

-- "What is closed, untouched by others, is read back as the same records": whatever records were offered since `begin`, refused ones among them, closing is
-- not refused; the buffer begins with the trace of those that were kept, which the reader accepts and reads as these records, the notes and the numbers as
-- given, and every byte behind it is as it was
module _ (n : Numbers) (notes buffer : List ℕ) (begun : begin_verdict n (length notes) (length buffer) ≡ Ok tt) (offered : List Record) where
  abbrev pub begun-with : Tape
  begun-with = tape_of (begin_after n notes buffer)

  pub recorded-closes : let x = after_adds begun-with offered in
      let rs = kept begun-with offered in
      let s = trace_bytes notes rs n in
      ClosesAs x s buffer
      × Reads s notes rs n
  recorded-closes = recording.adds-closed n notes buffer begun offered

  -- it may go on after that: further records go over the trailer, and it is closed again
  pub recorded-closes-again : (more : List Record)
      → let z = after_close (after_adds begun-with offered) in
      let x = after_adds z more in
      let rs = kept begun-with offered ++ kept z more in
      let s = trace_bytes notes rs n in
      ClosesAs x s buffer
      × Reads s notes rs n
  recorded-closes-again = recording.closed-again n notes buffer begun offered

-- "what the reader accepts is written back as the same bytes, notes included, with costs as the file gave them"
module _ (s : List ℕ) (t : Trailer) (bytes : AllBelow 256 s) (fine : checked_of s ≡ Ok t) (buffer : List ℕ) (long : length s ≤ length buffer) where
  pub written-back : let x = after_adds (tape_of (begin_after (numbers_in t) (notes_in s t) buffer)) (records_in s t) in
      (begin_verdict (numbers_in t) (length (notes_in s t)) (length buffer) ≡ Ok tt)
      × ClosesAs x s buffer
  written-back = (recording.back-begins s t bytes fine buffer long, recording.back-closed s t bytes fine buffer long)

-- "If recording began at opening, with the numbers the pool holds, a run of the trace gives the same hits, victims, lists, target and counts": any calls
-- from an accepted open, refused ones among them
module _ (n : Numbers) (accepted : open_verdict n ≡ Ok tt) (frames store : List ℕ) (cs : List Call) where
  abbrev pub recorded-in : List Record
  recorded-in = gathered pools (records_of pools) (opened n frames store) cs

  -- the numbers that the pool holds are those it was opened with, as open means them; a file with these was recorded on just these
  pub recorded-numbers : (pool_numbers (open_after n).pool ≡ meant n) × (recorded_on (meant n) ≡ meant n)
  recorded-numbers = (recording.pool-numbers n accepted, recording.drive-same n accepted)

  -- recorded as they are served, in a buffer with room for them, they are the records of the closed trace
  pub recorded-run : (notes buffer : List ℕ) → room_for (length notes) (length recorded-in) (length buffer) ≡ true
      → let x = after_recording pools (opened n frames store) cs (tape_of (begin_after (meant n) notes buffer)) in
      let s = trace_bytes notes recorded-in (meant n) in
      ClosesAs x s buffer
      × Reads s notes recorded-in (meant n)
  recorded-run = recording.run-closed n accepted frames store cs

  -- and where no call was given kept numbers of two full windows ("CR 2's rerun holds only without reports"), a run of these on any frames and store of the
  -- right sizes, from an open with those numbers, shows at each record what the call showed: what it says, and the pool that it leaves; none of them is refused
  pub replayed : AsOpened cs → (frames' store' out : List ℕ) → length frames' ≡ (meant n).b * (meant n).P → length store' ≡ (meant n).N * (meant n).P
      → length out ≡ (meant n).P
      → (open_verdict (meant n) ≡ Ok tt)
      × (gathered pools (shown pools) (opened n frames store) cs ≡ gathered pools (shown pools) (opened (meant n) frames' store') (calls_of out recorded-in))
      × (length (gathered pools (shown pools) (opened (meant n) frames' store') (calls_of out recorded-in)) ≡ length recorded-in)
  replayed u frames' store' out f s o = (
    recording.meant-opens n accepted,
    recording.run-again n accepted frames store cs u frames' store' out f s o,
    recording.run-again-served n accepted frames store cs u frames' store' out f s o,
  )

  -- in a buffer that fills, the records that found room are the first of them, and a run of these shows the first of what the calls showed
  pub recorded-front : (notes buffer : List ℕ) → begin_verdict (meant n) (length notes) (length buffer) ≡ Ok tt
      → (k : ℕ)
      × (let x = after_recording pools (opened n frames store) cs (tape_of (begin_after (meant n) notes buffer)) in
      let s = trace_bytes notes (take k recorded-in) (meant n) in
      ClosesAs x s buffer × Reads s notes (take k recorded-in) (meant n))
  recorded-front = recording.front-closed n accepted frames store cs

  pub replayed-front : AsOpened cs → (frames' store' out : List ℕ) → length frames' ≡ (meant n).b * (meant n).P → length store' ≡ (meant n).N * (meant n).P
      → length out ≡ (meant n).P → (k : ℕ)
      → gathered pools (shown pools) (opened (meant n) frames' store') (calls_of out (take k recorded-in))
      ≡ take k (gathered pools (shown pools) (opened n frames store) cs)
  replayed-front = recording.run-again-front n accepted frames store cs

  -- "For a write the record's value is byte 0 of the page after the call", as all served writes left it
  pub recorded-byte : (t : Times) (page start : ℕ) (bytes : List ℕ) → verdict_of pools (after_all pools (opened n frames store) cs)
      (write t page start bytes) ≡ Ok tt
      → value_of pools (after_all pools (opened n frames store) cs) t page start bytes
      ≡ get_or (laid page start bytes (history pools (opened n frames store) cs (λ p. page_of (meant n).P p store)) page) 0 0
  recorded-byte = recording.value-last n accepted frames store cs

-- ---- the listing and P1 to P9

pub table : worked ≡ expected
table = proved.table
