-- What the demands speak of, beside the calls: what is said, the world after an accepted open, what Algorithm 1 makes of a call, the adjustments of a run,
-- lists by last reference, the frame that a fault took, the pages at the ends of the lists, and the rows of a trace.
-- Assumes nothing.
use Rattle.std.specs.Prelude.{◌≡◌, Bool, List, [], ◌∷◌, ◌++◌, ℕ, ◌-◌, ◌≤◌, ◌<◌, ltb, length, get_or, drop, is_some, unwrap_or}
use Rattle.pages.specs.Pages.{page_of}
use Rattle.model.specs.Numbers.{Numbers}
use Rattle.model.specs.Words.{Said, flushed as said_flushed, fault as said_fault, dropped as said_dropped, total as said_total, number_of, named_by}
use Rattle.model.specs.Words.{refusal_says, answer_says, fault_says}
use Rattle.model.specs.Target.{Costs, Adjustment}
use Rattle.model.specs.Times.{Times}
use Rattle.model.specs.Counts.{total_cost}
use Rattle.model.specs.State.{State, page_in, resident}
use Rattle.model.specs.Request.{victim_by, taken, request, flushed, dropped, adjustments_of}
use Rattle.model.specs.Refusals.{Row}
use Rattle.model.specs.Bytes.{Memory, brought, overlaid, flushed_bytes, wiped}
use Rattle.model.specs.Run.{Call, read, write, flush, drop as drop_page, total, World, Left, costs_in, left}
use Rattle.model.specs.declared.Op.{Op}
use Rattle.model.specs.declared.Op.TheVariants.{Read, Write}
use Rattle.model.specs.declared.Refusal.{Refusal}
use Rattle.model.specs.declared.Refusal.TheVariants.{NotATrace, BadRecord}
use Rattle.pool.specs.Pool.{state_of, Sound}
use Rattle.pool.specs.declared.Pool.{Pool}
use Rattle.casa.specs.Calls.{pools, open_after, world_of}
use Rattle.trace.specs.Format.{Checked, trailer_length, trailer_at, trailer_rows, bad_in}
use Rattle.trace.specs.Words.{checked_says, refused}
use Rattle.trace.specs.declared.Trailer.{Trailer}
use Rattle.recorder.specs.Words.{closed}
use Rattle.recorder.specs.Calls.{close_after}
use Rattle.recorder.specs.Runs.{Tape}

-- the one holds exactly when the other does
abbrev pub Exactly : Type 0 → Type 0 → Type 0
Exactly A B = (A → B) × (B → A)

-- "Any other pool is broken."
abbrev pub Broken : Pool → Type 0
Broken p = Sound p → ⊥

-- a call says refusal y; a trailer, or a trace, is said to be refused y
abbrev pub Says : World Pool → Call → Refusal → Type 0
Says x c y = (left pools x c).said ≡ refusal_says y

abbrev pub TraceSays : Checked → Refusal → Type 0
TraceSays a y = checked_says a ≡ refused (number_of y) (named_by y)

-- the world after `casa::open`, with the bytes that the caller will lend
abbrev pub opened : Numbers → List ℕ → List ℕ → World Pool
opened n frames store = world_of (open_after n).pool frames store

-- closing a recorder leaves the trace s at the front of a buffer that first was b₀, and every byte behind it, and says how long the trace is
abbrev pub ClosesAs : Tape → List ℕ → List ℕ → Type 0
ClosesAs x s b₀ = close_after x.recorder x.buffer ≡ record { recorder = x.recorder; said = closed (length s); buffer = s ++ drop (length s) b₀ }

-- ---- a call that is served, of a pool that holds state s, over bytes m, leaves l as Algorithm 1 does: the pool's state, what is said, and, by the frame,
-- the bytes

abbrev pub Requested : Op → Costs → State → ℕ → Left Pool → Type 0
Requested op k s q l = (state_of l.state ≡ (request op k s q).state) × (l.said ≡ answer_says (request op k s q).answer)

abbrev pub Followed : Costs → State → Memory → Call → Left Pool → Type 0
Followed k s m (read t q out) l =
    Requested Read k s q l
    × (l.memory ≡ brought s.numbers.P (request Read k s q).frame q (request Read k s q).answer m)
    × (l.out ≡ page_of s.numbers.P (request Read k s q).frame l.memory.frames)
Followed k s m (write t q start bytes) l =
    Requested Write k s q l
    × (l.memory
    ≡ overlaid s.numbers.P (request Write k s q).frame start bytes
    (brought s.numbers.P (request Write k s q).frame q (request Write k s q).answer m))
Followed k s m flush l =
    (state_of l.state ≡ flushed s)
    × (l.said ≡ said_flushed (length s.lists.D))
    × (l.memory ≡ flushed_bytes s.numbers.P s.page s.lists.D m)
Followed k s m (drop_page q) l = (state_of l.state ≡ dropped s q) × (l.said ≡ said_dropped) × (l.memory ≡ wiped s.numbers.P q m)
Followed k s m total l = (state_of l.state ≡ s) × (l.said ≡ said_total (total_cost s.numbers s.counts)) × (l.memory ≡ m)

-- ---- the adjustments of the target that a call makes, with the costs in force and the list sizes that the pool has then

abbrev pub adjusting : World Pool → Call → List Adjustment
adjusting x (read t q out) = adjustments_of Read (costs_in pools x t) (state_of x.state) q
adjusting x (write t q start bytes) = adjustments_of Write (costs_in pools x t) (state_of x.state) q
adjusting x flush = []
adjusting x (drop_page q) = []
adjusting x total = []

-- ---- the pages of a list of frames, latest reference first, by what `last` says of each page

abbrev pub LatestFirst : (ℕ → ℕ) → State → List ℕ → Type 0
LatestFirst last s fs = (i j : ℕ) → i < j → j < length fs → last (page_in s (get_or fs j 0)) < last (page_in s (get_or fs i 0))

-- ---- a read or a write of page q

pub data Asks (q : ℕ) : Call → Type 0 where
  reads : (t : Times) (out : List ℕ) → Asks q (read t q out)
  writes : (t : Times) (start : ℕ) (bytes : List ℕ) → Asks q (write t q start bytes)

-- a call for page q leaves l: a fault without a victim, for which frame f has the page, and E of the empty frames are left
abbrev pub Took : ℕ → ℕ → List ℕ → Left Pool → Type 0
Took q f E l =
    (l.said ≡ said_fault)
    × (1 ≤ resident (state_of l.state).lists f)
    × (page_in (state_of l.state) f ≡ q)
    × ((state_of l.state).lists.E ≡ E)

-- what a fault says that takes the page at the end of the list picked: C if it is above, else D, and C where D is empty
abbrev pub last_said : State → Bool → Said
last_said s above = fault_says (taken s (victim_by above (length s.lists.C) (length s.lists.D))).victim

-- ---- a trace: refusals 7 and 1 of its trailer, then 8 for its first bad record

abbrev pub trailer_in : List ℕ → Trailer
trailer_in s = trailer_at s (length s - trailer_length)

abbrev pub header_rows : List ℕ → List Row
header_rows s = record { when = ltb (length s) trailer_length; why = NotATrace } ∷ trailer_rows (length s) (trailer_in s)

abbrev pub bad_row : List ℕ → Row
bad_row s = record { when = is_some (bad_in s (trailer_in s)); why = BadRecord (unwrap_or (bad_in s (trailer_in s)) 0) }

abbrev pub check_rows : List ℕ → List Row
check_rows s = header_rows s ++ (bad_row s ∷ [])
