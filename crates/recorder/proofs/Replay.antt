-- A recorded run runs again, whatever the policy. What a call says and the state that it leaves hang on the state alone, if it has the opened costs: a policy
-- never sees the bytes. Whether it is served hangs on the state, the sizes of the lent memory, the page and the lengths. So the record of a call that was
-- served with those costs stands for a call that is served over any memory of the right sizes, if the state is the same; it says and leaves the same. The
-- rest is induction on the calls, along two worlds of the same state: the first serves the calls, the second their records.
--     replay, replay-served     the records of a run, run again, show what the run showed, and none of them is refused
--     replay-front              the records of a front of a run, run again, show the front of what it showed: none is refused, so each shows one thing
--     records-in                every record of a run is one that a trace over the pool's pages may have
--     recording-adds            to record calls as they are served is to add their records one after the other
--     recorded-value            a write is recorded with byte 0 of its page, as the page's history has it after the write
-- Assumes nothing.
use Rattle.std.specs.Prelude.{Ok, Err}
use mathlib.Core.Path.{◌≡◌, refl, sym, ap, ap₂, ◌∙◌}
use mathlib.Core.Bool.{Bool, true}
use mathlib.Core.List.{List, [], ◌∷◌, ◌++◌}
use Prim.Native.Nat.{ℕ, zero, suc, ◌+◌, ◌≤◌}
use native.Mathlib.Omega.{arith}
use lib.ListN.{length, take, get_or, length-append}
use borrow.Author.Tests.{le-leb, eq-eqb}
use Rattle.pages.specs.Pages.{page_of}
use Rattle.model.specs.Words.{flushed as said_flushed, dropped as said_dropped, answer_says}
use Rattle.model.specs.Numbers.{Numbers}
use Rattle.model.specs.Target.{Costs, costs_of}
use Rattle.model.specs.Times.{Times, unmeasured, times_fit, as_opened}
use Rattle.model.specs.Policy.{Policy}
use Rattle.model.specs.Refusals.{first, broken_pool, request_rows, stretch_fits}
use Rattle.model.specs.Moves.{dirty, Has, History, laid}
use Rattle.model.specs.Run.{Call, read, write, flush, drop, total, times_of, World, Left}
use Rattle.model.specs.Run.{verdict_of, costs_in, outcome_of, written_in, served, left_by, left, after, told_by, brought_by, gathered}
use Rattle.model.specs.declared.Op.{Op}
use Rattle.model.specs.declared.Op.TheVariants.{Read as Reads, Write as Writes}
use Rattle.model.specs.Words.{Verdict}
use Rattle.model.proofs.Moves.{put-same}
use Rattle.model.proofs.Times.{opened-in-force}
use Rattle.model.proofs.Refusals.{RequestClear, ReadyIn, request-fine, flush-fine, drop-fine, call-cases}
use Rattle.model.proofs.Refusals.{read-clear, write-clear, flush-ready, drop-ready, stretch-fits}
use Rattle.model.proofs.LastWritten.{Lawful, Right, call-good, call-numbers, call-right}
use Rattle.trace.specs.Encode.{RecordsIn}
use Rattle.trace.specs.declared.Record.{Record}
use Rattle.trace.specs.declared.Record.TheVariants.{Read, Write, Flush, Drop}
use Rattle.trace.proofs.Round.{records_in-append}
use Rattle.recorder.specs.Runs.{Tape, tape_of, after_add, after_adds, value_of, records_of, Shown, shown_of, shown, call_of, calls_of}
use Rattle.recorder.specs.Runs.{recorded_by, after_recorded, after_recording, AsOpened}

-- ---- a page that a stretch fits has a byte 0

first-fits : (P start n : ℕ) → stretch_fits P start n ≡ true → stretch_fits P 0 1 ≡ true
first-fits P start n e = let a = stretch-fits P start n e in le-leb 1 P (omega arith)

-- ---- one call of a run

module _ (π : Policy) where
  left-served : (x : World π.State) (c : Call) → verdict_of π x c ≡ Ok tt → left π x c ≡ served π x c
  unfolding left
  left-served x c e = ap (λ (v : Verdict). left_by π v x c) e

  -- a served call shows what it brings a record for
  brought-length : (x : World π.State) (c : Call) (v : Verdict) → length (brought_by π v (shown π x c)) ≡ length (brought_by π v (records_of π x c))
  brought-length x c (Err y) = refl
  brought-length x (read t q out) (Ok _) = refl
  brought-length x (write t q start bytes) (Ok _) = refl
  brought-length x flush (Ok _) = refl
  brought-length x (drop q) (Ok _) = refl
  brought-length x total (Ok _) = refl

  shown-length : (cs : List Call) (x : World π.State) → length (gathered π (shown π) x cs) ≡ length (gathered π (records_of π) x cs)
  shown-length [] x = refl
  shown-length (c ∷ cs) x =
      length-append (brought_by π (verdict_of π x c) (shown π x c)) (gathered π (shown π) (after π x c) cs)
      ∙ ap₂ ◌+◌ (brought-length x c (verdict_of π x c)) (shown-length cs (after π x c))
      ∙ sym (length-append (brought_by π (verdict_of π x c) (records_of π x c)) (gathered π (records_of π) (after π x c) cs))

  -- what a call that leaves l shows
  abbrev shown_by : Left π.State → Shown π
  shown_by l = record { said = l.said; state = l.state }

  -- what a served request, a flush and a drop show: with the opened costs it hangs on the state alone
  abbrev requested_at : Op → ℕ → Costs → π.State → Shown π
  requested_at op q k s = let o = π.request op k s q in record { said = answer_says o.answer; state = o.state }

  abbrev requested : Op → ℕ → π.State → Shown π
  requested op q s = requested_at op q (costs_of (π.numbers s)) s

  abbrev flushed_in : π.State → Shown π
  flushed_in s = record { said = said_flushed (length (π.dirty s)); state = π.flushed s }

  abbrev dropped_in : ℕ → π.State → Shown π
  dropped_in q s = record { said = said_dropped; state = π.dropped s q }

  -- the world that a call leaves
  abbrev world_of : Left π.State → World π.State
  world_of l = record { state = l.state; memory = l.memory }

  -- ---- a front of records

  -- no record stands for a total
  shown-one : (y : World π.State) (out : List ℕ) (r : Record) → shown π y (call_of out r) ≡ shown_of π y (call_of out r)
  shown-one y out (Read q) = refl
  shown-one y out (Write q v) = refl
  shown-one y out Flush = refl
  shown-one y out (Drop q) = refl

  -- a call shows at most one thing
  brought-most : {A : Type 0} (v : Verdict) (a : A) (zs : List A) (m : ℕ) → length zs ≤ m → length (brought_by π v (a ∷ []) ++ zs) ≤ suc m
  brought-most (Err y) a zs m l = omega arith
  brought-most (Ok _) a zs m l = omega arith

  shown-most : (out : List ℕ) (rs : List Record) (y : World π.State) → length (gathered π (shown π) y (calls_of out rs)) ≤ length rs
  shown-most out [] y = omega arith
  shown-most out (r ∷ rs) y =
      let c = call_of out r in
      rw (shown-one y out r) (brought-most (verdict_of π y c) _ _ (length rs) (shown-most out rs (after π y c)))

  -- so where there are as many things as calls, each shows one
  brought-front : {A : Type 0} (v : Verdict) (a : A) (ws zs : List A) (m k : ℕ) → length zs ≤ m → length (brought_by π v (a ∷ []) ++ zs) ≡ suc m
      → (length zs ≡ m → ws ≡ take k zs) → brought_by π v (a ∷ []) ++ ws ≡ take (suc k) (brought_by π v (a ∷ []) ++ zs)
  brought-front (Err y) a ws zs m k l e rest = absurd (omega arith)
  brought-front {A} (Ok _) a ws zs m k l e rest = ap (λ (us : List A). a ∷ us) (rest (omega arith))

  shown-front : (out : List ℕ) (rs : List Record) (y : World π.State) → length (gathered π (shown π) y (calls_of out rs)) ≡ length rs
      → (k : ℕ) → gathered π (shown π) y (calls_of out (take k rs)) ≡ take k (gathered π (shown π) y (calls_of out rs))
  shown-front out rs y e zero = refl
  shown-front out [] y e (suc k) = refl
  shown-front out (r ∷ rs) y e (suc k) =
      let c = call_of out r in
      let one = shown-one y out r in
      rw one
      (brought-front (verdict_of π y c) _ _ _ (length rs) k (shown-most out rs (after π y c)) (rw one at e) (λ l. shown-front out rs (after π y c) l k))

module _ (π : Policy) (ok : Lawful π) where
  -- ---- two worlds of the same state

  -- what `replay` says of calls
  abbrev Again : List Call → Type 0
  Again cs =
      (x y : World π.State) → x.state ≡ y.state → (h : History) → Right π ok y h → (out : List ℕ) → length out ≡ (π.numbers y.state).P
      → gathered π (shown π) x cs ≡ gathered π (shown π) y (calls_of out (gathered π (records_of π) x cs))

  module _ (x y : World π.State) (same : x.state ≡ y.state) (h : History) (r : Right π ok y h) where
    -- one call more may be served in y, if in x
    ready-again : ReadyIn π x → ReadyIn π y
    ready-again l = record { frames = r.keeps.frames; store = r.keeps.store; more = rw same at l.more }

    request-again : (t : Times) (q : ℕ) (f g : Bool) → RequestClear π x t q f → g ≡ true
        → first (broken_pool (π.sound y.state) ∷ request_rows true (π.numbers y.state) (π.counts y.state).served
        (length y.memory.frames) (length y.memory.store) q g) ≡ Ok tt
    request-again t q f g a e =
        request-fine (π.sound y.state) true (π.numbers y.state) (π.counts y.state).served _ _ q g
        (rw same at a.0) refl (ready-again a.1) (rw same at a.2) e

    read-again : (t : Times) (q : ℕ) (out lent : List ℕ) → length out ≡ (π.numbers y.state).P → verdict_of π x (read t q lent) ≡ Ok tt
        → verdict_of π y (call_of out (Read q)) ≡ Ok tt
    read-again t q out lent fit e = request-again t q _ _ (read-clear π x t q lent e) (eq-eqb (length out) _ fit)

    write-again : (t : Times) (q start v : ℕ) (out bytes : List ℕ) → verdict_of π x (write t q start bytes) ≡ Ok tt
        → verdict_of π y (call_of out (Write q v)) ≡ Ok tt
    write-again t q start v out bytes e =
        let a = write-clear π x t q start bytes e in
        request-again t q _ _ a (rw same at (first-fits (π.numbers x.state).P start (length bytes) a.3))

    flush-again : (out : List ℕ) → verdict_of π x flush ≡ Ok tt → verdict_of π y (call_of out Flush) ≡ Ok tt
    flush-again out e =
        let a = flush-ready π x e in
        flush-fine (π.sound y.state) (π.numbers y.state) (π.counts y.state).served _ _ (rw same at a.0) (ready-again a.1)

    drop-again : (q : ℕ) (out : List ℕ) → verdict_of π x (drop q) ≡ Ok tt → verdict_of π y (call_of out (Drop q)) ≡ Ok tt
    drop-again q out e =
        let a = drop-ready π x q e in
        drop-fine (π.sound y.state) (π.numbers y.state) (π.counts y.state).served _ _ q
        (rw same at a.0) (ready-again a.1) (rw same at a.2)

    -- a call of x and one of y that are both served and show the same: what is left of a run goes on from where they lead
    module _ (cs : List Call) (out : List ℕ) (fit : length out ≡ (π.numbers y.state).P) (rest : Again cs) where
      goes-on : (c d : Call) → verdict_of π x c ≡ Ok tt → verdict_of π y d ≡ Ok tt → shown_by π (served π x c) ≡ shown_by π (served π y d)
          → shown_of π x c ++ gathered π (shown π) (world_of π (served π x c)) cs
          ≡ brought_by π (verdict_of π y d) (shown_of π y d)
          ++ gathered π (shown π) (after π y d) (calls_of out (gathered π (records_of π) (world_of π (served π x c)) cs))
      goes-on c d e f p =
          let next = left-served π y d f in
          let one = ap (shown_by π) (left-served π x c e) ∙ p ∙ sym (ap (shown_by π) next) in
          let state = ap (λ (s : Shown π). s.state) p ∙ sym (ap (λ (l : Left π.State). l.state) next) in
          let fits = fit ∙ sym (ap (λ (n : Numbers). n.P) (call-numbers π ok y r.good d)) in
          rw f
          (ap₂ ◌∷◌ one (rest (world_of π (served π x c)) (after π y d) state (told_by π (verdict_of π y d) y d h) (call-right π ok y h r d) out fits))

      -- a request with the opened costs shows what the state alone makes of it
      requested-again : (op : Op) (t : Times) (q : ℕ) → times_fit t ≡ true → as_opened t ≡ true
          → requested_at π op q (costs_in π x t) x.state ≡ requested π op q y.state
      requested-again op t q f o =
          ap (λ (k : Costs). requested_at π op q k x.state) (opened-in-force t (costs_of (π.numbers x.state)) f o) ∙ ap (requested π op q) same

      served-again : (c : Call) → as_opened (times_of c) ≡ true → verdict_of π x c ≡ Ok tt
          → shown π x c ++ gathered π (shown π) (world_of π (served π x c)) cs
          ≡ gathered π (shown π) y (calls_of out (records_of π x c ++ gathered π (records_of π) (world_of π (served π x c)) cs))
      served-again (read t q lent) o e =
          goes-on (read t q lent) (read unmeasured q out) e (read-again t q out lent fit e)
          (requested-again Reads t q (read-clear π x t q lent e).4 o)
      served-again (write t q start bytes) o e =
          let v = value_of π x t q start bytes in
          goes-on (write t q start bytes) (write unmeasured q 0 (v ∷ [])) e (write-again t q start v out bytes e)
          (requested-again Writes t q (write-clear π x t q start bytes e).4 o)
      served-again flush o e = goes-on flush flush e (flush-again out e) (ap (flushed_in π) same)
      served-again (drop q) o e = goes-on (drop q) (drop q) e (drop-again q out e) (ap (dropped_in π q) same)
      served-again total o e = rest x y same h r out fit

      call-again : (c : Call) → as_opened (times_of c) ≡ true
          → gathered π (shown π) x (c ∷ cs) ≡ gathered π (shown π) y (calls_of out (gathered π (records_of π) x (c ∷ cs)))
      call-again c o =
          call-cases π x c
          (λ l. brought_by π (verdict_of π x c) (shown π x c) ++ gathered π (shown π) (world_of π l) cs
          ≡ gathered π (shown π) y (calls_of out (brought_by π (verdict_of π x c) (records_of π x c) ++ gathered π (records_of π) (world_of π l) cs)))
          (λ z e. rw e (rest x y same h r out fit)) (λ e. rw e (served-again c o e))

  -- ---- a run

  pub replay : (cs : List Call) → AsOpened cs → (x y : World π.State) → x.state ≡ y.state → (h : History) → Right π ok y h → (out : List ℕ)
      → length out ≡ (π.numbers y.state).P → gathered π (shown π) x cs ≡ gathered π (shown π) y (calls_of out (gathered π (records_of π) x cs))
  replay [] o x y same h r out fit = refl
  replay (c ∷ cs) o x y same h r out fit = call-again x y same h r cs out fit (replay cs o.1) c o.0

  pub replay-served : (cs : List Call) → AsOpened cs → (x y : World π.State) → x.state ≡ y.state → (h : History) → Right π ok y h → (out : List ℕ)
      → length out ≡ (π.numbers y.state).P
      → length (gathered π (shown π) y (calls_of out (gathered π (records_of π) x cs))) ≡ length (gathered π (records_of π) x cs)
  replay-served cs o x y same h r out fit = sym (ap length (replay cs o x y same h r out fit)) ∙ shown-length π cs x

  pub replay-front : (cs : List Call) → AsOpened cs → (x y : World π.State) → x.state ≡ y.state → (h : History) → Right π ok y h → (out : List ℕ)
      → length out ≡ (π.numbers y.state).P
      → (k : ℕ) → gathered π (shown π) y (calls_of out (take k (gathered π (records_of π) x cs))) ≡ take k (gathered π (shown π) x cs)
  replay-front cs o x y same h r out fit k =
      shown-front π out (gathered π (records_of π) x cs) y (replay-served cs o x y same h r out fit) k ∙ ap (take k) (sym (replay cs o x y same h r out fit))

-- ---- the records of a run

module _ (π : Policy) (ok : Lawful π) where
  brought-in : (x : World π.State) (c : Call) → RecordsIn (π.numbers x.state).N (brought_by π (verdict_of π x c) (records_of π x c))
  brought-in x c = go c (verdict_of π x c) refl
    where
      go : (d : Call) (v : Verdict) → verdict_of π x d ≡ v → RecordsIn (π.numbers x.state).N (brought_by π v (records_of π x d))
      go d (Err y) e = tt
      go (read t q out) (Ok _) e = ((read-clear π x t q out e).2, tt)
      go (write t q start bytes) (Ok _) e = ((write-clear π x t q start bytes e).2, tt)
      go flush (Ok _) e = (tt, tt)
      go (drop q) (Ok _) e = ((drop-ready π x q e).2, tt)
      go total (Ok _) e = tt

  pub records-in : (cs : List Call) (x : World π.State) → ok.Good x.state → RecordsIn (π.numbers x.state).N (gathered π (records_of π) x cs)
  records-in [] x g = tt
  records-in (c ∷ cs) x g =
      records_in-append (π.numbers x.state).N (brought_by π (verdict_of π x c) (records_of π x c)) (gathered π (records_of π) (after π x c) cs) (brought-in x c)
      (rw (call-numbers π ok x g c) at (records-in cs (after π x c) (call-good π ok x g c)))

  -- the frame has the page as its history has it after the write
  pub recorded-value : (x : World π.State) (h : History) → Right π ok x h → (t : Times) (q start : ℕ) (bytes : List ℕ)
      → verdict_of π x (write t q start bytes) ≡ Ok tt → value_of π x t q start bytes ≡ get_or (laid q start bytes h q) 0 0
  recorded-value x h r t q start bytes e =
      let a = write-clear π x t q start bytes e in
      let k = ok.request Writes (costs_in π x t) x.state q r.good a.2 a.1.more in
      let o = outcome_of π Writes x t q in
      let f = o.frame in
      let w : Right π ok (world_of π (served π x (write t q start bytes))) (laid q start bytes h) =
      rw (e, left-served π x (write t q start bytes) e) at (call-right π ok x h r (write t q start bytes)) in
      let has : Has q (ok.content o.state f) = rw (k.contents f, put-same f (dirty q) (ok.content x.state)) refl in
      let page : page_of (π.numbers x.state).P f (written_in π x q start bytes o).frames ≡ laid q start bytes h q =
      rw k.same at (w.keeps.in_frame q f has) in
      ap (λ (bs : List ℕ). get_or bs 0 0) page

-- ---- calls that are recorded as they are served

adds-append : (x : Tape) (rs qs : List Record) → after_adds x (rs ++ qs) ≡ after_adds (after_adds x rs) qs
adds-append x [] qs = refl
adds-append x (r ∷ rs) qs = adds-append (after_add x r) rs qs

-- one call: what is brought is added
recorded-by : (π : Policy) (v : Verdict) (r : Record) (x : Tape) → tape_of (recorded_by v r x) ≡ after_adds x (brought_by π v (r ∷ []))
recorded-by π (Err y) r x = refl
recorded-by π (Ok _) r x = refl

nothing-added : (π : Policy) (v : Verdict) (x : Tape) → x ≡ after_adds x (brought_by π v [])
nothing-added π (Err y) x = refl
nothing-added π (Ok _) x = refl

recorded-adds : (π : Policy) (w : World π.State) (c : Call) (x : Tape)
    → after_recorded π w c x ≡ after_adds x (brought_by π (verdict_of π w c) (records_of π w c))
recorded-adds π w (read t q out) x = recorded-by π (verdict_of π w (read t q out)) (Read q) x
recorded-adds π w (write t q start bytes) x = recorded-by π (verdict_of π w (write t q start bytes)) (Write q (value_of π w t q start bytes)) x
recorded-adds π w flush x = recorded-by π (verdict_of π w flush) Flush x
recorded-adds π w (drop q) x = recorded-by π (verdict_of π w (drop q)) (Drop q) x
recorded-adds π w total x = nothing-added π (verdict_of π w total) x

pub recording-adds : (π : Policy) (w : World π.State) (cs : List Call) (x : Tape)
    → after_recording π w cs x ≡ after_adds x (gathered π (records_of π) w cs)
recording-adds π w [] x = refl
recording-adds π w (c ∷ cs) x =
    let now = brought_by π (verdict_of π w c) (records_of π w c) in
    let one = ap (λ (z : Tape). after_recording π (after π w c) cs z) (recorded-adds π w c x) in
    one ∙ recording-adds π (after π w c) cs (after_adds x now) ∙ sym (adds-append x now (gathered π (records_of π) (after π w c) cs))
