-- A call that no row refuses: none of the conditions holds. Assumes nothing.
use Rattle.std.specs.Prelude.{Ok, Err}
use mathlib.Core.Path.{◌≡◌, refl, sym, ap}
use mathlib.Core.Bool.{Bool, true, false, not, ◌&&◌}
use mathlib.Core.List.{List, [], ◌∷◌}
use Prim.Native.Nat.{ℕ, ◌+◌, ◌≤◌, ◌<◌}
use native.Mathlib.Omega.{arith}
use lib.ListN.{length}
use borrow.Author.Tests.{leb-true, leb-false, lt-leb, ltb-true}
use Rattle.pages.proofs.Memory.{sizes_match-sound, sizes_match-complete}
use Rattle.model.specs.Numbers.{Numbers, most_served}
use Rattle.model.specs.Times.{Times, times_fit}
use Rattle.model.specs.Refusals.{Row, verdict_by, first, broken_pool, request_rows, flush_rows, drop_rows, request_verdict, flush_verdict, drop_verdict}
use Rattle.model.specs.Refusals.{output_fits, stretch_fits, Ready}
use Rattle.model.specs.Policy.{Policy}
use Rattle.model.specs.Run.{Call, read, write, flush, drop, World, Left, verdict_of, served, left_by, left}
use Rattle.model.specs.declared.Refusal.{Refusal}
use Rattle.model.specs.Words.{Verdict}

-- no row's condition holds
abbrev pub AllClear : List Row → Type 0
AllClear [] = Unit {0}
AllClear (x ∷ xs) = (x.when ≡ false) × AllClear xs

pub first-clear : (xs : List Row) → first xs ≡ Ok tt → AllClear xs
first-clear [] e = tt
first-clear (x ∷ xs) e = go x.when refl e (first-clear xs)
  where
    go : (t : Bool) → x.when ≡ t → verdict_by t x.why (first xs) ≡ Ok tt → (first xs ≡ Ok tt → AllClear xs) → (x.when ≡ false) × AllClear xs
    go true h d ih = let z : ◌≡◌ {A = ℕ} 0 1 = cc in absurd (omega arith)
    go false h d ih = (h, ih d)

pub clear-first : (xs : List Row) → AllClear xs → first xs ≡ Ok tt
clear-first [] c = refl
clear-first (x ∷ xs) c = rw c.0 (clear-first xs c.1)

pub not-false : (t : Bool) → not t ≡ false → t ≡ true
not-false true e = refl
not-false false e = sym e

pub and-both : (s t : Bool) → (s && t) ≡ true → (s ≡ true) × (t ≡ true)
and-both true t e = (refl, e)
and-both false t e = let z : ◌≡◌ {A = ℕ} 0 1 = cc in absurd (omega arith)

-- of a read or a write
pub request-clear : (sound timed : Bool) (a : Numbers) (served m n page : ℕ) (fit : Bool) → request_verdict sound timed a served m n page fit ≡ Ok tt
    → (sound ≡ true) × Ready a served m n × (page < a.N) × (fit ≡ true) × (timed ≡ true)
unfolding request_verdict
request-clear sound timed a served m n page fit e =
    let c = first-clear (broken_pool sound ∷ request_rows timed a served m n page fit) e in
    let z = sizes_match-sound a.P a.b a.N m n (not-false _ c.1.1.0) in (
      not-false sound c.0,
      record { frames = z.0; store = z.1; more = leb-false most_served served c.1.1.1.1.1.0 },
      leb-false a.N page c.1.1.1.0,
      not-false fit c.1.1.1.1.0,
      not-false timed c.1.0,
    )

pub flush-clear : (sound : Bool) (a : Numbers) (served m n : ℕ) → flush_verdict sound a served m n ≡ Ok tt → (sound ≡ true) × Ready a served m n
unfolding flush_verdict
flush-clear sound a served m n e =
    let c = first-clear (broken_pool sound ∷ flush_rows a served m n) e in
    let z = sizes_match-sound a.P a.b a.N m n (not-false _ c.1.0) in
    (not-false sound c.0, record { frames = z.0; store = z.1; more = leb-false most_served served c.1.1.0 })

pub drop-clear : (sound : Bool) (a : Numbers) (served m n page : ℕ) → drop_verdict sound a served m n page ≡ Ok tt
    → (sound ≡ true) × Ready a served m n × (page < a.N)
unfolding drop_verdict
drop-clear sound a served m n page e =
    let c = first-clear (broken_pool sound ∷ drop_rows a served m n page) e in
    let z = sizes_match-sound a.P a.b a.N m n (not-false _ c.1.0) in (
      not-false sound c.0,
      record { frames = z.0; store = z.1; more = leb-false most_served served c.1.1.1.0 },
      leb-false a.N page c.1.1.0,
    )

-- and a call of which no condition holds is served
pub request-fine : (sound timed : Bool) (a : Numbers) (served m n page : ℕ) (fit : Bool) → sound ≡ true → timed ≡ true → Ready a served m n → page < a.N
    → fit ≡ true → first (broken_pool sound ∷ request_rows timed a served m n page fit) ≡ Ok tt
request-fine sound timed a served m n page fit s t l inside f =
    let sizes = sizes_match-complete a.P a.b a.N m n l.frames l.store in
    clear-first (broken_pool sound ∷ request_rows timed a served m n page fit)
    (ap not s, (ap not t, (ap not sizes, (lt-leb a.N page inside, (ap not f, (lt-leb most_served served l.more, tt))))))

pub flush-fine : (sound : Bool) (a : Numbers) (served m n : ℕ) → sound ≡ true → Ready a served m n → first (broken_pool sound ∷ flush_rows a served m n) ≡ Ok tt
flush-fine sound a served m n s l =
    let sizes = sizes_match-complete a.P a.b a.N m n l.frames l.store in
    clear-first (broken_pool sound ∷ flush_rows a served m n) (ap not s, (ap not sizes, (lt-leb most_served served l.more, tt)))

pub drop-fine : (sound : Bool) (a : Numbers) (served m n page : ℕ) → sound ≡ true → Ready a served m n → page < a.N
    → first (broken_pool sound ∷ drop_rows a served m n page) ≡ Ok tt
drop-fine sound a served m n page s l inside =
    let sizes = sizes_match-complete a.P a.b a.N m n l.frames l.store in
    clear-first (broken_pool sound ∷ drop_rows a served m n page)
    (ap not s, (ap not sizes, (lt-leb a.N page inside, (lt-leb most_served served l.more, tt))))

-- a stretch that fits has bytes and ends within the page
pub stretch-fits : (P start n : ℕ) → stretch_fits P start n ≡ true → (0 < n) × (start + n ≤ P)
stretch-fits P start n e = let a = and-both _ _ e in (ltb-true 0 n a.0, leb-true (start + n) P a.1)

-- ---- the same of calls on a pool of any policy

module _ (π : Policy) (x : World π.State) where
  -- what holds of a call's leavings: refused, it leaves everything; else it is served
  pub call-cases : (c : Call) (P : Left π.State → Type 0) → ((y : Refusal) → verdict_of π x c ≡ Err y → P (left_by π (Err y) x c))
      → (verdict_of π x c ≡ Ok tt → P (served π x c)) → P (left π x c)
  unfolding left
  call-cases c P refused served = go (verdict_of π x c) refl
    where
      go : (v : Verdict) → verdict_of π x c ≡ v → P (left_by π v x c)
      go (Err y) e = refused y e
      go (Ok _) e = served e

  -- the lent memory is of the right size, and a call more may be served
  abbrev pub ReadyIn : Type 0
  ReadyIn = Ready (π.numbers x.state) (π.counts x.state).served (length x.memory.frames) (length x.memory.store)

  -- what a request for page q that is served, with the kept numbers that it takes, may count on
  abbrev pub RequestClear : Times → ℕ → Bool → Type 0
  RequestClear t q fit = (π.sound x.state ≡ true) × ReadyIn × (q < (π.numbers x.state).N) × (fit ≡ true) × (times_fit t ≡ true)

  pub read-clear : (t : Times) (q : ℕ) (out : List ℕ) → verdict_of π x (read t q out) ≡ Ok tt
      → RequestClear t q (output_fits (π.numbers x.state).P (length out))
  unfolding request_verdict
  read-clear t q out e = request-clear (π.sound x.state) (times_fit t) (π.numbers x.state) (π.counts x.state).served _ _ q _ e

  pub write-clear : (t : Times) (q start : ℕ) (bytes : List ℕ) → verdict_of π x (write t q start bytes) ≡ Ok tt
      → RequestClear t q (stretch_fits (π.numbers x.state).P start (length bytes))
  unfolding request_verdict
  write-clear t q start bytes e = request-clear (π.sound x.state) (times_fit t) (π.numbers x.state) (π.counts x.state).served _ _ q _ e

  pub flush-ready : verdict_of π x flush ≡ Ok tt → (π.sound x.state ≡ true) × ReadyIn
  unfolding flush_verdict
  flush-ready e = flush-clear (π.sound x.state) (π.numbers x.state) (π.counts x.state).served _ _ e

  pub drop-ready : (q : ℕ) → verdict_of π x (drop q) ≡ Ok tt → (π.sound x.state ≡ true) × ReadyIn × (q < (π.numbers x.state).N)
  unfolding drop_verdict
  drop-ready q e = drop-clear (π.sound x.state) (π.numbers x.state) (π.counts x.state).served _ _ q e
