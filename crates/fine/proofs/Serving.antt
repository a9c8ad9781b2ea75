-- A call that is served: what its functions leave is what the definitions say. Assumes nothing.
use mathlib.Core.Path.{◌≡◌, refl, sym, ap, ◌∙◌, subst}
use mathlib.Core.Bool.{true, cond as if-else}
use mathlib.Core.List.{List, [], ◌∷◌}
use Prim.Native.Nat.{ℕ, suc, ◌+◌, ◌*◌, ◌<◌, zero-le, suc-le-suc}
use native.Mathlib.Omega.{arith}
use lib.ListN.{length, get_or, take, replicate, get_or-append}
use Rattle.order.specs.Places.{pad, listed}
use Rattle.order.proofs.Places.{in-places-get_or}
use Rattle.std.specs.Prelude.{All}
use Rattle.std.proofs.lemmas.List.Elements.{All-from_get_or}
use Rattle.order.proofs.Count.{count-here}
use Rattle.pages.specs.Pages.{splice, page_of, with_page, InPages}
use Rattle.pages.specs.Memory.{written_back, FrameIn}
use Rattle.pages.proofs.Pages.{page-in}
use Rattle.model.specs.Words.{flushed as said_flushed, dropped as said_dropped, answer_says}
use Rattle.model.specs.Frames.{Step as Step-of}
use Rattle.model.specs.Policy.{Outcome}
use Rattle.model.specs.State.{State, frames_of}
use Rattle.model.specs.Request.{request, flushed, dropped}
use Rattle.model.specs.Bytes.{brought, memory}
use Rattle.model.specs.Refusals.{Ready}
use Rattle.model.specs.Target.{Costs, costs, costs_of}
use Rattle.model.specs.Times.{Times, measured, kept_fits, both_full, in_force}
use Rattle.model.specs.Run.{read, write, flush, drop}
use Rattle.model.specs.declared.Kept.{Kept}
use Rattle.model.specs.declared.Op.{Op}
use Rattle.model.specs.declared.Op.TheVariants.{Read, Write}
use Rattle.model.proofs.Times.{Payable, opened-payable, costs-right, costs-each}
use Rattle.model.proofs.Good.{D-below}
use Rattle.model.proofs.Frames.{step-frame, step-victim}
use Rattle.model.proofs.Steps.{request-stepped}
use Rattle.pool.specs.Pool.{pool_of, numbers_in, state_of, Sound}
use Rattle.pool.specs.declared.Pool.{Pool}
use Rattle.pool.proofs.Form.{dirty-in-places, dirty-frame, page-pad, listed-page}
use Rattle.step.specs.Step.{step_of}
use Rattle.step.specs.declared.Step.{Step}
use Rattle.serve.specs.Serve.{AnswerIn}
use Rattle.serve.proofs.Victims.{answer-in}
use Rattle.fine.specs.Serving.{served_after, step_left, pool_left}

-- ---- the costs that the code finds, each by itself, are those in force; and the step can be reckoned with them

module _ (p : Pool) (s : Sound p) (k : Kept) (fits : kept_fits k ≡ true) (r w : ℕ)
    (er : r ≡ if-else (both_full k) k.reads.sum p.numbers.read_cost) (ew : w ≡ if-else (both_full k) k.writes.sum p.numbers.write_cost) where
  pub found-in-force : costs r w ≡ in_force (measured k) (costs_of (numbers_in p))
  found-in-force = (λ i. costs (er i) (ew i)) ∙ costs-each k (costs_of (numbers_in p))

  pub found-payable : Payable (costs r w)
  found-payable =
      subst Payable (sym found-in-force) (costs-right (measured k) (costs_of (numbers_in p)) fits (opened-payable (numbers_in p) s.good.limits))

-- ---- a request: x is what the step gave

module _ (p : Pool) (s : Sound p) (page m n : ℕ) (l : Ready (numbers_in p) p.served m n) (inside : page < p.numbers.pages)
    (op : Op) (k : Costs) (x : Step) (e : x ≡ step_of (request op k (state_of p) page)) where
  abbrev outcome : Outcome State
  outcome = request op k (state_of p) page

  stepped : Step-of op page outcome.frame outcome.answer (frames_of (state_of p)) (frames_of outcome.state)
  stepped = (request-stepped (state_of p) (record { good = s.good; blank = s.blank }) page inside l.more op k).step

  pub frame-in : InPages p.numbers.page_bytes x.frame m
  frame-in =
      let f = step-frame (numbers_in p) _ s.good.placed _ op page _ outcome.answer stepped in
      let h : x.frame < p.numbers.frames = rw (ap (λ (y : Step). y.frame) e) f in
      page-in p.numbers.page_bytes x.frame p.numbers.frames m l.frames h

  -- frame, page and victim lie within the lent bytes
  pub bring-in : InPages p.numbers.page_bytes x.frame m × (InPages p.numbers.page_bytes page n × AnswerIn p.numbers.page_bytes x.answer n)
  bring-in =
      let below = step-victim (numbers_in p) _ s.good.placed _ op page _ outcome.answer stepped in
      let v = answer-in p.numbers.page_bytes p.numbers.pages n outcome.answer l.store below in
      (frame-in, (page-in p.numbers.page_bytes page p.numbers.pages n l.store inside, rw (ap (λ (y : Step). y.answer) e) v))

-- ---- the bytes after a step that the code made are those after the step of the definitions

module _ (p : Pool) (t : Times) (page : ℕ) (F S F' S' : List ℕ) (x : Step) where
  abbrev in-force : Costs
  in-force = in_force t (costs_of (numbers_in p))

  -- o is the outcome that the definitions have
  bytes-are : (o : Outcome State) → x ≡ step_of o → memory F' S' ≡ brought p.numbers.page_bytes x.frame page x.answer (memory F S)
      → memory F' S' ≡ brought p.numbers.page_bytes o.frame page o.answer (memory F S)
  bytes-are o e b = b ∙ ap (λ (y : Step). brought p.numbers.page_bytes y.frame page y.answer (memory F S)) e

  pub read-served : (O O' : List ℕ) → x ≡ step_of (request Read in-force (state_of p) page)
      → memory F' S' ≡ brought p.numbers.page_bytes x.frame page x.answer (memory F S) → O' ≡ page_of p.numbers.page_bytes x.frame F'
      → step_left x F' S' O' ≡ served_after p F S (read t page O)
  unfolding served_after
  read-served O O' e b c =
      let a = bytes-are (request Read in-force (state_of p) page) e b in
      λ i. record {
        state = (e i).pool;
        said = answer_says (e i).answer;
        memory = a i;
        out = (c ∙ (λ j. page_of p.numbers.page_bytes (e j).frame (a j).frames)) i;
      }

  pub write-served : (start : ℕ) (bytes G : List ℕ) → x ≡ step_of (request Write in-force (state_of p) page)
      → memory F' S' ≡ brought p.numbers.page_bytes x.frame page x.answer (memory F S) → G ≡ splice (x.frame * p.numbers.page_bytes + start) bytes F'
      → step_left x G S' [] ≡ served_after p F S (write t page start bytes)
  unfolding served_after
  write-served start bytes G e b c =
      let a = bytes-are (request Write in-force (state_of p) page) e b in
      λ i. record {
        state = (e i).pool;
        said = answer_says (e i).answer;
        memory = memory ((c ∙ (λ j. splice ((e j).frame * p.numbers.page_bytes + start) bytes (a j).frames)) i) (a i).store;
        out = [];
      }

-- ---- a flush

-- only the pages of the frames that are written matter
written_back-pad : (P : ℕ) (page frames fs store : List ℕ) → ((i : ℕ) → i < length fs → get_or fs i 0 < length page)
    → written_back P (pad page) frames fs store ≡ written_back P page frames fs store
unfolding written_back
written_back-pad P page frames [] store below = refl
written_back-pad P page frames (f ∷ fs) store below =
    rw (written_back-pad P page frames fs store (λ i h. below (suc i) (suc-le-suc h)), get_or-append page _ 0 f (below 0 (suc-le-suc zero-le)))

module _ (p : Pool) (s : Sound p) where
  pub dirty-in : (m n : ℕ) → m ≡ p.numbers.frames * p.numbers.page_bytes → n ≡ p.numbers.pages * p.numbers.page_bytes
      → All (FrameIn p.numbers.page_bytes p.page m n) (listed p.lists.dirty)
  dirty-in m n hm hn = All-from_get_or (FrameIn p.numbers.page_bytes p.page m n) (listed p.lists.dirty) 0 each
    where
      each : (k : ℕ) → k < length (listed p.lists.dirty) → FrameIn p.numbers.page_bytes p.page m n (get_or (listed p.lists.dirty) k 0)
      each k l =
          let h : k < p.lists.dirty.len = omega (arith, (dirty-in-places p s).len) in
          let f = dirty-frame p s k h in
          let q : get_or p.page (get_or p.lists.dirty.places k 0) 0 < p.numbers.pages =
          rw (listed-page p s (dirty-in-places p s) k h f) (s.good.placed.inside _ (omega (arith, count-here (state_of p).lists.D k l))) in
          let stands : FrameIn p.numbers.page_bytes p.page m n (get_or p.lists.dirty.places k 0) =
          record {
            small = omega (arith, f, s.good.limits.b_high);
            frame = page-in p.numbers.page_bytes _ p.numbers.frames m hm f;
            stored = page-in p.numbers.page_bytes _ p.numbers.pages n hn q;
          } in
          rw (in-places-get_or (dirty-in-places p s) k h) at stands

  pub flush-served : (F S S' : List ℕ) (q : Pool) → q ≡ pool_of (flushed (state_of p))
      → S' ≡ written_back p.numbers.page_bytes p.page F (take p.lists.dirty.len p.lists.dirty.places) S
      → pool_left q (said_flushed p.lists.dirty.len) F S' ≡ served_after p F S flush
  unfolding served_after
  flush-served F S S' q e k =
      let D = (state_of p).lists.D in
      let page = (state_of p).page in
      let b : (i : ℕ) → i < length D → get_or D i 0 < length page =
      λ i h. omega (arith, D-below (state_of p) s.good i h, s.good.placed.paged) in
      let w : S' ≡ written_back p.numbers.page_bytes page F D S =
      k ∙ ap (λ (z : List ℕ). written_back p.numbers.page_bytes z F D S) (page-pad p s) ∙ written_back-pad _ page F D S b in
      λ i. record { state = e i; said = said_flushed (sym (dirty-in-places p s).len i); memory = memory F (w i); out = [] }

-- ---- a drop

pub drop-served : (p : Pool) (page : ℕ) (F S S' : List ℕ) (q : Pool) → q ≡ pool_of (dropped (state_of p) page)
    → S' ≡ with_page p.numbers.page_bytes page (replicate p.numbers.page_bytes 0) S
    → pool_left q said_dropped F S' ≡ served_after p F S (drop page)
unfolding served_after
drop-served p page F S S' q e k = λ i. record { state = e i; said = said_dropped; memory = memory F (k i); out = [] }
