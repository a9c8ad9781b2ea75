-- A served write is never lost, whatever the policy. What a policy owes: a request's answer is right about what frames hold, and what they hold afterwards is
-- what the answer's moves make of it. Then each call keeps every page as its history says (Outcomes, and of a drop
-- Moves), and the rest is induction on the calls.
--     Lawful                       what a policy owes
--     call-good, run-good          the state stays good
--     call-right, run-right        and the bytes keep the history
--     last-written                 a read that is served hands out the page as the history has it
--     drop-zeros                   and zeros where the page was dropped just before
-- Assumes nothing.
use Rattle.std.specs.Prelude.{Ok}
use mathlib.Core.Path.{◌≡◌, refl, sym, ap, ◌∙◌}
use mathlib.Core.List.{List, [], ◌∷◌}
use Prim.Native.Nat.{ℕ, ◌+◌, ◌≤◌, ◌<◌}
use lib.ListN.{length, get_or, replicate}
use Rattle.order.specs.Count.{count}
use Rattle.model.specs.Numbers.{Numbers, most_served}
use Rattle.model.specs.Target.{Costs}
use Rattle.model.specs.Bytes.{Memory}
use Rattle.model.specs.Moves.{Content, Has, without, Buffer, wipe, History, laid, cut, Keeps}
use Rattle.model.specs.Policy.{Outcome, Policy}
use Rattle.model.specs.Times.{Times}
use Rattle.model.specs.Run.{Call, read, write, flush, drop, total, World}
use Rattle.model.specs.Run.{verdict_of, costs_in, outcome_of, brought_in, handed_out, written_in, served, left, left_by, after, after_all, told_by, history}
use Rattle.model.specs.declared.Op.{Op}
use Rattle.model.specs.declared.Op.TheVariants.{Read, Write}
use Rattle.model.specs.Words.{Verdict}
use Rattle.model.proofs.Moves.{move-keeps, cut-here}
use Rattle.model.proofs.Outcomes.{VictimBelow, AnswerRight, content_after, cleaned_by, keeps-same, read-keeps, read-has, write-keeps, flush-keeps}
use Rattle.model.proofs.Refusals.{call-cases, read-clear, write-clear, flush-ready, drop-ready, stretch-fits}

-- ---- what a policy owes

-- a request for page q of state s has outcome o
pub record Kept (π : Policy) (Good : π.State → Type 0) (content : π.State → ℕ → Content) (op : Op) (s : π.State) (q : ℕ)
    (o : Outcome π.State) : Type 0 where
  pub same : π.numbers o.state ≡ π.numbers s
  pub good : Good o.state
  pub frame : o.frame < (π.numbers s).b
  pub victim : VictimBelow (π.numbers s).N o.answer
  pub right : AnswerRight (content s) q o.frame o.answer
  pub contents : (f : ℕ) → content o.state f ≡ content_after op q o.frame o.answer (content s) f

-- a flush of state s
pub record FlushKept (π : Policy) (Good : π.State → Type 0) (content : π.State → ℕ → Content) (s : π.State) : Type 0 where
  pub same : π.numbers (π.flushed s) ≡ π.numbers s
  pub good : Good (π.flushed s)
  pub right : (f : ℕ) → 1 ≤ count f (π.dirty s) → (get_or (π.page s) f 0 < (π.numbers s).N) × (f < (π.numbers s).b) × Has (get_or (π.page s) f 0) (content s f)
  pub contents : (f : ℕ) → cleaned_by (π.page s) (π.dirty s) (content s) f ≡ content (π.flushed s) f

-- a drop of page q of state s
pub record DropKept (π : Policy) (Good : π.State → Type 0) (content : π.State → ℕ → Content) (s : π.State) (q : ℕ) : Type 0 where
  pub same : π.numbers (π.dropped s q) ≡ π.numbers s
  pub good : Good (π.dropped s q)
  pub contents : (f : ℕ) → without q (content s f) ≡ content (π.dropped s q) f

pub record Lawful (π : Policy) : Type 1 where
  pub Good : π.State → Type 0
  pub content : π.State → ℕ → Content
  pub request : (op : Op) (k : Costs) (s : π.State) (q : ℕ) → Good s → q < (π.numbers s).N → (π.counts s).served < most_served
      → Kept π Good content op s q (π.request op k s q)
  pub flush : (s : π.State) → Good s → (π.counts s).served < most_served → FlushKept π Good content s
  pub drop : (s : π.State) (q : ℕ) → Good s → q < (π.numbers s).N → (π.counts s).served < most_served → DropKept π Good content s q

module _ (π : Policy) (ok : Lawful π) where
  pub call-good : (x : World π.State) → ok.Good x.state → (c : Call) → ok.Good (left π x c).state
  call-good x g c = call-cases π x c (λ l. ok.Good l.state) (λ y e. g) (good-served c)
    where
      good-served : (d : Call) → verdict_of π x d ≡ Ok tt → ok.Good (served π x d).state
      good-served (read t q out) e = let a = read-clear π x t q out e in (ok.request Read (costs_in π x t) x.state q g a.2 a.1.more).good
      good-served (write t q start bytes) e =
          let a = write-clear π x t q start bytes e in (ok.request Write (costs_in π x t) x.state q g a.2 a.1.more).good
      good-served flush e = (ok.flush x.state g (flush-ready π x e).1.more).good
      good-served (drop q) e = let a = drop-ready π x q e in (ok.drop x.state q g a.2 a.1.more).good
      good-served total e = g

  pub run-good : (cs : List Call) (x : World π.State) → ok.Good x.state → ok.Good (after_all π x cs).state
  run-good [] x g = g
  run-good (c ∷ cs) x g = run-good cs (after π x c) (call-good x g c)

  -- the numbers that the pool was opened with stay
  pub call-numbers : (x : World π.State) → ok.Good x.state → (c : Call) → π.numbers (left π x c).state ≡ π.numbers x.state
  call-numbers x g c = call-cases π x c (λ l. π.numbers l.state ≡ π.numbers x.state) (λ y e. refl) (same-served c)
    where
      same-served : (d : Call) → verdict_of π x d ≡ Ok tt → π.numbers (served π x d).state ≡ π.numbers x.state
      same-served (read t q out) e = let a = read-clear π x t q out e in (ok.request Read (costs_in π x t) x.state q g a.2 a.1.more).same
      same-served (write t q start bytes) e =
          let a = write-clear π x t q start bytes e in (ok.request Write (costs_in π x t) x.state q g a.2 a.1.more).same
      same-served flush e = (ok.flush x.state g (flush-ready π x e).1.more).same
      same-served (drop q) e = let a = drop-ready π x q e in (ok.drop x.state q g a.2 a.1.more).same
      same-served total e = refl

  -- a good state over bytes that keep a history
  pub record Right (x : World π.State) (h : History) : Type 0 where
    pub good : ok.Good x.state
    pub keeps : Keeps (π.numbers x.state) (record { content = ok.content x.state; memory = x.memory }) h

  module _ (x : World π.State) (h : History) (r : Right x h) where
    abbrev numbers : Numbers
    numbers = π.numbers x.state

    abbrev buffer : Buffer
    buffer = record { content = ok.content x.state; memory = x.memory }

    -- ---- a read or a write that may be served

    module _ (t : Times) (q : ℕ) (inside : q < numbers.N) (more : (π.counts x.state).served < most_served) where
      abbrev outcome : Op → Outcome π.State
      outcome op = outcome_of π op x t q

      abbrev after-op : Op → ℕ → Content
      after-op op = content_after op q (outcome op).frame (outcome op).answer (ok.content x.state)

      kept : (op : Op) → Kept π ok.Good ok.content op x.state q (outcome op)
      kept op = ok.request op (costs_in π x t) x.state q r.good inside more

      -- the state afterwards holds what the moves say, over the numbers that it has kept
      afterwards : (op : Op) (m : Memory) (h' : History) → Keeps numbers (record { content = after-op op; memory = m }) h'
          → Right (record { state = (outcome op).state; memory = m }) h'
      afterwards op m h' k =
          record { good = (kept op).good; keeps = rw (kept op).same (keeps-same numbers _ _ m h' (λ f. sym ((kept op).contents f)) k) }

      read-bytes : Keeps numbers (record { content = after-op Read; memory = brought_in π x q (outcome Read) }) h
      read-bytes =
          let k = kept Read in
          read-keeps numbers buffer h r.keeps q (outcome Read).frame inside k.frame (outcome Read).answer k.right k.victim

      read-right : Right (record { state = (outcome Read).state; memory = brought_in π x q (outcome Read) }) h
      read-right = afterwards Read (brought_in π x q (outcome Read)) h read-bytes

      pub read-hands-out : handed_out π x q (outcome Read) ≡ h q
      read-hands-out =
          read-bytes.in_frame q (outcome Read).frame
          (read-has numbers buffer h r.keeps q (outcome Read).frame inside (kept Read).frame (outcome Read).answer (kept Read).right)

      write-right : (start : ℕ) (bytes : List ℕ) → start + length bytes ≤ numbers.P
          → Right (record { state = (outcome Write).state; memory = written_in π x q start bytes (outcome Write) }) (laid q start bytes h)
      write-right start bytes fit =
          afterwards Write (written_in π x q start bytes (outcome Write)) (laid q start bytes h)
          (write-keeps numbers buffer h r.keeps q (outcome Write).frame inside (kept Write).frame start bytes fit (outcome Write).answer
          (kept Write).right (kept Write).victim)

    flush-right : (π.counts x.state).served < most_served → Right (record { state = π.flushed x.state; memory = (served π x flush).memory }) h
    flush-right more =
        let k = ok.flush x.state r.good more in
        record {
          good = k.good;
          keeps = rw k.same
              (keeps-same numbers _ _ _ h k.contents (flush-keeps numbers buffer h r.keeps (π.page x.state) (π.dirty x.state) k.right));
        }

    drop-right : (q : ℕ) → q < numbers.N → (π.counts x.state).served < most_served
        → Right (record { state = π.dropped x.state q; memory = (served π x (drop q)).memory }) (cut numbers.P q h)
    drop-right q inside more =
        let k = ok.drop x.state q r.good inside more in
        record { good = k.good; keeps = rw k.same (keeps-same numbers _ _ _ _ k.contents (move-keeps numbers buffer h r.keeps (wipe q) inside)) }

    -- ---- any call

    pub call-right : (c : Call) → Right (after π x c) (told_by π (verdict_of π x c) x c h)
    call-right c =
        call-cases π x c (λ l. Right (record { state = l.state; memory = l.memory }) (told_by π (verdict_of π x c) x c h))
        (λ y e. rw e r) (λ e. rw e (right-served c e))
      where
        right-served : (d : Call) → verdict_of π x d ≡ Ok tt → Right (record { state = (served π x d).state; memory = (served π x d).memory })
            (told_by π (Ok tt) x d h)
        right-served (read t q out) e = let a = read-clear π x t q out e in read-right t q a.2 a.1.more
        right-served (write t q start bytes) e =
            let a = write-clear π x t q start bytes e in
            write-right t q a.2 a.1.more start bytes (stretch-fits _ start (length bytes) a.3).1
        right-served flush e = flush-right (flush-ready π x e).1.more
        right-served (drop q) e = let a = drop-ready π x q e in drop-right q a.2 a.1.more
        right-served total e = r

  pub run-right : (cs : List Call) (x : World π.State) (h : History) → Right x h → Right (after_all π x cs) (history π x cs h)
  run-right [] x h r = r
  run-right (c ∷ cs) x h r = run-right cs (after π x c) (told_by π (verdict_of π x c) x c h) (call-right x h r c)

  pub last-written : (x : World π.State) (h : History) → Right x h → (t : Times) (q : ℕ) (out : List ℕ)
      → verdict_of π x (read t q out) ≡ Ok tt → (left π x (read t q out)).out ≡ h q
  unfolding left
  last-written x h r t q out e =
      let a = read-clear π x t q out e in
      ap (λ (v : Verdict). (left_by π v x (read t q out)).out) e ∙ read-hands-out x h r t q a.2 a.1.more

  -- a page that was dropped just before is read as zeros
  pub drop-zeros : (x : World π.State) (h : History) → Right x h → (t : Times) (q : ℕ) (out : List ℕ) → verdict_of π x (drop q) ≡ Ok tt
      → verdict_of π (after π x (drop q)) (read t q out) ≡ Ok tt → (left π (after π x (drop q)) (read t q out)).out ≡ replicate (π.numbers x.state).P 0
  drop-zeros x h r t q out d e =
      let a = drop-ready π x q d in
      last-written (after π x (drop q)) (cut (π.numbers x.state).P q h) (rw d at (call-right x h r (drop q))) t q out e
      ∙ cut-here (π.numbers x.state) _ h r.keeps q a.2
