-- One request, Algorithm 1 of the paper with the scope's rounding and empty-list rule, a flush, and a drop. Line numbers are the paper's.
--     locate     where a page is
--     chosen     which frame a fault takes: nothing else knows the empty-list rule
--     taken      that frame out of its list, with its victim
--     request    the next state, the frame that has the page, and the answer
--     flushed, dropped    the next state
--     states     all of it as a policy
-- Assumes nothing.
use Rattle.std.specs.Prelude.{Bool, true, cond as if-else, List, [], ◌∷◌, ◌++◌, ℕ, ◌-◌, ◌<◌, length, get_or, ltb, Option, Some, None, Ok}
use Rattle.order.specs.Lists.{remove_at, move_to_front}
use Rattle.order.specs.Find.{find_from}
use Rattle.order.specs.Merge.{merged}
use Rattle.model.specs.Target.{Costs, Adjustment, up, down, adjust, above_target}
use Rattle.model.specs.Policy.{Outcome, Policy}
use Rattle.model.specs.State.{State, with_lists, with_page_in, with_target, counted, referenced, emptied, page_in}
use Rattle.model.specs.declared.Op.{Op}
use Rattle.model.specs.declared.Op.TheVariants.{Read, Write}
use Rattle.model.specs.declared.Place.{Place}
use Rattle.model.specs.declared.Place.TheVariants.{InClean, InDirty}
use Rattle.model.specs.declared.Choice.{Choice}
use Rattle.model.specs.declared.Choice.TheVariants.{OfEmpty, OfClean, OfDirty}
use Rattle.model.specs.declared.Victim.{Victim}
use Rattle.model.specs.declared.Victim.TheVariants.{Clean, Dirty}
use Rattle.model.specs.declared.Access.TheVariants.{Hit, Fault}

-- ---- where a page is

abbrev pub place_by : Option ℕ → Option ℕ → Option Place
place_by (Some i) in_d = Some (InClean i)
place_by None (Some i) = Some (InDirty i)
place_by None None = None

abbrev pub locate : State → ℕ → Option Place
locate s q = place_by (find_from 0 s.page q s.lists.C) (find_from 0 s.page q s.lists.D)

-- ---- which frame a fault takes

-- of a full pool with c clean and d dirty frames, by whether c is above the target: lines 17 to 20, and the last of C where D is empty
abbrev pub victim_by : Bool → ℕ → ℕ → Choice
victim_by above c d = if-else above (OfClean (c - 1)) (if-else (ltb 0 d) (OfDirty (d - 1)) (OfClean (c - 1)))

-- lines 15 and 16: the tail of E if E has one
abbrev pub chosen_by : ℕ → ℕ → ℕ → ℕ → Choice
chosen_by e c d τ = if-else (ltb 0 e) (OfEmpty (e - 1)) (victim_by (above_target c τ) c d)

abbrev pub chosen : State → Choice
chosen s = chosen_by (length s.lists.E) (length s.lists.C) (length s.lists.D) s.target

-- the chosen place is one of its list, of e empty, c clean and d dirty frames
abbrev pub ChoiceIn : ℕ → ℕ → ℕ → Choice → Type 0
ChoiceIn e c d (OfEmpty i) = i < e
ChoiceIn e c d (OfClean i) = i < c
ChoiceIn e c d (OfDirty i) = i < d

-- ---- the chosen frame leaves its list

pub record Taken : Type 0 where
  pub state : State
  pub frame : ℕ
  pub victim : Option Victim

abbrev pub taken : State → Choice → Taken
taken s (OfEmpty i) =
    record {
      state = with_lists (remove_at i s.lists.E) s.lists.C s.lists.D s;
      frame = get_or s.lists.E i 0;
      victim = None;
    }
taken s (OfClean i) =
    record {
      state = with_lists s.lists.E (remove_at i s.lists.C) s.lists.D s;
      frame = get_or s.lists.C i 0;
      victim = Some (Clean (page_in s (get_or s.lists.C i 0)));
    }
taken s (OfDirty i) =
    record {
      state = with_lists s.lists.E s.lists.C (remove_at i s.lists.D) s;
      frame = get_or s.lists.D i 0;
      victim = Some (Dirty (page_in s (get_or s.lists.D i 0)));
    }

-- line 21: a dirty victim is written
abbrev pub writes_of : Option Victim → ℕ
writes_of None = 0
writes_of (Some (Clean q)) = 0
writes_of (Some (Dirty q)) = 1

-- ---- what a request does

-- a hit on frame f leaves state s, with its call counted and its number given to the frame
abbrev pub hit : ℕ → State → Outcome State
hit f s = record { state = referenced f (counted 0 0 s); frame = f; answer = Ok Hit }

-- lines 2 to 4
abbrev pub read_clean : Costs → State → ℕ → Outcome State
read_clean k s i =
    hit (get_or s.lists.C i 0)
    (with_target (adjust s.numbers.b s.target (up k (length s.lists.C) (length s.lists.D)))
    (with_lists s.lists.E (move_to_front i s.lists.C) s.lists.D s))

-- lines 5 and 6
abbrev pub write_clean : State → ℕ → Outcome State
write_clean s i =
    hit (get_or s.lists.C i 0)
    (with_lists s.lists.E (remove_at i s.lists.C) (get_or s.lists.C i 0 ∷ s.lists.D) s)

-- lines 7 to 9
abbrev pub write_dirty : Costs → State → ℕ → Outcome State
write_dirty k s i =
    hit (get_or s.lists.D i 0)
    (with_target (adjust s.numbers.b s.target (down k (length s.lists.C) (length s.lists.D)))
    (with_lists s.lists.E s.lists.C (move_to_front i s.lists.D) s))

-- lines 10 to 12
abbrev pub read_dirty : State → ℕ → Outcome State
read_dirty s i =
    hit (get_or s.lists.D i 0) (with_lists s.lists.E s.lists.C (move_to_front i s.lists.D) s)

-- lines 24 to 27: page q is in frame f, which goes to the front of C or D
abbrev pub loaded : Op → ℕ → ℕ → State → State
loaded Read f q s = with_page_in f q (with_lists s.lists.E (f ∷ s.lists.C) s.lists.D s)
loaded Write f q s = with_page_in f q (with_lists s.lists.E s.lists.C (f ∷ s.lists.D) s)

-- lines 14 to 27; line 22 is the physical read
abbrev pub fault_into : Op → ℕ → Taken → Outcome State
fault_into op q t =
    record {
      state = referenced t.frame (counted 1 (writes_of t.victim) (loaded op t.frame q t.state));
      frame = t.frame;
      answer = Ok (Fault t.victim);
    }

abbrev pub faulted : Op → State → ℕ → Outcome State
faulted op s q = fault_into op q (taken s (chosen s))

abbrev pub request_at : Op → Costs → State → ℕ → Option Place → Outcome State
request_at Read k s q (Some (InClean i)) = read_clean k s i
request_at Write k s q (Some (InClean i)) = write_clean s i
request_at Write k s q (Some (InDirty i)) = write_dirty k s i
request_at Read k s q (Some (InDirty i)) = read_dirty s i
request_at Read k s q None = faulted Read s q
request_at Write k s q None = faulted Write s q

abbrev pub request : Op → Costs → State → ℕ → Outcome State
request op k s q = request_at op k s q (locate s q)

-- ---- a flush: the pages of D are written from last to first, and it "merges both lists, latest reference first"; it gives nobody its number

abbrev pub flushed : State → State
flushed s = counted 0 (length s.lists.D) (with_lists s.lists.E (merged s.reference s.lists.D s.lists.C) [] s)

-- ---- a drop of a page: "if it was resident, its frame leaves C or D and becomes the tail of E, so the next fault uses it. τ stays."

-- frame f, which has left its list, becomes the tail of E
abbrev pub vacated : ℕ → State → State
vacated f s = emptied f (with_lists (s.lists.E ++ (f ∷ [])) s.lists.C s.lists.D s)

abbrev pub vacated_by : Taken → State
vacated_by t = vacated t.frame t.state

abbrev pub vacated_at : State → Option Place → State
vacated_at s (Some (InClean i)) = vacated_by (taken s (OfClean i))
vacated_at s (Some (InDirty i)) = vacated_by (taken s (OfDirty i))
vacated_at s None = s

-- "counted as one physical write", wherever the page was
abbrev pub dropped_at : State → Option Place → State
dropped_at s x = counted 0 1 (vacated_at s x)

abbrev pub dropped : State → ℕ → State
dropped s q = dropped_at s (locate s q)

-- ---- CASA as a policy, on plain states; pools that hold them are tested for soundness

abbrev pub states : Policy
states =
    record {
      State = State;
      sound = λ s. true;
      numbers = λ s. s.numbers;
      counts = λ s. s.counts;
      request = request;
      flushed = flushed;
      dropped = dropped;
      dirty = λ s. s.lists.D;
      page = λ s. s.page;
    }

-- ---- the adjustments that a request makes, with the sizes that the lists have then

abbrev pub adjustments_at : Op → Costs → State → Option Place → List Adjustment
adjustments_at Read k s (Some (InClean i)) = up k (length s.lists.C) (length s.lists.D) ∷ []
adjustments_at Write k s (Some (InClean i)) = []
adjustments_at Write k s (Some (InDirty i)) = down k (length s.lists.C) (length s.lists.D) ∷ []
adjustments_at Read k s (Some (InDirty i)) = []
adjustments_at Read k s None = []
adjustments_at Write k s None = []

abbrev pub adjustments_of : Op → Costs → State → ℕ → List Adjustment
adjustments_of op k s q = adjustments_at op k s (locate s q)
