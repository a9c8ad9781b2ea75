-- What frames have, whatever lists a policy keeps: how often a frame stands as empty and as resident, how often it is marked unsaved, and its page. And what a
-- request, a flush and a drop may do to that.
--     content_in    what each frame holds
--     Placed       every frame stands once; pages are of the store and apart
--     Step         a request's answer, and what it leaves
--     FlushStep    what a flush leaves
--     DropStep     what a drop leaves
-- Assumes nothing.
use Rattle.std.specs.Prelude.{◌≡◌, ◌≢◌, List, ℕ, zero, suc, ◌+◌, ◌≤◌, ◌<◌, length, get_or, set, Option, Some, None, Ok, Err}
use Rattle.order.specs.Count.{count}
use Rattle.model.specs.Numbers.{Numbers}
use Rattle.model.specs.Moves.{Content, vacant, clean, dirty}
use Rattle.model.specs.declared.Op.{Op}
use Rattle.model.specs.declared.Op.TheVariants.{Read, Write}
use Rattle.model.specs.declared.Victim.{Victim}
use Rattle.model.specs.declared.Victim.TheVariants.{Clean, Dirty}
use Rattle.model.specs.Words.{Answer}
use Rattle.model.specs.declared.Access.TheVariants.{Hit, Fault}

pub record Frames : Type 0 where
  pub empty : ℕ → ℕ
  pub resident : ℕ → ℕ
  pub unsaved : ℕ → ℕ
  pub page : List ℕ

abbrev pub page_at : Frames → ℕ → ℕ
page_at x f = get_or x.page f 0

-- by how often a frame is resident, how often unsaved, and its page
abbrev pub content_by : ℕ → ℕ → ℕ → Content
content_by zero d q = vacant
content_by (suc r) zero q = clean q
content_by (suc r) (suc d) q = dirty q

abbrev pub content_in : Frames → ℕ → Content
content_in x f = content_by (x.resident f) (x.unsaved f) (page_at x f)

pub record Placed (n : Numbers) (x : Frames) : Type 0 where
  -- every frame is empty or resident, once, and nothing else is
  pub once : (f : ℕ) → f < n.b → x.empty f + x.resident f ≡ 1
  pub others : (f : ℕ) → n.b ≤ f → x.empty f + x.resident f ≡ 0
  -- there is a page for each frame; that of a resident frame is below N, and in no other such frame
  pub paged : length x.page ≡ n.b
  pub inside : (f : ℕ) → 1 ≤ x.resident f → page_at x f < n.N
  pub apart : (f g : ℕ) → 1 ≤ x.resident f → 1 ≤ x.resident g → page_at x f ≡ page_at x g → f ≡ g

-- the page of an empty frame, which has no meaning, is 0
abbrev pub Blank : Frames → Type 0
Blank x = (f : ℕ) → 1 ≤ x.empty f → page_at x f ≡ 0

-- ---- a request for page q, served in frame f, between x and y

-- a read leaves the mark of its frame, and a write sets it; a frame that was loaded to be read is saved
abbrev pub HitMark : Op → ℕ → ℕ → Type 0
HitMark Read before after = after ≡ before
HitMark Write before after = 1 ≤ after

abbrev pub FaultMark : Op → ℕ → Type 0
FaultMark Read after = after ≡ 0
FaultMark Write after = 1 ≤ after

pub record HitStep (op : Op) (q f : ℕ) (x y : Frames) : Type 0 where
  pub here : 1 ≤ x.resident f
  pub has : page_at x f ≡ q
  pub empty_same : (g : ℕ) → y.empty g ≡ x.empty g
  pub resident_same : (g : ℕ) → y.resident g ≡ x.resident g
  pub page_same : y.page ≡ x.page
  pub mark : HitMark op (x.unsaved f) (y.unsaved f)
  pub mark_off : (g : ℕ) → f ≢ g → y.unsaved g ≡ x.unsaved g

-- the victim of a frame that is resident r times and unsaved d times, with page p
abbrev pub VictimOf : Option Victim → ℕ → ℕ → ℕ → Type 0
VictimOf None r d p = r ≡ 0
VictimOf (Some (Clean w)) r d p = (1 ≤ r) × (d ≡ 0) × (w ≡ p)
VictimOf (Some (Dirty w)) r d p = (1 ≤ r) × (w ≡ p)

pub record FaultStep (op : Op) (q f : ℕ) (v : Option Victim) (x y : Frames) : Type 0 where
  pub absent : (g : ℕ) → 1 ≤ x.resident g → page_at x g ≢ q
  pub stands : 1 ≤ x.empty f + x.resident f
  pub victim : VictimOf v (x.resident f) (x.unsaved f) (page_at x f)
  pub gone : y.empty f ≡ 0
  pub here : y.resident f ≡ 1
  pub empty_off : (g : ℕ) → f ≢ g → y.empty g ≡ x.empty g
  pub resident_off : (g : ℕ) → f ≢ g → y.resident g ≡ x.resident g
  pub page_set : y.page ≡ set x.page f q
  pub mark : FaultMark op (y.unsaved f)
  pub mark_off : (g : ℕ) → f ≢ g → y.unsaved g ≡ x.unsaved g

abbrev pub Step : Op → ℕ → ℕ → Answer → Frames → Frames → Type 0
Step op q f (Err e) x y = ⊥
Step op q f (Ok Hit) x y = HitStep op q f x y
Step op q f (Ok (Fault v)) x y = FaultStep op q f v x y

-- ---- a flush of the frames of a list, between x and y

pub record FlushStep (fs : List ℕ) (x y : Frames) : Type 0 where
  pub empty_same : (g : ℕ) → y.empty g ≡ x.empty g
  pub resident_same : (g : ℕ) → y.resident g ≡ x.resident g
  pub page_same : y.page ≡ x.page
  -- the frames of the list are resident; a resident frame that is not of it is saved already
  pub listed : (g : ℕ) → 1 ≤ count g fs → 1 ≤ x.resident g
  pub rest : (g : ℕ) → count g fs ≡ 0 → 1 ≤ x.resident g → x.unsaved g ≡ 0
  pub saved : (g : ℕ) → y.unsaved g ≡ 0

-- ---- a drop of page q, between x and y

-- frame f had it, and is empty now
pub record VacatedStep (q f : ℕ) (x y : Frames) : Type 0 where
  pub here : 1 ≤ x.resident f
  pub has : page_at x f ≡ q
  pub stands : (g : ℕ) → y.empty g + y.resident g ≡ x.empty g + x.resident g
  pub gone : y.resident f ≡ 0
  pub resident_off : (g : ℕ) → f ≢ g → y.resident g ≡ x.resident g
  pub page_set : y.page ≡ set x.page f 0
  pub mark_off : (g : ℕ) → f ≢ g → y.unsaved g ≡ x.unsaved g

-- no frame had it
pub record MissedStep (q : ℕ) (x y : Frames) : Type 0 where
  pub absent : (g : ℕ) → 1 ≤ x.resident g → page_at x g ≢ q
  pub empty_same : (g : ℕ) → y.empty g ≡ x.empty g
  pub resident_same : (g : ℕ) → y.resident g ≡ x.resident g
  pub page_same : y.page ≡ x.page
  pub mark_same : (g : ℕ) → y.unsaved g ≡ x.unsaved g

pub data DropStep (q : ℕ) (x y : Frames) : Type 0 where
  vacates : (f : ℕ) → VacatedStep q f x y → DropStep q x y
  misses : MissedStep q x y → DropStep q x y
