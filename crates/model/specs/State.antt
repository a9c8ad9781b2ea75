-- What a pool holds, as plain lists and numbers. Every state is made by `opened` and the setters below.
-- Assumes nothing.
use Rattle.std.specs.Prelude.{List, [], ℕ, ◌+◌, get_or, set, replicate}
use Rattle.order.specs.Lists.{down_from}
use Rattle.order.specs.Count.{count}
use Rattle.model.specs.Numbers.{Numbers}
use Rattle.model.specs.Counts.{Counts, counted_by}
use Rattle.model.specs.Frames.{Frames}

-- frame numbers: empty, of which the last is taken first; clean and dirty, the most recently used first
pub record Lists : Type 0 where
  pub E : List ℕ
  pub C : List ℕ
  pub D : List ℕ

pub record State : Type 0 where
  pub numbers : Numbers
  pub lists : Lists
  -- the page in each of the b frames
  pub page : List ℕ
  -- "the number of the served call that last read or wrote its page", of each of them
  pub reference : List ℕ
  pub target : ℕ
  pub counts : Counts

-- "E = b−1, .., 1, 0 (frame 0 is the tail and taken first), C and D empty, everything else 0"
abbrev pub opened : Numbers → State
opened n =
    record {
      numbers = n;
      lists = record { E = down_from n.b; C = []; D = [] };
      page = replicate n.b 0;
      reference = replicate n.b 0;
      target = 0;
      counts = record { served = 0; nR = 0; nW = 0 };
    }

-- ---- setters

abbrev pub with_lists : List ℕ → List ℕ → List ℕ → State → State
with_lists e c d s =
    record {
      numbers = s.numbers;
      lists = record { E = e; C = c; D = d };
      page = s.page;
      reference = s.reference;
      target = s.target;
      counts = s.counts;
    }

-- page q is in frame f
abbrev pub with_page_in : ℕ → ℕ → State → State
with_page_in f q s =
    record {
      numbers = s.numbers;
      lists = s.lists;
      page = set s.page f q;
      reference = s.reference;
      target = s.target;
      counts = s.counts;
    }

abbrev pub with_target : ℕ → State → State
with_target τ s =
    record { numbers = s.numbers; lists = s.lists; page = s.page; reference = s.reference; target = τ; counts = s.counts }

-- one more served call, with so many physical reads and writes
abbrev pub counted : ℕ → ℕ → State → State
counted reads writes s =
    record {
      numbers = s.numbers;
      lists = s.lists;
      page = s.page;
      reference = s.reference;
      target = s.target;
      counts = counted_by reads writes s.counts;
    }

-- the last served call read or wrote the page of frame f: its number is the served count
abbrev pub referenced : ℕ → State → State
referenced f s =
    record {
      numbers = s.numbers;
      lists = s.lists;
      page = s.page;
      reference = set s.reference f s.counts.served;
      target = s.target;
      counts = s.counts;
    }

-- frame f is empty: its page and its number, which have no meaning, are 0
abbrev pub emptied : ℕ → State → State
emptied f s =
    record {
      numbers = s.numbers;
      lists = s.lists;
      page = set s.page f 0;
      reference = set s.reference f 0;
      target = s.target;
      counts = s.counts;
    }

-- ---- readers

abbrev pub page_in : State → ℕ → ℕ
page_in s f = get_or s.page f 0

-- the reference number of frame f
abbrev pub number_in : State → ℕ → ℕ
number_in s f = get_or s.reference f 0

-- how often a frame stands in C and D, and in all three lists
abbrev pub resident : Lists → ℕ → ℕ
resident l f = count f l.C + count f l.D

abbrev pub standing : Lists → ℕ → ℕ
standing l f = count f l.E + resident l f

-- the state by its frames: those of C and D are resident, those of D unsaved
abbrev pub frames_of : State → Frames
frames_of s = record { empty = λ f. count f s.lists.E; resident = resident s.lists; unsaved = λ f. count f s.lists.D; page = s.page }
