-- Frames, store and last written bytes, whatever the policy: what each frame holds, four moves, and what each move makes of a page.
--     Buffer     what each frame holds, with the bytes
--     Move       a page is loaded, written back, changed in its frame, or wiped
--     Allowed    when a move may be made: the policy has to see to it
--     Keeps      every page can be had as its history says
-- Assumes nothing.
use Rattle.std.specs.Prelude.{cond as if-else, ◌≡◌, List, ℕ, ◌+◌, ◌*◌, ◌≤◌, ◌<◌, eqb, length, replicate}
use Rattle.pages.specs.Pages.{splice, page_of, with_page}
use Rattle.model.specs.Numbers.{Numbers}
use Rattle.model.specs.Bytes.{Memory, fetched, overlaid, wiped}

-- a frame holds nothing, a page as it is in the store, or a page that was changed
pub data Content : Type 0 where
  vacant : Content
  clean : ℕ → Content
  dirty : ℕ → Content

abbrev pub Has : ℕ → Content → Type 0
Has p vacant = ⊥
Has p (clean q) = q ≡ p
Has p (dirty q) = q ≡ p

abbrev pub HasDirty : ℕ → Content → Type 0
HasDirty p vacant = ⊥
HasDirty p (clean q) = ⊥
HasDirty p (dirty q) = q ≡ p

-- nothing is lost if the frame is used for another page
abbrev pub Loose : Content → Type 0
Loose vacant = Unit {0}
Loose (clean q) = Unit {0}
Loose (dirty q) = ⊥

-- what is left of a content when page p is gone
abbrev pub without : ℕ → Content → Content
without p vacant = vacant
without p (clean q) = if-else (eqb p q) vacant (clean q)
without p (dirty q) = if-else (eqb p q) vacant (dirty q)

pub record Buffer : Type 0 where
  pub content : ℕ → Content
  pub memory : Memory

-- a function changed at one number
abbrev pub put : {A : Type 0} → ℕ → A → (ℕ → A) → ℕ → A
put f a h g = if-else (eqb f g) a (h g)

-- page, frame
pub data Move : Type 0 where
  load : ℕ → ℕ → Move
  write_back : ℕ → ℕ → Move
  -- and where the new bytes start, and the bytes
  edit : ℕ → ℕ → ℕ → List ℕ → Move
  -- the page becomes zero in the store, and no frame holds it
  wipe : ℕ → Move

abbrev pub apply : ℕ → Move → Buffer → Buffer
apply P (load p f) x = record { content = put f (clean p) x.content; memory = fetched P f p x.memory }
apply P (write_back p f) x =
    record {
      content = put f (clean p) x.content;
      memory = record { frames = x.memory.frames; store = with_page P p (page_of P f x.memory.frames) x.memory.store };
    }
apply P (edit p f start bytes) x = record { content = put f (dirty p) x.content; memory = overlaid P f start bytes x.memory }
apply P (wipe p) x = record { content = λ f. without p (x.content f); memory = wiped P p x.memory }

-- no frame has page p
abbrev pub Nowhere : Buffer → ℕ → Type 0
Nowhere x p = (f : ℕ) → Has p (x.content f) → ⊥

-- pages are below N and frames below b; bytes end within the page
abbrev pub Allowed : Numbers → Move → Buffer → Type 0
Allowed n (load p f) x = (p < n.N) × (f < n.b) × Loose (x.content f) × Nowhere x p
Allowed n (write_back p f) x = (p < n.N) × (f < n.b) × Has p (x.content f)
Allowed n (edit p f start bytes) x = (f < n.b) × (start + length bytes ≤ n.P) × Has p (x.content f)
Allowed n (wipe p) x = p < n.N

-- what each page is
abbrev pub History : Type 0
History = ℕ → List ℕ

-- the bytes from `start` on are laid over page p
abbrev pub laid : ℕ → ℕ → List ℕ → History → History
laid p start bytes h q = if-else (eqb p q) (splice start bytes (h q)) (h q)

-- "counts a drop as a write of P zeros"
abbrev pub cut : ℕ → ℕ → History → History
cut P p h = laid p 0 (replicate P 0) h

-- what a move makes of the pages
abbrev pub told : ℕ → Move → History → History
told P (load p f) h = h
told P (write_back p f) h = h
told P (edit p f start bytes) h = laid p start bytes h
told P (wipe p) h = cut P p h

-- the bytes have their sizes; a page that a frame has is there as its history says, and in the store too unless the frame's is dirty
pub record Keeps (n : Numbers) (x : Buffer) (h : History) : Type 0 where
  pub frames : length x.memory.frames ≡ n.b * n.P
  pub store : length x.memory.store ≡ n.N * n.P
  pub one : (p f g : ℕ) → Has p (x.content f) → Has p (x.content g) → f ≡ g
  pub in_frame : (p f : ℕ) → Has p (x.content f) → page_of n.P f x.memory.frames ≡ h p
  pub stored : (p : ℕ) → p < n.N → ((f : ℕ) → HasDirty p (x.content f) → ⊥) → page_of n.P p x.memory.store ≡ h p
