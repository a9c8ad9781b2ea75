-- What a request and a flush do to the bytes, whatever the policy, is what moves do. A hit makes no move; a fault loads the page, after the write-back of
-- a dirty victim; a write then edits the page in its frame; a flush writes back from the last to the first. So they keep every page as its history says,
-- if the policy's answer is right about what the frame holds.
-- Assumes nothing.
use Rattle.std.specs.Prelude.{Option, Some, None, Ok, Err}
use mathlib.Core.Path.{◌≡◌, refl, sym, ap, ◌∙◌, subst}
use mathlib.Core.Logic.{◌≢◌, dite}
use mathlib.Core.List.{List, [], ◌∷◌}
use Prim.Native.Nat.{ℕ, ◌+◌, ◌≤◌, ◌<◌}
use native.Mathlib.Decide.{ℕ_discrete}
use native.Mathlib.Omega.{arith}
use lib.ListN.{length, get_or}
use Rattle.order.specs.Count.{count}
use Rattle.order.proofs.Count.{bit-same, bit-other}
use Rattle.pages.specs.Memory.{written_back}
use Rattle.model.specs.Numbers.{Numbers}
use Rattle.model.specs.Bytes.{Memory, brought, overlaid, flushed_bytes}
use Rattle.model.specs.Moves.{Content, clean, dirty, Has, Loose, Buffer, put, load, write_back, edit, History, laid, Keeps}
use Rattle.model.specs.declared.Op.{Op}
use Rattle.model.specs.declared.Op.TheVariants.{Read, Write}
use Rattle.model.specs.declared.Victim.{Victim}
use Rattle.model.specs.declared.Victim.TheVariants.{Clean, Dirty}
use Rattle.model.specs.Words.{Answer}
use Rattle.model.specs.declared.Access.TheVariants.{Hit, Fault}
use Rattle.model.proofs.Moves.{put-same, put-other, at-or-off, move-keeps}

-- a victim that an answer names is a page of the store
abbrev pub VictimBelow : ℕ → Answer → Type 0
VictimBelow N (Err x) = Unit {0}
VictimBelow N (Ok Hit) = Unit {0}
VictimBelow N (Ok (Fault None)) = Unit {0}
VictimBelow N (Ok (Fault (Some (Clean q)))) = q < N
VictimBelow N (Ok (Fault (Some (Dirty q)))) = q < N

-- the answer to a request for page q, served in frame f, is right about what frames hold
abbrev pub AnswerRight : (ℕ → Content) → ℕ → ℕ → Answer → Type 0
AnswerRight h q f (Err x) = ⊥
AnswerRight h q f (Ok Hit) = Has q (h f)
AnswerRight h q f (Ok (Fault None)) = Loose (h f) × ((g : ℕ) → Has q (h g) → ⊥)
AnswerRight h q f (Ok (Fault (Some (Clean p)))) = Loose (h f) × ((g : ℕ) → Has q (h g) → ⊥)
AnswerRight h q f (Ok (Fault (Some (Dirty p)))) = Has p (h f) × ((g : ℕ) → Has q (h g) → ⊥)

-- what frames hold after a request for page q that was served in frame f
abbrev pub content_after : Op → ℕ → ℕ → Answer → (ℕ → Content) → ℕ → Content
content_after Read q f (Err x) h = h
content_after Read q f (Ok Hit) h = h
content_after Read q f (Ok (Fault v)) h = put f (clean q) h
content_after Write q f a h = put f (dirty q) h

-- and after a flush of the frames of a list
abbrev pub cleaned_by : List ℕ → List ℕ → (ℕ → Content) → ℕ → Content
cleaned_by page [] h = h
cleaned_by page (f ∷ fs) h = put f (clean (get_or page f 0)) (cleaned_by page fs h)

-- only what each frame holds counts
pub keeps-same : (n : Numbers) (a b : ℕ → Content) (m : Memory) (h : History) → ((f : ℕ) → a f ≡ b f)
    → Keeps n (record { content = a; memory = m }) h → Keeps n (record { content = b; memory = m }) h
keeps-same n a b m h e k = subst (λ (z : Buffer). Keeps n z h) (λ i. record { content = λ f. e f i; memory = m }) k

put-put : {A : Type 0} (f : ℕ) (a b : A) (h : ℕ → A) (g : ℕ) → put f a (put f b h) g ≡ put f a h g
put-put f a b h =
    at-or-off (λ g. put f a (put f b h) g ≡ put f a h g) f (put-same f a (put f b h) ∙ sym (put-same f a h))
    (λ g n. put-other f a (put f b h) g n ∙ put-other f b h g n ∙ sym (put-other f a h g n))

module _ (n : Numbers) (x : Buffer) (h : History) (k : Keeps n x h) (q f : ℕ) (ql : q < n.N) (fb : f < n.b) where
  fault-keeps : (v : Option Victim) → AnswerRight x.content q f (Ok (Fault v)) → VictimBelow n.N (Ok (Fault v))
      → Keeps n (record { content = put f (clean q) x.content; memory = brought n.P f q (Ok (Fault v)) x.memory }) h
  fault-keeps None ok below = move-keeps n x h k (load q f) (ql, fb, ok.0, ok.1)
  fault-keeps (Some (Clean p)) ok below = move-keeps n x h k (load q f) (ql, fb, ok.0, ok.1)
  fault-keeps (Some (Dirty p)) ok below =
      keeps-same n _ _ _ h (put-put f (clean q) (clean p) x.content)
      (move-keeps n _ h (move-keeps n x h k (write_back p f) (below, fb, ok.0)) (load q f) (
        ql,
        fb,
        rw (put-same f (clean p) x.content) tt,
        at-or-off (λ g. Has q (put f (clean p) x.content g) → ⊥) f
            (λ a. let e : p ≡ q = rw (put-same f (clean p) x.content) at a in ok.1 f (rw (← e) ok.0))
            (λ g o a. ok.1 g (rw (put-other f (clean p) x.content g o) at a)),
      ))

  pub read-keeps : (a : Answer) → AnswerRight x.content q f a → VictimBelow n.N a
      → Keeps n (record { content = content_after Read q f a x.content; memory = brought n.P f q a x.memory }) h
  read-keeps (Err y) ok below = absurd ok
  read-keeps (Ok Hit) ok below = k
  read-keeps (Ok (Fault v)) ok below = fault-keeps v ok below

  pub read-has : (a : Answer) → AnswerRight x.content q f a → Has q (content_after Read q f a x.content f)
  read-has (Err y) ok = absurd ok
  read-has (Ok Hit) ok = ok
  read-has (Ok (Fault v)) ok = rw (put-same f (clean q) x.content) refl

  pub write-keeps : (start : ℕ) (bytes : List ℕ) → start + length bytes ≤ n.P → (a : Answer) → AnswerRight x.content q f a → VictimBelow n.N a
      → Keeps n (record { content = content_after Write q f a x.content; memory = overlaid n.P f start bytes (brought n.P f q a x.memory) })
      (laid q start bytes h)
  write-keeps start bytes fit (Err y) ok below = absurd ok
  write-keeps start bytes fit (Ok Hit) ok below = move-keeps n x h k (edit q f start bytes) (fb, fit, ok)
  write-keeps start bytes fit (Ok (Fault v)) ok below =
      keeps-same n _ _ _ _ (put-put f (dirty q) (clean q) x.content)
      (move-keeps n _ h (fault-keeps v ok below) (edit q f start bytes) (fb, fit, rw (put-same f (clean q) x.content) refl))

-- ---- a flush

cleaned_by-has : (page fs : List ℕ) (h : ℕ → Content) (f : ℕ) → Has (get_or page f 0) (h f) → Has (get_or page f 0) (cleaned_by page fs h f)
cleaned_by-has page [] h f a = a
cleaned_by-has page (g ∷ fs) h f a =
    dite (ℕ_discrete g f)
    (λ e. rw (← e, put-same g (clean (get_or page g 0)) (cleaned_by page fs h)) refl)
    (λ n. rw (put-other g (clean (get_or page g 0)) (cleaned_by page fs h) f n) (cleaned_by-has page fs h f a))

pub cleaned_by-in : (page fs : List ℕ) (h : ℕ → Content) (f : ℕ) → 1 ≤ count f fs → cleaned_by page fs h f ≡ clean (get_or page f 0)
cleaned_by-in page [] h f l = absurd (omega arith)
cleaned_by-in page (g ∷ fs) h f l =
    dite (ℕ_discrete g f)
    (λ e. rw (← e) (put-same g (clean (get_or page g 0)) (cleaned_by page fs h)))
    (λ n. put-other g (clean (get_or page g 0)) (cleaned_by page fs h) f n ∙ cleaned_by-in page fs h f (omega (arith, bit-other g f n)))

pub cleaned_by-out : (page fs : List ℕ) (h : ℕ → Content) (f : ℕ) → count f fs ≡ 0 → cleaned_by page fs h f ≡ h f
cleaned_by-out page [] h f e = refl
cleaned_by-out page (g ∷ fs) h f e =
    let n : g ≢ f = λ (d : g ≡ f). omega (arith, bit-same g, ap (λ (z : ℕ). count z (g ∷ fs)) d) in
    put-other g (clean (get_or page g 0)) (cleaned_by page fs h) f n ∙ cleaned_by-out page fs h f (omega arith)

pub flush-keeps : (n : Numbers) (x : Buffer) (h : History) → Keeps n x h → (page fs : List ℕ)
    → ((f : ℕ) → 1 ≤ count f fs → (get_or page f 0 < n.N) × (f < n.b) × Has (get_or page f 0) (x.content f))
    → Keeps n (record { content = cleaned_by page fs x.content; memory = flushed_bytes n.P page fs x.memory }) h
unfolding written_back
flush-keeps n x h k page [] all = k
flush-keeps n x h k page (f ∷ fs) all =
    let a = all f (omega (arith, bit-same f)) in
    move-keeps n _ h (flush-keeps n x h k page fs (λ g l. all g (omega arith))) (write_back (get_or page f 0) f)
    (a.0, a.1, cleaned_by-has page fs x.content f a.2)
