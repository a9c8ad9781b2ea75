-- Each move keeps every page as its history says, whatever the policy. Why: a load takes a page that no frame has, so the store is right about it, into
-- a frame whose own page, if any, the store has too; a write-back makes the store agree with the frame; an edit changes the one frame that has the
-- page, and marks it; a wiped page is in no frame. Any run of allowed moves follows by induction.
-- Assumes nothing.
use mathlib.Core.Path.{◌≡◌, refl, sym, ap, ◌∙◌, subst}
use mathlib.Core.Logic.{◌≢◌, dite}
use mathlib.Core.List.{List}
use Prim.Native.Nat.{ℕ, ◌+◌, ◌*◌, ◌≤◌, ◌<◌}
use native.Mathlib.Decide.{dec_le, ℕ_discrete}
use native.Mathlib.Omega.{arith}
use lib.ListN.{length, replicate, length-replicate}
use borrow.Author.Tests.{eq-eqb, ne_eqb}
use Rattle.pages.specs.Pages.{splice, page_of, with_page, InPages}
use Rattle.pages.proofs.Splice.{splice-all}
use Rattle.pages.proofs.Pages.{page-in, page_of-length, page_of-fits, with_page-length, splice-page_of-length, page_of-same, page_of-other, with_page-overlay}
use Rattle.model.specs.Numbers.{Numbers}
use Rattle.model.specs.Bytes.{Memory}
use Rattle.model.specs.Moves.{Content, vacant, clean, dirty, Has, HasDirty, Loose, without, Buffer, put}
use Rattle.model.specs.Moves.{Move, load, write_back, edit, wipe, apply, Allowed, History, laid, cut, told, Keeps}

-- ---- a function changed at one number

pub put-same : {A : Type 0} (f : ℕ) (a : A) (h : ℕ → A) → put f a h f ≡ a
put-same f a h = rw (eq-eqb f f refl)

pub put-other : {A : Type 0} (f : ℕ) (a : A) (h : ℕ → A) (g : ℕ) → f ≢ g → put f a h g ≡ h g
put-other f a h g n = rw (ne_eqb f g n)

-- what is to be shown of every number, shown at f and at the others
pub at-or-off : (T : ℕ → Type 0) (f : ℕ) → T f → ((g : ℕ) → f ≢ g → T g) → (g : ℕ) → T g
at-or-off T f here there g = dite (ℕ_discrete f g) (λ e. subst T e here) (λ n. there g n)

-- ---- what a frame has

dirty-has : (p : ℕ) (v : Content) → HasDirty p v → Has p v
dirty-has p vacant h = h
dirty-has p (clean q) h = absurd h
dirty-has p (dirty q) h = h

loose-clean : (p : ℕ) (v : Content) → Loose v → HasDirty p v → ⊥
loose-clean p vacant l h = h
loose-clean p (clean q) l h = h
loose-clean p (dirty q) l h = l

-- a frame has one page
has-same : (p q : ℕ) (v : Content) → Has p v → Has q v → p ≡ q
has-same p q vacant h k = absurd h
has-same p q (clean r) h k = sym h ∙ k
has-same p q (dirty r) h k = sym h ∙ k

-- a page that is gone is not there, and the others are
without-has : (p q : ℕ) (v : Content) → Has q (without p v) → (p ≢ q) × Has q v
without-has p q vacant h = absurd h
without-has p q (clean r) h =
    dite (ℕ_discrete p r) (λ e. absurd (rw (eq-eqb p r e) at h)) (λ n. let k : r ≡ q = rw (ne_eqb p r n) at h in (λ e. n (e ∙ sym k), k))
without-has p q (dirty r) h =
    dite (ℕ_discrete p r) (λ e. absurd (rw (eq-eqb p r e) at h)) (λ n. let k : r ≡ q = rw (ne_eqb p r n) at h in (λ e. n (e ∙ sym k), k))

without-dirty : (p q : ℕ) (v : Content) → p ≢ q → HasDirty q v → HasDirty q (without p v)
without-dirty p q vacant n h = absurd h
without-dirty p q (clean r) n h = absurd h
without-dirty p q (dirty r) n h = let m : p ≢ r = λ e. n (e ∙ h) in rw (ne_eqb p r m) h

pub without-here : (p : ℕ) (v : Content) → Has p v → without p v ≡ vacant
without-here p vacant h = refl
without-here p (clean q) h = rw (eq-eqb p q (sym h))
without-here p (dirty q) h = rw (eq-eqb p q (sym h))

pub without-off : (p : ℕ) (v : Content) → (Has p v → ⊥) → without p v ≡ v
without-off p vacant h = refl
without-off p (clean q) h = rw (ne_eqb p q (λ e. h (sym e)))
without-off p (dirty q) h = rw (ne_eqb p q (λ e. h (sym e)))

module _ (n : Numbers) (x : Buffer) (h : History) (k : Keeps n x h) where
  frame-in : (f : ℕ) → f < n.b → InPages n.P f (length x.memory.frames)
  frame-in f l = page-in n.P f n.b _ k.frames l

  stored-in : (p : ℕ) → p < n.N → InPages n.P p (length x.memory.store)
  stored-in p l = page-in n.P p n.N _ k.store l

  -- what each page is has no more bytes than a page: a frame has it so, or else the store
  history-fits : (p : ℕ) → p < n.N → length (h p) ≤ n.P
  history-fits p l =
      dite (dec_le (length (h p)) n.P) (λ e. e)
      (λ m.
      let none : (f : ℕ) → HasDirty p (x.content f) → ⊥ =
      λ f d. m (rw (k.in_frame p f (dirty-has p (x.content f) d)) at (page_of-fits n.P f x.memory.frames)) in
      rw (k.stored p l none) at (page_of-fits n.P p x.memory.store))

  -- ---- frame f comes to have page p alone, clean or dirty, and its bytes are `bytes`

  module _ (p f : ℕ) (v : Content) (fb : f < n.b) (only : (q : ℕ) → Has q v → p ≡ q) (alone : (g : ℕ) → f ≢ g → Has p (x.content g) → ⊥) where
    put-one : (q g j : ℕ) → Has q (put f v x.content g) → Has q (put f v x.content j) → g ≡ j
    put-one q =
        at-or-off (λ g. (j : ℕ) → Has q (put f v x.content g) → Has q (put f v x.content j) → g ≡ j) f
        (at-or-off (λ j. Has q (put f v x.content f) → Has q (put f v x.content j) → f ≡ j) f (λ a b. refl)
        (λ j m a b.
        let e : p ≡ q = only q (rw (put-same f v x.content) at a) in
        absurd (alone j m (rw (e, ← (put-other f v x.content j m)) b))))
        (λ g m. at-or-off (λ j. Has q (put f v x.content g) → Has q (put f v x.content j) → g ≡ j) f
        (λ a b.
        let e : p ≡ q = only q (rw (put-same f v x.content) at b) in
        absurd (alone g m (rw (e, ← (put-other f v x.content g m)) a)))
        (λ j l a b. k.one q g j (rw (put-other f v x.content g m) at a) (rw (put-other f v x.content j l) at b)))

    put-there : (bytes : List ℕ) (h' : History) → length bytes ≡ n.P → bytes ≡ h' p → ((q : ℕ) → p ≢ q → h q ≡ h' q)
        → (q g : ℕ) → Has q (put f v x.content g) → page_of n.P g (with_page n.P f bytes x.memory.frames) ≡ h' q
    put-there bytes h' l e same q =
        at-or-off (λ g. Has q (put f v x.content g) → page_of n.P g (with_page n.P f bytes x.memory.frames) ≡ h' q) f
        (λ a. page_of-same n.P f bytes x.memory.frames l (frame-in f fb) ∙ e ∙ ap h' (only q (rw (put-same f v x.content) at a)))
        (λ g m a.
        let b : Has q (x.content g) = rw (put-other f v x.content g m) at a in
        page_of-other n.P f g bytes x.memory.frames l (frame-in f fb) (λ d. m (sym d))
        ∙ k.in_frame q g b
        ∙ same q (λ d. alone g m (rw d b)))

  -- frame f takes content v: where none has page q dirty afterwards, and f had not, none had
  none-dirty : (q f : ℕ) (v : Content) → (HasDirty q (x.content f) → ⊥) → ((g : ℕ) → HasDirty q (put f v x.content g) → ⊥)
      → (g : ℕ) → HasDirty q (x.content g) → ⊥
  none-dirty q f v here none = at-or-off (λ g. HasDirty q (x.content g) → ⊥) f here (λ g m d. none g (rw (put-other f v x.content g m) d))

  -- ---- the four moves

  load-keeps : (p f : ℕ) → Allowed n (load p f) x → Keeps n (apply n.P (load p f) x) h
  load-keeps p f ok =
      let bytes : List ℕ = page_of n.P p x.memory.store in
      let l : length bytes ≡ n.P = page_of-length n.P p x.memory.store (stored-in p ok.0) in
      record {
        frames = with_page-length n.P f bytes x.memory.frames l (frame-in f ok.1) ∙ k.frames;
        store = k.store;
        one = put-one p f (clean p) ok.1 (λ q e. e) (λ g m. ok.3 g);
        in_frame = put-there p f (clean p) ok.1 (λ q e. e) (λ g m. ok.3 g) bytes h l
            (k.stored p ok.0 (λ g d. ok.3 g (dirty-has p (x.content g) d))) (λ q m. refl);
        stored = λ q ql none. k.stored q ql (none-dirty q f (clean p) (loose-clean q (x.content f) ok.2) none);
      }

  has-alone : (p f : ℕ) → Has p (x.content f) → (g : ℕ) → f ≢ g → Has p (x.content g) → ⊥
  has-alone p f a g m b = m (k.one p f g a b)

  back-keeps : (p f : ℕ) → Allowed n (write_back p f) x → Keeps n (apply n.P (write_back p f) x) h
  back-keeps p f ok =
      let bytes : List ℕ = page_of n.P f x.memory.frames in
      let l : length bytes ≡ n.P = page_of-length n.P f x.memory.frames (frame-in f ok.1) in
      record {
        frames = k.frames;
        store = with_page-length n.P p bytes x.memory.store l (stored-in p ok.0) ∙ k.store;
        one = put-one p f (clean p) ok.1 (λ q e. e) (has-alone p f ok.2);
        in_frame = λ q. at-or-off (λ g. Has q (put f (clean p) x.content g) → page_of n.P g x.memory.frames ≡ h q) f
            (λ a. let e : p ≡ q = rw (put-same f (clean p) x.content) at a in k.in_frame q f (rw (← e) ok.2))
            (λ g m a. k.in_frame q g (rw (put-other f (clean p) x.content g m) at a));
        stored = λ q ql none. dite (ℕ_discrete q p)
            (λ e. rw e (page_of-same n.P p bytes x.memory.store l (stored-in p ok.0) ∙ k.in_frame p f ok.2))
            (λ m. page_of-other n.P p q bytes x.memory.store l (stored-in p ok.0) m
            ∙ k.stored q ql (none-dirty q f (clean p) (λ d. m (has-same q p (x.content f) (dirty-has q (x.content f) d) ok.2)) none));
      }

  edit-keeps : (p f start : ℕ) (bytes : List ℕ) → Allowed n (edit p f start bytes) x → Keeps n (apply n.P (edit p f start bytes) x) (laid p start bytes h)
  edit-keeps p f start bytes ok =
      let was : List ℕ = page_of n.P f x.memory.frames in
      let now' : List ℕ = splice start bytes was in
      let l : length now' ≡ n.P = splice-page_of-length n.P f start bytes x.memory.frames ok.1 (frame-in f ok.0) in
      let e : splice (f * n.P + start) bytes x.memory.frames ≡ with_page n.P f now' x.memory.frames =
      with_page-overlay n.P f start bytes x.memory.frames ok.1 (frame-in f ok.0) in
      let same : (q : ℕ) → p ≢ q → h q ≡ laid p start bytes h q = λ q m. rw (ne_eqb p q m) in
      let here : now' ≡ laid p start bytes h p = rw (eq-eqb p p refl) (ap (splice start bytes) (k.in_frame p f ok.2)) in
      record {
        frames = ap length e ∙ with_page-length n.P f now' x.memory.frames l (frame-in f ok.0) ∙ k.frames;
        store = k.store;
        one = put-one p f (dirty p) ok.0 (λ q d. d) (has-alone p f ok.2);
        in_frame = λ q g a. ap (page_of n.P g) e
            ∙ put-there p f (dirty p) ok.0 (λ q d. d) (has-alone p f ok.2) now' (laid p start bytes h) l here same q g a;
        stored = λ q ql none.
            let m : p ≢ q = λ d. none f (rw (put-same f (dirty p) x.content) d) in
            k.stored q ql (none-dirty q f (dirty p) (λ d. m (has-same p q (x.content f) ok.2 (dirty-has q (x.content f) d))) none) ∙ same q m;
      }

  -- a page that is cut is zeros
  pub cut-here : (p : ℕ) → p < n.N → cut n.P p h p ≡ replicate n.P 0
  cut-here p l =
      let zeros : List ℕ = replicate n.P 0 in
      let e : length zeros ≡ n.P = length-replicate n.P 0 in
      rw (eq-eqb p p refl) (splice-all zeros (h p) (omega (arith, e, history-fits p l)))

  wipe-keeps : (p : ℕ) → p < n.N → Keeps n (apply n.P (wipe p) x) (cut n.P p h)
  wipe-keeps p pl =
      let zeros : List ℕ = replicate n.P 0 in
      let l : length zeros ≡ n.P = length-replicate n.P 0 in
      let same : (q : ℕ) → p ≢ q → h q ≡ cut n.P p h q = λ q m. rw (ne_eqb p q m) in
      record {
        frames = k.frames;
        store = with_page-length n.P p zeros x.memory.store l (stored-in p pl) ∙ k.store;
        one = λ q f g a b. k.one q f g (without-has p q (x.content f) a).1 (without-has p q (x.content g) b).1;
        in_frame = λ q f a. let w = without-has p q (x.content f) a in k.in_frame q f w.1 ∙ same q w.0;
        stored = λ q ql none. dite (ℕ_discrete p q)
            (λ e. subst (λ (z : ℕ). page_of n.P z (with_page n.P p zeros x.memory.store) ≡ cut n.P p h z) e
            (page_of-same n.P p zeros x.memory.store l (stored-in p pl) ∙ sym (cut-here p pl)))
            (λ m. page_of-other n.P p q zeros x.memory.store l (stored-in p pl) (λ d. m (sym d))
            ∙ k.stored q ql (λ g d. none g (without-dirty p q (x.content g) m d)) ∙ same q m);
      }

  pub move-keeps : (m : Move) → Allowed n m x → Keeps n (apply n.P m x) (told n.P m h)
  move-keeps (load p f) ok = load-keeps p f ok
  move-keeps (write_back p f) ok = back-keeps p f ok
  move-keeps (edit p f start bytes) ok = edit-keeps p f start bytes ok
  move-keeps (wipe p) ok = wipe-keeps p ok

-- from opening, with every frame vacant, each page is what the store first had
pub vacant-keeps : (n : Numbers) (m : Memory) → length m.frames ≡ n.b * n.P → length m.store ≡ n.N * n.P
    → Keeps n (record { content = λ f. vacant; memory = m }) (λ p. page_of n.P p m.store)
vacant-keeps n m hf hs =
    record { frames = hf; store = hs; one = λ p f g a b. absurd a; in_frame = λ p f a. absurd a; stored = λ p l none. refl }
