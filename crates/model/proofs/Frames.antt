-- Frames whatever the policy: a step keeps them placed, its answer is right about what they hold, and it leaves what `content_after` says; a flush leaves what
-- `cleaned_by` says, and a drop what `without` says. All by how often a frame stands as empty, as resident and as unsaved.
-- Assumes nothing.
use Rattle.std.specs.Prelude.{Option, Some, None, Ok, Err}
use mathlib.Core.Path.{◌≡◌, refl, sym, ap, ◌∙◌, subst}
use mathlib.Core.Logic.{◌≢◌, dite}
use mathlib.Core.List.{List}
use Prim.Native.Nat.{ℕ, zero, suc, ◌+◌, ◌≤◌, ◌<◌}
use native.Mathlib.Decide.{dec_lt, ℕ_discrete}
use native.Mathlib.Omega.{arith}
use lib.ListN.{length, get_or, set, length-set}
use lib.Seq.{get_or-set_same, get_or-set_other}
use lib.Dec.{eqb}
use Rattle.order.specs.Count.{bit, count}
use Rattle.order.proofs.Count.{bit-same, bit-other, count-length}
use Rattle.model.specs.Numbers.{Numbers, most_served}
use Rattle.model.specs.Counts.{Counts, CountsIn, counted_by}
use Rattle.model.specs.Moves.{Content, vacant, clean, dirty, Has, Loose, put, without}
use Rattle.model.specs.declared.Op.{Op}
use Rattle.model.specs.declared.Op.TheVariants.{Read, Write}
use Rattle.model.specs.declared.Victim.{Victim}
use Rattle.model.specs.declared.Victim.TheVariants.{Clean, Dirty}
use Rattle.model.specs.Words.{Answer}
use Rattle.model.specs.declared.Access.TheVariants.{Hit, Fault}
use Rattle.model.specs.Frames.{Frames, page_at, content_by, content_in, Placed, Blank, FaultMark, HitStep, VictimOf, FaultStep, Step, FlushStep}
use Rattle.model.specs.Frames.{VacatedStep, DropStep, vacates, misses}
use Rattle.model.proofs.Moves.{put-same, put-other, at-or-off, without-here, without-off}
use Rattle.model.proofs.Outcomes.{VictimBelow, AnswerRight, content_after, cleaned_by, cleaned_by-in, cleaned_by-out}

content-vacant : (r d q : ℕ) → r ≡ 0 → content_by r d q ≡ vacant
content-vacant zero d q e = refl
content-vacant (suc r) d q e = absurd (omega arith)

content-clean : (r d q : ℕ) → 1 ≤ r → d ≡ 0 → content_by r d q ≡ clean q
content-clean zero d q h e = absurd (omega arith)
content-clean (suc r) zero q h e = refl
content-clean (suc r) (suc d) q h e = absurd (omega arith)

content-dirty : (r d q : ℕ) → 1 ≤ r → 1 ≤ d → content_by r d q ≡ dirty q
content-dirty zero d q h e = absurd (omega arith)
content-dirty (suc r) zero q h e = absurd (omega arith)
content-dirty (suc r) (suc d) q h e = refl

-- a frame that holds a page is resident, and the other way round
has-resident : (r d p q : ℕ) → Has p (content_by r d q) → (1 ≤ r) × (q ≡ p)
has-resident zero d p q h = absurd h
has-resident (suc r) zero p q h = (omega arith, h)
has-resident (suc r) (suc d) p q h = (omega arith, h)

pub resident-has : (r d p q : ℕ) → 1 ≤ r → q ≡ p → Has p (content_by r d q)
resident-has zero d p q h e = absurd (omega arith)
resident-has (suc r) zero p q h e = e
resident-has (suc r) (suc d) p q h e = e

loose-empty : (r d q : ℕ) → r ≡ 0 → Loose (content_by r d q)
loose-empty zero d q e = tt
loose-empty (suc r) d q e = absurd (omega arith)

loose-clean : (r d q : ℕ) → d ≡ 0 → Loose (content_by r d q)
loose-clean zero d q e = tt
loose-clean (suc r) zero q e = tt
loose-clean (suc r) (suc d) q e = absurd (omega arith)

page-at : {xs ys : List ℕ} (f : ℕ) → xs ≡ ys → get_or xs f 0 ≡ get_or ys f 0
page-at f e = ap (λ (z : List ℕ). get_or z f 0) e

-- the same counts and page: the same content
content-same : (x y : Frames) (g : ℕ) → y.resident g ≡ x.resident g → y.unsaved g ≡ x.unsaved g → page_at y g ≡ page_at x g → content_in y g ≡ content_in x g
content-same x y g a b c i = content_by (a i) (b i) (c i)

-- frame f changes what it holds, and no other does
content-put : (x y : Frames) (f : ℕ) (w : Content) → content_in y f ≡ w
    → ((g : ℕ) → f ≢ g → (y.resident g ≡ x.resident g) × (y.unsaved g ≡ x.unsaved g) × (page_at y g ≡ page_at x g))
    → (g : ℕ) → content_in y g ≡ put f w (content_in x) g
content-put x y f w here off =
    at-or-off (λ g. content_in y g ≡ put f w (content_in x) g) f (here ∙ sym (put-same f w (content_in x)))
    (λ g n. content-same x y g (off g n).0 (off g n).1 (off g n).2 ∙ sym (put-other f w (content_in x) g n))

module _ (n : Numbers) (x : Frames) (p : Placed n x) where
  pub frame-below : (f : ℕ) → 1 ≤ x.empty f + x.resident f → f < n.b
  frame-below f h = dite (dec_lt f n.b) (λ l. l) (λ m. absurd (omega (arith, p.others f (omega arith))))

  pub frame-once : (f : ℕ) → x.empty f + x.resident f ≤ 1
  frame-once f = dite (dec_lt f n.b) (λ l. omega (arith, p.once f l)) (λ m. omega (arith, p.others f (omega arith)))

  -- where a list has every empty and every resident frame, it has b of them
  pub placed-length : (all : List ℕ) → ((f : ℕ) → count f all ≡ x.empty f + x.resident f) → length all ≡ n.b
  placed-length all e = count-length n.b all (λ f h. e f ∙ p.once f h) (λ f h. e f ∙ p.others f h)

  -- each frame stands as before, and pages stay where they are
  pub placed-same : (y : Frames) → ((f : ℕ) → y.empty f ≡ x.empty f) → ((f : ℕ) → y.resident f ≡ x.resident f) → y.page ≡ x.page → Placed n y
  placed-same y e r s =
      record {
        once = λ f h. omega (arith, e f, r f, p.once f h);
        others = λ f h. omega (arith, e f, r f, p.others f h);
        paged = ap length s ∙ p.paged;
        inside = λ f h. subst (λ (z : List ℕ). get_or z f 0 < n.N) (sym s) (p.inside f (omega (arith, r f)));
        apart = λ f g h k d. p.apart f g (omega (arith, r f)) (omega (arith, r g)) (page-at f (sym s) ∙ d ∙ page-at g s);
      }

  -- ---- a frame that takes another page

  module _ (y : Frames) (q f : ℕ) (page_set : y.page ≡ set x.page f q) where
    set-here : 1 ≤ x.empty f + x.resident f → page_at y f ≡ q
    set-here l = page-at f page_set ∙ get_or-set_same x.page f q 0 (omega (arith, p.paged, frame-below f l))

    set-off : (h : ℕ) → f ≢ h → page_at y h ≡ page_at x h
    set-off h m = page-at h page_set ∙ get_or-set_other x.page f h q 0 (λ e. m (sym e))

  module _ (y : Frames) (op : Op) (q f : ℕ) (v : Option Victim) (t : FaultStep op q f v x y) where
    page-here : page_at y f ≡ q
    page-here = set-here y q f t.page_set t.stands

    page-off : (h : ℕ) → f ≢ h → page_at y h ≡ page_at x h
    page-off = set-off y q f t.page_set

    was : (h : ℕ) → f ≢ h → 1 ≤ y.resident h → 1 ≤ x.resident h
    was h m l = omega (arith, t.resident_off h m)

    stands-same : (h : ℕ) → y.empty h + y.resident h ≡ x.empty h + x.resident h
    stands-same =
        at-or-off (λ h. y.empty h + y.resident h ≡ x.empty h + x.resident h) f (omega (arith, t.gone, t.here, t.stands, frame-once f))
        (λ h m. omega (arith, t.empty_off h m, t.resident_off h m))

    fault-placed : q < n.N → Placed n y
    fault-placed ql =
        record {
          once = λ h l. stands-same h ∙ p.once h l;
          others = λ h l. stands-same h ∙ p.others h l;
          paged = ap length t.page_set ∙ length-set x.page f q ∙ p.paged;
          inside = at-or-off (λ h. 1 ≤ y.resident h → page_at y h < n.N) f (λ l. rw page-here ql) (λ h m l. rw (page-off h m) (p.inside h (was h m l)));
          apart = λ h j l m e. dite (ℕ_discrete f h)
              (λ a. dite (ℕ_discrete f j) (λ b. sym a ∙ b)
              (λ o. absurd (t.absent j (was j o m) (sym (page-off j o) ∙ sym e ∙ rw (← a) page-here))))
              (λ o. dite (ℕ_discrete f j)
              (λ b. absurd (t.absent h (was h o l) (sym (page-off h o) ∙ e ∙ rw (← b) page-here)))
              (λ u. p.apart h j (was h o l) (was j u m) (sym (page-off h o) ∙ e ∙ page-off j u)));
        }

    off : (h : ℕ) → f ≢ h → (y.resident h ≡ x.resident h) × (y.unsaved h ≡ x.unsaved h) × (page_at y h ≡ page_at x h)
    off h m = (t.resident_off h m, t.mark_off h m, page-off h m)

  fault-content : (y : Frames) (op : Op) (q f : ℕ) (v : Option Victim) → FaultStep op q f v x y
      → (g : ℕ) → content_in y g ≡ content_after op q f (Ok (Fault v)) (content_in x) g
  fault-content y Read q f v t =
      content-put x y f (clean q) (content-clean (y.resident f) (y.unsaved f) _ (omega (arith, t.here)) t.mark ∙ ap clean (page-here y Read q f v t))
      (off y Read q f v t)
  fault-content y Write q f v t =
      content-put x y f (dirty q) (content-dirty (y.resident f) (y.unsaved f) _ (omega (arith, t.here)) t.mark ∙ ap dirty (page-here y Write q f v t))
      (off y Write q f v t)

  -- ---- a hit

  hit-off : (y : Frames) (op : Op) (q f : ℕ) → HitStep op q f x y → (h : ℕ) → f ≢ h
      → (y.resident h ≡ x.resident h) × (y.unsaved h ≡ x.unsaved h) × (page_at y h ≡ page_at x h)
  hit-off y op q f t h m = (t.resident_same h, t.mark_off h m, page-at h t.page_same)

  hit-content : (y : Frames) (op : Op) (q f : ℕ) → HitStep op q f x y → (g : ℕ) → content_in y g ≡ content_after op q f (Ok Hit) (content_in x) g
  hit-content y Read q f t =
      at-or-off (λ g. content_in y g ≡ content_in x g) f (content-same x y f (t.resident_same f) t.mark (page-at f t.page_same))
      (λ g m. let o = hit-off y Read q f t g m in content-same x y g o.0 o.1 o.2)
  hit-content y Write q f t =
      content-put x y f (dirty q)
      (content-dirty (y.resident f) (y.unsaved f) _ (omega (arith, t.here, t.resident_same f)) t.mark ∙ ap dirty (page-at f t.page_same ∙ t.has))
      (hit-off y Write q f t)

  -- ---- any answer

  module _ (y : Frames) (op : Op) (q f : ℕ) where
    pub step-placed : (a : Answer) → Step op q f a x y → q < n.N → Placed n y
    step-placed (Err e) t l = absurd t
    step-placed (Ok Hit) t l = placed-same y t.empty_same t.resident_same t.page_same
    step-placed (Ok (Fault v)) t l = fault-placed y op q f v t l

    pub step-frame : (a : Answer) → Step op q f a x y → f < n.b
    step-frame (Err e) t = absurd t
    step-frame (Ok Hit) t = frame-below f (omega (arith, t.here))
    step-frame (Ok (Fault v)) t = frame-below f t.stands

    -- its frame has the page then, and every other frame is as it was
    pub step-here : (a : Answer) → Step op q f a x y → (1 ≤ y.resident f) × (page_at y f ≡ q)
    step-here (Err e) t = absurd t
    step-here (Ok Hit) t = (omega (arith, t.here, t.resident_same f), page-at f t.page_same ∙ t.has)
    step-here (Ok (Fault v)) t = (omega (arith, t.here), page-here y op q f v t)

    pub step-off : (a : Answer) → Step op q f a x y → (h : ℕ) → f ≢ h
        → (y.resident h ≡ x.resident h) × (y.unsaved h ≡ x.unsaved h) × (page_at y h ≡ page_at x h)
    step-off (Err e) t h m = absurd t
    step-off (Ok Hit) t h m = hit-off y op q f t h m
    step-off (Ok (Fault v)) t h m = off y op q f v t h m

    pub step-victim : (a : Answer) → Step op q f a x y → VictimBelow n.N a
    step-victim (Err e) t = absurd t
    step-victim (Ok Hit) t = tt
    step-victim (Ok (Fault None)) t = tt
    step-victim (Ok (Fault (Some (Clean w)))) t = rw t.victim.2 (p.inside f t.victim.0)
    step-victim (Ok (Fault (Some (Dirty w)))) t = rw t.victim.1 (p.inside f t.victim.0)

    absent-in : (v : Option Victim) → FaultStep op q f v x y → (g : ℕ) → Has q (content_in x g) → ⊥
    absent-in v t g a = let r = has-resident (x.resident g) (x.unsaved g) q _ a in t.absent g r.0 r.1

    pub step-right : (a : Answer) → Step op q f a x y → AnswerRight (content_in x) q f a
    step-right (Err e) t = t
    step-right (Ok Hit) t = resident-has (x.resident f) (x.unsaved f) q _ t.here t.has
    step-right (Ok (Fault None)) t = (loose-empty (x.resident f) (x.unsaved f) _ t.victim, absent-in None t)
    step-right (Ok (Fault (Some (Clean w)))) t = (loose-clean (x.resident f) (x.unsaved f) _ t.victim.1, absent-in (Some (Clean w)) t)
    step-right (Ok (Fault (Some (Dirty w)))) t = (resident-has (x.resident f) (x.unsaved f) w _ t.victim.0 (sym t.victim.1), absent-in (Some (Dirty w)) t)

    pub step-content : (a : Answer) → Step op q f a x y → (g : ℕ) → content_in y g ≡ content_after op q f a (content_in x) g
    step-content (Err e) t = absurd t
    step-content (Ok Hit) t = hit-content y op q f t
    step-content (Ok (Fault v)) t = fault-content y op q f v t

    -- the pages of empty frames stay 0
    pub step-blank : (a : Answer) → Step op q f a x y → Blank x → Blank y
    step-blank (Err e) t s = absurd t
    step-blank (Ok Hit) t s = λ h l. page-at h t.page_same ∙ s h (omega (arith, t.empty_same h))
    step-blank (Ok (Fault v)) t s =
        at-or-off (λ h. 1 ≤ y.empty h → page_at y h ≡ 0) f (λ l. absurd (omega (arith, t.gone)))
        (λ h m l. page-off y op q f v t h m ∙ s h (omega (arith, t.empty_off h m)))

  -- ---- a drop

  module _ (y : Frames) (q f : ℕ) (t : VacatedStep q f x y) where
    -- a frame that is resident then was, and is another one
    still : (h : ℕ) → 1 ≤ y.resident h → (f ≢ h) × (1 ≤ x.resident h)
    still h l =
        let m : f ≢ h = λ e. let z : y.resident h ≡ 0 = subst (λ (g : ℕ). y.resident g ≡ 0) e t.gone in omega arith in
        (m, omega (arith, t.resident_off h m))

    vacated-off : (h : ℕ) → f ≢ h → page_at y h ≡ page_at x h
    vacated-off = set-off y 0 f t.page_set

    vacated-placed : Placed n y
    vacated-placed =
        record {
          once = λ h l. t.stands h ∙ p.once h l;
          others = λ h l. t.stands h ∙ p.others h l;
          paged = ap length t.page_set ∙ length-set x.page f 0 ∙ p.paged;
          inside = λ h l. let s = still h l in rw (vacated-off h s.0) (p.inside h s.1);
          apart = λ h j l m e.
              let s = still h l in
              let u = still j m in
              p.apart h j s.1 u.1 (sym (vacated-off h s.0) ∙ e ∙ vacated-off j u.0);
        }

    vacated-content : (g : ℕ) → without q (content_in x g) ≡ content_in y g
    vacated-content =
        at-or-off (λ g. without q (content_in x g) ≡ content_in y g) f
        (without-here q (content_in x f) (resident-has (x.resident f) (x.unsaved f) q _ t.here t.has)
        ∙ sym (content-vacant (y.resident f) (y.unsaved f) _ t.gone))
        (λ g m.
        without-off q (content_in x g)
        (λ a. let r = has-resident (x.resident g) (x.unsaved g) q _ a in m (p.apart f g t.here r.0 (t.has ∙ sym r.1)))
        ∙ sym (content-same x y g (t.resident_off g m) (t.mark_off g m) (vacated-off g m)))

  module _ (y : Frames) (q : ℕ) where
    pub drop-placed : DropStep q x y → Placed n y
    drop-placed (vacates f t) = vacated-placed y q f t
    drop-placed (misses t) = placed-same y t.empty_same t.resident_same t.page_same

    pub drop-content : DropStep q x y → (g : ℕ) → without q (content_in x g) ≡ content_in y g
    drop-content (vacates f t) g = vacated-content y q f t g
    drop-content (misses t) g =
        without-off q (content_in x g) (λ a. let r = has-resident (x.resident g) (x.unsaved g) q _ a in t.absent g r.0 r.1)
        ∙ sym (content-same x y g (t.resident_same g) (t.mark_same g) (page-at g t.page_same))

    pub drop-blank : DropStep q x y → Blank x → Blank y
    drop-blank (vacates f t) s =
        at-or-off (λ h. 1 ≤ y.empty h → page_at y h ≡ 0) f (λ l. set-here y 0 f t.page_set (omega (arith, t.here)))
        (λ h m l. vacated-off y q f t h m ∙ s h (omega (arith, t.stands h, t.resident_off h m)))
    drop-blank (misses t) s = λ h l. page-at h t.page_same ∙ s h (omega (arith, t.empty_same h))

-- ---- counts

pub counts-in : (n : Numbers) (c : Counts) → CountsIn n c → c.served < most_served
    → (reads writes : ℕ) → reads ≤ 1 → writes ≤ n.b → CountsIn n (counted_by reads writes c)
counts-in n c k left reads writes one few =
    record { served_high = omega arith; reads_high = omega (arith, k.reads_high); writes_high = omega (arith, k.writes_high) }

-- ---- a frame leaves, and comes back resident: e and r are how often frames are empty and resident without f

pub record Leaves (x : Frames) (e r : ℕ → ℕ) (f : ℕ) : Type 0 where
  pub out : (h : ℕ) → bit (eqb f h) + (e h + r h) ≡ x.empty h + x.resident h
  pub off : (h : ℕ) → f ≢ h → (e h ≡ x.empty h) × (r h ≡ x.resident h)

pub leaves-step : (n : Numbers) (x : Frames) → Placed n x → (y : Frames) (op : Op) (q f : ℕ) (v : Option Victim) (r : ℕ → ℕ) → Leaves x y.empty r f
    → ((h : ℕ) → y.resident h ≡ bit (eqb f h) + r h)
    → ((g : ℕ) → 1 ≤ x.resident g → page_at x g ≢ q)
    → VictimOf v (x.resident f) (x.unsaved f) (page_at x f) → y.page ≡ set x.page f q
    → FaultMark op (y.unsaved f) → ((g : ℕ) → f ≢ g → y.unsaved g ≡ x.unsaved g) → FaultStep op q f v x y
leaves-step n x p y op q f v r l back absent victim page mark off =
    record {
      absent = absent;
      stands = omega (arith, l.out f, bit-same f);
      victim = victim;
      gone = omega (arith, l.out f, bit-same f, frame-once n x p f);
      here = omega (arith, l.out f, bit-same f, frame-once n x p f, back f);
      empty_off = λ h m. (l.off h m).0;
      resident_off = λ h m. omega (arith, (l.off h m).1, bit-other f h m, back h);
      page_set = page;
      mark = mark;
      mark_off = off;
    }

-- ---- a flush

module _ (x y : Frames) (fs : List ℕ) (t : FlushStep fs x y) where
  pub flush-content : (f : ℕ) → cleaned_by x.page fs (content_in x) f ≡ content_in y f
  flush-content f =
      dite (dec_lt 0 (count f fs))
      (λ l. cleaned_by-in x.page fs (content_in x) f l
      ∙ sym (content-clean (y.resident f) (y.unsaved f) _ (omega (arith, t.resident_same f, t.listed f l)) (t.saved f)
      ∙ ap clean (page-at f t.page_same)))
      (λ m.
      let z : count f fs ≡ 0 = omega arith in
      cleaned_by-out x.page fs (content_in x) f z ∙
      dite (dec_lt 0 (x.resident f))
      (λ l. sym (content-same x y f (t.resident_same f) (t.saved f ∙ sym (t.rest f z l)) (page-at f t.page_same)))
      (λ k. content-vacant (x.resident f) (x.unsaved f) _ (omega arith)
      ∙ sym (content-vacant (y.resident f) (y.unsaved f) _ (omega (arith, t.resident_same f)))))
