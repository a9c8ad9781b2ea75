-- The answers of `dirty::write_back_all`, by the invariant that is argued in Invariants. Assumes nothing.
use Rattle.std.proofs.Common.{◌≡◌, sym, ◌∙◌, ℕ, ◌<◌, List, [], ◌∷◌, ◌++◌, length, length-append, arith}
use Rattle.std.specs.List.{All}
use lib.ListN.{get_or-append}
use Rattle.pages.specs.Memory.{FrameIn}
use Rattle.pages.proofs.Pages.{page-is}
use Rattle.pages.proofs.Memory.{written_back-last, written_back-none}
use Rattle.dirty.proofs.write_back_all.Goals as goal

-- what is true of each frame of a list is true of each but the last
without-last : (P : ℕ → Type 0) (f : ℕ) (left fs : List ℕ) → left ≡ fs ++ (f ∷ []) → All P left → All P fs
without-last P f left fs e all k d h =
    let l : k < length left = rw e (simp length-append (omega arith)) in
    rw (e, get_or-append fs (f ∷ []) d k h) at (all k d l)

pub loop-frame-preserved : goal.loop-frame-preserved
loop-frame-preserved c =
    let l = c.loop-frame in
    let last = c.in-Some.ensures.steps in
    record {
      lie = without-last (λ f. FrameIn c.args.size c.args.page.now (length c.args.frames.now) (length c.args.store.now) f) _ _ _ last l.invariant.lie;
      written = rw (c.write_back.ensures, page-is, c.from-q.ensures, c.from-f.ensures) (rw (last, written_back-last) at l.invariant.written);
    }

pub returns : goal.returns
returns c = sym (written_back-none _ _ _ _ _ c.in-None.ensures.steps.0) ∙ c.loop-frame.invariant.written
