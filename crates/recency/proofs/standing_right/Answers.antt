-- `recency::standing_right` meets its contract. Right frames are below their number, so a number in C or D that is not says no. Where no frame is empty,
-- numbers that fall down the merge show all; else the marks show the frames, and numbers that fall the rest. Assumes nothing.
use Rattle.std.proofs.Common.{◌≡◌, ◌&&◌, ℕ, ◌-◌, ◌≤◌, arith, length, take, drop, true, length-take-le, sym, ◌∙◌}
use Rattle.std.proofs.lemmas.Bool.{false≢true}
use Rattle.order.specs.declared.FrameList.{FrameList}
use Rattle.order.specs.Places.{places, listed}
use Rattle.checks.specs.Tests.{every, is_zero, is_at_most, FramesRight, blank_all}
use Rattle.checks.proofs.Exact.{Exact, exact-and}
use Rattle.checks.proofs.Decides.{test-passed, test-refuted, decides-passed, decides-refuted}
use Rattle.recency.proofs.Standing.{Below, low-exact, frames-in-places, empty-below, clean-below, dirty-below, full-decides, standing-decides}
use Rattle.checks.proofs.Pages.{blank-exact}
use Rattle.recency.proofs.standing_right.Goals as goal
use Rattle.recency.proofs.standing_right.Goals.{Then-both_low, Then-frames_right, Then-none_numbered, then-frames_right, else-frames_right}

-- what the test of C and D finds out
lists-exact : (b : ℕ) (c d : FrameList) → 1 ≤ b → length c.places ≡ places → length d.places ≡ places → every is_zero (drop c.len c.places) ≡ true
    → every is_zero (drop d.len d.places) ≡ true
    → Exact (every (is_at_most (b - 1)) (take places c.places) && every (is_at_most (b - 1)) (take places d.places)) (Below b (listed c) × Below b (listed d))
lists-exact b c d some lc ld zc zd = exact-and (low-exact b c some lc zc) (low-exact b d some ld zd)

low : (c : Then-both_low)
    → let a = c.args in
    Below a.frames (listed a.lists.now.clean) × Below a.frames (listed a.lists.now.dirty)
low c =
    let l = c.args.lists.now in
    let long = c.both_low.ensures.all_places in
    let z = c.requires.tails_zero in
    (lists-exact c.args.frames l.clean l.dirty c.requires.fit.0 long.0 long.1 z.0 z.1).means (test-passed c.both_low.ensures.test c.if-both_low.true)

pub merge_falls-requires-clause-c_in_places : goal.merge_falls-requires-clause-c_in_places
merge_falls-requires-clause-c_in_places c =
    rw c.frames-clean.ensures (frames-in-places c.args.frames _ c.requires.fit.1 (low (goal.at.merge_falls-requires-clause-c_in_places c).Then-both_low).0)

pub merge_falls-requires-clause-d_in_places : goal.merge_falls-requires-clause-d_in_places
merge_falls-requires-clause-d_in_places c =
    rw c.frames-dirty.ensures (frames-in-places c.args.frames _ c.requires.fit.1 (low (goal.at.merge_falls-requires-clause-d_in_places c).Then-both_low).1)

pub returns-then-both_low : goal.returns-then-both_low
returns-then-both_low c =
    let a = c.args in
    let l = a.lists.now in
    let none = c.if-lists-eq0.true in
    let long = c.both_low.ensures.all_places in
    let lc = length-take-le l.clean.len l.clean.places (omega (arith, c.requires.fit, long.0)) in
    let ld = length-take-le l.dirty.len l.dirty.places (omega (arith, c.requires.fit, long.1)) in
    let h = low (goal.at.returns-then-both_low c).Then-both_low in
    full-decides a.frames a.served (listed l.clean) (listed l.dirty) a.reference.now l.empty none
    (omega (arith, c.requires.fit, none, lc, ld)) h.0 h.1 _ (rw (c.frames-clean.ensures, c.frames-dirty.ensures) at c.merge_falls.ensures)

pub returns-else-both_low : goal.returns-else-both_low
returns-else-both_low c =
    let l = c.args.lists.now in
    let long = c.both_low.ensures.all_places in
    let z = c.requires.tails_zero in
    rw c.if-both_low.false
    (λ r.
    test-refuted c.both_low.ensures.test c.if-both_low.false
    ((lists-exact c.args.frames l.clean l.dirty c.requires.fit.0 long.0 long.1 z.0 z.1).test (clean-below r.frames, dirty-below r.frames)))

framed : (c : Then-frames_right)
    → let l = c.args.lists.now in
    FramesRight c.args.frames (listed l.empty) (listed l.clean) (listed l.dirty)
framed c = decides-passed c.frames_right.result c.frames_right.ensures c.if-frames_right.true

pub none_numbered-requires : goal.none_numbered-requires
none_numbered-requires c =
    rw c.frames.ensures
    (frames-in-places c.args.frames _ c.requires.fit.1 (empty-below (framed (goal.at.none_numbered-requires c).Then-frames_right)))

-- where frames are right and no empty one has a number
passed : (c : Then-none_numbered)
    → let l = c.args.lists.now in
    FramesRight c.args.frames (listed l.empty) (listed l.clean) (listed l.dirty)
    × (blank_all c.args.reference.now (listed l.empty) ≡ true)
passed c =
    elim c.if-frames_right.branch [
      | then-frames_right w ↦ (
        decides-passed c.frames_right.result c.frames_right.ensures w.if-frames_right.true,
        rw w.frames.ensures at (test-passed w.none_numbered.ensures (sym w.value-is ∙ c.if-none_numbered.true)),
      )
      | else-frames_right w ↦ absurd (false≢true (sym w.if-frames_right.false ∙ (sym w.value-is ∙ c.if-none_numbered.true)))
    ]

pub merge_falls-requires-then-none_numbered-clause-c_in_places : goal.merge_falls-requires-then-none_numbered-clause-c_in_places
merge_falls-requires-then-none_numbered-clause-c_in_places c =
    let f = (passed (goal.at.merge_falls-requires-then-none_numbered-clause-c_in_places c).Then-none_numbered).0 in
    rw c.frames-clean.ensures (frames-in-places c.args.frames _ c.requires.fit.1 (clean-below f))

pub merge_falls-requires-then-none_numbered-clause-d_in_places : goal.merge_falls-requires-then-none_numbered-clause-d_in_places
merge_falls-requires-then-none_numbered-clause-d_in_places c =
    let f = (passed (goal.at.merge_falls-requires-then-none_numbered-clause-d_in_places c).Then-none_numbered).0 in
    rw c.frames-dirty.ensures (frames-in-places c.args.frames _ c.requires.fit.1 (dirty-below f))

pub returns-then-none_numbered : goal.returns-then-none_numbered
returns-then-none_numbered c =
    let a = c.args in
    let l = a.lists.now in
    let h = passed (goal.at.returns-then-none_numbered c).Then-none_numbered in
    standing-decides a.frames a.served (listed l.clean) (listed l.dirty) a.reference.now (listed l.empty) h.0 h.1 _
    (rw (c.frames-clean.ensures, c.frames-dirty.ensures) at c.merge_falls-then-none_numbered.ensures)

pub returns-else-none_numbered : goal.returns-else-none_numbered
returns-else-none_numbered c =
    rw c.if-none_numbered.false
    (λ r.
    elim c.if-frames_right.branch [
      | then-frames_right w ↦
          test-refuted (rw w.frames.ensures at w.none_numbered.ensures) (sym w.value-is ∙ c.if-none_numbered.false)
          ((blank-exact c.args.reference.now (listed c.args.lists.now.empty)).test r.blank)
      | else-frames_right w ↦ decides-refuted c.frames_right.result c.frames_right.ensures w.if-frames_right.false r.frames
    ])
