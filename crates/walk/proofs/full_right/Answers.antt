-- `walk::full_right` meets its contract. A no promises nothing. Behind the first test the pages are low; where no page met a mark, or each that did stands
-- alone, none comes twice, and the pages are right. Assumes nothing.
use Rattle.std.proofs.Common.{◌≡◌, true, [], ℕ, ◌-◌, ◌≤◌, ◌<◌, arith, get_or, take, rules}
use mathlib.Core.Bool.{false≢true}
use Rattle.order.specs.Count.{count}
use Rattle.order.specs.Places.{places}
use Rattle.checks.specs.Tests.{every, is_at_most, PagesRight}
use Rattle.checks.proofs.Decides.{test-passed}
use Rattle.walk.proofs.Full.{low-place, near-once, once-right}
use Rattle.walk.proofs.Far.{far-once}
use Rattle.walk.proofs.full_right.Goals as goal
use Rattle.walk.proofs.full_right.Goals.{Else-not-all_at_most, Else-pages-gt1024}

low : (c : Else-not-all_at_most) → every (is_at_most (c.args.pages - 1)) (take places c.args.page.now) ≡ true
low c = test-passed c.all_at_most.ensures c.if-not-all_at_most.false

-- where there are few pages, each has a mark
marks-reach : (c : Else-pages-gt1024) → every (is_at_most (c.args.pages - 1)) (take places c.args.page.now) ≡ true → (f : ℕ) → f < c.args.frames
    → get_or c.args.page.now f 0 < 1024
marks-reach c l f h =
    let p = c.requires in
    omega (arith, p.0, p.1, c.if-pages-gt1024.false, low-place c.args.page.now (c.args.pages - 1) p.3 l f (omega (arith, p.0)))

-- the pages are right where none comes twice
right : (c : Else-not-all_at_most)
    → ((f : ℕ) → f < c.args.frames → count (get_or c.args.page.now f 0) (take c.args.frames c.args.page.now) ≤ 1)
    → PagesRight c.args.frames c.args.pages [] c.args.page.now
right c once =
    once-right c.args.frames c.args.pages c.args.page.now c.requires.0 c.requires.1 c.requires.3 (low c) once

pub returns-then-not-all_at_most : goal.returns-then-not-all_at_most
returns-then-not-all_at_most c e = absurd (false≢true e)

pub returns-then-pages-gt1024 : goal.returns-then-pages-gt1024
returns-then-pages-gt1024 c e =
    let a = c.args in
    right (goal.at.returns-then-pages-gt1024 c).Else-not-all_at_most
    (λ f h. far-once a.frames a.page.now c.requires.3 (c.walk_far.ensures e) (get_or a.page.now f 0))

pub walk_near-requires : goal.walk_near-requires
walk_near-requires c = (
  search rules,
  marks-reach (goal.at.walk_near-requires c).Else-pages-gt1024 (low (goal.at.walk_near-requires c).Else-not-all_at_most),
)

pub returns-else-pages-gt1024 : goal.returns-else-pages-gt1024
returns-else-pages-gt1024 c e =
    let a = c.args in
    let at = goal.at.returns-else-pages-gt1024 c in
    right at.Else-not-all_at_most
    (λ f h. near-once (take a.frames a.page.now) (c.walk_near.ensures e) (get_or a.page.now f 0)
    (marks-reach at.Else-pages-gt1024 (low at.Else-not-all_at_most) f h))
