-- `pool::Pool::is_sound` meets its contract. A sound pool has every part right, so a part that is not right says no; where all are right, the pool is sound,
-- and `sound_test` says the same. Where no frame is empty, the walk may show the last one. Assumes nothing.
use Rattle.std.proofs.Common.{arith, length-take-le}
use Rattle.checks.proofs.Frames.{frames-empty}
use Rattle.checks.proofs.Decides.{decides-passed, decides-refuted}
use Rattle.pool.specs.Test.{CountsIn, LengthsIn, TailsRight}
use Rattle.pool.proofs.Parts.{LimitsIn, StandingIn}
use Rattle.pool.proofs.Decides.{limits-decides}
use Rattle.pool.proofs.Answers.{sound-refused, sound-last, sound-full}
use Rattle.pool.proofs.Pool.is_sound.Goals as goal
use Rattle.pool.proofs.Pool.is_sound.Goals.{Else-not-counts_right, Else-not-in_limits, Else-not-lengths_right, Else-not-standing_right, Else-not-tails_right}

limits : (c : Else-not-in_limits) → LimitsIn c.args.self.now
limits c =
    let r = c.in_limits in
    decides-passed r.result (limits-decides _ r.result r.ensures) c.if-not-in_limits.false

counts : (c : Else-not-counts_right) → CountsIn c.args.self.now
counts c = let r = c.counts_right in decides-passed r.result r.ensures c.if-not-counts_right.false

lengths : (c : Else-not-lengths_right) → LengthsIn c.args.self.now
lengths c = let r = c.lengths_right in decides-passed r.result r.ensures c.if-not-lengths_right.false

tails : (c : Else-not-tails_right) → TailsRight c.args.self.now
tails c = let r = c.tails_right in decides-passed r.result r.ensures.test c.if-not-tails_right.false

standing : (c : Else-not-standing_right) → StandingIn c.args.self.now
standing c = let r = c.standing_right in decides-passed r.result r.ensures c.if-not-standing_right.false

pub returns-then-not-in_limits : goal.returns-then-not-in_limits
returns-then-not-in_limits c =
    let r = c.in_limits in
    sound-refused _ (λ p. decides-refuted r.result (limits-decides _ r.result r.ensures) c.if-not-in_limits.true p.limits)

pub counts_right-requires : goal.counts_right-requires
counts_right-requires c = (limits (goal.at.counts_right-requires c).Else-not-in_limits).b_high

pub returns-then-not-counts_right : goal.returns-then-not-counts_right
returns-then-not-counts_right c =
    let r = c.counts_right in
    sound-refused _ (λ p. decides-refuted r.result r.ensures c.if-not-counts_right.true p.counts)

pub returns-then-not-lengths_right : goal.returns-then-not-lengths_right
returns-then-not-lengths_right c =
    let r = c.lengths_right in
    sound-refused _ (λ p. decides-refuted r.result r.ensures c.if-not-lengths_right.true p.lengths)

pub returns-then-not-tails_right : goal.returns-then-not-tails_right
returns-then-not-tails_right c =
    let r = c.tails_right in
    sound-refused _ (λ p. decides-refuted r.result r.ensures.test c.if-not-tails_right.true p.tails)

-- the served calls fit a number
pub overflow_cast-served : goal.overflow_cast-served
overflow_cast-served c =
    omega (arith, (counts (goal.at.overflow_cast-served c).Else-not-counts_right).served_high)

pub standing_right-requires : goal.standing_right-requires
standing_right-requires c =
    let l = limits (goal.at.standing_right-requires c).Else-not-in_limits in
    record {
      fit = (
        l.b_low,
        l.b_high,
        omega (arith, (counts (goal.at.standing_right-requires c).Else-not-counts_right).served_high),
        lengths (goal.at.standing_right-requires c).Else-not-lengths_right,
      );
      tails_zero = (
        (tails (goal.at.standing_right-requires c).Else-not-tails_right).clean,
        (tails (goal.at.standing_right-requires c).Else-not-tails_right).dirty,
      );
    }

pub returns-then-not-standing_right : goal.returns-then-not-standing_right
returns-then-not-standing_right c =
    let r = c.standing_right in
    sound-refused _ (λ p. decides-refuted r.result r.ensures c.if-not-standing_right.true p.standing)

pub full_right-requires : goal.full_right-requires
full_right-requires c =
    let l = limits (goal.at.full_right-requires c).Else-not-in_limits in
    (l.b_high, l.N_low, l.N_high, c.tails_right.ensures.all_places.pages)

pub returns-then-full_right : goal.returns-then-full_right
returns-then-full_right c =
    sound-full _ c.tails_right.ensures.all_places
    (limits (goal.at.returns-then-full_right c).Else-not-in_limits) (counts (goal.at.returns-then-full_right c).Else-not-counts_right)
    (lengths (goal.at.returns-then-full_right c).Else-not-lengths_right) (tails (goal.at.returns-then-full_right c).Else-not-tails_right)
    (standing (goal.at.returns-then-full_right c).Else-not-standing_right)
    c.if-self-eq0.true (c.full_right.ensures c.if-full_right.true)

pub frames-requires : goal.frames-requires
frames-requires c =
    omega (arith, lengths (goal.at.frames-requires c).Else-not-lengths_right, (limits (goal.at.frames-requires c).Else-not-in_limits).b_high)

pub pages_right-requires : goal.pages_right-requires
pages_right-requires c =
    let l = limits (goal.at.pages_right-requires c).Else-not-in_limits in
    let long = c.tails_right.ensures.all_places in
    let k = length-take-le c.args.self.now.lists.empty.len c.args.self.now.lists.empty.places
    (omega (arith, long.empty, lengths (goal.at.pages_right-requires c).Else-not-lengths_right, l.b_high)) in
    rw c.frames.ensures
    record {
      fit = (l.b_high, l.N_low, l.N_high, omega (arith, k, lengths (goal.at.pages_right-requires c).Else-not-lengths_right));
      empty_right = frames-empty (standing (goal.at.pages_right-requires c).Else-not-standing_right).frames;
      tail_zero = (tails (goal.at.pages_right-requires c).Else-not-tails_right).pages;
    }

pub returns : goal.returns
returns c =
    sound-last _ c.tails_right.ensures.all_places
    (limits (goal.at.returns c).Else-not-in_limits) (counts (goal.at.returns c).Else-not-counts_right) (lengths (goal.at.returns c).Else-not-lengths_right)
    (tails (goal.at.returns c).Else-not-tails_right) (standing (goal.at.returns c).Else-not-standing_right)
    _ (rw c.frames.ensures at c.pages_right.ensures)
