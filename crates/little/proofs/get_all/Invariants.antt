-- `little::get_all` meets its contract. The loop's invariant: the first `i` numbers of `xs`, followed by those that the bytes from part `i` on
-- spell, are all numbers. A turn reads part `i`, which lies within `bytes` as `i` is below the count; so the ends of the part fit a `usize`.
-- Assumes nothing.
use Rattle.std.proofs.Common.{◌≡◌, ◌++◌, ◌-◌, ◌*◌, length, take, drop}
use Rattle.little.specs.Little.{numbers_of}
use Rattle.little.proofs.get_all.Given as goal

abbrev pub invariant-loop-i : goal.invariant-loop-i
invariant-loop-i l =
    let n = length l.initial.xs in
    take l.i l.xs ++ numbers_of l.width (n - l.i) (drop (l.i * l.width) l.bytes) ≡ numbers_of l.width n l.bytes
