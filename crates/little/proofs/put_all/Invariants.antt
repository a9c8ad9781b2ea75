-- `little::put_all` meets its contract. The loop's invariant: the first `i` parts of `out`, followed by the bytes of the numbers from `i` on,
-- are the bytes of all numbers. A turn fills part `i`, which lies within `out` as `i` is below the count; so the ends of the part fit a `usize`.
-- Assumes nothing.
use Rattle.std.proofs.Common.{◌≡◌, ◌++◌, ◌*◌, take, drop}
use Rattle.little.specs.Little.{bytes_of_all}
use Rattle.little.proofs.put_all.Given as goal

abbrev pub invariant-loop-i : goal.invariant-loop-i
invariant-loop-i l = take (l.i * l.width) l.out ++ bytes_of_all l.width (drop l.i l.xs) ≡ bytes_of_all l.width l.xs
