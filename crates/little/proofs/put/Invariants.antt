-- `little::put` meets its contract. The loop's invariant: the bytes written, followed by the bytes of `rest` in the places that are left,
-- are the bytes of `x`. A turn moves the low byte of `rest` from the second part to the first; at the end the second part is empty.
-- Assumes nothing.
use Rattle.std.proofs.Common.{◌≡◌, ◌++◌, ◌-◌, length, take}
use Rattle.little.specs.Little.{bytes_of}
use Rattle.little.proofs.put.Given as goal

abbrev pub invariant-loop-b : goal.invariant-loop-b
invariant-loop-b l = take l.b-index l.out ++ bytes_of (length l.initial.out - l.b-index) l.rest ≡ bytes_of (length l.initial.out) l.x
