-- `little::get` meets its contract. The loop goes from the last byte to the first; its invariant: the number of the bytes that are left, and above them
-- `r`, are the number of all. So `r` never exceeds the number of all, which 8 bytes at most spell; and at the end `r` is that number. Assumes nothing.
use Rattle.std.proofs.Common.{◌≡◌, ◌+◌, ◌*◌, ◌^◌, length}
use Rattle.std.specs.Slice.Iter.{iter_rest}
use Rattle.std.specs.Iterator.Adapters.{rev_source}
use Rattle.little.specs.Little.{number_of}
use Rattle.little.proofs.get.Given as goal

abbrev pub invariant-loop-b : goal.invariant-loop-b
invariant-loop-b l =
    let left = iter_rest (rev_source l.b-iterator) in
    number_of left + 256 ^ length left * l.r ≡ number_of l.bytes
