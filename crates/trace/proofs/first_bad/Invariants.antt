-- `trace::first_bad` meets its contract. The loop's invariant: the search among all records is the search that goes on after the first `k`. A turn takes one
-- record more, or answers with its number; at the end none is left. Assumes nothing.
use Rattle.std.proofs.Common.{◌≡◌, ◌-◌}
use Rattle.trace.specs.Format.{first_bad}
use Rattle.trace.proofs.first_bad.Given as goal

abbrev pub invariant-loop-k : goal.invariant-loop-k
invariant-loop-k l = first_bad l.bytes l.pages l.start 0 l.records ≡ first_bad l.bytes l.pages l.start l.k (l.records - l.k)
