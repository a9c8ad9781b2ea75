-- What a serving call sees of the times that were measured on the drive: the numbers that are kept of two windows of n times, one of physical reads and one of
-- physical writes; when it refuses them, and the costs in force by them.
-- Assumes nothing.
use Rattle.std.specs.Prelude.{Bool, true, not, ◌&&◌, cond as if-else, ℕ, ◌*◌, eqb, leb}
use Rattle.model.specs.Numbers.{between}
use Rattle.model.specs.Target.{Costs, costs}
use Rattle.model.specs.declared.Window.{Window}
use Rattle.model.specs.declared.Kept.{Kept}

-- the kept numbers that a read or a write takes, if it takes any
pub data Times : Type 0 where
  unmeasured : Times
  measured : Kept → Times

-- "n from 1 to 32,768", "each time, 1 to 65,535"
abbrev pub most_times : ℕ
most_times = 32768

abbrev pub most_time : ℕ
most_time = 65535

abbrev pub length_fits : ℕ → Bool
length_fits n = between 1 n most_times

-- "A serving call sees n, fills and sums alone: 13, after 2, if n or a fill is out of range or a sum is not from fill to fill × 65,535."
abbrev pub window_fits : ℕ → Window → Bool
window_fits n w = leb w.fill n && between w.fill w.sum (w.fill * most_time)

unfoldable pub kept_fits : Kept → Bool
kept_fits k = length_fits k.n && (window_fits k.n k.reads && window_fits k.n k.writes)

abbrev pub times_fit : Times → Bool
times_fit unmeasured = true
times_fit (measured k) = kept_fits k

-- "Once both windows are full, the step for τ uses the sum of the read window as r and that of the write window as w; until then, the opened costs."
abbrev pub both_full : Kept → Bool
both_full k = eqb k.reads.fill k.n && eqb k.writes.fill k.n

unfoldable pub measured_costs : Kept → Costs → Costs
measured_costs k opened = if-else (both_full k) (costs k.reads.sum k.writes.sum) opened

abbrev pub in_force : Times → Costs → Costs
in_force unmeasured opened = opened
in_force (measured k) opened = measured_costs k opened

-- whether those are in force still, or the kept numbers are refused
abbrev pub as_opened : Times → Bool
as_opened unmeasured = true
as_opened (measured k) = not (kept_fits k && both_full k)

-- ---- nothing measured yet

abbrev pub fresh_window : Window
fresh_window = record { fill = 0; next = 0; sum = 0 }

abbrev pub fresh_kept : ℕ → Kept
fresh_kept n = record { n = n; reads = fresh_window; writes = fresh_window }
