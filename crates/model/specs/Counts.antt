-- What was served since opening, and the physical reads and writes that it took.
-- Assumes nothing.
use Rattle.std.specs.Prelude.{ℕ, ◌+◌, ◌*◌, ◌≤◌}
use Rattle.model.specs.Numbers.{Numbers, most_served}

-- served calls, physical reads, physical writes
pub record Counts : Type 0 where
  pub served : ℕ
  pub nR : ℕ
  pub nW : ℕ

-- "served ≤ 1,000,000,000, nR ≤ served, nW ≤ b × served"
pub record CountsIn (n : Numbers) (c : Counts) : Type 0 where
  pub served_high : c.served ≤ most_served
  pub reads_high : c.nR ≤ c.served
  pub writes_high : c.nW ≤ n.b * c.served

-- one more served call, with so many physical reads and writes
abbrev pub counted_by : ℕ → ℕ → Counts → Counts
counted_by reads writes c = record { served = c.served + 1; nR = c.nR + reads; nW = c.nW + writes }

-- "the total is nR × r + nW × w": here alone the two meet
abbrev pub total_cost : Numbers → Counts → ℕ
total_cost n c = c.nR * n.r + c.nW * n.w
