-- The numbers of a pool and their limits.
-- Assumes nothing.
use Rattle.std.specs.Prelude.{Bool, ◌&&◌, cond as if-else, ℕ, ◌≤◌, eqb, leb}
use Rattle.model.specs.declared.Numbers as held

-- b frames over a store of N pages of P bytes; what a physical read and a physical write cost
pub record Numbers : Type 0 where
  pub b : ℕ
  pub P : ℕ
  pub N : ℕ
  pub r : ℕ
  pub w : ℕ

abbrev pub numbers : ℕ → ℕ → ℕ → ℕ → ℕ → Numbers
numbers b P N r w = record { b = b; P = P; N = N; r = r; w = w }

-- those that the code holds
abbrev pub numbers_held : held.Numbers → Numbers
numbers_held n = numbers n.frames n.page_bytes n.pages n.read_cost n.write_cost

abbrev pub holding : Numbers → held.Numbers
holding n = record { frames = n.b; page_bytes = n.P; pages = n.N; read_cost = n.r; write_cost = n.w }

-- the target is counted in units, 65,536 to a page
abbrev pub unit : ℕ
unit = 65536

-- so many calls are served in one opening
abbrev pub most_served : ℕ
most_served = 1000000000

abbrev pub between : ℕ → ℕ → ℕ → Bool
between low x high = leb low x && leb x high

-- "b 1 to 64; P 16 to 4,096; N 1 to 65,536; read cost r and write cost w each 1 to 1,000"
unfoldable pub in_limits : Numbers → Bool
in_limits n =
    between 1 n.b 64
    && (between 16 n.P 4096 && (between 1 n.N 65536 && (between 1 n.r 1000 && between 1 n.w 1000)))

-- the same as inequalities
pub record Limits (n : Numbers) : Type 0 where
  pub b_low : 1 ≤ n.b
  pub b_high : n.b ≤ 64
  pub P_low : 16 ≤ n.P
  pub P_high : n.P ≤ 4096
  pub N_low : 1 ≤ n.N
  pub N_high : n.N ≤ 65536
  pub r_low : 1 ≤ n.r
  pub r_high : n.r ≤ 1000
  pub w_low : 1 ≤ n.w
  pub w_high : n.w ≤ 1000

-- ---- both costs 0 name no drive

abbrev pub with_costs : ℕ → ℕ → Numbers → Numbers
with_costs read write n = numbers n.b n.P n.N read write

-- n, on a drive of these costs where it names none
unfoldable pub on_drive : ℕ → ℕ → Numbers → Numbers
on_drive read write n = if-else (eqb n.r 0 && eqb n.w 0) (with_costs read write n) n

-- "Opening with both costs 0 shall mean 1 and 10.": the usual drive
abbrev pub usual_read : ℕ
usual_read = 1

abbrev pub usual_write : ℕ
usual_write = 10

-- the numbers that a pool opened with n holds
abbrev pub meant : Numbers → Numbers
meant n = on_drive usual_read usual_write n
