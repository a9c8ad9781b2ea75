-- The scope's listing, its examples P1 to P9, and steps that end in just a half: one table with one statement, which the checker computes from the definitions.
-- Assumes nothing.
use Rattle.std.specs.Prelude.{List, [], ◌∷◌, ℕ, ◌-◌, get_or, replicate}
use Rattle.pages.specs.Pages.{page_of}
use Rattle.model.specs.Words.{Said, hit, fault, fault_clean, fault_dirty, flushed as wrote}
use Rattle.model.specs.Counts.{total_cost}
use Rattle.model.specs.Bytes.{Memory}
use Rattle.model.specs.State.{State, opened, with_target, page_in}
use Rattle.model.specs.Target.{Costs, costs}
use Rattle.model.specs.Request.{states, request}
use Rattle.model.specs.Times.{unmeasured}
use Rattle.model.specs.Run.{World, Call, read, write, flush, outcome_of, served}
use Rattle.model.specs.declared.Op.{Op}
use Rattle.model.specs.declared.Op.TheVariants.{Read, Write}

-- a record of a trace: a read, a write of one byte to byte 0, a flush
pub data Record : Type 0 where
  R : ℕ → Record
  W : ℕ → ℕ → Record
  F : Record

-- what there is to see after a call: the answer, pages written back in it, C and D by their pages, the target, byte 0 of the page
pub record Row : Type 0 where
  pub says : Said
  pub writes : ℕ
  pub C : List ℕ
  pub D : List ℕ
  pub target : ℕ
  pub byte : List ℕ

abbrev pub pages_of : State → List ℕ → List ℕ
pages_of s [] = []
pages_of s (f ∷ fs) = page_in s f ∷ pages_of s fs

abbrev pub row_of : Said → ℕ → List ℕ → State → Row
row_of a before byte s =
    record { says = a; writes = s.counts.nW - before; C = pages_of s s.lists.C; D = pages_of s s.lists.D; target = s.target; byte = byte }

-- the call that it asks, on pages of 16 bytes, and the world after it
abbrev pub call_of : Record → Call
call_of (R q) = read unmeasured q (replicate 16 0)
call_of (W q v) = write unmeasured q 0 (v ∷ [])
call_of F = flush

abbrev pub next : World State → Record → World State
next x r = record { state = (served states x (call_of r)).state; memory = (served states x (call_of r)).memory }

abbrev pub after_records : World State → List Record → World State
after_records x [] = x
after_records x (r ∷ rs) = after_records (next x r) rs

-- byte 0 of the frame that served a request, in the bytes that it left
abbrev pub byte_in : World State → Record → Memory → List ℕ
byte_in x (R q) m = get_or (page_of 16 (outcome_of states Read x unmeasured q).frame m.frames) 0 0 ∷ []
byte_in x (W q v) m = get_or (page_of 16 (outcome_of states Write x unmeasured q).frame m.frames) 0 0 ∷ []
byte_in x F m = []

abbrev pub rows : World State → List Record → List Row
rows x [] = []
rows x (r ∷ rs) =
    let y = next x r in row_of (served states x (call_of r)).said x.state.counts.nW (byte_in x r y.memory) y.state ∷ rows y rs

-- a pool of 2 frames over 8 pages of 16 zero bytes
abbrev pub start : ℕ → ℕ → World State
start r w =
    record {
      state = opened (record { b = 2; P = 16; N = 8; r = r; w = w });
      memory = record { frames = replicate 32 0; store = replicate 128 0 };
    }

abbrev pub listing : List Record
listing = R 0 ∷ W 1 7 ∷ R 0 ∷ R 2 ∷ W 1 9 ∷ W 2 5 ∷ R 3 ∷ F ∷ R 1 ∷ []

-- P5 to P7
abbrev pub climb : List Record
climb = R 0 ∷ W 1 7 ∷ R 0 ∷ R 0 ∷ R 0 ∷ R 2 ∷ R 3 ∷ []

-- P8: one clean and one dirty page, the target at one page
abbrev pub balanced : State
balanced = with_target 65536 (after_records (start 1 2) (R 0 ∷ W 1 7 ∷ [])).state

-- costs with which the steps of `balanced` end in just a half: a read hit in C adds 1.5 units, a write hit in D takes 65,534.5
abbrev pub half_costs : Costs
half_costs = costs 3 131069

-- what such a hit on page q leaves of a target of τ
abbrev pub half_from : Op → ℕ → ℕ → ℕ
half_from op q τ = (request op half_costs (with_target τ balanced) q).state.target

pub record Worked : Type 0 where
  pub listing : List Row
  -- nR, nW and the total cost of the listing's end line
  pub end : List ℕ
  pub climb : List Row
  -- P8: what a write hit in D takes, and what a read hit in C adds
  pub takes : ℕ
  pub adds : ℕ
  -- with those costs: what a read hit leaves of 0, and of two units and one below the top; what a write hit leaves of the top, of just what it takes, and of a
  -- unit less
  pub half_up : List ℕ
  pub half_down : List ℕ

abbrev pub worked : Worked
worked =
    let s = (after_records (start 1 3) listing).state in
    record {
      listing = rows (start 1 3) listing;
      end = s.counts.nR ∷ s.counts.nW ∷ total_cost s.numbers s.counts ∷ [];
      climb = rows (start 3 1) climb;
      takes = 65536 - (outcome_of states Write (record { state = balanced; memory = (start 1 2).memory }) unmeasured 1).state.target;
      adds = (outcome_of states Read (record { state = balanced; memory = (start 1 2).memory }) unmeasured 0).state.target - 65536;
      half_up = half_from Read 0 0 ∷ half_from Read 0 131070 ∷ half_from Read 0 131071 ∷ [];
      half_down = half_from Write 1 131072 ∷ half_from Write 1 65535 ∷ half_from Write 1 65534 ∷ [];
    }

abbrev pub row : Said → ℕ → List ℕ → List ℕ → ℕ → List ℕ → Row
row a writes c d τ byte = record { says = a; writes = writes; C = c; D = d; target = τ; byte = byte }

abbrev pub expected : Worked
expected =
    record {
      listing =
          row fault 0 (0 ∷ []) [] 0 (0 ∷ [])
          ∷ row fault 0 (0 ∷ []) (1 ∷ []) 0 (7 ∷ [])
          -- P1
          ∷ row hit 0 (0 ∷ []) (1 ∷ []) 16384 (0 ∷ [])
          -- P3
          ∷ row (fault_clean 0) 0 (2 ∷ []) (1 ∷ []) 16384 (0 ∷ [])
          -- P2
          ∷ row hit 0 (2 ∷ []) (1 ∷ []) 0 (9 ∷ [])
          ∷ row hit 0 [] (2 ∷ 1 ∷ []) 0 (5 ∷ [])
          -- P4
          ∷ row (fault_dirty 1) 1 (3 ∷ []) (2 ∷ []) 0 (0 ∷ [])
          -- P9
          ∷ row (wrote 1) 1 (3 ∷ 2 ∷ []) [] 0 []
          ∷ row (fault_clean 2) 0 (1 ∷ 3 ∷ []) [] 0 (9 ∷ [])
          ∷ [];
      end = 5 ∷ 2 ∷ 11 ∷ [];
      climb =
          row fault 0 (0 ∷ []) [] 0 (0 ∷ [])
          ∷ row fault 0 (0 ∷ []) (1 ∷ []) 0 (7 ∷ [])
          -- P5
          ∷ row hit 0 (0 ∷ []) (1 ∷ []) 49152 (0 ∷ [])
          ∷ row hit 0 (0 ∷ []) (1 ∷ []) 98304 (0 ∷ [])
          ∷ row hit 0 (0 ∷ []) (1 ∷ []) 131072 (0 ∷ [])
          -- P6
          ∷ row (fault_dirty 1) 1 (2 ∷ 0 ∷ []) [] 131072 (0 ∷ [])
          -- P7
          ∷ row (fault_clean 0) 0 (3 ∷ 2 ∷ []) [] 131072 (0 ∷ [])
          ∷ [];
      -- P8
      takes = 43691;
      adds = 21845;
      half_up = 2 ∷ 131072 ∷ 131072 ∷ [];
      half_down = 65537 ∷ 0 ∷ 0 ∷ [];
    }
