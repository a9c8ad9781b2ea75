-- The scope's number and values for each case of each answer. Promises state answers in these; that no two cases say the same is proved.
-- Assumes nothing.
use Rattle.std.specs.Prelude.{List, [], ◌∷◌, ℕ, Option, Some, None, Result, Ok, Err}
use Rattle.model.specs.declared.Victim.{Victim}
use Rattle.model.specs.declared.Victim.TheVariants.{Clean, Dirty}
use Rattle.model.specs.declared.Refusal.{Refusal}
use Rattle.model.specs.declared.Refusal.TheVariants.{OutOfLimits, BrokenPool, WrongMemory, NoSuchPage, WrongBytes, Spent}
use Rattle.model.specs.declared.Refusal.TheVariants.{NotATrace, BadRecord, LongFile, LargePool, NoRoom, ZeroTime, BrokenWindows}
use Rattle.model.specs.declared.Access.{Access}
use Rattle.model.specs.declared.Access.TheVariants.{Hit, Fault}

-- whether something is refused, before anything is done
abbrev pub Verdict : Type 0
Verdict = Result (Unit {0}) Refusal

-- what a read or a write answers
abbrev pub Answer : Type 0
Answer = Result Access Refusal

-- what an answer says, in the scope's words and numbers
pub data Said : Type 0 where
  -- the refusal's number, and what it names besides: the record of 8
  refused : ℕ → List ℕ → Said
  opened : Said
  hit : Said
  -- a fault with no victim, with a clean one and with a dirty one, by its page
  fault : Said
  fault_clean : ℕ → Said
  fault_dirty : ℕ → Said
  -- how many pages were written
  flushed : ℕ → Said
  dropped : Said
  -- nR × r + nW × w
  total : ℕ → Said
  noted : Said

abbrev pub number_of : Refusal → ℕ
number_of OutOfLimits = 1
number_of BrokenPool = 2
number_of WrongMemory = 3
number_of NoSuchPage = 4
number_of WrongBytes = 5
number_of Spent = 6
number_of NotATrace = 7
number_of (BadRecord k) = 8
number_of LongFile = 9
number_of LargePool = 10
number_of NoRoom = 11
number_of ZeroTime = 12
number_of BrokenWindows = 13

abbrev pub named_by : Refusal → List ℕ
named_by OutOfLimits = []
named_by BrokenPool = []
named_by WrongMemory = []
named_by NoSuchPage = []
named_by WrongBytes = []
named_by Spent = []
named_by NotATrace = []
named_by (BadRecord k) = k ∷ []
named_by LongFile = []
named_by LargePool = []
named_by NoRoom = []
named_by ZeroTime = []
named_by BrokenWindows = []

abbrev pub refusal_says : Refusal → Said
refusal_says x = refused (number_of x) (named_by x)

abbrev pub fault_says : Option Victim → Said
fault_says None = fault
fault_says (Some (Clean q)) = fault_clean q
fault_says (Some (Dirty q)) = fault_dirty q

abbrev pub access_says : Access → Said
access_says Hit = hit
access_says (Fault v) = fault_says v

-- what a call answers, by the word for what it does when it is not refused
abbrev pub says : {T : Type 0} → (T → Said) → Result T Refusal → Said
says word (Err x) = refusal_says x
says word (Ok t) = word t

abbrev pub answer_says : Answer → Said
answer_says a = says access_says a

abbrev pub opening_says : Verdict → Said
opening_says a = says (λ _. opened) a

abbrev pub flushing_says : Result ℕ Refusal → Said
flushing_says a = says flushed a

abbrev pub dropping_says : Verdict → Said
dropping_says a = says (λ _. dropped) a

abbrev pub costing_says : Result ℕ Refusal → Said
costing_says a = says total a

abbrev pub timing_says : Verdict → Said
timing_says a = says (λ _. noted) a
