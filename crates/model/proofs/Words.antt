-- No two cases of an answer say the same: what an answer says leads back to it. Assumes nothing.
use mathlib.Core.Path.{◌≡◌, refl, sym, ap, ◌∙◌}
use mathlib.Core.List.{List, [], ◌∷◌}
use Prim.Native.Nat.{ℕ}
use lib.ListN.{get_or}
use Rattle.std.specs.Prelude.{Some, None, Result, Ok, Err}
use Rattle.model.specs.Words.{Said, refused, opened, hit, fault, fault_clean, fault_dirty, flushed, dropped, total, noted}
use Rattle.model.specs.Words.{Answer, Verdict, number_of, named_by, refusal_says, access_says, says}
use Rattle.model.specs.Words.{answer_says, opening_says, flushing_says, dropping_says, costing_says, timing_says}
use Rattle.model.specs.declared.Victim.TheVariants.{Clean, Dirty}
use Rattle.model.specs.declared.Refusal.{Refusal}
use Rattle.model.specs.declared.Refusal.TheVariants.{OutOfLimits, BrokenPool, WrongMemory, NoSuchPage, WrongBytes, Spent}
use Rattle.model.specs.declared.Refusal.TheVariants.{NotATrace, BadRecord, LongFile, LargePool, NoRoom, ZeroTime, BrokenWindows}
use Rattle.model.specs.declared.Access.{Access}
use Rattle.model.specs.declared.Access.TheVariants.{Hit, Fault}

-- a function that has a way back takes no two values to one
one-to-one : {A B : Type 0} (f : A → B) (back : B → A) → ((x : A) → back (f x) ≡ x) → (x y : A) → f x ≡ f y → x ≡ y
one-to-one f back home x y e = sym (home x) ∙ ap back e ∙ home y

-- ---- refusals, by number

abbrev refusal_by : ℕ → List ℕ → Refusal
refusal_by n ks =
    let from-7 = NotATrace ∷ BadRecord (get_or ks 0 0) ∷ LongFile ∷ LargePool ∷ NoRoom ∷ ZeroTime ∷ BrokenWindows ∷ [] in
    get_or (Spent ∷ OutOfLimits ∷ BrokenPool ∷ WrongMemory ∷ NoSuchPage ∷ WrongBytes ∷ Spent ∷ from-7) n Spent

refusal-home : (x : Refusal) → refusal_by (number_of x) (named_by x) ≡ x
refusal-home OutOfLimits = refl
refusal-home BrokenPool = refl
refusal-home WrongMemory = refl
refusal-home NoSuchPage = refl
refusal-home WrongBytes = refl
refusal-home Spent = refl
refusal-home NotATrace = refl
refusal-home (BadRecord k) = refl
refusal-home LongFile = refl
refusal-home LargePool = refl
refusal-home NoRoom = refl
refusal-home ZeroTime = refl
refusal-home BrokenWindows = refl

abbrev refusal_in : Said → Refusal
refusal_in (refused n ks) = refusal_by n ks
refusal_in opened = Spent
refusal_in hit = Spent
refusal_in fault = Spent
refusal_in (fault_clean q) = Spent
refusal_in (fault_dirty q) = Spent
refusal_in (flushed n) = Spent
refusal_in dropped = Spent
refusal_in (total n) = Spent
refusal_in noted = Spent

pub refusal-one-to-one : (x y : Refusal) → refusal_says x ≡ refusal_says y → x ≡ y
refusal-one-to-one = one-to-one refusal_says refusal_in refusal-home

-- ---- answers: a refusal is heard as one, and `heard_as` hears the rest

abbrev heard : {T : Type 0} → (Said → T) → Said → Result T Refusal
heard heard_as (refused n ks) = Err (refusal_by n ks)
heard heard_as opened = Ok (heard_as opened)
heard heard_as hit = Ok (heard_as hit)
heard heard_as fault = Ok (heard_as fault)
heard heard_as (fault_clean q) = Ok (heard_as (fault_clean q))
heard heard_as (fault_dirty q) = Ok (heard_as (fault_dirty q))
heard heard_as (flushed n) = Ok (heard_as (flushed n))
heard heard_as dropped = Ok (heard_as dropped)
heard heard_as (total n) = Ok (heard_as (total n))
heard heard_as noted = Ok (heard_as noted)

pub says-one-to-one : {T : Type 0} (word : T → Said) (heard_as : Said → T) → ((t : T) → heard heard_as (word t) ≡ Ok t)
    → (x y : Result T Refusal) → says word x ≡ says word y → x ≡ y
says-one-to-one {T} word heard_as ok = one-to-one (says word) (heard heard_as) home
  where
    home : (x : Result T Refusal) → heard heard_as (says word x) ≡ x
    home (Err x) = ap Err (refusal-home x)
    home (Ok t) = ok t

-- ---- reads and writes

abbrev access_in : Said → Access
access_in (refused n ks) = Hit
access_in opened = Hit
access_in hit = Hit
access_in fault = Fault None
access_in (fault_clean q) = Fault (Some (Clean q))
access_in (fault_dirty q) = Fault (Some (Dirty q))
access_in (flushed n) = Hit
access_in dropped = Hit
access_in (total n) = Hit
access_in noted = Hit

pub answer-one-to-one : (x y : Answer) → answer_says x ≡ answer_says y → x ≡ y
answer-one-to-one = says-one-to-one access_says access_in home
  where
    home : (a : Access) → heard access_in (access_says a) ≡ Ok a
    home Hit = refl
    home (Fault None) = refl
    home (Fault (Some (Clean q))) = refl
    home (Fault (Some (Dirty q))) = refl

-- ---- a flush and a total, which answer a number

abbrev number_in : Said → ℕ
number_in (refused n ks) = 0
number_in opened = 0
number_in hit = 0
number_in fault = 0
number_in (fault_clean q) = 0
number_in (fault_dirty q) = 0
number_in (flushed n) = n
number_in dropped = 0
number_in (total n) = n
number_in noted = 0

pub flushing-one-to-one : (x y : Result ℕ Refusal) → flushing_says x ≡ flushing_says y → x ≡ y
flushing-one-to-one = says-one-to-one flushed number_in (λ n. refl)

pub costing-one-to-one : (x y : Result ℕ Refusal) → costing_says x ≡ costing_says y → x ≡ y
costing-one-to-one = says-one-to-one total number_in (λ n. refl)

-- ---- opening, a drop, a report and the start of two windows, which answer no more than that they were not refused

pub opening-one-to-one : (x y : Verdict) → opening_says x ≡ opening_says y → x ≡ y
opening-one-to-one = says-one-to-one (λ _. opened) (λ _. tt) (λ u. refl)

pub dropping-one-to-one : (x y : Verdict) → dropping_says x ≡ dropping_says y → x ≡ y
dropping-one-to-one = says-one-to-one (λ _. dropped) (λ _. tt) (λ u. refl)

pub timing-one-to-one : (x y : Verdict) → timing_says x ≡ timing_says y → x ≡ y
timing-one-to-one = says-one-to-one (λ _. noted) (λ _. tt) (λ u. refl)
