-- Demand 1 for CASA's pools: model's laws on what a call says, with the test of soundness told as soundness. Assumes nothing.
use mathlib.Core.Path.{◌≡◌, refl, sym, ap, ◌∙◌}
use mathlib.Core.Bool.{Bool, true, false, not, false≢true}
use mathlib.Core.List.{List, [], ◌∷◌}
use Prim.Native.Nat.{ℕ}
use native.Mathlib.Omega.{arith}
use lib.ListN.{length}
use Rattle.model.specs.Words.{number_of, refusal_says}
use Rattle.model.specs.Refusals.{Row, GivenBy, here, later, broken_pool, request_rows, output_fits, stretch_fits}
use Rattle.model.specs.Times.{times_fit}
use Rattle.model.specs.Run.{Call, read, write, flush, drop, total, output_of, times_of, World, Left, further_rows, rows_of, left}
use Rattle.model.specs.declared.Refusal.{Refusal}
use Rattle.model.specs.declared.Refusal.TheVariants.{BrokenPool, BrokenWindows}
use Rattle.model.proofs.Exactly as exactly
use Rattle.model.proofs.Framed.{framed-lawful, framed-pooled}
use Rattle.pool.specs.Pool.{Sound}
use Rattle.pool.specs.Test.{sound_test}
use Rattle.pool.specs.declared.Pool.{Pool}
use Rattle.pool.proofs.Decides.{sound_test-exact}
use Rattle.casa.specs.Calls.{pools}
use Rattle.casa.proofs.Lawful.{pools-framed, pools-lawful}

means : (p : Pool) → sound_test p ≡ true → Sound p
means p = (sound_test-exact p).means

-- none of the rows gives refusal y
abbrev NoneGives : Refusal → List Row → Type 0
NoneGives y [] = Unit {0}
NoneGives y (r ∷ rs) = (r.when ≡ true → r.why ≡ y → ⊥) × NoneGives y rs

none-given : (y : Refusal) (rs : List Row) → NoneGives y rs → GivenBy y rs → ⊥
none-given y [] n g = elim g [ ]
none-given y (r ∷ rs) n (here h w) = n.0 h w
none-given y (r ∷ rs) n (later h g) = none-given y rs n.1 g

apart : {a b : Refusal} {A : Type 0} → (number_of a ≡ number_of b → ⊥) → A → a ≡ b → ⊥
apart n h e = n (ap number_of e)

-- no row behind 2 gives 2
further-none : (x : World Pool) (c : Call) → NoneGives BrokenPool (further_rows pools x c)
further-none x (read t q out) =
    (apart (λ e. omega arith), (apart (λ e. omega arith), (apart (λ e. omega arith), (apart (λ e. omega arith), (apart (λ e. omega arith), tt)))))
further-none x (write t q start bytes) =
    (apart (λ e. omega arith), (apart (λ e. omega arith), (apart (λ e. omega arith), (apart (λ e. omega arith), (apart (λ e. omega arith), tt)))))
further-none x flush = (apart (λ e. omega arith), (apart (λ e. omega arith), tt))
further-none x (drop q) = (apart (λ e. omega arith), (apart (λ e. omega arith), (apart (λ e. omega arith), tt)))
further-none x total = tt

-- and none gives 13 where the kept numbers fit
request-none : (x : World Pool) (timed fit : Bool) (q : ℕ) → timed ≡ true
    → NoneGives BrokenWindows (broken_pool (pools.sound x.state)
    ∷ request_rows timed (pools.numbers x.state) (pools.counts x.state).served (length x.memory.frames) (length x.memory.store) q fit)
request-none x timed fit q f =
    let fits : not timed ≡ true → BrokenWindows ≡ BrokenWindows → ⊥ = λ h e. false≢true (sym (ap not f) ∙ h) in
    (apart (λ e. omega arith), (fits, (apart (λ e. omega arith), (apart (λ e. omega arith), (apart (λ e. omega arith), (apart (λ e. omega arith), tt))))))

fitting-none : (x : World Pool) (c : Call) → times_fit (times_of c) ≡ true → NoneGives BrokenWindows (rows_of pools x c)
fitting-none x (read t q out) f = request-none x (times_fit t) (output_fits (pools.numbers x.state).P (length out)) q f
fitting-none x (write t q start bytes) f = request-none x (times_fit t) (stretch_fits (pools.numbers x.state).P start (length bytes)) q f
fitting-none x flush f = (apart (λ e. omega arith), (apart (λ e. omega arith), (apart (λ e. omega arith), tt)))
fitting-none x (drop q) f = (apart (λ e. omega arith), (apart (λ e. omega arith), (apart (λ e. omega arith), (apart (λ e. omega arith), tt))))
fitting-none x total f = (apart (λ e. omega arith), tt)

module _ (x : World Pool) (c : Call) where
  -- behind the first row, where the pool is sound
  behind : Sound x.state → (y : Refusal) → GivenBy y (rows_of pools x c) → GivenBy y (further_rows pools x c)
  behind s y (here h w) = absurd (false≢true (sym (ap not ((sound_test-exact x.state).test s)) ∙ h))
  behind s y (later h g) = g

  module _ (s : Sound x.state) (y : Refusal) where
    pub says-given : (left pools x c).said ≡ refusal_says y → GivenBy y (further_rows pools x c)
    unfolding pools-lawful pools-framed framed-lawful framed-pooled
    says-given e = behind s y (exactly.says-given pools pools-lawful means x c y e)

    pub given-says : GivenBy y (further_rows pools x c) → (left pools x c).said ≡ refusal_says y
    unfolding pools-lawful pools-framed framed-lawful framed-pooled
    given-says g = exactly.given-says pools pools-lawful means x c y (later (ap not ((sound_test-exact x.state).test s)) g)

  pub broken-says : (left pools x c).said ≡ refusal_says BrokenPool → Sound x.state → ⊥
  broken-says e s = none-given BrokenPool (further_rows pools x c) (further-none x c) (says-given s BrokenPool e)

  -- a call whose kept numbers fit does not say 13
  pub fits-says : times_fit (times_of c) ≡ true → (left pools x c).said ≡ refusal_says BrokenWindows → ⊥
  unfolding pools-lawful pools-framed framed-lawful framed-pooled
  fits-says f e = none-given BrokenWindows (rows_of pools x c) (fitting-none x c f) (exactly.says-given pools pools-lawful means x c BrokenWindows e)

  pub says-broken : (Sound x.state → ⊥) → (left pools x c).said ≡ refusal_says BrokenPool
  unfolding pools-lawful pools-framed framed-lawful framed-pooled
  says-broken h = go (sound_test x.state) refl
    where
      go : (t : Bool) → sound_test x.state ≡ t → (left pools x c).said ≡ refusal_says BrokenPool
      go true e = absurd (h (means x.state e))
      go false e = exactly.given-says pools pools-lawful means x c BrokenPool (here (ap not e) refl)

  pub says-leaves : (y : Refusal) → (left pools x c).said ≡ refusal_says y
      → ((left pools x c).state ≡ x.state) × ((left pools x c).memory ≡ x.memory) × ((left pools x c).out ≡ output_of c)
  unfolding pools-lawful pools-framed framed-lawful framed-pooled
  says-leaves y e =
      let l = exactly.says-leaves pools pools-lawful means x c y e in
      (ap (λ (z : Left Pool). z.state) l, ap (λ (z : Left Pool). z.memory) l, ap (λ (z : Left Pool). z.out) l)
