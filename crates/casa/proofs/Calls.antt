-- A call is refused or served as the definitions say, by the verdict on it: refused, it leaves everything; else it may be served. And the total. Assumes
-- nothing.
use Rattle.std.specs.Prelude.{Ok, Err}
use mathlib.Core.Path.{◌≡◌, sym, ap, ◌∙◌, subst}
use mathlib.Core.Bool.{Bool, true, false}
use mathlib.Core.List.{List, []}
use Prim.Native.Nat.{ℕ, ◌+◌, ◌*◌, ◌≤◌}
use native.Mathlib.Nat.{le_trans, mul-le-mul}
use lib.ListN.{length}
use Rattle.order.specs.Places.{places}
use Rattle.checks.specs.Tests.{Decides}
use Rattle.model.specs.Numbers.{most_served}
use Rattle.model.specs.Words.{total as said_total, refusal_says}
use Rattle.model.specs.Refusals.{request_verdict, flush_verdict, drop_verdict, output_fits, stretch_fits}
use Rattle.model.specs.Times.{Times, times_fit}
use Rattle.model.specs.Run.{Call, World, read, write, flush, drop, total, verdict_of, left_by, left}
use Rattle.model.specs.declared.Refusal.{Refusal}
use Rattle.model.specs.declared.Refusal.TheVariants.{BrokenPool}
use Rattle.model.specs.Words.{Verdict}
use Rattle.pool.specs.Pool.{numbers_in, Sound}
use Rattle.pool.specs.Test.{sound_test}
use Rattle.pool.specs.declared.Pool.{Pool}
use Rattle.pool.proofs.Decides.{sound_test-decides}
use Rattle.serve.proofs.Verdicts.{flush-as-request, drop-as-request}
use Rattle.fine.specs.Serving.{served_after}
use Rattle.casa.specs.Calls.{pools, after}

-- ---- v is the verdict of a call: refused, it leaves everything, and else it is served

module _ (x : World Pool) (c : Call) (v : Verdict) (e : v ≡ verdict_of pools x c) where
  pub call-refused : (y : Refusal) → v ≡ Err y → left_by pools (Err y) x c ≡ left pools x c
  unfolding left
  call-refused y k = ap (λ (z : Verdict). left_by pools z x c) (sym k ∙ e)

  pub call-served : v ≡ Ok tt → served_after x.state x.memory.frames x.memory.store c ≡ left pools x c
  unfolding left served_after
  call-served k = ap (λ (z : Verdict). left_by pools z x c) (sym k ∙ e)

-- ---- what a soundness test that says yes tells

pub sound-is : (p : Pool) → sound_test p ≡ true → Sound p
sound-is p e = subst (λ (t : Bool). Decides t (Sound p)) e (sound_test-decides p)

-- the products of the test of sizes fit
pub sound-sizes : (p : Pool) → sound_test p ≡ true → (p.numbers.frames ≤ places) × (p.numbers.pages ≤ 65536) × (p.numbers.page_bytes ≤ 4096)
sound-sizes p e = let l = (sound-is p e).good.limits in (l.b_high, l.N_high, l.P_high)

-- ---- what the code finds by the lent lengths is that verdict: t is the soundness test's answer, and v the verdict's

module _ (x : World Pool) (v : Verdict) (t : Bool) (sound : t ≡ sound_test x.state) where
  abbrev Found : Bool → ℕ → Bool → Type 0
  Found timed page fit =
      let p = x.state in
      v ≡ request_verdict t timed (numbers_in p) p.served (length x.memory.frames) (length x.memory.store) page fit

  pub read-verdict : (k : Times) (timed : Bool) (page : ℕ) (out : List ℕ) → Found timed page (output_fits x.state.numbers.page_bytes (length out))
      → timed ≡ times_fit k → v ≡ verdict_of pools x (read k page out)
  unfolding request_verdict
  read-verdict k timed page out e f = rw (sound, f) at e

  pub write-verdict : (k : Times) (timed : Bool) (page start : ℕ) (bytes : List ℕ) (fit : Bool) → Found timed page fit → timed ≡ times_fit k
      → fit ≡ stretch_fits x.state.numbers.page_bytes start (length bytes) → v ≡ verdict_of pools x (write k page start bytes)
  unfolding request_verdict
  write-verdict k timed page start bytes fit e f g = rw (sound, f, g) at e

  pub flush-verdict : Found true 0 true → v ≡ verdict_of pools x flush
  unfolding flush_verdict
  flush-verdict e = rw sound at (e ∙ flush-as-request t _ _ _ _ (λ k. (sound-is x.state (sym sound ∙ k)).good.limits.N_low))

  pub drop-verdict : (page : ℕ) → Found true page true → v ≡ verdict_of pools x (drop page)
  unfolding drop_verdict
  drop-verdict page e = rw sound at (e ∙ drop-as-request t _ _ _ _ page)

-- the total fits, and is the state's
module _ (p : Pool) (s : Sound p) where
  pub reads-cost : p.reads.0 * p.numbers.read_cost ≤ most_served * 1000
  reads-cost = mul-le-mul (le_trans s.good.counts.reads_high s.good.counts.served_high) s.good.limits.r_high

  pub writes-cost : p.writes.0 * p.numbers.write_cost ≤ places * most_served * 1000
  writes-cost =
      let g = s.good in
      mul-le-mul (le_trans g.counts.writes_high (mul-le-mul g.limits.b_high g.counts.served_high)) g.limits.w_high

module _ (p : Pool) where
  pub total-refused : sound_test p ≡ false → refusal_says BrokenPool ≡ (after p [] [] total).said
  unfolding left
  total-refused e = rw e

  pub total-fine : sound_test p ≡ true → said_total (p.reads.0 * p.numbers.read_cost + p.writes.0 * p.numbers.write_cost) ≡ (after p [] [] total).said
  unfolding left
  total-fine e = rw e
