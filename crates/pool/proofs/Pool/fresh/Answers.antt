-- `pool::Pool::fresh` meets its contract: each list is in its places, and zeros in the frames' places are zeros in all. Assumes nothing.
use Rattle.std.proofs.Common.{◌≡◌, sym, ap, ◌∙◌, List, [], ℕ, ◌+◌, ◌-◌, ◌≤◌, arith, length, replicate}
use lib.ListN.{length-replicate, replicate-append-replicate}
use Rattle.order.specs.Places.{places, pad, list_of}
use Rattle.pool.proofs.Pool.fresh.Goals as goal

abbrev zeros : ℕ → List ℕ
zeros n = replicate n 0

-- zeros in their places are zeros in all places
pad-zeros : (n : ℕ) → n ≤ places → zeros places ≡ pad (zeros n)
pad-zeros n h =
    let e : places ≡ n + (places - length (zeros n)) = omega (arith, length-replicate {A = ℕ} n 0) in
    ap zeros e ∙ sym (replicate-append-replicate {A = ℕ} n (places - length (zeros n)) 0)

pub returns : goal.returns
returns c =
    let n = c.args.numbers in
    let pages = pad-zeros n.frames c.requires in
    (λ i.
    record {
      numbers = n;
      lists = record { empty = c.all.ensures i; clean = list_of []; dirty = list_of [] };
      page = pages i;
      reference = pages i;
      target = 0;
      served = 0;
      reads = record { 0 = 0 };
      writes = record { 0 = 0 };
    })
