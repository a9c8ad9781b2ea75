-- `casa::flush` meets its contract, by the verdict: refused, everything is as it was; else the call may be served. Assumes nothing.
use Rattle.std.proofs.Common.{◌≡◌, sym, ◌∙◌}
use Rattle.model.specs.Run.{World, flush, verdict_of}
use Rattle.model.proofs.Refusals.{flush-ready}
use Rattle.pool.specs.declared.Pool.{Pool}
use Rattle.casa.specs.Calls.{pools, world_of}
use Rattle.casa.proofs.Calls.{sound-is, sound-sizes, call-refused, call-served, flush-verdict}
use Rattle.casa.proofs.flush.Goals as goal
use Rattle.casa.proofs.flush.Goals.{After-request_verdict-verdict}

abbrev world : After-request_verdict-verdict → World Pool
world c = let a = c.args in world_of a.pool a.frames.now a.store.now

told : (c : After-request_verdict-verdict) → c.request_verdict-verdict.result ≡ verdict_of pools (world c) flush
told c = flush-verdict (world c) c.request_verdict-verdict.result c.is_sound-sound.result c.is_sound-sound.ensures c.request_verdict-verdict.ensures

pub request_verdict-verdict-requires : goal.request_verdict-verdict-requires
request_verdict-verdict-requires c e = sound-sizes _ (sym c.is_sound-sound.ensures ∙ e)

pub flush-requires : goal.flush-requires
flush-requires c =
    let ok = flush-ready pools (world (goal.at.flush-requires c).After-request_verdict-verdict)
    (sym (told (goal.at.flush-requires c).After-request_verdict-verdict) ∙ c.in-Ok.is) in
    record { sound = sound-is _ ok.0; ready = ok.1 }

pub returns-in-Err : goal.returns-in-Err
returns-in-Err c = call-refused (world (goal.at.returns-in-Err c).After-request_verdict-verdict) flush _
    (told (goal.at.returns-in-Err c).After-request_verdict-verdict) _ c.in-Err.is

pub returns-in-Ok : goal.returns-in-Ok
returns-in-Ok c =
    let told-fine = c.in-Ok.is in
    c.flush.ensures ∙ call-served (world (goal.at.returns-in-Ok c).After-request_verdict-verdict) flush _
    (told (goal.at.returns-in-Ok c).After-request_verdict-verdict) told-fine
