-- `casa::read_page_measured` meets its contract, by the verdict: refused, everything is as it was; else the call may be served. Assumes nothing.
use Rattle.std.proofs.Common.{◌≡◌, sym, ◌∙◌, eqb-true}
use Rattle.model.specs.Times.{measured}
use Rattle.model.specs.Run.{Call, World, read, verdict_of}
use Rattle.model.proofs.Refusals.{read-clear}
use Rattle.pool.specs.declared.Pool.{Pool}
use Rattle.casa.specs.Calls.{pools, world_of}
use Rattle.casa.proofs.Calls.{sound-is, sound-sizes, call-refused, call-served, read-verdict}
use Rattle.casa.proofs.read_page_measured.Goals as goal
use Rattle.casa.proofs.read_page_measured.Goals.{After-request_verdict-verdict}

abbrev world : After-request_verdict-verdict → World Pool
world c = let a = c.args in world_of a.pool a.frames.now a.store.now

abbrev call : After-request_verdict-verdict → Call
call c = let a = c.args in read (measured a.kept) a.page a.out.now

told : (c : After-request_verdict-verdict) → c.request_verdict-verdict.result ≡ verdict_of pools (world c) (call c)
told c =
    let a = c.args in
    let timed = c.kept_fits-timed in
    let sound = c.is_sound-sound in
    read-verdict (world c) c.request_verdict-verdict.result sound.result sound.ensures (measured a.kept) timed.result a.page a.out.now
    c.request_verdict-verdict.ensures timed.ensures

pub request_verdict-verdict-requires : goal.request_verdict-verdict-requires
request_verdict-verdict-requires c e = sound-sizes _ (sym c.is_sound-sound.ensures ∙ e)

pub read-read-requires : goal.read-read-requires
read-read-requires c =
    let a = c.args in
    let ok = read-clear pools (world (goal.at.read-read-requires c).After-request_verdict-verdict) (measured a.kept) a.page a.out.now
    (sym (told (goal.at.read-read-requires c).After-request_verdict-verdict) ∙ c.in-Ok.is) in
    record { sound = (sound-is _ ok.0, ok.4); ready = (ok.1, ok.2); out_len = eqb-true _ _ ok.3 }

pub returns-in-Err : goal.returns-in-Err
returns-in-Err c = call-refused (world (goal.at.returns-in-Err c).After-request_verdict-verdict)
    (call (goal.at.returns-in-Err c).After-request_verdict-verdict) _ (told (goal.at.returns-in-Err c).After-request_verdict-verdict) _ c.in-Err.is

pub returns-in-Ok : goal.returns-in-Ok
returns-in-Ok c =
    c.read-read.ensures ∙ call-served (world (goal.at.returns-in-Ok c).After-request_verdict-verdict)
    (call (goal.at.returns-in-Ok c).After-request_verdict-verdict) _ (told (goal.at.returns-in-Ok c).After-request_verdict-verdict) c.in-Ok.is
