use Rattle.wi_sessions.proofs.Words.{refl, IfOk-from_err}
use Rattle.wi_sessions.proofs.WordLemmas.{nothing_staged}
use Rattle.wi_sessions.proofs.pending.stage_own.Goals as goal

pub returns-in_err-track-clause-rooms : goal.returns-in_err-track-clause-rooms
returns-in_err-track-clause-rooms c = nothing_staged c.from_residual.result c.from_residual.ensures.0 refl refl

pub returns-in_err-stage_each-clause-rooms : goal.returns-in_err-stage_each-clause-rooms
returns-in_err-stage_each-clause-rooms c =
    let part = c.in_err-stage_each.ensures.rooms in
    record { pending = part.pending; room = IfOk-from_err c.from_residual-in_err-stage_each.result _ c.from_residual-in_err-stage_each.ensures.0; others = part.others }

pub returns-in_err-stage_each-clause-stay : goal.returns-in_err-stage_each-clause-stay
returns-in_err-stage_each-clause-stay c = c.track.ensures.stay

pub returns-clause-stay : goal.returns-clause-stay
returns-clause-stay c = c.track.ensures.stay

pub returns-clause-own : goal.returns-clause-own
returns-clause-own c = c.in_ok-track.ensures.own

pub returns-clause-rooms : goal.returns-clause-rooms
returns-clause-rooms c = let all = c.in_ok-stage_each.ensures.rooms in record { pending = all.pending; room = all.room; others = all.others }
