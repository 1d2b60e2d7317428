use Rattle.wi_edit_log.proofs.Words.{◌≡◌, ◌-◌, length, take, arith, common_steps}
use Rattle.wi_edit_log.proofs.Notes.{kept_of_fewer}
use Rattle.wi_edit_log.proofs.edit_log.EditLog.take_back.Goals as goal

pub returns-clause-rest : goal.returns-clause-rest
returns-clause-rest c = grind (arith, common_steps)

pub invariant_of-self : goal.invariant_of-self
invariant_of-self c =
    let old = c.self.inside.edits.items in
    let new = c.pop.new.self.items in
    let rest : new ≡ take (length old - 1) old = grind (arith, common_steps) in
    let left : c.len.result ≡ length new = grind (arith, common_steps) in
    kept_of_fewer old new c.self.inside.noted.narrow.items c.forget_beyond.new.self.narrow.items c.len.result
    c.self.inside.noted.notes.entries c.forget_beyond.new.self.notes.entries c.self.invariant rest left c.forget_beyond.ensures
