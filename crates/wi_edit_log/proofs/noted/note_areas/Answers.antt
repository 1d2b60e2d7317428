use Rattle.wi_edit_log.proofs.Words.{arith, refl, subst, take_all, is_within_one, NotesMore}
use Rattle.wi_edit_log.proofs.Noting.{area_noted}
use Rattle.wi_edit_log.proofs.noted.note_areas.Goals as goal

pub loop-area-init : goal.loop-area-init
loop-area-init c = λ a. refl

pub loop-area-preserved : goal.loop-area-preserved
loop-area-preserved c =
    area_noted c.args.areas.now c.loop-area.area-index c.area-item.result c.args.session c.args.count c.args.notes.now.entries c.loop-area.notes.entries c.note_area.new.notes.entries
    (omega arith) c.area-item.is c.loop-area.invariant c.in_ok-note_area.ensures

pub returns : goal.returns
returns c =
    subst (λ areas. NotesMore (is_within_one areas) c.args.session c.args.count c.args.notes.now.entries c.loop-area.notes.entries) (take_all c.loop-area.area-index c.args.areas.now (omega arith)) c.loop-area.invariant
