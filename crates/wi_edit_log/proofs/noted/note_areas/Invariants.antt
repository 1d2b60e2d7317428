use Rattle.wi_edit_log.proofs.Words.{take, is_within_one, NotesMore}
use Rattle.wi_edit_log.proofs.noted.note_areas.Given as goal

abbrev pub invariant-loop-area : goal.invariant-loop-area
invariant-loop-area l = NotesMore (is_within_one (take l.area-index l.areas)) l.session l.count l.fn.notes.entries l.notes.entries
