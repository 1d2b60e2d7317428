use Rattle.wi_edit_log.proofs.Words.{rules}
use Rattle.wi_edit_log.proofs.Notes.{first_in_parts}
use Rattle.wi_edit_log.proofs.noted.Noted.first_named.Goals as goal

pub returns : goal.returns
returns c =
    first_in_parts c.args.edits.now _ c.args.self.now.narrow.items c.args.self.now.notes.entries c.args.session c.args.from c.min.result c.max.result c.args.wanted.now
    c.first_noted_stale-by_notes.result c.first_of_wide-wide.result c.first_of_others-left.result c.sooner-2.result
    c.requires.noted (search rules) (search rules) (search rules) (search rules) c.first_noted_stale-by_notes.ensures c.first_of_wide-wide.ensures c.first_of_others-left.ensures
