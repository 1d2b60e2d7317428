use Rattle.wi_sessions.proofs.Words.{length}
use Rattle.wi_sessions.proofs.PendingLemmas.{cells_rise, within_unread}
use Rattle.wi_sessions.proofs.pending.Pending.cells_rise.Goals as goal

pub returns : goal.returns
returns c =
    cells_rise c.self.inside.words.entries c.self.inside.staged.items (length c.self.inside.unread.items) c.args.i c.args.self.now c.self.invariant.order c.len.ensures.sheet c.self.view_is
    (within_unread c.self.inside.words.entries c.self.inside.staged.items (length c.self.inside.unread.items) c.args.i c.args.self.now c.self.view_is c.requires)
