use Rattle.wi_engine.proofs.planning.Drafts.{readable_below}
use Rattle.wi_engine.proofs.planning.Draft.go_on.Goals as goal

pub meet-requires-clause-read : goal.meet-requires-clause-read
meet-requires-clause-read g c = readable_below _ _ _ _ c.requires.memo c.requires.read c.in-Some.ensures.read
