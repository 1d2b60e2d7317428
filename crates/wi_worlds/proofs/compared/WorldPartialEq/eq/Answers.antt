use Rattle.wi_worlds.proofs.Words.{rules}
use Rattle.wi_worlds.proofs.Digest.{told_apart}
use Rattle.wi_worlds.proofs.compared.WorldPartialEq.eq.Goals as goal

pub returns-then-digest : goal.returns-then-digest
returns-then-digest c = search rules

pub returns-else-digest : goal.returns-else-digest
returns-else-digest c = told_apart c.args.self.now c.args.other.now c.digest.result c.digest-2.result c.digest.ensures c.digest-2.ensures c.if-digest.false
