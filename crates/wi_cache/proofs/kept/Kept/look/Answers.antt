use Rattle.std.proofs.Common.{rules}
use Rattle.wi_cache.proofs.Keeping.{latest_finds}
use Rattle.wi_cache.proofs.kept.Kept.look.Goals as goal

pub returns : goal.returns
returns c =
    let i = c.self.inside in
    let found = latest_finds i.oldest i.entries.entries c.self.invariant.0.0 c.args.key.now in
    search (rules, found)
