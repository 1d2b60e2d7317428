use Rattle.wi_tiles.proofs.Words.{rules, arith, ap, ◌∙◌, ◌≡◌, ◌+◌, ◌++◌, length, length-append, at_window}
use Rattle.wi_tiles.proofs.Windows.{window_before}
use Rattle.wi_tiles.proofs.window.put_before.Goals as goal

pub returns-clause-reach : goal.returns-clause-reach
returns-clause-reach g c =
    let items : c.append.new.self.items ≡ c.in_ok-all.all.items ++ c.args.parts.now.items = search rules in
    omega (arith, ap length items, length-append c.in_ok-all.all.items c.args.parts.now.items, c.in_ok-all.ensures.count, c.requires)

pub returns-clause-ok : goal.returns-clause-ok
returns-clause-ok g c =
    let items : c.append.new.self.items ≡ c.in_ok-all.all.items ++ c.args.parts.now.items = search rules in
    let reach : c.args.index + length c.in_ok-all.all.items ≡ c.args.first = omega (arith, c.in_ok-all.ensures.count, c.requires) in
    λ p. ap (λ xs. at_window g.T.Places.at (c.args.index, xs) p) items ∙ window_before g.T.Places.at c.args.index c.args.first c.in_ok-all.all.items c.args.parts.now.items reach c.in_ok-all.ensures.vacant p
