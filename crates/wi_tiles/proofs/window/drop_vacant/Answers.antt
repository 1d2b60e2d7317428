use Rattle.wi_tiles.proofs.Words.{rules, sym, ◌∙◌}
use Rattle.wi_tiles.proofs.Outcomes.{not_both}
use Rattle.wi_tiles.proofs.Windows.{part_is}
use Rattle.wi_tiles.proofs.window.drop_vacant.Goals as goal

pub returns-then-is_vacant-clause-trimmed : goal.returns-then-is_vacant-clause-trimmed
returns-then-is_vacant-clause-trimmed g c = λ _. c.trim.ensures.trimmed

pub returns-else-is_vacant-clause-trimmed : goal.returns-else-is_vacant-clause-trimmed
returns-else-is_vacant-clause-trimmed g c =
    λ left. left (λ none. not_both c.is_vacant.result c.if-is_vacant.false (c.is_vacant.ensures.1 (λ p. sym (part_is g.T.Places.at c.args.parts.now.items c.args.place c.index.result.now p c.requires.within (search rules)) ∙ none p)))
