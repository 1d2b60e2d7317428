use Rattle.wi_tiles.proofs.Words.{arith, sym, ◌∙◌, ◌-◌, length}
use Rattle.wi_tiles.proofs.Outcomes.{not_both}
use Rattle.wi_tiles.proofs.Windows.{part_is}
use Rattle.wi_tiles.proofs.window.ends_vacant.Goals as goal

pub returns-then-len-eq0-clause-filled : goal.returns-then-len-eq0-clause-filled
returns-then-len-eq0-clause-filled g c = λ f l. absurd (omega (arith, l, c.if-len-eq0.true))

pub returns-clause-filled : goal.returns-clause-filled
returns-clause-filled g c = λ f l none. not_both c.is_vacant.result f (c.is_vacant.ensures.1 (λ p. sym (part_is g.T.Places.at c.args.parts.now (length c.args.parts.now - 1) c.index-parts-last.result p (omega (arith, l)) c.index-parts-last.is) ∙ none p))
