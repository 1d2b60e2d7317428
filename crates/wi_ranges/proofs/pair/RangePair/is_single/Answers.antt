use Rattle.wi_ranges.proofs.Words.{◌<◌, ◌∙◌, ℕ, sym, subst, rows}
use Rattle.wi_ranges.proofs.CutLemmas.{lone_block}
use Rattle.wi_ranges.proofs.pair.RangePair.is_single.Goals as goal

pub returns-clause-block : goal.returns-clause-block
returns-clause-block c = λ t. lone_block c.args.self.now (sym c.eq.ensures ∙ t) (subst (λ (r : ℕ). r < rows) c.row.ensures.value c.row.ensures.within)
