use Rattle.wi_engine.proofs.Words.{Tree, ap, sym, ◌∙◌, list_any}
use Rattle.wi_parser.specs.Leaves.{leaves}
use Rattle.wi_engine.specs.Inner.Plans.{is_what_if}
use Rattle.wi_engine.proofs.planning.PlainFormulas.{no_what_ifs}
use Rattle.wi_engine.proofs.planning.plain_formula.Goals as goal

pub returns-clause-plain : goal.returns-clause-plain
returns-clause-plain c = no_what_ifs c.in_ok-formula.formula.now (ap (λ (t : Tree). list_any is_what_if (leaves t)) (sym c.tree.ensures) ∙ sym c.has_what_if.ensures ∙ c.if-has_what_if.false)
