use Rattle.wi_cli.proofs.Vocabulary.{◌∙◌, sym, refl, subst}
use Rattle.wi_cli.specs.Inner.Data.{Holds}
use Rattle.wi_cli.proofs.DataLemmas.{added_none, added_one, held_on}
use Rattle.wi_cli.proofs.data_lines.DataLines.add.Goals as goal

pub returns-then-not-is_line-clause-added : goal.returns-then-not-is_line-clause-added
returns-then-not-is_line-clause-added g c = λ content no_lf e. added_none c.args.self.now c.args.whole c.args.line.now content e (sym c.is_line.ensures ∙ c.if-not-is_line.true)

pub returns-in-All-clause-added : goal.returns-in-All-clause-added
returns-in-All-clause-added g c = λ content no_lf e.
    added_one c.args.self.now _ c.args.whole c.args.line.now content no_lf e (sym c.is_line.ensures ∙ c.if-not-is_line.false) c.requires refl refl
    (λ before h. c.hold-self.ensures.held content no_lf e before (subst (λ x. Holds c.args.self.now.wanted x c.args.self.now.bytes.items before) c.in-All.is h))

pub returns-in_default-clause-added : goal.returns-in_default-clause-added
returns-in_default-clause-added g c = λ content no_lf e.
    added_one c.args.self.now _ c.args.whole c.args.line.now content no_lf e (sym c.is_line.ensures ∙ c.if-not-is_line.false) c.requires refl refl
    (λ before h. held_on _ _ _ before _ c.in_default.not-All h)
