use Rattle.wi_worlds.proofs.Words.{◌∙◌, List, sym, ap, Replacement, replaced, same_replacements_Decides, same_from_replaced}
use Rattle.wi_worlds.proofs.laws.equal_worlds_are_one.Goals as goal

pub returns-clause-one : goal.returns-clause-one
returns-clause-one c =
    let decides = same_replacements_Decides c.args.a.now c.args.b.now in
    (λ t. decides.0 (sym c.eq.ensures ∙ t), λ e. c.eq.ensures ∙ decides.1 e)

pub returns-clause-everywhere : goal.returns-clause-everywhere
returns-clause-everywhere c =
    let one = returns-clause-one c in (
      λ t a. ap (λ (w : List Replacement). replaced w a) (one.0 t),
      λ h. one.1 (same_from_replaced c.args.a.now c.args.b.now c.replacements.ensures.order c.replacements-2.ensures.order h),
    )
