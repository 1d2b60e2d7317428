use Rattle.wi_engine.proofs.Words.{Area, ap, sym, ◌∙◌, not, filter, list_any, keys_of, nat_cmp, contains, is_within}
use Rattle.std.proofs.lemmas.Bool.{not-true}
use Rattle.wi_engine.specs.Inner.Plans.{is_unsettled}
use Rattle.std.proofs.lemmas.Bool.{OnTrue_from}
use Rattle.wi_engine.proofs.planning.PlainFormulas.{rests_on_settled}
use Rattle.wi_engine.proofs.planning.rests_on.Goals as goal

pub returns-in-Some : goal.returns-in-Some
returns-in-Some c =
    let s = c.args.store.now.sheet in
    let settled = contains nat_cmp c.args.settled.now in
    OnTrue_from (not c.have_unsettled.result) _ (λ t.
    rests_on_settled s settled c.args.cell c.in-Some.formula.now c.in-Some.ensures.stands c.in-Some.ensures.plain
    (ap (list_any (λ (r : Area). list_any (is_unsettled s settled) (filter (is_within r) (keys_of s)))) (sym c.rectangles.ensures) ∙ sym c.have_unsettled.ensures ∙ not-true c.have_unsettled.result t))
