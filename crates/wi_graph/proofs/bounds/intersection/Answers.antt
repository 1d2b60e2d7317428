use Rattle.wi_graph.proofs.Words.{ap, ◌∙◌, arith, row_of, column_of, max_below}
use Rattle.wi_graph.proofs.BoundsSteps.{sides_of, max_of, min_of, min_below, common_part, no_part}
use Rattle.wi_graph.proofs.bounds.intersection.Goals as goal

pub at-requires-clause-row_within : goal.at-requires-clause-row_within
at-requires-clause-row_within c = max_below c.max-top.result _ _ _ c.max-top.ensures c.row.ensures.within c.row-2.ensures.within

pub at-requires-clause-column_within : goal.at-requires-clause-column_within
at-requires-clause-column_within c = max_below c.max-left.result _ _ _ c.max-left.ensures c.column.ensures.within c.column-2.ensures.within

pub at-requires-then-left-right-clause-row_within : goal.at-requires-then-left-right-clause-row_within
at-requires-then-left-right-clause-row_within c = min_below c.min-bottom.result _ _ _ c.min-bottom.ensures c.row-3.ensures.within

pub at-requires-then-left-right-clause-column_within : goal.at-requires-then-left-right-clause-column_within
at-requires-then-left-right-clause-column_within c = min_below c.min-right.result _ _ _ c.min-right.ensures c.column-3.ensures.within

pub returns-then-left-right : goal.returns-then-left-right
returns-then-left-right c = common_part c.args.a c.args.b c.new.result c.max-top.result c.max-left.result c.min-bottom.result c.min-right.result (
    record {
      top = max_of c.max-top.result _ _ _ _ c.max-top.ensures (c.row.ensures.value ∙ ap row_of c.first.ensures) (c.row-2.ensures.value ∙ ap row_of c.first-2.ensures);
      left = max_of c.max-left.result _ _ _ _ c.max-left.ensures (c.column.ensures.value ∙ ap column_of c.first-3.ensures) (c.column-2.ensures.value ∙ ap column_of c.first-4.ensures);
      bottom = min_of c.min-bottom.result _ _ _ _ c.min-bottom.ensures (c.row-3.ensures.value ∙ ap row_of c.last.ensures) (c.row-4.ensures.value ∙ ap row_of c.last-2.ensures);
      right = min_of c.min-right.result _ _ _ _ c.min-right.ensures (c.column-3.ensures.value ∙ ap column_of c.last-3.ensures) (c.column-4.ensures.value ∙ ap column_of c.last-4.ensures);
    }
    ) (
    sides_of c.new.result c.at.result c.at-then-left-right.result _ _ _ _ c.new.ensures c.at.ensures c.at-then-left-right.ensures (omega arith) c.if-left-right.true
    (max_below c.max-left.result _ _ _ c.max-left.ensures c.column.ensures.within c.column-2.ensures.within) (min_below c.min-right.result _ _ _ c.min-right.ensures c.column-3.ensures.within)
    )

pub returns-else-top-bottom : goal.returns-else-top-bottom
returns-else-top-bottom c = no_part c.args.a c.args.b c.max-top.result c.max-left.result c.min-bottom.result c.min-right.result (
    record {
      top = max_of c.max-top.result _ _ _ _ c.max-top.ensures (c.row.ensures.value ∙ ap row_of c.first.ensures) (c.row-2.ensures.value ∙ ap row_of c.first-2.ensures);
      left = max_of c.max-left.result _ _ _ _ c.max-left.ensures (c.column.ensures.value ∙ ap column_of c.first-3.ensures) (c.column-2.ensures.value ∙ ap column_of c.first-4.ensures);
      bottom = min_of c.min-bottom.result _ _ _ _ c.min-bottom.ensures (c.row-3.ensures.value ∙ ap row_of c.last.ensures) (c.row-4.ensures.value ∙ ap row_of c.last-2.ensures);
      right = min_of c.min-right.result _ _ _ _ c.min-right.ensures (c.column-3.ensures.value ∙ ap column_of c.last-3.ensures) (c.column-4.ensures.value ∙ ap column_of c.last-4.ensures);
    }
    ) c.else-top-bottom.either
