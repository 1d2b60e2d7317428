use Rattle.wi_edit_log.proofs.Words.{◌≡◌, ◌∙◌, ◌&&◌, ap, sym, max, rows, columns, row_of, column_of, is_within, in_both, max_below}
use Rattle.wi_edit_log.proofs.Shared.{first_shared}
use Rattle.wi_edit_log.proofs.search.first_in_both.Goals as goal
use Rattle.wi_edit_log.proofs.search.first_in_both.Goals.{then-contains, else-contains}

pub at-at-requires-clause-row_within : goal.at-at-requires-clause-row_within
at-at-requires-clause-row_within c = max_below c.max-row.result c.row.result c.row-2.result rows c.max-row.ensures c.row.ensures.within c.row-2.ensures.within

pub at-at-requires-clause-column_within : goal.at-at-requires-clause-column_within
at-at-requires-clause-column_within c = max_below c.max-column.result c.column.result c.column-2.result columns c.max-column.ensures c.column.ensures.within c.column-2.ensures.within

pub returns : goal.returns
returns c =
    let r = c.args.one in
    let s = c.args.other in
    let at = c.at-at.result in
    let row : c.max-row.result ≡ max (row_of r.first) (row_of s.first) =
    c.max-row.ensures ∙ ap (λ k. max k c.row-2.result) (c.row.ensures.value ∙ ap row_of c.first.ensures) ∙ ap (max (row_of r.first)) (c.row-2.ensures.value ∙ ap row_of c.first-2.ensures) in
    let column : c.max-column.result ≡ max (column_of r.first) (column_of s.first) =
    c.max-column.ensures ∙ ap (λ k. max k c.column-2.result) (c.column.ensures.value ∙ ap column_of c.first-3.ensures) ∙ ap (max (column_of r.first)) (c.column-2.ensures.value ∙ ap column_of c.first-4.ensures) in
    let shared : c.if-contains.is_shared ≡ in_both r s at = elim c.if-contains.branch [
      | then-contains w ↦ w.is_shared-is ∙ w.contains-is_shared.ensures ∙ ap (λ b. b && is_within s at) (sym w.if-contains.true ∙ c.contains.ensures)
      | else-contains w ↦ w.is_shared-is ∙ w.if-contains.false ∙ ap (λ b. b && is_within s at) (sym w.if-contains.false ∙ c.contains.ensures)
    ] in
    first_shared r s c.max-row.result c.max-column.result at c.if-contains.is_shared c.then_some.result row column c.at-at.ensures shared c.then_some.ensures
