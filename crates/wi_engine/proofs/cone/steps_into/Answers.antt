use Rattle.wi_engine.proofs.Words.{◌==◌, ◌||◌, List, ap, sym, ◌∙◌, or_left, or_right, list_any, nat_cmp, contains, Area, is_within_one, content_of, content_reads, occupied_within, rectangles_in, any_within}
use Rattle.wi_engine.proofs.cone.ConeSteps.{reads_rectangles, only_last}
use Rattle.wi_engine.proofs.cone.steps_into.Goals as goal

pub returns-then-is_in_one : goal.returns-then-is_in_one
returns-then-is_in_one c =
    let s = c.args.store.now.sheet in
    let found = ap (λ (rs : List Area). is_within_one rs c.args.at) (sym c.rectangles-rectangles.ensures) ∙ sym c.is_in_one.ensures ∙ c.if-is_in_one.true in
    let read = reads_rectangles s c.args.cell c.in-Some.formula.now c.args.at c.in-Some.ensures.found ∙ found in
    sym (or_left (c.args.cell == c.args.at || content_reads (content_of s c.args.cell) c.args.at) _ (or_right (c.args.cell == c.args.at) _ read))

pub returns : goal.returns
returns c =
    let s = c.args.store.now.sheet in
    let none = ap (λ (rs : List Area). is_within_one rs c.args.at) (sym c.rectangles-rectangles.ensures) ∙ sym c.is_in_one.ensures ∙ c.if-is_in_one.false in
    let unread = reads_rectangles s c.args.cell c.in-Some.formula.now c.args.at c.in-Some.ensures.found ∙ none in
    let cells = ap (occupied_within s) (c.rectangles-rectangles.ensures ∙ ap rectangles_in (sym c.in-Some.ensures.found)) in
    c.has_one.ensures
    ∙ sym (any_within s (contains nat_cmp c.args.cone.now) c.rectangles-rectangles.result.now)
    ∙ ap (list_any (contains nat_cmp c.args.cone.now)) cells
    ∙ sym (only_last (c.args.cell == c.args.at) (content_reads (content_of s c.args.cell) c.args.at) _ (sym c.eq.ensures ∙ c.if-eq.false) unread)
