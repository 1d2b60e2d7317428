use Rattle.wi_engine.proofs.Words.{List, Area, ap, sym, ◌∙◌, is_within_one, content_of}
use Rattle.std.proofs.lemmas.Bool.{OnTrue_from}
use Rattle.wi_engine.proofs.planning.PlainFormulas.{reads_as_it_stands}
use Rattle.wi_engine.proofs.planning.is_read.Goals as goal

pub returns-in-Some : goal.returns-in-Some
returns-in-Some c =
    OnTrue_from c.is_in_one.result _ (λ t.
    reads_as_it_stands (content_of c.args.store.now.sheet c.args.reader) c.in-Some.formula.now c.args.cell c.in-Some.ensures.stands c.in-Some.ensures.plain
    (ap (λ (rs : List Area). is_within_one rs c.args.cell) (sym c.rectangles.ensures) ∙ sym c.is_in_one.ensures ∙ t))
