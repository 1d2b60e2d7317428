use Rattle.wi_cli.proofs.Vocabulary.{◌++◌, take, ap, ◌∙◌, line_front}
use Rattle.wi_cli.proofs.PartLemmas.{up_to_lf, all_of_it}
use Rattle.wi_cli.proofs.lines.take_part.Goals as goal

pub returns-in-Some-clause-took : goal.returns-in-Some-clause-took
returns-in-Some-clause-took c =
    let same = c.rest-rest.ensures in
    let found = rw same at c.in-Some.ensures in
    up_to_lf _ _ _ _ c.in-Some.count found.0 found.1 c.skip.ensures
    (λ content h. c.keep.ensures.kept content h ∙ ap (λ xs. line_front (content ++ take c.in-Some.count xs)) same)

pub returns-in-None-clause-took : goal.returns-in-None-clause-took
returns-in-None-clause-took c =
    let same = c.rest-rest.ensures in
    all_of_it _ _ _ _ (rw same at c.in-None.ensures) (rw same at c.skip-in-None.ensures)
    (λ content h. c.keep-in-None.ensures.kept content h ∙ ap (λ xs. line_front (content ++ xs)) same)
