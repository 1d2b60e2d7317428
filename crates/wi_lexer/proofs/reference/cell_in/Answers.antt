use Rattle.wi_lexer.proofs.Words.{Some, ap, sym, ◌∙◌, cut}
use Rattle.wi_lexer.proofs.BracketLemmas.{inside_slice}
use Rattle.wi_lexer.proofs.ReferenceLemmas.{reference_cut}
use Rattle.wi_lexer.proofs.reference.cell_in.Goals as goal

pub returns : goal.returns
returns c = reference_cut c.args.text.now c.requires ∙ ap Some (sym (c.cut.ensures ∙ ap cut (inside_slice c.args.text.now)))
