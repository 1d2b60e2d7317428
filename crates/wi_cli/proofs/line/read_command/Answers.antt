use Rattle.wi_cli.proofs.Vocabulary.{refl}
use Rattle.wi_cli.specs.declared.line.Line.TheVariants as read
use Rattle.wi_cli.proofs.AskedLemmas.{text_asked}
use Rattle.wi_cli.proofs.line.read_command.Goals as goal

pub returns-in-set : goal.returns-in-set
returns-in-set c =
    text_asked c.args.text.now c.split_word.result.0.now c.split_word.result.1.now (read.Command c.read_set.result) c.split_word.ensures.word c.split_word.ensures.rest
    (rw c.in-set.is (refl, (_, refl, c.read_set.ensures)))

pub returns-in_default : goal.returns-in_default
returns-in_default c =
    text_asked c.args.text.now c.split_word.result.0.now c.split_word.result.1.now c.read_named.result c.split_word.ensures.word c.split_word.ensures.rest c.read_named.ensures
