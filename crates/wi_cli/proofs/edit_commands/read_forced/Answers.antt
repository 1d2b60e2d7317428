use Rattle.wi_cli.proofs.edit_commands.read_forced.Goals as goal

pub returns : goal.returns
returns c = rw (c.split_word.ensures.word, c.split_word.ensures.rest) at c.read_edit.ensures
