use Rattle.wi_tiles.proofs.Words.{rules}
use Rattle.wi_tiles.proofs.MaskLemmas.{inside_sound, inside_whole}
use Rattle.wi_tiles.proofs.masks.bits_in.Goals as goal

pub returns-clause-sound : goal.returns-clause-sound
returns-clause-sound c = inside_sound c.args.area c.args.group c.args.column c.args.top c.args.bottom _ _ c.line_of.result c.lines_of.result c.lines_between.result c.requires.left c.requires.right (search rules) (search rules) c.line_of.ensures.value c.lines_of.ensures c.lines_between.ensures

pub returns-clause-whole : goal.returns-clause-whole
returns-clause-whole c = inside_whole c.args.area c.args.group c.args.column c.args.top c.args.bottom _ _ c.line_of.result c.lines_of.result c.lines_between.result c.requires.left c.requires.right (search rules) (search rules) c.line_of.ensures.value c.lines_of.ensures c.lines_between.ensures
