use Rattle.wi_parser.proofs.print.dollar.Goals as goal

pub returns-then-is_absolute : goal.returns-then-is_absolute
returns-then-is_absolute c = cc
