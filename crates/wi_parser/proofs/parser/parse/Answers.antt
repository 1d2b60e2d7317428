use Rattle.wi_parser.proofs.Parses.{reads_spelled, reads_only}
use Rattle.wi_parser.proofs.parser.parse.Goals as goal

pub returns-clause-found : goal.returns-clause-found
returns-clause-found c = reads_spelled c.args.text.now c.parse_body.result c.parse_body.ensures

pub returns-clause-only : goal.returns-clause-only
returns-clause-only c = reads_only c.args.text.now c.parse_body.result c.parse_body.ensures
