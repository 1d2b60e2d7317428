use Rattle.wi_cli.proofs.WordLemmas.{trimmed}
use Rattle.wi_cli.proofs.words.trim_spaces.Goals as goal

pub returns : goal.returns
returns c = trimmed c.args.text.now c.trim_start_matches.result.now c.trim_start_matches.ensures.matches
