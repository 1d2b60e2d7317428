use Rattle.wi_cli.proofs.Vocabulary.{false, Some, refl, Unreadable, csv_text}
use Rattle.wi_scenarios.specs.declared.refusal.Refusal.TheVariants.{BadLine}
use Rattle.wi_cli.proofs.AskedLemmas.{asked_refused, bad_line}
use Rattle.wi_cli.proofs.line.read_bytes.Goals as goal

pub returns-in-None : goal.returns-in-None
returns-in-None c = asked_refused (csv_text c.args.bytes.now) false (Some Unreadable) Unreadable BadLine c.in-None.ensures refl bad_line
