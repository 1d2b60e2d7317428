use Rattle.wi_cli.proofs.Vocabulary.{true, Some, refl, Unknown, csv_operands}
use Rattle.wi_scenarios.specs.declared.refusal.Refusal.TheVariants.{BadCommand}
use Rattle.wi_cli.proofs.AskedLemmas.{asked_refused, no_command}
use Rattle.wi_cli.proofs.edit_commands.read_import.Goals as goal

pub returns-in-None : goal.returns-in-None
returns-in-None c = asked_refused (csv_operands c.args.force c.args.operands.now) true (Some Unknown) Unknown BadCommand (rw c.as_bytes.ensures.value at c.in-None.ensures.read) refl no_command
