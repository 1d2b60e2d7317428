use Rattle.wi_options.proofs.OptionLemmas.{app_if_ok, keep_if_ok}
use Rattle.wi_options.proofs.command.command.Goals as goal

pub returns-clause-app : goal.returns-clause-app
returns-clause-app c = app_if_ok _ _ c.arg-2.result _ _ c.bare_command.ensures c.load_arg.ensures c.keep_arg.ensures c.in_ok-arg.ensures c.arg-2.ensures

pub returns-clause-keep : goal.returns-clause-keep
returns-clause-keep c = keep_if_ok _ _ c.arg-2.result _ _ c.bare_command.ensures c.load_arg.ensures c.keep_arg.ensures c.in_ok-arg.ensures c.arg-2.ensures
