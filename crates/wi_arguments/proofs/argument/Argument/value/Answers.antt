use Rattle.std.proofs.Common.{◌≡◌, rules}
use Rattle.wi_arguments.proofs.argument.Argument.value.Goals as goal

pub returns-in-Known-clause-done : goal.returns-in-Known-clause-done
returns-in-Known-clause-done g c =
    let one : c.in-Reference.area.first ≡ c.in-Reference.area.last = search rules in
    search (rules, one)

pub returns-in-Missing-clause-missing : goal.returns-in-Missing-clause-missing
returns-in-Missing-clause-missing g c =
    let one : c.in-Reference.area.first ≡ c.in-Reference.area.last = search rules in
    search (rules, one)
