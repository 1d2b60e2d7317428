use Rattle.wi_sessions.proofs.Words.{ap, ◌∙◌, Value, same_value}
use Rattle.wi_sessions.proofs.picture.Picture.has.Goals as goal

pub returns-in-Some : goal.returns-in-Some
returns-in-Some c = c.same.ensures ∙ ap (λ (v : Value). same_value v c.args.value.now) c.in-Some.ensures
