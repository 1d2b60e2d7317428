use Rattle.wi_engine.proofs.Words.{◌≡◌, ◌++◌, ◌∷◌, [], rules}
use Rattle.wi_engine.proofs.stack.with_last.Goals as goal

pub returns : goal.returns
returns c =
    let last : c.args.rests.now.items ≡ c.pop.new.self.items ++ c.in-Some.rest ∷ [] = search rules in
    record { rest = c.in-Some.rest; items = last; frame = search rules }
