use Rattle.wi_tiles.proofs.Words.{ap, ◌∙◌, unwrap_or}
use Rattle.wi_tiles.proofs.MapSteps.{keys-replaced, found-others}
use Rattle.wi_tiles.proofs.RoomLemmas.{exchanged, counted}
use Rattle.wi_tiles.proofs.rooms.exchange.Goals as goal

pub returns-in-Some-clause-after : goal.returns-in-Some-clause-after
returns-in-Some-clause-after g c =
    exchanged g.V.MayBeVacant.vacant c.args.at c.args.new.now c.replace-given.result c.args.rooms.now.entries c.replace.new.self.entries c.requires c.replace.ensures.entries c.replace-given.ensures.value

pub returns-in-Some-clause-occupied : goal.returns-in-Some-clause-occupied
returns-in-Some-clause-occupied g c =
    counted g.V.MayBeVacant.vacant g.V.MayBeVacant.is_taken g.met.V.MayBeVacant.tells c.args.at c.args.new.now c.replace-given.result c.replace-in-Some.new.dest c.args.rooms.now.entries c.replace.new.self.entries
    c.requires c.replace.ensures.entries c.replace-given.ensures.value (c.replace-in-Some.ensures.after ∙ ap (λ o. unwrap_or o g.V.MayBeVacant.vacant) c.in-Some.ensures.stood)

pub returns-in-Some-clause-cells : goal.returns-in-Some-clause-cells
returns-in-Some-clause-cells g c = keys-replaced c.args.rooms.now.entries c.replace.new.self.entries c.args.at c.replace-given.result c.replace.ensures.entries

pub returns-in-Some-clause-others : goal.returns-in-Some-clause-others
returns-in-Some-clause-others g c = λ q apart. found-others c.args.rooms.now.entries c.replace.new.self.entries c.args.at c.replace-given.result c.replace.ensures.entries q apart

pub returns-in_default-clause-after : goal.returns-in_default-clause-after
returns-in_default-clause-after g c =
    exchanged g.V.MayBeVacant.vacant c.args.at c.args.new.now c.replace-given.result c.args.rooms.now.entries c.replace.new.self.entries c.requires c.replace.ensures.entries c.replace-given.ensures.value

pub returns-in_default-clause-occupied : goal.returns-in_default-clause-occupied
returns-in_default-clause-occupied g c =
    counted g.V.MayBeVacant.vacant g.V.MayBeVacant.is_taken g.met.V.MayBeVacant.tells c.args.at c.args.new.now c.replace-given.result c.replace-given.new.dest c.args.rooms.now.entries c.replace.new.self.entries
    c.requires c.replace.ensures.entries c.replace-given.ensures.value (c.replace-given.ensures.after ∙ c.vacant.ensures ∙ ap (λ o. unwrap_or o g.V.MayBeVacant.vacant) c.in_default.ensures.stood)

pub returns-in_default-clause-cells : goal.returns-in_default-clause-cells
returns-in_default-clause-cells g c = keys-replaced c.args.rooms.now.entries c.replace.new.self.entries c.args.at c.replace-given.result c.replace.ensures.entries

pub returns-in_default-clause-others : goal.returns-in_default-clause-others
returns-in_default-clause-others g c = λ q apart. found-others c.args.rooms.now.entries c.replace.new.self.entries c.args.at c.replace-given.result c.replace.ensures.entries q apart
