use Rattle.wi_sessions.proofs.Words.{◌≡◌, ◌==◌, ◌∙◌, ◌++◌, ◌∷◌, [], ℕ, List, Option, refl, sym, subst, arith, common_steps, IsSome, IsStrictlySortedBy, nat_cmp}
use Rattle.wi_tiles.proofs.MapSteps.{found-replaced, keys-replaced}
use Rattle.wi_sessions.proofs.WordLemmas.{has_made_none, has_made_there, made_rooms, nothing_staged}
use Rattle.wi_sessions.proofs.cells.stage_there.Goals as goal

pub unwrap-word-requires : goal.unwrap-word-requires
unwrap-word-requires c = subst (λ (o : Option ℕ). IsSome o) (sym c.found.ensures) c.requires.there

pub unwrap-requires : goal.unwrap-requires
unwrap-requires c = c.push.ensures.succeeds (grind (arith, common_steps))

pub returns-then-is_bare-clause-rooms : goal.returns-then-is_bare-clause-rooms
returns-then-is_bare-clause-rooms c =
    made_rooms (λ q. c.args.at == q) c.args.bits c.args.words.now.entries c.args.staged.now.items c.args.words.now.entries c.args.staged.now.items
    (has_made_none c.args.words.now.entries c.args.staged.now.items c.args.staged.now.items c.args.at c.unwrap-word.result c.without-more.result c.args.bits (sym c.found.ensures ∙ c.unwrap-word.ensures) c.without-more.ensures
    (c.is_bare.ensures c.if-is_bare.true) refl)

pub returns-in_err-reserve-clause-rooms : goal.returns-in_err-reserve-clause-rooms
returns-in_err-reserve-clause-rooms c = nothing_staged c.from_residual.result c.from_residual.ensures.0 refl c.reserve.ensures.items

pub returns-clause-order : goal.returns-clause-order
returns-clause-order c =
    subst (λ (ks : List ℕ). IsStrictlySortedBy nat_cmp ks) (sym (keys-replaced c.args.words.now.entries c.replace.new.self.entries c.args.at c.joined.result c.replace.ensures.entries)) c.requires.order

pub returns-clause-rooms : goal.returns-clause-rooms
returns-clause-rooms c =
    let pushed : c.push.new.self.items ≡ c.args.staged.now.items ++ (c.args.at, c.without-more.result) ∷ [] = grind (arith, common_steps) in
    made_rooms (λ q. c.args.at == q) c.args.bits c.args.words.now.entries c.args.staged.now.items c.replace.new.self.entries c.push.new.self.items
    (has_made_there c.args.words.now.entries c.args.staged.now.items c.replace.new.self.entries c.push.new.self.items c.args.at c.unwrap-word.result c.without-more.result c.args.bits c.joined.result (sym c.found.ensures ∙ c.unwrap-word.ensures)
    c.without-more.ensures c.joined.ensures
    (found-replaced c.args.words.now.entries c.replace.new.self.entries c.args.at c.joined.result c.replace.ensures.entries c.requires.there) pushed)
