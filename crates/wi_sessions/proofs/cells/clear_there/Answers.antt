use Rattle.wi_sessions.proofs.Words.{ℕ, List, Option, refl, sym, subst, IsSome, IsStrictlySortedBy, nat_cmp, ◌∙◌, Some, None}
use Rattle.wi_tiles.proofs.MapSteps.{found-removed, found-replaced, keys-replaced, order-removed}
use Rattle.wi_sessions.proofs.BitLemmas.{none_in_zero}
use Rattle.wi_sessions.proofs.WordLemmas.{has_cleared_put}
use Rattle.wi_sessions.proofs.cells.clear_there.Goals as goal

pub returns-then-is_bare-clause-order : goal.returns-then-is_bare-clause-order
returns-then-is_bare-clause-order c = order-removed c.args.words.now.entries c.remove.new.self.entries c.args.at c.remove.ensures.entries c.requires.order

pub returns-then-is_bare-clause-less : goal.returns-then-is_bare-clause-less
returns-then-is_bare-clause-less c =
    has_cleared_put c.args.words.now.entries c.remove.new.self.entries c.args.at c.args.word c.args.bits None c.requires.there
    (λ i. none_in_zero i ∙ sym (c.is_bare.ensures c.if-is_bare.true i) ∙ c.without-left.ensures i) (found-removed c.args.words.now.entries c.remove.new.self.entries c.args.at c.remove.ensures.entries c.requires.order)

pub returns-else-is_bare-clause-order : goal.returns-else-is_bare-clause-order
returns-else-is_bare-clause-order c =
    subst (λ (ks : List ℕ). IsStrictlySortedBy nat_cmp ks) (sym (keys-replaced c.args.words.now.entries c.replace.new.self.entries c.args.at c.without-left.result c.replace.ensures.entries)) c.requires.order

pub returns-else-is_bare-clause-less : goal.returns-else-is_bare-clause-less
returns-else-is_bare-clause-less c =
    has_cleared_put c.args.words.now.entries c.replace.new.self.entries c.args.at c.args.word c.args.bits (Some c.without-left.result) c.requires.there c.without-left.ensures
    (found-replaced c.args.words.now.entries c.replace.new.self.entries c.args.at c.without-left.result c.replace.ensures.entries
    (subst (λ (o : Option ℕ). IsSome o) (sym c.requires.there) refl))
