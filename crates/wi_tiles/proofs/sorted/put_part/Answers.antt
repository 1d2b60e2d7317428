use Rattle.wi_tiles.proofs.Words.{rules, arith, ◌<◌, ap, ◌∙◌, sym, Some, ◌≡◌, ◌%◌, ◌/◌, cond, subst, ◌==◌, option_or, All, insert, slot, at_sorted, groups, Rises, IsFilled}
use Rattle.wi_tiles.proofs.Filled.{all_more, filled_put}
use Rattle.wi_tiles.proofs.Keys.{find_beyond, Rises-insert}
use Rattle.wi_tiles.proofs.Sorts.{sorted_put}
use Rattle.wi_tiles.proofs.sorted.put_part.Goals as goal

pub returns-clause-rises : goal.returns-clause-rises
returns-clause-rises g c =
    let items : c.insert.new.self.items ≡ insert c.args.parts.now.items c.args.place (c.args.path % groups, c.put_new.new.self) = search rules in
    subst (λ xs. Rises xs) (sym items) (Rises-insert c.args.parts.now.items c.args.place (c.args.path % groups) c.put_new.new.self c.requires.rises c.requires.place.bound c.requires.place.below c.requires.place.above)

pub returns-in_err-insert-clause-filled : goal.returns-in_err-insert-clause-filled
returns-in_err-insert-clause-filled g c = λ all.
    let items : c.insert.new.self.items ≡ c.args.parts.now.items = search rules in
    subst (λ ts. All (IsFilled slot) ts) (sym items) all

pub returns-clause-filled : goal.returns-clause-filled
returns-clause-filled g c = λ all.
    let items : c.insert.new.self.items ≡ insert c.args.parts.now.items c.args.place (c.args.path % groups, c.put_new.new.self) = search rules in
    let small : c.args.path % groups < groups = omega arith in
    let one : IsFilled slot (c.args.path % groups, c.put_new.new.self) = (small, filled_put slot c.vacant-part.result c.put_new.new.self (c.args.path / groups) c.args.value c.in_ok-put_new.ensures.ok) in
    subst (λ ts. All (IsFilled slot) ts) (sym items) (all_more (IsFilled slot) c.args.parts.now.items c.args.place (c.args.path % groups, c.put_new.new.self) all one)

pub returns-clause-ok : goal.returns-clause-ok
returns-clause-ok g c =
    let items : c.insert.new.self.items ≡ insert c.args.parts.now.items c.args.place (c.args.path % groups, c.put_new.new.self) = search rules in
    λ p. ap (λ xs. at_sorted slot xs p) items ∙ sorted_put slot c.args.parts.now.items c.args.path c.args.place c.vacant-part.result c.put_new.new.self (Some c.args.value) c.requires.place.bound c.requires.place.below (find_beyond c.args.parts.now.items c.args.place (c.args.path % groups) c.requires.place.bound c.requires.place.below c.requires.place.above) c.vacant-part.ensures (λ q. c.in_ok-put_new.ensures.ok q ∙ ap (λ o. cond (q == c.args.path / groups) (option_or o (Some c.args.value)) (slot c.vacant-part.result q)) (c.vacant-part.ensures (c.args.path / groups))) p
