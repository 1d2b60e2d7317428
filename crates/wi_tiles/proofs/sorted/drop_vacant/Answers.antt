use Rattle.wi_tiles.proofs.Words.{rules, arith, ◌<◌, ap, ◌∙◌, sym, None, ◌≡◌, ℕ, subst, slice_index_or, All, remove, slot, at_sorted, groups, Rises, IsFilled}
use Rattle.wi_tiles.proofs.Filled.{all_back}
use Rattle.wi_tiles.proofs.Keys.{key_read, Rises-remove}
use Rattle.wi_tiles.proofs.Outcomes.{not_both}
use Rattle.wi_tiles.proofs.Sorts.{sorted_less}
use Rattle.wi_tiles.proofs.sorted.drop_vacant.Goals as goal

pub returns-then-is_vacant-clause-rises : goal.returns-then-is_vacant-clause-rises
returns-then-is_vacant-clause-rises g c =
    let items : c.remove.new.self.items ≡ remove c.args.parts.now.items c.args.place = search rules in
    subst (λ xs. Rises xs) (sym items) (Rises-remove c.args.parts.now.items c.args.place c.requires.rises c.requires.within)

pub returns-then-is_vacant-clause-filled : goal.returns-then-is_vacant-clause-filled
returns-then-is_vacant-clause-filled g c =
    let items : c.remove.new.self.items ≡ remove c.args.parts.now.items c.args.place = search rules in
    λ small others. subst (λ ts. All (IsFilled slot) ts) (sym items) others

pub returns-else-is_vacant-clause-filled : goal.returns-else-is_vacant-clause-filled
returns-else-is_vacant-clause-filled g c =
    let read : c.index.result.now ≡ slice_index_or c.args.parts.now.items c.args.place c.index.result.now = search rules in
    λ small others.
    let low : c.index.result.now.0 < groups = omega (arith, key_read c.args.parts.now.items c.args.place c.index.result.now c.requires.within read, small) in
    all_back (IsFilled slot) c.args.parts.now.items c.args.place c.index.result.now c.requires.within read (low, λ none. not_both c.is_vacant.result c.if-is_vacant.false (c.is_vacant.ensures.1 none)) others

pub returns-then-is_vacant-clause-kept : goal.returns-then-is_vacant-clause-kept
returns-then-is_vacant-clause-kept g c =
    let items : c.remove.new.self.items ≡ remove c.args.parts.now.items c.args.place = search rules in
    let nothing : (p : ℕ) → slot c.index.result.now.1 p ≡ None = search rules in
    λ p. ap (λ xs. at_sorted slot xs p) items ∙ sorted_less slot c.args.parts.now.items c.args.place c.index.result.now c.requires.rises c.requires.within (search rules) nothing p
