use Rattle.wi_worlds.proofs.Words.{◌≡◌, ◌∙◌, filter, sym, ap, subst, IsInOrder, same_replacements_Decides, order_of_filter, is_of}
use Rattle.wi_worlds.proofs.Filtering.{filter_whole, filter_nothing, made_of}
use Rattle.wi_worlds.proofs.world.World.restricted.Goals as goal

pub part_of-part-requires : goal.part_of-part-requires
part_of-part-requires c = record {
  order = subst IsInOrder (sym c.replacements-all.ensures.value) c.replacements-all.ensures.order;
  rise = c.requires.rise;
}

pub returns-then-part-all-clause-list : goal.returns-then-part-all-clause-list
returns-then-part-all-clause-list c =
    let p = is_of c.args.cells.now in
    made_of p c.args.self.now c.args.self.now c.copy.result c.copy.ensures
    (sym (filter_whole p c.replacements-all.result.now c.args.self.now c.replacements-all.ensures.value (sym c.part_of-part.ensures.count ∙ c.if-part-all.true)))

pub returns-then-part-eq0-clause-list : goal.returns-then-part-eq0-clause-list
returns-then-part-eq0-clause-list c =
    c.new.ensures ∙ sym (filter_nothing (is_of c.args.cells.now) c.replacements-all.result.now c.args.self.now c.replacements-all.ensures.value
    (sym c.part_of-part.ensures.count ∙ c.if-part-eq0.true))

pub returns-then-part-clause-list : goal.returns-then-part-clause-list
returns-then-part-clause-list c =
    let p = is_of c.args.cells.now in
    let same = (same_replacements_Decides c.replacements.result.now (filter p c.replacements-all.result.now)).0 (sym c.part_of-part.ensures.last ∙ c.if-part.true) in
    made_of p c.args.self.now c.args.last.now c.copy-then-part.result c.copy-then-part.ensures
    (sym c.replacements.ensures.value ∙ same ∙ ap (filter p) c.replacements-all.ensures.value)

pub copies_of-requires : goal.copies_of-requires
copies_of-requires c = record {
  order = subst IsInOrder (sym c.replacements-all.ensures.value) c.replacements-all.ensures.order;
  rise = c.requires.rise;
}

pub of-requires : goal.of-requires
of-requires c = record {
  order = subst IsInOrder (sym (c.in_ok-kept.ensures ∙ ap (filter (is_of c.args.cells.now)) c.replacements-all.ensures.value))
      (order_of_filter (is_of c.args.cells.now) c.args.self.now c.replacements-all.ensures.order);
}

pub returns-clause-list : goal.returns-clause-list
returns-clause-list c =
    c.in_ok-world.ensures ∙ c.in_ok-kept.ensures ∙ ap (filter (is_of c.args.cells.now)) c.replacements-all.ensures.value
