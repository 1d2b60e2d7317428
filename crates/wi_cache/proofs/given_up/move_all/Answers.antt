use Rattle.std.proofs.Common.{◌≡◌, ◌∙◌, [], length, reverse, ap, sym, arith, rules}
use Rattle.std.proofs.lemmas.Grind.{common_steps}
use Rattle.std.proofs.lemmas.List.{length-reverse, reverse-reverse}
use Rattle.std.specs.Vec.{vec_len}
use Rattle.indexmap.specs.IndexMap.{insert_entry}
use Rattle.wi_cache.specs.Entries.{Entries, all_put, same_key}
use Rattle.wi_cache.proofs.Went.{next_moved, one_popped}
use Rattle.wi_cache.proofs.given_up.move_all.Goals as goal

pub moved-init : goal.moved-init
moved-init c =
    let items = c.args.list.now.items in
    let counted : vec_len c.args.list.now ≡ length items = grind (arith, common_steps) in
    let turned : c.reverse.new.self.items ≡ reverse items = c.reverse.ensures.items in
    let long : length c.reverse.new.self.items ≡ length items = ap (λ (l : Entries). length l) turned ∙ length-reverse items in
    let space = c.in_ok-reserve.ensures.ok in
    record {
      whole = ap (λ (l : Entries). all_put c.reserve.new.self.entries (reverse l)) turned ∙ ap (all_put c.reserve.new.self.entries) (reverse-reverse items)
          ∙ ap (λ (es : Entries). all_put es items) c.reserve.ensures.entries;
      space = omega (arith, long, counted, c.len.ensures, space);
    }

pub put_value-requires : goal.put_value-requires
put_value-requires c =
    omega (arith, c.moved.invariant.space, one_popped c.moved.list.items c.pop.new.self.items c.in-Some.entry c.in-Some.ensures.items)

pub moved-preserved : goal.moved-preserved
moved-preserved c =
    let popped = one_popped c.moved.list.items c.pop.new.self.items c.in-Some.entry c.in-Some.ensures.items in
    let put : c.put_value.new.table.entries ≡ insert_entry same_key c.moved.table.entries c.in-Some.entry.0 c.in-Some.entry.1 = search rules in
    record {
      whole = next_moved c.moved.table.entries c.put_value.new.table.entries c.moved.list.items c.pop.new.self.items c.in-Some.entry _ c.in-Some.ensures.items put c.moved.invariant.whole;
      space = omega (arith, c.moved.invariant.space, popped, c.put_value.ensures.space);
    }

pub returns-in_err-reserve : goal.returns-in_err-reserve
returns-in_err-reserve c = ap (λ (es : Entries). all_put es c.args.list.now.items) c.reserve.ensures.entries

pub returns : goal.returns
returns c =
    let empty : c.pop.new.self.items ≡ [] = grind (arith, common_steps) in
    let none : c.moved.list.items ≡ [] = grind (arith, common_steps) in
    ap (all_put c.moved.table.entries) empty ∙ sym (ap (λ (l : Entries). all_put c.moved.table.entries (reverse l)) none) ∙ c.moved.invariant.whole
