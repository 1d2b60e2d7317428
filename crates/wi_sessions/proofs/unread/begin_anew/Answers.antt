use Rattle.wi_sessions.proofs.Words.{◌<◌, ◌∙◌, length, refl, arith, length-set}
use Rattle.wi_sessions.proofs.PlaceLemmas.{begun_more, left_more}
use Rattle.wi_sessions.proofs.unread.begin_anew.Goals as goal

pub loop-i-init : goal.loop-i-init
loop-i-init c = record {
  lists = refl;
  done = λ words changed e p j d m k. let none : Prim.⊥ = omega (arith, m) in absurd none;
  left = λ j d l. refl;
}

pub loop-i-preserved : goal.loop-i-preserved
loop-i-preserved c =
    let within : c.loop-i.i < length c.loop-i.unread.items = omega (arith, c.loop-i-test.true, c.len-i-end.ensures, c.loop-i.invariant.lists) in
    record {
      lists = length-set c.loop-i.unread.items c.loop-i.i c.begin_anew.new.self ∙ c.loop-i.invariant.lists;
      done = λ words changed e. begun_more words changed c.args.unread.now.items c.loop-i.unread.items c.loop-i.i c.index_mut.result.now c.begin_anew.new.self within
          c.loop-i.invariant.lists c.index_mut.ensures.value c.begin_anew.ensures.from (λ q h. c.begin_anew.ensures.stay changed q e h) c.loop-i.invariant.left (c.loop-i.invariant.done words changed e);
      left = left_more c.args.unread.now.items c.loop-i.unread.items c.loop-i.i c.begin_anew.new.self c.loop-i.invariant.left;
    }

pub returns-clause-lists : goal.returns-clause-lists
returns-clause-lists c = c.loop-i.invariant.lists

pub returns-clause-places : goal.returns-clause-places
returns-clause-places c =
    λ words changed e p j d l. c.loop-i.invariant.done words changed e p j d (omega (arith, l, c.loop-i-test.false, c.len-i-end.ensures, c.loop-i.invariant.lists)) l
