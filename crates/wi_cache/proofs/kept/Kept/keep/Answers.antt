use Rattle.std.proofs.Common.{◌-◌, None, subst, arith}
use Rattle.wi_cache.specs.Entries.{KeptValues, kept, latest}
use Rattle.wi_cache.proofs.Keeping.{Keeps, keeps_put, keeps_gone, place_within, line_gone, line_put}
use Rattle.wi_cache.proofs.TextLens.{told_gone, told_put}
use Rattle.wi_cache.proofs.kept.Kept.keep.Goals as goal

-- ---- how many bytes of text the values have

pub overflow_sub-self : goal.overflow_sub-self
overflow_sub-self c =
    let i = c.self.inside in
    omega (arith, told_put i.entries.entries c.insert.new.self.entries c.args.key c.args.value c.in_ok-earlier.earlier i.texts c.in-Some.texts c.earlier_len.result c.self.invariant.1 (omega (arith, c.in-Some.ensures, c.text_len.ensures)) c.earlier_len.ensures c.in_ok-earlier.ensures.old c.in_ok-earlier.ensures.entries)

pub overflow_sub-self-then-len-self : goal.overflow_sub-self-then-len-self
overflow_sub-self-then-len-self c =
    let i = c.self.inside in
    let put = told_put i.entries.entries c.insert.new.self.entries c.args.key c.args.value c.in_ok-earlier.earlier i.texts c.in-Some.texts c.earlier_len.result c.self.invariant.1 (omega (arith, c.in-Some.ensures, c.text_len.ensures)) c.earlier_len.ensures c.in_ok-earlier.ensures.old c.in_ok-earlier.ensures.entries in
    omega (arith, put, told_gone c.insert.new.self.entries c.swap_remove_index-gone.new.self.entries i.oldest c.swap_remove_index-gone.result (c.in-Some.texts - c.earlier_len.result) c.gone_len.result (omega (arith, put)) c.gone_len.ensures (omega (arith, c.len.ensures.len, c.if-len-self.true, c.self.invariant.0.2)) c.swap_remove_index-gone.ensures.entry c.swap_remove_index-gone.ensures.entries)

-- ---- where there aren't too many

put : (c : goal.Else-len-self) → Keeps c.args.self.now (kept (latest c.self.inside.oldest c.insert.new.self.entries) c.self.inside.capacity) c.args.key c.args.value None
put c =
    let i = c.self.inside in
    let new = c.insert.new.self in
    subst (λ (m : KeptValues). Keeps m (kept (latest i.oldest new.entries) i.capacity) c.args.key c.args.value None) c.self.view_is
    (keeps_put i.entries new c.args.key c.args.value c.in_ok-earlier.ensures.updates c.insert.ensures.unique i.oldest i.capacity c.self.invariant.0 c.in_ok-earlier.earlier c.in_ok-earlier.ensures.old c.in_ok-earlier.ensures.len (omega (arith, c.len.ensures.len, c.if-len-self.false)) c.in_ok-earlier.ensures.entries)

pub invariant_of-self-else-len-self : goal.invariant_of-self-else-len-self
invariant_of-self-else-len-self c =
    let i = c.self.inside in
    let new = c.insert.new.self in
    let put = told_put i.entries.entries c.insert.new.self.entries c.args.key c.args.value c.in_ok-earlier.earlier i.texts c.in-Some.texts c.earlier_len.result c.self.invariant.1 (omega (arith, c.in-Some.ensures, c.text_len.ensures)) c.earlier_len.ensures c.in_ok-earlier.ensures.old c.in_ok-earlier.ensures.entries in
    (line_put i.entries new c.args.key c.args.value c.in_ok-earlier.ensures.updates c.insert.ensures.unique i.oldest i.capacity c.self.invariant.0 c.in_ok-earlier.earlier c.in_ok-earlier.ensures.old c.in_ok-earlier.ensures.len (omega (arith, c.len.ensures.len, c.if-len-self.false)), omega (arith, put))

pub returns-clause-found : goal.returns-clause-found
returns-clause-found c = (put c).found

pub returns-clause-stays : goal.returns-clause-stays
returns-clause-stays c = (put c).stays

pub returns-clause-one_goes : goal.returns-clause-one_goes
returns-clause-one_goes c = (put c).one_goes

pub returns-clause-going : goal.returns-clause-going
returns-clause-going c = (put c).goes

pub returns-clause-order : goal.returns-clause-order
returns-clause-order c = (put c).order

pub returns-clause-len : goal.returns-clause-len
returns-clause-len c = (put c).len

pub returns-clause-gone : goal.returns-clause-gone
returns-clause-gone c = (put c).is_gone

-- ---- where there are, and the oldest goes

put_for : (c : goal.After-self-then-len-self-2-1) → Keeps c.args.self.now (kept (latest c.place_after-self-inside.result c.swap_remove_index-gone.new.self.entries) c.self.inside.capacity) c.args.key c.args.value c.swap_remove_index-gone.result
put_for c =
    let i = c.self.inside in
    let new = c.insert.new.self in
    let left = c.swap_remove_index-gone.new.self in
    let next = c.place_after-self-inside.result in
    subst (λ (m : KeptValues). Keeps m (kept (latest next left.entries) i.capacity) c.args.key c.args.value c.swap_remove_index-gone.result) c.self.view_is
    (keeps_gone i.entries new c.args.key c.args.value c.in_ok-earlier.ensures.updates c.insert.ensures.unique i.oldest i.capacity c.self.invariant.0 c.in_ok-earlier.earlier c.in_ok-earlier.ensures.old c.in_ok-earlier.ensures.len left c.in_ok-earlier.ensures.entries (omega (arith, c.len.ensures.len, c.if-len-self.true)) c.swap_remove_index-gone.result c.swap_remove_index-gone.ensures.entry c.swap_remove_index-gone.ensures.updates c.swap_remove_index-gone.ensures.len c.swap_remove_index-gone.ensures.unique c.swap_remove_index-gone.ensures.entries next c.place_after-self-inside.ensures)

pub invariant_of-self-then-len-self : goal.invariant_of-self-then-len-self
invariant_of-self-then-len-self c =
    let i = c.self.inside in
    let new = c.insert.new.self in
    let left = c.swap_remove_index-gone.new.self in
    let next = c.place_after-self-inside.result in
    let put = told_put i.entries.entries c.insert.new.self.entries c.args.key c.args.value c.in_ok-earlier.earlier i.texts c.in-Some.texts c.earlier_len.result c.self.invariant.1 (omega (arith, c.in-Some.ensures, c.text_len.ensures)) c.earlier_len.ensures c.in_ok-earlier.ensures.old c.in_ok-earlier.ensures.entries in
    let told = told_gone new.entries left.entries i.oldest c.swap_remove_index-gone.result (c.in-Some.texts - c.earlier_len.result) c.gone_len.result (omega (arith, put)) c.gone_len.ensures (omega (arith, c.len.ensures.len, c.if-len-self.true, c.self.invariant.0.2)) c.swap_remove_index-gone.ensures.entry c.swap_remove_index-gone.ensures.entries in
    (line_gone i.entries new c.args.key c.args.value c.in_ok-earlier.ensures.updates c.insert.ensures.unique i.oldest i.capacity c.self.invariant.0 c.in_ok-earlier.earlier c.in_ok-earlier.ensures.old c.in_ok-earlier.ensures.len left c.in_ok-earlier.ensures.entries (omega (arith, c.len.ensures.len, c.if-len-self.true)) c.swap_remove_index-gone.result c.swap_remove_index-gone.ensures.entry c.swap_remove_index-gone.ensures.updates c.swap_remove_index-gone.ensures.len c.swap_remove_index-gone.ensures.unique next (place_within next i.oldest i.capacity c.self.invariant.0.2 c.place_after-self-inside.ensures), omega (arith, told))

pub returns-then-len-self-clause-found : goal.returns-then-len-self-clause-found
returns-then-len-self-clause-found c = (put_for c).found

pub returns-then-len-self-clause-stays : goal.returns-then-len-self-clause-stays
returns-then-len-self-clause-stays c = (put_for c).stays

pub returns-then-len-self-clause-one_goes : goal.returns-then-len-self-clause-one_goes
returns-then-len-self-clause-one_goes c = (put_for c).one_goes

pub returns-then-len-self-clause-going : goal.returns-then-len-self-clause-going
returns-then-len-self-clause-going c = (put_for c).goes

pub returns-then-len-self-clause-order : goal.returns-then-len-self-clause-order
returns-then-len-self-clause-order c = (put_for c).order

pub returns-then-len-self-clause-len : goal.returns-then-len-self-clause-len
returns-then-len-self-clause-len c = (put_for c).len

pub returns-then-len-self-clause-gone : goal.returns-then-len-self-clause-gone
returns-then-len-self-clause-gone c = (put_for c).is_gone
