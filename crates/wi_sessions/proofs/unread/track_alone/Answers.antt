use Rattle.wi_sessions.proofs.Words.{◌<◌, length, arith, length-set}
use Rattle.wi_sessions.proofs.PlaceLemmas.{alone_looks, place_tracked, place_read, places_set, unread_anywhere}
use Rattle.wi_sessions.proofs.unread.track_alone.Goals as goal

pub index_mut-requires : goal.index_mut-requires
index_mut-requires c = omega (arith, c.requires, c.args.unread.now.ok.0)

pub returns-clause-lists : goal.returns-clause-lists
returns-clause-lists c = length-set c.args.unread.now.items 0 c.look_anywhere.new.self

pub returns-clause-places : goal.returns-clause-places
returns-clause-places c =
    let us = c.args.unread.now.items in
    let u = c.look_anywhere.new.self in
    let within : 0 < length us = omega (arith, c.requires) in
    λ words changed h. places_set words changed us 0 u within h
    (place_tracked words changed 0 c.index_mut.result.now u (place_read words changed us 0 c.index_mut.result.now h within c.index_mut.ensures.value) c.look_anywhere.ensures.from
    (λ q s. unread_anywhere changed u q c.look_anywhere.ensures.anywhere))

pub returns-clause-looked : goal.returns-clause-looked
returns-clause-looked c = alone_looks c.args.unread.now.items c.look_anywhere.new.self c.requires c.look_anywhere.ensures.anywhere
