use Rattle.wi_sessions.proofs.Words.{arith, ℕ, List, sym, subst, AreLookedAt, HavePlaces}
use Rattle.wi_sessions.proofs.PlaceLemmas.{places_longer, places_looked}
use Rattle.wi_sessions.proofs.unread.track.Goals as goal

pub track_alone-requires : goal.track_alone-requires
track_alone-requires c = omega (arith, c.len-count.ensures, c.args.unread.now.ok.0, c.if-count-eq1.true)

pub returns-then-count-eq1-clause-places : goal.returns-then-count-eq1-clause-places
returns-then-count-eq1-clause-places c = λ words h. c.track_alone.ensures.places words c.args.changed.now.items h

pub returns-then-count-eq1-clause-looked : goal.returns-then-count-eq1-clause-looked
returns-then-count-eq1-clause-looked c = λ words h. c.track_alone.ensures.looked c.args.cells.now c.args.changed.now.items

pub returns-in_err-extend_from_slice-clause-places : goal.returns-in_err-extend_from_slice-clause-places
returns-in_err-extend_from_slice-clause-places c =
    λ words h. subst (λ (xs : List ℕ). HavePlaces words xs c.args.unread.now.items) (sym c.in_err-extend_from_slice.ensures.items) h

pub returns-clause-places : goal.returns-clause-places
returns-clause-places c =
    λ words h. subst (λ (xs : List ℕ). HavePlaces words xs c.args.unread.now.items) (sym c.in_ok-extend_from_slice.ensures.items)
    (places_longer words c.args.changed.now.items c.args.unread.now.items c.args.cells.now h)

pub returns-clause-looked : goal.returns-clause-looked
returns-clause-looked c =
    λ words h. subst (λ (xs : List ℕ). AreLookedAt c.args.cells.now xs c.args.unread.now.items) (sym c.in_ok-extend_from_slice.ensures.items)
    (places_looked words c.args.changed.now.items c.args.unread.now.items c.args.cells.now h)
