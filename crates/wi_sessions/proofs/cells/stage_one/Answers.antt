use Rattle.wi_sessions.proofs.Words.{◌≡◌, ◌==◌, ◌∙◌, ◌++◌, ◌∷◌, [], ℕ, Option, Some, cond, refl, ap, sym, subst, arith, common_steps, unwrap_or, is_some, IsStrictlySortedBy, nat_cmp, lookup, keys_of, is_at, MakesRooms}
use Rattle.wi_tiles.proofs.MapSteps.{found-with_new, nothing_put, nothing_there, order-with_new, something_there}
use Rattle.wi_sessions.proofs.WordLemmas.{Words, has_made_new, made_rooms, nothing_staged}
use Rattle.wi_sessions.proofs.cells.stage_one.Goals as goal

pub unwrap-requires : goal.unwrap-requires
unwrap-requires c = c.push.ensures.succeeds (grind (arith, common_steps))

pub returns-in_err-reserve-clause-rooms : goal.returns-in_err-reserve-clause-rooms
returns-in_err-reserve-clause-rooms c = nothing_staged c.from_residual.result c.from_residual.ensures.0 refl c.reserve.ensures.items

pub returns-in_err-is_new-clause-order : goal.returns-in_err-is_new-clause-order
returns-in_err-is_new-clause-order c = subst (λ m. IsStrictlySortedBy nat_cmp (keys_of m.entries)) (sym c.in_err-is_new.ensures.err) c.requires

pub returns-in_err-is_new-clause-rooms : goal.returns-in_err-is_new-clause-rooms
returns-in_err-is_new-clause-rooms c = nothing_staged c.from_residual-in_err-is_new.result c.from_residual-in_err-is_new.ensures.0 (ap (λ m. m.entries) c.in_err-is_new.ensures.err) c.reserve.ensures.items

pub stage_there-requires-clause-order : goal.stage_there-requires-clause-order
stage_there-requires-clause-order c = order-with_new c.args.words.now.entries c.put_new.new.self.entries c.args.at c.args.bits c.in_ok-is_new.ensures.entries c.requires

pub stage_there-requires-clause-there : goal.stage_there-requires-clause-there
stage_there-requires-clause-there c =
    let there = something_there (lookup (is_at (nat_cmp c.args.at)) c.args.words.now.entries) c.in_ok-is_new.is_new c.in_ok-is_new.ensures.new c.if-not-is_new.true in
    let same = nothing_put c.args.words.now.entries c.put_new.new.self.entries c.args.at c.args.bits c.in_ok-is_new.ensures.entries there in
    ap (λ (es : Words). is_some (lookup (is_at (nat_cmp c.args.at)) es)) same ∙ there

pub returns-then-not-is_new-clause-rooms : goal.returns-then-not-is_new-clause-rooms
returns-then-not-is_new-clause-rooms c =
    let there = something_there (lookup (is_at (nat_cmp c.args.at)) c.args.words.now.entries) c.in_ok-is_new.is_new c.in_ok-is_new.ensures.new c.if-not-is_new.true in
    let same = nothing_put c.args.words.now.entries c.put_new.new.self.entries c.args.at c.args.bits c.in_ok-is_new.ensures.entries there in
    let more = c.stage_there.new.words.entries in
    let rooms = c.stage_there.new.staged.items in
    subst (λ (es : Words). MakesRooms (λ q. c.args.at == q) c.args.bits c.stage_there.result es c.args.staged.now.items more rooms) same
    (subst (λ (rs : Words). MakesRooms (λ q. c.args.at == q) c.args.bits c.stage_there.result c.put_new.new.self.entries rs more rooms) c.reserve.ensures.items c.stage_there.ensures.rooms)

pub returns-clause-order : goal.returns-clause-order
returns-clause-order c = order-with_new c.args.words.now.entries c.put_new.new.self.entries c.args.at c.args.bits c.in_ok-is_new.ensures.entries c.requires

pub returns-clause-rooms : goal.returns-clause-rooms
returns-clause-rooms c =
    let none_found = nothing_there (lookup (is_at (nat_cmp c.args.at)) c.args.words.now.entries) c.in_ok-is_new.is_new c.in_ok-is_new.ensures.new c.if-not-is_new.false in
    let old = c.args.words.now.entries in
    let pushed : c.push.new.self.items ≡ c.args.staged.now.items ++ (c.args.at, c.args.bits) ∷ [] = grind (arith, common_steps) in
    made_rooms (λ q. c.args.at == q) c.args.bits old c.args.staged.now.items c.put_new.new.self.entries c.push.new.self.items
    (has_made_new old c.args.staged.now.items c.put_new.new.self.entries c.push.new.self.items c.args.at c.args.bits none_found
    (λ q. found-with_new old c.put_new.new.self.entries c.args.at c.args.bits c.in_ok-is_new.ensures.entries q
    ∙ ap (λ (o : Option ℕ). cond (is_at (nat_cmp c.args.at) q) (Some (unwrap_or o c.args.bits)) (lookup (is_at (nat_cmp q)) old)) none_found) pushed)
