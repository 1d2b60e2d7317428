use Rattle.wi_tiles.proofs.Words.{rules, arith, ap, ◌∙◌, sym, ◌≡◌, ◌+◌, ◌<◌, ◌≤◌, ℕ, None, length, drop, subst, slice_get, length-drop, at_part, at_window, HasSome, IsTrimmed}
use Rattle.wi_tiles.proofs.Ends.{trimmed_from, window_from}
use Rattle.wi_tiles.proofs.window.trim.Goals as goal

pub overflow_add-first : goal.overflow_add-first
overflow_add-first g c =
    let within : c.vacant_before-count.result ≤ length c.trim_end.new.parts.items = search rules in
    omega (arith, within, c.trim_end.ensures.most, c.requires)

pub returns-clause-bound : goal.returns-clause-bound
returns-clause-bound g c =
    let within : c.vacant_before-count.result ≤ length c.trim_end.new.parts.items = search rules in
    let items : c.drop_before.new.parts.items ≡ drop c.vacant_before-count.result c.trim_end.new.parts.items = search rules in
    omega (arith, within, ap length items, length-drop c.vacant_before-count.result c.trim_end.new.parts.items, c.trim_end.ensures.most, c.requires)

pub returns-clause-trimmed : goal.returns-clause-trimmed
returns-clause-trimmed g c =
    let within : c.vacant_before-count.result ≤ length c.trim_end.new.parts.items = search rules in
    let items : c.drop_before.new.parts.items ≡ drop c.vacant_before-count.result c.trim_end.new.parts.items = search rules in
    let first : c.vacant_before-count.result < length c.trim_end.new.parts.items → HasSome g.T.Places.at (slice_get c.trim_end.new.parts.items c.vacant_before-count.result) = search rules in
    subst (λ ts. IsTrimmed g.T.Places.at ts) (sym items) (trimmed_from g.T.Places.at c.trim_end.new.parts.items c.vacant_before-count.result within c.trim_end.ensures.filled first)

pub returns-clause-kept : goal.returns-clause-kept
returns-clause-kept g c =
    let items : c.drop_before.new.parts.items ≡ drop c.vacant_before-count.result c.trim_end.new.parts.items = search rules in
    let vacant : (i p : ℕ) → i < c.vacant_before-count.result → at_part g.T.Places.at (slice_get c.trim_end.new.parts.items i) p ≡ None = search rules in
    λ p. ap (λ ts. at_window g.T.Places.at (c.args.first.now + c.vacant_before-count.result, ts) p) items ∙ window_from g.T.Places.at c.args.first.now c.trim_end.new.parts.items c.vacant_before-count.result vacant p ∙ c.trim_end.ensures.kept p
