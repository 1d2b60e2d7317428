use Rattle.wi_ranges.proofs.Words.{rules, ◌≡◌, ◌<◌, ◌∙◌, ℕ, false, ap, sym, first_row, half_with, last_row, lies_within}
use Rattle.wi_ranges.proofs.First.{among_half, half_holds, itself, more_rows}
use Rattle.wi_ranges.proofs.block.Block.+first_of.Goals as goal

pub half_with-requires-clause-level : goal.half_with-requires-clause-level
half_with-requires-clause-level t c = more_rows c.args.pair.now c.args.self.now c.requires.holds (sym c.lies_within.ensures ∙ c.if-lies_within.false)

pub first_of-requires : goal.first_of-requires
first_of-requires t c =
    let p = c.args.pair.now in
    let x = c.args.self.now in
    let some : 0 < x.level = more_rows p x c.requires.holds (sym c.lies_within.ensures ∙ c.if-lies_within.false) in
    let half = c.half_with.ensures.value ∙ ap (λ (r : ℕ). half_with r x) c.row.ensures.value in
    (search rules, (c.half_with.ensures.within, half_holds (first_row p) x c.half_with.result some c.requires.holds half))

pub returns-then-lies_within : goal.returns-then-lies_within
returns-then-lies_within t c = itself c.args.pair.now c.args.self.now (sym c.lies_within.ensures ∙ c.if-lies_within.true)

pub returns-else-lies_within : goal.returns-else-lies_within
returns-else-lies_within t c =
    let p = c.args.pair.now in
    let x = c.args.self.now in
    let apart : lies_within (first_row p) (last_row p) x ≡ false = sym c.lies_within.ensures ∙ c.if-lies_within.false in
    let half = c.half_with.ensures.value ∙ ap (λ (r : ℕ). half_with r x) c.row.ensures.value in
    among_half p x c.half_with.result c.first_of.result (more_rows p x c.requires.holds apart) c.requires.holds apart half c.first_of.ensures
