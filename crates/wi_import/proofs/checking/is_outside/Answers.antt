use Rattle.wi_import.proofs.Words.{◌≡◌, ℕ, ◌<◌, ◌∙◌, sym, ap, ◌||◌, ◌+◌, ◌-◌, nat_lt, nat_le, length, true, false, arith, nat_tests, rows, columns}
use Rattle.wi_import.proofs.FieldLemmas.{fields_outside}
use Rattle.wi_import.proofs.checking.is_outside.Goals as goal

moved : (column len : ℕ) → column < columns → nat_lt (columns - column) len ≡ nat_lt columns (column + len)
moved column len h = grind (arith, nat_tests, h)

pub returns-then-row : goal.returns-then-row
returns-then-row c =
    let there = fields_outside c.args.row c.args.column c.args.fields.now (sym c.is_empty.ensures ∙ c.if-not-is_empty.true) in
    let below = c.if-row.true in
    let holds : nat_le rows c.args.row ≡ true = grind (arith, nat_tests, below) in
    holds ∙ sym (there ∙ ap (λ b. b || nat_lt columns (c.args.column + length c.args.fields.now)) holds)

pub returns-else-row : goal.returns-else-row
returns-else-row c =
    let there = fields_outside c.args.row c.args.column c.args.fields.now (sym c.is_empty.ensures ∙ c.if-not-is_empty.true) in
    let within = c.if-row.false in
    let fails : nat_le rows c.args.row ≡ false = grind (arith, nat_tests, within) in
    let same = moved c.args.column (length c.args.fields.now) c.requires in
    same ∙ sym (there ∙ ap (λ b. b || nat_lt columns (c.args.column + length c.args.fields.now)) fails)
