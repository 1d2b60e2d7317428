use Rattle.wi_import.proofs.Words.{◌≡◌, ◌==◌, ℕ, zero, suc, ◌<◌, false, length, ◌∙◌, sym, arith}
use Rattle.wi_import.proofs.FieldLemmas.{fields_inside}
use Rattle.wi_import.proofs.AreaLemmas.{record_area}
use Rattle.wi_import.proofs.areas.area.Goals as goal

not_none : (n : ℕ) → (n == 0) ≡ false → 0 < n
not_none zero e = cc e
not_none (suc n) e = omega arith

pub overflow_cast-row : goal.overflow_cast-row
overflow_cast-row c =
    let inside = fields_inside c.args.row c.args.column c.args.fields.now (sym c.is_empty.ensures ∙ c.if-is_empty.false) c.requires in
    omega (arith, inside.0)

pub overflow_cast-column : goal.overflow_cast-column
overflow_cast-column c =
    let inside = fields_inside c.args.row c.args.column c.args.fields.now (sym c.is_empty.ensures ∙ c.if-is_empty.false) c.requires in
    omega (arith, inside.1)

pub at-first-requires-clause-row_within : goal.at-first-requires-clause-row_within
at-first-requires-clause-row_within c =
    (fields_inside c.args.row c.args.column c.args.fields.now (sym c.is_empty.ensures ∙ c.if-is_empty.false) c.requires).0

pub at-first-requires-clause-column_within : goal.at-first-requires-clause-column_within
at-first-requires-clause-column_within c =
    let some = sym c.is_empty.ensures ∙ c.if-is_empty.false in
    let inside = fields_inside c.args.row c.args.column c.args.fields.now some c.requires in
    omega (arith, inside.1, not_none (length c.args.fields.now) some)

pub overflow_cast-column-2 : goal.overflow_cast-column-2
overflow_cast-column-2 c =
    let inside = fields_inside c.args.row c.args.column c.args.fields.now (sym c.is_empty.ensures ∙ c.if-is_empty.false) c.requires in
    omega (arith, inside.1)

pub at-last-requires-clause-column_within : goal.at-last-requires-clause-column_within
at-last-requires-clause-column_within c =
    let some = sym c.is_empty.ensures ∙ c.if-is_empty.false in
    let inside = fields_inside c.args.row c.args.column c.args.fields.now some c.requires in
    omega (arith, inside.1, not_none (length c.args.fields.now) some)

pub returns : goal.returns
returns c =
    let some = sym c.is_empty.ensures ∙ c.if-is_empty.false in
    let inside = fields_inside c.args.row c.args.column c.args.fields.now some c.requires in
    record_area c.args.row c.args.column c.args.fields.now c.at-first.result c.at-last.result c.new.result some inside.1 c.at-first.ensures c.at-last.ensures c.new.ensures
