use Rattle.std.proofs.Common.{ap, ◌∙◌}
use Rattle.csv.specs.Records.{field_at, fields_of}
use Rattle.wi_csv.proofs.Copied.{field_more, no_more}
use Rattle.wi_csv.proofs.reading.copied_fields.Goals as goal

pub loop-field-preserved : goal.loop-field-preserved
loop-field-preserved c =
    let old = c.loop-field.invariant in
    let i = c.loop-field.field-iterator.at in
    let s = c.in-Some.ensures.steps in
    record {
      same = ap (λ r. r.now) s.0 ∙ old.same;
      copied = field_more (λ f. f.items) c.loop-field.fields.items c.push.new.self.items c.in_ok-from_slice.field-0 (fields_of c.args.row.now) i c.next.new.self.at
          c.in-Some.field.now old.copied (s.1 ∙ ap (λ r. field_at (fields_of r) i) old.same) s.2 c.in_ok-push.ensures.items c.in_ok-from_slice.ensures.items;
    }

pub returns : goal.returns
returns c =
    let old = c.loop-field.invariant in
    let i = c.loop-field.field-iterator.at in
    old.copied ∙ no_more (fields_of c.args.row.now) i (c.in-None.ensures.steps.1 ∙ ap (λ r. field_at (fields_of r) i) old.same)
