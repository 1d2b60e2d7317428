use Rattle.std.proofs.Common.{◌≡◌, map, take}
use Rattle.csv.specs.Records.{fields_of}
use Rattle.wi_csv.proofs.reading.copied_fields.Given as goal

-- the fields so far are copied
abbrev pub invariant-loop-field : goal.invariant-loop-field
invariant-loop-field l =
    let it = l.field-iterator in
    record {
      same : it.row.now ≡ l.fn.row;
      copied : map (λ f. f.items) l.fields.items ≡ take it.at (fields_of l.fn.row);
    }
