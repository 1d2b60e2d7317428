use Rattle.std.proofs.Common.{Bor, List, ℕ, ◌∙◌, sym, refl, inl, inr, subst, map, Some, []}
use Rattle.csv.specs.Reading.{Reached, default_config, strip_bom}
use Rattle.csv.specs.Records.{fields_of}
use Rattle.csv.specs.declared.parser.State.TheVariants as st
use Rattle.csv.proofs.ReadFacts.{rows-end, rows-more}
use Rattle.wi_csv.proofs.Copied.{read_and}
use Rattle.wi_csv.proofs.Counted.{all_read}
use Rattle.wi_csv.proofs.reading.records.Goals as goal

pub loop-row-init : goal.loop-row-init
unfolding Reached
loop-row-init c =
    let reader = c.from_reader-reader.ensures in
    let flexible = c.flexible.ensures in
    let named = c.has_headers.ensures in
    let start = c.into_iter-row-iterator.ensures.into_iter_gives ∙ refl in
    let items = c.into_byte_records-row-items.ensures in
    rw (start, items.rdr, c.new-rows.ensures.items) (
      rw (flexible, named) at reader.trim ∙ c.new.ensures.trim,
      inr (inr (rw (flexible, named) at reader.has_headers, reader.headers)),
      items.left,
      rw (flexible, named) at reader.config ∙ c.new.ensures.config,
      rw flexible at reader.flexible,
      strip_bom c.args.bytes.now,
      reader.source,
      (sym reader.state, refl),
    )

pub loop-row-preserved : goal.loop-row-preserved
loop-row-preserved c =
    let (trim, ready, left, config, flexible, y, source, reached) = c.loop-row.invariant in
    let all = c.next.ensures.steps left trim in
    let (row, is, copied) = read_and c.in-Some.row _ c.in_ok-push_copy.ensures in
    let read = rw (c.in-Some.is, is) at (all.0 ready) in
    let same = rw (c.in-Some.is, is) at all.3 in
    let rem : Bor (List ℕ) → _ = λ s. Some s.now in
    let text = strip_bom c.args.bytes.now in
    let new = c.next.new.self.rdr in
    let fields = fields_of row in
    let rows = map (λ fields. map (λ f. f.items) fields.items) c.loop-row.rows.items in
    let (z, rest, more) = rows-more rem c.loop-row.row-iterator.rdr new fields default_config st.StartRecord text y rows config source reached read.0 in (
      read.0.3 ∙ trim,
      inl read.1,
      read.2,
      read.0.2 ∙ config,
      same ∙ flexible,
      z,
      rest,
      subst (λ rs. Reached default_config st.StartRecord text rs new.state z)
          (sym copied) more,
    )

pub returns : goal.returns
returns c =
    let (trim, ready, left, config, flexible, y, source, reached) = c.loop-row.invariant in
    let read = rw c.in-None.is at ((c.next.ensures.steps left trim).0 ready) in
    let rem : Bor (List ℕ) → _ = λ s. Some s.now in
    let old = c.loop-row.row-iterator.rdr in
    all_read c.args.bytes.now _ (old.state, y, reached, rows-end rem old c.next.new.self.rdr [] default_config y config source read)
