use Rattle.std.proofs.Common.{◌≡◌, ◌<◌, ℕ, List, Some, map, true}
use Rattle.csv.specs.Reading.{Reached, Ready, default_config, source_of, strip_bom}
use Rattle.csv.specs.declared.parser.State.TheVariants as st
use Rattle.csv.specs.declared.reader.Trim.TheVariants as trim
use Rattle.wi_csv.proofs.reading.records.Given as goal

-- the rows so far take the text from its start to where the reader stands
abbrev pub invariant-loop-row : goal.invariant-loop-row
invariant-loop-row l =
    let reader = l.row-iterator.rdr in
    (reader.trim ≡ trim.None) × Ready reader × (0 < l.row-iterator.left) × (reader.config ≡ default_config) × (reader.flexible ≡ true)
    × (y : List ℕ) × (source_of (λ s. Some s.now) reader ≡ Some y)
    × Reached default_config st.StartRecord (strip_bom l.fn.bytes) (map (λ fields. map (λ f. f.items) fields.items) l.rows.items) reader.state y
