-- Lines that were taken from the source, and what one turn of a run does.
use Rattle.std.specs.Prelude.{◌++◌, ◌+◌, ◌<◌, ◌∷◌, ◌≡◌, ◌≤◌}
use Rattle.wi_cli.specs.Words.{Appends, Bool, Command, Err, List, Ok, Option, Read, Reply, Result, RunFault, ScriptLimit, Write, [], concat, false, filter, filter_map, is_whole, length, max_lines, option_to_list, raw_lines, take, true, ℕ}
use Rattle.wi_cli.specs.Outcome.{Writes}
use Rattle.wi_cli.specs.Inner.Reading.{Place, Advances, IsOver, Stage}
use Rattle.wi_cli.specs.Inner.Script.{Block, blocks, is_complete, block_command}
use Rattle.wi_cli.specs.Inner.Told.{reply_bytes}

-- known bytes grow by a front of bs
abbrev pub AppendsFront : Option (List ℕ) → Option (List ℕ) → List ℕ → Type 0
AppendsFront old new bs = (n : ℕ) × (n ≤ length bs) × Appends old new (take n bs)

-- ---- lines that were taken from the source

-- Lines that end with their LF, whatever comes after them.
pub record AreWhole (ls : List (List ℕ)) : Type 0 where
  pub first : (rest : List ℕ) → raw_lines (concat ls ++ rest) ≡ ls ++ raw_lines rest
  pub whole : filter is_whole ls ≡ ls

-- Lines that are these complete blocks, whatever comes after them.
pub record AreBlocks (ls : List (List ℕ)) (bs : List Block) : Type 0 where
  pub first : (more : List (List ℕ)) → blocks (ls ++ more) ≡ bs ++ blocks more
  pub complete : filter is_complete bs ≡ bs

-- lines that are these complete blocks, whatever comes after them; where `false` stands, the last lines of a script,
-- which are these blocks
abbrev pub AreBlocksOf : Bool → List (List ℕ) → List Block → Type 0
AreBlocksOf true ls bs = AreBlocks ls bs
AreBlocksOf false ls bs = blocks ls ≡ bs

-- Lines were taken, and counted where their LF came. Only where the source has nothing left may the last lack it.
pub record TookLines (whole : Bool) (p q : Place) : Type 0 where
  pub lines : List (List ℕ)
  pub last : List ℕ
  pub are_whole : AreWhole lines
  pub no_lf : is_whole last ≡ false
  pub none_last : whole ≡ true → last ≡ []
  pub taken : Advances p q (concat lines ++ last)
  pub at_end : whole ≡ false → IsOver q
  pub counted : q.lines ≡ p.lines + length lines
  pub few : q.lines + length (raw_lines last) ≤ max_lines

-- why no line was taken behind these: the source failed within one, or one more would be too many
abbrev pub BrokeBehind : RunFault → Place → Place → List (List ℕ) → Type 0
BrokeBehind Read p q lines =
    (last : List ℕ) × (is_whole last ≡ false) × (q.chunk ≡ []) × Advances p q (concat lines ++ last)
    × ((p.lines + length lines) + length (raw_lines last) ≤ max_lines)
BrokeBehind ScriptLimit p q lines = (b : ℕ) × Advances p q (concat lines ++ b ∷ []) × (p.lines + length lines ≡ max_lines)
BrokeBehind fault p q lines = ⊥

-- lines were taken, and no more
pub record BrokeLines (fault : RunFault) (p q : Place) : Type 0 where
  pub lines : List (List ℕ)
  pub are_whole : AreWhole lines
  pub cause : BrokeBehind fault p q lines

-- ---- what one turn of a run does

-- a block was taken, or nothing was there; this is its command, if it has one
pub record TookBlock (command : Option Command) (whole : Bool) (p q : Place) : Type 0 where
  pub took : TookLines whole p q
  pub taken : List Block
  pub are_blocks : AreBlocksOf whole (took.lines ++ raw_lines took.last) taken
  pub is_command : filter_map block_command taken ≡ option_to_list command
  pub grows : whole ≡ true → p.lines < q.lines

-- no block was taken, but maybe lines of one that isn't complete
pub record BrokeBlock (fault : RunFault) (p q : Place) : Type 0 where
  pub broke : BrokeLines fault p q
  pub none_complete : filter is_complete (blocks broke.lines) ≡ []

-- a block was taken, whole or up to the end, and served, with this reply
pub record Served (whole : Bool) (old new : Stage) : Type 0 where
  pub command : Option Command
  pub block : TookBlock command whole old.read new.read
  pub reply : List ℕ
  pub writes : Writes false old.state (option_to_list command) reply new.state

-- the reply to a block that was taken, whole or up to the end, was written, or a front of it
abbrev pub IsReplied : Bool → Reply → List ℕ → Result Bool RunFault → Option (List ℕ) → Option (List ℕ) → Type 0
IsReplied whole reply records (Ok end) given given' = (end ≡ whole) × Appends given given' (reply_bytes reply records)
IsReplied whole reply records (Err Write) given given' = AppendsFront given given' (reply_bytes reply records)
IsReplied whole reply records (Err e) given given' = ⊥

-- no block was served, or a front of the reply to one was written
abbrev pub Stopped : RunFault → Stage → Stage → Type 0
Stopped Write old new = (whole : Bool) × (served : Served whole old new) × AppendsFront old.written new.written served.reply
Stopped fault old new = BrokeBlock fault old.read new.read × (new.state ≡ old.state) × (new.written ≡ old.written)

abbrev pub IsTurn : Result Bool RunFault → Stage → Stage → Type 0
IsTurn (Ok whole) old new = (served : Served whole old new) × Appends old.written new.written served.reply
IsTurn (Err e) old new = Stopped e old new
