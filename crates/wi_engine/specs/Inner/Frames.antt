-- What is so of the frames: cases whose formulas are being valued, each resting on the next.
use Rattle.std.specs.Prelude.{◌≡◌, ℕ, ◌-◌, ◌<◌, ◌||◌, Bool, true, false, if◌then◌else◌, List, [], ◌∷◌, Option, Some, None, Contains}
use Rattle.wi_values.specs.declared.replacement.Replacement.{Replacement}
use Rattle.wi_parser.specs.Tree.{Tree}
use Rattle.wi_parser.specs.declared.content.Content.{Content}
use Rattle.wi_parser.specs.declared.content.Content.TheVariants.{Formula}
use Rattle.wi_parser.specs.Sheet.{Sheet, content_of, put_all, has_formula}
use Rattle.wi_functions.specs.Counts.{Counts}
use Rattle.wi_functions.specs.declared.evaluation.Want as want
use Rattle.wi_cache.specs.declared.key.Key.{Key}
use Rattle.wi_graph.specs.Circular.{circular}
use Rattle.wi_values.specs.Address.{is_one_of}
use Rattle.wi_sheet.specs.CellValue.{cell_value, what_if_value}
use Rattle.wi_sheet.specs.Demand.{Case, same_case, reaching, reads_here, of_formula}
use Rattle.wi_sheet.specs.Inner.Spending.{RestsOn, IsClosed, Table, cost, plus}
use Rattle.wi_sheet.specs.Inner.Rank.{reach_rank}
use Rattle.wi_engine.specs.Inner.MemoState.{MemoState}
use Rattle.wi_engine.specs.Inner.Findings.{AreAllRight, found_value, found_what_ifs}
use Rattle.wi_engine.specs.Inner.Attempt.{AsksAt, IsLacking, lacking}
use Rattle.wi_engine.specs.declared.findings.Findings.{Findings}
use Rattle.wi_engine.specs.declared.frame.Frame.{Frame}
use Rattle.wi_engine.specs.declared.frame.Unvalued.{Unvalued}
use Rattle.wi_engine.specs.declared.frame.Waiting.{Waiting}
use Rattle.wi_engine.specs.declared.frame.Waiting.TheVariants.{Nothing, Cells, WhatIf}

-- the case of a key
abbrev pub case_at : Key → Case
case_at k = (k.cell, k.world)

-- A cell that may be valued: it is not circular, and the memory makes keys for it if it has a formula. (One that serves
-- a single question may make them for the cells alone that the question reaches.)
pub record MayBeRead (s : Sheet) (m : MemoState) (a : ℕ) : Type 0 where
  pub open_cell : circular s a ≡ false
  pub covered : has_formula (content_of s a) ≡ true → m.covers a ≡ true

-- a key for a formula under replacements, all of them of cells that it reaches
pub record IsFormulaKey (s : Sheet) (m : MemoState) (k : Key) : Type 0 where
  pub formula : has_formula (content_of (put_all s k.world) k.cell) ≡ true
  pub open_cell : circular s k.cell ≡ false
  pub covered : m.covers k.cell ≡ true
  pub own : reaching s k.cell k.world ≡ k.world
  pub generation : k.generation ≡ m.generation k.cell

-- and such a key for which no value is remembered
pub record IsUnvaluedKey (s : Sheet) (m : MemoState) (k : Key) : Type 0 where
  pub key : IsFormulaKey s m k
  pub unfound : m.found k.cell k.world ≡ false
  pub unkept : m.kept k.cell k.world ≡ false

-- the formula stands in the cell of a key, under the replacements of the key
abbrev pub StandsAt : Sheet → Key → Tree → Type 0
StandsAt s k t = content_of (put_all s k.world) k.cell ≡ Some (Formula t)

-- the key of a cell under replacements, whose formula has to be valued
pub record IsUnvalued (s : Sheet) (m : MemoState) (w : List Replacement) (a : ℕ) (k : Key) : Type 0 where
  pub formula : has_formula (content_of (put_all s w) a) ≡ true
  pub cell : k.cell ≡ a
  pub world : k.world ≡ reaching s a w
  pub to_find : IsUnvaluedKey s m k

-- and that formula with it
pub record IsUnvaluedFormula (s : Sheet) (m : MemoState) (w : List Replacement) (a : ℕ) (u : Unvalued) : Type 0 where
  pub unvalued : IsUnvalued s m w a u.key
  pub stands : StandsAt s u.key u.formula.now

-- what stands in a cell reads this one as the sheet stands
abbrev pub content_reads_here : Option Content → ℕ → Bool
content_reads_here o a = of_formula o false (λ t. reads_here t a)

-- each of these cells has a formula and is read as the sheet stands by what stands in the case's cell
abbrev pub AreReadHere : Sheet → Case → List ℕ → Type 0
AreReadHere s k cells = (d : ℕ) → is_one_of cells d ≡ true → (content_reads_here (content_of (put_all s k.1) k.0) d ≡ true) × (has_formula (content_of s d) ≡ true)

-- this is asked for by what stands in the case's cell, and was not found
abbrev pub Awaits : Sheet → Case → Findings → Waiting → Type 0
Awaits s k f Nothing = Unit {0}
Awaits s k f (Cells a others) =
    IsLacking s k.1 f (want.TheVariants.Cell a) × (content_reads_here (content_of (put_all s k.1) k.0) a ≡ true) × (has_formula (content_of s a) ≡ true) × AreReadHere s k others.items
Awaits s k f (WhatIf a pairs) = IsLacking s k.1 f (want.TheVariants.WhatIf a pairs) × AsksAt s k.1 k.0 (want.TheVariants.WhatIf a pairs)

-- a frame of this key and this formula, with no values yet
pub record IsNewFrame (f : Frame) (k : Key) (t : Tree) : Type 0 where
  pub key : f.key ≡ k
  pub formula : f.formula.now ≡ t
  pub cells : (c : ℕ) → found_value f.found c ≡ None
  pub what_ifs : found_what_ifs f.found ≡ []
  pub waiting : f.waiting ≡ Nothing

-- what is so of a frame by itself
pub record IsFrame (s : Sheet) (m : MemoState) (f : Frame) : Type 0 where
  pub key : IsFormulaKey s m f.key
  pub formula : StandsAt s f.key f.formula.now
  pub found : AreAllRight (cell_value (put_all s f.key.world)) (what_if_value (put_all s f.key.world)) f.found
  pub waiting : Awaits s (case_at f.key) f.found f.waiting

-- the value of a cell is waited for
abbrev pub is_of_cell : Waiting → Bool
is_of_cell Nothing = false
is_of_cell (Cells a others) = true
is_of_cell (WhatIf a pairs) = false

-- the key is that of the cell whose value is waited for, under these replacements; of what a what-if rests on it says
-- nothing
abbrev pub IsAwaited : Sheet → List Replacement → Waiting → Key → Type 0
IsAwaited s w Nothing k = Unit {0}
IsAwaited s w (Cells a others) k = (k.cell ≡ a) × (k.world ≡ reaching s a w)
IsAwaited s w (WhatIf a pairs) k = Unit {0}

-- a key whose value has to be found before a frame's
pub record IsNext (s : Sheet) (m : MemoState) (below k : Key) : Type 0 where
  pub rests : RestsOn s (case_at below) (case_at k)
  pub to_find : IsUnvaluedKey s m k

-- and its formula with it
pub record IsNextFormula (s : Sheet) (m : MemoState) (below : Key) (u : Unvalued) : Type 0 where
  pub next : IsNext s m below u.key
  pub stands : StandsAt s u.key u.formula.now

-- a formula that has to be valued before a frame's, for which the frame waits
pub record IsWaitedFor (s : Sheet) (m : MemoState) (f : Frame) (u : Unvalued) : Type 0 where
  pub next : IsNextFormula s m f.key u
  pub awaited : IsAwaited s f.key.world f.waiting u.key

-- ---- restarts

-- one where a value is waited for: it asks for no restart any more
abbrev pub waits : Waiting → ℕ
waits Nothing = 0
waits (Cells a others) = 1
waits (WhatIf a pairs) = 1

-- how many values a frame's formula lacks
abbrev pub lacks : Sheet → Key → Findings → ℕ
lacks s k f = of_formula (content_of (put_all s k.world) k.cell) 0 (λ t. lacking s t f)

-- how many restarts a frame's formula may still ask for: one for each value that it lacks, none for one that is waited
-- for
abbrev pub spare : Sheet → Frame → ℕ
spare s f = lacks s f.key f.found - waits f.waiting

-- ---- a stack of frames

-- a case that every closed list with the root has
abbrev pub IsDemanded : Sheet → Case → Case → Type 0
IsDemanded s root k = (ks : List Case) → IsClosed s ks → Contains ks root → Contains ks k

-- what is so of a frame that was begun for the root
pub record IsBegun (s : Sheet) (m : MemoState) (root : Case) (f : Frame) : Type 0 where
  pub frame : IsFrame s m f
  pub unfound : m.found f.key.cell f.key.world ≡ false
  pub demanded : IsDemanded s root (case_at f.key)

-- the ranks of these are below a number
abbrev pub AreBelow : Sheet → List Frame → ℕ → Type 0
AreBelow s [] n = Unit {0}
AreBelow s (f ∷ fs) n = (reach_rank s f.key.cell < n) × AreBelow s fs n

-- the frames below one of rank r, the lowest first: ranks fall from each to those above it
abbrev pub IsStack : Sheet → MemoState → Case → List Frame → ℕ → Type 0
IsStack s m root [] r = Unit {0}
IsStack s m root (f ∷ fs) r = IsBegun s m root f × (r < reach_rank s f.key.cell) × AreBelow s fs (reach_rank s f.key.cell) × IsStack s m root fs r

-- the lowest frame is the root's
abbrev pub BottomIs : Case → List Frame → Frame → Type 0
BottomIs root [] f = case_at f.key ≡ root
BottomIs root (g ∷ fs) f = case_at g.key ≡ root

-- the key of the frame above these
abbrev pub key_above : List Frame → Key → Key
key_above [] k = k
key_above (f ∷ fs) k = f.key

-- each of these frames waits for the one above it, the last for this key
abbrev pub AreLinked : Sheet → List Frame → Key → Type 0
AreLinked s [] k = Unit {0}
AreLinked s (f ∷ fs) k = IsAwaited s f.key.world f.waiting (key_above fs k) × AreLinked s fs k

-- found, or being found in one of these frames
abbrev pub taken : Table → List Frame → Table
taken found [] c w = found c w
taken found (f ∷ fs) c w = taken found fs c w || same_case (case_at f.key) (c, w)

-- what a frame may count: an evaluation, where it is done, and the restarts that are spare
abbrev pub frame_cost : Sheet → Frame → Bool → Counts
frame_cost s f done = record { evaluations = if done then 1 else 0; restarts = spare s f }

-- and these together, where all are done
abbrev pub frames_cost : Sheet → List Frame → Counts
frames_cost s [] = record { evaluations = 0; restarts = 0 }
frames_cost s (f ∷ fs) = plus (frame_cost s f true) (frames_cost s fs)

-- what was counted, with what the frames and the cases not yet taken may still count
abbrev pub at_most : Sheet → Table → List Frame → Counts → List Case → Counts
at_most s found fs now ks = plus now (plus (frames_cost s fs) (cost s (taken found fs) ks))
