-- What the stack of frames is seen as.
use Rattle.std.specs.Prelude.{ℕ, ◌≤◌, List, [], Option, Some, None, refl}
use Rattle.std.specs.Coded.{Coded, code_by, coded×, coded_list, coded_option, coded_ℕ}
use Rattle.wi_parser.specs.Tree.{Tree}
use Rattle.wi_cache.specs.declared.key.Key.{Key}
use Rattle.wi_engine.specs.declared.scan.Scan.{Scan}
use Rattle.wi_engine.specs.declared.findings.Findings.{Findings}
use Rattle.wi_engine.specs.declared.frame.Frame.{Frame}
use Rattle.wi_engine.specs.declared.frame.Waiting.{Waiting}
use Rattle.wi_engine.specs.declared.frame.Waiting.TheVariants.{Nothing, Cells, WhatIf}

-- ---- a frame, whatever memory its lists have

-- the cell that is waited for, and those that are to be found together with it
abbrev pub cells_of : Waiting → Option (ℕ × List ℕ)
cells_of Nothing = None
cells_of (Cells a others) = Some (a, others.items)
cells_of (WhatIf a pairs) = None

-- what is waited for where that is no cell
abbrev pub other_than_cells : Waiting → Waiting
other_than_cells Nothing = Nothing
other_than_cells (Cells a others) = Nothing
other_than_cells (WhatIf a pairs) = WhatIf a pairs

pub record StackedFrame : Type 0 where
  pub key : Key
  pub formula : Tree
  pub found : Findings
  pub cells : Option (ℕ × List ℕ)
  pub otherwise : Waiting
  pub scans : List Scan

abbrev pub seen_as : Key → Tree → Findings → Option (ℕ × List ℕ) → Waiting → List Scan → StackedFrame
seen_as k t f c w cs = record { key = k; formula = t; found = f; cells = c; otherwise = w; scans = cs }

abbrev pub stacked : Frame → StackedFrame
stacked f = seen_as f.key f.formula.now f.found (cells_of f.waiting) (other_than_cells f.waiting) f.scans.items

-- one that waits for this cell alone, with nothing found
abbrev pub waits_for_one : Key → Tree → ℕ → StackedFrame
waits_for_one k t a = seen_as k t (record { lists = None }) (Some (a, [])) Nothing []

-- ---- all of them

-- the frames, the lowest first; for how many more there is room, and for how many of those that have more than a cell
pub record StackState : Type 0 where
  pub frames : List StackedFrame
  pub space : ℕ
  pub more_space : ℕ

abbrev pub HasSpaceForOne : StackState → Type 0
HasSpaceForOne s = (1 ≤ s.space) × (1 ≤ s.more_space)

-- ---- their codes

abbrev pub frame_code : Coded Key → Coded Tree → Coded Findings → Coded Waiting → Coded Scan → Coded StackedFrame
frame_code k t f w c =
    code_by (Key × (Tree × (Findings × (Option (ℕ × List ℕ) × (Waiting × List Scan)))))
    (coded× k (coded× t (coded× f (coded× (coded_option (coded× coded_ℕ (coded_list coded_ℕ))) (coded× w (coded_list c))))))
    (λ h. (h.key, (h.formula, (h.found, (h.cells, (h.otherwise, h.scans))))))
    (λ p. seen_as p.0 p.1.0 p.1.1.0 p.1.1.1.0 p.1.1.1.1.0 p.1.1.1.1.1) (λ _. refl)

abbrev pub stack_code : Coded StackedFrame → Coded StackState
stack_code f =
    code_by (List StackedFrame × (ℕ × ℕ)) (coded× (coded_list f) (coded× coded_ℕ coded_ℕ))
    (λ s. (s.frames, (s.space, s.more_space))) (λ p. record { frames = p.0; space = p.1.0; more_space = p.1.1 }) (λ _. refl)
