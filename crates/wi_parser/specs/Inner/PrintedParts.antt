-- The texts of parts of a formula.
use Rattle.std.specs.Prelude.{◌≡◌, ◌++◌, ℕ, List, map, Result, OnOk}
use Rattle.std.specs.Io.{StartsWith}
use Rattle.std.specs.List.{flat_map}
use Rattle.std.specs.declared.alloc.AllocError.{AllocError}
use Rattle.wi_parser.specs.declared.expr.Pair.{Pair}
use Rattle.wi_parser.specs.Inner.WhatIf.{pair_symbols}
use Rattle.wi_parser.specs.Inner.SymbolLists.{symbols_text}
use Rattle.wi_parser.specs.View.{pair_of}

-- inputs with their replacement cells, each after a separator
abbrev pub pairs_text : List Pair → List ℕ
pairs_text pairs = symbols_text (flat_map pair_symbols (map pair_of pairs))

-- A text was appended, or what was there is the front of it still where memory ran out.
pub record AppendsText (result : Result (Unit {0}) AllocError) (old new text : List ℕ) : Type 0 where
  pub ok : OnOk result (new ≡ old ++ text)
  pub kept : StartsWith new old
