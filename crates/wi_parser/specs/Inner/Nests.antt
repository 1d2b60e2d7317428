-- A function value that reads an expression to a depth.
use Rattle.std.specs.Prelude.{◌<◌, ℕ, List, length, Result, OnOk}
use Rattle.std.specs.declared.alloc.Global.{Global}
use denote.Ref.{MutBor}
use Rattle.wi_parser.specs.declared.expr.Expr.{Expr}
use Rattle.wi_parser.specs.declared.fault.ParseFault.{ParseFault}
use Rattle.wi_parser.specs.Symbol.{Symbol}
use Rattle.wi_parser.specs.Inner.Reader.{expression}
use Rattle.wi_parser.specs.Inner.Outcome.{Finds}

pub record Nests (depth : ℕ) (pre : Global → MutBor (List Symbol) → ℕ → Type 0)
    (post : Global → MutBor (List Symbol) → ℕ → Result Expr ParseFault → MutBor (List Symbol) → Type 0) : Type 0 where
  -- it may be called
  pub callable : (alloc : Global) (old : MutBor (List Symbol)) → pre alloc old depth
  -- it finds what the definition does
  pub reads : (alloc : Global) (old new : MutBor (List Symbol)) (r : Result Expr ParseFault) → post alloc old depth r new
      → Finds (expression depth old.now) r new.now
  -- it leaves fewer symbols
  pub shorter : (alloc : Global) (old new : MutBor (List Symbol)) (r : Result Expr ParseFault) → post alloc old depth r new
      → OnOk r (length new.now < length old.now)
