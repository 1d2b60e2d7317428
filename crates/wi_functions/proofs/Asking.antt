-- What asks, and what has it as a part.
use Rattle.wi_functions.proofs.Words.{◌≡◌, ◌++◌, ℕ, zero, suc, true, List, [], ◌∷◌, Option, Any, Contains, Result, Ok, Err, sym, ◌∙◌, subst, arith, Contains-append_left, Contains-append_right, Any-push, Value, Corners, Operator, Tree, Trees, cell, rectangle, binary, Leaf, rectangle_leaf, leaves, all_leaves, is_within, corners_may_turn, area_of, IsMissing, IfMissing, Stop, Missing, Memory, Cell, WhatIf, Want, WantsCell, WantsWithin, LeafAsks, AnyLeafAsks, TreeAsks, ByAll, IsWanted, ReferInside, Part, Evaluates, stopped, ap, MatchResult, mapped}
use Rattle.wi_arguments.specs.declared.argument.Argument as given

any_in : {X : Type 0} (P : X → Type 0) (xs : List X) (x : X) → Contains xs x → P x → Any P xs
any_in P xs x c h = (c.0, x, c.1, c.2, h)

pub any_left : {X : Type 0} (P : X → Type 0) (xs ys : List X) → Any P xs → Any P (xs ++ ys)
any_left P xs ys a = any_in P (xs ++ ys) a.1 (Contains-append_left xs ys a.1 (a.0, a.2, a.3)) a.4

pub any_right : {X : Type 0} (P : X → Type 0) (xs ys : List X) → Any P ys → Any P (xs ++ ys)
any_right P xs ys a = any_in P (xs ++ ys) a.1 (Contains-append_right xs ys a.1 (a.0, a.2, a.3)) a.4

-- what a leaf asks for, a tree asks for that is only that leaf
pub leaf_asks : (l : Leaf) (w : Want) → LeafAsks l w → Any (λ k. LeafAsks k w) (l ∷ [])
leaf_asks l w h = Any-push (λ k. LeafAsks k w) [] l h

-- what a corner asks for, its rectangle asks for
pub corner_asks : (c : Corners) (w : Want) → TreeAsks (cell c.one) w → TreeAsks (rectangle c) w
corner_asks c w a = leaf_asks (rectangle_leaf c) w (within w (alone a))
  where
    alone : TreeAsks (cell c.one) w → WantsCell w c.one.at
    alone (zero, l, i, same, asks) = subst (λ k. LeafAsks k w) (sym same) asks
    alone (suc k, l, i, same, asks) = absurd (omega (arith, i))

    within : (x : Want) → WantsCell x c.one.at → WantsWithin x (area_of c)
    within (Cell a) e = subst (λ (b : ℕ). is_within (area_of c) b ≡ true) (sym e) (corners_may_turn c.one.at c.other.at).1
    within (WhatIf f pairs) e = e

-- what an operand asks for, the operator asks for
pub left_asks : (op : Operator) (t u : Tree) (w : Want) → TreeAsks t w → TreeAsks (binary op t u) w
left_asks op t u w a = any_left (λ l. LeafAsks l w) (leaves t) (leaves u) a

pub right_asks : (op : Operator) (t u : Tree) (w : Want) → TreeAsks u w → TreeAsks (binary op t u) w
right_asks op t u w a = any_right (λ l. LeafAsks l w) (leaves t) (leaves u) a

-- ---- how an evaluation stops

-- where memory runs out it stops at nothing that it asks for
pub memory_wants : (P : Want → Type 0) (s : Stop Want) → s ≡ Memory → IfMissing s P
memory_wants P s h = subst (λ (x : Stop Want). IfMissing x P) (sym h) tt

module _ {K : Type 0} (known_cell : K → ℕ → Option Value) (known_what_if : K → ℕ → List (ℕ × ℕ) → Option Value) (known : K) where
  -- what is wanted where some leaves ask for it is wanted where others ask for it too
  pub wanted_too : (ls ms : List Leaf) → ((w : Want) → AnyLeafAsks ls w → AnyLeafAsks ms w) → (s : Stop Want) →
      IfMissing s (IsWanted known_cell known_what_if known ls) → IfMissing s (IsWanted known_cell known_what_if known ms)
  wanted_too ls ms f (Missing w) h = record { asked = f w h.asked; unknown = h.unknown }
  wanted_too ls ms f Memory h = tt

  -- what is given for a part is given for another that means the same and asks for as much
  pub evaluates_too : (p q : Part Value) (r : Result Value (Stop Want)) → ByAll known_cell known_what_if known (λ a. p.means a ≡ q.means a) →
      ((w : Want) → AnyLeafAsks p.asking w → AnyLeafAsks q.asking w) → Evaluates known_cell known_what_if known r p → Evaluates known_cell known_what_if known r q
  evaluates_too p q (Ok v) same asks h = λ a agrees. h a agrees ∙ same a agrees
  evaluates_too p q (Err s) same asks h = wanted_too p.asking q.asking asks s h

  -- what is made of the value that a part means is given for what is made of the part
  pub made_of : (f : Value → Value) (y : Value) (p : Part Value) (r : Result Value (Stop Want)) → ByAll known_cell known_what_if known (λ a. y ≡ p.means a) → MatchResult r (λ v. v ≡ f y) (λ s. s ≡ Memory) →
      Evaluates known_cell known_what_if known r (mapped f p)
  made_of f y p (Ok v) same h = λ a agrees. h ∙ ap f (same a agrees)
  made_of f y p (Err s) same h = memory_wants _ s h

  -- a function wants a cell that isn't known, and to which one of its arguments refers
  pub stop_wants : (s : Stop ℕ) (args : List given.Argument) (ts : Trees) → IfMissing s (IsMissing (known_cell known) args) → ReferInside args ts →
      IfMissing (stopped s) (IsWanted known_cell known_what_if known (all_leaves ts))
  stop_wants (Missing c) args ts m r = record { asked = r c m.1; unknown = m.0 }
  stop_wants Memory args ts m r = tt
