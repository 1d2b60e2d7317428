-- The cells that each evaluation asks for, as they are listed.
use Rattle.wi_engine.proofs.Words.{◌≡◌, ◌==◌, ◌<◌, ℕ, zero, suc, Bool, true, false, ◌||◌, List, [], ◌∷◌, ◌++◌, inl, inr, ◌⊎◌, refl, ap, sym, ◌∙◌, subst, arith, true≢false, eq-eqb, or_left, or_right, or_cases, and_parts, length, slice_get, Some, list_any-append, Sheet, content_of, put_all, has_formula, put_formula, Tree, TreeAsks, Cell, asked_cell, is_one_of, same_cell, lacks_cell, reads_here, Frame}
use Rattle.std.proofs.Common.{slice_index_or}
use Rattle.wi_parser.specs.declared.expr.Expr.{Expr}
use Rattle.wi_parser.specs.View.{tree_of, all_of}
use Rattle.wi_parser.specs.Tree.{Trees, number, text, cell, rectangle, parenthesized, percent, signed, binary, what_if, call, no_trees, more_trees}
use Rattle.wi_parser.specs.Leaves.{cell_leaf, leaves, all_leaves}
use Rattle.wi_value_functions.specs.declared.function.Function.TheVariants.{Lazy, References, Values}
use Rattle.wi_value_functions.specs.declared.function.FoldFunction.{FoldFunction}
use Rattle.wi_value_functions.specs.declared.function.LazyFunction.{LazyFunction}
use Rattle.wi_value_functions.specs.declared.function.ReferenceFunction.TheVariants.{Fold}
use Rattle.wi_value_functions.specs.declared.function.ValueFunction.{ValueFunction}
use Rattle.wi_functions.specs.Wants.{AnyTreeAsks, LeafAsks}
use Rattle.wi_functions.proofs.Asking.{any_left, any_right, leaf_asks, left_asks, right_asks}
use Rattle.wi_engine.specs.Inner.Sure.{IsSure, IsOneSure, FirstIsSure, IsCallOf, IsListedWith, AreSure}

module _ (s : Sheet) (f : Frame) where
  -- what is so of the cells that were added is so in a wider sense
  pub listed_wider : (P Q : ℕ → Type 0) (old new : List ℕ) → ((d : ℕ) → P d → Q d) → IsListedWith s f P old new → IsListedWith s f Q old new
  listed_wider P Q old new wider h d m = by (h d m)
    where
      by : (is_one_of old d ≡ true) ⊎ (P d × (lacks_cell s f.key.world f.found d ≡ true)) → (is_one_of old d ≡ true) ⊎ (Q d × (lacks_cell s f.key.world f.found d ≡ true))
      by (inl k) = inl k
      by (inr k) = inr (wider d k.0, k.1)

  -- one addition after another
  pub listed_then : (P : ℕ → Type 0) (old mid new : List ℕ) → IsListedWith s f P old mid → IsListedWith s f P mid new → IsListedWith s f P old new
  listed_then P old mid new first then d m = by (then d m)
    where
      by : (is_one_of mid d ≡ true) ⊎ (P d × (lacks_cell s f.key.world f.found d ≡ true)) → (is_one_of old d ≡ true) ⊎ (P d × (lacks_cell s f.key.world f.found d ≡ true))
      by (inl k) = first d k
      by (inr k) = inr k

  -- the cells of a call, by what its function evaluates
  pub of_values : (name : List ℕ) (ts : Trees) (g : ValueFunction) (old new : List ℕ) → IsCallOf name ts (Values g) → IsListedWith s f (IsOneSure ts) old new → IsListedWith s f (IsSure (call name ts)) old new
  of_values name ts g old new is h = listed_wider (IsOneSure ts) (IsSure (call name ts)) old new (λ d k. inl (g, is, k)) h

  pub of_lazy : (name : List ℕ) (ts : Trees) (g : LazyFunction) (old new : List ℕ) → IsCallOf name ts (Lazy g) → IsListedWith s f (FirstIsSure ts) old new → IsListedWith s f (IsSure (call name ts)) old new
  of_lazy name ts g old new is h = listed_wider (FirstIsSure ts) (IsSure (call name ts)) old new (λ d k. inr (inl (g, is, k))) h

  pub of_folds : (name : List ℕ) (ts : Trees) (g : FoldFunction) (old new : List ℕ) → IsCallOf name ts (References (Fold g)) → IsListedWith s f (IsOneSure ts) old new → IsListedWith s f (IsSure (call name ts)) old new
  of_folds name ts g old new is h = listed_wider (IsOneSure ts) (IsSure (call name ts)) old new (λ d k. inr (inr (g, is, k))) h

-- what each evaluation of an expression asks for, each of a list with it asks for
pub sure_there : (es : List Expr) (k : ℕ) (e : Expr) (d : ℕ) → k < length es → e ≡ slice_index_or es k e → IsSure (tree_of e) d → IsOneSure (all_of es) d
sure_there [] k e d l h a = absurd (omega (arith, l))
sure_there (x ∷ es) zero e d l h a = inl (subst (λ (y : Expr). IsSure (tree_of y) d) h a)
sure_there (x ∷ es) (suc k) e d l h a = inr (sure_there es k e d (omega (arith, l)) h a)

-- and of the first of them too
pub first_sure : (es : List Expr) (e : Expr) (d : ℕ) → Some e ≡ slice_get es 0 → IsSure (tree_of e) d → FirstIsSure (all_of es) d
first_sure [] e d h a = absurd (let z = h in cc)
first_sure (x ∷ es) e d h a = let same : e ≡ x = cc in subst (λ (y : Expr). IsSure (tree_of y) d) same a

-- ---- what is sure is read

mutual
  sure_asks : (t : Tree) (a : ℕ) → IsSure t a → TreeAsks t (Cell a)
  sure_asks (number x) a h = absurd h
  sure_asks (text x) a h = absurd h
  sure_asks (cell r) a h = leaf_asks (cell_leaf r) (Cell a) (sym h)
  sure_asks (rectangle c) a h = absurd h
  sure_asks (parenthesized t) a h = sure_asks t a h
  sure_asks (percent t) a h = sure_asks t a h
  sure_asks (signed s t) a h = sure_asks t a h
  sure_asks (binary op t u) a (inl h) = left_asks op t u (Cell a) (sure_asks t a h)
  sure_asks (binary op t u) a (inr h) = right_asks op t u (Cell a) (sure_asks u a h)
  sure_asks (what_if f pairs) a h = absurd h
  sure_asks (call name ts) a (inl h) = one_asks ts a h.2
  sure_asks (call name ts) a (inr (inl h)) = first_asks ts a h.2
  sure_asks (call name ts) a (inr (inr h)) = one_asks ts a h.2

  one_asks : (ts : Trees) (a : ℕ) → IsOneSure ts a → AnyTreeAsks ts (Cell a)
  one_asks no_trees a h = absurd h
  one_asks (more_trees t ts) a (inl h) = any_left (λ l. LeafAsks l (Cell a)) (leaves t) (all_leaves ts) (sure_asks t a h)
  one_asks (more_trees t ts) a (inr h) = any_right (λ l. LeafAsks l (Cell a)) (leaves t) (all_leaves ts) (one_asks ts a h)

  first_asks : (ts : Trees) (a : ℕ) → FirstIsSure ts a → AnyTreeAsks ts (Cell a)
  first_asks no_trees a h = absurd h
  first_asks (more_trees t ts) a h = any_left (λ l. LeafAsks l (Cell a)) (leaves t) (all_leaves ts) (sure_asks t a h)

-- each of the cells has a formula, and is read here
pub sure_are_read : (s : Sheet) (f : Frame) (t : Tree) (a : ℕ) (xs : List ℕ) → AreSure s f t a xs → reads_here t a ≡ true → has_formula (content_of s a) ≡ true → (d : ℕ) → is_one_of xs d ≡ true →
    (reads_here t d ≡ true) × (has_formula (content_of s d) ≡ true)
sure_are_read s f t a xs h read formula d m = by (h.others d m)
  where
    by : (a ≡ d) ⊎ (IsSure t d × (lacks_cell s f.key.world f.found d ≡ true)) → (reads_here t d ≡ true) × (has_formula (content_of s d) ≡ true)
    by (inl same) = (ap (reads_here t) (sym same) ∙ read, ap (λ (c : ℕ). has_formula (content_of s c)) (sym same) ∙ formula)
    by (inr k) = (asked_cell t d (sure_asks t d k.0), put_formula s f.key.world d (and_parts (has_formula (content_of (put_all s f.key.world) d)) _ k.1).0)

-- those that are listed, and the cell behind them
pub all_sure : (s : Sheet) (f : Frame) (t : Tree) (a : ℕ) (none listed cells : List ℕ) → none ≡ [] → IsListedWith s f (IsSure t) none listed → cells ≡ listed ++ a ∷ [] → AreSure s f t a cells
all_sure s f t a none listed cells e h i = record { wanted = split a ∙ or_right (is_one_of listed a) _ (or_left (a == a) false (eq-eqb a a refl)); others = λ d m. by d (or_cases (is_one_of listed d) _ (sym (split d) ∙ m)) }
  where
    split : (d : ℕ) → is_one_of cells d ≡ (is_one_of listed d || is_one_of (a ∷ []) d)
    split d = ap (λ (xs : List ℕ). is_one_of xs d) i ∙ list_any-append (λ (x : ℕ). x == d) listed (a ∷ [])

    last : (d : ℕ) (b : Bool) → (a == d) ≡ b → (b || false) ≡ true → a ≡ d
    last d true same l = same_cell d a same
    last d false same l = absurd (true≢false (sym l))

    new : (d : ℕ) → (is_one_of none d ≡ true) ⊎ (IsSure t d × (lacks_cell s f.key.world f.found d ≡ true)) → (a ≡ d) ⊎ (IsSure t d × (lacks_cell s f.key.world f.found d ≡ true))
    new d (inl k) = absurd (true≢false (sym k ∙ ap (λ (xs : List ℕ). is_one_of xs d) e))
    new d (inr k) = inr k

    by : (d : ℕ) → (is_one_of listed d ≡ true) ⊎ (is_one_of (a ∷ []) d ≡ true) → (a ≡ d) ⊎ (IsSure t d × (lacks_cell s f.key.world f.found d ≡ true))
    by d (inl m) = new d (h d m)
    by d (inr m) = inl (last d (a == d) refl m)
