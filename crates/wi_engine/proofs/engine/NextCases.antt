-- On which cases the value of a case rests.
use Rattle.wi_engine.proofs.Words.{◌≡◌, ◌==◌, ℕ, Bool, true, false, List, map, Option, Some, None, refl, ap, sym, ◌∙◌, subst, list_any, Vec, Value, Replacement, Pair, Tree, pair_of, Content, Constant, Formula, Sheet, content_of, put_all, has_formula, content_reads, addresses, TreeAsks, WhatIf, Key, circular, reaches_here, cell_value, Case, case_of, reaching, with_what_if, what_ifs_of, reads_here, of_formula, RestsOn, put_formula, put_reads, tree_reads, pair_path, reads_not_circular, reaching_suffices, IsIn, in_contained, contains_in, content_below, reaching_below, rests_on_read, rests_on_what_if, asked_what_if, asked_replacing, here_reads, what_if_reads, MemoState, IsMemoOf, AsksAt, case_at, content_reads_here, MayBeRead, StandsAt, IsUnvalued, IsNext}

-- ---- what is read

pub may_be_read : (s : Sheet) (m : MemoState) (c a : ℕ) → IsMemoOf s m → circular s c ≡ false → m.covers c ≡ true → content_reads (content_of s c) a ≡ true → MayBeRead s m a
may_be_read s m c a h o v r = record {
  open_cell = reads_not_circular s c a r o;
  covered = λ f. h.closed c a v r f;
}

-- the key of a cell with a formula, for which nothing is remembered
pub unvalued : (s : Sheet) (m n : MemoState) (w : List Replacement) (a : ℕ) (k : Key) → IsMemoOf s m → MayBeRead s m a → has_formula (content_of (put_all s w) a) ≡ true → n ≡ m →
    k.cell ≡ a → k.world ≡ reaching m.sheet a w → k.generation ≡ m.generation a → n.found k.cell k.world ≡ false → n.kept k.cell k.world ≡ false → IsUnvalued s m w a k
unvalued s m n w a k h r f en ec ew eg u x =
    let there : k.world ≡ reaching s a w = ew ∙ ap (λ (t : Sheet). reaching t a w) h.sheet in
    record {
      formula = f;
      cell = ec;
      world = there;
      to_find = record {
        key = record {
          formula = rw (ec, there) (ap has_formula (content_below s a w) ∙ f);
          open_cell = rw ec r.open_cell;
          covered = rw ec (r.covered (put_formula s w a f));
          own = rw (ec, there) (reaching_below s a a w (reaches_here s a));
          generation = rw ec eg;
        };
        unfound = rw en at u;
        unkept = rw en at x;
      };
    }

-- the formula in a cell under replacements stands there under those of cells that the cell reaches
pub stands_below : (s : Sheet) (m : MemoState) (w : List Replacement) (a : ℕ) (k : Key) (t : Tree) → IsMemoOf s m → k.cell ≡ a → k.world ≡ reaching m.sheet a w → content_of (put_all s w) a ≡ Some (Formula t) → StandsAt s k t
stands_below s m w a k t h ec ew e =
    let there : k.world ≡ reaching s a w = ew ∙ ap (λ (x : Sheet). reaching x a w) h.sheet in
    ap (content_of (put_all s k.world)) ec ∙ ap (λ (v : List Replacement). content_of (put_all s v) a) there ∙ content_below s a w ∙ e

-- what is remembered under the key of a cell is its value
pub known_value : (s : Sheet) (m n : MemoState) (w : List Replacement) (a : ℕ) (k : Key) (v : Value) → IsMemoOf s m → n ≡ m → k.cell ≡ a → k.world ≡ reaching m.sheet a w →
    Some v ≡ n.known k.cell k.world → v ≡ cell_value (put_all s w) a
known_value s m n w a k v h en ec ew e =
    let there : k.world ≡ reaching s a w = ew ∙ ap (λ (t : Sheet). reaching t a w) h.sheet in
    let stands : m.known a (reaching s a w) ≡ Some v = rw (en, ec, there) at (sym e) in
    rw stands at (h.right a (reaching s a w)) ∙ reaching_suffices s w a

-- ---- what is asked for

-- a what-if as a want names it
abbrev pub named : ℕ → Vec Pair → ℕ × List (ℕ × ℕ)
named f pairs = (f, map addresses (map pair_of pairs.items))

-- a what-if that is asked for is one of the tree's
pub asked_in : (t : Tree) (f : ℕ) (pairs : Vec Pair) → TreeAsks t (WhatIf f pairs) → IsIn (what_ifs_of t) (named f pairs)
asked_in t f pairs h = in_contained (what_ifs_of t) (named f pairs) (asked_what_if t f pairs h)

-- ---- the cases on which a case rests

-- a formula's tree, and what is so of it
pub tree_with : (o : Option Content) (P : Tree → Bool) → of_formula o false P ≡ true → (t : Tree) × (o ≡ Some (Formula t)) × (P t ≡ true)
tree_with None P h = cc
tree_with (Some (Constant v)) P h = cc
tree_with (Some (Formula t)) P h = (t, refl, h)

-- a cell that is read as the sheet stands
pub rests_cell : (s : Sheet) (k : Case) (a : ℕ) → content_reads_here (content_of (put_all s k.1) k.0) a ≡ true → has_formula (content_of (put_all s (reaching s a k.1)) a) ≡ true → RestsOn s k (case_of s k.1 a)
rests_cell s k a h f =
    let t = tree_with (content_of (put_all s k.1) k.0) (λ t. reads_here t a) h in
    rests_on_read s k t.0 a t.1 t.2 f

-- the formula cell of a what-if, under its replacements
pub rests_what_if : (s : Sheet) (k : Case) (f : ℕ) (pairs : Vec Pair) (w : List Replacement) → AsksAt s k.1 k.0 (WhatIf f pairs) → w ≡ with_what_if s k.1 (named f pairs).1 →
    has_formula (content_of (put_all s (reaching s f w)) f) ≡ true → RestsOn s k (case_of s w f)
rests_what_if s k f pairs w h e g =
    let there = subst (λ (v : List Replacement). has_formula (content_of (put_all s (reaching s f v)) f) ≡ true) e g in
    subst (λ (v : List Replacement). RestsOn s k (case_of s v f)) (sym e)
    (rests_on_what_if s k h.tree (named f pairs) h.is (asked_what_if h.tree f pairs h.asks) there)

-- a replacement cell of a what-if that is asked for
pub replacing_reads : (s : Sheet) (k : Case) (f : ℕ) (pairs : Vec Pair) (a : ℕ) → AsksAt s k.1 k.0 (WhatIf f pairs) → list_any (λ p. p.1.at == a) (map pair_of pairs.items) ≡ true → content_reads_here (content_of (put_all s k.1) k.0) a ≡ true
replacing_reads s k f pairs a h l = ap (λ (o : Option Content). content_reads_here o a) h.is ∙ asked_replacing h.tree f pairs a h.asks l

-- ---- ranks fall, and nothing on which a cell rests is circular

pub here_in_sheet : (s : Sheet) (k : Case) (a : ℕ) → content_reads_here (content_of (put_all s k.1) k.0) a ≡ true → content_reads (content_of s k.0) a ≡ true
here_in_sheet s k a h =
    let t = tree_with (content_of (put_all s k.1) k.0) (λ t. reads_here t a) h in
    put_reads s k.1 k.0 a (tree_reads (put_all s k.1) k.0 t.0 a t.1 (here_reads t.0 a t.2))

pub what_if_in_sheet : (s : Sheet) (k : Case) (f : ℕ) (pairs : Vec Pair) → AsksAt s k.1 k.0 (WhatIf f pairs) → content_reads (content_of s k.0) f ≡ true
what_if_in_sheet s k f pairs h =
    put_reads s k.1 k.0 f (tree_reads (put_all s k.1) k.0 h.tree f h.is (what_if_reads h.tree (named f pairs) (contains_in (what_ifs_of h.tree) (named f pairs) (asked_in h.tree f pairs h.asks))))

-- ---- the next key

-- the case of a cell whose formula has to be valued
pub unvalued_case : (s : Sheet) (m : MemoState) (w : List Replacement) (a : ℕ) (k : Key) → IsUnvalued s m w a k → case_of s w a ≡ case_at k
unvalued_case s m w a k u = sym (pair_path k.cell a k.world (reaching s a w) u.cell u.world)

next_key : (s : Sheet) (m : MemoState) (below k : Key) (w : List Replacement) (a : ℕ) → IsUnvalued s m w a k → RestsOn s (case_at below) (case_of s w a) → IsNext s m below k
next_key s m below k w a u r = record {
  rests = subst (λ (j : Case). RestsOn s (case_at below) j) (unvalued_case s m w a k u) r;
  to_find = u.to_find;
}

formula_there : (s : Sheet) (m : MemoState) (w : List Replacement) (a : ℕ) (k : Key) → IsUnvalued s m w a k → has_formula (content_of (put_all s (reaching s a w)) a) ≡ true
formula_there s m w a k u = ap (λ (j : Case). has_formula (content_of (put_all s j.1) j.0)) (unvalued_case s m w a k u) ∙ u.to_find.key.formula

-- the key of a cell that is read as the sheet stands
pub next_cell : (s : Sheet) (m : MemoState) (below k : Key) (a : ℕ) → IsUnvalued s m below.world a k → content_reads_here (content_of (put_all s below.world) below.cell) a ≡ true → IsNext s m below k
next_cell s m below k a u h = next_key s m below k below.world a u (rests_cell s (case_at below) a h (formula_there s m below.world a k u))

-- the key of a what-if's formula cell
pub next_what_if : (s : Sheet) (m : MemoState) (below k : Key) (f : ℕ) (pairs : Vec Pair) (w : List Replacement) → IsUnvalued s m w f k → AsksAt s below.world below.cell (WhatIf f pairs) →
    w ≡ with_what_if s below.world (named f pairs).1 → IsNext s m below k
next_what_if s m below k f pairs w u h e = next_key s m below k w f u (rests_what_if s (case_at below) f pairs w h e (formula_there s m w f k u))
