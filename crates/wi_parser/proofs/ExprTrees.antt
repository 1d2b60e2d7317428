-- The tree of each kind of expression.
use Rattle.wi_parser.proofs.Words.{◌≡◌, ℕ, ◌+◌, ◌<◌, length, take, get_or, List, [], ◌∷◌, ◌++◌, map, Box, Vec, Global, Result, IfOk, ap, ap₂, sym, subst, ◌∙◌, map-append, take_more, Fraction, Corners, Expr, Expr-F, fold-roll-Expr, Operator, Pair, Reference, Sign, WhatIf, Tree, number, text, cell, rectangle, parenthesized, signed, percent, binary, what_if, call, leaves, all_leaves, cell_leaf, rectangle_leaf, what_if_leaf, layer_tree, tree_of, all_of, pair_of}
use Rattle.wi_values.specs.declared.text.Text.{Text}
use Rattle.wi_parser.specs.declared.expr.Expr.TheVariants as code

pub number_tree : (x : Fraction) → tree_of (code.Number x) ≡ number x
number_tree x = ap tree_of (sym (code.rolls-Number x)) ∙ fold-roll-Expr Tree layer_tree (Expr-F.Number x)

pub text_tree : (s : Text) → tree_of (code.Text s) ≡ text s
text_tree s = ap tree_of (sym (code.rolls-Text s)) ∙ fold-roll-Expr Tree layer_tree (Expr-F.Text s)

pub cell_tree : (r : Reference) → tree_of (code.Cell r) ≡ cell r
cell_tree r = ap tree_of (sym (code.rolls-Cell r)) ∙ fold-roll-Expr Tree layer_tree (Expr-F.Cell r)

pub rectangle_tree : (c : Corners) → tree_of (code.Rectangle c) ≡ rectangle c
rectangle_tree c = ap tree_of (sym (code.rolls-Rectangle c)) ∙ fold-roll-Expr Tree layer_tree (Expr-F.Rectangle c)

pub parenthesized_tree : (t : Box Expr Global) → tree_of (code.Parenthesized t) ≡ parenthesized (tree_of t.value)
parenthesized_tree t = ap tree_of (sym (code.rolls-Parenthesized t)) ∙ fold-roll-Expr Tree layer_tree (Expr-F.Parenthesized t)

pub signed_tree : (s : Sign) (t : Box Expr Global) → tree_of (code.Signed s t) ≡ signed s (tree_of t.value)
signed_tree s t = ap tree_of (sym (code.rolls-Signed s t)) ∙ fold-roll-Expr Tree layer_tree (Expr-F.Signed s t)

pub percent_tree : (t : Box Expr Global) → tree_of (code.Percent t) ≡ percent (tree_of t.value)
percent_tree t = ap tree_of (sym (code.rolls-Percent t)) ∙ fold-roll-Expr Tree layer_tree (Expr-F.Percent t)

pub binary_tree : (op : Operator) (t : Box (Expr × Expr) Global) → tree_of (code.Binary op t) ≡ binary op (tree_of t.value.0) (tree_of t.value.1)
binary_tree op t = ap tree_of (sym (code.rolls-Binary op t)) ∙ fold-roll-Expr Tree layer_tree (Expr-F.Binary op t)

pub what_if_tree : (t : Box WhatIf Global) → tree_of (code.WhatIf t) ≡ what_if t.value.formula_cell (map pair_of t.value.pairs.items)
what_if_tree t = ap tree_of (sym (code.rolls-WhatIf t)) ∙ fold-roll-Expr Tree layer_tree (Expr-F.WhatIf t)

pub call_tree : (t : Box (Text × Vec Expr Global) Global) → tree_of (code.Call t) ≡ call t.value.0 (all_of t.value.1.items)
call_tree t = ap tree_of (sym (code.rolls-Call t)) ∙ fold-roll-Expr Tree layer_tree (Expr-F.Call t)

-- the parts behind a box that was made of them
pub binary_made : (op : Operator) (t : Box (Expr × Expr) Global) (q : Expr × Expr) → t.value ≡ q → tree_of (code.Binary op t) ≡ binary op (tree_of q.0) (tree_of q.1)
binary_made op t q made = binary_tree op t ∙ ap (λ (p : Expr × Expr). binary op (tree_of p.0) (tree_of p.1)) made

pub what_if_made : (t : Box WhatIf Global) (w : WhatIf) → t.value ≡ w → tree_of (code.WhatIf t) ≡ what_if w.formula_cell (map pair_of w.pairs.items)
what_if_made t w made = what_if_tree t ∙ ap (λ (x : WhatIf). what_if x.formula_cell (map pair_of x.pairs.items)) made

pub call_made : (t : Box (Text × Vec Expr Global) Global) (q : Text × Vec Expr Global) → t.value ≡ q → tree_of (code.Call t) ≡ call q.0 (all_of q.1.items)
call_made t q made = call_tree t ∙ ap (λ (p : Text × Vec Expr Global). call p.0 (all_of p.1.items)) made

-- the parts, each as a call sees it
pub binary_seen : (e : Expr) (op : Operator) (t : Box (Expr × Expr) Global) (d b : Expr × Expr) → e ≡ code.Binary op t → d ≡ t.value → b ≡ t.value
    → tree_of e ≡ binary op (tree_of d.0) (tree_of b.1)
binary_seen e op t d b is left right =
    ap tree_of is ∙ binary_tree op t ∙ ap₂ (λ (p q : Expr × Expr). binary op (tree_of p.0) (tree_of q.1)) (sym left) (sym right)

pub what_if_seen : (e : Expr) (t : Box WhatIf Global) (d b : WhatIf) (ps : List Pair) → e ≡ code.WhatIf t → d ≡ t.value → b ≡ t.value → ps ≡ b.pairs.items
    → tree_of e ≡ what_if d.formula_cell (map pair_of ps)
what_if_seen e t d b ps is one other pairs =
    ap tree_of is ∙ what_if_tree t ∙ ap₂ (λ (x y : WhatIf). what_if x.formula_cell (map pair_of y.pairs.items)) (sym one) (sym other)
    ∙ ap (λ (xs : List Pair). what_if d.formula_cell (map pair_of xs)) (sym pairs)

pub call_seen : (e : Expr) (t : Box (Text × Vec Expr Global) Global) (d b : Text × Vec Expr Global) (es : List Expr) → e ≡ code.Call t → d ≡ t.value → b ≡ t.value → es ≡ b.1.items
    → tree_of e ≡ call d.0 (all_of es)
call_seen e t d b es is one other trees =
    ap tree_of is ∙ call_tree t ∙ ap₂ (λ (p q : Text × Vec Expr Global). call p.0 (all_of q.1.items)) (sym one) (sym other)
    ∙ ap (λ (xs : List Expr). call d.0 (all_of xs)) (sym trees)

-- an operator between two parts, of which each has the tree that is wanted
pub binary_of_parts : {E : Type 0} (r : Result Expr E) (op : Operator) (a b : Expr) (t u : Tree) → tree_of a ≡ t → tree_of b ≡ u
    → IfOk r (λ x. tree_of x ≡ binary op (tree_of a) (tree_of b)) → IfOk r (λ x. tree_of x ≡ binary op t u)
binary_of_parts r op a b t u left right h = subst (λ v. IfOk r (λ x. tree_of x ≡ v)) (ap₂ (binary op) left right) h

-- ---- with the parts that were copied

pub parenthesized_copied : (e : Expr) (t u : Box Expr Global) → e ≡ code.Parenthesized t → tree_of u.value ≡ tree_of t.value → tree_of (code.Parenthesized u) ≡ tree_of e
parenthesized_copied e t u is same = parenthesized_tree u ∙ ap parenthesized same ∙ sym (ap tree_of is ∙ parenthesized_tree t)

pub signed_copied : (e : Expr) (s : Sign) (t u : Box Expr Global) → e ≡ code.Signed s t → tree_of u.value ≡ tree_of t.value → tree_of (code.Signed s u) ≡ tree_of e
signed_copied e s t u is same = signed_tree s u ∙ ap (signed s) same ∙ sym (ap tree_of is ∙ signed_tree s t)

pub percent_copied : (e : Expr) (t u : Box Expr Global) → e ≡ code.Percent t → tree_of u.value ≡ tree_of t.value → tree_of (code.Percent u) ≡ tree_of e
percent_copied e t u is same = percent_tree u ∙ ap percent same ∙ sym (ap tree_of is ∙ percent_tree t)

pub binary_copied : {E : Type 0} (r : Result Expr E) (e : Expr) (op : Operator) (t : Box (Expr × Expr) Global) (d b : Expr × Expr) → e ≡ code.Binary op t → d ≡ t.value → b ≡ t.value
    → IfOk r (λ x. tree_of x ≡ binary op (tree_of d.0) (tree_of b.1)) → IfOk r (λ x. tree_of x ≡ tree_of e)
binary_copied r e op t d b is left right h = subst (λ v. IfOk r (λ x. tree_of x ≡ v)) (sym (binary_seen e op t d b is left right)) h

pub what_if_copied : {E : Type 0} (r : Result Expr E) (e : Expr) (t : Box WhatIf Global) (d b : WhatIf) (ps : List Pair)
    → e ≡ code.WhatIf t → d ≡ t.value → b ≡ t.value → ps ≡ b.pairs.items
    → IfOk r (λ x. tree_of x ≡ what_if d.formula_cell (map pair_of ps)) → IfOk r (λ x. tree_of x ≡ tree_of e)
what_if_copied r e t d b ps is one other pairs h = subst (λ v. IfOk r (λ x. tree_of x ≡ v)) (sym (what_if_seen e t d b ps is one other pairs)) h

pub call_copied : {E : Type 0} (r : Result Expr E) (e : Expr) (t : Box (Text × Vec Expr Global) Global) (d b : Text × Vec Expr Global) (es us : List Expr)
    → e ≡ code.Call t → d ≡ t.value → b ≡ t.value → es ≡ b.1.items → all_of us ≡ all_of es
    → IfOk r (λ x. tree_of x ≡ call d.0 (all_of us)) → IfOk r (λ x. tree_of x ≡ tree_of e)
call_copied r e t d b es us is one other trees same h =
    subst (λ v. IfOk r (λ x. tree_of x ≡ v)) (ap (call d.0) same ∙ sym (call_seen e t d b es is one other trees)) h

-- one more of a list that is copied
pub copied_more : (es cs new : List Expr) (e d : Expr) (i : ℕ) → i < length es → d ≡ get_or es i d → map tree_of cs ≡ map tree_of (take i es) → new ≡ cs ++ e ∷ []
    → tree_of e ≡ tree_of d → map tree_of new ≡ map tree_of (take (i + 1) es)
copied_more es cs new e d i some is before made same =
    ap (map tree_of) made ∙ map-append tree_of cs (e ∷ []) ∙ ap (λ ts. ts ++ tree_of e ∷ []) before ∙ ap (λ t. map tree_of (take i es) ++ t ∷ []) same
    ∙ sym (map-append tree_of (take i es) (d ∷ [])) ∙ ap (λ x. map tree_of (take i es ++ x ∷ [])) is ∙ ap (map tree_of) (sym (take_more es i d some))

-- ---- leaves

pub number_leaves : (e : Expr) (x : Fraction) → e ≡ code.Number x → leaves (tree_of e) ≡ []
number_leaves e x is = ap leaves (ap tree_of is ∙ number_tree x)

pub text_leaves : (e : Expr) (s : Text) → e ≡ code.Text s → leaves (tree_of e) ≡ []
text_leaves e s is = ap leaves (ap tree_of is ∙ text_tree s)

pub cell_leaves : (e : Expr) (r : Reference) → e ≡ code.Cell r → leaves (tree_of e) ≡ cell_leaf r ∷ []
cell_leaves e r is = ap leaves (ap tree_of is ∙ cell_tree r)

pub rectangle_leaves : (e : Expr) (c : Corners) → e ≡ code.Rectangle c → leaves (tree_of e) ≡ rectangle_leaf c ∷ []
rectangle_leaves e c is = ap leaves (ap tree_of is ∙ rectangle_tree c)

pub parenthesized_leaves : (e d : Expr) (t : Box Expr Global) → e ≡ code.Parenthesized t → d ≡ t.value → leaves (tree_of d) ≡ leaves (tree_of e)
parenthesized_leaves e d t is inner = ap (λ x. leaves (tree_of x)) inner ∙ sym (ap leaves (ap tree_of is ∙ parenthesized_tree t))

pub signed_leaves : (e d : Expr) (s : Sign) (t : Box Expr Global) → e ≡ code.Signed s t → d ≡ t.value → leaves (tree_of d) ≡ leaves (tree_of e)
signed_leaves e d s t is inner = ap (λ x. leaves (tree_of x)) inner ∙ sym (ap leaves (ap tree_of is ∙ signed_tree s t))

pub percent_leaves : (e d : Expr) (t : Box Expr Global) → e ≡ code.Percent t → d ≡ t.value → leaves (tree_of d) ≡ leaves (tree_of e)
percent_leaves e d t is inner = ap (λ x. leaves (tree_of x)) inner ∙ sym (ap leaves (ap tree_of is ∙ percent_tree t))

pub binary_leaves : (e : Expr) (d b : Expr × Expr) (op : Operator) (t : Box (Expr × Expr) Global) → e ≡ code.Binary op t → d ≡ t.value → b ≡ t.value
    → leaves (tree_of d.0) ++ leaves (tree_of b.1) ≡ leaves (tree_of e)
binary_leaves e d b op t is left right = sym (ap leaves (binary_seen e op t d b is left right))

pub what_if_leaves : (e : Expr) (t : Box WhatIf Global) (d b : WhatIf) (ps : List Pair) → e ≡ code.WhatIf t → d ≡ t.value → b ≡ t.value → ps ≡ b.pairs.items
    → leaves (tree_of e) ≡ what_if_leaf d.formula_cell (map pair_of ps) ∷ []
what_if_leaves e t d b ps is one other pairs = ap leaves (what_if_seen e t d b ps is one other pairs)

pub call_leaves : (e : Expr) (t : Box (Text × Vec Expr Global) Global) (d : Text × Vec Expr Global) (es : List Expr) → e ≡ code.Call t → d ≡ t.value → es ≡ d.1.items
    → all_leaves (all_of es) ≡ leaves (tree_of e)
call_leaves e t d es is one trees = sym (ap leaves (call_seen e t d d es is one one trees))
