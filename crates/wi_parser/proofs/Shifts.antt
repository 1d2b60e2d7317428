-- Trees whose references move.
use Rattle.wi_parser.proofs.Words.{◌≡◌, ℕ, ◌*◌, ◌<◌, pos, ◌+ℤ◌, Bool, true, false, ◌&&◌, nat_lt, if◌then◌else◌, List, [], ◌∷◌, ◌++◌, map, Option, Some, None, option_map, ℤ, is_some, unwrap_or, Result, IfOk, Box, Vec, Global, refl, ap, ap₂, sym, subst, ◌∙◌, arith, list_all, flat_map, and_parts, and_from, and-true, and_assoc, map-append, list_all-append, flat_map-append, nat_tests, ints, columns, rows, place, row_of, column_of, Fraction, Corners, Expr, Operator, Pair, Reference, Sign, WhatIf, tree_of, all_of, pair_of, Tree, Trees, number, text, cell, rectangle, parenthesized, signed, percent, binary, what_if, call, no_trees, more_trees, trees_of, Leaf, what_if_leaf, leaves, all_leaves, Symbol, Spells, SpellsAll, SpellsMore, a_number, a_text, a_cell, a_rectangle, in_parentheses, one_input, two_inputs, a_call, with_sign, with_percent, tighter, joined, no_parameter, parameters, last_parameter, another_parameter, spelling, spelling_of_all, spelling_of_more, within, part, row_moved, column_moved, mapped_pairs, mapped_tree, mapped_trees, shifted_reference, stays, moved, in_sheet, leaf_references, all_references, map_references, map_references_in, shifted}
use Rattle.wi_fraction.specs.Arithmetic.{◌>>=◌}
use Rattle.std.proofs.lemmas.List.{append-nil}
use Rattle.wi_values.specs.declared.text.Text.{Text}
use Rattle.wi_parser.specs.declared.expr.Expr.TheVariants as code
use Rattle.wi_parser.proofs.ExprTrees.{number_tree, text_tree, cell_tree, rectangle_tree, parenthesized_tree, signed_tree, percent_tree, binary_seen, what_if_made, what_if_seen, call_seen, number_leaves, text_leaves, cell_leaves, rectangle_leaves}

mutual
  -- a tree with other references is spelled where the tree is
  pub still_spelled : (f : Reference → Reference) {k : ℕ} {t : Tree} {ts : List Symbol} → Spells k t ts → Spells k (map_references f t) (spelling (map_references f t))
  still_spelled f (a_number x) = a_number x
  still_spelled f (a_text s) = a_text s
  still_spelled f (a_cell r) = a_cell (f r)
  still_spelled f (a_rectangle c) = a_rectangle (record { one = f c.one; other = f c.other })
  still_spelled f (in_parentheses t ts s) = in_parentheses (map_references f t) (spelling (map_references f t)) (still_spelled f s)
  still_spelled f (one_input r p) = one_input (f r) (f p.0, f p.1)
  still_spelled f (two_inputs r p q) = two_inputs (f r) (f p.0, f p.1) (f q.0, f q.1)
  still_spelled f (a_call g all ts s) = a_call g (map_references_in f all) (spelling_of_all (map_references_in f all)) (all_still_spelled f s)
  still_spelled f (with_sign s t ts u) = with_sign s (map_references f t) (spelling (map_references f t)) (still_spelled f u)
  still_spelled f (with_percent t ts s) = with_percent (map_references f t) (spelling (map_references f t)) (still_spelled f s)
  still_spelled f (tighter k t ts s) = tighter k (map_references f t) (spelling (map_references f t)) (still_spelled f s)
  still_spelled f (joined k op l r ls rs e s u) =
      joined k op (map_references f l) (map_references f r) (spelling (map_references f l)) (spelling (map_references f r)) e (still_spelled f s) (still_spelled f u)

  all_still_spelled : (f : Reference → Reference) {all : Trees} {ts : List Symbol} → SpellsAll all ts → SpellsAll (map_references_in f all) (spelling_of_all (map_references_in f all))
  all_still_spelled f no_parameter = no_parameter
  all_still_spelled f (parameters t all ts us s u) =
      parameters (map_references f t) (map_references_in f all) (spelling (map_references f t)) (spelling_of_more (map_references_in f all)) (still_spelled f s) (more_still_spelled f u)

  more_still_spelled : (f : Reference → Reference) {all : Trees} {ts : List Symbol} → SpellsMore all ts → SpellsMore (map_references_in f all) (spelling_of_more (map_references_in f all))
  more_still_spelled f last_parameter = last_parameter
  more_still_spelled f (another_parameter t all ts us s u) =
      another_parameter (map_references f t) (map_references_in f all) (spelling (map_references f t)) (spelling_of_more (map_references_in f all)) (still_spelled f s) (more_still_spelled f u)

-- the trees of a list, each with other references
pub mapped : (f : Reference → Reference) (ts : List Tree) → map_references_in f (trees_of ts) ≡ trees_of (map (map_references f) ts)
mapped f [] = refl
mapped f (t ∷ ts) = ap (more_trees (map_references f t)) (mapped f ts)

-- ---- whether all references of leaves are such

-- those of some leaves and of others
pub both_pass : (p : Reference → Bool) (ls ks : List Leaf) →
    (list_all p (flat_map leaf_references ls) && list_all p (flat_map leaf_references ks)) ≡ list_all p (flat_map leaf_references (ls ++ ks))
both_pass p ls ks = sym (ap (list_all p) (flat_map-append leaf_references ls ks) ∙ list_all-append p (flat_map leaf_references ls) (flat_map leaf_references ks))

-- both references of each pair, or each of all of them
pub pairs_pass : (p : Reference → Bool) (xs : List (Reference × Reference)) → list_all (λ q. p q.0 && p q.1) xs ≡ list_all p (flat_map (λ q. q.0 ∷ q.1 ∷ []) xs)
pairs_pass p [] = refl
pairs_pass p (x ∷ xs) = ap (λ b. (p x.0 && p x.1) && b) (pairs_pass p xs) ∙ and_assoc (p x.0) (p x.1) _

-- ---- shifts by nothing

-- where each reference that passes one test passes another, so it is with all of a list
all_pass : (p q : Reference → Bool) → ((r : Reference) → p r ≡ true → q r ≡ true) → (rs : List Reference) → list_all p rs ≡ true → list_all q rs ≡ true
all_pass p q h [] e = refl
all_pass p q h (r ∷ rs) e =
    let a = and_parts (p r) _ e in
    and_from (q r) _ (h r a.0) (all_pass p q h rs a.1)

-- where each reference that passes a test is kept, so are pairs of them and a tree
pairs_kept : (p : Reference → Bool) (f : Reference → Reference) → ((r : Reference) → p r ≡ true → f r ≡ r)
    → (xs : List (Reference × Reference)) → list_all p (flat_map (λ x. x.0 ∷ x.1 ∷ []) xs) ≡ true → map (λ x. (f x.0, f x.1)) xs ≡ xs
pairs_kept p f h [] e = refl
pairs_kept p f h (x ∷ xs) e =
    let a = and_parts (p x.0) _ e in
    let b = and_parts (p x.1) _ a.1 in
    ap₂ (λ (y : Reference × Reference) ys. y ∷ ys) (ap₂ (λ (r s : Reference). (r, s)) (h x.0 a.0) (h x.1 b.0)) (pairs_kept p f h xs b.1)

mutual
  tree_kept : (p : Reference → Bool) (f : Reference → Reference) → ((r : Reference) → p r ≡ true → f r ≡ r)
      → (t : Tree) → all_references p t ≡ true → map_references f t ≡ t
  tree_kept p f h (number x) e = refl
  tree_kept p f h (text s) e = refl
  tree_kept p f h (cell r) e = ap cell (h r (and_parts (p r) _ e).0)
  tree_kept p f h (rectangle c) e =
      let a = and_parts (p c.one) _ e in
      ap₂ (λ r s. rectangle (record { one = r; other = s })) (h c.one a.0) (h c.other (and_parts (p c.other) _ a.1).0)
  tree_kept p f h (parenthesized t) e = ap parenthesized (tree_kept p f h t e)
  tree_kept p f h (signed s t) e = ap (signed s) (tree_kept p f h t e)
  tree_kept p f h (percent t) e = ap percent (tree_kept p f h t e)
  tree_kept p f h (binary op t u) e =
      let a = and_parts _ _ (both_pass p (leaves t) (leaves u) ∙ e) in
      ap₂ (binary op) (tree_kept p f h t a.0) (tree_kept p f h u a.1)
  tree_kept p f h (what_if r xs) e =
      let a = and_parts (p r) _ e in
      ap₂ what_if (h r a.0) (pairs_kept p f h xs (ap (list_all p) (sym (append-nil (flat_map (λ x. x.0 ∷ x.1 ∷ []) xs))) ∙ a.1))
  tree_kept p f h (call g ts) e = ap (call g) (trees_kept p f h ts e)

  trees_kept : (p : Reference → Bool) (f : Reference → Reference) → ((r : Reference) → p r ≡ true → f r ≡ r)
      → (ts : Trees) → list_all p (flat_map leaf_references (all_leaves ts)) ≡ true → map_references_in f ts ≡ ts
  trees_kept p f h no_trees e = refl
  trees_kept p f h (more_trees t ts) e =
      let a = and_parts _ _ (both_pass p (leaves t) (all_leaves ts) ∙ e) in
      ap₂ more_trees (tree_kept p f h t a.0) (trees_kept p f h ts a.1)

part_kept : (b : Bool) (size k : ℕ) → k < size → part b size (pos 0) k ≡ Some k
part_kept true size k h = refl
part_kept false size k h =
    let here : pos k +ℤ pos 0 ≡ pos k = omega (arith, ints) in
    let inside : nat_lt k size ≡ true = grind (arith, nat_tests) in
    ap (within size) here ∙ ap (λ b. if b then Some k else None) inside

reference_kept : (r : Reference) → in_sheet r ≡ true → (stays (pos 0) (pos 0) r ≡ true) × (moved (pos 0) (pos 0) r ≡ r)
unfolding stays moved
reference_kept r e =
    let inside : r.at < rows * columns = grind (arith, nat_tests) in
    let row = part_kept r.row_is_absolute rows (row_of r.at) (omega arith) in
    let column = part_kept r.column_is_absolute columns (column_of r.at) (omega arith) in
    let same : place (row_of r.at) (column_of r.at) ≡ r.at = omega arith in (
      ap₂ (λ i j. is_some i && is_some j) row column,
      ap (λ a. record r { at = a }) (ap₂ (λ i j. place (unwrap_or i 0) (unwrap_or j 0)) row column ∙ same),
    )

-- ---- a tree that is mapped where each reference is

-- what is made of two that may be nothing
abbrev both : {A B C : Type 0} → (A → B → C) → Option A → Option B → Option C
both h o q = o >>= (λ x. q >>= (λ y. Some (h x y)))

both_if : {A B C : Type 0} (h : A → B → C) (x : A) (y : B) (a b : Bool) → both h (if a then Some x else None) (if b then Some y else None) ≡ (if a && b then Some (h x y) else None)
both_if h x y true true = refl
both_if h x y true false = refl
both_if h x y false b = refl

one_if : {A B : Type 0} (h : A → B) (x : A) (a : Bool) → option_map h (if a then Some x else None) ≡ (if a then Some (h x) else None)
one_if h x true = refl
one_if h x false = refl

module _ (f : Reference → Option Reference) (p : Reference → Bool) (g : Reference → Reference) (is : (r : Reference) → f r ≡ (if p r then Some (g r) else None)) where
  pair_and_others : (x : Reference × Reference) (xs ys : List (Reference × Reference)) (a b c : Bool) → f x.0 ≡ (if a then Some (g x.0) else None) → f x.1 ≡ (if b then Some (g x.1) else None)
      → mapped_pairs f xs ≡ (if c then Some ys else None) → mapped_pairs f (x ∷ xs) ≡ (if a && (b && c) then Some ((g x.0, g x.1) ∷ ys) else None)
  pair_and_others x xs ys true true true d e h = rw (d, e, h) refl
  pair_and_others x xs ys true true false d e h = rw (d, e, h) refl
  pair_and_others x xs ys true false c d e h = rw (d, e) refl
  pair_and_others x xs ys false b c d e h = rw d refl

  pairs_are : (xs : List (Reference × Reference)) → mapped_pairs f xs ≡ (if list_all p (flat_map (λ q. q.0 ∷ q.1 ∷ []) xs) then Some (map (λ q. (g q.0, g q.1)) xs) else None)
  pairs_are [] = refl
  pairs_are (x ∷ xs) = pair_and_others x xs (map (λ q. (g q.0, g q.1)) xs) (p x.0) (p x.1) (list_all p (flat_map (λ q. q.0 ∷ q.1 ∷ []) xs)) (is x.0) (is x.1) (pairs_are xs)

  mutual
    tree_is : (t : Tree) → mapped_tree f t ≡ (if all_references p t then Some (map_references g t) else None)
    tree_is (number x) = refl
    tree_is (text s) = refl
    tree_is (cell r) = ap (option_map cell) (is r) ∙ one_if cell (g r) (p r) ∙ ap (λ b. if b then Some (cell (g r)) else None) (sym (and-true (p r)))
    tree_is (rectangle c) =
        let made : Reference → Reference → Tree = λ r s. rectangle (record { one = r; other = s }) in
        ap₂ (both made) (is c.one) (is c.other) ∙ both_if made (g c.one) (g c.other) (p c.one) (p c.other)
        ∙ ap (λ b. if p c.one && b then Some (made (g c.one) (g c.other)) else None) (sym (and-true (p c.other)))
    tree_is (parenthesized t) = ap (option_map parenthesized) (tree_is t) ∙ one_if parenthesized (map_references g t) (all_references p t)
    tree_is (signed s t) = ap (option_map (signed s)) (tree_is t) ∙ one_if (signed s) (map_references g t) (all_references p t)
    tree_is (percent t) = ap (option_map percent) (tree_is t) ∙ one_if percent (map_references g t) (all_references p t)
    tree_is (binary op t u) =
        ap₂ (both (binary op)) (tree_is t) (tree_is u) ∙ both_if (binary op) (map_references g t) (map_references g u) (all_references p t) (all_references p u)
        ∙ ap (λ b. if b then Some (binary op (map_references g t) (map_references g u)) else None) (both_pass p (leaves t) (leaves u))
    tree_is (what_if r xs) =
        let ys : List (Reference × Reference) = map (λ q. (g q.0, g q.1)) xs in
        let rs : List Reference = flat_map (λ q. q.0 ∷ q.1 ∷ []) xs in
        ap₂ (both what_if) (is r) (pairs_are xs) ∙ both_if what_if (g r) ys (p r) (list_all p rs)
        ∙ ap (λ qs. if p r && list_all p qs then Some (what_if (g r) ys) else None) (sym (append-nil rs))
    tree_is (call k ts) =
        ap (option_map (call k)) (trees_are ts) ∙ one_if (call k) (map_references_in g ts) (list_all p (flat_map leaf_references (all_leaves ts)))

    trees_are : (ts : Trees) → mapped_trees f ts ≡ (if list_all p (flat_map leaf_references (all_leaves ts)) then Some (map_references_in g ts) else None)
    trees_are no_trees = refl
    trees_are (more_trees t ts) =
        ap₂ (both more_trees) (tree_is t) (trees_are ts)
        ∙ both_if more_trees (map_references g t) (map_references_in g ts) (all_references p t) (list_all p (flat_map leaf_references (all_leaves ts)))
        ∙ ap (λ b. if b then Some (more_trees (map_references g t) (map_references_in g ts)) else None) (both_pass p (leaves t) (all_leaves ts))

reference_is : (down right : ℤ) (r : Reference) → shifted_reference down right r ≡ (if stays down right r then Some (moved down right r) else None)
unfolding stays moved
reference_is down right r = by_parts (row_moved down r) (column_moved right r)
  where
    by_parts : (a b : Option ℕ) → both (λ i j. record r { at = place i j }) a b ≡ (if is_some a && is_some b then Some (record r { at = place (unwrap_or a 0) (unwrap_or b 0) }) else None)
    by_parts None b = refl
    by_parts (Some i) None = refl
    by_parts (Some i) (Some j) = refl

pub shifted_is : (down right : ℤ) (t : Tree) → shifted down right t ≡ (if all_references (stays down right) t then Some (map_references (moved down right) t) else None)
shifted_is down right t = tree_is (shifted_reference down right) (stays down right) (moved down right) (reference_is down right) t

pub by_nothing : (t : Tree) → all_references in_sheet t ≡ true → shifted (pos 0) (pos 0) t ≡ Some t
by_nothing t e =
    let stay = all_pass in_sheet (stays (pos 0) (pos 0)) (λ r i. (reference_kept r i).0) (flat_map leaf_references (leaves t)) e in
    let same = tree_kept in_sheet (moved (pos 0) (pos 0)) (λ r i. (reference_kept r i).1) t e in
    shifted_is (pos 0) (pos 0) t ∙ ap₂ (λ b u. if b then Some u else None) stay same

-- ---- whether all references of an expression pass a test

-- both of two tests, of which the second is asked where the first holds
pub first_holds : (x y b d : Bool) → b ≡ x → b ≡ true → d ≡ y → d ≡ (x && y)
first_holds x y b d h holds k = k ∙ sym (ap (λ z. z && y) (sym h ∙ holds))

pub first_fails : (x y b : Bool) → b ≡ x → b ≡ false → b ≡ (x && y)
first_fails x y b h fails = fails ∙ sym (ap (λ z. z && y) (sym h ∙ fails))

pub number_passes : (p : Reference → Bool) (e : Expr) (x : Fraction) → e ≡ code.Number x → true ≡ all_references p (tree_of e)
number_passes p e x is = ap (λ ls. list_all p (flat_map leaf_references ls)) (sym (number_leaves e x is))

pub text_passes : (p : Reference → Bool) (e : Expr) (s : Text) → e ≡ code.Text s → true ≡ all_references p (tree_of e)
text_passes p e s is = ap (λ ls. list_all p (flat_map leaf_references ls)) (sym (text_leaves e s is))

pub cell_passes : (p : Reference → Bool) (e : Expr) (r : Reference) → e ≡ code.Cell r → p r ≡ all_references p (tree_of e)
cell_passes p e r is = sym (and-true (p r)) ∙ ap (λ ls. list_all p (flat_map leaf_references ls)) (sym (cell_leaves e r is))

pub rectangle_passes : (p : Reference → Bool) (e : Expr) (c : Corners) → e ≡ code.Rectangle c → (p c.one && p c.other) ≡ all_references p (tree_of e)
rectangle_passes p e c is = ap (λ b. p c.one && b) (sym (and-true (p c.other))) ∙ ap (λ ls. list_all p (flat_map leaf_references ls)) (sym (rectangle_leaves e c is))

pub same_pass : (p : Reference → Bool) (ls ks : List Leaf) → ls ≡ ks → list_all p (flat_map leaf_references ls) ≡ list_all p (flat_map leaf_references ks)
same_pass p ls ks h = ap (λ ms. list_all p (flat_map leaf_references ms)) h

pub what_if_passes : (p : Reference → Bool) (f : Reference) (xs : List (Reference × Reference)) (ls : List Leaf) → ls ≡ what_if_leaf f xs ∷ []
    → (p f && list_all p (flat_map (λ x. x.0 ∷ x.1 ∷ []) xs)) ≡ list_all p (flat_map leaf_references ls)
what_if_passes p f xs ls is =
    ap (λ rs. p f && list_all p rs) (sym (append-nil (flat_map (λ (x : Reference × Reference). x.0 ∷ x.1 ∷ []) xs)))
    ∙ ap (λ ms. list_all p (flat_map leaf_references ms)) (sym is)

-- ---- the tree of an expression, moved

-- one pair more
pub pairs_more : (g : Reference → Reference) (all new ps next : List Pair) (p : Pair) (a b : Reference)
    → new ≡ all ++ record { input = a; replacement = b } ∷ [] → a ≡ g p.input → b ≡ g p.replacement → next ≡ ps ++ p ∷ []
    → map pair_of all ≡ map (λ q. (g q.0, g q.1)) (map pair_of ps) → map pair_of new ≡ map (λ q. (g q.0, g q.1)) (map pair_of next)
pairs_more g all new ps next p a b h one other n done =
    let f : Reference × Reference → Reference × Reference = λ q. (g q.0, g q.1) in
    let pair : Reference → Reference → Reference × Reference = λ r s. (r, s) in
    ap (map pair_of) h ∙ map-append pair_of all _ ∙ ap (λ xs. xs ++ pair a b ∷ []) done
    ∙ ap₂ (λ (r s : Reference). map f (map pair_of ps) ++ pair r s ∷ []) one other
    ∙ sym (ap (λ xs. map f (map pair_of xs)) n ∙ ap (map f) (map-append pair_of ps (p ∷ [])) ∙ map-append f (map pair_of ps) (pair_of p ∷ []))

pub number_moved : (f : Reference → Reference) (e : Expr) (x : Fraction) → e ≡ code.Number x → tree_of (code.Number x) ≡ map_references f (tree_of e)
number_moved f e x is = number_tree x ∙ sym (ap (map_references f) (ap tree_of is ∙ number_tree x))

pub text_moved : {E : Type 0} (r : Result Expr E) (f : Reference → Reference) (e : Expr) (s : Text) → e ≡ code.Text s
    → IfOk r (λ x. tree_of x ≡ text s) → IfOk r (λ x. tree_of x ≡ map_references f (tree_of e))
text_moved r f e s is h = subst (λ t. IfOk r (λ x. tree_of x ≡ t)) (sym (ap (map_references f) (ap tree_of is ∙ text_tree s))) h

pub cell_moved : (f : Reference → Reference) (e : Expr) (r s : Reference) → e ≡ code.Cell r → s ≡ f r → tree_of (code.Cell s) ≡ map_references f (tree_of e)
cell_moved f e r s is h = cell_tree s ∙ ap cell h ∙ sym (ap (map_references f) (ap tree_of is ∙ cell_tree r))

pub rectangle_moved : (f : Reference → Reference) (e : Expr) (c : Corners) (r s : Reference) → e ≡ code.Rectangle c → r ≡ f c.one → s ≡ f c.other
    → tree_of (code.Rectangle (record { one = r; other = s })) ≡ map_references f (tree_of e)
rectangle_moved f e c r s is h k =
    rectangle_tree _ ∙ ap₂ (λ a b. rectangle (record { one = a; other = b })) h k ∙ sym (ap (map_references f) (ap tree_of is ∙ rectangle_tree c))

-- a part that was moved
pub part_moved : (g f : Reference → Reference) (d t : Expr) (u : Tree) → g ≡ f → d ≡ t → u ≡ map_references g (tree_of d) → u ≡ map_references f (tree_of t)
part_moved g f d t u same is h = h ∙ ap (λ k. map_references k (tree_of d)) same ∙ ap (λ x. map_references f (tree_of x)) is

pub parenthesized_moved : (f : Reference → Reference) (e : Expr) (t u : Box Expr Global) → e ≡ code.Parenthesized t
    → tree_of u.value ≡ map_references f (tree_of t.value) → tree_of (code.Parenthesized u) ≡ map_references f (tree_of e)
parenthesized_moved f e t u is h = parenthesized_tree u ∙ ap parenthesized h ∙ sym (ap (map_references f) (ap tree_of is ∙ parenthesized_tree t))

pub signed_moved : (f : Reference → Reference) (e : Expr) (s : Sign) (t u : Box Expr Global) → e ≡ code.Signed s t
    → tree_of u.value ≡ map_references f (tree_of t.value) → tree_of (code.Signed s u) ≡ map_references f (tree_of e)
signed_moved f e s t u is h = signed_tree s u ∙ ap (signed s) h ∙ sym (ap (map_references f) (ap tree_of is ∙ signed_tree s t))

pub percent_moved : (f : Reference → Reference) (e : Expr) (t u : Box Expr Global) → e ≡ code.Percent t
    → tree_of u.value ≡ map_references f (tree_of t.value) → tree_of (code.Percent u) ≡ map_references f (tree_of e)
percent_moved f e t u is h = percent_tree u ∙ ap percent h ∙ sym (ap (map_references f) (ap tree_of is ∙ percent_tree t))

pub binary_moved : {E : Type 0} (r : Result Expr E) (g f : Reference → Reference) (e : Expr) (op : Operator) (t : Box (Expr × Expr) Global) (d b : Expr × Expr)
    → e ≡ code.Binary op t → d ≡ t.value → b ≡ t.value → g ≡ f → IfOk r (λ x. tree_of x ≡ map_references g (binary op (tree_of d.0) (tree_of b.1)))
    → IfOk r (λ x. tree_of x ≡ map_references f (tree_of e))
binary_moved r g f e op t d b is left right same h =
    let there : map_references g (binary op (tree_of d.0) (tree_of b.1)) ≡ map_references f (tree_of e) =
    ap (λ k. map_references k (binary op (tree_of d.0) (tree_of b.1))) same ∙ ap (map_references f) (sym (binary_seen e op t d b is left right)) in
    subst (λ u. IfOk r (λ x. tree_of x ≡ u)) there h

pub what_if_moved : {E : Type 0} (r : Result Expr E) (g f : Reference → Reference) (e : Expr) (t : Box WhatIf Global) (d b : WhatIf) (ps : List Pair)
    → e ≡ code.WhatIf t → d ≡ t.value → b ≡ t.value → ps ≡ b.pairs.items → g ≡ f
    → IfOk r (λ x. tree_of x ≡ what_if (g d.formula_cell) (map (λ q. (g q.0, g q.1)) (map pair_of ps))) → IfOk r (λ x. tree_of x ≡ map_references f (tree_of e))
what_if_moved r g f e t d b ps is one other pairs same h =
    let there : map_references g (what_if d.formula_cell (map pair_of ps)) ≡ map_references f (tree_of e) =
    ap (λ k. map_references k (what_if d.formula_cell (map pair_of ps))) same ∙ ap (map_references f) (sym (what_if_seen e t d b ps is one other pairs)) in
    subst (λ u. IfOk r (λ x. tree_of x ≡ u)) there h

pub call_moved : {E : Type 0} (r : Result Expr E) (g f : Reference → Reference) (e : Expr) (t : Box (Text × Vec Expr Global) Global) (d b : Text × Vec Expr Global) (es ds : List Expr)
    → e ≡ code.Call t → d ≡ t.value → b ≡ t.value → es ≡ b.1.items → g ≡ f → all_of ds ≡ map_references_in g (all_of es) → IfOk r (λ x. tree_of x ≡ call d.0 (all_of ds))
    → IfOk r (λ x. tree_of x ≡ map_references f (tree_of e))
call_moved r g f e t d b es ds is one other trees same k h =
    let there : call d.0 (all_of ds) ≡ map_references f (tree_of e) =
    ap (call d.0) k ∙ ap (λ j. map_references j (call d.0 (all_of es))) same ∙ ap (map_references f) (sym (call_seen e t d b es is one other trees)) in
    subst (λ u. IfOk r (λ x. tree_of x ≡ u)) there h

-- a what-if that was made of moved parts
pub what_if_of_moved : (g f : Reference → Reference) (t : Box WhatIf Global) (w : WhatIf) (a : Reference) (qs : List (Reference × Reference))
    → t.value ≡ w → w.formula_cell ≡ g a → map pair_of w.pairs.items ≡ map (λ (q : Reference × Reference). (g q.0, g q.1)) qs → g ≡ f
    → tree_of (code.WhatIf t) ≡ what_if (f a) (map (λ (q : Reference × Reference). (f q.0, f q.1)) qs)
what_if_of_moved g f t w a qs made one pairs same =
    what_if_made t w made ∙ ap₂ what_if one pairs ∙ ap (λ (k : Reference → Reference). what_if (k a) (map (λ (q : Reference × Reference). (k q.0, k q.1)) qs)) same
