-- Parameters and the arguments that they are.
use Rattle.wi_functions.proofs.Words.{◌≡◌, ◌==◌, ℕ, zero, suc, ◌<◌, ◌≤◌, ◌+◌, ◌*◌, Bool, true, false, cond, List, [], ◌∷◌, ◌++◌, length, slice_index_or, ◌||◌, drop, drop-cons, append_assoc, Some, None, refl, sym, ap, ap₂, ◌∙◌, subst, eq-eqb, arith, list_any, map-append, append-nil, drop_all, list_any-append, mod-lt, div-add-mod', eqb-true, Area, row_of, column_of, rect_of, is_within, BadValue, Value, Fault, Corners, Expr, Tree, cell, rectangle, parenthesized, cell_leaf, rectangle_leaf, leaves, all_leaves, one_cell, area_of, cell_area, tree_of, all_of, Argument, value_or, argument_of, call_value, applied_to_arguments, Function, value_of_area, argument_in, arguments_in, refers_to, meaning, arguments, referred, is_one_cell, TreeAsks, AnyTreeAsks, values_of, ReferInside, Want, Cell}
use Rattle.wi_arguments.specs.declared.argument.Argument as given
use Rattle.wi_functions.proofs.Asking.{any_left, any_right, leaf_asks}

-- ---- the parameter at a place

-- its value is that of its tree
pub value_there : (es : List Expr) (k : ℕ) (e : Expr) (d : Value) (cells : ℕ → Value) (what_ifs : ℕ → List (ℕ × ℕ) → Value) → k < length es → e ≡ slice_index_or es k e →
    meaning (tree_of e) cells what_ifs ≡ value_or d (arguments (all_of es) cells what_ifs) k
value_there [] k e d cells what_ifs l h = absurd (omega (arith, l))
value_there (x ∷ es) zero e d cells what_ifs l h = ap (λ (y : Expr). meaning (tree_of y) cells what_ifs) h
value_there (x ∷ es) (suc k) e d cells what_ifs l h = value_there es k e d cells what_ifs (omega (arith, l)) h

-- and where there is none it is the default
pub value_missing : (es : List Expr) (k : ℕ) (d : Value) (cells : ℕ → Value) (what_ifs : ℕ → List (ℕ × ℕ) → Value) → length es ≤ k →
    d ≡ value_or d (arguments (all_of es) cells what_ifs) k
value_missing [] k d cells what_ifs l = refl
value_missing (x ∷ es) zero d cells what_ifs l = absurd (omega (arith, l))
value_missing (x ∷ es) (suc k) d cells what_ifs l = value_missing es k d cells what_ifs (omega (arith, l))

-- what it asks for, one of the parameters asks for
pub asks_there : (es : List Expr) (k : ℕ) (e : Expr) (w : Want) → k < length es → e ≡ slice_index_or es k e → TreeAsks (tree_of e) w → AnyTreeAsks (all_of es) w
asks_there [] k e w l h a = absurd (omega (arith, l))
asks_there (x ∷ es) zero e w l h a = any_left _ (leaves (tree_of x)) (all_leaves (all_of es)) (subst (λ (y : Expr). TreeAsks (tree_of y) w) h a)
asks_there (x ∷ es) (suc k) e w l h a = any_right _ (leaves (tree_of x)) (all_leaves (all_of es)) (asks_there es k e w (omega (arith, l)) h a)

pub length_arguments : (es : List Expr) (cells : ℕ → Value) (what_ifs : ℕ → List (ℕ × ℕ) → Value) → length (arguments (all_of es) cells what_ifs) ≡ length es
length_arguments [] cells what_ifs = refl
length_arguments (x ∷ es) cells what_ifs = ap (λ (n : ℕ). suc n) (length_arguments es cells what_ifs)

-- a call is worth what the function gives that is found for its name
pub call_found : (es : List Expr) (name given_name : List ℕ) (f g : Function) (cells : ℕ → Value) (what_ifs : ℕ → List (ℕ × ℕ) → Value) →
    ((args : List Argument) → length args ≡ length es → call_value name args ≡ applied_to_arguments f args) → f ≡ g → name ≡ given_name →
    applied_to_arguments g (arguments (all_of es) cells what_ifs) ≡ call_value given_name (arguments (all_of es) cells what_ifs)
call_found es name given_name f g cells what_ifs found is same =
    let args = arguments (all_of es) cells what_ifs in
    ap (λ (h : Function). applied_to_arguments h args) (sym is) ∙ sym (found args (length_arguments es cells what_ifs)) ∙ ap (λ (n : List ℕ). call_value n args) same

-- ---- the value of a reference

-- the rectangle of one cell begins and ends with it
cell_is_first : (a : ℕ) → (cell_area a).first ≡ a
cell_is_first a = omega arith

cell_is_last : (a : ℕ) → (cell_area a).last ≡ a
cell_is_last a = omega arith

pub value_of_cell : (cells : ℕ → Value) (a : ℕ) → value_of_area cells (cell_area a) ≡ cells a
value_of_cell cells a = by ((cell_area a).first == (cell_area a).last) (eq-eqb _ _ (cell_is_first a ∙ sym (cell_is_last a)))
  where
    by : (b : Bool) → b ≡ true → cond b (cells (cell_area a).first) (Fault BadValue) ≡ cells a
    by true h = ap cells (cell_is_first a)
    by false h = cc

corners_meet : (a b : ℕ) → (rect_of a b).first ≡ (rect_of a b).last → a ≡ b
corners_meet a b h =
    let left : row_of a * 16384 + column_of a ≡ a = div-add-mod' a 16384 in
    let right : row_of b * 16384 + column_of b ≡ b = div-add-mod' b 16384 in
    let narrow : column_of a < 16384 = mod-lt a (omega arith) in
    let thin : column_of b < 16384 = mod-lt b (omega arith) in
    omega (arith, h, left, right, narrow, thin)

pub value_of_rectangle : (cells : ℕ → Value) (a b : ℕ) → value_of_area cells (rect_of a b) ≡ cond (a == b) (cells a) (Fault BadValue)
value_of_rectangle cells a b = by (a == b) refl
  where
    by : (t : Bool) → (a == b) ≡ t → value_of_area cells (rect_of a b) ≡ cond t (cells a) (Fault BadValue)
    by true h = ap (λ (x : ℕ). value_of_area cells (rect_of a x)) (sym (eqb-true a b h)) ∙ value_of_cell cells a
    by false h = apart ((rect_of a b).first == (rect_of a b).last) refl
      where
        apart : (t : Bool) → ((rect_of a b).first == (rect_of a b).last) ≡ t → cond t (cells (rect_of a b).first) (Fault BadValue) ≡ Fault BadValue
        apart true m = let same : a ≡ b = corners_meet a b (eqb-true _ _ m) in let e : (a == b) ≡ true = eq-eqb a b same in cc
        apart false m = refl

-- a rectangle of one cell has the value of its first corner
pub value_of_corner : (c : Corners) (cells : ℕ → Value) → is_one_cell c ≡ true → cells c.one.at ≡ cond (is_one_cell c) (cells c.one.at) (Fault BadValue)
value_of_corner c cells h = sym (ap (λ (b : Bool). cond b (cells c.one.at) (Fault BadValue)) h)

-- what a parameter refers to has its value, where one is asked for
pub value_of_referred : (t : Tree) (r : Area) (cells : ℕ → Value) (what_ifs : ℕ → List (ℕ × ℕ) → Value) → referred t ≡ Some r → value_of_area cells r ≡ meaning t cells what_ifs
value_of_referred (cell a) r cells what_ifs h = let e : r ≡ cell_area a.at = cc in ap (value_of_area cells) e ∙ value_of_cell cells a.at
value_of_referred (rectangle c) r cells what_ifs h = let e : r ≡ area_of c = cc in ap (value_of_area cells) e ∙ value_of_rectangle cells c.one.at c.other.at
value_of_referred (parenthesized t) r cells what_ifs h = value_of_referred t r cells what_ifs h
value_of_referred t r cells what_ifs h = cc

-- ---- all parameters as arguments

next_first : (es : List Expr) (i : ℕ) (e : Expr) → i < length es → e ≡ slice_index_or es i e → drop i es ≡ e ∷ drop (suc i) es
next_first es i e l h = drop-cons es i e l ∙ ap (λ (x : Expr). x ∷ drop (suc i) es) (sym h)

-- one more argument
pub more_arguments : (es : List Expr) (i : ℕ) (e : Expr) (args more : List given.Argument) (arg : given.Argument) (cells : ℕ → Value) (what_ifs : ℕ → List (ℕ × ℕ) → Value) → i < length es → e ≡ slice_index_or es i e → more ≡ args ++ arg ∷ [] →
    argument_in cells arg ≡ argument_of cells (meaning (tree_of e) cells what_ifs) (referred (tree_of e)) →
    arguments_in cells args ++ arguments (all_of (drop i es)) cells what_ifs ≡ arguments (all_of es) cells what_ifs →
    arguments_in cells more ++ arguments (all_of (drop (i + 1) es)) cells what_ifs ≡ arguments (all_of es) cells what_ifs
more_arguments es i e args more arg cells what_ifs l h m k inv =
    let rest = arguments (all_of (drop (suc i) es)) cells what_ifs in
    let one : i + 1 ≡ suc i = omega arith in
    ap (λ (n : ℕ). arguments_in cells more ++ arguments (all_of (drop n es)) cells what_ifs) one
    ∙ ap (λ (xs : List given.Argument). arguments_in cells xs ++ rest) m
    ∙ ap (λ (xs : List Argument). xs ++ rest) (map-append (argument_in cells) args (arg ∷ []))
    ∙ append_assoc (arguments_in cells args) (argument_in cells arg ∷ []) rest
    ∙ ap (λ (x : Argument). arguments_in cells args ++ x ∷ rest) k
    ∙ ap (λ (xs : List Expr). arguments_in cells args ++ arguments (all_of xs) cells what_ifs) (sym (next_first es i e l h))
    ∙ inv

-- one more value
pub more_values : (es : List Expr) (i : ℕ) (e : Expr) (vs more : List Value) (v : Value) (cells : ℕ → Value) (what_ifs : ℕ → List (ℕ × ℕ) → Value) → i < length es → e ≡ slice_index_or es i e → more ≡ vs ++ v ∷ [] →
    v ≡ meaning (tree_of e) cells what_ifs →
    vs ++ values_of (arguments (all_of (drop i es)) cells what_ifs) ≡ values_of (arguments (all_of es) cells what_ifs) →
    more ++ values_of (arguments (all_of (drop (i + 1) es)) cells what_ifs) ≡ values_of (arguments (all_of es) cells what_ifs)
more_values es i e vs more v cells what_ifs l h m k inv =
    let rest = values_of (arguments (all_of (drop (suc i) es)) cells what_ifs) in
    let one : i + 1 ≡ suc i = omega arith in
    ap (λ (n : ℕ). more ++ values_of (arguments (all_of (drop n es)) cells what_ifs)) one
    ∙ ap (λ (xs : List Value). xs ++ rest) m
    ∙ append_assoc vs (v ∷ []) rest
    ∙ ap (λ (x : Value). vs ++ x ∷ rest) k
    ∙ ap (λ (xs : List Expr). vs ++ values_of (arguments (all_of xs) cells what_ifs)) (sym (next_first es i e l h))
    ∙ inv

-- where no parameter is left, what was made is all
pub none_left : {X : Type 0} (made_of : List Expr → List X) (es : List Expr) (i : ℕ) (xs all : List X) → made_of [] ≡ [] → length es ≤ i → xs ++ made_of (drop i es) ≡ all → xs ≡ all
none_left made_of es i xs all k l h = sym (append-nil xs) ∙ ap (λ (ys : List _). xs ++ ys) (sym k) ∙ ap (λ (fs : List Expr). xs ++ made_of fs) (sym (drop_all i es l)) ∙ h

-- a reference is the argument that refers to its rectangle
pub reference_is : (t : Tree) (r : Area) (cells : ℕ → Value) (what_ifs : ℕ → List (ℕ × ℕ) → Value) → referred t ≡ Some r → argument_in cells (given.TheVariants.Reference r) ≡ argument_of cells (meaning t cells what_ifs) (referred t)
reference_is t r cells what_ifs h =
    ap (λ (v : Value). argument_of cells v (Some r)) (value_of_referred t r cells what_ifs h) ∙ ap (argument_of cells (meaning t cells what_ifs)) (sym h)

-- and any other its value
pub value_is : (t : Tree) (v : Value) (cells : ℕ → Value) (what_ifs : ℕ → List (ℕ × ℕ) → Value) → referred t ≡ None → v ≡ meaning t cells what_ifs → argument_in cells (given.TheVariants.Value v) ≡ argument_of cells (meaning t cells what_ifs) (referred t)
value_is t v cells what_ifs h e = ap (λ (x : Value). argument_of cells x None) e ∙ ap (argument_of cells (meaning t cells what_ifs)) (sym h)

-- what a reference refers to, its parameter asks for
pub reference_asks : (t : Tree) (r : Area) (c : ℕ) → referred t ≡ Some r → is_within r c ≡ true → TreeAsks t (Cell c)
reference_asks (cell a) r c h w =
    let e : r ≡ cell_area a.at = cc in
    let in_cell : is_within (cell_area a.at) c ≡ true = subst (λ (x : Area). is_within x c ≡ true) e w in
    leaf_asks (cell_leaf a) (Cell c) (sym (eqb-true a.at c (sym (one_cell a.at c) ∙ in_cell)))
reference_asks (rectangle a) r c h w = let e : r ≡ area_of a = cc in leaf_asks (rectangle_leaf a) (Cell c) (subst (λ (x : Area). is_within x c ≡ true) e w)
reference_asks (parenthesized t) r c h w = reference_asks t r c h w
reference_asks t r c h w = cc

-- and a value refers to nothing
pub value_asks : (t : Tree) (v : Value) (c : ℕ) → refers_to c (given.TheVariants.Value v) ≡ true → TreeAsks t (Cell c)
value_asks t v c h = cc

-- what one more argument refers to, a parameter asks for
pub more_refer : (es : List Expr) (i : ℕ) (e : Expr) (args more : List given.Argument) (arg : given.Argument) → i < length es → e ≡ slice_index_or es i e → more ≡ args ++ arg ∷ [] →
    ((c : ℕ) → refers_to c arg ≡ true → TreeAsks (tree_of e) (Cell c)) → ReferInside args (all_of es) → ReferInside more (all_of es)
more_refer es i e args more arg l h m k inv c r = by (list_any (refers_to c) args) refl (refers_to c arg) refl
  where
    split : (list_any (refers_to c) args || (refers_to c arg || false)) ≡ true
    split = sym (list_any-append (refers_to c) args (arg ∷ [])) ∙ ap (list_any (refers_to c)) (sym m) ∙ r

    by : (b : Bool) → list_any (refers_to c) args ≡ b → (d : Bool) → refers_to c arg ≡ d → AnyTreeAsks (all_of es) (Cell c)
    by true x d y = inv c x
    by false x true y = asks_there es i e (Cell c) l h (k c y)
    by false x false y = let no : (false || (false || false)) ≡ true = ap₂ (λ (p q : Bool). p || (q || false)) (sym x) (sym y) ∙ split in cc
