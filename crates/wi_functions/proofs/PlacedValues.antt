-- What each kind of placed expression means.
use Rattle.wi_functions.proofs.Words.{◌≡◌, ℕ, zero, suc, ◌<◌, ◌≤◌, ◌+◌, List, [], ◌∷◌, ◌++◌, length, slice_index_or, drop, drop-cons, drop_all, append_assoc, append-nil, refl, sym, ap, ◌∙◌, arith, Value, Empty, value_or, applied_to_arguments, applied_to_values, Lazy}
use Rattle.std.proofs.Common.{Box}
use Rattle.std.specs.Prelude.{Vec}
use Rattle.std.specs.Global.{Global}
use Rattle.wi_value_functions.specs.Applied.{arguments_of}
use Rattle.wi_value_functions.specs.declared.function.LazyFunction.{LazyFunction}
use Rattle.wi_value_functions.specs.declared.function.ValueFunction.{ValueFunction}
use Rattle.wi_parser.specs.declared.expr.Operator.{Operator}
use Rattle.wi_parser.specs.declared.expr.Sign.{Sign}
use Rattle.wi_functions.specs.Inner.Named.{hundredth}
use Rattle.wi_functions.specs.Operators.{operate, with_sign}
use Rattle.wi_functions.specs.Placed.{layer_value, placed_value, placed_values, value_at_place}
use Rattle.wi_functions.specs.declared.placed.Placed.{Placed, fold-roll-Placed}
use Rattle.wi_functions.specs.declared.placed.Placed.TheOpen.{Placed-F}
use Rattle.wi_functions.specs.declared.placed.Placed.TheVariants as code

-- ---- the value of each kind

pub constant_value : (v : Value) (vs : List Value) → placed_value (code.Constant v) vs ≡ v
constant_value v vs = ap (λ (q : Placed). placed_value q vs) (sym (code.rolls-Constant v)) ∙ ap (λ (g : List Value → Value). g vs) (fold-roll-Placed (List Value → Value) layer_value (Placed-F.Constant v))

pub place_value : (i : ℕ) (vs : List Value) → placed_value (code.Place i) vs ≡ value_at_place vs i
place_value i vs = ap (λ (q : Placed). placed_value q vs) (sym (code.rolls-Place i)) ∙ ap (λ (g : List Value → Value). g vs) (fold-roll-Placed (List Value → Value) layer_value (Placed-F.Place i))

pub signed_value : (s : Sign) (t : Box Placed Global) (vs : List Value) → placed_value (code.Signed s t) vs ≡ with_sign s (placed_value t.value vs)
signed_value s t vs = ap (λ (q : Placed). placed_value q vs) (sym (code.rolls-Signed s t)) ∙ ap (λ (g : List Value → Value). g vs) (fold-roll-Placed (List Value → Value) layer_value (Placed-F.Signed s t))

pub percent_value : (t : Box Placed Global) (vs : List Value) → placed_value (code.Percent t) vs ≡ hundredth (placed_value t.value vs)
percent_value t vs = ap (λ (q : Placed). placed_value q vs) (sym (code.rolls-Percent t)) ∙ ap (λ (g : List Value → Value). g vs) (fold-roll-Placed (List Value → Value) layer_value (Placed-F.Percent t))

pub binary_value : (op : Operator) (t : Box (Placed × Placed) Global) (vs : List Value) → placed_value (code.Binary op t) vs ≡ operate op (placed_value t.value.0 vs) (placed_value t.value.1 vs)
binary_value op t vs = ap (λ (q : Placed). placed_value q vs) (sym (code.rolls-Binary op t)) ∙ ap (λ (g : List Value → Value). g vs) (fold-roll-Placed (List Value → Value) layer_value (Placed-F.Binary op t))

-- ---- the parts, each as a call sees it

pub place_seen : (p : Placed) (i : ℕ) (vs : List Value) → p ≡ code.Place i → placed_value p vs ≡ value_at_place vs i
place_seen p i vs is = ap (λ (q : Placed). placed_value q vs) is ∙ place_value i vs

pub lazy_seen : (p : Placed) (f : LazyFunction) (t : Vec Placed Global) (es : List Placed) (vs : List Value) → p ≡ code.Lazy f t → es ≡ t.items → placed_value p vs ≡ applied_to_arguments (Lazy f) (arguments_of (placed_values es vs))
lazy_seen p f t es vs is same =
    ap (λ (q : Placed). placed_value q vs) (is ∙ sym (code.rolls-Lazy f t))
    ∙ ap (λ (g : List Value → Value). g vs) (fold-roll-Placed (List Value → Value) layer_value (Placed-F.Lazy f t))
    ∙ ap (λ (xs : List Placed). applied_to_arguments (Lazy f) (arguments_of (placed_values xs vs))) (sym same)

pub values_seen : (p : Placed) (f : ValueFunction) (t : Vec Placed Global) (es : List Placed) (vs : List Value) → p ≡ code.Values f t → es ≡ t.items → placed_value p vs ≡ applied_to_values f (placed_values es vs)
values_seen p f t es vs is same =
    ap (λ (q : Placed). placed_value q vs) (is ∙ sym (code.rolls-Values f t))
    ∙ ap (λ (g : List Value → Value). g vs) (fold-roll-Placed (List Value → Value) layer_value (Placed-F.Values f t))
    ∙ ap (λ (xs : List Placed). applied_to_values f (placed_values xs vs)) (sym same)

-- ---- the value at a place

pub value_found : (vs : List Value) (k : ℕ) (v : Value) → k < length vs → v ≡ slice_index_or vs k v → v ≡ value_at_place vs k
value_found [] k v l h = absurd (omega (arith, l))
value_found (x ∷ vs) zero v l h = h
value_found (x ∷ vs) (suc k) v l h = value_found vs k v (omega (arith, l)) h

pub value_beyond : (vs : List Value) (k : ℕ) → length vs ≤ k → Empty ≡ value_at_place vs k
value_beyond [] k l = refl
value_beyond (x ∷ vs) zero l = absurd (omega (arith, l))
value_beyond (x ∷ vs) (suc k) l = value_beyond vs k (omega (arith, l))

-- ---- the parameter at a place

pub placed_there : (es : List Placed) (k : ℕ) (e : Placed) (d : Value) (vs : List Value) → k < length es → e ≡ slice_index_or es k e → placed_value e vs ≡ value_or d (arguments_of (placed_values es vs)) k
placed_there [] k e d vs l h = absurd (omega (arith, l))
placed_there (x ∷ es) zero e d vs l h = ap (λ (y : Placed). placed_value y vs) h
placed_there (x ∷ es) (suc k) e d vs l h = placed_there es k e d vs (omega (arith, l)) h

pub placed_missing : (es : List Placed) (k : ℕ) (d : Value) (vs : List Value) → length es ≤ k → d ≡ value_or d (arguments_of (placed_values es vs)) k
placed_missing [] k d vs l = refl
placed_missing (x ∷ es) zero d vs l = absurd (omega (arith, l))
placed_missing (x ∷ es) (suc k) d vs l = placed_missing es k d vs (omega (arith, l))

-- ---- all parameters

pub more_placed : (es : List Placed) (i : ℕ) (e : Placed) (vs more : List Value) (v : Value) (xs : List Value) → i < length es → e ≡ slice_index_or es i e → more ≡ vs ++ v ∷ [] → v ≡ placed_value e xs →
    vs ++ placed_values (drop i es) xs ≡ placed_values es xs → more ++ placed_values (drop (i + 1) es) xs ≡ placed_values es xs
more_placed es i e vs more v xs l h m k inv =
    let rest = placed_values (drop (suc i) es) xs in
    let one : i + 1 ≡ suc i = omega arith in
    let first : drop i es ≡ e ∷ drop (suc i) es = drop-cons es i e l ∙ ap (λ (x : Placed). x ∷ drop (suc i) es) (sym h) in
    ap (λ (n : ℕ). more ++ placed_values (drop n es) xs) one
    ∙ ap (λ (ys : List Value). ys ++ rest) m
    ∙ append_assoc vs (v ∷ []) rest
    ∙ ap (λ (x : Value). vs ++ x ∷ rest) k
    ∙ ap (λ (ys : List Placed). vs ++ placed_values ys xs) (sym first)
    ∙ inv

pub all_placed_values : (es : List Placed) (i : ℕ) (vs xs : List Value) → length es ≤ i → vs ++ placed_values (drop i es) xs ≡ placed_values es xs → vs ≡ placed_values es xs
all_placed_values es i vs xs l inv = sym (append-nil vs) ∙ ap (λ (ys : List Placed). vs ++ placed_values ys xs) (sym (drop_all i es l)) ∙ inv
