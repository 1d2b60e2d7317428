-- How a function ends at a step that fails, and from the parts of a function to the whole.
use Rattle.wi_lookup_functions.proofs.Words.{◌≡◌, ℕ, ℤ, ◌+◌, ◌-◌, ◌<◌, ◌≤◌, ◌==◌, ◌||◌, Bool, true, false, cond, zero, suc, List, [], ◌∷◌, length, slice_get_past, option_map_or, Option, Ok, Err, refl, sym, ap, ◌∙◌, subst, arith, pos, int_lt, nat_lt, IsErrAnd, unsigned_abs, Bor, or_from, eq-eqb, le-leb, lt-leb, length-map, Area, place, row_of, column_of, is_within, ErrorKind, BadValue, BadReference, Value, Number, Fault, row_of_place, column_of_place, column_within, within_from, argument_in, arguments_in, KnownAgrees, IsMissing, Argument, Region, region_of, value_or, value_at, region_at, to_whole, whole_value, one_number, zero_number, no_error, cell_in, index_value, index_along, index_by_both, nth_cell, nth_cell_along, position_among, sought_for, ◌>>=◌, and_then, NoValue, Error, Stopped, WhateverHeld, Finds, Places, IsPlacedIn, height, width}
use Rattle.std.proofs.Common.{Result}
use Rattle.wi_fraction.proofs.Wholes.{rounded_from}
use Rattle.wi_fraction.specs.Number as numbers
use Rattle.wi_fraction.specs.declared.rounding.Mode.TheVariants.{Toward}
use Rattle.wi_arguments.specs.declared.argument.Argument as given
use Rattle.wi_lookup_functions.specs.Inner.Finding.{Agrees}
use Rattle.wi_lookup_functions.proofs.Asked.{itself, fault, sought_or_zero}
use Rattle.wi_lookup_functions.proofs.CellsByPlace.{cell_at}

-- ---- at the exit of a `?`

pub ends_so : {A : Type 0} (P : Result A (NoValue ℕ) → Type 0) (r : Result A (NoValue ℕ)) (h : NoValue ℕ) → IsErrAnd r (λ y. y ≡ h) → P (Err h) → P r
ends_so P (Ok x) h k g = absurd k
ends_so P (Err y) h k g = subst (λ (z : NoValue ℕ). P (Err z)) (sym k) g

pub passes_on : {A B C D : Type 0} (known : ℕ → Option Value) (P : ℕ → Type 0) (view : A → B) (other : C → D) (asked : (ℕ → Value) → Result B ErrorKind) (asks : (ℕ → Value) → Result D ErrorKind) (h : NoValue ℕ) →
    ((cells : ℕ → Value) (e : ErrorKind) → asked cells ≡ Err e → asks cells ≡ Err e) → Agrees {A = A} {B = B} known P view asked (Err h) → Agrees {A = C} {B = D} known P other asks (Err h)
passes_on known P view other asked asks (Error e) k g = λ cells a. k cells e (g cells a)
passes_on known P view other asked asks (Stopped c) k g = g

pub ended : {A B : Type 0} (known : ℕ → Option Value) (args : List given.Argument) (f : List Argument → Value) (P : ℕ → Type 0) (view : A → B) (asked : (ℕ → Value) → Result B ErrorKind) (h : NoValue ℕ) →
    ((c : ℕ) → P c → IsMissing known args c) → ((cells : ℕ → Value) → KnownAgrees known cells → (e : ErrorKind) → asked cells ≡ Err e → f (arguments_in cells args) ≡ Fault e) →
    Agrees {A = A} {B = B} known P view asked (Err h) → Finds known args f (Err h)
ended known args f P view asked (Error e) m k g = λ cells a. k cells a e (g cells a)
ended known args f P view asked (Stopped c) m k g = m c g

pub placing_ended : {A B : Type 0} (known : ℕ → Option Value) (args : List given.Argument) (f : List Argument → Value) (P : ℕ → Type 0) (view : A → B) (asked : (ℕ → Value) → Result B ErrorKind) (h : NoValue ℕ) →
    ((c : ℕ) → P c → IsMissing known args c) → ((cells : ℕ → Value) → KnownAgrees known cells → (e : ErrorKind) → asked cells ≡ Err e → f (arguments_in cells args) ≡ Fault e) →
    Agrees {A = A} {B = B} known P view asked (Err h) → Places known args f (Err h)
placing_ended known args f P view asked (Error e) m k g = λ cells a. k cells a e (g cells a)
placing_ended known args f P view asked (Stopped c) m k g = m c g

-- from a place that is given to the function's
pub placed : (known : ℕ → Option Value) (args : List given.Argument) (f : List Argument → Value) (P : ℕ → Type 0) (asked : (ℕ → Value) → Result ℕ ErrorKind) (r : Result ℕ (NoValue ℕ)) →
    ((c : ℕ) → P c → IsMissing known args c) → ((cells : ℕ → Value) → KnownAgrees known cells → f (arguments_in cells args) ≡ (asked cells >>= (λ i. whole_value (i + 1)))) →
    Agrees {A = ℕ} {B = ℕ} known P (λ i. i) asked r → Places known args f r
placed known args f P asked (Ok i) m k g = λ cells a. k cells a ∙ ap (λ (o : Result ℕ ErrorKind). o >>= (λ i. whole_value (i + 1))) (g cells a)
placed known args f P asked (Err (Error e)) m k g = λ cells a. k cells a ∙ ap (λ (o : Result ℕ ErrorKind). o >>= (λ i. whole_value (i + 1))) (g cells a)
placed known args f P asked (Err (Stopped c)) m k g = m c g

pub finds_same : (known : ℕ → Option Value) (args : List given.Argument) (f g : List Argument → Value) (r : Result ℕ (NoValue ℕ)) → ((cells : ℕ → Value) → g (arguments_in cells args) ≡ f (arguments_in cells args)) → Finds known args f r → Finds known args g r
finds_same known args f g (Ok c) e h = (λ cells a. e cells ∙ h.0 cells a, h.1)
finds_same known args f g (Err (Error x)) e h = λ cells a. e cells ∙ h cells a
finds_same known args f g (Err (Stopped c)) e h = h

pub placed_same : (r : Area) (f g : Region → Value) (o : Result ℕ ErrorKind) → ((cells : ℕ → Value) → g (region_of cells r) ≡ f (region_of cells r)) → IsPlacedIn r f o → IsPlacedIn r g o
placed_same r f g (Ok c) e h = (λ cells. e cells ∙ h.0 cells, h.1)
placed_same r f g (Err x) e h = λ cells. e cells ∙ h cells

-- ---- what is taken for a number or a truth value

pub taken_halts : {B : Type 0} (known : ℕ → Option Value) (args : List given.Argument) (i : ℕ) (default : Value) (convert : Value → Result B ErrorKind) (r : Result B (NoValue ℕ)) (h : NoValue ℕ) →
    ((e : ErrorKind) → convert (Fault e) ≡ Err e) → IsErrAnd r (λ y. y ≡ h) → Agrees {A = Bor Value} {B = Value} known (IsMissing known args) (λ v. v.now) (λ cells. no_error (value_or default (arguments_in cells args) i)) (Err h) →
    Agrees {A = B} {B = B} known (IsMissing known args) (λ x. x) (λ cells. convert (value_or default (arguments_in cells args) i)) r
taken_halts {B} known args i default convert r h c k g =
    ends_so (Agrees {A = B} {B = B} known (IsMissing known args) (λ x. x) (λ cells. convert (value_or default (arguments_in cells args) i))) r h k
    (passes_on {A = Bor Value} {B = Value} {C = B} {D = B} known (IsMissing known args) (λ v. v.now) (λ x. x) (λ cells. no_error (value_or default (arguments_in cells args) i)) (λ cells. convert (value_or default (arguments_in cells args) i)) h
    (λ cells e q. ap convert (fault (value_or default (arguments_in cells args) i) e q) ∙ c e) g)

pub taken_fails : {B : Type 0} (known : ℕ → Option Value) (args : List given.Argument) (i : ℕ) (default : Value) (convert : Value → Result B ErrorKind) (r : Result B (NoValue ℕ)) (v : Value) (e : ErrorKind) →
    IsErrAnd r (λ y. y ≡ Error e) → WhateverHeld known (λ cells. no_error (value_or default (arguments_in cells args) i) ≡ Ok v) → Err e ≡ convert v →
    Agrees {A = B} {B = B} known (IsMissing known args) (λ x. x) (λ cells. convert (value_or default (arguments_in cells args) i)) r
taken_fails {B} known args i default convert r v e k g t =
    ends_so (Agrees {A = B} {B = B} known (IsMissing known args) (λ x. x) (λ cells. convert (value_or default (arguments_in cells args) i))) r (Error e) k
    (λ cells a. ap convert (itself (value_or default (arguments_in cells args) i) v (g cells a)) ∙ sym t)

pub sought_halts : (known : ℕ → Option Value) (args : List given.Argument) (i : ℕ) (nought : Value) (r : Result (Bor Value) (NoValue ℕ)) (h : NoValue ℕ) →
    nought ≡ Number zero_number → IsErrAnd r (λ y. y ≡ h) → Agrees {A = Bor Value} {B = Value} known (IsMissing known args) (λ v. v.now) (λ cells. no_error (value_or nought (arguments_in cells args) i)) (Err h) →
    Agrees {A = Bor Value} {B = Value} known (IsMissing known args) (λ v. v.now) (λ cells. and_then (λ v. Ok (sought_for v)) (no_error (value_at (arguments_in cells args) i))) r
sought_halts known args i nought r h z k g =
    ends_so (Agrees {A = Bor Value} {B = Value} known (IsMissing known args) (λ v. v.now) (λ cells. and_then (λ v. Ok (sought_for v)) (no_error (value_at (arguments_in cells args) i)))) r h k
    (passes_on {A = Bor Value} {B = Value} {C = Bor Value} {D = Value} known (IsMissing known args) (λ v. v.now) (λ v. v.now) (λ cells. no_error (value_or nought (arguments_in cells args) i)) (λ cells. and_then (λ v. Ok (sought_for v)) (no_error (value_at (arguments_in cells args) i))) h
    (λ cells e q.
    sought_or_zero (arguments_in cells args) i
    ∙ ap (λ (w : Value). and_then (λ (v : Value). Ok (sought_for v)) (no_error (value_or w (arguments_in cells args) i))) (sym z)
    ∙ ap (λ (o : Result Value ErrorKind). and_then (λ (v : Value). Ok (sought_for v)) o) q) g)

-- ---- INDEX

at_least_one : (n : ℕ) (k : ℤ) (i : ℕ) → Ok i ≡ position_among n k → int_lt k (pos 1) ≡ false
at_least_one n k i h = at (int_lt k (pos 1)) h
  where
    at : (b : Bool) → Ok i ≡ cond b (Err BadValue) (cond (nat_lt n (unsigned_abs k)) (Err BadReference) (Ok (unsigned_abs k - 1))) → b ≡ false
    at true e = cc
    at false e = refl

-- the cell of a row and a column, or the first error from the left
abbrev cell_found : (ℕ → Value) → Area → Result ℕ ErrorKind → Result ℕ ErrorKind → Value
cell_found cells r o w = o >>= (λ row. w >>= (λ column. cell_in (region_of cells r) row column))

pub nth_is : (cells : ℕ → Value) (r : Area) (j k : ℤ) (row column : ℕ) → Ok row ≡ position_among (height r) j → Ok column ≡ position_among (width r) k → row < height r → column < width r → nth_cell (region_of cells r) j k ≡ cells (place (row_of r.first + row) (column_of r.first + column))
nth_is cells r j k row column e f l m =
    ap (λ (b : Bool). cond b (Fault BadValue) (cell_found cells r (position_among (height r) j) (position_among (width r) k))) (or_from (int_lt j (pos 1)) (int_lt k (pos 1)) (at_least_one (height r) j row e) (at_least_one (width r) k column f))
    ∙ ap (λ (o : Result ℕ ErrorKind). cell_found cells r o (position_among (width r) k)) (sym e)
    ∙ ap (λ (o : Result ℕ ErrorKind). cell_found cells r (Ok row) o) (sym f)
    ∙ cell_at cells r row column l m

pub nth_no_row : (r : Area) (j k : ℤ) (o : Result ℕ ErrorKind) (e : ErrorKind) → IsErrAnd o (λ x. x ≡ e) → (int_lt j (pos 1) || int_lt k (pos 1)) ≡ false → Err e ≡ position_among (height r) j → IsPlacedIn r (λ q. nth_cell q j k) o
nth_no_row r j k (Ok c) e h b p = absurd h
nth_no_row r j k (Err x) e h b p = λ cells.
    ap (λ (t : Bool). cond t (Fault BadValue) (cell_found cells r (position_among (height r) j) (position_among (width r) k))) b
    ∙ ap (λ (w : Result ℕ ErrorKind). cell_found cells r w (position_among (width r) k)) (sym p)
    ∙ ap (λ (y : ErrorKind). Fault y) (sym h)

pub nth_within : (r : Area) (row column : ℕ) → row < height r → column < width r → is_within r (place (row_of r.first + row) (column_of r.first + column)) ≡ true
nth_within r row column l m =
    let small : column_of r.first + column < 16384 = omega (arith, m, column_within r.last) in
    let row_is = row_of_place (row_of r.first + row) (column_of r.first + column) small in
    let column_is = column_of_place (row_of r.first + row) (column_of r.first + column) small in
    within_from r (place (row_of r.first + row) (column_of r.first + column)) (omega (arith, row_is)) (omega (arith, row_is, l)) (omega (arith, column_is)) (omega (arith, column_is, m))

pub in_one_column : (cells : ℕ → Value) (r : Area) (k : ℤ) → width r ≡ 1 → nth_cell_along (region_of cells r) k ≡ nth_cell (region_of cells r) k (pos 1)
in_one_column cells r k h = ap (λ (b : Bool). cond b (nth_cell (region_of cells r) k (pos 1)) (cond (height r == 1) (nth_cell (region_of cells r) (pos 1) k) (Fault BadValue))) (eq-eqb (width r) 1 h)

pub in_one_row : (cells : ℕ → Value) (r : Area) (k : ℤ) → (width r == 1) ≡ false → height r ≡ 1 → nth_cell_along (region_of cells r) k ≡ nth_cell (region_of cells r) (pos 1) k
in_one_row cells r k w h =
    ap (λ (b : Bool). cond b (nth_cell (region_of cells r) k (pos 1)) (cond (height r == 1) (nth_cell (region_of cells r) (pos 1) k) (Fault BadValue))) w
    ∙ ap (λ (b : Bool). cond b (nth_cell (region_of cells r) (pos 1) k) (Fault BadValue)) (eq-eqb (height r) 1 h)

-- INDEX by its third argument, and whether there is one
abbrev index_by : List Argument → Value → Bool → Value
index_by args third three = region_at args 0 >>= (λ r. to_whole (value_at args 1) >>= (λ j. to_whole third >>= (λ k.
    cond (three || r.width == 1) (nth_cell r j k) (cond (r.height == 1) (nth_cell r (pos 1) j) (Fault BadValue)))))

one_whole : to_whole (Number one_number) ≡ Ok (pos 1)
one_whole = ap (λ (x : numbers.Number). Ok x.num) (sym (rounded_from Toward one_number one_number refl refl))

of_two : (args : List Argument) → length args < 3 → index_value args ≡ index_along args
of_two args few =
    let none : value_or (Number one_number) args 2 ≡ Number one_number = ap (λ (o : Option Argument). option_map_or (λ (a : Argument). a.value) o (Number one_number)) (slice_get_past args 2 (omega (arith, few))) in
    ap (index_by args (value_or (Number one_number) args 2)) (lt-leb 3 (length args) few)
    ∙ ap (λ (v : Value). index_by args v false) none
    ∙ ap (λ (o : Result ℤ ErrorKind). region_at args 0 >>= (λ r. to_whole (value_at args 1) >>= (λ j. o >>= (λ k. cond (r.width == 1) (nth_cell r j k) (cond (r.height == 1) (nth_cell r (pos 1) j) (Fault BadValue)))))) one_whole

is_given : (default : Value) (args : List Argument) (i : ℕ) → i < length args → value_or default args i ≡ value_at args i
is_given default [] i l = absurd (omega (arith, l))
is_given default (a ∷ args) zero l = refl
is_given default (a ∷ args) (suc i) l = is_given default args i (omega (arith, l))

of_three : (args : List Argument) → 2 < length args → index_value args ≡ index_by_both args
of_three args more =
    let three : 3 ≤ length args = omega (arith, more) in
    ap (index_by args (value_or (Number one_number) args 2)) (le-leb 3 (length args) three)
    ∙ ap (λ (v : Value). index_by args v true) (is_given (Number one_number) args 2 more)

pub with_two : (cells : ℕ → Value) (args : List given.Argument) → length args ≤ 2 → index_value (arguments_in cells args) ≡ index_along (arguments_in cells args)
with_two cells args h =
    let few : length (arguments_in cells args) < 3 = omega (arith, length-map args (argument_in cells), h) in
    of_two (arguments_in cells args) few

pub with_three : (cells : ℕ → Value) (args : List given.Argument) → 2 < length args → index_value (arguments_in cells args) ≡ index_by_both (arguments_in cells args)
with_three cells args h =
    let more : 2 < length (arguments_in cells args) = omega (arith, length-map args (argument_in cells), h) in
    of_three (arguments_in cells args) more
