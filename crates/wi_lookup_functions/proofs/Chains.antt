-- The functions by their steps.
use Rattle.wi_lookup_functions.proofs.Words.{◌≡◌, ℕ, ℤ, ◌+◌, Bool, true, false, cond, List, map, Option, Ok, Err, sym, ap, ◌∙◌, ok_or, range_with_len, Area, cells_of, ErrorKind, BadValue, NotAvailable, Value, Number, Logical, Fault, Argument, Region, region_of, region_at, value_or, value_at, whole_value, one_number, to_number, to_whole, to_logical, no_error, index_along, index_by_both, match_value, nth_cell, nth_cell_along, position_among, values_along, type_for, match_position, sought_for, ◌>>=◌, and_then, Rule, Axis, cell_in_line, lines_in, look_up_by, width_in, is_line, position_by, rule_in_order, rule_of_match_type}
use Rattle.std.proofs.Common.{Result}
use Rattle.wi_fraction.specs.Number as numbers
use Rattle.wi_lookup_functions.proofs.Searches.{by_match_type, by_order}

step : {A : Type 0} (o : Result A ErrorKind) (x : A) (f : A → Value) → o ≡ Ok x → (o >>= f) ≡ f x
step {A} o x f h = ap (λ (p : Result A ErrorKind). p >>= f) h

fails : {A : Type 0} (o : Result A ErrorKind) (e : ErrorKind) (f : A → Value) → o ≡ Err e → (o >>= f) ≡ Fault e
fails {A} o e f h = ap (λ (p : Result A ErrorKind). p >>= f) h

-- ---- what is sought

abbrev pub sought_in : List Argument → Result Value ErrorKind
sought_in args = and_then (λ v. Ok (sought_for v)) (no_error (value_at args 0))

seeks : (o : Result Value ErrorKind) (f : Value → Value) (s : Value) → and_then (λ v. Ok (sought_for v)) o ≡ Ok s → (o >>= (λ v. f (sought_for v))) ≡ f s
seeks (Ok v) f s h = let same : sought_for v ≡ s = cc in ap f same
seeks (Err e) f s h = cc

seeks_nothing : (o : Result Value ErrorKind) (f : Value → Value) (e : ErrorKind) → and_then (λ v. Ok (sought_for v)) o ≡ Err e → (o >>= (λ v. f (sought_for v))) ≡ Fault e
seeks_nothing (Ok v) f e h = cc
seeks_nothing (Err d) f e h = let same : d ≡ e = cc in ap (λ (x : ErrorKind). Fault x) same

-- ---- INDEX

pub along_area : (args : List Argument) (e : ErrorKind) → region_at args 0 ≡ Err e → index_along args ≡ Fault e
along_area args e h = fails (region_at args 0) e (λ r. to_whole (value_at args 1) >>= nth_cell_along r) h

pub along_number : (args : List Argument) (r : Region) (e : ErrorKind) → region_at args 0 ≡ Ok r → to_whole (value_at args 1) ≡ Err e → index_along args ≡ Fault e
along_number args r e h k = step (region_at args 0) r (λ q. to_whole (value_at args 1) >>= nth_cell_along q) h ∙ fails (to_whole (value_at args 1)) e (nth_cell_along r) k

pub along : (args : List Argument) (r : Region) (k : ℤ) → region_at args 0 ≡ Ok r → to_whole (value_at args 1) ≡ Ok k → index_along args ≡ nth_cell_along r k
along args r k h l = step (region_at args 0) r (λ q. to_whole (value_at args 1) >>= nth_cell_along q) h ∙ step (to_whole (value_at args 1)) k (nth_cell_along r) l

abbrev pub by_row : List Argument → Region → Value
by_row args r = to_whole (value_at args 1) >>= (λ j. to_whole (value_at args 2) >>= nth_cell r j)

pub both_area : (args : List Argument) (e : ErrorKind) → region_at args 0 ≡ Err e → index_by_both args ≡ Fault e
both_area args e h = fails (region_at args 0) e (by_row args) h

pub both_row : (args : List Argument) (r : Region) (e : ErrorKind) → region_at args 0 ≡ Ok r → to_whole (value_at args 1) ≡ Err e → index_by_both args ≡ Fault e
both_row args r e h k = step (region_at args 0) r (by_row args) h ∙ fails (to_whole (value_at args 1)) e (λ j. to_whole (value_at args 2) >>= nth_cell r j) k

pub both_column : (args : List Argument) (r : Region) (j : ℤ) (e : ErrorKind) → region_at args 0 ≡ Ok r → to_whole (value_at args 1) ≡ Ok j → to_whole (value_at args 2) ≡ Err e → index_by_both args ≡ Fault e
both_column args r j e h k l =
    step (region_at args 0) r (by_row args) h ∙ step (to_whole (value_at args 1)) j (λ i. to_whole (value_at args 2) >>= nth_cell r i) k ∙ fails (to_whole (value_at args 2)) e (nth_cell r j) l

pub both : (args : List Argument) (r : Region) (j k : ℤ) → region_at args 0 ≡ Ok r → to_whole (value_at args 1) ≡ Ok j → to_whole (value_at args 2) ≡ Ok k → index_by_both args ≡ nth_cell r j k
both args r j k h l m =
    step (region_at args 0) r (by_row args) h ∙ step (to_whole (value_at args 1)) j (λ i. to_whole (value_at args 2) >>= nth_cell r i) l ∙ step (to_whole (value_at args 2)) k (nth_cell r j) m

-- ---- MATCH

abbrev pub placed : numbers.Number → Value → List Value → Value
placed x s vs = ok_or (match_position x s vs) NotAvailable >>= (λ i. whole_value (i + 1))

abbrev pub match_type_in : List Argument → Result numbers.Number ErrorKind
match_type_in args = to_number (value_or (Number one_number) args 2)

abbrev pub match_in : List Argument → Value → Value
match_in args s = region_at args 1 >>= (λ r. match_type_in args >>= (λ x. values_along r >>= placed x s))

pub match_no_sought : (args : List Argument) (e : ErrorKind) → sought_in args ≡ Err e → match_value args ≡ Fault e
match_no_sought args e h = seeks_nothing (no_error (value_at args 0)) (match_in args) e h

pub match_no_area : (args : List Argument) (s : Value) (e : ErrorKind) → sought_in args ≡ Ok s → region_at args 1 ≡ Err e → match_value args ≡ Fault e
match_no_area args s e h k = seeks (no_error (value_at args 0)) (match_in args) s h ∙ fails (region_at args 1) e (λ r. match_type_in args >>= (λ x. values_along r >>= placed x s)) k

pub match_no_type : (args : List Argument) (s : Value) (r : Region) (e : ErrorKind) → sought_in args ≡ Ok s → region_at args 1 ≡ Ok r → match_type_in args ≡ Err e → match_value args ≡ Fault e
match_no_type args s r e h k l =
    seeks (no_error (value_at args 0)) (match_in args) s h
    ∙ step (region_at args 1) r (λ q. match_type_in args >>= (λ x. values_along q >>= placed x s)) k
    ∙ fails (match_type_in args) e (λ x. values_along r >>= placed x s) l

pub match_along : (args : List Argument) (s : Value) (r : Region) (x : numbers.Number) → sought_in args ≡ Ok s → region_at args 1 ≡ Ok r → match_type_in args ≡ Ok x → match_value args ≡ (values_along r >>= placed x s)
match_along args s r x h k l =
    seeks (no_error (value_at args 0)) (match_in args) s h
    ∙ step (region_at args 1) r (λ q. match_type_in args >>= (λ y. values_along q >>= placed y s)) k
    ∙ step (match_type_in args) x (λ y. values_along r >>= placed y s) l

pub match_off_line : (args : List Argument) (cells : ℕ → Value) (s : Value) (r : Area) (x : numbers.Number) → sought_in args ≡ Ok s → region_at args 1 ≡ Ok (region_of cells r) → match_type_in args ≡ Ok x → is_line r ≡ false → match_value args ≡ Fault BadValue
match_off_line args cells s r x h k l e =
    match_along args s (region_of cells r) x h k l ∙ ap (λ (b : Bool). cond b (Ok (map cells (cells_of r))) (Err BadValue) >>= placed x s) e

pub match_on_line : (args : List Argument) (cells : ℕ → Value) (s : Value) (r : Area) (x : numbers.Number) (rule : Rule) → sought_in args ≡ Ok s → region_at args 1 ≡ Ok (region_of cells r) → match_type_in args ≡ Ok x → is_line r ≡ true → rule ≡ rule_of_match_type x →
    match_value args ≡ (ok_or (position_by rule s (map cells (cells_of r))) NotAvailable >>= (λ i. whole_value (i + 1)))
match_on_line args cells s r x rule h k l e m =
    match_along args s (region_of cells r) x h k l
    ∙ ap (λ (b : Bool). cond b (Ok (map cells (cells_of r))) (Err BadValue) >>= placed x s) e
    ∙ ap (λ (o : Option ℕ). ok_or o NotAvailable >>= (λ i. whole_value (i + 1))) (by_match_type x s (map cells (cells_of r)) ∙ ap (λ (t : Rule). position_by t s (map cells (cells_of r))) (sym m))

-- ---- VLOOKUP and HLOOKUP

abbrev pub order_in : List Argument → Result Bool ErrorKind
order_in args = to_logical (value_or (Logical true) args 3)

abbrev pub first_cells_in : Axis → Region → List Value
first_cells_in axis r = map (λ line. cell_in_line axis r line 0) (range_with_len 0 (lines_in axis r))

abbrev pub seen_in : Bool → Value → List Value → Result ℕ ErrorKind
seen_in b s vs = ok_or (match_position (type_for b) s vs) NotAvailable

-- what they do with the values of their arguments
abbrev in_line : Axis → Value → Region → ℤ → Bool → Value
in_line axis s r k b = position_among (width_in axis r) k >>= (λ i. seen_in b s (first_cells_in axis r) >>= (λ line. cell_in_line axis r line i))

abbrev look_up : Axis → List Argument → Value → Value
look_up axis args s = region_at args 1 >>= (λ r. to_whole (value_at args 2) >>= (λ k. order_in args >>= in_line axis s r k))

-- the arguments are these
pub record IsAsked (args : List Argument) (s : Value) (r : Region) (k : ℤ) (b : Bool) : Type 0 where
  pub sought_is : sought_in args ≡ Ok s
  pub region_is : region_at args 1 ≡ Ok r
  pub number_is : to_whole (value_at args 2) ≡ Ok k
  pub order_is : order_in args ≡ Ok b

module _ (axis : Axis) (args : List Argument) where
  pub no_sought : (e : ErrorKind) → sought_in args ≡ Err e → look_up_by axis args ≡ Fault e
  no_sought e h = seeks_nothing (no_error (value_at args 0)) (look_up axis args) e h

  pub no_area : (s : Value) (e : ErrorKind) → sought_in args ≡ Ok s → region_at args 1 ≡ Err e → look_up_by axis args ≡ Fault e
  no_area s e h k =
      seeks (no_error (value_at args 0)) (look_up axis args) s h
      ∙ fails (region_at args 1) e (λ r. to_whole (value_at args 2) >>= (λ k. order_in args >>= in_line axis s r k)) k

  with_region : (s : Value) (r : Region) → sought_in args ≡ Ok s → region_at args 1 ≡ Ok r → look_up_by axis args ≡ (to_whole (value_at args 2) >>= (λ k. order_in args >>= in_line axis s r k))
  with_region s r h k =
      seeks (no_error (value_at args 0)) (look_up axis args) s h
      ∙ step (region_at args 1) r (λ q. to_whole (value_at args 2) >>= (λ k. order_in args >>= in_line axis s q k)) k

  pub no_number : (s : Value) (r : Region) (e : ErrorKind) → sought_in args ≡ Ok s → region_at args 1 ≡ Ok r → to_whole (value_at args 2) ≡ Err e → look_up_by axis args ≡ Fault e
  no_number s r e h k l = with_region s r h k ∙ fails (to_whole (value_at args 2)) e (λ j. order_in args >>= in_line axis s r j) l

  with_number : (s : Value) (r : Region) (k : ℤ) → sought_in args ≡ Ok s → region_at args 1 ≡ Ok r → to_whole (value_at args 2) ≡ Ok k → look_up_by axis args ≡ (order_in args >>= in_line axis s r k)
  with_number s r k h l m = with_region s r h l ∙ step (to_whole (value_at args 2)) k (λ j. order_in args >>= in_line axis s r j) m

  pub no_order : (s : Value) (r : Region) (k : ℤ) (e : ErrorKind) → sought_in args ≡ Ok s → region_at args 1 ≡ Ok r → to_whole (value_at args 2) ≡ Ok k → order_in args ≡ Err e → look_up_by axis args ≡ Fault e
  no_order s r k e h l m n = with_number s r k h l m ∙ fails (order_in args) e (in_line axis s r k) n

  looks : (s : Value) (r : Region) (k : ℤ) (b : Bool) → IsAsked args s r k b → look_up_by axis args ≡ in_line axis s r k b
  looks s r k b a = with_number s r k a.sought_is a.region_is a.number_is ∙ step (order_in args) b (in_line axis s r k) a.order_is

  pub no_place : (s : Value) (r : Region) (k : ℤ) (b : Bool) (e : ErrorKind) → IsAsked args s r k b → position_among (width_in axis r) k ≡ Err e → look_up_by axis args ≡ Fault e
  no_place s r k b e a h = looks s r k b a ∙ fails (position_among (width_in axis r) k) e (λ i. seen_in b s (first_cells_in axis r) >>= (λ line. cell_in_line axis r line i)) h

  with_place : (s : Value) (r : Region) (k : ℤ) (b : Bool) (i : ℕ) → IsAsked args s r k b → position_among (width_in axis r) k ≡ Ok i → look_up_by axis args ≡ (seen_in b s (first_cells_in axis r) >>= (λ line. cell_in_line axis r line i))
  with_place s r k b i a h = looks s r k b a ∙ step (position_among (width_in axis r) k) i (λ j. seen_in b s (first_cells_in axis r) >>= (λ line. cell_in_line axis r line j)) h

  pub not_seen : (s : Value) (r : Region) (k : ℤ) (b : Bool) (i : ℕ) (e : ErrorKind) → IsAsked args s r k b → position_among (width_in axis r) k ≡ Ok i → seen_in b s (first_cells_in axis r) ≡ Err e → look_up_by axis args ≡ Fault e
  not_seen s r k b i e a h l = with_place s r k b i a h ∙ fails (seen_in b s (first_cells_in axis r)) e (λ line. cell_in_line axis r line i) l

  pub seen : (s : Value) (r : Region) (k : ℤ) (b : Bool) (i line : ℕ) → IsAsked args s r k b → position_among (width_in axis r) k ≡ Ok i → seen_in b s (first_cells_in axis r) ≡ Ok line → look_up_by axis args ≡ cell_in_line axis r line i
  seen s r k b i line a h l = with_place s r k b i a h ∙ step (seen_in b s (first_cells_in axis r)) line (λ j. cell_in_line axis r j i) l

pub seen_along : (rule : Rule) (b : Bool) (s : Value) (vs ws : List Value) → vs ≡ ws → rule ≡ rule_in_order b → seen_in b s vs ≡ ok_or (position_by rule s ws) NotAvailable
seen_along rule b s vs ws e h = ap (seen_in b s) e ∙ ap (λ (o : Option ℕ). ok_or o NotAvailable) (by_order b s ws ∙ ap (λ (t : Rule). position_by t s ws) (sym h))
