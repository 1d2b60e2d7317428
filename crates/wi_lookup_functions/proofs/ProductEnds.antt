-- The sum over all places is SUMPRODUCT, and how SUMPRODUCT ends.
use Rattle.wi_lookup_functions.proofs.Words.{◌≡◌, ℕ, suc, ◌+◌, ◌-◌, ◌==◌, Bool, true, false, ◌&&◌, ◌||◌, List, [], ◌∷◌, ◌++◌, map, fold, length, Option, Some, None, refl, sym, ap, ◌∙◌, subst, arith, Result, slice_get, unwrap_or, if◌then◌else◌, list_all, list_any, range_with_len, and_parts, and_from, eq-eqb, length-map, list_all-map, slice_get-map, Area, cells_of, is_within, is_within_one, row_of, column_of, ErrorKind, BadValue, Value, Empty, Number, Region, region_of, region_referred, addition, multiplication, zero_number, one_number, same_size, of_one_size, factor, product_at, products, sum_of_items, sum_product_value, Item, scalar, number_of_item, with_number, ◌>>=◌, and_then, map_until_error, Missing, Memory, arguments_in, refers_to, Stop, NoValue, Error, Stopped, Agrees, Gives, areas_of, product_there, sum_over, sum_through, with_factor, with_place, IsAreaError, IsMissingInAny, same_extent, same_place}
use Rattle.std.proofs.Common.{option_map}
use Rattle.std.specs.Prelude.{Ok, Err}
use Rattle.wi_fraction.specs.Number as numbers
use Rattle.wi_arguments.specs.declared.argument.Argument as given
use Rattle.wi_lookup_functions.proofs.Extents.{cells_moved}
use Rattle.wi_lookup_functions.proofs.Sums.{added}

-- ---- the sum over all places is the sum of the products

-- a product with one more item
abbrev multiplied : Result numbers.Number ErrorKind → Item → Result numbers.Number ErrorKind
multiplied before item = and_then (λ x. and_then (with_number multiplication x) (number_of_item item)) before

product_added : (before p : Result numbers.Number ErrorKind) → added before (scalar (p >>= (λ x. Number x))) ≡ and_then (λ x. and_then (addition x) p) before
product_added (Err e) p = refl
product_added (Ok x) (Ok y) = refl
product_added (Ok x) (Err e) = refl

by_index : {X Y : Type 0} (g : ℕ → Y) (h : X → Y) (xs : List X) (k : ℕ) → ((j : ℕ) (x : X) → slice_get xs j ≡ Some x → g (k + j) ≡ h x) → map g (range_with_len k (length xs)) ≡ map h xs
by_index g h [] k same = refl
by_index {Y = Y} g h (x ∷ xs) k same =
    let first : k ≡ k + 0 = omega arith in
    ap (λ (y : Y). y ∷ map g (range_with_len (k + 1) (length xs))) (ap g first ∙ same 0 x refl)
    ∙ ap (λ (ys : List Y). h x ∷ ys) (by_index g h xs (k + 1) (λ j z e. let next : (k + 1) + j ≡ k + suc j = omega arith in ap g next ∙ same (suc j) z e))

module _ (cells : ℕ → Value) (r : Area) where
  -- the value at a place of a region, counted in row-major order
  abbrev value_in : ℕ → Region → Value
  value_in i q = unwrap_or (slice_get q.values i) Empty

  same_value : (i c : ℕ) (s : Area) → slice_get (cells_of r) i ≡ Some c → same_extent r s ≡ true → value_in i (region_of cells s) ≡ cells (same_place r s c)
  same_value i c s e k =
      ap (λ (cs : List ℕ). unwrap_or (slice_get (map cells cs) i) Empty) (cells_moved r s k)
      ∙ ap (λ (o : Option Value). unwrap_or o Empty)
      (slice_get-map cells (map (same_place r s) (cells_of r)) i
      ∙ ap (option_map cells) (slice_get-map (same_place r s) (cells_of r) i ∙ ap (option_map (same_place r s)) e))

  same_factors : (i c : ℕ) (t : Result numbers.Number ErrorKind) (ss : List Area) → slice_get (cells_of r) i ≡ Some c → list_all (same_extent r) ss ≡ true →
      fold multiplied t (map (λ (q : Region). factor (value_in i q)) (map (region_of cells) ss)) ≡ fold (λ before s. and_then (λ x. with_factor x (cells (same_place r s c))) before) t ss
  same_factors i c t [] e k = refl
  same_factors i c t (s ∷ ss) e k =
      let p = and_parts (same_extent r s) (list_all (same_extent r) ss) k in
      ap (λ (v : Value). fold multiplied (multiplied t (factor v)) (map (λ (q : Region). factor (value_in i q)) (map (region_of cells) ss))) (same_value i c s e p.0)
      ∙ same_factors i c (and_then (λ x. with_factor x (cells (same_place r s c))) t) ss e p.1

  -- the product at a place of all rectangles, as an item
  abbrev item_there : List Area → ℕ → Item
  item_there rs c = scalar (product_there cells r rs c >>= (λ x. Number x))

  all_added : (rs : List Area) (t : Result numbers.Number ErrorKind) (xs : List ℕ) → fold added t (map (item_there rs) xs) ≡ fold (with_place cells r rs) t xs
  all_added rs t [] = refl
  all_added rs t (x ∷ xs) = all_added rs (added t (item_there rs x)) xs ∙ ap (λ (u : Result numbers.Number ErrorKind). fold (with_place cells r rs) u xs) (product_added t (product_there cells r rs x))

  all_products : (ss : List Area) → list_all (same_extent r) (r ∷ ss) ≡ true → sum_of_items (products (map (region_of cells) (r ∷ ss))) ≡ sum_through cells r (r ∷ ss)
  all_products ss k =
      ap (λ (n : ℕ). fold added (Ok zero_number) (map (λ i. scalar (product_at (map (region_of cells) (r ∷ ss)) i)) (range_with_len 0 n))) (length-map (cells_of r) cells)
      ∙ ap (fold added (Ok zero_number)) (by_index (λ i. scalar (product_at (map (region_of cells) (r ∷ ss)) i)) (item_there (r ∷ ss)) (cells_of r) 0 same)
      ∙ all_added (r ∷ ss) (Ok zero_number) (cells_of r)
    where
      same : (j c : ℕ) → slice_get (cells_of r) j ≡ Some c → scalar (product_at (map (region_of cells) (r ∷ ss)) (0 + j)) ≡ item_there (r ∷ ss) c
      same j c e =
          let here : 0 + j ≡ j = omega arith in
          ap (λ (i : ℕ). scalar (product_at (map (region_of cells) (r ∷ ss)) i)) here
          ∙ ap (λ (o : Result numbers.Number ErrorKind). scalar (o >>= (λ x. Number x))) (same_factors j c (Ok one_number) (r ∷ ss) e k)

-- ---- rectangles, of which one is the first

-- the outcome is the sum over the rectangles
abbrev pub Summed : (ℕ → Option Value) → List Area → Result numbers.Number (NoValue (Stop ℕ)) → Type 0
Summed known rs o = Agrees known (IsMissingInAny known rs) (λ (x : numbers.Number). x) (λ cells. sum_over (map (region_of cells) rs)) o

itself : (r : Area) → same_extent r r ≡ true
itself r =
    let height = (row_of r.last + 1) - row_of r.first in
    let width = (column_of r.last + 1) - column_of r.first in
    and_from (height == height) (width == width) (eq-eqb height height refl) (eq-eqb width width refl)

by_size : (b : Bool) (cells : ℕ → Value) (r : Area) (ss : List Area) → list_all (same_extent r) (r ∷ ss) ≡ b → sum_over (map (region_of cells) (r ∷ ss)) ≡ and_then (λ rs. sum_of_items (products rs)) (if b then Ok (map (region_of cells) (r ∷ ss)) else Err BadValue)
by_size b cells r ss h =
    ap (λ (d : Bool). and_then (λ rs. sum_of_items (products rs)) (if d then Ok (map (region_of cells) (r ∷ ss)) else Err BadValue))
    (list_all-map (same_size (region_of cells r)) (region_of cells) ss ∙ ap (λ (d : Bool). d && list_all (same_extent r) ss) (sym (itself r)) ∙ h)

-- a rectangle that stands first
first_is : (r s : Area) (ss : List Area) → Some r ≡ slice_get (s ∷ ss) 0 → s ∷ ss ≡ r ∷ ss
first_is r s ss h = ap (λ (q : Area). q ∷ ss) (at h)
  where
    at : Some r ≡ Some s → s ≡ r
    at m = cc

module _ (known : ℕ → Option Value) (rs : List Area) where
  pub none_summed : (x : numbers.Number) → None ≡ slice_get rs 0 → x ≡ zero_number → Summed known rs (Ok x)
  none_summed x h z = at rs h
    where
      at : (ss : List Area) → None ≡ slice_get ss 0 → Summed known ss (Ok x)
      at [] k = λ cells l. sym (ap Ok z)
      at (s ∷ ss) k = cc

  module _ (r : Area) (head : Some r ≡ slice_get rs 0) where
    sum_is : (b : Bool) (cells : ℕ → Value) → list_all (same_extent r) rs ≡ b → sum_over (map (region_of cells) rs) ≡ (if b then sum_through cells r rs else Err BadValue)
    sum_is b cells h = at rs head h
      where
        of_first : (d : Bool) (ss : List Area) → list_all (same_extent r) (r ∷ ss) ≡ d → and_then (λ qs. sum_of_items (products qs)) (if d then Ok (map (region_of cells) (r ∷ ss)) else Err BadValue) ≡ (if d then sum_through cells r (r ∷ ss) else Err BadValue)
        of_first true ss k = all_products cells r ss k
        of_first false ss k = refl

        at : (qs : List Area) → Some r ≡ slice_get qs 0 → list_all (same_extent r) qs ≡ b → sum_over (map (region_of cells) qs) ≡ (if b then sum_through cells r qs else Err BadValue)
        at [] m k = cc
        at (s ∷ ss) m k =
            subst (λ (qs : List Area). list_all (same_extent r) qs ≡ b → sum_over (map (region_of cells) qs) ≡ (if b then sum_through cells r qs else Err BadValue)) (sym (first_is r s ss m))
            (λ j. by_size b cells r ss j ∙ of_first b ss j) k

    pub sizes_differ : list_all (same_extent r) rs ≡ false → Summed known rs (Err (Error BadValue))
    sizes_differ h = λ cells l. sum_is false cells h

    pub through_is : (o : Result numbers.Number (NoValue (Stop ℕ))) → list_all (same_extent r) rs ≡ true → Agrees known (IsMissingInAny known rs) (λ (x : numbers.Number). x) (λ cells. sum_through cells r rs) o → Summed known rs o
    through_is (Ok x) h q = λ cells l. sum_is true cells h ∙ q cells l
    through_is (Err (Error e)) h q = λ cells l. sum_is true cells h ∙ q cells l
    through_is (Err (Stopped t)) h q = q

-- ---- the rectangles that the arguments refer to

regions_are : (cells : ℕ → Value) (args : List given.Argument) → map_until_error region_referred (arguments_in cells args) ≡ and_then (λ rs. Ok (map (region_of cells) rs)) (areas_of args)
regions_are cells [] = refl
regions_are cells (given.TheVariants.Value v ∷ args) = refl
regions_are cells (given.TheVariants.Reference r ∷ args) = ap (and_then (λ ys. Ok (region_of cells r ∷ ys))) (regions_are cells args) ∙ at (areas_of args)
  where
    at : (o : Result (List Area) ErrorKind) → and_then (λ ys. Ok (region_of cells r ∷ ys)) (and_then (λ rs. Ok (map (region_of cells) rs)) o) ≡ and_then (λ rs. Ok (map (region_of cells) rs)) (and_then (λ ys. Ok (r ∷ ys)) o)
    at (Ok rs) = refl
    at (Err e) = refl

referred : (c : ℕ) (args : List given.Argument) (rs : List Area) → areas_of args ≡ Ok rs → list_any (refers_to c) args ≡ is_within_one rs c
referred c [] rs e = let same : [] ≡ rs = cc in ap (λ (xs : List Area). is_within_one xs c) same
referred c (given.TheVariants.Value v ∷ args) rs e = cc
referred c (given.TheVariants.Reference r ∷ args) rs e = at (areas_of args) (λ ys m. referred c args ys m) e
  where
    at : (o : Result (List Area) ErrorKind) → ((ys : List Area) → o ≡ Ok ys → list_any (refers_to c) args ≡ is_within_one ys c) → and_then (λ ys. Ok (r ∷ ys)) o ≡ Ok rs → (is_within r c || list_any (refers_to c) args) ≡ is_within_one rs c
    at (Ok ys) again n = let same : r ∷ ys ≡ rs = cc in ap (λ (b : Bool). is_within r c || b) (again ys refl) ∙ ap (λ (xs : List Area). is_within_one xs c) same
    at (Err x) again n = cc

module _ (args : List given.Argument) where
  -- those that are still to be taken make of those that are taken all
  abbrev pub Taken : List Area → List given.Argument → Type 0
  Taken taken left = and_then (λ rs. Ok (taken ++ rs)) (areas_of left) ≡ areas_of args

  -- ---- the ends of SUMPRODUCT

  -- SUMPRODUCT from its regions on
  abbrev from_regions : List Region → Value
  from_regions regions = of_one_size regions >>= (λ rs. sum_of_items (products rs) >>= (λ x. Number x))

  shown_sum : (o : Result (List Region) ErrorKind) → (o >>= (λ rs. sum_of_items (products rs) >>= (λ x. Number x))) ≡ (and_then (λ rs. sum_of_items (products rs)) o >>= (λ x. Number x))
  shown_sum (Ok rs) = refl
  shown_sum (Err e) = refl

  at_areas : (cells : ℕ → Value) (o : Result (List Area) ErrorKind) → areas_of args ≡ o → sum_product_value (arguments_in cells args) ≡ (and_then (λ rs. Ok (map (region_of cells) rs)) o >>= from_regions)
  at_areas cells o e = ap (λ (p : Result (List Region) ErrorKind). p >>= from_regions) (regions_are cells args ∙ ap (and_then (λ rs. Ok (map (region_of cells) rs))) e)

  at_sum : (cells : ℕ → Value) (rs : List Area) (o : Result numbers.Number ErrorKind) → areas_of args ≡ Ok rs → sum_over (map (region_of cells) rs) ≡ o → sum_product_value (arguments_in cells args) ≡ (o >>= (λ x. Number x))
  at_sum cells rs o e h = at_areas cells (Ok rs) e ∙ shown_sum (of_one_size (map (region_of cells) rs)) ∙ ap (λ (p : Result numbers.Number ErrorKind). p >>= (λ x. Number x)) h

  module _ (known : ℕ → Option Value) where
    pub ends_at_areas : (y x : NoValue (Stop ℕ)) → x ≡ y → IsAreaError args y → Gives known sum_product_value args (Err x)
    ends_at_areas y x m h = subst (λ (z : NoValue (Stop ℕ)). Gives known sum_product_value args (Err z)) (sym m) (at y h)
      where
        at : (z : NoValue (Stop ℕ)) → IsAreaError args z → Gives known sum_product_value args (Err z)
        at (Error e) k = λ cells l. sym (at_areas cells (Err e) k)
        at (Stopped (Missing c)) k = cc
        at (Stopped Memory) k = tt

    pub ends_summed : (rs : List Area) (x : numbers.Number) → areas_of args ≡ Ok rs → Summed known rs (Ok x) → Gives known sum_product_value args (Ok (Number x))
    ends_summed rs x e q = λ cells l. sym (at_sum cells rs (Ok x) e (q cells l))

    pub ends_in_sum : (rs : List Area) (y x : NoValue (Stop ℕ)) → x ≡ y → areas_of args ≡ Ok rs → Summed known rs (Err y) → Gives known sum_product_value args (Err x)
    ends_in_sum rs y x m e q = subst (λ (z : NoValue (Stop ℕ)). Gives known sum_product_value args (Err z)) (sym m) (at y q)
      where
        at : (z : NoValue (Stop ℕ)) → Summed known rs (Err z) → Gives known sum_product_value args (Err z)
        at (Error n) p = λ cells l. sym (at_sum cells rs (Err n) e (p cells l))
        at (Stopped (Missing c)) p = (p.0, referred c args rs e ∙ p.1)
        at (Stopped Memory) p = tt
