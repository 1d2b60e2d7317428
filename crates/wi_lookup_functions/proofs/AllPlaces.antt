-- What SUMPRODUCT makes of the cells at each place, and of all places.
use Rattle.wi_lookup_functions.proofs.Words.{◌≡◌, ℕ, ◌<◌, ◌≤◌, ◌+◌, Bool, true, false, ◌&&◌, List, [], ◌∷◌, fold, drop, get_or, length, Option, Some, None, IfSome, refl, sym, ap, ◌∙◌, subst, arith, Result, slice_get, nat_lt, if◌then◌else◌, list_all, list_any_at, and_parts, and_from, ltb-true, nat_tests, drop_more, drop_all, Area, cells_of, is_within, ErrorKind, Value, Empty, Logical, addition, zero_number, one_number, is_empty_value, and_then, places_left, within_between, Missing, KnownAgrees, ComesBefore, IsNextFilled, is_known_empty, after_cells, known_is, first_of, Stop, NoValue, Error, Stopped, Agrees, ComesAfter, IsNextPlace, product_there, sum_through, with_factor, with_place, IsMissingInAny, same_extent, same_place}
use Rattle.std.specs.Prelude.{Ok, Err}
use Rattle.wi_fraction.specs.Number as numbers
use Rattle.wi_arguments.proofs.Walking as walk
use Rattle.wi_lookup_functions.proofs.Extents.{same_place_inside}
use Rattle.wi_lookup_functions.proofs.InOrder.{all_at}
use Rattle.wi_lookup_functions.proofs.Zeros.{added_zero, multiplied_zero}

-- ---- the product at one place

module _ (known : ℕ → Option Value) (r : Area) (rs : List Area) (c : ℕ) where
  -- a product with the cell of one more rectangle, or the error met before
  abbrev times : (ℕ → Value) → Result numbers.Number ErrorKind → Area → Result numbers.Number ErrorKind
  times cells before s = and_then (λ x. with_factor x (cells (same_place r s c))) before

  -- the cells of those that are left make of the product so far the whole
  abbrev pub Left : numbers.Number → List Area → Type 0
  Left product left = (cells : ℕ → Value) → KnownAgrees known cells → fold (times cells) (Ok product) left ≡ product_there cells r rs c

  failed : (cells : ℕ → Value) (e : ErrorKind) (ss : List Area) → fold (times cells) (Err e) ss ≡ Err e
  failed cells e [] = refl
  failed cells e (s ∷ ss) = failed cells e ss

  pub starts : (product : numbers.Number) → product ≡ one_number → Left product rs
  starts product e = λ cells l. ap (λ (x : numbers.Number). fold (times cells) (Ok x) rs) e

  taken : (product : numbers.Number) (i : ℕ) (s : Area) (other : ℕ) (v : Value) → i < length rs → s ≡ get_or rs i s → Some v ≡ known other → other ≡ same_place r s c → Left product (drop i rs) →
      (cells : ℕ → Value) → KnownAgrees known cells → fold (times cells) (with_factor product v) (drop (i + 1) rs) ≡ product_there cells r rs c
  taken product i s other v l is k e h cells a =
      ap (λ (w : Value). fold (times cells) (with_factor product w) (drop (i + 1) rs)) (known_is (known other) v (cells other) (a other) k ∙ ap cells e)
      ∙ ap (λ (t : Area). fold (times cells) (Ok product) (t ∷ drop (i + 1) rs)) is
      ∙ ap (fold (times cells) (Ok product)) (sym (drop_more rs i s l))
      ∙ h cells a

  pub goes_on : (product more : numbers.Number) (i : ℕ) (s : Area) (other : ℕ) (v : Value) → i < length rs → s ≡ get_or rs i s → Some v ≡ known other → other ≡ same_place r s c → Ok more ≡ with_factor product v → Left product (drop i rs) → Left more (drop (i + 1) rs)
  goes_on product more i s other v l is k e m h = λ cells a. ap (λ (o : Result numbers.Number ErrorKind). fold (times cells) o (drop (i + 1) rs)) m ∙ taken product i s other v l is k e h cells a

  -- the outcome is the product
  abbrev pub IsProduct : Result numbers.Number (NoValue (Stop ℕ)) → Type 0
  IsProduct o = Agrees known (IsMissingInAny known rs) (λ (x : numbers.Number). x) (λ cells. product_there cells r rs c) o

  pub fails : (product : numbers.Number) (i : ℕ) (s : Area) (other : ℕ) (v : Value) (e : ErrorKind) (x : NoValue (Stop ℕ)) → x ≡ Error e → i < length rs → s ≡ get_or rs i s → Some v ≡ known other → other ≡ same_place r s c → Err e ≡ with_factor product v → Left product (drop i rs) → IsProduct (Err x)
  fails product i s other v e x n l is k o m h =
      subst (λ (y : NoValue (Stop ℕ)). IsProduct (Err y)) (sym n) (λ cells a.
      sym (taken product i s other v l is k o h cells a)
      ∙ ap (λ (q : Result numbers.Number ErrorKind). fold (times cells) q (drop (i + 1) rs)) (sym m)
      ∙ failed cells e (drop (i + 1) rs))

  pub misses : (i : ℕ) (s : Area) (other d : ℕ) (x : NoValue (Stop ℕ)) → x ≡ Stopped (Missing d) → is_within r c ≡ true → list_all (same_extent r) rs ≡ true → i < length rs → s ≡ get_or rs i s → other ≡ same_place r s c → d ≡ other → known d ≡ None → IsProduct (Err x)
  misses i s other d x n w k l is o e m = subst (λ (y : NoValue (Stop ℕ)). IsProduct (Err y)) (sym n) (m, list_any_at (λ t. is_within t d) rs i s l (ap (λ (t : Area). is_within t d) (sym is) ∙ subst (λ (b : ℕ). is_within s b ≡ true) (sym (e ∙ o)) (same_place_inside r s c w (all_at (same_extent r) rs i s l is k))))

  pub ends : (product : numbers.Number) (i : ℕ) → length rs ≤ i → Left product (drop i rs) → IsProduct (Ok product)
  ends product i l h = λ cells a. sym (h cells a) ∙ ap (fold (times cells) (Ok product)) (drop_all i rs l)

-- ---- where all cells at a place are Empty, nothing is added

module _ (cells : ℕ → Value) (r : Area) where
  -- the cells at a place are Empty
  abbrev pub all_empty : List Area → ℕ → Bool
  all_empty rs c = list_all (λ s. is_empty_value (cells (same_place r s c))) rs

  no_factor : (x : numbers.Number) (v : Value) → is_empty_value v ≡ true → with_factor x v ≡ Ok zero_number
  no_factor x Empty h = multiplied_zero x
  no_factor x v h = cc

  stays_zero : (ss : List Area) (c : ℕ) → all_empty ss c ≡ true → fold (times (λ _. None) r ss c cells) (Ok zero_number) ss ≡ Ok zero_number
  stays_zero [] c h = refl
  stays_zero (s ∷ ss) c h =
      let p = and_parts (is_empty_value (cells (same_place r s c))) (all_empty ss c) h in
      ap (λ (o : Result numbers.Number ErrorKind). fold (times (λ _. None) r ss c cells) o ss) (no_factor zero_number (cells (same_place r s c)) p.0)
      ∙ stays_zero ss c p.1

  zero_product : (rs : List Area) (c : ℕ) → Some r ≡ slice_get rs 0 → all_empty rs c ≡ true → product_there cells r rs c ≡ Ok zero_number
  zero_product [] c e h = cc
  zero_product (s ∷ ss) c e h =
      let p = and_parts (is_empty_value (cells (same_place r s c))) (all_empty ss c) h in
      ap (λ (o : Result numbers.Number ErrorKind). fold (times (λ _. None) r ss c cells) o ss) (no_factor one_number (cells (same_place r s c)) p.0)
      ∙ stays_zero ss c p.1

  nothing_added : (t : Result numbers.Number ErrorKind) (rs : List Area) (c : ℕ) → Some r ≡ slice_get rs 0 → all_empty rs c ≡ true → with_place cells r rs t c ≡ t
  nothing_added (Err e) rs c m h = refl
  nothing_added (Ok x) rs c m h = ap (and_then (addition x)) (zero_product rs c m h) ∙ added_zero x

-- ---- the walk through the places

module _ (known : ℕ → Option Value) (r : Area) (all : List Area) where
  -- a place is taken for one cell, which is Empty where all are
  abbrev shown : (ℕ → Value) → ℕ → Value
  shown cells c = if all_empty cells r all c then Empty else Logical true

  -- what a walk makes of the sum so far and one more place
  abbrev after : (ℕ → Value) → Result numbers.Number ErrorKind → ℕ → Value → Result numbers.Number ErrorKind
  after cells t c Empty = t
  after cells t c v = with_place cells r all t c

  empty_there : (o : Option Value) (w : Value) → is_known_empty o ≡ true → IfSome o (λ v. v ≡ w) → is_empty_value w ≡ true
  empty_there None w e h = cc
  empty_there (Some Empty) w e h = ap is_empty_value (sym h)
  empty_there (Some v) w e h = cc

  all_empty_there : (cells : ℕ → Value) → KnownAgrees known cells → (ts : List Area) (a : ℕ) → list_all (λ t. is_known_empty (known (same_place r t a))) ts ≡ true → all_empty cells r ts a ≡ true
  all_empty_there cells l [] a h = refl
  all_empty_there cells l (t ∷ ts) a h =
      let p = and_parts (is_known_empty (known (same_place r t a))) (list_all (λ u. is_known_empty (known (same_place r u a))) ts) h in
      and_from _ _ (empty_there (known (same_place r t a)) (cells (same_place r t a)) p.0 (l (same_place r t a))) (all_empty_there cells l ts a p.1)

  -- a place at which all cells are known to be Empty is shown so
  shown_empty : (cells : ℕ → Value) → KnownAgrees known cells → (a : ℕ) → list_all (λ t. is_known_empty (known (same_place r t a))) all ≡ true → shown cells a ≡ Empty
  shown_empty cells l a h = ap (λ (b : Bool). if b then Empty else Logical true) (all_empty_there cells l all a h)

  -- all that is shown of the places is known
  abbrev all_known : (ℕ → Value) → ℕ → Option Value
  all_known cells c = Some (shown cells c)

  abbrev Whole : (ℕ → Value) → numbers.Number → Option ℕ → Type 0
  Whole cells sum ahead = walk.Rest (after cells) (all_known cells) r (Ok zero_number) (Ok sum) ahead

  -- what is to come makes what is added so far the whole, whatever the cells hold
  pub record Rest (sum : numbers.Number) (ahead : Option ℕ) : Type 0 where
    pub inside : IfSome ahead (λ c. is_within r c ≡ true)
    pub whole : (cells : ℕ → Value) → KnownAgrees known cells → Whole cells sum ahead

  passes : (cells : ℕ → Value) (t : Result numbers.Number ErrorKind) (c : ℕ) → after cells t c Empty ≡ t
  passes cells t c = refl

  -- ---- it begins with the first place at which a cell is filled

  -- a place that comes before what is found
  abbrev comes_before : Option ℕ → ℕ → Bool
  comes_before None a = true
  comes_before (Some c) a = nat_lt a c

  is_before : (found : Option ℕ) (a : ℕ) → comes_before found a ≡ true → ComesBefore a found
  is_before None a h = tt
  is_before (Some c) a h = ltb-true a c h

  before_is : (found : Option ℕ) (a : ℕ) → ComesBefore a found → comes_before found a ≡ true
  before_is None a h = refl
  before_is (Some c) a h = grind (arith, nat_tests, h)

  -- what is known when it begins: the places before what is found are Empty
  abbrev passed_over : Option ℕ → ℕ → Option Value
  passed_over found a = if is_within r a && comes_before found a then Some Empty else None

  found_first : (found : Option ℕ) → IfSome found (λ c. (is_within r c ≡ true) × ComesAfter None c) → IsNextFilled (passed_over found) r r.first found
  found_first None h = record {
    inside = tt;
    filled = tt;
    empty_before = λ a w l b. ap (λ (t : Bool). is_known_empty (if t then Some Empty else None)) (and_from _ _ w refl);
  }
  found_first (Some c) h = record {
    inside = (h.0, (within_between r c h.0).0);
    filled = ap (λ (t : Bool). is_known_empty (if is_within r c && t then Some Empty else None)) (not_before c) ∙ neither (is_within r c);
    empty_before = λ a w l b. ap (λ (t : Bool). is_known_empty (if t then Some Empty else None)) (and_from _ _ w (before_is (Some c) a b));
  }
    where
      not_before : (d : ℕ) → nat_lt d d ≡ false
      not_before d = grind (arith, nat_tests)

      neither : (b : Bool) → is_known_empty (if b && false then Some Empty else None) ≡ false
      neither true = refl
      neither false = refl

  passed_agrees : (cells : ℕ → Value) → KnownAgrees known cells → (found : Option ℕ) → IsNextPlace known r all None found → (others : ℕ → Value) → KnownAgrees (all_known cells) others → KnownAgrees (passed_over found) others
  passed_agrees cells l found h others e a = at (is_within r a && comes_before found a) refl
    where
      at : (b : Bool) → (is_within r a && comes_before found a) ≡ b → IfSome (if b then Some Empty else None) (λ v. v ≡ others a)
      at false m = tt
      at true m = let p = and_parts (is_within r a) (comes_before found a) m in sym (shown_empty cells l a (h.empty_between a p.0 tt (is_before found a p.1))) ∙ e a

  pub begins : (sum : numbers.Number) (found : Option ℕ) → sum ≡ zero_number → IsNextPlace known r all None found → Rest sum found
  begins sum found z h = subst (λ (x : numbers.Number). Rest x found) (sym z) record {
    inside = first_of (λ c. is_within r c ≡ true) (λ c. ComesAfter None c) found h.inside;
    whole = λ cells l.
        let first = walk.begins (after cells) (passes cells) (passed_over found) r (Ok zero_number) r.first found refl (found_first found h.inside) in
        (first.0, λ others e. first.1 others (passed_agrees cells l found h others e));
  }

  -- the outcome is the sum
  abbrev pub IsSum : Result numbers.Number (NoValue (Stop ℕ)) → Type 0
  IsSum o = Agrees known (IsMissingInAny known all) (λ (x : numbers.Number). x) (λ cells. sum_through cells r all) o

  -- and each place comes after the one before
  pub fewer_left : (sum : numbers.Number) (ahead : Option ℕ) (c : ℕ) (found : Option ℕ) → Rest sum ahead → ahead ≡ Some c → IsNextPlace known r all (Some c) found → places_left r found < places_left r ahead
  fewer_left sum ahead c found h a n = subst (λ (o : Option ℕ). places_left r found < places_left r o) (sym a) (at found n.inside)
    where
      last : c ≤ r.last
      last = (within_between r c (subst (λ (o : Option ℕ). IfSome o (λ d. is_within r d ≡ true)) a h.inside)).1

      at : (o : Option ℕ) → IfSome o (λ d. (is_within r d ≡ true) × (c < d)) → places_left r o < places_left r (Some c)
      at None i = omega (arith, last)
      at (Some d) i = omega (arith, last, (within_between r d i.0).1, i.1)

  module _ (head : Some r ≡ slice_get all 0) where
    after_place : (cells : ℕ → Value) (t : Result numbers.Number ErrorKind) (c : ℕ) → after cells t c (shown cells c) ≡ with_place cells r all t c
    after_place cells t c = at (all_empty cells r all c) refl
      where
        at : (b : Bool) → all_empty cells r all c ≡ b → after cells t c (if b then Empty else Logical true) ≡ with_place cells r all t c
        at true h = sym (nothing_added cells r t all c head h)
        at false h = refl

    walked_is : (cells : ℕ → Value) (t : Result numbers.Number ErrorKind) (xs : List ℕ) → after_cells (after cells) (shown cells) t xs ≡ fold (with_place cells r all) t xs
    walked_is cells t [] = refl
    walked_is cells t (x ∷ xs) = walked_is cells (after cells t x (shown cells x)) xs ∙ ap (λ (u : Result numbers.Number ErrorKind). fold (with_place cells r all) u xs) (after_place cells t x)

    -- ---- it goes on

    pub goes_on_place : (sum more product : numbers.Number) (ahead : Option ℕ) (c : ℕ) (found : Option ℕ) → Rest sum ahead → ahead ≡ Some c → IsProduct known r all c (Ok product) → Ok more ≡ addition sum product → IsNextPlace known r all (Some c) found → Rest more found
    goes_on_place sum more product ahead c found h a p m n = record {
      inside = first_of (λ d. is_within r d ≡ true) (λ d. c < d) found n.inside;
      whole = λ cells l. walk.goes_on (after cells) (passes cells) (all_known cells) r (Ok zero_number) (Ok sum) (Ok more) ahead c (shown cells c) found (h.whole cells l) a refl
          (m ∙ ap (and_then (addition sum)) (sym (p cells l)) ∙ sym (after_place cells (Ok sum) c))
          (record { inside = n.inside; empty_between = λ b w k j. ap (λ (v : Value). is_known_empty (Some v)) (shown_empty cells l b (n.empty_between b w k j)) });
    }

    error_stays : (cells : ℕ → Value) (e : ErrorKind) (c : ℕ) (v : Value) → after cells (Err e) c v ≡ Err e
    error_stays cells e c Empty = refl
    error_stays cells e c v = refl

    stopped : (sum : numbers.Number) (e : ErrorKind) (ahead : Option ℕ) (c : ℕ) → Rest sum ahead → ahead ≡ Some c → (cells : ℕ → Value) → KnownAgrees known cells → with_place cells r all (Ok sum) c ≡ Err e → sum_through cells r all ≡ Err e
    stopped sum e ahead c h a cells l m =
        sym (walked_is cells (Ok zero_number) (cells_of r))
        ∙ sym (walk.stops (after cells) (all_known cells) r (Ok zero_number) (Ok sum) (Err e) ahead c (shown cells c) (h.whole cells l) a refl (sym m ∙ sym (after_place cells (Ok sum) c)) (λ d w. error_stays cells e d w) (shown cells) (λ d. refl))

    -- the product at a place fails or a cell is missing
    pub product_fails : (sum : numbers.Number) (ahead : Option ℕ) (c : ℕ) (y x : NoValue (Stop ℕ)) → x ≡ y → Rest sum ahead → ahead ≡ Some c → IsProduct known r all c (Err y) → IsSum (Err x)
    product_fails sum ahead c y x n h a p = subst (λ (z : NoValue (Stop ℕ)). IsSum (Err z)) (sym n) (at y p)
      where
        at : (z : NoValue (Stop ℕ)) → IsProduct known r all c (Err z) → IsSum (Err z)
        at (Error e) q = λ cells l. stopped sum e ahead c h a cells l (ap (and_then (addition sum)) (q cells l))
        at (Stopped t) q = q

    -- or the sum doesn't fit
    pub sum_fails : (sum product : numbers.Number) (ahead : Option ℕ) (c : ℕ) (e : ErrorKind) (x : NoValue (Stop ℕ)) → x ≡ Error e → Rest sum ahead → ahead ≡ Some c → IsProduct known r all c (Ok product) → Err e ≡ addition sum product → IsSum (Err x)
    sum_fails sum product ahead c e x n h a p m = subst (λ (z : NoValue (Stop ℕ)). IsSum (Err z)) (sym n) (λ cells l. stopped sum e ahead c h a cells l (ap (and_then (addition sum)) (p cells l) ∙ sym m))

    pub sum_ends : (sum : numbers.Number) (ahead : Option ℕ) → Rest sum ahead → ahead ≡ None → IsSum (Ok sum)
    sum_ends sum ahead h a = λ cells l. sym (walked_is cells (Ok zero_number) (cells_of r)) ∙ sym (walk.ends (after cells) (all_known cells) r (Ok zero_number) (Ok sum) ahead (h.whole cells l) a (shown cells) (λ d. refl))
