-- What MIN, MAX, AND and OR make of the items: of those that count, one is chosen.
use Rattle.wi_fold_functions.proofs.Words.{◌≡◌, Bool, true, false, ◌&&◌, List, [], ◌∷◌, fold, Option, Some, None, refl, ap, ◌∙◌, ◌||◌, unwrap_or, Result, Ok, Err, flat_map, reduce, list_all, list_any, option_to_list, ErrorKind, Value, Number, Logical, Argument, zero_number, tested, and_value, or_value, Item, sequence_of, number_of_item, logical_of_item, all_that_count, min_value, max_value, smaller_number, greater_number, ◌>>=◌, and_then, map_until_error, fold_until_error, AllTrue, AnyTrue, Greatest, Least, go_on_through, chosen, chosen_with, least_with, greatest_with, all_with, any_with, number_chosen, logical_chosen}
use Rattle.wi_fraction.specs.Number as numbers
use Rattle.wi_fold_functions.proofs.Steps.{stays, fold_held}

-- ---- of any kind

module _ {B : Type 0} (counts : Item → Result (Option B) ErrorKind) (choose : B → B → B) where
  -- what is chosen with more that count
  abbrev chosen_of : Option B → List B → Option B
  chosen_of before xs = fold (λ o x. chosen choose o (Some x)) before xs

  -- the choice from what was chosen so far
  abbrev Chooses : Option B → List Item → Type 0
  Chooses before items = fold_until_error (chosen_with counts choose) before items ≡ and_then (λ xs. Ok (chosen_of before xs)) (all_that_count counts items)

  one_found : (before found : Option B) (rest : Result (List (Option B)) ErrorKind) →
      and_then (λ xs. Ok (chosen_of (chosen choose before found) xs)) (and_then (λ os. Ok (flat_map option_to_list os)) rest) ≡ and_then (λ xs. Ok (chosen_of before xs)) (and_then (λ os. Ok (flat_map option_to_list os)) (and_then (λ os. Ok (found ∷ os)) rest))
  one_found before None (Ok os) = refl
  one_found before (Some x) (Ok os) = refl
  one_found before found (Err e) = refl

  one_item : (before : Option B) (r : Result (Option B) ErrorKind) (items : List Item) → ((o : Option B) → Chooses o items) →
      go_on_through (chosen_with counts choose) (and_then (λ found. Ok (chosen choose before found)) r) items ≡
      and_then (λ xs. Ok (chosen_of before xs)) (and_then (λ os. Ok (flat_map option_to_list os)) (and_then (λ found. and_then (λ os. Ok (found ∷ os)) (map_until_error counts items)) r))
  one_item before (Err e) items h = stays (chosen_with counts choose) e items
  one_item before (Ok found) items h = h (chosen choose before found) ∙ one_found before found (map_until_error counts items)

  chooses : (before : Option B) (items : List Item) → Chooses before items
  chooses before [] = refl
  chooses before (item ∷ items) = one_item before (counts item) items (λ o. chooses o items)

  from_one : (x : B) (xs : List B) → chosen_of (Some x) xs ≡ Some (fold choose x xs)
  from_one x [] = refl
  from_one x (y ∷ ys) = from_one (choose x y) ys

  from_none : (xs : List B) → chosen_of None xs ≡ reduce choose xs
  from_none [] = refl
  from_none (x ∷ xs) = from_one x xs

  shown : (value : Option B → Value) (test : List B → Value) → ((xs : List B) → value (reduce choose xs) ≡ test xs) → (r : Result (List B) ErrorKind) → (and_then (λ xs. Ok (chosen_of None xs)) r >>= value) ≡ (r >>= test)
  shown value test h (Ok xs) = ap value (from_none xs) ∙ h xs
  shown value test h (Err e) = refl

  pub choice : (value : Option B → Value) (test : List B → Value) → ((xs : List B) → value (reduce choose xs) ≡ test xs) → (before : Option B) → before ≡ None → (items : List Item) →
      (fold_until_error (chosen_with counts choose) before items >>= value) ≡ (all_that_count counts items >>= test)
  choice value test h before e items =
      ap (λ (o : Option B). fold_until_error (chosen_with counts choose) o items >>= value) e
      ∙ ap (λ (r : Result (Option B) ErrorKind). r >>= value) (chooses None items)
      ∙ shown value test h (all_that_count counts items)

-- ---- of numbers

or_zero : (o : Option numbers.Number) → number_chosen o ≡ Number (unwrap_or o zero_number)
or_zero None = refl
or_zero (Some x) = refl

pub min_is : (args : List Argument) (s : Least) → s.least ≡ None → (fold_until_error least_with s (sequence_of args) >>= (λ t. number_chosen t.least)) ≡ min_value args
min_is args s e =
    fold_held {A = Option numbers.Number} {B = Least} (λ t. t.least) (λ o. record { least = o }) (chosen_with number_of_item smaller_number) number_chosen (λ o. refl) (λ t. refl) s (sequence_of args)
    ∙ choice number_of_item smaller_number number_chosen (λ xs. Number (unwrap_or (reduce smaller_number xs) zero_number)) (λ xs. or_zero (reduce smaller_number xs)) s.least e (sequence_of args)

pub max_is : (args : List Argument) (s : Greatest) → s.greatest ≡ None → (fold_until_error greatest_with s (sequence_of args) >>= (λ t. number_chosen t.greatest)) ≡ max_value args
max_is args s e =
    fold_held {A = Option numbers.Number} {B = Greatest} (λ t. t.greatest) (λ o. record { greatest = o }) (chosen_with number_of_item greater_number) number_chosen (λ o. refl) (λ t. refl) s (sequence_of args)
    ∙ choice number_of_item greater_number number_chosen (λ xs. Number (unwrap_or (reduce greater_number xs) zero_number)) (λ xs. or_zero (reduce greater_number xs)) s.greatest e (sequence_of args)

-- ---- of truth values

fold_and : (b : Bool) (bs : List Bool) → fold ◌&&◌ b bs ≡ (b && list_all (λ c. c) bs)
fold_and true [] = refl
fold_and false [] = refl
fold_and true (c ∷ bs) = fold_and c bs
fold_and false (c ∷ bs) = fold_and false bs

fold_or : (b : Bool) (bs : List Bool) → fold ◌||◌ b bs ≡ (b || list_any (λ c. c) bs)
fold_or true [] = refl
fold_or false [] = refl
fold_or true (c ∷ bs) = fold_or true bs
fold_or false (c ∷ bs) = fold_or c bs

all_tested : (bs : List Bool) → logical_chosen (reduce ◌&&◌ bs) ≡ tested (list_all (λ b. b)) bs
all_tested [] = refl
all_tested (b ∷ bs) = ap Logical (fold_and b bs)

any_tested : (bs : List Bool) → logical_chosen (reduce ◌||◌ bs) ≡ tested (list_any (λ b. b)) bs
any_tested [] = refl
any_tested (b ∷ bs) = ap Logical (fold_or b bs)

pub and_is : (args : List Argument) (s : AllTrue) → s.all ≡ None → (fold_until_error all_with s (sequence_of args) >>= (λ t. logical_chosen t.all)) ≡ and_value args
and_is args s e =
    fold_held {A = Option Bool} {B = AllTrue} (λ t. t.all) (λ o. record { all = o }) (chosen_with logical_of_item ◌&&◌) logical_chosen (λ o. refl) (λ t. refl) s (sequence_of args)
    ∙ choice logical_of_item ◌&&◌ logical_chosen (tested (list_all (λ b. b))) all_tested s.all e (sequence_of args)

pub or_is : (args : List Argument) (s : AnyTrue) → s.any ≡ None → (fold_until_error any_with s (sequence_of args) >>= (λ t. logical_chosen t.any)) ≡ or_value args
or_is args s e =
    fold_held {A = Option Bool} {B = AnyTrue} (λ t. t.any) (λ o. record { any = o }) (chosen_with logical_of_item ◌||◌) logical_chosen (λ o. refl) (λ t. refl) s (sequence_of args)
    ∙ choice logical_of_item ◌||◌ logical_chosen (tested (list_any (λ b. b))) any_tested s.any e (sequence_of args)
