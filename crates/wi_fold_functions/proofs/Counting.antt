-- What COUNT, COUNTA and AVERAGE make of the items.
use Rattle.wi_fold_functions.proofs.Words.{◌≡◌, ℕ, ◌+◌, Bool, true, cond, not, List, [], ◌∷◌, length, fold, Option, Some, None, refl, sym, ap, ◌∙◌, subst, arith, is_some, Result, Ok, Err, IfErr, IsErrAnd, flat_map, option_to_list, ErrorKind, Value, Number, Argument, addition, division, whole_number, whole_value, zero_number, is_number_value, is_empty_value, count_value, count_a_value, Item, sequence_of, value_of_item, number_of_item, numbers_of, number_fold, with_number, average_value, ◌>>=◌, and_then, map_until_error, fold_until_error, counted, IsCut, cut_counted, cut_more, cut_number, cut_value, none_cut, FilledCount, NumberCount, Average, go_on_through, calculated_with, numbers_with, filled_with, mean_with, mean_value}
use Rattle.wi_fraction.specs.Number as numbers
use Rattle.wi_fold_functions.proofs.Steps.{stays}

-- ---- COUNT and COUNTA

-- a count from so many on
abbrev count_from : (Value → Bool) → ℕ → List Item → ℕ
count_from test n items = fold (λ k item. k + cond (test (value_of_item item)) 1 0) n items

numbers_counted : (items : List Item) (s : NumberCount) (n : ℕ) → IsCut s.numbers n → (fold_until_error numbers_with s items >>= (λ t. whole_value t.numbers)) ≡ whole_value (count_from is_number_value n items)
numbers_counted [] s n e = cut_value s.numbers n e
numbers_counted (item ∷ items) s n e =
    let test = is_number_value (value_of_item item) in
    numbers_counted items (record { numbers = counted test s.numbers }) (n + cond test 1 0) (cut_counted test s.numbers n e)

filled_counted : (items : List Item) (s : FilledCount) (n : ℕ) → IsCut s.filled n → (fold_until_error filled_with s items >>= (λ t. whole_value t.filled)) ≡ whole_value (count_from (λ v. not (is_empty_value v)) n items)
filled_counted [] s n e = cut_value s.filled n e
filled_counted (item ∷ items) s n e =
    let test = not (is_empty_value (value_of_item item)) in
    filled_counted items (record { filled = counted test s.filled }) (n + cond test 1 0) (cut_counted test s.filled n e)

pub count_is : (args : List Argument) (s : NumberCount) → s.numbers ≡ 0 → (fold_until_error numbers_with s (sequence_of args) >>= (λ t. whole_value t.numbers)) ≡ count_value args
count_is args s e = numbers_counted (sequence_of args) s 0 (none_cut s.numbers e)

pub count_a_is : (args : List Argument) (s : FilledCount) → s.filled ≡ 0 → (fold_until_error filled_with s (sequence_of args) >>= (λ t. whole_value t.filled)) ≡ count_a_value args
count_a_is args s e = filled_counted (sequence_of args) s 0 (none_cut s.filled e)

-- ---- AVERAGE

-- what is shown, where the sum, the numbers and how many came before them are known
abbrev average_of : Result numbers.Number ErrorKind → Result (List numbers.Number) ErrorKind → ℕ → Value
average_of sum found n = sum >>= (λ total. found >>= (λ xs. whole_number (n + length xs) >>= (λ count. division total count >>= (λ mean. Number mean))))

-- the numbers found among items
abbrev numbers_found : Result (List (Option numbers.Number)) ErrorKind → Result (List numbers.Number) ErrorKind
numbers_found r = and_then (λ os. Ok (flat_map option_to_list os)) r

-- and with one more item before them
abbrev found_before : Option numbers.Number → Result (List (Option numbers.Number)) ErrorKind → Result (List (Option numbers.Number)) ErrorKind
found_before o r = and_then (λ os. Ok (o ∷ os)) r

-- the average of the items and of what came before
abbrev Averages : List Item → Average → ℕ → Type 0
Averages items s n = (fold_until_error mean_with s items >>= mean_value) ≡ average_of (number_fold addition s.total items) (numbers_of items) n

mean_shown : (x : numbers.Number) (r : Result numbers.Number ErrorKind) → (and_then (λ n. division x n) r >>= (λ y. Number y)) ≡ (r >>= (λ n. division x n >>= (λ y. Number y)))
mean_shown x (Ok n) = refl
mean_shown x (Err e) = refl

none_found : (sum : Result numbers.Number ErrorKind) (r : Result (List (Option numbers.Number)) ErrorKind) (n : ℕ) → average_of sum (numbers_found r) n ≡ average_of sum (numbers_found (found_before None r)) n
none_found sum (Ok os) n = refl
none_found sum (Err e) n = refl

one_found : (sum : Result numbers.Number ErrorKind) (x : numbers.Number) (r : Result (List (Option numbers.Number)) ErrorKind) (n : ℕ) → average_of sum (numbers_found r) (n + 1) ≡ average_of sum (numbers_found (found_before (Some x) r)) n
one_found sum x (Err e) n = refl
one_found sum x (Ok os) n =
    let same : (n + 1) + length (flat_map option_to_list os) ≡ n + length (x ∷ flat_map option_to_list os) = omega arith in
    ap (λ (k : ℕ). sum >>= (λ total. whole_number k >>= (λ count. division total count >>= (λ mean. Number mean)))) same

failed : (e : ErrorKind) (items : List Item) (found : Result (List numbers.Number) ErrorKind) (n : ℕ) → (go_on_through mean_with (Err e) items >>= mean_value) ≡ average_of (go_on_through (calculated_with addition) (Err e) items) found n
failed e items found n =
    ap (λ (r : Result Average ErrorKind). r >>= mean_value) (stays mean_with e items)
    ∙ sym (ap (λ (r : Result numbers.Number ErrorKind). average_of r found n) (stays (calculated_with addition) e items))

one_number : (sum : Result numbers.Number ErrorKind) (x : numbers.Number) (items : List Item) (c n : ℕ) → IsCut c n → ((s : Average) (k : ℕ) → IsCut s.count k → Averages items s k) →
    (go_on_through mean_with (and_then (λ y. Ok (record { total = y; count = counted true c })) sum) items >>= mean_value) ≡ average_of (go_on_through (calculated_with addition) sum items) (numbers_found (found_before (Some x) (map_until_error number_of_item items))) n
one_number (Err e) x items c n h next = failed e items (numbers_found (found_before (Some x) (map_until_error number_of_item items))) n
one_number (Ok y) x items c n h next =
    next (record { total = y; count = counted true c }) (n + 1) (cut_more c n h)
    ∙ one_found (number_fold addition y items) x (map_until_error number_of_item items) n

one_item : (r : Result (Option numbers.Number) ErrorKind) (items : List Item) (s : Average) (n : ℕ) → IsCut s.count n → ((t : Average) (k : ℕ) → IsCut t.count k → Averages items t k) →
    (go_on_through mean_with (and_then (λ found. and_then (λ x. Ok (record { total = x; count = counted (is_some found) s.count })) (with_number addition s.total found)) r) items >>= mean_value) ≡
    average_of (go_on_through (calculated_with addition) (and_then (λ found. with_number addition s.total found) r) items) (numbers_found (and_then (λ found. found_before found (map_until_error number_of_item items)) r)) n
one_item (Err e) items s n h next = failed e items (Err e) n
one_item (Ok None) items s n h next = next s n h ∙ none_found (number_fold addition s.total items) (map_until_error number_of_item items) n
one_item (Ok (Some x)) items s n h next = one_number (addition s.total x) x items s.count n h next

averages : (items : List Item) (s : Average) (n : ℕ) → IsCut s.count n → Averages items s n
averages [] s n h =
    let same : n ≡ n + 0 = omega arith in
    mean_shown s.total (whole_number s.count)
    ∙ ap (λ (r : Result numbers.Number ErrorKind). r >>= (λ count. division s.total count >>= (λ mean. Number mean))) (cut_number s.count n h ∙ ap whole_number same)
averages (item ∷ items) s n h = one_item (number_of_item item) items s n h (λ t k i. averages items t k i)

pub average_is : (args : List Argument) (s : Average) → s.total ≡ zero_number → s.count ≡ 0 → (fold_until_error mean_with s (sequence_of args) >>= mean_value) ≡ average_value args
average_is args s e f =
    averages (sequence_of args) s 0 (none_cut s.count f)
    ∙ ap (λ (x : numbers.Number). average_of (number_fold addition x (sequence_of args)) (numbers_of (sequence_of args)) 0) e
    ∙ from_start (number_fold addition zero_number (sequence_of args)) (numbers_of (sequence_of args))
  where
    from_start : (sum : Result numbers.Number ErrorKind) (found : Result (List numbers.Number) ErrorKind) → average_of sum found 0 ≡ (sum >>= (λ total. found >>= (λ xs. whole_number (length xs) >>= (λ count. division total count >>= (λ mean. Number mean)))))
    from_start sum (Err e) = refl
    from_start sum (Ok xs) =
        let same : 0 + length xs ≡ length xs = omega arith in
        ap (λ (k : ℕ). sum >>= (λ total. whole_number k >>= (λ count. division total count >>= (λ mean. Number mean)))) same

-- ---- one more item for a mean

abbrev average : numbers.Number → ℕ → Average
average x n = record { total = x; count = n }

abbrev mean_found : Average → Option numbers.Number → Result Average ErrorKind
mean_found s found = and_then (λ x. Ok (average x (counted (is_some found) s.count))) (with_number addition s.total found)

pub mean_error : (s : Average) (item : Item) (e : ErrorKind) → number_of_item item ≡ Err e → mean_with s item ≡ Err e
mean_error s item e h = ap (and_then (mean_found s)) h

pub mean_same : (s : Average) (item : Item) → number_of_item item ≡ Ok None → mean_with s item ≡ Ok s
mean_same s item h = ap (and_then (mean_found s)) h

pub mean_more : (s : Average) (item : Item) (x y : numbers.Number) (n : ℕ) → number_of_item item ≡ Ok (Some x) → addition s.total x ≡ Ok y → n ≡ counted true s.count →
    mean_with s item ≡ Ok (record { total = y; count = n })
mean_more s item x y n h k m =
    ap (and_then (mean_found s)) h ∙ ap (and_then (λ z. Ok (average z (counted true s.count)))) k ∙ ap (λ c. Ok (average y c)) (sym m)

pub mean_too_great : (s : Average) (item : Item) (x : numbers.Number) (e : ErrorKind) → number_of_item item ≡ Ok (Some x) → addition s.total x ≡ Err e → mean_with s item ≡ Err e
mean_too_great s item x e h k = ap (and_then (mean_found s)) h ∙ ap (and_then (λ z. Ok (average z (counted true s.count)))) k

pub error_told : {A T : Type 0} (made : Result A ErrorKind) (r : Result T ErrorKind) (e : ErrorKind) → IsErrAnd r (λ d. d ≡ e) → made ≡ Err e → IfErr r (λ d. made ≡ Err d)
error_told made (Ok x) e h k = absurd h
error_told made (Err d) e h k = subst (λ x. made ≡ Err x) (sym h) k
