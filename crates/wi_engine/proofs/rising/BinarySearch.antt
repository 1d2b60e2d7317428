-- What a binary search among cells in row-major order finds, and how the order is kept.
use Rattle.std.proofs.lemmas.Option.{get_or_from_slice_get}
use Rattle.wi_values.proofs.Order.{cmp_equal}
use Rattle.wi_engine.proofs.Words.{◌≡◌, ◌++◌, ℕ, ◌<◌, ◌-◌, List, [], ◌∷◌, Some, None, Ok, refl, Result, MatchResult, All, length, get_or, map-id, found_by_key, slice_get, sym, ap, ◌∙◌, subst, arith, nat_cmp, IsSearchInRange, IsBinarySearchResult, IsStrictlySortedBy, lookup, keys_of, is_at, All-nil, All-cons, All-head, All-tail, Value, ComeAfter, Ascends, Ascends-from_order, order-from_Ascends}

-- the keys ascend
abbrev pub Rises : List (ℕ × Value) → Type 0
Rises es = IsStrictlySortedBy nat_cmp (keys_of es)

abbrev pub IsBelow : ℕ → ℕ × Value → Type 0
IsBelow a e = e.0 < a

-- ---- a search

pub searched_of : (v seen : List (ℕ × Value)) (a : ℕ) (r s : Result ℕ ℕ) → Rises v → seen ≡ v → r ≡ s
    → IsSearchInRange r (length seen) → IsBinarySearchResult (λ e. nat_cmp e.0 a) seen r
    → MatchResult s (λ i. (x : ℕ × Value) → Some (get_or seen i x).1 ≡ lookup (is_at (nat_cmp a)) v) (λ i. None ≡ lookup (is_at (nat_cmp a)) v)
searched_of v seen a r s order same is within position =
    subst (λ (es : List (ℕ × Value)). MatchResult s (λ i. (x : ℕ × Value) → Some (get_or seen i x).1 ≡ lookup (is_at (nat_cmp a)) es) (λ i. None ≡ lookup (is_at (nat_cmp a)) es)) (map-id seen ∙ same)
    (found_by_key (λ (e : ℕ × Value). e.0) (λ (e : ℕ × Value). e.1) seen (subst Rises (sym same) order) a r s is within position)

-- ---- the last

within_last : (es : List (ℕ × Value)) (x : ℕ × Value) → Some x ≡ slice_get es (length es - 1) → length es - 1 < length es
within_last [] x is = cc
within_last (e ∷ es) x is = omega arith

pub last_found : (v seen : List (ℕ × Value)) (x : ℕ × Value) → Rises v → seen ≡ v → Some x ≡ slice_get seen (length seen - 1) → Some x.1 ≡ lookup (is_at (nat_cmp x.0)) v
last_found v seen x order same is =
    let here : (d : ℕ × Value) → get_or seen (length seen - 1) d ≡ x = λ d. get_or_from_slice_get seen (length seen - 1) x d (sym is) in
    let found = found_by_key (λ (e : ℕ × Value). e.0) (λ (e : ℕ × Value). e.1) seen (subst Rises (sym same) order) x.0 (Ok (length seen - 1)) (Ok (length seen - 1)) refl (within_last seen x is) (λ d. ap (λ (e : ℕ × Value). nat_cmp e.0 x.0) (here d) ∙ cmp_equal x.0 x.0 refl) in
    subst (λ (es : List (ℕ × Value)). Some x.1 ≡ lookup (is_at (nat_cmp x.0)) es) (map-id seen ∙ same) (ap (λ (e : ℕ × Value). Some e.1) (sym (here x)) ∙ found x)

-- ---- the order

pub none_rise : (es : List (ℕ × Value)) → es ≡ [] → Rises es
none_rise es e = subst Rises (sym e) (order-from_Ascends {X = Value} [] tt)

-- where the last comes before a cell, all do
last_below : (e : ℕ × Value) (es : List (ℕ × Value)) (x : ℕ × Value) (a : ℕ) → Ascends (e ∷ es) → slice_get (e ∷ es) (length es) ≡ Some x → x.0 < a → All (IsBelow a) (e ∷ es)
last_below e [] x a asc is l =
    let same : e ≡ x = let z = is in cc in
    All-cons (IsBelow a) e [] (subst (IsBelow a) (sym same) l) (All-nil (IsBelow a))
last_below e (f ∷ fs) x a asc is l =
    let rest = last_below f fs x a asc.1 is l in
    let next : f.0 < a = All-head (IsBelow a) f fs rest in
    All-cons (IsBelow a) e (f ∷ fs) (omega (arith, asc.0.0, next)) rest

all_below : (es : List (ℕ × Value)) (x : ℕ × Value) (a : ℕ) → Ascends es → Some x ≡ slice_get es (length es - 1) → x.0 < a → All (IsBelow a) es
all_below [] x a asc is l = All-nil (IsBelow a)
all_below (e ∷ es) x a asc is l =
    let count : length (e ∷ es) - 1 ≡ length es = omega arith in
    last_below e es x a asc (sym (is ∙ ap (slice_get (e ∷ es)) count)) l

pub ends : (v seen : List (ℕ × Value)) (x : ℕ × Value) (a : ℕ) → Rises seen → seen ≡ v → Some x ≡ slice_get seen (length seen - 1) → x.0 < a → All (IsBelow a) v
ends v seen x a order same is l = subst (λ (es : List (ℕ × Value)). All (IsBelow a) es) same (all_below seen x a (Ascends-from_order seen order) is l)

come_more : (b a : ℕ) (v : Value) (es : List (ℕ × Value)) → b < a → ComeAfter b es → ComeAfter b (es ++ (a, v) ∷ [])
come_more b a v [] l h = (l, tt)
come_more b a v (e ∷ es) l h = (h.0, come_more b a v es l h.1)

ascend_more : (a : ℕ) (v : Value) (es : List (ℕ × Value)) → Ascends es → All (IsBelow a) es → Ascends (es ++ (a, v) ∷ [])
ascend_more a v [] asc h = (tt, tt)
ascend_more a v (e ∷ es) asc h = (come_more e.0 a v es (All-head (IsBelow a) e es h) asc.0, ascend_more a v es asc.1 (All-tail (IsBelow a) e es h))

-- with a cell behind them that comes after all
pub rise_more : (es fs : List (ℕ × Value)) (a : ℕ) (v : Value) → Rises es → All (λ e. e.0 < a) es → fs ≡ es ++ (a, v) ∷ [] → Rises fs
rise_more es fs a v order h e = subst Rises (sym e) (order-from_Ascends (es ++ (a, v) ∷ []) (ascend_more a v es (Ascends-from_order es order) h))
