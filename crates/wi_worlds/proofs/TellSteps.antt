-- What is told of cells: one pair more, and a list of them.
use Rattle.wi_values.proofs.Listed.{has_one_more, has_taken}
use Rattle.wi_worlds.proofs.Words.{◌≡◌, ◌==◌, ◌<◌, ◌+◌, ◌&&◌, ◌||◌, ◌⊎◌, inl, inr, ℕ, Bool, true, false, cond, List, [], ◌∷◌, length, take, get_or, Option, Some, None, nat_eq, refl, sym, ap, ◌∙◌, lookup, unwrap_or, or_cases, or_left, or_right, and_parts, false≢true, eqb-true, is_itself, is_one_of, Recorded, has_recorded, recorded_cells, AddsOf}

-- ---- at one cell

-- its cells are w in the place of v, and those of others are as they were
module _ (cell : ℕ) (v w : List ℕ) (es fs : Recorded) (old : recorded_cells es cell ≡ v)
    (put : (q : ℕ) → lookup (nat_eq q) fs ≡ cond (nat_eq cell q) (Some w) (lookup (nat_eq q) es)) where
  told_is : (c b : ℕ) → has_recorded fs c b ≡ cond (nat_eq cell c) (is_one_of w b) (has_recorded es c b)
  told_is c b = ap (λ (o : Option (List ℕ)). is_one_of (unwrap_or o []) b) (put c) ∙ by (nat_eq cell c)
    where
      by : (t : Bool) → is_one_of (unwrap_or (cond t (Some w) (lookup (nat_eq c) es)) []) b ≡ cond t (is_one_of w b) (has_recorded es c b)
      by true = refl
      by false = refl

  old_there : (c b : ℕ) → nat_eq cell c ≡ true → has_recorded es c b ≡ is_one_of v b
  old_there c b t = ap (λ (q : ℕ). has_recorded es q b) (sym (eqb-true cell c t)) ∙ ap (λ (xs : List ℕ). is_one_of xs b) old

  -- with a cell more
  pub told_more : (a : ℕ) → ((b : ℕ) → is_one_of w b ≡ ((a == b) || is_one_of v b)) → (c b : ℕ) → has_recorded fs c b ≡ (((cell == c) && (a == b)) || has_recorded es c b)
  told_more a more c b = told_is c b ∙ by (nat_eq cell c) refl
    where
      by : (t : Bool) → nat_eq cell c ≡ t → cond t (is_one_of w b) (has_recorded es c b) ≡ ((t && (a == b)) || has_recorded es c b)
      by true t = more b ∙ ap (λ (x : Bool). (a == b) || x) (sym (old_there c b t))
      by false t = refl

  -- as it was
  pub told_same : w ≡ v → (c b : ℕ) → has_recorded fs c b ≡ has_recorded es c b
  told_same e c b = told_is c b ∙ by (nat_eq cell c) refl
    where
      by : (t : Bool) → nat_eq cell c ≡ t → cond t (is_one_of w b) (has_recorded es c b) ≡ has_recorded es c b
      by true t = ap (λ (xs : List ℕ). is_one_of xs b) e ∙ sym (old_there c b t)
      by false t = refl

-- where nothing was told of it
pub told_first : (cell a : ℕ) (value : List ℕ) (es ms fs : Recorded) → ms ≡ es → lookup (nat_eq cell) es ≡ None → value ≡ a ∷ []
    → ((q : ℕ) → lookup (nat_eq q) fs ≡ cond (nat_eq cell q) (Some value) (lookup (nat_eq q) ms)) → (c b : ℕ) → has_recorded fs c b ≡ (((cell == c) && (a == b)) || has_recorded es c b)
told_first cell a value es ms fs same none first put =
    told_more cell [] value es fs (ap (λ (o : Option (List ℕ)). unwrap_or o []) none)
    (λ q. put q ∙ ap (λ (ts : Recorded). cond (nat_eq cell q) (Some value) (lookup (nat_eq q) ts)) same)
    a (λ b. ap (λ (xs : List ℕ). is_one_of xs b) first)

pub told_as_before : (es fs : Recorded) → fs ≡ es → (c b : ℕ) → has_recorded fs c b ≡ has_recorded es c b
told_as_before es fs same c b = ap (λ (ts : Recorded). has_recorded ts c b) same

-- ---- at a list of cells

-- of the first cells it is told that each reaches a, and nothing else came
pub record ToldOf (a : ℕ) (cells : List ℕ) (old new : Recorded) : Type 0 where
  pub adds : AddsOf a cells old new
  pub all : (c : ℕ) → is_one_of cells c ≡ true → has_recorded new c a ≡ true

pub told_none : (a : ℕ) (es fs : Recorded) → ((q : ℕ) → lookup (nat_eq q) fs ≡ lookup (nat_eq q) es) → ToldOf a [] es fs
told_none a es fs same = record {
  adds = record { stays = λ c b h. still c b ∙ h; within = λ c b h. inl (sym (still c b) ∙ h) };
  all = λ c h. absurd (false≢true h);
}
  where
    still : (c b : ℕ) → has_recorded fs c b ≡ has_recorded es c b
    still c b = ap (λ (o : Option (List ℕ)). is_one_of (unwrap_or o []) b) (same c)

-- of one more
pub told_next : (a i x : ℕ) (cells : List ℕ) (old mid new : Recorded) → i < length cells → x ≡ get_or cells i x → ToldOf a (take i cells) old mid
    → ((c b : ℕ) → has_recorded new c b ≡ (((x == c) && (a == b)) || has_recorded mid c b)) → ToldOf a (take (i + 1) cells) old new
told_next a i x cells old mid new l e h put = record {
  adds = record {
    stays = λ c b k. stays c b (h.adds.stays c b k);
    within = λ c b k. came c b (or_cases ((x == c) && (a == b)) (has_recorded mid c b) (sym (put c b) ∙ k));
  };
  all = λ c k. there c (or_cases (is_one_of (take i cells) c) (x == c) (sym (has_one_more cells i x c l e) ∙ k));
}
  where
    stays : (c b : ℕ) → has_recorded mid c b ≡ true → has_recorded new c b ≡ true
    stays c b k = put c b ∙ or_right _ _ k

    last : (c : ℕ) → (x == c) ≡ true → is_one_of (take (i + 1) cells) c ≡ true
    last c k = has_one_more cells i x c l e ∙ or_right _ _ k

    came : (c b : ℕ) → (((x == c) && (a == b)) ≡ true) ⊎ (has_recorded mid c b ≡ true) → (has_recorded old c b ≡ true) ⊎ ((is_one_of (take (i + 1) cells) c ≡ true) × (b ≡ a))
    came c b (inl k) = let p = and_parts (x == c) (a == b) k in inr (last c p.0, sym (eqb-true a b p.1))
    came c b (inr k) = earlier (h.adds.within c b k)
      where
        earlier : (has_recorded old c b ≡ true) ⊎ ((is_one_of (take i cells) c ≡ true) × (b ≡ a)) → (has_recorded old c b ≡ true) ⊎ ((is_one_of (take (i + 1) cells) c ≡ true) × (b ≡ a))
        earlier (inl m) = inl m
        earlier (inr m) = inr (has_one_more cells i x c l e ∙ or_left _ _ m.0, m.1)

    both : (t : Bool) → t ≡ true → (t && (a == a)) ≡ true
    both t k = ap (λ (s : Bool). s && (a == a)) k ∙ is_itself a

    there : (c : ℕ) → (is_one_of (take i cells) c ≡ true) ⊎ ((x == c) ≡ true) → has_recorded new c a ≡ true
    there c (inl k) = stays c a (h.all c k)
    there c (inr k) = put c a ∙ or_left _ _ (both (x == c) k)

-- of some of the cells
pub adds_some : (a i : ℕ) (cells : List ℕ) (old new : Recorded) → AddsOf a (take i cells) old new → AddsOf a cells old new
adds_some a i cells old new h = record { stays = h.stays; within = λ c b k. by c b (h.within c b k) }
  where
    by : (c b : ℕ) → (has_recorded old c b ≡ true) ⊎ ((is_one_of (take i cells) c ≡ true) × (b ≡ a)) → (has_recorded old c b ≡ true) ⊎ ((is_one_of cells c ≡ true) × (b ≡ a))
    by c b (inl k) = inl k
    by c b (inr k) = inr (has_taken cells i c k.0, k.1)

-- where the last try told nothing
pub adds_same : (a : ℕ) (cells : List ℕ) (old mid new : Recorded) → AddsOf a cells old mid → ((c b : ℕ) → has_recorded new c b ≡ has_recorded mid c b) → AddsOf a cells old new
adds_same a cells old mid new h same = record {
  stays = λ c b k. same c b ∙ h.stays c b k;
  within = λ c b k. h.within c b (sym (same c b) ∙ k);
}
