-- What is told of replaced cells, and the replacements that reach a cell.
use Rattle.std.proofs.lemmas.Bool.{or_right}
use Rattle.wi_propagate.proofs.KeptCones.{none_recorded}
use Rattle.wi_propagate.proofs.Words.{◌≡◌, ◌==◌, ◌||◌, ◌&&◌, ◌⊎◌, inl, inr, ◌<◌, ◌+◌, ℕ, Bool, true, false, cond, List, [], ◌∷◌, length, take, get_or, Result, Ok, Err, OnOk, OnErr, filter, refl, ap, sym, ◌∙◌, subst, list_all, or_cases, and_parts, or-false, or_left, is_itself, list_all_more, Replacement, Sheet, ReachTable, AddsOf, is_known, is_reached_by, reached_by, is_one_of, reaches, in_cone, same_cell, one_truth, reaching, AreAllCones}

-- ---- one cell more

module _ (s : Sheet) (a : ℕ) (cone : List ℕ) (old new : ReachTable) (h : AreAllCones s old)
    (is : (c : ℕ) → is_one_of cone c ≡ in_cone s (a ∷ []) c) (adds : AddsOf a cone old.reached new.reached) where
  in_one : (c : ℕ) → in_cone s (a ∷ []) c ≡ reaches s c a
  in_one c = or-false (reaches s c a)

  so_still : (c b : ℕ) → reached_by new c b ≡ true → reaches s c b ≡ true
  so_still c b k = by (adds.within c b k)
    where
      by : (reached_by old c b ≡ true) ⊎ ((is_one_of cone c ≡ true) × (b ≡ a)) → reaches s c b ≡ true
      by (inl m) = h.so c b m
      by (inr m) = subst (λ (x : ℕ). reaches s c x ≡ true) (sym m.1) (sym (in_one c) ∙ sym (is c) ∙ m.0)

  all_still : (c b : ℕ) → is_known old b ≡ true → reaches s c b ≡ true → reached_by new c b ≡ true
  all_still c b k r = adds.stays c b (h.all c b k r)

  known_with : ((b : ℕ) → is_known new b ≡ ((a == b) || is_known old b)) → (c b : ℕ) → reached_by new c b ≡ true → is_known new b ≡ true
  known_with known c b k = by (adds.within c b k)
    where
      by : (reached_by old c b ≡ true) ⊎ ((is_one_of cone c ≡ true) × (b ≡ a)) → is_known new b ≡ true
      by (inl m) = known b ∙ or_right (a == b) (is_known old b) (h.of_known c b m)
      by (inr m) = known b ∙ or_left (a == b) (is_known old b) (ap (λ x. a == x) m.1 ∙ is_itself a)

  cones_with : ((b : ℕ) → is_known new b ≡ ((a == b) || is_known old b)) → ((c : ℕ) → is_one_of cone c ≡ true → reached_by new c a ≡ true) → AreAllCones s new
  cones_with known all = record { of_known = known_with known; so = so_still; all = λ c b k r. by c b r (or_cases (a == b) (is_known old b) (sym (known b) ∙ k)) }
    where
      by : (c b : ℕ) → reaches s c b ≡ true → ((a == b) ≡ true) ⊎ (is_known old b ≡ true) → reached_by new c b ≡ true
      by c b r (inl m) =
          let same : a ≡ b = same_cell b a m in
          subst (λ (x : ℕ). reached_by new c x ≡ true) same
          (all c (is c ∙ in_one c ∙ ap (reaches s c) same ∙ r))
      by c b r (inr m) = all_still c b m r

-- whether it was told of all, or memory ran out and nothing is told any more
pub cones_tried : (s : Sheet) (a : ℕ) (cone : List ℕ) (old new : ReachTable) → AreAllCones s old → ((c : ℕ) → is_one_of cone c ≡ in_cone s (a ∷ []) c)
    → {T E : Type 0} (r : Result T E) → OnOk r (AddsOf a cone old.reached new.reached) → OnOk r ((b : ℕ) → is_known new b ≡ ((a == b) || is_known old b))
    → OnOk r ((c : ℕ) → is_one_of cone c ≡ true → reached_by new c a ≡ true) → OnErr r (new ≡ record { known = []; reached = [] }) → AreAllCones s new
cones_tried s a cone old new h is (Ok x) adds known all err = cones_with s a cone old new h is adds known all
cones_tried s a cone old new h is (Err e) adds known all err = none_recorded s new err

-- what is known stays
pub known_still : {T E : Type 0} (a : ℕ) (old new : ReachTable) (r : Result T E) → OnOk r ((b : ℕ) → is_known new b ≡ ((a == b) || is_known old b))
    → OnOk r ((b : ℕ) → is_known old b ≡ true → is_known new b ≡ true)
known_still a old new (Ok x) known = λ b h. known b ∙ or_right (a == b) (is_known old b) h
known_still a old new (Err e) known = tt

-- ---- replacements passed one after another

all_still_known : (old new : ReachTable) → ((b : ℕ) → is_known old b ≡ true → is_known new b ≡ true) → (w : List Replacement)
    → list_all (λ r. is_known old r.at) w ≡ true → list_all (λ r. is_known new r.at) w ≡ true
all_still_known old new h [] k = refl
all_still_known old new h (r ∷ rs) k =
    let p = and_parts (is_known old r.at) _ k in
    ap (λ (b : Bool). b && list_all (λ x. is_known new x.at) rs) (h r.at p.0) ∙ all_still_known old new h rs p.1

-- those that were passed are known, and one more
pub all_known_more : (old new : ReachTable) (w : List Replacement) (i : ℕ) (r : Replacement) → i < length w → r ≡ get_or w i r → list_all (λ x. is_known old x.at) (take i w) ≡ true
    → ((b : ℕ) → is_known old b ≡ true → is_known new b ≡ true) → is_known new r.at ≡ true → list_all (λ x. is_known new x.at) (take (i + 1) w) ≡ true
all_known_more old new w i r l e h stay there =
    list_all_more (λ x. is_known new x.at) w i r l
    ∙ ap (λ (b : Bool). b && is_known new (get_or w i r).at) (all_still_known old new stay (take i w) h)
    ∙ ap (λ (x : Replacement). is_known new x.at) (sym e) ∙ there

-- ---- the replacements that reach a cell

-- with all replaced cells known, those that reach a cell are told
pub worlds_all : (s : Sheet) (t : ReachTable) (c : ℕ) → AreAllCones s t → (w : List Replacement) → list_all (λ r. is_known t r.at) w ≡ true → filter (is_reached_by t c) w ≡ reaching s c w
worlds_all s t c h [] k = refl
worlds_all s t c h (r ∷ rs) k =
    let p = and_parts (is_known t r.at) _ k in
    let here : is_reached_by t c r ≡ reaches s c r.at = one_truth (reached_by t c r.at) (reaches s c r.at) (h.so c r.at) (h.all c r.at p.0) in
    ap (λ (b : Bool). cond b (r ∷ filter (is_reached_by t c) rs) (filter (is_reached_by t c) rs)) here
    ∙ ap (λ (v : List Replacement). cond (reaches s c r.at) (r ∷ v) v) (worlds_all s t c h rs p.1)
