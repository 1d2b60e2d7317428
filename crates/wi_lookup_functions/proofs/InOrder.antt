-- Places of rectangles of one size, in row-major order.
use Rattle.wi_lookup_functions.proofs.Words.{◌≡◌, ℕ, ◌<◌, ◌≤◌, ◌-◌, ◌+◌, Bool, true, false, ◌&&◌, inl, inr, List, [], ◌∷◌, length, take, get_or, Option, Some, None, IfSome, refl, sym, ap, ◌∙◌, subst, arith, list_all, and_parts, and_from, cases_lt, eq-eqb, take_all, min-eq_left, min-eq_right, list_all_more, list_all_at, Area, is_within, row_of, column_of, Value, within_between, ComesBefore, IsNextFilled, is_known_empty, IsNextAfter, sooner, ComesAfter, IsNextPlace, same_extent, same_place}
use Rattle.std.proofs.Common.{option_map}
use Rattle.wi_lookup_functions.proofs.Extents.{within_other, same_place_inside, sizes}

pub turned : (r s : Area) → same_extent r s ≡ true → same_extent s r ≡ true
turned r s k = let p = sizes r s k in and_from _ _ (eq-eqb _ _ (sym p.heights)) (eq-eqb _ _ (sym p.widths))

-- ---- the same place of another rectangle

row_there : (r s : Area) (c : ℕ) → is_within r c ≡ true → same_extent r s ≡ true → row_of (same_place r s c) ≡ row_of s.first + (row_of c - row_of r.first)
row_there r s c h k = let p = within_other r s c h k in omega (arith, p.narrow, p.right)

column_there : (r s : Area) (c : ℕ) → is_within r c ≡ true → same_extent r s ≡ true → column_of (same_place r s c) ≡ column_of s.first + (column_of c - column_of r.first)
column_there r s c h k = let p = within_other r s c h k in omega (arith, p.narrow, p.right)

-- there and back
back : (r s : Area) (c : ℕ) → is_within r c ≡ true → same_extent r s ≡ true → same_place s r (same_place r s c) ≡ c
back r s c h k =
    let p = within_other r s c h k in
    rw (row_there r s c h k, column_there r s c h k) (omega (arith, p.top, p.left))

-- the order stays
in_order : (r s : Area) (a b : ℕ) → is_within r a ≡ true → is_within r b ≡ true → same_extent r s ≡ true → a < b → same_place r s a < same_place r s b
in_order r s a b v w k l =
    let p = within_other r s a v k in
    let q = within_other r s b w k in
    elim (cases_lt (row_of a) (row_of b)) [
      | inl above ↦ omega (arith, above, p.top, p.right, p.narrow)
      | inr beside ↦ let same : row_of a ≡ row_of b = omega (arith, beside, l) in let left : column_of a < column_of b = omega (arith, same, l) in omega (arith, same, left, p.left)
    ]

-- ---- of one rectangle

module _ (known : ℕ → Option Value) (r s : Area) (k : same_extent r s ≡ true) where
  -- what was passed, in the other rectangle
  abbrev there : Option ℕ → Option ℕ
  there o = option_map (same_place r s) o

  abbrev here : Option ℕ → Option ℕ
  here o = option_map (same_place s r) o

  passed_here : (passed : Option ℕ) (c : ℕ) → IfSome passed (λ p. is_within r p ≡ true) → is_within s c ≡ true → ComesAfter (there passed) c → ComesAfter passed (same_place s r c)
  passed_here None c w h l = tt
  passed_here (Some p) c w h l = subst (λ (d : ℕ). d < same_place s r c) (back r s p w k) (in_order s r (same_place r s p) c (same_place_inside r s p w k) h (turned r s k) l)

  passed_there : (passed : Option ℕ) (a : ℕ) → IfSome passed (λ p. is_within r p ≡ true) → is_within r a ≡ true → ComesAfter passed a → ComesAfter (there passed) (same_place r s a)
  passed_there None a w h l = tt
  passed_there (Some p) a w h l = in_order r s p a w h k l

  -- what is found in the other rectangle
  abbrev IsInside : Option ℕ → Option ℕ → Type 0
  IsInside passed found = IfSome found (λ c. (is_within s c ≡ true) × ComesAfter (there passed) c)

  before_there : (passed found : Option ℕ) (a : ℕ) → IsInside passed found → is_within r a ≡ true → ComesBefore a (here found) → ComesBefore (same_place r s a) found
  before_there passed None a h w l = tt
  before_there passed (Some c) a h w l = subst (λ (d : ℕ). same_place r s a < d) (back s r c h.0 (turned r s k)) (in_order r s a (same_place s r c) w (same_place_inside s r c h.0 (turned r s k)) k l)

  inside_here : (passed found : Option ℕ) → IfSome passed (λ p. is_within r p ≡ true) → IsInside passed found → IfSome (here found) (λ c. (is_within r c ≡ true) × ComesAfter passed c)
  inside_here passed None w h = tt
  inside_here passed (Some c) w h = (same_place_inside s r c h.0 (turned r s k), passed_here passed c w h.0 h.1)

  found_there : (passed found : Option ℕ) → IfSome passed (λ p. is_within r p ≡ true) → IsInside passed found →
      ((a : ℕ) → is_within s a ≡ true → ComesAfter (there passed) a → ComesBefore a found → is_known_empty (known a) ≡ true) → IsNextPlace known r (s ∷ []) passed (here found)
  found_there passed found w h empty = record {
    inside = inside_here passed found w h;
    empty_between = λ a v l b. ap (λ (e : Bool). e && true) (empty (same_place r s a) (same_place_inside r s a v k) (passed_there passed a w v l) (before_there passed found a h v b));
  }

  -- the next filled cell after the place of one that was passed
  pub after_passed : (at other : ℕ) (found next : Option ℕ) (passed : Option ℕ) → passed ≡ Some at → IfSome passed (λ p. is_within r p ≡ true) → other ≡ same_place r s at → next ≡ here found → IsNextAfter known s other found → IsNextPlace known r (s ∷ []) passed next
  after_passed at other found next passed m w e n h =
      subst (λ (o : Option ℕ). IsNextPlace known r (s ∷ []) o next) (sym m)
      (subst (IsNextPlace known r (s ∷ []) (Some at)) (sym n)
      (found_there (Some at) found (subst (λ (o : Option ℕ). IfSome o (λ p. is_within r p ≡ true)) m w) (subst (λ (d : ℕ). IfSome found (λ c. (is_within s c ≡ true) × (d < c))) e h.inside)
      (λ a v l b. h.empty_between a v (subst (λ (d : ℕ). d < a) (sym e) l) b)))

  inside_alone : (from : ℕ) (found : Option ℕ) → IfSome found (λ c. (is_within s c ≡ true) × (from ≤ c)) → IsInside None found
  inside_alone from None h = tt
  inside_alone from (Some c) h = (h.0, tt)

  -- or the first
  pub first_found : (from : ℕ) (found next : Option ℕ) (passed : Option ℕ) → passed ≡ None → from ≡ s.first → next ≡ here found → IsNextFilled known s from found → IsNextPlace known r (s ∷ []) passed next
  first_found from found next passed m e n h =
      subst (λ (o : Option ℕ). IsNextPlace known r (s ∷ []) o next) (sym m)
      (subst (IsNextPlace known r (s ∷ []) None) (sym n)
      (found_there None found tt (inside_alone from found h.inside)
      (λ a v l b. h.empty_before a v (omega (arith, e, (within_between s a v).0)) b)))

-- ---- of several

either : (P : ℕ → Type 0) (o n : Option ℕ) → IfSome o P → IfSome n P → IfSome (sooner o n) P
either P None n h k = k
either P (Some a) None h k = h
either P (Some a) (Some b) h k = elim (cases_lt a b) [
  | inl before ↦ subst P (sym (min-eq_left {n = a} {m = b} (omega (arith, before)))) h
  | inr behind ↦ subst P (sym (min-eq_right {n = b} {m = a} behind)) k
]

before_both : (a : ℕ) (o n : Option ℕ) → ComesBefore a (sooner o n) → ComesBefore a o × ComesBefore a n
before_both a None n h = (tt, h)
before_both a (Some x) None h = (h, tt)
before_both a (Some x) (Some y) h = (omega (arith, h), omega (arith, h))

pub all_at : {X : Type 0} (p : X → Bool) (xs : List X) (i : ℕ) (x : X) → i < length xs → x ≡ get_or xs i x → list_all p xs ≡ true → p x ≡ true
all_at p xs i x l e h = at (p x) refl
  where
    at : (b : Bool) → p x ≡ b → b ≡ true
    at true m = refl
    at false m = let none : list_all p xs ≡ false = list_all_at p xs i x l (ap p (sym e) ∙ m) in sym none ∙ h

pub has_size : (r : Area) (rs : List Area) (i : ℕ) (s : Area) → i < length rs → s ≡ get_or rs i s → list_all (same_extent r) rs ≡ true → same_extent r s ≡ true
has_size r rs i s l e h = all_at (same_extent r) rs i s l e h

module _ (known : ℕ → Option Value) (r : Area) (rs : List Area) (passed : Option ℕ) where
  pub none_yet : (o : Option ℕ) → o ≡ None → IsNextPlace known r [] passed o
  none_yet o e = subst (IsNextPlace known r [] passed) (sym e) record { inside = tt; empty_between = λ a w l b. refl }

  pub one_more : (i : ℕ) (s : Area) (found next more : Option ℕ) → i < length rs → s ≡ get_or rs i s → more ≡ sooner found next → IsNextPlace known r (take i rs) passed found → IsNextPlace known r (s ∷ []) passed next → IsNextPlace known r (take (i + 1) rs) passed more
  one_more i s found next more l is e h n = subst (IsNextPlace known r (take (i + 1) rs) passed) (sym e) record {
    inside = either (λ c. (is_within r c ≡ true) × ComesAfter passed c) found next h.inside n.inside;
    empty_between = λ a w m b. all_empty a (h.empty_between a w m (before_both a found next b).0) (n.empty_between a w m (before_both a found next b).1);
  }
    where
      all_empty : (a : ℕ) → list_all (λ t. is_known_empty (known (same_place r t a))) (take i rs) ≡ true → (is_known_empty (known (same_place r s a)) && true) ≡ true → list_all (λ t. is_known_empty (known (same_place r t a))) (take (i + 1) rs) ≡ true
      all_empty a m b =
          list_all_more (λ t. is_known_empty (known (same_place r t a))) rs i s l
          ∙ and_from _ _ m (ap (λ (t : Area). is_known_empty (known (same_place r t a))) (sym is) ∙ (and_parts (is_known_empty (known (same_place r s a))) true b).0)

  pub all_taken : (i : ℕ) (found : Option ℕ) → length rs ≤ i → IsNextPlace known r (take i rs) passed found → IsNextPlace known r rs passed found
  all_taken i found l h = subst (λ (ss : List Area). IsNextPlace known r ss passed found) (take_all i rs l) h
