-- Whichever cells are looked at, what has changed is the same.
use Rattle.wi_sessions.proofs.Words.{◌≡◌, ℕ, zero, suc, ◌+◌, ◌<◌, ◌≤◌, Bool, true, false, not, cond, List, [], ◌∷◌, map, refl, sym, ap, subst, ◌∙◌, arith, ◌||◌, Option, Some, None, unwrap_or, range_with_len, false≢true, eqb-true, nat_tests, Value, Empty, Number, Text, Logical, Fault, nat_cmp, lookup, is_at, found-insert, found-without, turn_test, equality, same_value, value_in, with_value, with_changes, sheet_size, is_one_of, Rises, AnyCells, PictureIsShown, every_cell}
use Rattle.std.specs.Prelude.{filter, nat_eq, ◌==◌}

-- an element at which the test fails is left out
skipped : (p : ℕ → Bool) (a : ℕ) (xs : List ℕ) → p a ≡ false → filter p (a ∷ xs) ≡ filter p xs
skipped p a xs e = ap (λ b. cond b (a ∷ filter p xs) (filter p xs)) e

-- one of risen numbers is not below them
not_below : (a low high : ℕ) (cs : List ℕ) → Rises low high cs → a < low → is_one_of cs a ≡ false
not_below a low high [] r h = refl
not_below a low high (c ∷ cs) r h =
    let other : (c == a) ≡ false = (let e : low ≤ c = r.0 in grind (arith, nat_tests)) in
    let more : is_one_of cs a ≡ false = not_below a (c + 1) high cs r.2 (let e : low ≤ c = r.0 in omega (arith, e, h)) in
    ap (λ b. b || is_one_of cs a) other ∙ more

-- it fails where no cell is found
fails : (p : ℕ → Bool) (a : ℕ) (cs : List ℕ) → (p a ≡ true → is_one_of cs a ≡ true) → is_one_of cs a ≡ false → p a ≡ false
fails p a cs all none =
    elim (p a) as (λ b. p a ≡ b → b ≡ false) [ true ↦ λ t. absurd (false≢true (sym none ∙ all t)) | false ↦ λ t. refl ] refl

above : (a c : ℕ) → a ≤ c → nat_eq a c ≡ false → a + 1 ≤ c
above a c h e = grind (arith, nat_tests)

another : (c q : ℕ) (cs : List ℕ) → c + 1 ≤ q → is_one_of (c ∷ cs) q ≡ true → is_one_of cs q ≡ true
another c q cs h t =
    let other : (c == q) ≡ false = grind (arith, nat_tests) in
    ap (λ b. b || is_one_of cs q) (sym other) ∙ t

pub in_range : (p : ℕ → Bool) (n a high : ℕ) (cs : List ℕ) → a + n ≡ high → Rises a high cs → ((q : ℕ) → a ≤ q → q < high → p q ≡ true → is_one_of cs q ≡ true)
    → filter p (range_with_len a n) ≡ filter p cs
in_range p zero a high [] e r all = refl
in_range p zero a high (c ∷ cs) e r all =
    let low : a ≤ c = r.0 in let top : c < high = r.1 in let none : ⊥ = omega (arith, e, low, top) in absurd none
in_range p (suc n) a high [] e r all =
    let e' : (a + 1) + n ≡ high = omega (arith, e) in
    skipped p a (range_with_len (a + 1) n) (fails p a [] (all a (let h : a ≤ a = omega arith in h) (let h : a < high = omega (arith, e) in h)) refl)
    ∙ in_range p n (a + 1) high [] e' tt (λ q h l t. all q (omega (arith, h)) l t)
in_range p (suc n) a high (c ∷ cs) e r all =
    let e' : (a + 1) + n ≡ high = omega (arith, e) in
    elim (nat_eq a c) as (λ b. nat_eq a c ≡ b → filter p (a ∷ range_with_len (a + 1) n) ≡ filter p (c ∷ cs)) [
      | true ↦ λ t.
          let same : a ≡ c = eqb-true a c t in
          let rest : filter p (range_with_len (a + 1) n) ≡ filter p cs = in_range p n (a + 1) high cs e'
          (subst (λ x. Rises (x + 1) high cs) (sym same) r.2)
          (λ q h l u. another c q cs (omega (arith, h, same)) (all q (omega (arith, h)) l u)) in
          ap (λ xs. cond (p a) (a ∷ xs) xs) rest ∙ ap (λ x. filter p (x ∷ cs)) same
      | false ↦ λ t.
          let up : a + 1 ≤ c = above a c r.0 t in
          let here : Rises (a + 1) high (c ∷ cs) = (up, r.1, r.2) in
          skipped p a (range_with_len (a + 1) n) (fails p a (c ∷ cs) (all a (let h : a ≤ a = omega arith in h) (let h : a < high = omega (arith, e) in h)) (not_below a (a + 1) high (c ∷ cs) here (let h : a < a + 1 = omega arith in h)))
          ∙ in_range p n (a + 1) high (c ∷ cs) e' here (λ q h l u. all q (omega (arith, h)) l u)
    ] refl

same_itself : (v : Value) → same_value v v ≡ true
same_itself v = (equality.1 v v).1 refl

pub any_cells : AnyCells
any_cells cells picture shown h =
    let p : ℕ → Bool = λ a. not (same_value (value_in picture a) (shown a)) in
    let found : (q : ℕ) → 0 ≤ q → q < sheet_size → p q ≡ true → is_one_of cells q ≡ true =
    λ q low within t. elim (is_one_of cells q) as (λ b. is_one_of cells q ≡ b → b ≡ true) [
      | true ↦ λ u. refl
      | false ↦ λ u. absurd (false≢true (sym (ap not (ap (λ v. same_value v (shown q)) (h.1 q within u) ∙ same_itself (shown q))) ∙ t))
    ] refl in
    ap (map (λ a. (a, shown a))) (in_range p sheet_size 0 sheet_size cells (let e : 0 + sheet_size ≡ sheet_size = omega arith in e) h.0 found)

-- the picture with a value at a cell has it there, and elsewhere what it had
pub value_in-with : (picture : List (ℕ × Value)) (c : ℕ) (v : Value) (q : ℕ) → value_in (with_value picture c v) q ≡ cond (q == c) v (value_in picture q)
value_in-with picture c v q = by_value v
  where
    or_empty : (o r : Option Value) → r ≡ cond (q == c) o (lookup (is_at (nat_cmp q)) picture) → unwrap_or r Empty ≡ cond (q == c) (unwrap_or o Empty) (value_in picture q)
    or_empty o r e = ap (λ x. unwrap_or x Empty) e
        ∙ elim (q == c) as (λ b. unwrap_or (cond b o (lookup (is_at (nat_cmp q)) picture)) Empty ≡ cond b (unwrap_or o Empty) (value_in picture q)) [ true ↦ refl | false ↦ refl ]

    by_value : (v : Value) → value_in (with_value picture c v) q ≡ cond (q == c) v (value_in picture q)
    by_value Empty = or_empty None _ (found-without picture c q)
    by_value (Number x) = or_empty (Some (Number x)) _ (found-insert picture c (Number x) q)
    by_value (Text t) = or_empty (Some (Text t)) _ (found-insert picture c (Text t) q)
    by_value (Logical b) = or_empty (Some (Logical b)) _ (found-insert picture c (Logical b) q)
    by_value (Fault k) = or_empty (Some (Fault k)) _ (found-insert picture c (Fault k) q)

-- with values put in at cells, each of the cells has its value
value_in-changes : (picture : List (ℕ × Value)) (f : ℕ → Value) (cs : List ℕ) (q : ℕ)
    → value_in (with_changes picture (map (λ a. (a, f a)) cs)) q ≡ cond (is_one_of cs q) (f q) (value_in picture q)
value_in-changes picture f [] q = refl
value_in-changes picture f (c ∷ cs) q =
    value_in-changes (with_value picture c (f c)) f cs q
    ∙ ap (cond (is_one_of cs q) (f q)) (value_in-with picture c (f c) q ∙ ap (λ b. cond b (f c) (value_in picture q)) (turn_test q c))
    ∙ elim (c == q) as (λ b. (c == q) ≡ b → cond (is_one_of cs q) (f q) (cond b (f c) (value_in picture q)) ≡ cond (b || is_one_of cs q) (f q) (value_in picture q)) [
      | true ↦ λ t. ap (λ x. cond (is_one_of cs q) (f q) (f x)) (eqb-true c q t) ∙ elim (is_one_of cs q) as (λ b. cond b (f q) (f q) ≡ f q) [ true ↦ refl | false ↦ refl ]
      | false ↦ λ t. refl
    ] refl

-- where the test fails, the number isn't among those that pass
never : (p : ℕ → Bool) (xs : List ℕ) (q : ℕ) → p q ≡ false → is_one_of (filter p xs) q ≡ false
never p [] q e = refl
never p (x ∷ xs) q e =
    elim (p x) as (λ b. p x ≡ b → is_one_of (cond b (x ∷ filter p xs) (filter p xs)) q ≡ false) [
      | true ↦ λ h. ap (λ b. b || is_one_of (filter p xs) q) (other (x == q) refl h) ∙ never p xs q e
      | false ↦ λ h. never p xs q e
    ] refl
  where
    other : (b : Bool) → (x == q) ≡ b → p x ≡ true → (x == q) ≡ false
    other true t h = absurd (false≢true (sym e ∙ ap p (sym (eqb-true x q t)) ∙ h))
    other false t h = t

-- a number of the range that passes is found among those that pass
among : (p : ℕ → Bool) (q n a high : ℕ) → a + n ≡ high → a ≤ q → q < high → is_one_of (filter p (range_with_len a n)) q ≡ p q
among p q zero a high e low top = let none : ⊥ = omega (arith, e, low, top) in absurd none
among p q (suc n) a high e low top =
    let e' : (a + 1) + n ≡ high = omega (arith, e) in
    elim (nat_eq a q) as (λ b. nat_eq a q ≡ b → is_one_of (filter p (a ∷ range_with_len (a + 1) n)) q ≡ p q) [
      | true ↦ λ t. here (p a) refl t
      | false ↦ λ t. there (p a) refl t ∙ among p q n (a + 1) high e' (above a q low t) top
    ] refl
  where
    here : (b : Bool) → p a ≡ b → nat_eq a q ≡ true → is_one_of (filter p (a ∷ range_with_len (a + 1) n)) q ≡ p q
    here true h t =
        ap (λ x. is_one_of (cond x (a ∷ filter p (range_with_len (a + 1) n)) (filter p (range_with_len (a + 1) n))) q) h
        ∙ ap (λ x. x || is_one_of (filter p (range_with_len (a + 1) n)) q) t ∙ sym (ap p (sym (eqb-true a q t)) ∙ h)
    here false h t =
        let fails_here : p q ≡ false = ap p (sym (eqb-true a q t)) ∙ h in
        ap (λ x. is_one_of (cond x (a ∷ filter p (range_with_len (a + 1) n)) (filter p (range_with_len (a + 1) n))) q) h
        ∙ never p (range_with_len (a + 1) n) q fails_here ∙ sym fails_here

    there : (b : Bool) → p a ≡ b → nat_eq a q ≡ false → is_one_of (filter p (a ∷ range_with_len (a + 1) n)) q ≡ is_one_of (filter p (range_with_len (a + 1) n)) q
    there true h t =
        ap (λ x. is_one_of (cond x (a ∷ filter p (range_with_len (a + 1) n)) (filter p (range_with_len (a + 1) n))) q) h
        ∙ ap (λ x. x || is_one_of (filter p (range_with_len (a + 1) n)) q) t
    there false h t = ap (λ x. is_one_of (cond x (a ∷ filter p (range_with_len (a + 1) n)) (filter p (range_with_len (a + 1) n))) q) h

same_means : (v w : Value) → same_value v w ≡ true → v ≡ w
same_means v w e = (equality.1 v w).0 e

pub picture_is_shown : PictureIsShown
picture_is_shown picture shown a h =
    let p : ℕ → Bool = λ c. not (same_value (value_in picture c) (shown c)) in
    value_in-changes picture shown (filter p every_cell) a
    ∙ ap (λ b. cond b (shown a) (value_in picture a))
    (among p a sheet_size 0 sheet_size (let e : 0 + sheet_size ≡ sheet_size = omega arith in e) (let e : 0 ≤ a = omega arith in e) h)
    ∙ elim (same_value (value_in picture a) (shown a)) as (λ b. same_value (value_in picture a) (shown a) ≡ b → cond (not b) (shown a) (value_in picture a) ≡ shown a) [
      | true ↦ λ e. same_means (value_in picture a) (shown a) e
      | false ↦ λ e. refl
    ] refl
