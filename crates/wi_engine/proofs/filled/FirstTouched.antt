-- The cells before the first one that is occupied or replaced.
use Rattle.wi_engine.proofs.Words.{◌≡◌, ℕ, ◌<◌, ◌≤◌, ◌+◌, Bool, true, false, cond, List, [], ◌∷◌, filter, Option, Some, None, IfSome, IfNone, refl, sym, ap, ◌∙◌, subst, arith, nat_le, nat_lt, option_map, option_copied, Bor, find, lookup, keys_of, is_at, nat_cmp, and_parts, and_from, le-leb, leb-true, ltb-true, ltb-false, IsStrictlyIncreasing, sorted_from_strictly_increasing, Area, is_within, Value, Replacement, IsInOrder, as_map, replaced, Ascends, at_same, lookup_after, come_after_earlier, Ascends-from_order, sorted_from_order, Content, Sheet, constant, content_of, put_all, is_ahead, find_ahead, ComesBefore, is_known_empty, Passed, passed_on, over, content_in_order, as_content, earlier, ContentRef, cell_known, known_in, found_value, Findings}

pub found_passes : (p : ℕ → Bool) (xs : List ℕ) → IfSome (find p xs) (λ c. p c ≡ true)
found_passes p [] = tt
found_passes p (x ∷ xs) = at (p x) refl (found_passes p xs)
  where
    at : (b : Bool) → p x ≡ b → IfSome (find p xs) (λ c. p c ≡ true) → IfSome (cond b (Some x) (find p xs)) (λ c. p c ≡ true)
    at true e ih = e
    at false e ih = ih

module _ {X : Type 0} where
  pub none_before : (p : ℕ → Bool) (a : ℕ) (es : List (ℕ × X)) → Ascends es → p a ≡ true → ComesBefore a (find p (keys_of es)) → lookup (is_at (nat_cmp a)) es ≡ None
  none_before p a [] asc t h = refl
  none_before p a (e ∷ es) asc t h = at (p e.0) refl h (none_before p a es asc.1 t)
    where
      other : (b : Bool) → is_at (nat_cmp a) e.0 ≡ b → p e.0 ≡ false → lookup (is_at (nat_cmp a)) es ≡ None → cond b (Some e.1) (lookup (is_at (nat_cmp a)) es) ≡ None
      other true i f k = absurd (let same = sym (ap p (at_same a e.0 i) ∙ t) ∙ f in cc)
      other false i f k = k

      at : (b : Bool) → p e.0 ≡ b → ComesBefore a (cond b (Some e.0) (find p (keys_of es))) → (ComesBefore a (find p (keys_of es)) → lookup (is_at (nat_cmp a)) es ≡ None) → lookup (is_at (nat_cmp a)) (e ∷ es) ≡ None
      at true f k ih = lookup_after a (e ∷ es) (k, come_after_earlier a e.0 es k asc.0)
      at false f k ih = other (is_at (nat_cmp a) e.0) refl f (ih k)

-- ---- what is found, seen in other words

of_mapped : {X Y : Type 0} (f : X → Y) (P : Y → Type 0) (o : Option X) → IfSome (option_map f o) P → IfSome o (λ x. P (f x))
of_mapped f P None h = tt
of_mapped f P (Some x) h = h

to_mapped : {X Y : Type 0} (f : X → Y) (P : Y → Type 0) (o : Option X) → IfSome o (λ x. P (f x)) → IfSome (option_map f o) P
to_mapped f P None h = tt
to_mapped f P (Some x) h = h

map_twice : {X Y Z : Type 0} (f : X → Y) (g : Y → Z) (o : Option X) → option_map g (option_map f o) ≡ option_map (λ x. g (f x)) o
map_twice f g None = refl
map_twice f g (Some x) = refl

together : {X : Type 0} (P Q R : X → Type 0) → ((x : X) → P x → Q x → R x) → (o : Option X) → IfSome o P → IfSome o Q → IfSome o R
together P Q R f None h k = tt
together P Q R f (Some x) h k = f x h k

-- ---- the earlier of two

abbrev seen_cell : Option (ℕ × Option Content) → Option ℕ
seen_cell o = option_map (λ (x : ℕ × Option Content). x.0) o

abbrev occupied_cell : Option (ℕ × Content) → Option ℕ
occupied_cell o = option_map (λ (x : ℕ × Content). x.0) o

abbrev replaced_cell : Option Replacement → Option ℕ
replaced_cell o = option_map (λ (x : Replacement). x.at) o

before_both : (a : ℕ) (p : Option (ℕ × Content)) (q : Option Replacement) → ComesBefore a (seen_cell (earlier p q)) → ComesBefore a (occupied_cell p) × ComesBefore a (replaced_cell q)
before_both a None None h = (tt, tt)
before_both a None (Some r) h = (tt, h)
before_both a (Some x) None h = (h, tt)
before_both a (Some x) (Some r) h = at (nat_lt x.0 r.at) refl h
  where
    at : (b : Bool) → nat_lt x.0 r.at ≡ b → ComesBefore a (seen_cell (cond b (Some (x.0, Some x.1)) (Some (r.at, constant r.value)))) → (a < x.0) × (a < r.at)
    at true e k = let l = ltb-true x.0 r.at e in (k, omega (arith, k, l))
    at false e k = let l = ltb-false x.0 r.at e in (omega (arith, k, l), k)

either : (P : ℕ × Option Content → Type 0) (p : Option (ℕ × Content)) (q : Option Replacement) → IfSome p (λ x. ComesBefore x.0 (replaced_cell q) → P (x.0, Some x.1)) → IfSome q (λ r. P (r.at, constant r.value)) → IfSome (earlier p q) P
either P None None h k = tt
either P None (Some r) h k = k
either P (Some x) None h k = h tt
either P (Some x) (Some r) h k = at (nat_lt x.0 r.at) refl
  where
    at : (b : Bool) → nat_lt x.0 r.at ≡ b → IfSome (cond b (Some (x.0, Some x.1)) (Some (r.at, constant r.value))) P
    at true e = h (ltb-true x.0 r.at e)
    at false e = k

-- ---- what is occupied or replaced

abbrev ahead_in : Area → ℕ → ℕ → Bool
ahead_in r from = is_ahead r (Some from)

pub ahead_means : (r : Area) (from a : ℕ) → is_ahead r (Some from) a ≡ true → (is_within r a ≡ true) × (from ≤ a)
ahead_means r from a h = let both = and_parts (nat_le from a) _ h in (both.1, leb-true from a both.0)

-- a cell ahead that comes before the first replacement there isn't replaced
pub stands_ahead : (s : Sheet) (w : List Replacement) (r : Area) (from a : ℕ) → IsInOrder w → is_ahead r (Some from) a ≡ true → ComesBefore a (find (is_ahead r (Some from)) (keys_of (as_map w))) → content_of (put_all s w) a ≡ content_of s a
stands_ahead s w r from a order t h =
    content_in_order s w a order ∙ ap (λ (v : Option Value). over v (content_of s a)) (none_before (is_ahead r (Some from)) a (as_map w) (Ascends-from_order (as_map w) (sorted_from_order w order)) t h)

-- the first occupied cell ahead, with what stands there, and the first replacement ahead
pub record AreSought (s : Sheet) (w : List Replacement) (r : Area) (from : ℕ) (p : Option (ℕ × Content)) (q : Option Replacement) : Type 0 where
  pub sheet : Ascends s
  pub order : IsInOrder w
  pub cell : occupied_cell p ≡ find (ahead_in r from) (keys_of s)
  pub content : IfSome p (λ x. content_of s x.0 ≡ Some x.1)
  pub at : replaced_cell q ≡ find (ahead_in r from) (keys_of (as_map w))
  pub value : IfSome q (λ x. replaced w x.at ≡ Some x.value)

pub are_sought : (s : Sheet) (v w : List Replacement) (r : Area) (from : ℕ) (p : Option (ℕ × Bor Content)) (q : Option (Bor Replacement)) → IsStrictlyIncreasing (keys_of s) → IsInOrder w → v ≡ w →
    option_map (λ (x : ℕ × Bor Content). x.0) p ≡ find (λ a. nat_le from a) (filter (is_within r) (keys_of s)) → IfSome p (λ x. content_of s x.0 ≡ Some x.1.now) →
    option_map (λ (x : Bor Replacement). x.now.at) q ≡ find (ahead_in r from) (keys_of (as_map v)) → IfSome q (λ x. replaced v x.now.at ≡ Some x.now.value) →
    AreSought s w r from (option_map (λ (x : ℕ × Bor Content). (x.0, x.1.now)) p) (option_copied q)
are_sought s v w r from p q asc order same e f g h = record {
  sheet = Ascends-from_order s (sorted_from_strictly_increasing _ asc);
  order = order;
  cell = map_twice (λ (x : ℕ × Bor Content). (x.0, x.1.now)) (λ (x : ℕ × Content). x.0) p ∙ e ∙ sym (find_ahead r from (keys_of s));
  content = to_mapped (λ (x : ℕ × Bor Content). (x.0, x.1.now)) (λ (x : ℕ × Content). content_of s x.0 ≡ Some x.1) p f;
  at = map_twice (λ (x : Bor Replacement). x.now) (λ (x : Replacement). x.at) q ∙ g ∙ ap (λ (rs : List Replacement). find (ahead_in r from) (keys_of (as_map rs))) same;
  value = to_mapped (λ (x : Bor Replacement). x.now) (λ (x : Replacement). replaced w x.at ≡ Some x.value) q (subst (λ (rs : List Replacement). IfSome q (λ x. replaced rs x.now.at ≡ Some x.now.value)) same h);
}

module _ (s : Sheet) (w : List Replacement) (r : Area) (from : ℕ) (p : Option (ℕ × Content)) (q : Option Replacement) (sought : AreSought s w r from p q) where
  abbrev LiesAhead : ℕ → Type 0
  LiesAhead c = ahead_in r from c ≡ true

  occupied_ahead : IfSome p (λ x. LiesAhead x.0)
  occupied_ahead = of_mapped (λ (x : ℕ × Content). x.0) LiesAhead p (subst (λ (o : Option ℕ). IfSome o LiesAhead) (sym sought.cell) (found_passes (ahead_in r from) (keys_of s)))

  replaced_ahead : IfSome q (λ x. LiesAhead x.at)
  replaced_ahead = of_mapped (λ (x : Replacement). x.at) LiesAhead q (subst (λ (o : Option ℕ). IfSome o LiesAhead) (sym sought.at) (found_passes (ahead_in r from) (keys_of (as_map w))))

  kept : (a : ℕ) → LiesAhead a → ComesBefore a (replaced_cell q) → content_of (put_all s w) a ≡ content_of s a
  kept a t h = stands_ahead s w r from a sought.order t (subst (ComesBefore a) sought.at h)

  is_seen : IfSome (earlier p q) (λ x. x.1 ≡ content_of (put_all s w) x.0)
  is_seen =
      either (λ x. x.1 ≡ content_of (put_all s w) x.0) p q
      (together (λ x. LiesAhead x.0) (λ x. content_of s x.0 ≡ Some x.1) (λ x. ComesBefore x.0 (replaced_cell q) → Some x.1 ≡ content_of (put_all s w) x.0) (λ x t e h. sym (kept x.0 t h ∙ e)) p occupied_ahead sought.content)
      (together (λ x. LiesAhead x.at) (λ x. replaced w x.at ≡ Some x.value) (λ x. constant x.value ≡ content_of (put_all s w) x.at)
      (λ x t e. sym (content_in_order s w x.at sought.order ∙ ap (λ (v : Option Value). over v (content_of s x.at)) e)) q replaced_ahead sought.value)

  lies_inside : IfSome (earlier p q) (λ x. (is_within r x.0 ≡ true) × (from ≤ x.0))
  lies_inside =
      either (λ x. (is_within r x.0 ≡ true) × (from ≤ x.0)) p q
      (together (λ x. LiesAhead x.0) (λ x. LiesAhead x.0) (λ x. ComesBefore x.0 (replaced_cell q) → (is_within r x.0 ≡ true) × (from ≤ x.0)) (λ x t e h. ahead_means r from x.0 t) p occupied_ahead occupied_ahead)
      (together (λ x. LiesAhead x.at) (λ x. LiesAhead x.at) (λ x. (is_within r x.at ≡ true) × (from ≤ x.at)) (λ x t e. ahead_means r from x.at t) q replaced_ahead replaced_ahead)

  nothing_before : (a : ℕ) → is_within r a ≡ true → from ≤ a → ComesBefore a (seen_cell (earlier p q)) → content_of (put_all s w) a ≡ None
  nothing_before a i l b =
      let t : LiesAhead a = and_from _ _ (le-leb from a l) i in
      let both = before_both a p q b in
      kept a t both.1 ∙ none_before (ahead_in r from) a s sought.sheet t (subst (ComesBefore a) sought.cell both.0)

  -- ---- as it is answered

  pub touched_inside : (o : Option (ℕ × ContentRef)) → option_map (λ (x : ℕ × ContentRef). (x.0, as_content x.1)) o ≡ earlier p q → IfSome o (λ x. (is_within r x.0 ≡ true) × (from ≤ x.0))
  touched_inside o e =
      of_mapped (λ (x : ℕ × ContentRef). (x.0, as_content x.1)) (λ x. (is_within r x.0 ≡ true) × (from ≤ x.0)) o
      (subst (λ (z : Option (ℕ × Option Content)). IfSome z (λ x. (is_within r x.0 ≡ true) × (from ≤ x.0))) (sym e) lies_inside)

  pub touched_seen : (o : Option (ℕ × ContentRef)) → option_map (λ (x : ℕ × ContentRef). (x.0, as_content x.1)) o ≡ earlier p q → IfSome o (λ x. as_content x.1 ≡ content_of (put_all s w) x.0)
  touched_seen o e =
      of_mapped (λ (x : ℕ × ContentRef). (x.0, as_content x.1)) (λ x. x.1 ≡ content_of (put_all s w) x.0) o
      (subst (λ (z : Option (ℕ × Option Content)). IfSome z (λ x. x.1 ≡ content_of (put_all s w) x.0)) (sym e) is_seen)

  pub untouched_before : (o : Option (ℕ × ContentRef)) → option_map (λ (x : ℕ × ContentRef). (x.0, as_content x.1)) o ≡ earlier p q → (a : ℕ) → is_within r a ≡ true → from ≤ a → ComesBefore a (option_map (λ (x : ℕ × ContentRef). x.0) o) → content_of (put_all s w) a ≡ None
  untouched_before o e a i l b =
      nothing_before a i l
      (subst (ComesBefore a) (sym (map_twice (λ (x : ℕ × ContentRef). (x.0, as_content x.1)) (λ (x : ℕ × Option Content). x.0) o) ∙ ap seen_cell e) b)

-- where nothing stands, it is known to be Empty
pub empty_before : (s : Sheet) (w : List Replacement) (f : Findings) (r : Area) (from : ℕ) (found : Option ℕ) → ((a : ℕ) → is_within r a ≡ true → from ≤ a → ComesBefore a found → content_of (put_all s w) a ≡ None) →
    (a : ℕ) → is_within r a ≡ true → from ≤ a → ComesBefore a found → is_known_empty (cell_known s w f a) ≡ true
empty_before s w f r from found h a i l b = ap (λ (o : Option Content). is_known_empty (known_in o (found_value f a))) (h a i l b)

cell_inside : (r : Area) (from c : ℕ) (o : Option (ℕ × ContentRef)) → IfSome o (λ x. (is_within r x.0 ≡ true) × (from ≤ x.0)) → option_map (λ (x : ℕ × ContentRef). x.0) o ≡ Some c → from ≤ c
cell_inside r from c None h e = absurd (let z = e in cc)
cell_inside r from c (Some x) h e = let same : x.0 ≡ c = cc in subst (λ (n : ℕ). from ≤ n) same h.1

-- on past a cell in which something may stand, and which is known to be Empty
pub passed_over : (s : Sheet) (w : List Replacement) (f : Findings) (r : Area) (from start c last : ℕ) (o : Option (ℕ × ContentRef)) (ahead next : Option ℕ) → Passed (cell_known s w f) r from ahead → ahead ≡ Some start → last ≡ r.last →
    IfSome o (λ x. (is_within r x.0 ≡ true) × (start ≤ x.0)) → ((a : ℕ) → is_within r a ≡ true → start ≤ a → ComesBefore a (option_map (λ (x : ℕ × ContentRef). x.0) o) → content_of (put_all s w) a ≡ None) →
    option_map (λ (x : ℕ × ContentRef). x.0) o ≡ Some c → is_known_empty (cell_known s w f c) ≡ true →
    IfSome next (λ d. (d ≡ c + 1) × (d ≤ last)) → IfNone next (last ≤ c) → Passed (cell_known s w f) r from next
passed_over s w f r from start c last o ahead next h a e inside nothing found empty some none =
    passed_on (cell_known s w f) r from start c last ahead next h a e (cell_inside r start c o inside found)
    (λ b i l m. empty_before s w f r start (Some c) (subst (λ (z : Option ℕ). (q : ℕ) → is_within r q ≡ true → start ≤ q → ComesBefore q z → content_of (put_all s w) q ≡ None) found nothing) b i l m) empty some none
