-- Cells that come and go, and the rectangle around them.
use Rattle.wi_graph.proofs.Words.{◌≡◌, ◌==◌, ◌&&◌, ◌||◌, ◌⊎◌, inl, inr, ℕ, ◌+◌, ◌<◌, ◌≤◌, min, max, Bool, true, false, List, [], ◌∷◌, take, get_or, length, refl, ap, sym, ◌∙◌, arith, nat_cmp, list_any, is_at, BTreeSet, contains, btree_set_len, IsUnchanged, or_cases, and_parts, and_from, false_from_ne_true, one_truth, Area, columns, place, row_of, column_of, rect_of, is_within, row_of_place, column_of_place, within_parts, within_from, is_one_of, AreWithin, as_set, has_key, max_at_most}
use Rattle.wi_graph.proofs.Walks.{same_cell}
use Rattle.wi_graph.proofs.SetSteps.{Gains, Loses, gains_cases, loses_others, taken}

-- ---- one cell more

pub around_more : (cells : List ℕ) (i x : ℕ) (old new : Area) → i < length cells → x ≡ get_or cells i x → is_within new x ≡ true → ((c : ℕ) → is_within old c ≡ true → is_within new c ≡ true) → AreWithin old (as_set (take i cells)) →
    AreWithin new (as_set (take (i + 1) cells))
around_more cells i x old new l e n o w c h = at (or_cases (is_one_of (take i cells) c) _ (sym (taken cells i x c l e) ∙ sym (has_key (take (i + 1) cells) c) ∙ h))
  where
    last : (b : Bool) → (x == c) ≡ b → (b || false) ≡ true → is_within new c ≡ true
    last true k m = ap (is_within new) (sym (same_cell c x k)) ∙ n
    last false k m = cc

    at : (is_one_of (take i cells) c ≡ true) ⊎ (((x == c) || false) ≡ true) → is_within new c ≡ true
    at (inl k) = o c (w c (has_key (take i cells) c ∙ k))
    at (inr k) = last (x == c) refl k

pub gains_within : (old new : BTreeSet ℕ) (r : Area) (x : ℕ) → Gains old new x → is_within r x ≡ true → AreWithin r old → AreWithin r new
gains_within old new r x g n w c h = at (gains_cases old new x g c h)
  where
    at : (x ≡ c) ⊎ (contains nat_cmp old c ≡ true) → is_within r c ≡ true
    at (inl e) = ap (is_within r) (sym e) ∙ n
    at (inr k) = w c k

-- ---- one cell less

pub loses_within : (old new : BTreeSet ℕ) (r : Area) (x : ℕ) → Loses old new x → AreWithin r old → AreWithin r new
loses_within old new r x l w c h = w c (loses_others old new x l c h).0

-- ---- a rectangle by its sides

least : (a b : ℕ) → a ≤ b → min a b ≡ a
least a b h = omega (arith, h)

most : (a b : ℕ) → a ≤ b → max a b ≡ b
most a b h = omega (arith, h)

pub record HasSides (r : Area) (first_row first_column last_row last_column : ℕ) : Type 0 where
  pub top : row_of r.first ≡ first_row
  pub left : column_of r.first ≡ first_column
  pub bottom : row_of r.last ≡ last_row
  pub right : column_of r.last ≡ last_column

pub sides_of : (r : Area) (a b top left bottom right : ℕ) → r ≡ rect_of a b → a ≡ place top left → b ≡ place bottom right → top ≤ bottom → left ≤ right → left < columns → right < columns → HasSides r top left bottom right
sides_of r a b t l m n e f g rows cols lc nc =
    let ra : row_of a ≡ t = ap (λ (x : ℕ). row_of x) f ∙ row_of_place t l lc in
    let ca : column_of a ≡ l = ap (λ (x : ℕ). column_of x) f ∙ column_of_place t l lc in
    let rb : row_of b ≡ m = ap (λ (x : ℕ). row_of x) g ∙ row_of_place m n nc in
    let cb : column_of b ≡ n = ap (λ (x : ℕ). column_of x) g ∙ column_of_place m n nc in
    let first : r.first ≡ place t l =
    ap (λ (x : Area). x.first) e ∙ ap (λ (x : ℕ). place x (min (column_of a) (column_of b))) (two min ra rb ∙ least t m rows) ∙ ap (λ (x : ℕ). place t x) (two min ca cb ∙ least l n cols) in
    let last : r.last ≡ place m n =
    ap (λ (x : Area). x.last) e ∙ ap (λ (x : ℕ). place x (max (column_of a) (column_of b))) (two max ra rb ∙ most t m rows) ∙ ap (λ (x : ℕ). place m x) (two max ca cb ∙ most l n cols) in
    record {
      top = ap (λ (x : ℕ). row_of x) first ∙ row_of_place t l lc;
      left = ap (λ (x : ℕ). column_of x) first ∙ column_of_place t l lc;
      bottom = ap (λ (x : ℕ). row_of x) last ∙ row_of_place m n nc;
      right = ap (λ (x : ℕ). column_of x) last ∙ column_of_place m n nc;
    }
  where
    two : (f : ℕ → ℕ → ℕ) {x y z w : ℕ} → x ≡ y → z ≡ w → f x z ≡ f y w
    two f {x} {y} {z} {w} p q = ap (λ (u : ℕ). f u z) p ∙ ap (λ (u : ℕ). f y u) q

pub min_of : (m a b x y : ℕ) → m ≡ min a b → a ≡ x → b ≡ y → m ≡ min x y
min_of m a b x y e f g = e ∙ ap (λ (z : ℕ). min z b) f ∙ ap (λ (z : ℕ). min x z) g

pub max_of : (m a b x y : ℕ) → m ≡ max a b → a ≡ x → b ≡ y → m ≡ max x y
max_of m a b x y e f g = e ∙ ap (λ (z : ℕ). max z b) f ∙ ap (λ (z : ℕ). max x z) g

pub min_below : (m a b n : ℕ) → m ≡ min a b → a < n → m < n
min_below m a b n e h = omega (arith, e, h)

-- the sides of what two rectangles have in common
pub record IsCommon (a b : Area) (first_row first_column last_row last_column : ℕ) : Type 0 where
  pub top : first_row ≡ max (row_of a.first) (row_of b.first)
  pub left : first_column ≡ max (column_of a.first) (column_of b.first)
  pub bottom : last_row ≡ min (row_of a.last) (row_of b.last)
  pub right : last_column ≡ min (column_of a.last) (column_of b.last)

below_both : (m a b c : ℕ) → m ≡ min a b → c ≤ a → c ≤ b → c ≤ m
below_both m a b c e h k = omega (arith, e, h, k)

above_each : (m n a b c : ℕ) → n ≡ m → m ≡ max a b → n ≤ c → (a ≤ c) × (b ≤ c)
above_each m n a b c d e h = (omega (arith, d, e, h), omega (arith, d, e, h))

below_each : (m n a b c : ℕ) → n ≡ m → m ≡ min a b → c ≤ n → (c ≤ a) × (c ≤ b)
below_each m n a b c d e h = (omega (arith, d, e, h), omega (arith, d, e, h))

pub common_part : (a b part : Area) (top left bottom right : ℕ) → IsCommon a b top left bottom right → HasSides part top left bottom right → (c : ℕ) → is_within part c ≡ (is_within a c && is_within b c)
common_part a b part t l m n i s c = one_truth (is_within part c) (is_within a c && is_within b c) into back
  where
    into : is_within part c ≡ true → (is_within a c && is_within b c) ≡ true
    into h =
        let p = within_parts part c h in
        let top = above_each _ _ _ _ _ s.top i.top p.0 in
        let bottom = below_each _ _ _ _ _ s.bottom i.bottom p.1 in
        let left = above_each _ _ _ _ _ s.left i.left p.2 in
        let right = below_each _ _ _ _ _ s.right i.right p.3 in
        and_from (is_within a c) _ (within_from a c top.0 bottom.0 left.0 right.0) (within_from b c top.1 bottom.1 left.1 right.1)

    back : (is_within a c && is_within b c) ≡ true → is_within part c ≡ true
    back h =
        let q = and_parts (is_within a c) _ h in
        let x = within_parts a c q.0 in
        let y = within_parts b c q.1 in
        within_from part c (max_at_most _ _ _ _ (s.top ∙ i.top) x.0 y.0) (below_both _ _ _ _ (s.bottom ∙ i.bottom) x.1 y.1) (max_at_most _ _ _ _ (s.left ∙ i.left) x.2 y.2) (below_both _ _ _ _ (s.right ∙ i.right) x.3 y.3)

pub no_part : (a b : Area) (top left bottom right : ℕ) → IsCommon a b top left bottom right → ((top ≤ bottom) × (right < left)) ⊎ (bottom < top) → (c : ℕ) → false ≡ (is_within a c && is_within b c)
no_part a b t l m n i o c = sym (false_from_ne_true (is_within a c && is_within b c) none)
  where
    apart : (x y z : ℕ) → x ≤ z → z ≤ y → y < x → ⊥
    apart x y z h k j = omega (arith, h, k, j)

    none : (is_within a c && is_within b c) ≡ true → ⊥
    none h = at o
      where
        q : (is_within a c ≡ true) × (is_within b c ≡ true)
        q = and_parts (is_within a c) _ h

        at : ((t ≤ m) × (n < l)) ⊎ (m < t) → ⊥
        at (inl k) =
            let x = within_parts a c q.0 in
            let y = within_parts b c q.1 in
            apart l n (column_of c) (max_at_most _ _ _ _ i.left x.2 y.2) (below_both _ _ _ _ i.right x.3 y.3) k.1
        at (inr k) =
            let x = within_parts a c q.0 in
            let y = within_parts b c q.1 in
            apart t m (row_of c) (max_at_most _ _ _ _ i.top x.0 y.0) (below_both _ _ _ _ i.bottom x.1 y.1) k

-- ---- no cell, or the same cells

-- a set without cells is in any rectangle
pub none_within : (set : BTreeSet ℕ) (r : Area) → btree_set_len set ≡ 0 → AreWithin r set
none_within set r e c h = at set.keys e h
  where
    at : (ks : List ℕ) → length ks ≡ 0 → list_any (is_at (nat_cmp c)) ks ≡ true → is_within r c ≡ true
    at [] f k = cc
    at (x ∷ xs) f k = absurd (omega (arith, f))

pub same_within : (old new : BTreeSet ℕ) (r : Area) → IsUnchanged old new → AreWithin r old → AreWithin r new
same_within old new r e w c h = w c (ap (λ (ks : List ℕ). list_any (is_at (nat_cmp c)) ks) (sym e) ∙ h)
