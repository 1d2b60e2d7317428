-- A formula's meaning rests on the cells that it reads alone.
use Rattle.wi_sheet.proofs.Words.{◌≡◌, ◌==◌, ℕ, Bool, true, false, ◌||◌, cond, List, [], ◌∷◌, map, Option, Some, option_map, refl, ap, ap₂, sym, ◌∙◌, eq-eqb, or_left, or_right, list_any-append, list_any, corners_may_turn, BadValue, Value, Fault, Replacement, Operator, Reference, Tree, number, text, cell, rectangle, parenthesized, signed, percent, binary, what_if, call, Trees, no_trees, more_trees, Leaf, cell_leaf, rectangle_leaf, what_if_leaf, leaves, all_leaves, cell_area, area_of, leaf_reads, reads, one_cell, operate, with_sign, hundredth, is_one_cell, Region, Argument, region_of, call_value, region_same, meaning, arguments, referred, addresses, replacements}

-- a what-if that reads no more than a tree does
abbrev pub ReadsNoMore : ℕ → List (ℕ × ℕ) → Tree → Type 0
ReadsNoMore f pairs t = (reads t f ≡ true) × ((a : ℕ) → list_any (λ p. p.1 == a) pairs ≡ true → reads t a ≡ true)

-- a replacement cell, told by addresses and by references
pub replacement_cells : (pairs : List (Reference × Reference)) (a : ℕ) → list_any (λ p. p.1 == a) (map addresses pairs) ≡ list_any (λ p. p.1.at == a) pairs
replacement_cells [] a = refl
replacement_cells (p ∷ ps) a = ap (λ (b : Bool). (p.1.at == a) || b) (replacement_cells ps a)

-- what a leaf reads, a tree reads that is only that leaf
leaf_alone : (l : Leaf) (a : ℕ) → leaf_reads l a ≡ true → list_any (λ k. leaf_reads k a) (l ∷ []) ≡ true
leaf_alone l a h = or_left (leaf_reads l a) false h

-- and what an operand reads, the operator reads
left_reads : (op : Operator) (t u : Tree) (a : ℕ) → reads t a ≡ true → reads (binary op t u) a ≡ true
left_reads op t u a h = list_any-append (λ l. leaf_reads l a) (leaves t) (leaves u) ∙ or_left (reads t a) (reads u a) h

right_reads : (op : Operator) (t u : Tree) (a : ℕ) → reads u a ≡ true → reads (binary op t u) a ≡ true
right_reads op t u a h = list_any-append (λ l. leaf_reads l a) (leaves t) (leaves u) ∙ or_right (reads t a) (reads u a) h

-- and what a parameter reads, the call reads
first_reads : (f : List ℕ) (t : Tree) (ts : Trees) (a : ℕ) → reads t a ≡ true → reads (call f (more_trees t ts)) a ≡ true
first_reads f t ts a h = list_any-append (λ l. leaf_reads l a) (leaves t) (all_leaves ts) ∙ or_left (reads t a) (reads (call f ts) a) h

rest_reads : (f : List ℕ) (t : Tree) (ts : Trees) (a : ℕ) → reads (call f ts) a ≡ true → reads (call f (more_trees t ts)) a ≡ true
rest_reads f t ts a h = list_any-append (λ l. leaf_reads l a) (leaves t) (all_leaves ts) ∙ or_right (reads t a) (reads (call f ts) a) h

-- assignments that agree on what a tree reads make one region of what it refers to
referred_same : (t : Tree) (g h : ℕ → Value) → ((a : ℕ) → reads t a ≡ true → g a ≡ h a) → option_map (region_of g) (referred t) ≡ option_map (region_of h) (referred t)
referred_same (cell r) g h k = ap (λ (x : Region). Some x) (region_same g h (cell_area r.at) (λ a w. k a (leaf_alone (cell_leaf r) a (sym (one_cell r.at a) ∙ w))))
referred_same (rectangle c) g h k = ap (λ (x : Region). Some x) (region_same g h (area_of c) (λ a w. k a (leaf_alone (rectangle_leaf c) a w)))
referred_same (parenthesized t) g h k = referred_same t g h k
referred_same t g h k = refl

-- assignments that agree on what a tree reads, and on what-ifs that read no more than it does, give it one meaning
mutual
  pub meaning_same : (t : Tree) (g h : ℕ → Value) (w v : ℕ → List (ℕ × ℕ) → Value) → ((a : ℕ) → reads t a ≡ true → g a ≡ h a) →
      ((f : ℕ) (ps : List (ℕ × ℕ)) → ReadsNoMore f ps t → w f ps ≡ v f ps) → meaning t g w ≡ meaning t h v
  meaning_same (number n) g h w v k l = refl
  meaning_same (text s) g h w v k l = refl
  meaning_same (cell r) g h w v k l = k r.at (leaf_alone (cell_leaf r) r.at (eq-eqb r.at r.at refl))
  meaning_same (rectangle c) g h w v k l =
      ap (λ (x : Value). cond (is_one_cell c) x (Fault BadValue)) (k c.one.at (leaf_alone (rectangle_leaf c) c.one.at (corners_may_turn c.one.at c.other.at).1))
  meaning_same (parenthesized t) g h w v k l = meaning_same t g h w v k l
  meaning_same (signed s t) g h w v k l = ap (with_sign s) (meaning_same t g h w v k l)
  meaning_same (percent t) g h w v k l = ap hundredth (meaning_same t g h w v k l)
  meaning_same (binary op t u) g h w v k l =
      ap (λ (x : Value). operate op x (meaning u g w))
      (meaning_same t g h w v (λ a r. k a (left_reads op t u a r)) (λ f ps i. l f ps (left_reads op t u f i.0, λ a r. left_reads op t u a (i.1 a r))))
      ∙ ap (λ (x : Value). operate op (meaning t h v) x)
      (meaning_same u g h w v (λ a r. k a (right_reads op t u a r)) (λ f ps i. l f ps (right_reads op t u f i.0, λ a r. right_reads op t u a (i.1 a r))))
  meaning_same (what_if f ps) g h w v k l =
      l f.at (map addresses ps) (
        leaf_alone (what_if_leaf f ps) f.at (or_left (f.at == f.at) _ (eq-eqb f.at f.at refl)),
        λ a r. leaf_alone (what_if_leaf f ps) a (or_right (f.at == a) _ (sym (replacement_cells ps a) ∙ r)),
      )
  meaning_same (call f ts) g h w v k l = ap (call_value f) (arguments_same f ts g h w v k l)

  arguments_same : (f : List ℕ) (ts : Trees) (g h : ℕ → Value) (w v : ℕ → List (ℕ × ℕ) → Value) → ((a : ℕ) → reads (call f ts) a ≡ true → g a ≡ h a) →
      ((c : ℕ) (ps : List (ℕ × ℕ)) → ReadsNoMore c ps (call f ts) → w c ps ≡ v c ps) → arguments ts g w ≡ arguments ts h v
  arguments_same f no_trees g h w v k l = refl
  arguments_same f (more_trees t ts) g h w v k l =
      ap₂ (λ (x : Argument) (xs : List Argument). x ∷ xs)
      (ap₂ (λ (x : Value) (r : Option Region). record { value = x; region = r })
      (meaning_same t g h w v (λ a r. k a (first_reads f t ts a r)) (λ c ps i. l c ps (first_reads f t ts c i.0, λ a r. first_reads f t ts a (i.1 a r))))
      (referred_same t g h (λ a r. k a (first_reads f t ts a r))))
      (arguments_same f ts g h w v (λ a r. k a (rest_reads f t ts a r)) (λ c ps i. l c ps (rest_reads f t ts c i.0, λ a r. rest_reads f t ts a (i.1 a r))))

abbrev with : ℕ → Value → List Replacement → List Replacement
with a v rs = (record { at = a; value = v }) ∷ rs

-- values that agree on the replacement cells give the same replacements
pub replacements_same : (ps : List (ℕ × ℕ)) (g h : ℕ → Value) → ((a : ℕ) → list_any (λ p. p.1 == a) ps ≡ true → g a ≡ h a) → replacements g ps ≡ replacements h ps
replacements_same [] g h k = refl
replacements_same (p ∷ ps) g h k =
    ap (λ (v : Value). with p.0 v (replacements g ps)) (k p.1 (or_left (p.1 == p.1) _ (eq-eqb p.1 p.1 refl)))
    ∙ ap (with p.0 (h p.1)) (replacements_same ps g h (λ a m. k a (or_right (p.1 == a) _ m)))
