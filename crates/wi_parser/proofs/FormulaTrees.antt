-- Which trees are a formula's.
use Rattle.wi_parser.proofs.Words.{◌≡◌, ℕ, suc, ◌+◌, ◌-◌, ◌*◌, ◌<◌, ◌≤◌, pos, negsuc, ℤ, ◌+ℤ◌, Bool, true, false, ◌||◌, nat_lt, List, [], ◌∷◌, ◌++◌, length, map, All, Some, None, unwrap_or, Ok, refl, sym, ap, ap₂, ◌∙◌, subst, arith, if◌then◌else◌, flat_map, prefix_len, nat_tests, All-map, All-weaker, columns, rows, place, row_of, column_of, Expr, Reference, formula_symbols, pair_symbols, loosest, Spells, opened, max_depth, is_sign, is_too_deep, printed, max_formula, parsed, within, part, row_moved, column_moved, moved, in_sheet, map_references, map_references_in, spelling, spelling_of_all, spelling_of_more, Symbol, reference, corners, open_parenthesis, close_parenthesis, separator, infix_mark, sign_mark, percent_mark, what_if_name, name, Tree, Trees, number, text, cell, rectangle, parenthesized, signed, percent, binary, what_if, call, no_trees, more_trees, tree_of, IsWritable, IsFormulaTree}
use Rattle.wi_parser.proofs.OneSpelling.{spelled, has_spelling}
use Rattle.wi_parser.proofs.Parses.{parsed_exactly}
use Rattle.wi_parser.proofs.ReadsBack.{printed_symbols, printed_reads_back}
use Rattle.wi_parser.proofs.Shifts.{still_spelled}
use Rattle.wi_parser.proofs.TextSymbols.{text_writable}

-- ---- what a text is read as

pub read_tree : (bs : List ℕ) (t : Tree) → parsed bs ≡ Ok t → IsFormulaTree t
read_tree bs t h =
    let found = (parsed_exactly bs t).0 h in
    let same : formula_symbols bs ≡ spelling t = spelled found.1 in
    record {
      spelled = has_spelling t (formula_symbols bs) found.1;
      symbols = subst (All IsWritable) same (text_writable bs);
      shallow = subst (λ ts. is_too_deep ts ≡ false) same found.0.shallow;
    }

-- ---- trees with other references

-- the symbol with other references
abbrev turned : (Reference → Reference) → Symbol → Symbol
turned f (reference r) = reference (f r)
turned f (corners c) = corners (record { one = f c.one; other = f c.other })
turned f s = s

turned_append : (f : Reference → Reference) (ts us : List Symbol) → map (turned f) ts ++ map (turned f) us ≡ map (turned f) (ts ++ us)
turned_append f [] us = refl
turned_append f (s ∷ ts) us = ap (λ l. turned f s ∷ l) (turned_append f ts us)

pairs_turned : (f : Reference → Reference) (pairs : List (Reference × Reference)) → flat_map pair_symbols (map (λ q. (f q.0, f q.1)) pairs) ≡ map (turned f) (flat_map pair_symbols pairs)
pairs_turned f [] = refl
pairs_turned f (p ∷ pairs) = ap (λ l. separator ∷ reference (f p.0) ∷ separator ∷ reference (f p.1) ∷ l) (pairs_turned f pairs)

mutual
  spelling_turned : (f : Reference → Reference) (t : Tree) → spelling (map_references f t) ≡ map (turned f) (spelling t)
  spelling_turned f (number x) = refl
  spelling_turned f (text s) = refl
  spelling_turned f (cell r) = refl
  spelling_turned f (rectangle c) = refl
  spelling_turned f (parenthesized t) =
      ap (λ l. open_parenthesis ∷ l ++ close_parenthesis ∷ []) (spelling_turned f t)
      ∙ ap (λ l. open_parenthesis ∷ l) (turned_append f (spelling t) (close_parenthesis ∷ []))
  spelling_turned f (signed s t) = ap (λ l. sign_mark s ∷ l) (spelling_turned f t)
  spelling_turned f (percent t) = ap (λ l. l ++ percent_mark ∷ []) (spelling_turned f t) ∙ turned_append f (spelling t) (percent_mark ∷ [])
  spelling_turned f (binary op l r) =
      ap₂ (λ a b. a ++ infix_mark op ∷ b) (spelling_turned f l) (spelling_turned f r)
      ∙ turned_append f (spelling l) (infix_mark op ∷ spelling r)
  spelling_turned f (what_if r pairs) =
      ap (λ l. what_if_name ∷ open_parenthesis ∷ reference (f r) ∷ l ++ close_parenthesis ∷ []) (pairs_turned f pairs)
      ∙ ap (λ l. what_if_name ∷ open_parenthesis ∷ reference (f r) ∷ l) (turned_append f (flat_map pair_symbols pairs) (close_parenthesis ∷ []))
  spelling_turned f (call g ts) = ap (λ l. name g ∷ open_parenthesis ∷ l) (all_turned f ts)

  all_turned : (f : Reference → Reference) (ts : Trees) → spelling_of_all (map_references_in f ts) ≡ map (turned f) (spelling_of_all ts)
  all_turned f no_trees = refl
  all_turned f (more_trees t ts) =
      ap₂ (λ a b. a ++ b) (spelling_turned f t) (more_turned f ts) ∙ turned_append f (spelling t) (spelling_of_more ts)

  more_turned : (f : Reference → Reference) (ts : Trees) → spelling_of_more (map_references_in f ts) ≡ map (turned f) (spelling_of_more ts)
  more_turned f no_trees = refl
  more_turned f (more_trees t ts) =
      ap₂ (λ a b. separator ∷ a ++ b) (spelling_turned f t) (more_turned f ts)
      ∙ ap (λ l. separator ∷ l) (turned_append f (spelling t) (spelling_of_more ts))

opened_turned : (f : Reference → Reference) (ts : List Symbol) → opened (map (turned f) ts) ≡ opened ts
opened_turned f [] = refl
opened_turned f (open_parenthesis ∷ ts) = ap (λ n. suc n) (opened_turned f ts)
opened_turned f (close_parenthesis ∷ ts) = ap (λ n. n - 1) (opened_turned f ts)
opened_turned f (s ∷ ts) = opened_turned f ts

sign_turned : (f : Reference → Reference) (s : Symbol) → is_sign (turned f s) ≡ is_sign s
sign_turned f (reference r) = refl
sign_turned f (corners c) = refl
sign_turned f s = refl

signs_turned : (f : Reference → Reference) (ts : List Symbol) → prefix_len is_sign (map (turned f) ts) ≡ prefix_len is_sign ts
signs_turned f [] = refl
signs_turned f (s ∷ ts) = ap₂ (λ b n. if b then 1 + n else 0) (sign_turned f s) (signs_turned f ts)

depth_turned : (f : Reference → Reference) (ts : List Symbol) → is_too_deep (map (turned f) ts) ≡ is_too_deep ts
depth_turned f [] = refl
depth_turned f (s ∷ ts) =
    ap₂ (λ m n. (nat_lt max_depth m || nat_lt max_depth n) || is_too_deep (map (turned f) ts)) (opened_turned f (s ∷ ts)) (signs_turned f (s ∷ ts))
    ∙ ap (λ b. (nat_lt max_depth (opened (s ∷ ts)) || nat_lt max_depth (prefix_len is_sign (s ∷ ts))) || b) (depth_turned f ts)

turned_writable : (f : Reference → Reference) → ((r : Reference) → in_sheet r ≡ true → in_sheet (f r) ≡ true) → (s : Symbol) → IsWritable s → IsWritable (turned f s)
turned_writable f k (reference r) h = k r h
turned_writable f k (corners c) h = (k c.one h.0, k c.other h.1)
turned_writable f k s h = h

with_references : (f : Reference → Reference) → ((r : Reference) → in_sheet r ≡ true → in_sheet (f r) ≡ true) → (t : Tree) → IsFormulaTree t → IsFormulaTree (map_references f t)
with_references f k t h =
    let same = sym (spelling_turned f t) in
    let ts = spelling t in record {
      spelled = still_spelled f h.spelled;
      symbols = subst (All IsWritable) same (All-map IsWritable (turned f) ts (All-weaker IsWritable (λ s. IsWritable (turned f s)) (turned_writable f k) ts h.symbols));
      shallow = subst (λ us. is_too_deep us ≡ false) same (depth_turned f ts ∙ h.shallow);
    }

-- ---- shifted trees

-- a part of a reference, 0 where it would leave the sheet
within_below : (size : ℕ) (to : ℤ) → 0 < size → unwrap_or (within size to) 0 < size
within_below size (pos k) h = go (nat_lt k size) refl
  where
    go : (b : Bool) → nat_lt k size ≡ b → unwrap_or (if b then Some k else None) 0 < size
    go true e = grind (arith, nat_tests)
    go false e = h
within_below size (negsuc k) h = h

part_below : (b : Bool) (size : ℕ) (by : ℤ) (k : ℕ) → k < size → unwrap_or (part b size by k) 0 < size
part_below true size by k h = h
part_below false size by k h = within_below size (pos k +ℤ by) (omega arith)

moved_in_sheet : (down right : ℤ) (r : Reference) → in_sheet r ≡ true → in_sheet (moved down right r) ≡ true
unfolding moved
moved_in_sheet down right r h =
    let inside : r.at < rows * columns = grind (arith, nat_tests) in
    let row = part_below r.row_is_absolute rows down (row_of r.at) (omega arith) in
    let column = part_below r.column_is_absolute columns right (column_of r.at) (omega arith) in
    let i = unwrap_or (row_moved down r) 0 in
    let j = unwrap_or (column_moved right r) 0 in
    place_in_sheet i j row column
  where
    place_in_sheet : (i j : ℕ) → i < rows → j < columns → nat_lt (place i j) (rows * columns) ≡ true
    place_in_sheet i j h e =
        let inside : place i j < rows * columns = omega arith in
        grind (arith, nat_tests)

pub moved_tree : (down right : ℤ) (t : Tree) → IsFormulaTree t → IsFormulaTree (map_references (moved down right) t)
moved_tree down right = with_references (moved down right) (moved_in_sheet down right)

-- ---- what is printed

-- the tree of a formula is told by its view
pub printed_spells : (e : Expr) (t : Tree) → tree_of e ≡ t → IsFormulaTree (tree_of e) → Spells loosest t (formula_symbols (printed t))
printed_spells e t is h =
    let tree = subst IsFormulaTree is h in
    subst (Spells loosest t) (sym (printed_symbols t tree)) tree.spelled

pub printed_again : (e : Expr) (t : Tree) → tree_of e ≡ t → IsFormulaTree (tree_of e) → length (printed t) ≤ max_formula → parsed (printed t) ≡ Ok t
printed_again e t is h = printed_reads_back t (subst IsFormulaTree is h)
