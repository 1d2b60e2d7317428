-- Formulas without what-ifs.
use Rattle.wi_engine.proofs.Words.{◌≡◌, ◌==◌, ◌||◌, ◌<◌, ℕ, Bool, true, false, List, [], ◌∷◌, filter, length, get_or, Option, Some, refl, ap, sym, ◌∙◌, subst, true≢false, eq-eqb, or_left, and_parts, has-filter, is_one_of, is_after, cells_after, list_any, keys_of, Area, is_within, is_within_one, Tree, Content, Formula, Sheet, content_of, has_formula, content_reads, rectangles_of, reads_within, content_reads_here, what_ifs_of, found, any_within, occupied_within, rectangles_in, read_occupied, same_tree}
use Rattle.std.specs.List.{flat_map}
use Rattle.std.proofs.lemmas.List.Folds.{list_any_at}
use Rattle.wi_parser.specs.Leaves.{Leaf, cell_leaf, rectangle_leaf, what_if_leaf, leaves}
use Rattle.wi_parser.specs.Reads.{leaf_reads}
use Rattle.wi_parser.specs.Tree.{area_of}
use Rattle.wi_sheet.specs.Demand.{leaf_what_ifs, leaf_reads_here}
use Rattle.wi_engine.specs.Inner.Plans.{RestsOnSettled, is_unsettled, is_what_if}

none_in : (ls : List Leaf) → list_any is_what_if ls ≡ false → flat_map leaf_what_ifs ls ≡ []
none_in [] h = refl
none_in (cell_leaf r ∷ ls) h = none_in ls h
none_in (rectangle_leaf c ∷ ls) h = none_in ls h
none_in (what_if_leaf f pairs ∷ ls) h = absurd (true≢false h)

-- a tree without leaves of what-ifs has no what-ifs
pub no_what_ifs : (t : Tree) → list_any is_what_if (leaves t) ≡ false → what_ifs_of t ≡ []
no_what_ifs t h = none_in (leaves t) h

reads_same : (ls : List Leaf) (a : ℕ) → flat_map leaf_what_ifs ls ≡ [] → list_any (λ l. leaf_reads_here l a) ls ≡ list_any (λ l. leaf_reads l a) ls
reads_same [] a h = refl
reads_same (cell_leaf r ∷ ls) a h = ap (λ (b : Bool). (r.at == a) || b) (reads_same ls a h)
reads_same (rectangle_leaf c ∷ ls) a h = ap (λ (b : Bool). is_within (area_of c) a || b) (reads_same ls a h)
reads_same (what_if_leaf f pairs ∷ ls) a h = cc

-- what is in one of its rectangles it reads as the sheet stands
pub reads_as_it_stands : (o : Option Content) (t : Tree) (a : ℕ) → o ≡ Some (Formula t) → what_ifs_of t ≡ [] → is_within_one (rectangles_of t) a ≡ true → content_reads_here o a ≡ true
reads_as_it_stands o t a e none r = ap (λ (x : Option Content). content_reads_here x a) e ∙ reads_same (leaves t) a none ∙ reads_within t a ∙ r

-- where none of the cells in its rectangles is unsettled, it rests on settled ones
pub rests_on_settled : (s : Sheet) (settled : ℕ → Bool) (c : ℕ) (t : Tree) → content_of s c ≡ Some (Formula t) → what_ifs_of t ≡ [] →
    list_any (λ (r : Area). list_any (is_unsettled s settled) (filter (is_within r) (keys_of s))) (rectangles_of t) ≡ false → RestsOnSettled s settled c
rests_on_settled s settled c t e none h = record {
  cells = λ d r f. by d f (read d r f) (settled d) refl;
  what_ifs = λ u i. subst (λ (x : Tree). what_ifs_of x ≡ []) (same_tree t u (content_of s c) e i) none;
}
  where
    read : (d : ℕ) → content_reads (content_of s c) d ≡ true → has_formula (content_of s d) ≡ true → list_any (λ x. x == d) (occupied_within s (rectangles_of t)) ≡ true
    read d r f = ap (λ (o : Option Content). list_any (λ x. x == d) (occupied_within s (rectangles_in o))) (sym e) ∙ read_occupied s (content_of s c) d r f

    by : (d : ℕ) → has_formula (content_of s d) ≡ true → list_any (λ x. x == d) (occupied_within s (rectangles_of t)) ≡ true → (b : Bool) → settled d ≡ b → settled d ≡ true
    by d f m true k = k
    by d f m false k =
        let here : is_unsettled s settled d ≡ true = rw (f, k) refl in
        absurd (true≢false (sym (found (is_unsettled s settled) (occupied_within s (rectangles_of t)) d m here) ∙ any_within s (is_unsettled s settled) (rectangles_of t) ∙ h))

-- ---- the next cell that is read

-- the next occupied cell of a rectangle that a formula reads is read
pub next_is_read : (s : Sheet) (c : ℕ) (t : Tree) (rs : List Area) (i : ℕ) (r : Area) (o : Option ℕ) (d : ℕ) → content_of s c ≡ Some (Formula t) → rs ≡ rectangles_of t → i < length rs → r ≡ get_or rs i r →
    cells_after s r o ≡ d ∷ cells_after s r (Some d) → content_reads (content_of s c) d ≡ true
next_is_read s c t rs i r o d e f l g h =
    let first : is_one_of (cells_after s r o) d ≡ true = ap (λ (xs : List ℕ). is_one_of xs d) h ∙ or_left (d == d) _ (eq-eqb d d refl) in
    let after = and_parts (is_one_of (filter (is_within r) (keys_of s)) d) _ (sym (has-filter (is_after o) (filter (is_within r) (keys_of s)) d) ∙ first) in
    let inside = and_parts (is_one_of (keys_of s) d) _ (sym (has-filter (is_within r) (keys_of s) d) ∙ after.0) in
    let one : is_within_one rs d ≡ true = list_any_at (λ (x : Area). is_within x d) rs i r l (ap (λ (x : Area). is_within x d) (sym g) ∙ inside.1) in
    ap (λ (x : Option Content). content_reads x d) e ∙ reads_within t d ∙ ap (λ (xs : List Area). is_within_one xs d) (sym f) ∙ one
