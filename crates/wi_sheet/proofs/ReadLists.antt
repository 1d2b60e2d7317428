-- The occupied cells that a formula reads, as a list.
use Rattle.wi_sheet.proofs.Words.{◌≡◌, ◌==◌, ℕ, ◌||◌, ◌&&◌, Bool, true, List, [], ◌∷◌, filter, Option, Some, None, ap, sym, ◌∙◌, and_parts, list_any-append, flat_map, keys_of, Area, is_within, is_within_one, Constant, Formula, Content, Sheet, content_of, has_formula, content_reads, rectangles_of, reads_within, is_one_of, rectangles_in, occupied_within, and-false, and-or_distrib_left, has-filter, is_key}

-- the cells listed of rectangles are those in one of them
in_rectangles : (cells : List ℕ) (rs : List Area) (a : ℕ) → is_one_of (flat_map (λ r. filter (is_within r) cells) rs) a ≡ (is_one_of cells a && is_within_one rs a)
in_rectangles cells [] a = sym (and-false (is_one_of cells a))
in_rectangles cells (r ∷ rs) a =
    list_any-append (λ (x : ℕ). x == a) (filter (is_within r) cells) (flat_map (λ x. filter (is_within x) cells) rs)
    ∙ ap (λ (b : Bool). b || is_one_of (flat_map (λ x. filter (is_within x) cells) rs) a) (has-filter (is_within r) cells a)
    ∙ ap (λ (b : Bool). (is_one_of cells a && is_within r a) || b) (in_rectangles cells rs a)
    ∙ sym (and-or_distrib_left (is_one_of cells a) (is_within r a) (is_within_one rs a))

-- an occupied cell of the rectangles that a content reads is read
pub occupied_read : (s : Sheet) (o : Option Content) (d : ℕ) → is_one_of (occupied_within s (rectangles_in o)) d ≡ true → content_reads o d ≡ true
occupied_read s None d h = h
occupied_read s (Some (Constant v)) d h = h
occupied_read s (Some (Formula t)) d h =
    reads_within t d ∙ (and_parts (is_one_of (keys_of s) d) _ (sym (in_rectangles (keys_of s) (rectangles_of t) d) ∙ h)).1

-- and each cell with a formula that it reads is one of them
pub read_occupied : (s : Sheet) (o : Option Content) (d : ℕ) → content_reads o d ≡ true → has_formula (content_of s d) ≡ true → is_one_of (occupied_within s (rectangles_in o)) d ≡ true
read_occupied s None d h f = h
read_occupied s (Some (Constant v)) d h f = h
read_occupied s (Some (Formula t)) d h f =
    let any = is_within_one (rectangles_of t) d in
    in_rectangles (keys_of s) (rectangles_of t) d ∙ ap (λ (b : Bool). b && any) (is_key s d f) ∙ sym (reads_within t d) ∙ h
