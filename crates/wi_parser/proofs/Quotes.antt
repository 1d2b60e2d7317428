-- A content written piece by piece, its quotes doubled.
use Rattle.wi_parser.proofs.Words.{◌≡◌, ℕ, Bool, true, false, cond, ◌==◌, List, [], ◌∷◌, ◌++◌, refl, sym, ap, ◌∙◌, append_assoc, Option, Some, None, Bor, Result, Ok, Err, is_ok, OnOk, flat_map, IsSplitOnceResult, doubled, quoted, piece_before, no_quote_left}

-- a quote twice, and the rest of the content
abbrev quote_twice : List ℕ → List ℕ
quote_twice bs = 34 ∷ 34 ∷ flat_map doubled bs

doubled_step : (b : ℕ) (bs : List ℕ) → flat_map doubled (b ∷ bs) ≡ cond (b == 34) (quote_twice bs) (b ∷ flat_map doubled bs)
doubled_step b bs = by (b == 34)
  where
    by : (t : Bool) → cond t (34 ∷ 34 ∷ []) (b ∷ []) ++ flat_map doubled bs ≡ cond t (quote_twice bs) (b ∷ flat_map doubled bs)
    by true = refl
    by false = refl

-- what `split_once` at a quote tells
pub piece_doubled : (bs : List ℕ) (r : Option (Bor (List ℕ) × Bor (List ℕ))) (x : Bor (List ℕ) × Bor (List ℕ)) → IsSplitOnceResult 34 bs r → r ≡ Some x → flat_map doubled bs ≡ x.0.now ++ quote_twice x.1.now
piece_doubled = piece_before (flat_map doubled) quote_twice refl doubled_step

pub rest_doubled : (bs : List ℕ) (r : Option (Bor (List ℕ) × Bor (List ℕ))) → IsSplitOnceResult 34 bs r → r ≡ None → flat_map doubled bs ≡ bs
rest_doubled = no_quote_left (flat_map doubled) quote_twice refl doubled_step

-- one more piece and its quote are written
pub piece_written : (out whole bs piece after : List ℕ) → out ++ flat_map doubled bs ≡ whole → flat_map doubled bs ≡ piece ++ quote_twice after → ((out ++ piece) ++ 34 ∷ 34 ∷ []) ++ flat_map doubled after ≡ whole
piece_written out whole bs piece after h cut =
    append_assoc (out ++ piece) (34 ∷ 34 ∷ []) (flat_map doubled after) ∙ append_assoc out piece (quote_twice after) ∙ ap (λ x. out ++ x) (sym cut) ∙ h

-- the rest and the quote that closes are written
pub last_written : {E : Type 0} (r : Result (Unit {0}) E) (o content rest a b c : List ℕ) → a ++ flat_map doubled rest ≡ (o ++ 34 ∷ []) ++ flat_map doubled content → flat_map doubled rest ≡ rest
    → b ≡ a ++ rest → c ≡ cond (is_ok r) (b ++ 34 ∷ []) b → OnOk r (c ≡ o ++ quoted content)
last_written (Err e) o content rest a b c h plain k l = tt
last_written (Ok u) o content rest a b c h plain k l =
    let all = flat_map doubled content in
    l ∙ ap (λ x. x ++ 34 ∷ []) (k ∙ ap (λ x. a ++ x) (sym plain) ∙ h)
    ∙ append_assoc (o ++ 34 ∷ []) all (34 ∷ []) ∙ append_assoc o (34 ∷ []) (all ++ 34 ∷ [])
