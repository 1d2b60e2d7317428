-- The first cell with a number among constants is the first that is equal to it, where none is replaced.
use Rattle.wi_engine.proofs.Words.{◌≡◌, ℕ, Bool, true, false, cond, List, [], ◌∷◌, Option, Some, None, refl, sym, ap, ◌∙◌, subst, arith, find, IsStrictlyIncreasing, keys_of, Area, Value, Empty, Number, Text, Logical, Fault, Replacement, IsInOrder, as_map, Sheet, is_ahead, HasTaken, after_cells, PassesEmpty, cell_known, Findings}
use Rattle.std.specs.Ordering.{is_eq}
use Rattle.wi_values.specs.Address.{cells_of}
use Rattle.wi_fraction.specs.Number.{Number as Numbers}
use Rattle.wi_fraction.specs.Order.Laws.{cross_same_parts}
use Rattle.wi_standard_functions.specs.Matching.{is_match}
use Rattle.wi_parser.specs.declared.content.Content.TheVariants.{Constant, Formula}
use Rattle.wi_arguments.specs.First.{IsFirstEqual}
use Rattle.wi_arguments.proofs.Walking.{whole}
use Rattle.wi_store.specs.Store.{AreConstants, IsFirstNumber, contents_in, first_number, is_number}
use Rattle.wi_store.specs.Inner.Indexes.{first_of}
use Rattle.wi_engine.proofs.known.HandOver.{AreHanded, StandsBefore, handed_to_end, one_known, stands}

-- what equals a number as MATCH finds it
matches : (x : Numbers) (v : Value) → is_match is_eq (Number x) v ≡ is_number x (Constant v)
matches x (Number y) = sym (cross_same_parts y x)
matches x Empty = refl
matches x (Text t) = refl
matches x (Logical b) = refl
matches x (Fault e) = refl

module _ (x : Numbers) where
  -- the first that is equal is kept
  abbrev after : Option ℕ → ℕ → Value → Option ℕ
  after None c v = cond (is_match is_eq (Number x) v) (Some c) None
  after (Some d) c v = Some d

  passes_empty : PassesEmpty after
  passes_empty None c = refl
  passes_empty (Some d) c = refl

  stays : (cells : ℕ → Value) (d : ℕ) (xs : List ℕ) → after_cells after cells (Some d) xs ≡ Some d
  stays cells d [] = refl
  stays cells d (c ∷ xs) = stays cells d xs

  finds : (cells : ℕ → Value) (xs : List ℕ) → after_cells after cells None xs ≡ find (λ c. is_match is_eq (Number x) (cells c)) xs
  finds cells [] = refl
  finds cells (c ∷ xs) = at (is_match is_eq (Number x) (cells c)) (finds cells xs)
    where
      at : (b : Bool) → after_cells after cells None xs ≡ find (λ c. is_match is_eq (Number x) (cells c)) xs → after_cells after cells (cond b (Some c) None) xs ≡ cond b (Some c) (find (λ c. is_match is_eq (Number x) (cells c)) xs)
      at true k = stays cells c xs
      at false k = k

  on : (o : Option ℕ) (c : ℕ) (v : Value) (es : Sheet) → first_of (after o c v) (first_number x es) ≡ first_of o (first_number x ((c, Constant v) ∷ es))
  on (Some d) c v es = refl
  on None c v es = ap (λ (b : Bool). first_of (cond b (Some c) None) (first_number x es)) (matches x v) ∙ at (is_number x (Constant v))
    where
      at : (b : Bool) → first_of (cond b (Some c) None) (first_number x es) ≡ cond b (Some c) (first_number x es)
      at true = refl
      at false = refl

  nothing_behind : (o : Option ℕ) → o ≡ first_of o None
  nothing_behind None = refl
  nothing_behind (Some c) = refl

  module _ (s : Sheet) (w : List Replacement) (f : Findings) (r : Area) (order : IsStrictlyIncreasing (keys_of s)) (stay : StandsBefore s w r r.first None) where
    taken : (o : Option ℕ) (es : Sheet) → AreConstants es → AreHanded after passes_empty s w f r r.first None None o es → HasTaken after (cell_known s w f) r None (Some r.first) (first_of o (first_number x es)) None
    taken o [] k h = subst (λ (p : Option ℕ). HasTaken after (cell_known s w f) r None (Some r.first) p None) (nothing_behind o) (handed_to_end after passes_empty s w f r r.first None stay None o [] order h refl)
    taken o ((c, Constant v) ∷ es) k h =
        subst (λ (p : Option ℕ). HasTaken after (cell_known s w f) r None (Some r.first) p None) (on o c v es)
        (taken (after o c v) es k.1 (one_known after passes_empty s w f r r.first None stay None o (after o c v) c (Constant v) v ((c, Constant v) ∷ es) es order h refl tt refl refl))
    taken o ((c, Formula t) ∷ es) k h = let e : true ≡ false = k.0 in absurd (let z = e in cc)

    pub first_is_equal : (found : Option ℕ) → IsFirstNumber (contents_in r s) x found → IsFirstEqual (cell_known s w f) r (Number x) found
    first_is_equal found h = λ cells agrees.
        h.first
        ∙ whole after (cell_known s w f) r None (first_number x (contents_in r s)) r.first None refl refl
        (taken None (contents_in r s) h.constants (record { start = r.first; begins = omega arith; within = tt; rest = refl; taken = λ cells agrees. refl })) cells agrees
        ∙ finds cells (cells_of r)

pub told : (s : Sheet) (v w : List Replacement) (f : Findings) (r : Area) (first : ℕ) (sought : Value) (x : Numbers) (found : Option ℕ) → IsStrictlyIncreasing (keys_of s) → IsInOrder w → v ≡ w → first ≡ r.first → None ≡ find (is_ahead r (Some first)) (keys_of (as_map v)) →
    sought ≡ Number x → IsFirstNumber (contents_in r s) x found → IsFirstEqual (cell_known s w f) r sought found
told s v w f r first sought x found order sorted same begins none is h =
    subst (λ (u : Value). IsFirstEqual (cell_known s w f) r u found) (sym is)
    (first_is_equal x s w f r order (subst (λ (n : ℕ). StandsBefore s w r n None) begins (stands s v w r first None sorted same none)) found h)
