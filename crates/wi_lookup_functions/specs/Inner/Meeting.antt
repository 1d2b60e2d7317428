-- A criterion, as the code holds it.
use Rattle.std.specs.Prelude.{◌≡◌, ℕ, Bool, true, false, List, length, drop, nat_eq, Option, Some, None}
use Rattle.std.specs.Borrow.{Bor}
use Rattle.std.specs.List.{starts_with}
use Rattle.std.specs.Ordering.{is_eq, is_ne, is_lt, is_le, is_gt, is_ge}
use Rattle.std.specs.declared.cmp.Ordering.{Ordering}
use Rattle.wi_values.specs.declared.value.Value.{Value}
use Rattle.wi_values.specs.declared.value.Value.TheVariants.{Empty}
use Rattle.wi_standard_functions.specs.Inner.Criteria as defined
use Rattle.wi_standard_functions.specs.Criterion.{is_unequal, constant_of}
use Rattle.wi_standard_functions.specs.Matching.{is_match}
use Rattle.wi_lookup_functions.specs.declared.criterion.Criterion.{Criterion}
use Rattle.wi_lookup_functions.specs.declared.criterion.Relation.{Relation}
use Rattle.wi_lookup_functions.specs.declared.criterion.Relation.TheVariants.{Equal, Unequal, Less, AtMost, Greater, AtLeast}

abbrev pub relation_of : Relation → Value → Value → Bool
relation_of Equal = is_match is_eq
relation_of Unequal = is_unequal
relation_of Less = is_match is_lt
relation_of AtMost = is_match is_le
relation_of Greater = is_match is_gt
relation_of AtLeast = is_match is_ge

-- the criterion that this one stands for
abbrev pub criterion_held : Criterion → defined.Criterion
criterion_held c = record { relation = relation_of c.relation; operand = c.operand }

-- the criterion of this relation to the constant that a text is taken for
abbrev pub to_constant : Relation → List ℕ → defined.Criterion
to_constant relation text = record { relation = relation_of relation; operand = constant_of text }

-- it holds of values of one kind that are in this order
abbrev pub holds : Relation → Ordering → Bool
holds Equal o = is_eq o
holds Unequal o = is_ne o
holds Less o = is_lt o
holds AtMost o = is_le o
holds Greater o = is_gt o
holds AtLeast o = is_ge o

-- it holds of values of different kinds
abbrev pub holds_between_kinds : Relation → Bool
holds_between_kinds Unequal = true
holds_between_kinds r = false

-- what stands behind the sign, where the text begins with it
abbrev pub IsRestAfter : List ℕ → List ℕ → Option (Bor (List ℕ)) → Type 0
IsRestAfter sign text None = starts_with nat_eq text sign ≡ false
IsRestAfter sign text (Some rest) = (starts_with nat_eq text sign ≡ true) × (rest.now ≡ drop (length sign) text)

-- a value meets the criterion
abbrev pub is_met : Criterion → Value → Bool
is_met c v = relation_of c.relation c.operand v

-- Empty meets none
abbrev pub EmptyMeetsNone : Type 0
EmptyMeetsNone = (c : Criterion) → is_met c Empty ≡ false
