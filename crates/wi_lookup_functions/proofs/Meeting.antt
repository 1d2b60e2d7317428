-- Which values meet a criterion.
use Rattle.wi_lookup_functions.proofs.Words.{◌≡◌, Bool, true, false, ◌&&◌, ◌==◌, Option, Some, None, refl, sym, ap, ◌∙◌, not, if◌then◌else◌, is_eq, is_ne, Ordering, Less as less, Equal as equal, Greater as greater, and-true, and_parts, Value, rank, value_order, can_be_found, same_kind, Relation, Unequal, AtMost, AtLeast, relation_of, holds, holds_between_kinds}
use Rattle.wi_fraction.specs.Number as numbers
use Rattle.wi_fraction.specs.Order.{cross_cmp}
use Rattle.wi_values.specs.declared.value.Value.TheVariants.{Number}
use Rattle.wi_lookup_functions.specs.declared.criterion.Relation.TheVariants.{Equal, Less, Greater}

-- what is told by the order of a value to the operand, where they are of one kind
abbrev pub told : Relation → Value → Option Ordering → Bool
told r v (Some o) = holds r o
told r v None = holds_between_kinds r && can_be_found v

ne_is : (o : Ordering) → not (is_eq o) ≡ is_ne o
ne_is less = refl
ne_is equal = refl
ne_is greater = refl

-- of values of one kind, and of others
same : (r : Relation) (w v : Value) (b : Bool) → same_kind v w ≡ b → relation_of r w v ≡ told r v (if b then Some (value_order v w) else None)
same Equal w v true e = rw e refl
same Equal w v false e = rw e refl
same Less w v true e = rw e refl
same Less w v false e = rw e refl
same AtMost w v true e = rw e refl
same AtMost w v false e = rw e refl
same Greater w v true e = rw e refl
same Greater w v false e = rw e refl
same AtLeast w v true e = rw e refl
same AtLeast w v false e = rw e refl
same Unequal w v true e =
    ap (λ (b : Bool). can_be_found v && not (b && is_eq (value_order v w))) e
    ∙ ap (λ (b : Bool). b && not (is_eq (value_order v w))) (and_parts (can_be_found v) (can_be_found w) (and_parts (can_be_found v && can_be_found w) (rank v == rank w) e).0).0
    ∙ ne_is (value_order v w)
same Unequal w v false e =
    ap (λ (b : Bool). can_be_found v && not (b && is_eq (value_order v w))) e
    ∙ and-true (can_be_found v)

-- numbers are of one kind
pub met_by_number : (r : Relation) (w v : Value) (x y : numbers.Number) → v ≡ Number x → w ≡ Number y → relation_of r w v ≡ holds r (cross_cmp x y)
met_by_number r w v x y h k = rw (h, k) (at r)
  where
    at : (q : Relation) → relation_of q (Number y) (Number x) ≡ holds q (cross_cmp x y)
    at Equal = refl
    at Unequal = ne_is (cross_cmp x y)
    at Less = refl
    at AtMost = refl
    at Greater = refl
    at AtLeast = refl

pub met_by : (r : Relation) (w v : Value) (m : Option Ordering) → m ≡ (if same_kind v w then Some (value_order v w) else None) → relation_of r w v ≡ told r v m
met_by r w v m e = same r w v (same_kind v w) refl ∙ ap (told r v) (sym e)
