-- What the rectangles of an edit are kept as.
use Rattle.std.specs.Prelude.{◌≡◌, true, List}
use Rattle.wi_values.specs.Address.{Area}
use Rattle.wi_edit_log.specs.Inner.Rising.{are_rising}
use Rattle.wi_edit_log.specs.declared.named.Repr.{Repr}
use Rattle.wi_edit_log.specs.declared.named.Repr.TheVariants.{One, Rising, Any}

abbrev pub areas_in : Repr → List Area
areas_in (One areas) = areas
areas_in (Rising several) = several.value.areas.items
areas_in (Any several) = several.value.areas.items

-- those that are said to rise do
abbrev pub IsTold : Repr → Type 0
IsTold (One areas) = Unit {0}
IsTold (Rising several) = are_rising several.value.areas.items ≡ true
IsTold (Any several) = Unit {0}
