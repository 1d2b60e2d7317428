-- The number that two parts make.
use Rattle.wi_fraction.specs.Number.{Number}
use Rattle.wi_fraction.specs.declared.words.Parts.{Parts}

abbrev pub number_in : Parts → Number
number_in p = record { num = p.numerator; den = p.denominator; is_number = p.is_number }
