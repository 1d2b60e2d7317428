-- The text of a difference.
use Rattle.wi_reports.proofs.Words.{◌≡◌, Option, Some, None, Ok, Err, refl, ap, ok_or, Number as Numbers, text_of, FractionError, Overflow, shown_text, Fault, BadNumber, number_text}
use Rattle.wi_values.specs.declared.value.Value.TheVariants.{Number}

-- where there is a difference
pub that_fits : (o : Option Numbers) (z : Numbers) → ok_or o Overflow ≡ Ok z → shown_text (Number z) ≡ number_text o
unfolding shown_text
that_fits (Some x) z h = let same : z ≡ x = (let k = h in cc) in ap text_of same
that_fits None z h = absurd (let k = h in cc)

-- and where there is none
pub too_large : (o : Option Numbers) (e : FractionError) → ok_or o Overflow ≡ Err e → shown_text (Fault BadNumber) ≡ number_text o
unfolding shown_text
too_large None e h = refl
too_large (Some x) e h = absurd (let k = h in cc)
