-- Tokens of a formula.
use Rattle.std.specs.Prelude.{◌≡◌, ℕ, ◌≤◌, length, take, drop}
use Rattle.wi_lexer.specs.declared.token.Kind.{Kind}
use Rattle.wi_lexer.specs.declared.token.Kind.TheVariants.{Number, Reference, Rectangle, Name, Text, Mark}
use Rattle.wi_fraction.specs.Written.{IsDecimalText}
use Rattle.wi_lexer.specs.Runs.{blanks_len}
use Rattle.wi_lexer.specs.Reference.{IsReference}
use Rattle.wi_lexer.specs.Rectangle.{IsRectangle}
use Rattle.wi_lexer.specs.Name.{IsName}
use Rattle.wi_lexer.specs.Text.{IsText}
use Rattle.wi_lexer.specs.Mark.{mark_text}
use Rattle.wi_fraction.specs.Text.{Bytes}

-- the text is a token of this kind
abbrev pub IsToken : Kind → Bytes → Type 0
IsToken Number text = IsDecimalText text
IsToken Reference text = IsReference text
IsToken Rectangle text = IsRectangle text
IsToken Name text = IsName text
IsToken Text text = IsText text
IsToken (Mark m) text = text ≡ mark_text m

-- The first n bytes are a token of this kind, and no more of them are a token of any kind.
pub record IsLongest (k : Kind) (n : ℕ) (bs : Bytes) : Type 0 where
  pub within : n ≤ length bs
  pub token : IsToken k (take n bs)
  pub longest : (j : Kind) (m : ℕ) → m ≤ length bs → IsToken j (take m bs) → m ≤ n

-- no token begins here
abbrev pub NoToken : Bytes → Type 0
NoToken bs = (k : Kind) (n : ℕ) → IsToken k (take n bs) → ⊥

-- ---- where a reader finds it

-- what follows the white space at the front
abbrev pub after_blanks : Bytes → Bytes
after_blanks bs = drop (blanks_len bs) bs
