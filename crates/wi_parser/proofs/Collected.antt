-- What a loop over the tokens of a text collects.
use Rattle.wi_parser.proofs.Words.{◌≡◌, List, [], ◌∷◌, ◌++◌, refl, sym, ap, ◌∙◌, Token, NoToken, after_blanks, Scan, ahead, IsNextToken, IsDone, tokens, tokens_next, tokens_bad, tokens_end, Syntax, Symbol, bad_token, symbol_of, symbols_of, meant_by, all_meant}
use Rattle.wi_parser.specs.declared.symbol.Symbol as code

-- what is left of the text's symbols
abbrev pub left : Scan → List Symbol
left s = symbols_of (tokens s.rest)

pub left_next : (old : Scan) (t : Token) (new : Scan) → IsNextToken old t new → left old ≡ symbol_of t.kind t.text.now ∷ left new
left_next old t new h = ap symbols_of (tokens_next old t new h)

pub left_end : (s : Scan) → ahead s ≡ [] → left s ≡ []
left_end s h = ap symbols_of (tokens_end s h)

pub left_bad : (old new : Scan) → (ahead old ≡ [] → ⊥) → NoToken (ahead old) → IsDone old new → left old ≡ bad_token Syntax ∷ left new
left_bad old new some none done =
    ap symbols_of (tokens_bad old some none) ∙ ap (λ ts. bad_token Syntax ∷ ts) (sym (left_end new (ap after_blanks done.rest)))

-- what one more symbol of the code means
pub pushed : (ws : List code.Symbol) (w : code.Symbol) (ts : List Symbol) → all_meant (ws ++ w ∷ []) ++ ts ≡ all_meant ws ++ meant_by w ∷ ts
pushed [] w ts = refl
pushed (v ∷ ws) w ts = ap (λ us. meant_by v ∷ us) (pushed ws w ts)
