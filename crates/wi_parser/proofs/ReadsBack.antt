-- A printed formula reads back.
use Rattle.wi_parser.proofs.Words.{◌≡◌, ◌≤◌, false, List, [], ◌∷◌, length, Ok, refl, sym, ap, ap₂, ◌∙◌, subst, All-head, All-tail, tokens, tokens_within, token_and_rest, Tree, Symbol, loosest, Spells, is_too_deep, spelling, symbol_text, printed, symbols_text, symbols_of, formula_symbols, max_formula, IsWithinLimits, parsed, IsWritable, IsFormulaTree}
use Rattle.std.specs.List.{All}
use Rattle.wi_parser.proofs.Apart.{IsApart, spelled_apart}
use Rattle.wi_parser.proofs.Parses.{spelled_parsed}
use Rattle.wi_parser.proofs.WrittenSymbols.{kind_of, written}
use Rattle.wi_parser.proofs.TextEnds.{text_ends}

-- symbols that stand apart are those of their texts
symbols_back : (ts : List Symbol) → All IsWritable ts → IsApart ts → symbols_of (tokens (symbols_text ts)) ≡ ts
unfolding tokens tokens_within
symbols_back [] w a = refl
symbols_back (s ∷ ts) w a =
    let more = All-tail IsWritable s ts w in
    let own = written s ts (All-head IsWritable s ts w) a.0 in
    ap symbols_of (token_and_rest (kind_of s) (symbol_text s) (symbols_text ts) own.token (text_ends s ts more a.0))
    ∙ ap₂ (λ (x : Symbol) xs. x ∷ xs) own.means (symbols_back ts more a.1)

pub printed_symbols : (t : Tree) → IsFormulaTree t → formula_symbols (printed t) ≡ spelling t
unfolding formula_symbols
printed_symbols t h = symbols_back (spelling t) h.symbols (spelled_apart t (spelling t) h.spelled)

pub printed_reads_back : (t : Tree) → IsFormulaTree t → length (printed t) ≤ max_formula → parsed (printed t) ≡ Ok t
printed_reads_back t h short =
    let is = sym (printed_symbols t h) in
    let limits : IsWithinLimits (printed t) = record {
      short = short;
      shallow = subst (λ (ts : List Symbol). is_too_deep ts ≡ false) is h.shallow;
    } in
    spelled_parsed (printed t) t limits (subst (Spells loosest t) is h.spelled)
