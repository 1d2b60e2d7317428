-- What is left after a step of the reader is shorter.
use Rattle.wi_parser.proofs.Words.{◌≡◌, ℕ, ◌<◌, List, length, Some, Result, arith, lt_trans, on_ok_weaker, one_less, Operator, Sign, Symbol, after_open, after_close, after_separator, after_percent, sign_at, operator_within}
use Rattle.std.specs.Result.{OnOk}
use Rattle.wi_parser.proofs.Marks.{open_is, close_is, separator_is, percent_is, sign-length, within_is}

pub past_open : (ts us : List Symbol) → after_open ts ≡ Some us → length us < length ts
past_open ts us h = one_less ts us _ (open_is ts us h)

pub past_close : (ts us : List Symbol) → after_close ts ≡ Some us → length us < length ts
past_close ts us h = one_less ts us _ (close_is ts us h)

pub past_separator : (ts us : List Symbol) → after_separator ts ≡ Some us → length us < length ts
past_separator ts us h = one_less ts us _ (separator_is ts us h)

pub past_percent : (ts us : List Symbol) → after_percent ts ≡ Some us → length us < length ts
past_percent ts us h = one_less ts us _ (percent_is ts us h)

pub past_sign : (ts us : List Symbol) (s : Sign) → sign_at ts ≡ Some (s, us) → length us < length ts
past_sign ts us s h = let more = sign-length ts us s h in omega arith

pub past_operator : (k : ℕ) (ts us : List Symbol) (op : Operator) → operator_within k ts ≡ Some (op, us) → length us < length ts
past_operator k ts us op h = one_less ts us _ (within_is k ts us op h).1

-- what leaves fewer than b leaves fewer than what is above b
pub still_less : {A E : Type 0} (r : Result A E) (a b c : ℕ) → b < c → OnOk r (a < b) → OnOk r (a < c)
still_less r a b c more h = on_ok_weaker r (λ less. lt_trans less more) h
