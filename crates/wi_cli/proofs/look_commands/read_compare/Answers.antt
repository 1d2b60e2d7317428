use Rattle.wi_cli.proofs.Vocabulary.{◌≡◌, ℕ, Err, List, Refusal, Result, true, cond, ap, sym, subst, ◌∙◌, first_word, after_word, is_all_spaces, IsReading, Reading, ReadCommand}
use Rattle.wi_scenarios.specs.declared.refusal.Refusal.TheVariants.{BadCommand}
use Rattle.wi_cli.specs.Inner.Forms.{COMPARE}
use Rattle.wi_cli.proofs.Ties.Readings.{compare_words, reading, read_so}
use Rattle.wi_cli.proofs.look_commands.read_compare.Goals as goal

-- its three words are the operands, and none is left
compared : (text one behind two behind' area : List ℕ) (r : Result ReadCommand Refusal) → one ≡ first_word text → behind ≡ after_word text
    → two ≡ first_word behind → behind' ≡ after_word behind → is_all_spaces (after_word behind') ≡ true → area ≡ first_word behind'
    → IsReading (compare_words one two area) r → IsReading (reading COMPARE text) r
compared text one behind two behind' area r o b t b' e a h =
    let b'' : behind' ≡ after_word (after_word text) = b' ∙ ap after_word b in
    let none : is_all_spaces (after_word (after_word (after_word text))) ≡ true = sym (ap (λ x. is_all_spaces (after_word x)) b'') ∙ e in
    let words : compare_words one two area ≡ compare_words (first_word text) (first_word (after_word text)) (first_word (after_word (after_word text))) =
    ap (λ x. compare_words x two area) o ∙ ap (λ x. compare_words (first_word text) x area) (t ∙ ap first_word b)
    ∙ ap (compare_words (first_word text) (first_word (after_word text))) (a ∙ ap first_word b'') in
    let said : reading COMPARE text ≡ compare_words (first_word text) (first_word (after_word text)) (first_word (after_word (after_word text))) =
    ap (λ v. cond v (compare_words (first_word text) (first_word (after_word text)) (first_word (after_word (after_word text)))) (Err BadCommand)) none in
    subst (λ (c : Reading). IsReading c r) (words ∙ sym said) h

pub returns : goal.returns
returns c =
    read_so COMPARE c.args.operands.now _ (compared c.args.operands.now _ c.split_word.result.1.now _ c.split_word-2.result.1.now _ _ c.split_word.ensures.word c.split_word.ensures.rest
    c.split_word-2.ensures.word c.split_word-2.ensures.rest c.in_ok-area.ensures.0 c.in_ok-area.ensures.1 c.compare_of.ensures)
