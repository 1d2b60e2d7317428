use Rattle.wi_value_functions.proofs.Words.{rules, ◌≡◌, List, IfOk, sym, subst, concatenated, Value}
use Rattle.wi_value_functions.proofs.Given.{values_are}
use Rattle.wi_value_functions.proofs.value.text_value.Goals as goal
use Rattle.wi_value_functions.proofs.value.text_value.Goals.{in-Concatenate, in-Exact, in-Find, in-Left, in-Len, in-Mid, in-Rept, in-Right}

pub returns : goal.returns
returns c = elim c.match-function.branch [
  | in-Concatenate w ↦
      let joined : List Value → Type 0 = λ vs. IfOk w.concatenate_value-value.result (λ v. v ≡ concatenated vs) in
      rw (w.value-is, w.in-Concatenate.is) (subst joined (sym (values_are c.args.values.now)) w.concatenate_value-value.ensures)
  | in-Exact w ↦ rw (w.value-is, w.in-Exact.is, ← c.value_or-first.ensures, ← c.value_or-second.ensures) w.exact_value-value.ensures
  | in-Find w ↦ rw (w.value-is, w.in-Find.is, ← c.value_or-first.ensures, ← c.value_or-second.ensures, ← c.one.ensures, ← w.value_or.ensures) w.find_value-value.ensures
  | in-Left w ↦ search rules
  | in-Len w ↦ rw (w.value-is, w.in-Len.is, ← c.value_or-first.ensures) w.len_value-value.ensures
  | in-Mid w ↦ rw (w.value-is, w.in-Mid.is, ← c.value_or-first.ensures, ← c.value_or-second.ensures, ← w.value_or-in-Mid.ensures) w.mid_value-value.ensures
  | in-Rept w ↦ rw (w.value-is, w.in-Rept.is, ← c.value_or-first.ensures, ← c.value_or-second.ensures) w.rept_value-value.ensures
  | in-Right w ↦ rw (w.value-is, w.in-Right.is, ← c.value_or-first.ensures, ← c.one.ensures, ← w.value_or-in-Right.ensures) w.right_value-value.ensures
]
