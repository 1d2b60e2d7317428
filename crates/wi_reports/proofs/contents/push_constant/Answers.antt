use Rattle.wi_reports.proofs.Words.{◌≡◌, ℕ, List, ◌++◌, Some, Result, Ok, Err, OnOk, is_ok, if◌then◌else◌, sym, ap, ◌∙◌, append_assoc, codes, Value, Text, Constant, content_text}
use Rattle.wi_reports.proofs.contents.push_constant.Goals as goal

-- a text behind its apostrophe
marked : {E : Type 0} (r : Result (Unit {0}) E) (before mid next lent bytes : List ℕ) (v : Value) → mid ≡ before ++ codes "'" → next ≡ (if is_ok r then mid ++ lent else mid) → lent ≡ bytes → v ≡ Text bytes
    → OnOk r (next ≡ before ++ content_text (Some (Constant v)))
marked (Ok u) before mid next lent bytes v first second same is =
    second ∙ ap (λ xs. xs ++ lent) first ∙ append_assoc before (codes "'") lent ∙ ap (λ xs. before ++ (codes "'" ++ xs)) same ∙ sym (ap (λ x. before ++ content_text (Some (Constant x))) is)
marked (Err e) before mid next lent bytes v first second same is = tt

pub returns-in_ok-push_str-in-Text : goal.returns-in_ok-push_str-in-Text
returns-in_ok-push_str-in-Text c =
    marked c.push_str-in-Text.result _ _ _ _ _ _ c.in_ok-push_str-in-Text.ensures.bytes c.push_str-in-Text.ensures.bytes c.as_str.ensures c.in-Text.is
