-- What the calls on formulas and contents answer.
use Rattle.wi_parser.proofs.Words.{◌≡◌, ◌≤◌, Bool, true, false, List, length, ℕ, Option, Some, None, option_map, is_some, ok_or, Ok, Err, if◌then◌else◌, ℤ, codes, refl, ap, sym, ◌∙◌, le-ltb, Value, max_text, imported, Constant, Formula, TooLong, Tree, stays, moved, all_references, map_references, shifted, Front, IsFrontOf, after, after_equals, parsed, as_content, taken_as_text, constant_read, content_read}
use Rattle.wi_parser.proofs.Shifts.{shifted_is}
use Rattle.wi_values.specs.declared.value.Value.TheVariants.{Text}

-- ---- shifts

pub shifted_none : (down right : ℤ) (t w : Tree) → t ≡ w → false ≡ all_references (stays down right) t → shifted down right w ≡ None
shifted_none down right t w same h =
    ap (shifted down right) (sym same) ∙ shifted_is down right t ∙ ap (λ b. if b then Some (map_references (moved down right) t) else None) (sym h)

pub shifted_found : (down right : ℤ) (t w new f : Tree) → t ≡ w → true ≡ all_references (stays down right) t → new ≡ map_references (moved down right) t → f ≡ new
    → shifted down right w ≡ Some f
shifted_found down right t w new f same h made is =
    ap (shifted down right) (sym same) ∙ shifted_is down right t ∙ ap (λ b. if b then Some (map_references (moved down right) t) else None) (sym h) ∙ ap Some (sym (is ∙ made))

-- ---- contents

some_mapped : {A B : Type 0} (f : A → B) (o : Option A) → is_some (option_map f o) ≡ is_some o
some_mapped f None = refl
some_mapped f (Some x) = refl

-- whether an `=` follows a text's prefix
pub body_found : (text : List ℕ) (front : Front) (test : Bool) → IsFrontOf text front → test ≡ is_some front.body → test ≡ is_some (after_equals text)
body_found text front test is h = h ∙ sym (some_mapped (λ b. b.now) front.body) ∙ ap is_some is.body

pub read_formula : (text : List ℕ) (t : Tree) → true ≡ is_some (after_equals text) → parsed text ≡ Ok t → content_read text ≡ Ok (Formula t)
unfolding content_read
read_formula text t h is =
    ap (λ b. if b then as_content (parsed text) else constant_read text (after (codes "'") text)) (sym h) ∙ ap as_content is

pub read_constant : (text : List ℕ) (v : Value) → false ≡ is_some (after_equals text) → None ≡ after (codes "'") text → imported text ≡ Some v → content_read text ≡ Ok (Constant v)
unfolding content_read
read_constant text v h none is =
    ap (λ b. if b then as_content (parsed text) else constant_read text (after (codes "'") text)) (sym h) ∙ ap (constant_read text) (sym none)
    ∙ ap (λ found. ok_or (option_map Constant found) TooLong) is

pub text_taken : (text s : List ℕ) → length text ≤ max_text → s ≡ text → taken_as_text text ≡ Ok (Constant (Text s))
text_taken text s short is =
    ap (λ b. if b then Err TooLong else Ok (Constant (Text text))) (le-ltb max_text (length text) short) ∙ ap (λ x. Ok (Constant (Text x))) (sym is)
