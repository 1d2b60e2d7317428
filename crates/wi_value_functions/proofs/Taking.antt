-- The parts of a text, once its characters and the numbers are found.
use Rattle.wi_value_functions.proofs.Words.{◌≡◌, sym, ap, ◌∙◌, ℕ, ◌-◌, List, take, drop, length, chars, ℤ, Ok, IsUtf8, limited_text, to_text, to_whole, ◌>>=◌, at_least, of_chars, left_value, right_value, mid_of, Value}
use Rattle.wi_value_functions.proofs.Counting.{spelled}

part_is : (t count : Value) (f : ℕ → List ℕ → List ℕ) (s part : List ℕ) (k : ℤ) (n : ℕ) → to_text t ≡ Ok s → to_whole count ≡ Ok k → at_least 0 k ≡ Ok n
    → IsUtf8 part → chars part ≡ f n (chars s)
    → limited_text part ≡ (to_text t >>= (λ b. to_whole count >>= (λ j. at_least 0 j >>= (λ m. of_chars (f m (chars b))))))
part_is t count f s part k n e g h u is =
    spelled part (f n (chars s)) u is
    ∙ sym (ap (λ q. q >>= (λ m. of_chars (f m (chars s)))) h)
    ∙ sym (ap (λ q. q >>= (λ j. at_least 0 j >>= (λ m. of_chars (f m (chars s))))) g)
    ∙ sym (ap (λ r. r >>= (λ b. to_whole count >>= (λ j. at_least 0 j >>= (λ m. of_chars (f m (chars b)))))) e)

pub left_is : (t count : Value) (s part : List ℕ) (k : ℤ) (n : ℕ) → to_text t ≡ Ok s → to_whole count ≡ Ok k → at_least 0 k ≡ Ok n
    → IsUtf8 part → chars part ≡ take n (chars s) → limited_text part ≡ left_value t count
left_is t count = part_is t count take

pub right_is : (t count : Value) (s part : List ℕ) (k : ℤ) (n : ℕ) → to_text t ≡ Ok s → to_whole count ≡ Ok k → at_least 0 k ≡ Ok n
    → IsUtf8 part → chars part ≡ drop (length (chars s) - n) (chars s) → limited_text part ≡ right_value t count
right_is t count = part_is t count (λ m cs. drop (length cs - m) cs)

pub mid_is : (t place count : Value) (s rest part : List ℕ) (j k : ℤ) (first n : ℕ) → to_text t ≡ Ok s → to_whole place ≡ Ok j → to_whole count ≡ Ok k
    → at_least 1 j ≡ Ok first → at_least 0 k ≡ Ok n → IsUtf8 part → chars rest ≡ drop (first - 1) (chars s) → chars part ≡ take n (chars rest)
    → limited_text part ≡ mid_of t place count
mid_is t place count s rest part j k first n e f g a b u r is =
    spelled part (take n (drop (first - 1) (chars s))) u (is ∙ ap (take n) r)
    ∙ sym (ap (λ q. q >>= (λ m. of_chars (take m (drop (first - 1) (chars s))))) b)
    ∙ sym (ap (λ q. q >>= (λ i. at_least 0 k >>= (λ m. of_chars (take m (drop (i - 1) (chars s)))))) a)
    ∙ sym (ap (λ q. q >>= (λ y. at_least 1 j >>= (λ i. at_least 0 y >>= (λ m. of_chars (take m (drop (i - 1) (chars s))))))) g)
    ∙ sym (ap (λ q. q >>= (λ x. to_whole count >>= (λ y. at_least 1 x >>= (λ i. at_least 0 y >>= (λ m. of_chars (take m (drop (i - 1) (chars s)))))))) f)
    ∙ sym (ap (λ q. q >>= (λ c. to_whole place >>= (λ x. to_whole count >>= (λ y. at_least 1 x >>= (λ i. at_least 0 y >>= (λ m. of_chars (take m (drop (i - 1) (chars c))))))))) e)
