-- What `get_one` gives of a number in the range.
use Rattle.std.proofs.Common.{◌≡◌, ◌≤◌, ℕ, true, List, [], ◌∷◌, is_some, Option, Some, None, refl, sym, ap, subst, arith}
use Rattle.std.specs.Prelude.{option_map, slice_get, unwrap_or, Ok, Result}
use Rattle.std.specs.Borrow.{Bor}
use Rattle.std.specs.Str.Parse.{ParsesUnsigned}
use Rattle.clap.specs.Lexer.{without_minus}
use Rattle.clap.specs.Values.{read_as}
use Rattle.clap.specs.Matches.{matched_of, first_value, one_text, ReadsOne}
use Rattle.clap.specs.declared.builder.value_parser.Reading.{Reading}
use Rattle.clap.specs.declared.parser.matches.Found.{Found}
use Rattle.clap.specs.declared.parser.matches.MatchedArg.{MatchedArg}
use Rattle.clap.proofs.CallerReads.{signed_reads}
use Rattle.wi_options.specs.Stated.{most_kept, number_or}
use Rattle.wi_options.specs.Inner.Reads.{ReadsNumber}

no_head : (how : Reading) (vs : List (Bor (List ℕ))) → option_map (λ s. s.now) (slice_get vs 0) ≡ None
    → option_map (λ s. read_as how s.now) (slice_get vs 0) ≡ None
no_head how [] e = refl
no_head how (v ∷ vs) e = cc

no_text : (f : Found) (id : List ℕ) → first_value f id ≡ None → one_text f id ≡ None
no_text f id e = go (matched_of f id) refl
  where
    go : (o : Option MatchedArg) → matched_of f id ≡ o → one_text f id ≡ None
    go None is = rw is refl
    go (Some a) is = rw is (no_head a.reading a.vals.items (rw is at e))

-- the number that the code answers
abbrev pub IsKept : ℕ → Option (List ℕ) → ℕ → Type 0
IsKept usual first k = (k ≡ number_or usual first) × (1 ≤ k) × (k ≤ most_kept)

kept_value : (E : Type 0) (G : List ℕ → Result ℕ E → Type 0) (t : List ℕ) (o : Option ℕ) (usual : ℕ)
    → ((u : List ℕ) (x : Result ℕ E) → G u x → ParsesUnsigned 32 10 u x)
    → ReadsOne G (without_minus t) o → ((n : ℕ) × (o ≡ Some n) × (1 ≤ n) × (n ≤ most_kept))
    → IsKept usual (Some t) (unwrap_or o usual)
kept_value E G t (Some v) usual only read got =
    let is : v ≡ got.0 = ap (λ o. unwrap_or o 0) got.1 in
    ((only (without_minus t) (Ok v) read).1, omega arith, omega arith)
kept_value E G t None usual only read got = cc

pub keep_is : (E : Type 0) (G : List ℕ → Result ℕ E → Type 0) (f : Found) (id : List ℕ) (o : Option ℕ) (usual : ℕ)
    → 1 ≤ usual → usual ≤ most_kept → ((u : List ℕ) (x : Result ℕ E) → G u x → ParsesUnsigned 32 10 u x)
    → (one_text f id ≡ None → o ≡ None) → ((t : List ℕ) → one_text f id ≡ Some t → ReadsOne G t o)
    → (is_some (first_value f id) ≡ true → ReadsNumber f id) → IsKept usual (first_value f id) (unwrap_or o usual)
keep_is E G f id o usual least most only none value passed = go (first_value f id) refl
  where
    go : (w : Option (List ℕ)) → first_value f id ≡ w → IsKept usual (first_value f id) (unwrap_or o usual)
    go None e = rw (e, none (no_text f id e)) (refl, least, most)
    go (Some s) e =
        let p = passed (rw e refl) in
        let read = value (without_minus p.0) p.2 in
        subst (λ (w : Option (List ℕ)). IsKept usual w (unwrap_or o usual)) (sym p.1)
        (kept_value E G p.0 o usual only read (signed_reads E G 32 1 most_kept p.0 o read only (omega arith) p.3))
