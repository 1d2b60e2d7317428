-- A parse of the command gives what clap states for the words, and fails by what it finds amiss in them.
use Rattle.std.proofs.Common.{◌≡◌, ◌∙◌, List, [], true, refl, ap, subst, sym, inl, inr}
use Rattle.std.specs.Prelude.{String}
use Rattle.std.specs.Global.{Global}
use Rattle.clap.specs.Words.{App, HasKind, HasMatchesOf, Text, fault_of, first_of, first_value, found_of, is_simple}
use Rattle.clap.specs.Words.{is_simple_and_free, kind_of, matches_of, takes}
use Rattle.clap.specs.declared.error.Error.{Error}
use Rattle.clap.specs.declared.error.kind.ErrorKind.{ErrorKind}
use Rattle.clap.specs.declared.error.kind.ErrorKind.TheVariants.{DisplayHelp, DisplayVersion, OutOfMemory}
use Rattle.clap.specs.declared.parser.matches.ArgMatches.{ArgMatches}
use Rattle.clap.proofs.OnLiterals.{clap_on_literals}
use Rattle.clap.proofs.WalkLemmas.{first_value-rows}
use Rattle.wi_options.specs.Stated.{spelled, stated, whatif}
use Rattle.wi_options.specs.Refused.{AreRefusedFor, fault_by, found_amiss, is_taken}

is_simple_whatif : is_simple whatif ≡ true
unfolding clap_on_literals
is_simple_whatif = refl

is_free_whatif : is_simple_and_free whatif ≡ true
unfolding clap_on_literals
is_free_whatif = refl

-- the first value under an id is the one that clap states
pub value_is_stated : (a : App) (m : ArgMatches) (words : List (String Global)) (id : Text) → a ≡ whatif → HasMatchesOf a (spelled words) m
    → first_value (found_of m) id ≡ first_of id (stated words)
unfolding stated
value_is_stated a m words id is has =
    first_value-rows (found_of m) id ∙ ap (first_of id) ((has (ap is_simple is ∙ is_simple_whatif)).0 ∙ ap (λ (x : App). matches_of x (spelled words)) is)

pub taken_by : (a : App) (words : List (String Global)) → a ≡ whatif → is_taken words ≡ true → takes a (spelled words) ≡ true
unfolding is_taken
taken_by a words is taken = ap (λ (x : App). takes x (spelled words)) is ∙ taken

by_kind : (words : List (String Global)) (e : Error) (k : ErrorKind) → kind_of e ≡ k → HasKind (found_amiss words) e → AreRefusedFor words (fault_by k e)
by_kind words e OutOfMemory is has = tt
by_kind words e DisplayHelp is (inl short) = let bad : DisplayHelp ≡ OutOfMemory = sym is ∙ short in cc
by_kind words e DisplayHelp is (inr among) = (is, among)
by_kind words e DisplayVersion is (inl short) = let bad : DisplayVersion ≡ OutOfMemory = sym is ∙ short in cc
by_kind words e DisplayVersion is (inr among) = (is, among)
by_kind words e k is (inl short) = let bad : k ≡ OutOfMemory = sym is ∙ short in cc
by_kind words e k is (inr among) =
    (λ help. let bad : k ≡ DisplayHelp = sym is ∙ help in cc, λ version. let bad : k ≡ DisplayVersion = sym is ∙ version in cc, among)

pub is_fault : (a : App) (words : List (String Global)) (e : Error) → a ≡ whatif
    → (is_simple_and_free a ≡ true → HasKind (fault_of a (spelled words)) e)
    → AreRefusedFor words (fault_by (kind_of e) e)
unfolding found_amiss
is_fault a words e is has =
    by_kind words e (kind_of e) refl (subst (λ (x : App). HasKind (fault_of x (spelled words)) e) is (has (ap is_simple_and_free is ∙ is_free_whatif)))

-- where there is a parse, clap finds nothing amiss
pub none_amiss : (a : App) (words : List (String Global)) → a ≡ whatif → (is_simple_and_free a ≡ true → fault_of a (spelled words) ≡ []) → found_amiss words ≡ []
unfolding found_amiss
none_amiss a words is none =
    subst (λ (x : App). fault_of x (spelled words) ≡ []) is (none (ap is_simple_and_free is ∙ is_free_whatif))
