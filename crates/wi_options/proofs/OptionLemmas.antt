-- The command of the two options: what it is told, and what a parse of it gives under `keep`.
use Rattle.std.proofs.Common.{zero, suc, ◌++◌, ◌||◌, ◌≡◌, ◌⊎◌, ◌∙◌, ◌<◌, ap, ap₂, ℕ, true, false, List, [], ◌∷◌, length, is_some, Some, refl, sym, subst, inl, inr, arith, codes, slice_index}
use Rattle.std.specs.List.{All, slice_index_or}
use Rattle.std.specs.Str.{bytes_eq}
use Rattle.std.specs.Prelude.{IfOk, Ok, Err, Result, pos}
use Rattle.std.proofs.lemmas.List.Elements.{All-nil}
use Rattle.clap.specs.Built.{AddsArg, IsParsedFrom, IsPlain, IsPlainArg}
use Rattle.clap.specs.Words.{Rule, Text, app_of, args_of, first_value, found_of, with_rule}
use Rattle.clap.specs.declared.builder.arg.Arg.{Arg}
use Rattle.clap.specs.declared.builder.command.Command.{Command}
use Rattle.clap.specs.declared.builder.command.Command.TheViews.{out-Command as fields_of}
use Rattle.clap.specs.declared.builder.value_parser.ValueParser.TheVariants.{Signed}
use Rattle.clap.specs.declared.parser.matches.ArgMatches.{ArgMatches}
use Rattle.clap.proofs.CallerLemmas.{added_plain}
use Rattle.wi_options.specs.Stated.{keep_option, load_option, most_kept, whatif}
use Rattle.wi_options.specs.Inner.Reads.{IsBare, IsPlainly, ReadsKeep, ReadsNumber}
use Rattle.wi_options.proofs.EntryLemmas.{optional_reads}

app_is : (start one command : Command) (a b : Arg) → IsBare start → IsPlainly load_option a → IsPlainly keep_option b
    → AddsArg start a one → AddsArg one b command → app_of command ≡ whatif
app_is start one command a b bare is_a is_b add_a add_b =
    add_b.shape is_b.2 ∙ ap₂ with_rule (add_a.shape is_a.2 ∙ ap₂ with_rule bare.app is_a.0) is_b.0

pub app_if_ok : {E : Type 0} (start one : Command) (made : Result Command E) (a b : Arg) → IsBare start → IsPlainly load_option a
    → IsPlainly keep_option b → AddsArg start a one → IfOk made (AddsArg one b) → IfOk made (λ command. app_of command ≡ whatif)
app_if_ok start one (Ok command) a b bare is_a is_b add_a add_b = app_is start one command a b bare is_a is_b add_a add_b
app_if_ok start one (Err e) a b bare is_a is_b add_a add_b = tt

-- it is neither help nor version, and has a name
first_byte : (id text : Text) → id ≡ codes "keep" → id ≡ text → slice_index text 0 ≡ 107
first_byte id text is same = rw (← same, is) refl

not_auto : (id : Text) → id ≡ codes "keep" → (id ≡ codes "help") ⊎ (id ≡ codes "version") → ⊥
not_auto id is (inl h) =
    let bad : 104 ≡ 107 = first_byte id (codes "help") is h in
    omega (arith, bad)
not_auto id is (inr h) =
    let bad : 118 ≡ 107 = first_byte id (codes "version") is h in
    omega (arith, bad)

named : (id : Text) → id ≡ codes "keep" → id ≡ [] → ⊥
named id is empty = let bad : codes "keep" ≡ [] = sym is ∙ empty in cc

keep_reads : (start one command : Command) (a b : Arg) → IsBare start → IsPlainly load_option a → IsPlainly keep_option b
    → AddsArg start a one → AddsArg one b command → (m : ArgMatches) → IsParsedFrom command m → ReadsKeep m
keep_reads start one command a b bare is_a is_b add_a add_b m p has =
    let list_one : args_of one ≡ add_a.arg ∷ [] = add_a.args ∙ ap (λ l. l ++ add_a.arg ∷ []) bare.args in
    let list : args_of command ≡ add_a.arg ∷ add_b.arg ∷ [] = add_b.args ∙ ap (λ l. l ++ add_b.arg ∷ []) list_one in
    let plain : IsPlain command = added_plain one command b add_b (added_plain start one a add_a
    (subst (All IsPlainArg) (sym bare.args) (All-nil IsPlainArg), bare.groups) is_a.1) is_b.1 in
    let globals_one : (fields_of one).has_globals ≡ false =
    add_a.globals ∙ (ap (λ x. x || a.global) bare.globals ∙ ap (λ x. false || x) is_a.2) in
    let globals : (fields_of command).has_globals ≡ false =
    add_b.globals ∙ (ap (λ x. x || b.global) globals_one ∙ ap (λ x. false || x) is_b.2) in
    let a_id : add_a.arg.id.now ≡ codes "load" = ap (λ x. x.now) add_a.rules.id ∙ ap (λ (r : Rule). r.id) is_a.0 in
    let b_id : add_b.arg.id.now ≡ codes "keep" = ap (λ x. x.now) add_b.rules.id ∙ ap (λ (r : Rule). r.id) is_b.0 in
    let elem : slice_index_or (args_of command) 1 b ≡ add_b.arg = ap (λ l. slice_index_or l 1 b) list in
    let id : (slice_index_or (args_of command) 1 b).id.now ≡ codes "keep" = ap (λ (x : Arg). x.id.now) elem ∙ b_id in
    let parser : (slice_index_or (args_of command) 1 b).value_parser ≡ Some (Signed (pos 1) (pos most_kept)) =
    ap (λ (x : Arg). x.value_parser) elem ∙ add_b.rules.parser _ (ap (λ (r : Rule). r.parser) is_b.0) in
    let lt : 1 < length (args_of command) = subst (λ (l : List Arg). 1 < length l) (sym list) (omega arith) in
    let only : (j : ℕ) (e : Arg) → j < length (args_of command)
    → bytes_eq (slice_index_or (args_of command) j e).id.now (slice_index_or (args_of command) 1 b).id.now ≡ true → j ≡ 1 =
    λ j e low same. place _ add_a.arg add_b.arg a_id id j e
    (subst (λ (l : List Arg). j < length l) list low)
    (subst (λ (l : List Arg). bytes_eq (slice_index_or l j e).id.now (slice_index_or (args_of command) 1 b).id.now ≡ true) list same) in
    let got = optional_reads command m p 1 b (lt, only, not_auto (slice_index_or (args_of command) 1 b).id.now id) (p.parsed (p.from.globals ∙ globals)).values
    (p.from.plain plain).1 (named (slice_index_or (args_of command) 1 b).id.now id) (Signed (pos 1) (pos most_kept)) parser
    (subst (λ (w : Text). is_some (first_value (found_of m) w) ≡ true) (sym id) has) in
    subst (λ (w : Text). ReadsNumber (found_of m) w) id got
  where
    place : (wanted : Text) (x y : Arg) → x.id.now ≡ codes "load" → wanted ≡ codes "keep" → (j : ℕ) (e : Arg) → j < 2
        → bytes_eq (slice_index_or (x ∷ y ∷ []) j e).id.now wanted ≡ true → j ≡ 1
    place wanted x y is_load is_keep zero e lt same =
        let bad : false ≡ true = rw (is_load, is_keep) at same in
        cc
    place wanted x y is_load is_keep (suc j) e lt same = omega arith

pub keep_if_ok : {E : Type 0} (start one : Command) (made : Result Command E) (a b : Arg) → IsBare start → IsPlainly load_option a
    → IsPlainly keep_option b → AddsArg start a one → IfOk made (AddsArg one b)
    → IfOk made (λ command. (m : ArgMatches) → IsParsedFrom command m → ReadsKeep m)
keep_if_ok start one (Ok command) a b bare is_a is_b add_a add_b = keep_reads start one command a b bare is_a is_b add_a add_b
keep_if_ok start one (Err e) a b bare is_a is_b add_a add_b = tt
