-- Lemmas on the program's command line as clap reads it.
use Rattle.std.proofs.Common.{◌≡◌, ◌∙◌, ◌⊎◌, List, [], true, Option, Some, None, Result, Ok, Err, ap, sym, subst, refl, inl, inr}
use Rattle.std.specs.Prelude.{IfErr, IfNone, IfSome, IsErrAnd}
use Rattle.clap.specs.Faults.{fault_of, is_simple_and_free}
use Rattle.clap.specs.Kinds.{HasKind}
use Rattle.clap.proofs.OnLiterals.{clap_on_literals}
use Rattle.clap.specs.declared.error.Error.{Error}
use Rattle.clap.specs.Simple.{App, HasMatchesOf, is_simple, subcommand_of, subcommand_rows_of}
use Rattle.clap.specs.Walk.{Text}
use Rattle.clap.specs.declared.parser.matches.ArgMatches.{ArgMatches}
use Rattle.shell.specs.CommandLine.{AsksFor, bitable_app}
use Rattle.shell.specs.declared.command.Command.{Command as Asked}

is_free : is_simple_and_free bitable_app ≡ true
unfolding clap_on_literals
is_free = refl

is_plain : is_simple bitable_app ≡ true
unfolding clap_on_literals
is_plain = refl

module _ (app : App) (words : List Text) (is : app ≡ bitable_app) where
  -- words that a parser of the program takes
  pub none_refused : (is_simple_and_free app ≡ true → fault_of app words ≡ []) → fault_of bitable_app words ≡ []
  none_refused h = subst (λ a. fault_of a words ≡ []) is (h (ap is_simple_and_free is ∙ is_free))

  -- the subcommand that was met, as the program's words have it
  pub rows_same : (m : ArgMatches) → HasMatchesOf app words m → subcommand_rows_of m ≡ subcommand_of bitable_app words
  rows_same m h = subst (λ a. subcommand_rows_of m ≡ subcommand_of a words) is (h (ap is_simple is ∙ is_plain)).1

  -- what it asks for
  pub asked : (m : ArgMatches) (found : Option Asked) (command : Asked) → HasMatchesOf app words m → IfSome found (AsksFor (subcommand_rows_of m)) → found ≡ Some command
      → AsksFor (subcommand_of bitable_app words) command
  asked m found command h some e =
      let now : AsksFor (subcommand_rows_of m) command = subst (λ f. IfSome f (AsksFor (subcommand_rows_of m))) e some in
      subst (λ rows. AsksFor rows command) (rows_same m h) now

  -- words that ask for nothing
  pub none_asked : (m : ArgMatches) (found : Option Asked) (P : Type 0) → HasMatchesOf app words m → IfNone found ((command : Asked) → ¬ AsksFor (subcommand_rows_of m) command)
      → found ≡ None → P ⊎ ((command : Asked) → ¬ AsksFor (subcommand_of bitable_app words) command)
  none_asked m found P h none e =
      let now : (command : Asked) → ¬ AsksFor (subcommand_rows_of m) command = subst (λ f. IfNone f ((command : Asked) → ¬ AsksFor (subcommand_rows_of m) command)) e none in
      inr (subst (λ rows. (command : Asked) → ¬ AsksFor rows command) (rows_same m h) now)

  -- how it refuses words
  pub refused_by : (e : Error) → (is_simple_and_free app ≡ true → HasKind (fault_of app words) e)
      → HasKind (fault_of bitable_app words) e ⊎ ((command : Asked) → ¬ AsksFor (subcommand_of bitable_app words) command)
  refused_by e h = inl (subst (λ a. HasKind (fault_of a words) e) is (h (ap is_simple_and_free is ∙ is_free)))

-- what holds of an error holds of the error that is handed on
pub err_same : {T E : Type 0} (r : Result T E) (given : E) (P : E → Type 0) → IsErrAnd r (λ e. e ≡ given) → P given → IfErr r P
err_same (Ok x) given P same h = tt
err_same (Err e) given P same h = subst P (sym same) h
