-- Lemmas on command lines as clap reads them.
use Rattle.std.proofs.Common.{get_or, arith, ◌≡◌, ◌∙◌, ◌<◌, ◌^◌, ◌||◌, ℕ, List, false, Option, Some, None, Result, Ok, Err, ap, ap₂, sym, subst, refl}
use Rattle.std.specs.Str.Parse.{ParsesUnsigned, digits_value, without_leading_plus}
use Rattle.std.specs.Prelude.{codes}
use Rattle.clap.specs.Built.{AddsArg, AddsSubcommand}
use Rattle.clap.specs.Matches.{ReadsOne, one_text}
use Rattle.clap.specs.Simple.{App, app_of, with_rule, with_subcommand}
use Rattle.clap.specs.Walk.{Row, Rule, Text, one_of, rule_of, rows_of}
use Rattle.clap.proofs.WalkLemmas.{one_text-rows}
use Rattle.clap.specs.declared.builder.arg.Arg.{Arg}
use Rattle.clap.specs.declared.builder.command.Command.{Command}
use Rattle.clap.specs.declared.builder.command.Command.TheViews.{out-Command}
use Rattle.clap.specs.declared.parser.matches.Found.{Found}
use Rattle.storecommands.specs.CommandLine.{AsksExport, AsksFor, AsksImport, AsksNew, GivesClock}
use Rattle.storecommands.specs.Given.{GivesLine, GivesNumber}
use Rattle.storecommands.specs.declared.command.Command.{Command as Asked}
use Rattle.storecommands.specs.declared.command.Command.TheVariants.{New, Open, Log, Flights, Audit, Import, Export, Restore}
use Rattle.storecommands.specs.declared.command.ExportRows.{ExportRows}
use Rattle.storecommands.specs.declared.command.ImportRows.{ImportRows}
use Rattle.storecommands.specs.declared.command.NewStore.{NewStore}

-- a command with one more argument, which is not global
pub with_arg : (old : Command) (a : Arg) (new : Command) (app : App) (r : Rule) → AddsArg old a new
    → (app_of old ≡ app) × ((out-Command old).has_globals ≡ false) → (rule_of a ≡ r) × (a.global ≡ false)
    → (app_of new ≡ with_rule app r) × ((out-Command new).has_globals ≡ false)
with_arg old a new app r added before rule = (
  added.shape rule.1 ∙ ap₂ with_rule before.0 rule.0,
  added.globals ∙ (ap (λ b. b || a.global) before.1 ∙ ap (λ b. false || b) rule.1),
)

-- a command with one more subcommand, which has no global argument
pub with_sub : (old sub new : Command) (app below : App) → AddsSubcommand old sub new → app_of old ≡ app
    → (app_of sub ≡ below) × ((out-Command sub).has_globals ≡ false) → app_of new ≡ with_subcommand app below.top
with_sub old sub new app below added before is = added.shape is.1 ∙ ap₂ with_subcommand before (ap (λ (a : App). a.top) is.0)

module _ (E : Type 0) (G : List ℕ → Result ℕ E → Type 0) (k : ℕ) (only : (t : List ℕ) (r : Result ℕ E) → G t r → ParsesUnsigned k 10 t r) (f : Found) (id : Text) (n : ℕ) where
  -- an option that is read as no number was given none
  pub no_number : ((t : Text) → one_text f id ≡ Some t → ReadsOne G t None) → n < 2 ^ k → GivesNumber id (rows_of f) n → ⊥
  no_number read fits given =
      let failed = read given.text (one_text-rows f id ∙ given.given) in
      only given.text (Err failed.0) failed.1 (given.numeral, subst (λ v. v < 2 ^ k) (sym given.value) fits)

  -- an option that is read as a number was given it
  pub number_given : (one_text f id ≡ None → Some n ≡ None) → ((t : Text) → one_text f id ≡ Some t → ReadsOne G t (Some n)) → GivesNumber id (rows_of f) n
  number_given none read = go (one_of id (rows_of f)) refl
    where
      go : (o : Option Text) → one_of id (rows_of f) ≡ o → GivesNumber id (rows_of f) n
      go None e = let bad : Some n ≡ None = none (one_text-rows f id ∙ e) in cc
      go (Some t) e =
          let parsed = only t (Ok n) (read t (one_text-rows f id ∙ e)) in
          record { text = t; given = e; numeral = parsed.0.0; value = sym parsed.1 }

-- an option that is read as a line was given that number, and one that is not was given none
pub line_given : (E : Type 0) (G : List ℕ → Result ℕ E → Type 0) (only : (t : List ℕ) (r : Result ℕ E) → G t r → ParsesUnsigned 64 10 t r) (f : Found) (id : Text)
    (line : Option ℕ) → (one_text f id ≡ None → line ≡ None) → ((t : Text) → one_text f id ≡ Some t → ReadsOne G t line) → GivesLine id (rows_of f) line
line_given E G only f id None none read = λ n fits given. no_number E G 64 only f id n read fits given
line_given E G only f id (Some n) none read = number_given E G 64 only f id n none read

-- an option was given one number
pub one_number : (id : Text) (rows : List Row) (n m : ℕ) → GivesNumber id rows n → GivesNumber id rows m → n ≡ m
one_number id rows n m a b =
    let same : Some a.text ≡ Some b.text = sym a.given ∙ b.given in
    let text : a.text ≡ b.text = cc in
    sym a.value ∙ (ap (λ t. digits_value 10 (without_leading_plus t)) text ∙ b.value)

module _ (E : Type 0) (G : List ℕ → Result ℕ E → Type 0) (only : (t : List ℕ) (r : Result ℕ E) → G t r → ParsesUnsigned 64 10 t r) (f : Found) where
  -- what `--clock` is read as
  pub clock_given : (o : Option ℕ) → (one_text f (codes "clock") ≡ None → o ≡ None) → ((t : Text) → one_text f (codes "clock") ≡ Some t → ReadsOne G t o) → GivesClock (rows_of f) o
  clock_given None none read = record {
    unused = λ e. refl;
    some = tt;
    each = λ n fits given. absurd (no_number E G 64 only f (codes "clock") n read fits given);
  }
  clock_given (Some m) none read =
      let is = number_given E G 64 only f (codes "clock") m none read in
      record {
        unused = λ e. none (one_text-rows f (codes "clock") ∙ e);
        some = is;
        each = λ n fits given. ap Some (one_number (codes "clock") (rows_of f) m n is given);
      }

-- where `new` is asked for nothing, nothing is
pub no_new : (rows : List Row) → ((made : NewStore) → ¬ AsksNew rows made) → (command : Asked) → AsksFor (codes "new") rows command → ⊥
no_new rows none (New made) h = none made h.1
no_new rows none (Open opened) h = let bad : 110 ≡ 111 = ap (λ t. get_or t 0 0) h.0 in absurd (omega (arith, bad))
no_new rows none (Import import) h = let bad : 110 ≡ 105 = ap (λ t. get_or t 0 0) h.0 in absurd (omega (arith, bad))
no_new rows none (Export export) h = let bad : 110 ≡ 101 = ap (λ t. get_or t 0 0) h.0 in absurd (omega (arith, bad))
no_new rows none (Log dir) h = let bad : 110 ≡ 108 = ap (λ t. get_or t 0 0) h.0 in absurd (omega (arith, bad))
no_new rows none (Flights dir out) h = let bad : 110 ≡ 102 = ap (λ t. get_or t 0 0) h.0 in absurd (omega (arith, bad))
no_new rows none (Restore dir) h = let bad : 110 ≡ 114 = ap (λ t. get_or t 0 0) h.0 in absurd (omega (arith, bad))
no_new rows none (Audit dir) h = h

-- where `import` is asked for nothing, nothing is
pub no_import : (rows : List Row) → ((import : ImportRows) → ¬ AsksImport rows import) → (command : Asked) → AsksFor (codes "import") rows command → ⊥
no_import rows none (New made) h = let bad : 105 ≡ 110 = ap (λ t. get_or t 0 0) h.0 in absurd (omega (arith, bad))
no_import rows none (Open opened) h = let bad : 105 ≡ 111 = ap (λ t. get_or t 0 0) h.0 in absurd (omega (arith, bad))
no_import rows none (Import import) h = none import h.1
no_import rows none (Export export) h = let bad : 105 ≡ 101 = ap (λ t. get_or t 0 0) h.0 in absurd (omega (arith, bad))
no_import rows none (Log dir) h = let bad : 105 ≡ 108 = ap (λ t. get_or t 0 0) h.0 in absurd (omega (arith, bad))
no_import rows none (Flights dir out) h = let bad : 105 ≡ 102 = ap (λ t. get_or t 0 0) h.0 in absurd (omega (arith, bad))
no_import rows none (Restore dir) h = let bad : 105 ≡ 114 = ap (λ t. get_or t 0 0) h.0 in absurd (omega (arith, bad))
no_import rows none (Audit dir) h = h

-- where `export` is asked for nothing, nothing is
pub no_export : (rows : List Row) → ((export : ExportRows) → ¬ AsksExport rows export) → (command : Asked) → AsksFor (codes "export") rows command → ⊥
no_export rows none (New made) h = let bad : 101 ≡ 110 = ap (λ t. get_or t 0 0) h.0 in absurd (omega (arith, bad))
no_export rows none (Open opened) h = let bad : 101 ≡ 111 = ap (λ t. get_or t 0 0) h.0 in absurd (omega (arith, bad))
no_export rows none (Import import) h = let bad : 101 ≡ 105 = ap (λ t. get_or t 0 0) h.0 in absurd (omega (arith, bad))
no_export rows none (Export export) h = none export h.1
no_export rows none (Log dir) h = let bad : 101 ≡ 108 = ap (λ t. get_or t 0 0) h.0 in absurd (omega (arith, bad))
no_export rows none (Flights dir out) h = let bad : 101 ≡ 102 = ap (λ t. get_or t 0 0) h.0 in absurd (omega (arith, bad))
no_export rows none (Restore dir) h = let bad : 101 ≡ 114 = ap (λ t. get_or t 0 0) h.0 in absurd (omega (arith, bad))
no_export rows none (Audit dir) h = h
