-- What the text of a schema says, in the words of the grammar.
use Rattle.std.proofs.Common.{◌≡◌, ℕ, ◌<◌, ◌≤◌, Bool, true, false, nat_lt, List, [], ◌∷◌, ◌++◌, length, Option, Some, None, Result, Ok, Err, refl, sym, ap, subst, ◌∙◌, arith}
use Rattle.std.specs.Prelude.{◌↔◌, if◌then◌else◌, MatchBool}
use Rattle.std.proofs.lemmas.Bool.Decides.{nat_tests}
use Rattle.fault.specs.declared.refusal.Refusal.{Refusal}
use Rattle.fault.specs.declared.refusal.Refusal.TheVariants.{Syntax, TooLarge, BadSchema, UnknownTable, UnknownColumn, WrongType}
use Rattle.schema.specs.declared.syntax.Column.{Column}
use Rattle.schema.specs.declared.syntax.KeyNames.{KeyNames}
use Rattle.schema.specs.declared.syntax.ForeignKey.{ForeignKey}
use Rattle.schema.specs.declared.syntax.CreateTable.{CreateTable}
use Rattle.schema.specs.Checks.{Check, first_failing, each_after, each}
use Rattle.schema.specs.Rules.{column_checks, application_period_checks, system_period_checks, key_name_checks, key_names_checks, key_checks, parent_checks, table_named, foreign_key_checks, name_and_size_checks, table_checks, schema_checks}
use Rattle.sqltokens.specs.Syntax.{IsTold, spelled_in}
use Rattle.namesyntax.specs.Parsing.{or_syntax, parsed}
use Rattle.schemasyntax.specs.Schemas.{TableForm, tables}
use Rattle.sqlchecks.specs.Columns.{Tables}
use Rattle.schemaread.specs.Schemas.{MakesSaid, SchemaSays}
use Rattle.schemaread.specs.Laws.{SaysSchema, IsBoundedSchema, SaysOneSchema}
use Rattle.schemaread.proofs.OneSchema.{one_answer}

-- ---- no check answers a syntax error

NotSyntax : Refusal → Type 0
NotSyntax r = (at : ℕ) → r ≡ Syntax at → ⊥

abbrev NoneSyntax : List Check → Type 0
NoneSyntax [] = Unit {0}
NoneSyntax (c ∷ cs) = NotSyntax c.refusal × NoneSyntax cs

too_large : NotSyntax TooLarge
unfolding NotSyntax
too_large at e = absurd cc

bad_schema : NotSyntax BadSchema
unfolding NotSyntax
bad_schema at e = absurd cc

unknown_table : NotSyntax UnknownTable
unfolding NotSyntax
unknown_table at e = absurd cc

unknown_column : NotSyntax UnknownColumn
unfolding NotSyntax
unknown_column at e = absurd cc

wrong_type : NotSyntax WrongType
unfolding NotSyntax
wrong_type at e = absurd cc

both : (xs ys : List Check) → NoneSyntax xs → NoneSyntax ys → NoneSyntax (xs ++ ys)
both [] ys h k = k
both (x ∷ xs) ys h k = (h.0, both xs ys h.1 k)

each_none : {A : Type 0} (checks : List A → A → List Check) → ((before : List A) (x : A) → NoneSyntax (checks before x)) → (before xs : List A) → NoneSyntax (each_after before checks xs)
each_none checks h before [] = tt
each_none checks h before (x ∷ xs) = both (checks before x) (each_after (before ++ x ∷ []) checks xs) (h before x) (each_none checks h (before ++ x ∷ []) xs)

if_fails : (fails : Bool) (r : Refusal) (others : Option Refusal) (at : ℕ) → NotSyntax r → (others ≡ Some (Syntax at) → ⊥) → (if fails then Some r else others) ≡ Some (Syntax at) → ⊥
unfolding NotSyntax
if_fails true r others at h k e = h at cc
if_fails false r others at h k e = k e

first_not : (checks : List Check) (at : ℕ) → NoneSyntax checks → first_failing checks ≡ Some (Syntax at) → ⊥
first_not [] at h e = absurd cc
first_not (c ∷ cs) at h e = if_fails c.fails c.refusal (first_failing cs) at h.0 (first_not cs at h.1) e

column_none : (before : List Column) (column : Column) → NoneSyntax (column_checks before column)
unfolding column_checks
column_none before column = (bad_schema, (bad_schema, tt))

application_none : (table : CreateTable) → NoneSyntax (application_period_checks table)
unfolding application_period_checks
application_none table = (bad_schema, (unknown_column, (unknown_column, (bad_schema, tt))))

system_none : (table : CreateTable) → NoneSyntax (system_period_checks table)
unfolding system_period_checks
system_none table = (unknown_column, (unknown_column, (bad_schema, tt)))

key_name_none : (table : CreateTable) (before : List (List ℕ)) (name : List ℕ) → NoneSyntax (key_name_checks table before name)
unfolding key_name_checks
key_name_none table before name = (unknown_column, (bad_schema, tt))

key_names_none : (table : CreateTable) (names : KeyNames) → NoneSyntax (key_names_checks table names)
unfolding key_names_checks
key_names_none table names = both (each (key_name_checks table) names.columns.items) _ (each_none (key_name_checks table) (key_name_none table) [] names.columns.items) (bad_schema, tt)

key_none : (table : CreateTable) → NoneSyntax (key_checks table)
unfolding key_checks
key_none table = (too_large, key_names_none table table.key)

parent_none : (table : CreateTable) (key : ForeignKey) (parent : Option CreateTable) → NoneSyntax (parent_checks table key parent)
unfolding parent_checks
parent_none table key None = (unknown_table, tt)
parent_none table key (Some parent) = (bad_schema, (wrong_type, tt))

foreign_key_none : (earlier : List CreateTable) (table : CreateTable) (before : List ForeignKey) (key : ForeignKey) → NoneSyntax (foreign_key_checks earlier table before key)
unfolding foreign_key_checks
foreign_key_none earlier table before key = (too_large, both (key_names_checks table key.names) (parent_checks table key (table_named earlier key.parent)) (key_names_none table key.names) (parent_none table key (table_named earlier key.parent)))

size_none : (earlier : List CreateTable) (table : CreateTable) → NoneSyntax (name_and_size_checks earlier table)
unfolding name_and_size_checks
size_none earlier table = (bad_schema, (too_large, tt))

table_none : (earlier : List CreateTable) (table : CreateTable) → NoneSyntax (table_checks earlier table)
table_none earlier table = both _ _ (both _ _ (both _ _ (both _ _ (both _ _
    (size_none earlier table)
    (each_none column_checks column_none [] table.columns.items))
    (application_none table))
    (system_none table))
    (key_none table))
    (each_none (foreign_key_checks earlier table) (foreign_key_none earlier table) [] table.foreign_keys.items)

schema_none : (written : List CreateTable) → NoneSyntax (schema_checks written)
schema_none written = (too_large, each_none table_checks table_none [] written)

-- ---- what is parsed and then made

either_true : (b : Bool) (P Q : Type 0) → b ≡ true → MatchBool b P Q ↔ P
either_true true P Q e = (λ p. p, λ p. p)
either_true false P Q e = absurd cc

either_false : (b : Bool) (P Q : Type 0) → b ≡ false → MatchBool b P Q ↔ Q
either_false true P Q e = absurd cc
either_false false P Q e = (λ q. q, λ q. q)

forms_from : (r : Result (List TableForm) ℕ) (made : Tables) → MakesSaid (or_syntax r) (Ok made) → (forms : List TableForm) × (r ≡ Ok forms) × MakesSaid (Ok forms) (Ok made)
forms_from (Ok forms) made h = (forms, refl, h)
forms_from (Err at) made h = absurd cc

place_from : (r : Result (List TableForm) ℕ) (at : ℕ) → MakesSaid (or_syntax r) (Err (Syntax at)) → r ≡ Err at
place_from (Ok forms) at h = absurd (first_not (schema_checks h.0) at (schema_none h.0) h.2)
place_from (Err n) at h = ap (λ (k : ℕ). Err k) (same n at h) where
  same : (n at : ℕ) → (let e : Result Tables Refusal = Err (Syntax at) in e ≡ Err (Syntax n)) → n ≡ at
  same n at e = cc

pub schema_says : IsTold tables → SaysSchema
unfolding SchemaSays
schema_says told text le =
    let here = λ (answer : Result Tables Refusal). either_false (nat_lt 65536 (length text)) (answer ≡ Err TooLarge) (MakesSaid (or_syntax (spelled_in tables text)) answer) (short text le) in (
      (λ made. (
        (λ s. let f = forms_from (spelled_in tables text) made ((here (Ok made)).0 s) in (f.0, ((told text).0 f.0).1 f.1, f.2)),
        (λ s. (here (Ok made)).1 (subst (λ (r : Result (List TableForm) ℕ). MakesSaid (or_syntax r) (Ok made)) (sym (((told text).0 s.0).0 s.1)) s.2)),
      )),
      (λ at. (
        (λ s. ((told text).1 at).1 (place_from (spelled_in tables text) at ((here (Err (Syntax at))).0 s))),
        (λ w. (here (Err (Syntax at))).1 (subst (λ (r : Result (List TableForm) ℕ). MakesSaid (or_syntax r) (Err (Syntax at))) (sym (((told text).1 at).0 w)) refl)),
      )),
      (λ forms r s m. (here (Err r)).1 (subst (λ (p : Result (List TableForm) ℕ). MakesSaid (or_syntax p) (Err r)) (sym (((told text).0 forms).0 s)) m)),
    ) where
      short : (text : List ℕ) → length text ≤ 65536 → nat_lt 65536 (length text) ≡ false
      short text le = grind (arith, nat_tests)

pub schema_bounded : IsBoundedSchema
unfolding SchemaSays
schema_bounded text answer lt = either_true (nat_lt 65536 (length text)) (answer ≡ Err TooLarge) (MakesSaid (or_syntax (spelled_in tables text)) answer) (long text lt) where
  long : (text : List ℕ) → 65536 < length text → nat_lt 65536 (length text) ≡ true
  long text lt = grind (arith, nat_tests)

pub schema_one : SaysOneSchema
unfolding SchemaSays
schema_one text a b h k = either_side (nat_lt 65536 (length text)) h k where
  either_side : (long : Bool) → MatchBool long (a ≡ Err TooLarge) (MakesSaid (parsed tables text) a) → MatchBool long (b ≡ Err TooLarge) (MakesSaid (parsed tables text) b) → a ≡ b
  either_side true h k = h ∙ sym k
  either_side false h k = one_answer (parsed tables text) a b h k
