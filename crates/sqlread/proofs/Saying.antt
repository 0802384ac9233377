-- What a text says, in the words of the grammar.
use Rattle.std.proofs.Common.{◌≡◌, ℕ, ◌<◌, ◌≤◌, Bool, true, false, cond, nat_lt, List, length, Result, Ok, Err, refl, sym, ap, ◌∙◌, arith}
use Rattle.std.proofs.lemmas.Bool.Decides.{nat_tests}
use Rattle.fault.specs.declared.refusal.Refusal.{Refusal}
use Rattle.fault.specs.declared.refusal.Refusal.TheVariants.{Syntax, TooLarge}
use Rattle.phrase.specs.Grammar.{Phrase}
use Rattle.sqltokens.specs.What.{What}
use Rattle.sqltokens.specs.Syntax.{IsTold, spelled_in}
use Rattle.namesyntax.specs.Parsing.{or_syntax, parsed}
use Rattle.sqlsyntax.specs.Transactions.{statements}
use Rattle.sqlsyntax.specs.Queries.{query}
use Rattle.sqlchecks.specs.Answering.{◌>>=◌}
use Rattle.sqlchecks.specs.Columns.{Tables}
use Rattle.sqlread.specs.Changes.{statements_in}
use Rattle.sqlread.specs.Questions.{question_in}
use Rattle.sqlread.specs.Texts.{transaction_in, query_in}
use Rattle.sqlread.specs.Laws.{Says, IsBounded, SaysTransaction, SaysQuery}
use Rattle.sqlread.proofs.Refusals.{refused, IsCheck, statements_check, question_check}

-- ---- what is parsed and then checked

syntax_is : {A : Type 0} (m n : ℕ) → refused {A = A} (Syntax m) ≡ Err (Syntax n) → m ≡ n
syntax_is m n e = cc

value_from : {A B : Type 0} (r : Result A ℕ) (checked : A → Result B Refusal) (b : B) → (or_syntax r >>= checked) ≡ Ok b → (form : A) × (r ≡ Ok form) × (checked form ≡ Ok b)
value_from (Ok form) checked b e = (form, refl, e)
value_from (Err at) checked b e = absurd cc

syntax_from : {A B : Type 0} (r : Result A ℕ) (checked : A → Result B Refusal) (at : ℕ) → ((form : A) → IsCheck (checked form)) → (or_syntax r >>= checked) ≡ Err (Syntax at) → r ≡ Err at
syntax_from (Ok form) checked at h e = absurd ((h form).not_syntax at e)
syntax_from {B = B} (Err n) checked at h e = ap (λ (k : ℕ). Err k) (syntax_is {A = B} n at e)

pub says : {A B : Type 0} (p : Phrase What A) (checked : A → Result B Refusal) (said : List ℕ → Result B Refusal) → IsTold p → ((form : A) → IsCheck (checked form))
    → ((text : List ℕ) → length text ≤ 4096 → said text ≡ (parsed p text >>= checked)) → Says p checked said
says {A} {B} p checked said told h is text le =
    let here = is text le in (
      (λ b. (
        (λ e. let v = value_from (spelled_in p text) checked b (sym here ∙ e) in (v.0, ((told text).0 v.0).1 v.1, v.2)),
        (λ s. here ∙ ap (λ (r : Result A ℕ). or_syntax r >>= checked) (((told text).0 s.0).0 s.1) ∙ s.2),
      )),
      (λ at. (
        (λ e. ((told text).1 at).1 (syntax_from (spelled_in p text) checked at h (sym here ∙ e))),
        (λ w. here ∙ ap (λ (r : Result A ℕ). or_syntax r >>= checked) (((told text).1 at).0 w)),
      )),
      (λ form r s e. here ∙ ap (λ (r : Result A ℕ). or_syntax r >>= checked) (((told text).0 form).0 s) ∙ e),
    )

short : (most : ℕ) (text : List ℕ) → length text ≤ most → nat_lt most (length text) ≡ false
short most text le = grind (arith, nat_tests)

long : (most : ℕ) (text : List ℕ) → most < length text → nat_lt most (length text) ≡ true
long most text lt = grind (arith, nat_tests)

chosen : {A : Type 0} (b : Bool) (x y : A) → b ≡ true → cond b x y ≡ x
chosen {A = A} b x y e = ap (λ (t : Bool). cond t x y) e

passed_over : {A : Type 0} (b : Bool) (x y : A) → b ≡ false → cond b x y ≡ y
passed_over {A = A} b x y e = ap (λ (t : Bool). cond t x y) e

pub transaction_short : (schema : Tables) (text : List ℕ) → length text ≤ 4096 → transaction_in schema text ≡ (parsed statements text >>= statements_in schema)
unfolding transaction_in
transaction_short schema text le = passed_over (nat_lt 4096 (length text)) (Err TooLarge) (parsed statements text >>= statements_in schema) (short 4096 text le)

pub transaction_says : IsTold statements → SaysTransaction
transaction_says told schema = says statements (statements_in schema) (transaction_in schema) told (statements_check schema) (transaction_short schema)

pub transaction_bounded : (schema : Tables) → IsBounded (transaction_in schema)
unfolding transaction_in
transaction_bounded schema text lt = chosen (nat_lt 4096 (length text)) (Err TooLarge) (parsed statements text >>= statements_in schema) (long 4096 text lt)

pub query_says : IsTold query → SaysQuery
unfolding query_in
query_says told schema = says query (question_in schema) (query_in schema) told (question_check schema) (λ text le. passed_over (nat_lt 4096 (length text)) (Err TooLarge) (parsed query text >>= question_in schema) (short 4096 text le))

pub query_bounded : (schema : Tables) → IsBounded (query_in schema)
unfolding query_in
query_bounded schema text lt = chosen (nat_lt 4096 (length text)) (Err TooLarge) (parsed query text >>= question_in schema) (long 4096 text lt)
