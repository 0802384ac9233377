-- What a language's texts are read as is what they spell.
use Rattle.std.proofs.Common.{◌≡◌, ℕ, ◌<◌, ◌≤◌, Bool, true, false, nat_lt, List, length, Result, Ok, Err, refl, sym, ap, ◌∙◌}
use Rattle.std.specs.Prelude.{◌↔◌}
use Rattle.std.proofs.lemmas.Bool.{ltb-true, ltb-false}
use Rattle.fault.specs.declared.refusal.Refusal.{Refusal}
use Rattle.model.specs.Transactions.{Statement}
use Rattle.sqltokens.specs.Syntax.{IsTold, spelled_in}
use Rattle.sqltokens.specs.Syntax as grammar
use Rattle.namesyntax.specs.Parsing.{or_syntax}
use Rattle.sqlsyntax.specs.Transactions.{StatementForm, statements}
use Rattle.sqlsyntax.specs.Spelling.{Spells, IsWrongAt}
use Rattle.sqlchecks.specs.Answering.{◌>>=◌}
use Rattle.sqlchecks.specs.Columns.{Tables}
use Rattle.sqlread.specs.Changes.{statements_in}
use Rattle.sqlread.specs.Texts.{transaction_in}
use Rattle.sqlread.specs.Meaning.{meanings, language_of}
use Rattle.sqlread.specs.Reading.{IsReading, TooLong, Spelled, Wrong, IsLanguage}
use Rattle.sqlread.proofs.Saying.{transaction_short, transaction_bounded}

abbrev Reading : Type 0
Reading = Result (List Statement) Refusal

abbrev SpellsAlike : Type 0
SpellsAlike = (text : List ℕ) (forms : List StatementForm) → grammar.Spells statements text forms ↔ Spells text forms

abbrev WrongAlike : Type 0
WrongAlike = (text : List ℕ) (at : ℕ) → grammar.IsWrongAt statements text at ↔ IsWrongAt text at

-- what is parsed, checked and given its meaning
abbrev checked : Tables → Result (List StatementForm) ℕ → Reading
checked tables parse = meanings (or_syntax parse >>= statements_in tables)

short : (tables : Tables) (text : List ℕ) (parse : Result (List StatementForm) ℕ) → length text ≤ 4096 → spelled_in statements text ≡ parse → meanings (transaction_in tables text) ≡ checked tables parse
short tables text parse le e = ap meanings (transaction_short tables text le) ∙ ap (checked tables) e

read_so : IsTold statements → SpellsAlike → WrongAlike → (tables : Tables) (text : List ℕ) (r : Reading) → IsReading tables text r → meanings (transaction_in tables text) ≡ r
read_so told spells wrong tables text r (TooLong lt e) = ap meanings (transaction_bounded tables text lt) ∙ sym e
read_so told spells wrong tables text r (Spelled forms le s e) = short tables text (Ok forms) le (((told text).0 forms).0 ((spells text forms).1 s)) ∙ sym e
read_so told spells wrong tables text r (Wrong at le w e) = short tables text (Err at) le (((told text).1 at).0 ((wrong text at).1 w)) ∙ sym e

so_read : IsTold statements → SpellsAlike → WrongAlike → (tables : Tables) (text : List ℕ) (r : Reading) → meanings (transaction_in tables text) ≡ r → IsReading tables text r
so_read told spells wrong tables text r e = by (nat_lt 4096 (length text)) refl where
  parse : (p : Result (List StatementForm) ℕ) → length text ≤ 4096 → spelled_in statements text ≡ p → IsReading tables text r
  parse (Ok forms) le is = Spelled forms le ((spells text forms).0 (((told text).0 forms).1 is)) (sym e ∙ short tables text (Ok forms) le is)
  parse (Err at) le is = Wrong at le ((wrong text at).0 (((told text).1 at).1 is)) (sym e ∙ short tables text (Err at) le is)

  by : (b : Bool) → nat_lt 4096 (length text) ≡ b → IsReading tables text r
  by true is = let lt : 4096 < length text = ltb-true 4096 (length text) is in TooLong lt (sym e ∙ ap meanings (transaction_bounded tables text lt))
  by false is = parse (spelled_in statements text) (ltb-false 4096 (length text) is) refl

pub is_language : IsTold statements → SpellsAlike → WrongAlike → (tables : Tables) → IsLanguage tables (language_of tables)
unfolding language_of
is_language told spells wrong tables = record {
  count = refl;
  name = λ n. refl;
  references = refl;
  reads = λ text r. (read_so told spells wrong tables text r, so_read told spells wrong tables text r);
}
