-- A text spells the same statements in both words, and goes wrong at the same place.
use Rattle.std.proofs.Common.{ℕ, List, ◌++◌, sym, ◌∙◌}
use Rattle.std.specs.Prelude.{codes}
use Rattle.sqltokens.specs.What.{Piece}
use Rattle.sqlsyntax.specs.Transactions.{StatementForm}
use Rattle.sqlsyntax.specs.Spelling as before
use Rattle.believed.specs.Spelling as now
use Rattle.believed.proofs.LexingSame.{tokens_now, tokens_before, shape_same}

spelling_now : (forms : List StatementForm) (tokens : List Piece) → before.IsSpelling forms tokens → now.IsSpelling forms tokens
spelling_now forms tokens (are, some, full, dates) = (are, some, full, λ early late date is. shape_same (codes "dddd-dd-dd") date ∙ dates early late date is)

spelling_before : (forms : List StatementForm) (tokens : List Piece) → now.IsSpelling forms tokens → before.IsSpelling forms tokens
spelling_before forms tokens (are, some, full, dates) = (are, some, full, λ early late date is. sym (shape_same (codes "dddd-dd-dd") date) ∙ dates early late date is)

pub spells_now : (text : List ℕ) (forms : List StatementForm) → before.Spells text forms → now.Spells text (now.IsSpelling forms)
spells_now text forms (tokens, are, spelling) = (tokens, tokens_now text 0 tokens are, spelling_now forms tokens spelling)

pub spells_before : (text : List ℕ) (forms : List StatementForm) → now.Spells text (now.IsSpelling forms) → before.Spells text forms
spells_before text forms (tokens, are, spelling) = (tokens, tokens_before text 0 tokens are, spelling_before forms tokens spelling)

abbrev pub Any : List Piece → Type 0
Any tokens = (forms : List StatementForm) × now.IsSpelling forms tokens

goes_now : (front : List Piece) → before.GoesOn front → now.GoesOn Any front
goes_now front (forms, ending, spelling) = (ending, (forms, spelling_now forms (front ++ ending) spelling))

goes_before : (front : List Piece) → now.GoesOn Any front → before.GoesOn front
goes_before front (ending, (forms, spelling)) = (forms, ending, spelling_before forms (front ++ ending) spelling)

pub wrong_now : (text : List ℕ) (at : ℕ) → before.IsWrongAt text at → now.IsWrongAt Any text at
wrong_now text at x = record {
  spells_nothing = λ s. x.spells_nothing s.2.0 (spells_before text s.2.0 (s.0, s.1, s.2.1));
  tokens = x.tokens;
  are_tokens = tokens_now text 0 x.tokens x.are_tokens;
  count = x.count;
  at_is = x.at_is;
  goes_on = goes_now _ x.goes_on;
  ends = λ l g. x.ends l (goes_before _ g);
}

pub wrong_before : (text : List ℕ) (at : ℕ) → now.IsWrongAt Any text at → before.IsWrongAt text at
wrong_before text at x = record {
  spells_nothing = λ forms s. let t = spells_now text forms s in x.spells_nothing (t.0, t.1, (forms, t.2));
  tokens = x.tokens;
  are_tokens = tokens_before text 0 x.tokens x.are_tokens;
  count = x.count;
  at_is = x.at_is;
  goes_on = goes_before _ x.goes_on;
  ends = λ l g. x.ends l (goes_now _ g);
}
