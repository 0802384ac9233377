-- The grammar of schemas is lawful.
use Rattle.std.proofs.Common.{◌≡◌, ℕ, true, false, List, [], ◌∷◌, ◌++◌, eqb, Ok, refl, sym, ap, ◌∙◌, inl, inr}
use Rattle.std.specs.Prelude.{◌⊎◌, codes}
use Rattle.std.proofs.lemmas.Bool.{eqb-true}
use Rattle.std.proofs.lemmas.List.{same_from_push}
use Rattle.sqltokens.specs.declared.token.Keyword.TheVariants as keyword
use Rattle.sqltokens.specs.declared.token.Keyword.TheVariants.{Integer, Varchar, Timestamp, Generated, Always, As, Row, Start, End, Period, For, SystemTime, Primary, Key, Without, Overlaps, Foreign, References, Create, With, System, Versioning}
use Rattle.sqltokens.specs.declared.token.Sign.TheVariants.{Open, Close, Comma, Semicolon}
use Rattle.sqltokens.specs.What.{What, Word, Symbol, Name, Digits, Text, Stray, is_word, is_symbol, word, sign}
use Rattle.sqltokens.specs.Classes.{has_shape, digits, is_name}
use Rattle.phrase.specs.Reading.{with_front}
use Rattle.phrase.specs.Grammar.{Phrase, expect, one, only, ◌▹◌, ◌◃◌, ◌▸◌, either, many, first_of}
use Rattle.namesyntax.specs.Names.{Bytes, names, another_name}
use Rattle.schemasyntax.specs.Schemas.{is_six, six, column_type, column, column_comma, columns, ApplicationForm, application_period, SystemForm, system_period, KeyNamesForm, before_last, last_of, period_last, in_one, key_columns, key, name_comma, names_comma, key_names, ReferenceForm, reference, another_reference, table, tables}
use Rattle.phrase.proofs.Laws.{bind_ok, ok_is, stops, IsFixed, IsLawful, Begins, Parts, Repeats, after_fixed, before_fixed, in_turn, only_fixed, one_of, repeated, named, in_row}
use Rattle.sqltokens.proofs.Texts.{and_parts}
use Rattle.sqltokens.proofs.Symbols.{a_word, a_sign, digits_lawful, stops_nothing}
use Rattle.namesyntax.proofs.LawsNames.{names_lawful, name_then, another_name_lawful, another_name_begins, name_list_repeat}

six_digits : (d : Bytes) → has_shape (codes "6") d ≡ true → d ≡ codes "6"
six_digits [] e = absurd cc
six_digits (b ∷ []) e = ap (λ (n : ℕ). n ∷ []) (sym (eqb-true 54 b (and_parts (eqb 54 b) true e).0))
six_digits (b ∷ c ∷ bs) e = let h = (and_parts (eqb 54 b) false e).1 in absurd cc

six_only : (t : What) → is_six t ≡ true → t ≡ Digits (codes "6")
six_only (Word j) e = absurd cc
six_only (Symbol s) e = absurd cc
six_only (Name n) e = absurd cc
six_only (Digits d) e = ap Digits (six_digits d e)
six_only (Text t) e = absurd cc
six_only Stray e = absurd cc

a_six : IsFixed six
a_six = record { same = refl; only = six_only }

-- ---- columns

-- the kinds of column from the second, the third and the fourth on
abbrev row_kinds : Phrase What (Unit {0} ⊎ Unit {0})
row_kinds = word Timestamp ▹ sign Open ▹ six ▹ sign Close ▹ word Generated ▹ word Always ▹ word As ▹ word Row ▹ either (is_word Start) (only (word Start)) (only (word End))

abbrev date_kinds : Phrase What (Unit {0} ⊎ (Unit {0} ⊎ Unit {0}))
date_kinds = either (is_word keyword.Date) (only (word keyword.Date)) row_kinds

abbrev text_kinds : Phrase What (Bytes ⊎ (Unit {0} ⊎ (Unit {0} ⊎ Unit {0})))
text_kinds = either (is_word Varchar) (word Varchar ▹ sign Open ▹ one digits ◃ sign Close) date_kinds

row_lawful : IsLawful row_kinds
row_lawful =
    after_fixed (word Timestamp) _ (a_word Timestamp) (after_fixed (sign Open) _ (a_sign Open) (after_fixed six _ a_six (after_fixed (sign Close) _ (a_sign Close) (after_fixed (word Generated) _ (a_word Generated)
    (after_fixed (word Always) _ (a_word Always) (after_fixed (word As) _ (a_word As) (after_fixed (word Row) _ (a_word Row)
    (one_of (is_word Start) (only (word Start)) (only (word End)) (λ a rest f. refl) (λ b rest f. refl) (only_fixed (word Start) (a_word Start)) (only_fixed (word End) (a_word End))))))))))

no_varchar : Begins (is_word Varchar) date_kinds false
no_varchar (inl u) rest f = refl
no_varchar (inr u) rest f = refl

no_integer : Begins (is_word Integer) text_kinds false
no_integer (inl u) rest f = refl
no_integer (inr (inl u)) rest f = refl
no_integer (inr (inr u)) rest f = refl

pub column_type_lawful : IsLawful column_type
unfolding column_type digits
column_type_lawful =
    one_of (is_word Integer) (only (word Integer)) text_kinds (λ a rest f. refl) no_integer (only_fixed (word Integer) (a_word Integer))
    (one_of (is_word Varchar) (word Varchar ▹ sign Open ▹ one digits ◃ sign Close) date_kinds (λ a rest f. refl) no_varchar
    (after_fixed (word Varchar) _ (a_word Varchar) (after_fixed (sign Open) _ (a_sign Open) (before_fixed (one digits) (sign Close) (a_sign Close) refl digits_lawful)))
    (one_of (is_word keyword.Date) (only (word keyword.Date)) row_kinds (λ a rest f. refl) (λ b rest f. refl) (only_fixed (word keyword.Date) (a_word keyword.Date)) row_lawful))

pub column_lawful : IsLawful column
unfolding column
column_lawful = name_then column_type column_type_lawful

comma_ends : column.goes (Symbol Comma) ≡ false
unfolding column column_type
comma_ends = refl

pub column_comma_lawful : IsLawful column_comma
unfolding column_comma
column_comma_lawful = before_fixed column (sign Comma) (a_sign Comma) comma_ends column_lawful

pub column_comma_begins : Begins is_name column_comma true
unfolding column_comma column names
column_comma_begins a rest f = refl

columns_part : Parts column_comma column_comma
unfolding column_comma
columns_part b rest f = stops_nothing ((column ◃ sign Comma).spell b ++ rest)

pub columns_lawful : IsLawful columns
unfolding columns
columns_lawful = in_row column_comma is_name column_comma column_comma_begins columns_part columns_part column_comma_lawful column_comma_lawful

-- ---- periods

pub application_period_lawful : IsLawful application_period
unfolding application_period
application_period_lawful =
    after_fixed (word Period) _ (a_word Period) (after_fixed (word For) _ (a_word For) (name_then _ (after_fixed (sign Open) _ (a_sign Open) (name_then _ (after_fixed (sign Comma) _ (a_sign Comma)
    (before_fixed (one names) (sign Close) (a_sign Close) refl names_lawful))))))

pub system_period_lawful : IsLawful system_period
unfolding system_period
system_period_lawful =
    after_fixed (word Period) _ (a_word Period) (after_fixed (word For) _ (a_word For) (after_fixed (word SystemTime) _ (a_word SystemTime) (after_fixed (sign Open) _ (a_sign Open) (name_then _ (after_fixed (sign Comma) _ (a_sign Comma)
    (before_fixed (one names) (sign Close) (a_sign Close) refl names_lawful))))))

-- ---- the key

-- names without the last, and the last, are the names
pub both_parts : (a : Bytes) (bs : List Bytes) → before_last a bs ++ last_of a bs ∷ [] ≡ a ∷ bs
both_parts a [] = refl
both_parts a (b ∷ bs) = ap (λ (l : List Bytes). a ∷ l) (both_parts b bs)

in_one_again : (x : Bytes × (Bytes × List Bytes)) → in_one (period_last x) ≡ x
in_one_again (a, (b, cs)) = ap (λ (l : List Bytes). (a, first_of (last_of b cs) l)) (both_parts b cs)

pub key_columns_lawful : IsLawful key_columns
unfolding key_columns
key_columns_lawful =
    named period_last in_one (one names ▸ sign Comma ▹ one names ▸ many (is_symbol Comma) another_name) in_one_again
    (name_then _ (after_fixed (sign Comma) _ (a_sign Comma) (name_then _ (repeated (is_symbol Comma) another_name another_name_begins name_list_repeat another_name_lawful))))

-- the parts of names whose last is set apart
pub parted : (a b : Bytes) (cs columns : List Bytes) (period : Bytes) → a ∷ b ∷ cs ≡ columns ++ period ∷ [] → period_last (a, (b, cs)) ≡ (columns, period)
parted a b cs columns period e =
    let h = same_from_push (before_last a (b ∷ cs)) columns (last_of a (b ∷ cs)) period (both_parts a (b ∷ cs) ∙ e) in
    rw (h.0, h.1) refl

-- reading two names and more, where the last of all is set apart
pub key_columns_read : (ts first comma second rest : List What) (a b period : Bytes) (all columns : List Bytes) →
    (one names).read ts ≡ Ok (a, first) → expect (is_symbol Comma) first ≡ Ok comma → (one names).read comma ≡ Ok (b, second) →
    with_front (a ∷ b ∷ []) ((many (is_symbol Comma) another_name).read second) ≡ Ok (all, rest) → all ≡ columns ++ period ∷ [] →
    key_columns.read ts ≡ Ok ((columns, period), rest)
unfolding key_columns
key_columns_read ts first comma second rest a b period all columns e f g h parts =
    let k = bind_ok ((many (is_symbol Comma) another_name).read second) (λ (x : List Bytes × List What). Ok (a ∷ b ∷ x.0, x.1)) (all, rest) h in
    let same = ok_is (a ∷ b ∷ k.0.0, k.0.1) (all, rest) k.2 in
    let names_are : a ∷ b ∷ k.0.0 ≡ columns ++ period ∷ [] = ap (λ (x : List Bytes × List What). x.0) same ∙ parts in
    let rest_is : k.0.1 ≡ rest = ap (λ (x : List Bytes × List What). x.1) same in
    rw (e, f, g, k.1, parted a b k.0.0 columns period names_are, rest_is) refl

without_ends : key_columns.goes (Word Without) ≡ false
unfolding key_columns another_name
without_ends = refl

pub key_lawful : IsLawful key
unfolding key
key_lawful =
    after_fixed (word Primary) _ (a_word Primary) (after_fixed (word Key) _ (a_word Key) (after_fixed (sign Open) _ (a_sign Open)
    (before_fixed (key_columns ◃ word Without ◃ word Overlaps) (sign Close) (a_sign Close) refl
    (before_fixed (key_columns ◃ word Without) (word Overlaps) (a_word Overlaps) refl
    (before_fixed key_columns (word Without) (a_word Without) without_ends key_columns_lawful)))))

-- ---- foreign keys

pub name_comma_lawful : IsLawful name_comma
unfolding name_comma
name_comma_lawful = before_fixed (one names) (sign Comma) (a_sign Comma) refl names_lawful

pub name_comma_begins : Begins is_name name_comma true
unfolding name_comma names
name_comma_begins a rest f = refl

names_part : Parts name_comma name_comma
unfolding name_comma
names_part b rest f = stops_nothing ((one names ◃ sign Comma).spell b ++ rest)

pub names_comma_lawful : IsLawful names_comma
unfolding names_comma
names_comma_lawful = in_row name_comma is_name name_comma name_comma_begins names_part names_part name_comma_lawful name_comma_lawful

period_parts : (rest : List What) → stops names_comma.goes (Word Period ∷ rest) ≡ true
unfolding names_comma name_comma
period_parts rest = refl

pub key_names_lawful : IsLawful key_names
unfolding key_names
key_names_lawful =
    after_fixed (sign Open) _ (a_sign Open) (in_turn names_comma (word Period ▹ one names ◃ sign Close) (λ b rest f s t. period_parts ((one names ◃ sign Close).spell b ++ rest)) names_comma_lawful
    (after_fixed (word Period) _ (a_word Period) (before_fixed (one names) (sign Close) (a_sign Close) refl names_lawful)))

references_part : (rest : List What) → stops key_names.goes (Word References ∷ rest) ≡ true
unfolding key_names names_comma name_comma
references_part rest = refl

pub reference_lawful : IsLawful reference
unfolding reference
reference_lawful =
    after_fixed (word Foreign) _ (a_word Foreign) (after_fixed (word Key) _ (a_word Key) (in_turn key_names (word References ▹ one names ▸ key_names) (λ b rest f s t. references_part ((one names ▸ key_names).spell b ++ rest)) key_names_lawful
    (after_fixed (word References) _ (a_word References) (name_then _ key_names_lawful))))

pub another_reference_lawful : IsLawful another_reference
unfolding another_reference
another_reference_lawful = after_fixed (sign Comma) _ (a_sign Comma) reference_lawful

pub another_reference_begins : Begins (is_symbol Comma) another_reference true
unfolding another_reference
another_reference_begins a rest f = refl

references_repeat : Repeats another_reference
unfolding another_reference reference key_names names_comma name_comma
references_repeat b rest f = refl

-- ---- tables

references_close : (many (is_symbol Comma) another_reference).goes (Symbol Close) ≡ false
unfolding another_reference reference key_names names_comma name_comma
references_close = refl

abbrev references_end : Phrase What (List ReferenceForm)
references_end = many (is_symbol Comma) another_reference ◃ sign Close ◃ word With ◃ word System ◃ word Versioning ◃ sign Semicolon

references_end_lawful : IsLawful references_end
references_end_lawful =
    before_fixed (many (is_symbol Comma) another_reference ◃ sign Close ◃ word With ◃ word System ◃ word Versioning) (sign Semicolon) (a_sign Semicolon) refl
    (before_fixed (many (is_symbol Comma) another_reference ◃ sign Close ◃ word With ◃ word System) (word Versioning) (a_word Versioning) refl
    (before_fixed (many (is_symbol Comma) another_reference ◃ sign Close ◃ word With) (word System) (a_word System) refl
    (before_fixed (many (is_symbol Comma) another_reference ◃ sign Close) (word With) (a_word With) refl
    (before_fixed (many (is_symbol Comma) another_reference) (sign Close) (a_sign Close) references_close (repeated (is_symbol Comma) another_reference another_reference_begins references_repeat another_reference_lawful)))))

after_columns : (b : ApplicationForm × (SystemForm × (KeyNamesForm × List ReferenceForm))) (rest : List What) → stops columns.goes ((application_period ▸ sign Comma ▹ system_period ▸ sign Comma ▹ key ▸ references_end).spell b ++ rest) ≡ true
unfolding columns column_comma application_period
after_columns b rest = refl

application_ends : (rest : List What) → stops application_period.goes rest ≡ true
unfolding application_period
application_ends rest = stops_nothing rest

system_ends : (rest : List What) → stops system_period.goes rest ≡ true
unfolding system_period
system_ends rest = stops_nothing rest

key_ends : (rest : List What) → stops key.goes rest ≡ true
unfolding key
key_ends rest = stops_nothing rest

pub table_lawful : IsLawful table
unfolding table
table_lawful =
    after_fixed (word Create) _ (a_word Create) (after_fixed (word keyword.Table) _ (a_word keyword.Table) (name_then _ (after_fixed (sign Open) _ (a_sign Open)
    (in_turn columns (application_period ▸ sign Comma ▹ system_period ▸ sign Comma ▹ key ▸ references_end) (λ b rest f s t. after_columns b rest) columns_lawful
    (in_turn application_period (sign Comma ▹ system_period ▸ sign Comma ▹ key ▸ references_end) (λ b rest f s t. application_ends ((sign Comma ▹ system_period ▸ sign Comma ▹ key ▸ references_end).spell b ++ rest)) application_period_lawful
    (after_fixed (sign Comma) _ (a_sign Comma)
    (in_turn system_period (sign Comma ▹ key ▸ references_end) (λ b rest f s t. system_ends ((sign Comma ▹ key ▸ references_end).spell b ++ rest)) system_period_lawful
    (after_fixed (sign Comma) _ (a_sign Comma)
    (in_turn key references_end (λ b rest f s t. key_ends (references_end.spell b ++ rest)) key_lawful references_end_lawful)))))))))

pub table_begins : Begins (is_word Create) table true
unfolding table
table_begins a rest f = refl

tables_part : Parts table table
unfolding table columns column_comma application_period system_period key
tables_part b rest f = refl

pub tables_lawful : IsLawful tables
unfolding tables
tables_lawful = in_row table (is_word Create) table table_begins tables_part tables_part table_lawful table_lawful
