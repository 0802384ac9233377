-- The grammar of transactions is lawful.
use Rattle.std.proofs.Common.{◌≡◌, true, false, List, ◌∷◌, ◌++◌, Option, Some, None, refl, inl, inr}
use Rattle.std.specs.Prelude.{◌⊎◌}
use Rattle.sqltokens.specs.declared.token.Keyword.TheVariants as keyword
use Rattle.sqltokens.specs.declared.token.Sign.TheVariants.{Semicolon, Open, Close, Comma, Equal, Plus, Minus}
use Rattle.sqltokens.specs.What.{What, Word, Symbol, is_word, is_symbol, word, sign}
use Rattle.sqltokens.specs.Classes.{digits, texts, is_name}
use Rattle.phrase.specs.Grammar.{Phrase, one, only, ◌▹◌, ◌◃◌, ◌▸◌, optional, either}
use Rattle.namesyntax.specs.Names.{Bytes, names, another_name, name_list}
use Rattle.sqlsyntax.specs.Shared.{date, literal, comparison, another_comparison, comparisons, ComparisonForm, condition}
use Rattle.sqlsyntax.specs.Transactions.{another_literal, literals, PortionForm, portion, new_value, assignment, another_assignment, assignments, insert, update, delete, statement, is_statement, statements}
use Rattle.phrase.proofs.Laws.{stops, IsLawful, Begins, Parts, Repeats, after_fixed, before_fixed, in_turn, only_fixed, left_out, one_of, in_row}
use Rattle.sqltokens.proofs.Symbols.{a_word, a_sign, digits_lawful}
use Rattle.namesyntax.proofs.LawsNames.{name_then, name_list_lawful}
use Rattle.sqlsyntax.proofs.LawsShared.{date_lawful, date_then, literal_lawful, condition_lawful, condition_begins}

-- ---- literals

pub another_literal_lawful : IsLawful another_literal
unfolding another_literal
another_literal_lawful = after_fixed (sign Comma) _ (a_sign Comma) literal_lawful

pub another_literal_begins : Begins (is_symbol Comma) another_literal true
unfolding another_literal
another_literal_begins a rest f = refl

literals_part : Parts literal another_literal
unfolding literal another_literal date
literals_part b rest f = refl

literals_repeat : Repeats another_literal
unfolding literal another_literal date
literals_repeat b rest f = refl

pub literals_lawful : IsLawful literals
unfolding literals
literals_lawful = in_row literal (is_symbol Comma) another_literal another_literal_begins literals_part literals_repeat literal_lawful another_literal_lawful

-- ---- portions

pub portion_lawful : IsLawful portion
unfolding portion
portion_lawful = after_fixed (word keyword.For) _ (a_word keyword.For) (after_fixed (word keyword.Portion) _ (a_word keyword.Portion) (after_fixed (word keyword.Of) _ (a_word keyword.Of)
    (name_then _ (after_fixed (word keyword.From) _ (a_word keyword.From) (date_then _ (after_fixed (word keyword.To) _ (a_word keyword.To) date_lawful))))))

portion_begins : Begins (is_word keyword.For) portion true
unfolding portion
portion_begins a rest f = refl

abbrev asked : Phrase What (Option PortionForm)
asked = optional (is_word keyword.For) portion

asked_lawful : IsLawful asked
asked_lawful = left_out (is_word keyword.For) portion portion_begins portion_lawful

-- ---- assignments

abbrev sides : Phrase What (Unit {0} ⊎ Unit {0})
sides = either (is_symbol Plus) (only (sign Plus)) (only (sign Minus))

sides_lawful : IsLawful sides
sides_lawful = one_of (is_symbol Plus) (only (sign Plus)) (only (sign Minus)) (λ a rest f. refl) (λ a rest f. refl) (only_fixed (sign Plus) (a_sign Plus)) (only_fixed (sign Minus) (a_sign Minus))

abbrev changed : Phrase What (Bytes × ((Unit {0} ⊎ Unit {0}) × Bytes))
changed = one names ▸ sides ▸ one digits

changed_lawful : IsLawful changed
changed_lawful = name_then _ (in_turn sides (one digits) (λ b rest f s t. refl) sides_lawful digits_lawful)

changed_begins : Begins is_name changed true
unfolding names
changed_begins a rest f = refl

no_name : Begins is_name literal false
unfolding literal date texts digits
no_name (inl d) rest f = refl
no_name (inr (inl t)) rest f = refl
no_name (inr (inr (None, d))) rest f = refl
no_name (inr (inr (Some u, d))) rest f = refl

pub new_value_lawful : IsLawful new_value
unfolding new_value
new_value_lawful = one_of is_name changed literal changed_begins no_name changed_lawful literal_lawful

pub assignment_lawful : IsLawful assignment
unfolding assignment
assignment_lawful = name_then _ (after_fixed (sign Equal) _ (a_sign Equal) new_value_lawful)

pub another_assignment_lawful : IsLawful another_assignment
unfolding another_assignment
another_assignment_lawful = after_fixed (sign Comma) _ (a_sign Comma) assignment_lawful

pub another_assignment_begins : Begins (is_symbol Comma) another_assignment true
unfolding another_assignment
another_assignment_begins a rest f = refl

assignments_part : Parts assignment another_assignment
unfolding assignment another_assignment new_value literal date
assignments_part b rest f = refl

assignments_repeat : Repeats another_assignment
unfolding assignment another_assignment new_value literal date
assignments_repeat b rest f = refl

pub assignments_lawful : IsLawful assignments
unfolding assignments
assignments_lawful = in_row assignment (is_symbol Comma) another_assignment another_assignment_begins assignments_part assignments_repeat assignment_lawful another_assignment_lawful

-- ---- the end of a statement

abbrev end : Phrase What (Option (List ComparisonForm))
end = optional (is_word keyword.Where) condition ◃ sign Semicolon

semicolon_ends : (optional (is_word keyword.Where) condition).goes (Symbol Semicolon) ≡ false
unfolding condition comparisons comparison another_comparison literal date
semicolon_ends = refl

end_lawful : IsLawful end
end_lawful = before_fixed (optional (is_word keyword.Where) condition) (sign Semicolon) (a_sign Semicolon) semicolon_ends (left_out (is_word keyword.Where) condition condition_begins condition_lawful)

asked_ends : (b : Option (List ComparisonForm)) (rest : List What) → stops asked.goes (end.spell b ++ rest) ≡ true
unfolding portion date condition
asked_ends None rest = refl
asked_ends (Some c) rest = refl

assignments_end : (b : Option (List ComparisonForm)) (rest : List What) → stops assignments.goes (end.spell b ++ rest) ≡ true
unfolding condition assignments assignment another_assignment new_value literal date
assignments_end None rest = refl
assignments_end (Some c) rest = refl

-- ---- statements

names_close : (rest : List What) → stops name_list.goes (Symbol Close ∷ rest) ≡ true
unfolding name_list another_name
names_close rest = refl

literals_close : literals.goes (Symbol Close) ≡ false
unfolding literals another_literal literal date
literals_close = refl

pub insert_lawful : IsLawful insert
unfolding insert
insert_lawful =
    after_fixed (word keyword.Insert) _ (a_word keyword.Insert) (after_fixed (word keyword.Into) _ (a_word keyword.Into) (name_then _ (after_fixed (sign Open) _ (a_sign Open)
    (in_turn name_list (sign Close ▹ word keyword.Values ▹ sign Open ▹ literals ◃ sign Close ◃ sign Semicolon) (λ b rest f s t. names_close ((word keyword.Values ▹ sign Open ▹ literals ◃ sign Close ◃ sign Semicolon).spell b ++ rest)) name_list_lawful
    (after_fixed (sign Close) _ (a_sign Close) (after_fixed (word keyword.Values) _ (a_word keyword.Values) (after_fixed (sign Open) _ (a_sign Open)
    (before_fixed (literals ◃ sign Close) (sign Semicolon) (a_sign Semicolon) refl (before_fixed literals (sign Close) (a_sign Close) literals_close literals_lawful)))))))))

asked_set : (rest : List What) → stops asked.goes (Word keyword.Set ∷ rest) ≡ true
unfolding portion date
asked_set rest = refl

pub update_lawful : IsLawful update
unfolding update
update_lawful =
    after_fixed (word keyword.Update) _ (a_word keyword.Update) (name_then _
    (in_turn asked (word keyword.Set ▹ assignments ▸ end) (λ b rest f s t. asked_set ((assignments ▸ end).spell b ++ rest)) asked_lawful
    (after_fixed (word keyword.Set) _ (a_word keyword.Set)
    (in_turn assignments end (λ b rest f s t. assignments_end b rest) assignments_lawful end_lawful))))

pub delete_lawful : IsLawful delete
unfolding delete
delete_lawful =
    after_fixed (word keyword.Delete) _ (a_word keyword.Delete) (after_fixed (word keyword.From) _ (a_word keyword.From) (name_then _
    (in_turn asked end (λ b rest f s t. asked_ends b rest) asked_lawful end_lawful)))

insert_begins : Begins (is_word keyword.Insert) insert true
unfolding insert
insert_begins a rest f = refl

no_insert : Begins (is_word keyword.Insert) (either (is_word keyword.Update) update delete) false
unfolding update delete
no_insert (inl u) rest f = refl
no_insert (inr d) rest f = refl

update_begins : Begins (is_word keyword.Update) update true
unfolding update
update_begins a rest f = refl

no_update : Begins (is_word keyword.Update) delete false
unfolding delete
no_update a rest f = refl

pub statement_lawful : IsLawful statement
unfolding statement
statement_lawful = one_of (is_word keyword.Insert) insert (either (is_word keyword.Update) update delete) insert_begins no_insert insert_lawful
    (one_of (is_word keyword.Update) update delete update_begins no_update update_lawful delete_lawful)

pub statement_begins : Begins is_statement statement true
unfolding statement insert update delete
statement_begins (inl i) rest f = refl
statement_begins (inr (inl u)) rest f = refl
statement_begins (inr (inr d)) rest f = refl

-- a further statement does not go on with the one before it
statements_part : Parts statement statement
unfolding statement insert update delete name_list another_name portion date assignments another_assignment assignment new_value literal
statements_part (inl i) rest f = refl
statements_part (inr (inl u)) rest f = refl
statements_part (inr (inr d)) rest f = refl

pub statements_lawful : IsLawful statements
unfolding statements
statements_lawful = in_row statement is_statement statement statement_begins statements_part statements_part statement_lawful statement_lawful
