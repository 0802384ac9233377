-- The lines of the parts of statements.
use Rattle.std.proofs.Common.{◌≡◌, ℕ, ◌<◌, List, [], ◌∷◌, ◌++◌, length, map, flat_map, codes, Option, Some, None, refl, sym, ap, ◌∙◌, append_assoc, arith, inl, inr}
use Rattle.std.proofs.lemmas.List.{append-nil}
use Rattle.sqltokens.specs.declared.token.Keyword.TheVariants as keyword
use Rattle.sqltokens.specs.declared.token.Sign.TheVariants as sign
use Rattle.sqltokens.specs.What.{What, Word as Keyed, Symbol}
use Rattle.sqltokens.specs.Classes.{digits, texts, dates}
use Rattle.phrase.specs.Grammar.{spell_all, spell_some}
use Rattle.sqlsyntax.specs.declared.forms.Operator.{Operator}
use Rattle.sqlsyntax.specs.declared.forms.Operator.TheVariants as operator
use Rattle.namesyntax.specs.Names.{Bytes, names, another_name, name_list}
use Rattle.sqlsyntax.specs.Shared.{operators, operator_sign, date, LiteralForm, literal, ComparisonForm, comparison, another_comparison, comparisons, condition}
use Rattle.sqlsyntax.specs.Transactions.{another_literal, literals, PortionForm, portion, new_value, AssignmentForm, assignment, another_assignment, assignments, insert, update, delete}
use Rattle.rowtext.specs.Spacing.{Before, Start, Sign, Word, behind, space, sign_text, token_text, line}

-- ---- lines one after the other

-- what stands before the token that follows these
abbrev pub behind_all : Before → List What → Before
behind_all before [] = before
behind_all before (t ∷ ts) = behind_all (behind before t) ts

pub line_append : (before : Before) (xs ys : List What) → line before (xs ++ ys) ≡ line before xs ++ line (behind_all before xs) ys
line_append before [] ys = refl
line_append before (x ∷ xs) ys =
    ap (λ l. (space before x ++ token_text x) ++ l) (line_append (behind before x) xs ys)
    ∙ sym (append_assoc (space before x ++ token_text x) (line (behind before x) xs) (line (behind_all (behind before x) xs) ys))

pub behind_append : (before : Before) (xs ys : List What) → behind_all before (xs ++ ys) ≡ behind_all (behind_all before xs) ys
behind_append before [] ys = refl
behind_append before (x ∷ xs) ys = behind_append (behind before x) xs ys

-- behind tokens that end in a word
line_then : (before : Before) (xs ys : List What) → behind_all before xs ≡ Word → line before (xs ++ ys) ≡ line before xs ++ line Word ys
line_then before xs ys e = line_append before xs ys ∙ ap (λ b. line before xs ++ line b ys) e

behind_then : (before : Before) (xs ys : List What) → behind_all before xs ≡ Word → behind_all before (xs ++ ys) ≡ behind_all Word ys
behind_then before xs ys e = behind_append before xs ys ∙ ap (λ b. behind_all b ys) e

behind_each : {A : Type 0} (spell : A → List What) → ((a : A) → behind_all Word (spell a) ≡ Word) → (list : List A) → behind_all Word (spell_all spell list) ≡ Word
behind_each spell each [] = refl
behind_each spell each (a ∷ list) = behind_then Word (spell a) (spell_all spell list) (each a) ∙ behind_each spell each list

line_each : {A : Type 0} (spell : A → List What) (text : A → List ℕ)
    → ((a : A) → behind_all Word (spell a) ≡ Word) → ((a : A) → line Word (spell a) ≡ text a)
    → (list : List A) → line Word (spell_all spell list) ≡ flat_map text list
line_each spell text ends each [] = refl
line_each spell text ends each (a ∷ list) =
    line_then Word (spell a) (spell_all spell list) (ends a)
    ∙ ap (λ l. l ++ line Word (spell_all spell list)) (each a)
    ∙ ap (λ l. text a ++ l) (line_each spell text ends each list)

-- ---- literals

pub date_line : (t : Bytes) → line Start (literal.spell (inl t)) ≡ codes "DATE '" ++ (t ++ codes "'")
unfolding literal date dates
date_line t = ap (λ l. codes "DATE '" ++ l) (append_assoc t (39 ∷ []) [])

pub text_line : (t : Bytes) → line Start (literal.spell (inr (inl t))) ≡ 39 ∷ t ++ 39 ∷ []
unfolding literal texts
text_line t = ap (λ l. 39 ∷ l) (append_assoc t (39 ∷ []) [])

pub number_line : (d : Bytes) → line Start (literal.spell (inr (inr (None, d)))) ≡ d
unfolding literal digits
number_line d = append-nil d

pub minus_line : (d : Bytes) → line Start (literal.spell (inr (inr (Some tt, d)))) ≡ 45 ∷ d
unfolding literal digits
minus_line d = ap (λ l. 45 ∷ l) (append-nil d)

-- a word stands at its end
literal_ends : (l : LiteralForm) → behind_all Start (literal.spell l) ≡ Word
unfolding literal date dates texts digits
literal_ends (inl t) = refl
literal_ends (inr (inl t)) = refl
literal_ends (inr (inr (None, d))) = refl
literal_ends (inr (inr (Some tt, d))) = refl

literal_ends_sign : (l : LiteralForm) → behind_all Sign (literal.spell l) ≡ Word
unfolding literal date dates texts digits
literal_ends_sign (inl t) = refl
literal_ends_sign (inr (inl t)) = refl
literal_ends_sign (inr (inr (None, d))) = refl
literal_ends_sign (inr (inr (Some tt, d))) = refl

-- behind a sign it stands apart
literal_apart : (l : LiteralForm) → line Sign (literal.spell l) ≡ 32 ∷ line Start (literal.spell l)
unfolding literal date dates texts digits
literal_apart (inl t) = refl
literal_apart (inr (inl t)) = refl
literal_apart (inr (inr (None, d))) = refl
literal_apart (inr (inr (Some tt, d))) = refl

-- ---- lists

-- texts with a comma and a space between them
abbrev pub commas : List Bytes → Bytes
commas [] = []
commas (x ∷ xs) = x ++ flat_map (λ y. codes ", " ++ y) xs

-- what stands before the next of them
abbrev pub separator : List Bytes → Bytes
separator [] = []
separator (x ∷ xs) = codes ", "

flat_more : (f : Bytes → Bytes) (xs : List Bytes) (x : Bytes) → flat_map f (xs ++ x ∷ []) ≡ flat_map f xs ++ f x
flat_more f [] x = append-nil (f x)
flat_more f (y ∷ xs) x = ap (λ l. f y ++ l) (flat_more f xs x) ∙ sym (append_assoc (f y) (flat_map f xs) (f x))

pub commas_more : (xs : List Bytes) (x : Bytes) → commas (xs ++ x ∷ []) ≡ commas xs ++ (separator xs ++ x)
commas_more [] x = append-nil x
commas_more (y ∷ xs) x =
    ap (λ l. y ++ l) (flat_more (λ z. codes ", " ++ z) xs x)
    ∙ sym (append_assoc y (flat_map (λ z. codes ", " ++ z) xs) (codes ", " ++ x))

pub names_line : (ns : List Bytes) → 0 < length ns → line Start (name_list.spell ns) ≡ commas ns
unfolding name_list another_name names
names_line [] some = absurd (omega (arith, some))
names_line (n ∷ ns) some =
    ap (λ l. n ++ l) (line_each another_name.spell (λ y. codes ", " ++ y) (λ y. refl) (λ y. ap (λ l. 44 ∷ 32 ∷ l) (append-nil y)) ns)

names_end : (ns : List Bytes) → behind_all Start (name_list.spell ns) ≡ Word
unfolding name_list another_name names
names_end [] = refl
names_end (n ∷ ns) = behind_each another_name.spell (λ y. refl) ns

abbrev pub literal_text : LiteralForm → Bytes
literal_text l = line Start (literal.spell l)

another_ends : (l : LiteralForm) → behind_all Word (another_literal.spell l) ≡ Word
unfolding another_literal
another_ends l = literal_ends_sign l

another_line : (l : LiteralForm) → line Word (another_literal.spell l) ≡ codes ", " ++ literal_text l
unfolding another_literal
another_line l = ap (λ t. 44 ∷ t) (literal_apart l)

flat_of_map : {A : Type 0} (f : Bytes → Bytes) (g : A → Bytes) (list : List A) → flat_map (λ a. f (g a)) list ≡ flat_map f (map g list)
flat_of_map f g [] = refl
flat_of_map f g (a ∷ list) = ap (λ l. f (g a) ++ l) (flat_of_map f g list)

pub literals_line : (ls : List LiteralForm) → 0 < length ls → line Start (literals.spell ls) ≡ commas (map literal_text ls)
unfolding literals
literals_line [] some = absurd (omega (arith, some))
literals_line (l ∷ ls) some =
    line_then Start (literal.spell l) (spell_all another_literal.spell ls) (literal_ends l)
    ∙ ap (λ t. literal_text l ++ t) (line_each another_literal.spell (λ y. codes ", " ++ literal_text y) another_ends another_line ls)
    ∙ ap (λ t. literal_text l ++ t) (flat_of_map (λ y. codes ", " ++ y) literal_text ls)

literals_end : (ls : List LiteralForm) → behind_all Start (literals.spell ls) ≡ Word
unfolding literals
literals_end [] = behind_then Start (literal.spell literal.example) [] (literal_ends literal.example)
literals_end (l ∷ ls) =
    behind_then Start (literal.spell l) (spell_all another_literal.spell ls) (literal_ends l)
    ∙ behind_each another_literal.spell another_ends ls

-- ---- comparisons

operator_apart : (o : Operator) (ts : List What) → line Word (Symbol (operator_sign o) ∷ ts) ≡ 32 ∷ sign_text (operator_sign o) ++ line Sign ts
operator_apart operator.Equal ts = refl
operator_apart operator.NotEqual ts = refl
operator_apart operator.Less ts = refl
operator_apart operator.LessEqual ts = refl
operator_apart operator.Greater ts = refl
operator_apart operator.GreaterEqual ts = refl

operator_ends : (o : Operator) (ts : List What) → behind_all Word (Symbol (operator_sign o) ∷ ts) ≡ behind_all Sign ts
operator_ends operator.Equal ts = refl
operator_ends operator.NotEqual ts = refl
operator_ends operator.Less ts = refl
operator_ends operator.LessEqual ts = refl
operator_ends operator.Greater ts = refl
operator_ends operator.GreaterEqual ts = refl

pub comparison_line : (name : Bytes) (o : Operator) (l : LiteralForm)
    → line Start (comparison.spell (name, (o, l))) ≡ name ++ (codes " " ++ (token_text (Symbol (operator_sign o)) ++ (codes " " ++ literal_text l)))
unfolding comparison names operators
comparison_line name o l =
    ap (λ t. name ++ t) (operator_apart o (literal.spell l))
    ∙ ap (λ t. name ++ (codes " " ++ (sign_text (operator_sign o) ++ t))) (literal_apart l)

comparison_ends : (before : Before) (c : ComparisonForm) → behind_all before (comparison.spell c) ≡ Word
unfolding comparison names operators
comparison_ends before (name, (o, l)) = operator_ends o (literal.spell l) ∙ literal_ends_sign l

abbrev pub comparison_text : ComparisonForm → Bytes
comparison_text c = line Start (comparison.spell c)

comparison_apart : (c : ComparisonForm) → line Word (comparison.spell c) ≡ 32 ∷ comparison_text c
unfolding comparison names operators
comparison_apart (name, (o, l)) = refl

more_ends : (c : ComparisonForm) → behind_all Word (another_comparison.spell c) ≡ Word
unfolding another_comparison
more_ends c = comparison_ends Word c

more_line : (c : ComparisonForm) → line Word (another_comparison.spell c) ≡ codes " AND " ++ comparison_text c
unfolding another_comparison
more_line c = ap (λ t. codes " AND" ++ t) (comparison_apart c)

pub condition_line : (c : ComparisonForm) (cs : List ComparisonForm)
    → line Word (condition.spell (c ∷ cs)) ≡ codes " WHERE " ++ (comparison_text c ++ flat_map (λ d. codes " AND " ++ comparison_text d) cs)
unfolding condition comparisons
condition_line c cs =
    ap (λ t. codes " WHERE" ++ t)
    (line_then Word (comparison.spell c) (spell_all another_comparison.spell cs) (comparison_ends Word c)
    ∙ ap (λ t. t ++ line Word (spell_all another_comparison.spell cs)) (comparison_apart c)
    ∙ ap (λ t. 32 ∷ comparison_text c ++ t) (line_each another_comparison.spell (λ d. codes " AND " ++ comparison_text d) more_ends more_line cs))

-- ---- assignments

pub plus_line : (name d : Bytes) → line Start (assignment.spell (name, inl (name, (inl tt, d)))) ≡ name ++ (codes " = " ++ (name ++ (codes " + " ++ d)))
unfolding assignment new_value names digits
plus_line name d = ap (λ t. name ++ (codes " = " ++ (name ++ (codes " + " ++ t)))) (append-nil d)

pub less_line : (name d : Bytes) → line Start (assignment.spell (name, inl (name, (inr tt, d)))) ≡ name ++ (codes " = " ++ (name ++ (codes " - " ++ d)))
unfolding assignment new_value names digits
less_line name d = ap (λ t. name ++ (codes " = " ++ (name ++ (codes " - " ++ t)))) (append-nil d)

pub set_line : (name : Bytes) (l : LiteralForm) → line Start (assignment.spell (name, inr l)) ≡ name ++ (codes " = " ++ literal_text l)
unfolding assignment new_value names
set_line name l = ap (λ t. name ++ (codes " =" ++ t)) (literal_apart l)

abbrev pub assignment_text : AssignmentForm → Bytes
assignment_text a = line Start (assignment.spell a)

assignment_ends : (before : Before) (a : AssignmentForm) → behind_all before (assignment.spell a) ≡ Word
unfolding assignment new_value names digits
assignment_ends before (name, inl (other, (inl tt, d))) = refl
assignment_ends before (name, inl (other, (inr tt, d))) = refl
assignment_ends before (name, inr l) = literal_ends_sign l

another_assignment_line : (a : AssignmentForm) → line Word (another_assignment.spell a) ≡ codes ", " ++ assignment_text a
unfolding another_assignment assignment names
another_assignment_line (name, v) = refl

another_assignment_ends : (a : AssignmentForm) → behind_all Word (another_assignment.spell a) ≡ Word
unfolding another_assignment
another_assignment_ends a = assignment_ends Sign a

pub assignments_line : (a : AssignmentForm) (rest : List AssignmentForm)
    → line Start (assignments.spell (a ∷ rest)) ≡ assignment_text a ++ flat_map (λ b. codes ", " ++ assignment_text b) rest
unfolding assignments
assignments_line a rest =
    line_then Start (assignment.spell a) (spell_all another_assignment.spell rest) (assignment_ends Start a)
    ∙ ap (λ t. assignment_text a ++ t) (line_each another_assignment.spell (λ b. codes ", " ++ assignment_text b) another_assignment_ends another_assignment_line rest)

-- ---- statements

pub portion_line : (name from to : Bytes)
    → line Word (portion.spell (name, (from, to))) ≡ codes " FOR PORTION OF " ++ (name ++ (codes " FROM DATE '" ++ (from ++ (codes "' TO DATE '" ++ (to ++ codes "'")))))
unfolding portion date dates names
portion_line name from to =
    ap (λ t. codes " FOR PORTION OF " ++ (name ++ (codes " FROM DATE '" ++ t))) (append_assoc from (39 ∷ []) (codes " TO DATE '" ++ ((to ++ 39 ∷ []) ++ [])))
    ∙ ap (λ t. codes " FOR PORTION OF " ++ (name ++ (codes " FROM DATE '" ++ (from ++ (codes "' TO DATE '" ++ t))))) (append_assoc to (39 ∷ []) [])

portion_ends : (p : Option PortionForm) → behind_all Word (spell_some portion p) ≡ Word
unfolding portion date dates names
portion_ends None = refl
portion_ends (Some p) = refl

pub insert_line : (name : Bytes) (ns : List Bytes) (ls : List LiteralForm)
    → line Start (insert.spell (name, (ns, ls))) ≡ codes "INSERT INTO " ++ (name ++ (codes " (" ++ (line Start (name_list.spell ns) ++ (codes ") VALUES (" ++ (line Start (literals.spell ls) ++ codes ");")))))
unfolding insert names
insert_line name ns ls =
    let last : List What = Symbol sign.Close ∷ Symbol sign.Semicolon ∷ [] in
    let values : List What = (literals.spell ls ++ Symbol sign.Close ∷ []) ++ Symbol sign.Semicolon ∷ [] in
    ap (λ t. codes "INSERT INTO " ++ (name ++ (codes " (" ++ t))) (line_then Start (name_list.spell ns) (Symbol sign.Close ∷ Keyed keyword.Values ∷ Symbol sign.Open ∷ values) (names_end ns))
    ∙ ap (λ (ts : List What). codes "INSERT INTO " ++ (name ++ (codes " (" ++ (line Start (name_list.spell ns) ++ (codes ") VALUES (" ++ line Start ts))))) (append_assoc (literals.spell ls) (Symbol sign.Close ∷ []) (Symbol sign.Semicolon ∷ []))
    ∙ ap (λ t. codes "INSERT INTO " ++ (name ++ (codes " (" ++ (line Start (name_list.spell ns) ++ (codes ") VALUES (" ++ t))))) (line_then Start (literals.spell ls) last (literals_end ls))

conditions_end : (list : List ComparisonForm) → behind_all Word (condition.spell list) ≡ Word
unfolding condition comparisons
conditions_end [] = behind_then Word (comparison.spell comparison.example) [] (comparison_ends Word comparison.example)
conditions_end (c ∷ rest) = behind_then Word (comparison.spell c) (spell_all another_comparison.spell rest) (comparison_ends Word c) ∙ behind_each another_comparison.spell more_ends rest

-- the conditions, if there are any, and the end of the statement
tail_line : (cs : Option (List ComparisonForm)) → line Word (spell_some condition cs ++ Symbol sign.Semicolon ∷ []) ≡ line Word (spell_some condition cs) ++ codes ";"
tail_line None = refl
tail_line (Some cs) = line_then Word (condition.spell cs) (Symbol sign.Semicolon ∷ []) (conditions_end cs)

pub delete_line : (name : Bytes) (p : Option PortionForm) (cs : Option (List ComparisonForm))
    → line Start (delete.spell (name, (p, cs))) ≡ codes "DELETE FROM " ++ (name ++ (line Word (spell_some portion p) ++ (line Word (spell_some condition cs) ++ codes ";")))
unfolding delete names
delete_line name p cs =
    ap (λ t. codes "DELETE FROM " ++ (name ++ t)) (line_then Word (spell_some portion p) (spell_some condition cs ++ Symbol sign.Semicolon ∷ []) (portion_ends p))
    ∙ ap (λ t. codes "DELETE FROM " ++ (name ++ (line Word (spell_some portion p) ++ t))) (tail_line cs)

assignments_apart : (list : List AssignmentForm) → line Word (assignments.spell list) ≡ 32 ∷ line Start (assignments.spell list)
unfolding assignments assignment names
assignments_apart [] = refl
assignments_apart (a ∷ list) = refl

assignments_end_word : (list : List AssignmentForm) → behind_all Word (assignments.spell list) ≡ Word
unfolding assignments
assignments_end_word [] = behind_then Word (assignment.spell assignment.example) [] (assignment_ends Word assignment.example)
assignments_end_word (a ∷ rest) =
    behind_then Word (assignment.spell a) (spell_all another_assignment.spell rest) (assignment_ends Word a)
    ∙ behind_each another_assignment.spell another_assignment_ends rest

pub update_line : (name : Bytes) (p : Option PortionForm) (list : List AssignmentForm) (cs : Option (List ComparisonForm))
    → line Start (update.spell (name, (p, (list, cs)))) ≡ codes "UPDATE " ++ (name ++ (line Word (spell_some portion p) ++ (codes " SET " ++ (line Start (assignments.spell list) ++ (line Word (spell_some condition cs) ++ codes ";")))))
unfolding update names
update_line name p list cs =
    let rest : List What = assignments.spell list ++ (spell_some condition cs ++ Symbol sign.Semicolon ∷ []) in
    ap (λ t. codes "UPDATE " ++ (name ++ t)) (line_then Word (spell_some portion p) (Keyed keyword.Set ∷ rest) (portion_ends p))
    ∙ ap (λ t. codes "UPDATE " ++ (name ++ (line Word (spell_some portion p) ++ (codes " SET" ++ t))))
    (line_then Word (assignments.spell list) (spell_some condition cs ++ Symbol sign.Semicolon ∷ []) (assignments_end_word list)
    ∙ ap (λ t. t ++ line Word (spell_some condition cs ++ Symbol sign.Semicolon ∷ [])) (assignments_apart list)
    ∙ ap (λ t. 32 ∷ (line Start (assignments.spell list) ++ t)) (tail_line cs))
