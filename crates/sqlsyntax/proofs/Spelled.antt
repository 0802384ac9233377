-- What the grammar of transactions spells is what the forms are spelled by.
use Rattle.std.proofs.Common.{◌≡◌, Bool, false, List, [], ◌∷◌, ◌++◌, Option, Some, None, refl, sym, ap, subst, ◌∙◌, append_assoc, inl, inr}
use Rattle.std.specs.Prelude.{◌≢◌}
use Rattle.std.specs.List.{AllByRecursion, flat_map, join_by, list_any}
use Rattle.sqltokens.specs.declared.token.Keyword.TheVariants as keyword
use Rattle.sqltokens.specs.declared.token.Sign.TheVariants.{Open, Close, Comma, Semicolon, Equal, Minus}
use Rattle.sqltokens.specs.What.{What, Word, Symbol, Name, Digits, Text, is_word, is_symbol}
use Rattle.sqltokens.specs.Classes.{digits, texts, dates}
use Rattle.phrase.specs.Grammar.{Phrase, one, spell_all, optional, row}
use Rattle.namesyntax.specs.Names.{names, another_name, name_list}
use Rattle.sqlsyntax.specs.Shared.{date, LiteralForm, ComparisonForm, operators, another_comparison, comparisons}
use Rattle.sqlsyntax.specs.Shared as grammar
use Rattle.sqlsyntax.specs.Transactions.{PortionForm, ValueForm, StatementForm, another_literal, literals, another_assignment, assignments, insert, update, delete, is_statement, statements}
use Rattle.sqlsyntax.specs.Transactions as grammar'
use Rattle.sqlsyntax.specs.Spelling.{literal, comparison, condition, portion, new_value, assignment, statement, IsFull}
use Rattle.sqlsyntax.proofs.Dated.{Adds, adds_none, adds_both, adds_date, adds_plain, adds_join, IsRight, right_front, right_back, right_date, right_name, right_join}

-- the phrase spells a form as the function does, where it is full
pub record Matches {A : Type 0} (p : Phrase What A) (spelled : A → List What) (Full : A → Type 0) : Type 0 where
  pub same : (a : A) → Full a → p.spell a ≡ spelled a
  pub full : (a : A) → p.fits a → Full a
  pub dated : (a : A) → p.fits a → Adds (spelled a)
  pub fits : (a : A) → Full a → IsRight (spelled a) → p.fits a

along : {A : Type 0} {p : Phrase What A} {f g : A → List What} {Full : A → Type 0} → Matches p f Full → ((a : A) → f a ≡ g a) → Matches p g Full
along m e = record { same = λ a h. m.same a h ∙ e a; full = m.full; dated = λ a h. subst Adds (e a) (m.dated a h); fits = λ a h r. m.fits a h (subst IsRight (sym (e a)) r) }

-- each form is full
abbrev pub Whole : {A : Type 0} → A → Type 0
Whole a = Unit {0}

-- ---- lists

all_map : {A : Type 0} (P Q : A → Type 0) → ((x : A) → P x → Q x) → (xs : List A) → AllByRecursion P xs → AllByRecursion Q xs
all_map P Q f [] h = tt
all_map P Q f (x ∷ xs) h = (f x h.0, all_map P Q f xs h.1)

all_two : {A : Type 0} (P Q R : A → Type 0) → ((x : A) → P x → Q x → R x) → (xs : List A) → AllByRecursion P xs → AllByRecursion Q xs → AllByRecursion R xs
all_two P Q R f [] h k = tt
all_two P Q R f (x ∷ xs) h k = (f x h.0 k.0, all_two P Q R f xs h.1 k.1)

all_whole : {A : Type 0} (xs : List A) → AllByRecursion Whole xs
all_whole [] = tt
all_whole (x ∷ xs) = (tt, all_whole xs)

all_same : {A : Type 0} (Full : A → Type 0) (f g : A → List What) → ((x : A) → Full x → f x ≡ g x) → (xs : List A) → AllByRecursion Full xs → spell_all f xs ≡ flat_map g xs
all_same Full f g s [] h = refl
all_same Full f g s (x ∷ xs) h = ap (λ (l : List What). l ++ spell_all f xs) (s x h.0) ∙ ap (λ (l : List What). g x ++ l) (all_same Full f g s xs h.1)

abbrev FullList : {A : Type 0} → (A → Type 0) → List A → Type 0
FullList Full xs = (xs ≢ []) × AllByRecursion Full xs

-- forms with these tokens between any two
row_matches : {A : Type 0} (p q : Phrase What A) (test : What → Bool) (f : A → List What) (sep : List What) (Full : A → Type 0) → list_any (is_word keyword.Date) sep ≡ false
    → ((x : A) → q.spell x ≡ sep ++ p.spell x) → ((x : A) → p.fits x → q.fits x) → ((x : A) → q.fits x → p.fits x) → Matches p f Full → Matches (row p test q) (join_by f sep) (FullList Full)
row_matches {A} p q test f sep Full plain between there back m = record { same = same; full = λ xs h. (some xs h, all_map p.fits Full m.full xs (ones xs h)); dated = λ xs h. adds_join f sep plain xs (all_map p.fits (λ x. Adds (f x)) m.dated xs (ones xs h)); fits = fits } where
  same : (xs : List A) → FullList Full xs → (row p test q).spell xs ≡ join_by f sep xs
  same [] h = absurd (h.0 refl)
  same (x ∷ xs) h = ap (λ (l : List What). l ++ spell_all q.spell xs) (m.same x h.1.0) ∙ ap (λ (l : List What). f x ++ l) (all_same Full q.spell (λ y. sep ++ f y) (λ y g. between y ∙ ap (λ (l : List What). sep ++ l) (m.same y g)) xs h.1.1)

  some : (xs : List A) → (row p test q).fits xs → xs ≢ []
  some [] h e = let never = h.1 in cc
  some (x ∷ xs) h e = cc

  ones : (xs : List A) → (row p test q).fits xs → AllByRecursion p.fits xs
  ones [] h = tt
  ones (x ∷ xs) h = (h.0.0, all_map q.fits p.fits back xs h.0.1)

  parts : (xs : List A) → xs ≢ [] → AllByRecursion p.fits xs → (row p test q).fits xs
  parts [] n h = absurd (n refl)
  parts (x ∷ xs) n h = ((h.0, all_map p.fits q.fits there xs h.1), refl)

  fits : (xs : List A) → FullList Full xs → IsRight (join_by f sep xs) → (row p test q).fits xs
  fits xs h r = parts xs h.0 (all_two Full (λ x. Full x → p.fits x) p.fits (λ x g k. k g) xs h.1 (right_join f sep (λ x. Full x → p.fits x) (λ x s g. m.fits x g s) xs r))

whole_row : {A : Type 0} (p : Phrase What (List A)) (f : List A → List What) → Matches p f (FullList Whole) → Matches p f (λ xs. xs ≢ [])
whole_row p f m = record { same = λ xs h. m.same xs (h, all_whole xs); full = λ xs h. (m.full xs h).0; dated = m.dated; fits = λ xs h r. m.fits xs (h, all_whole xs) r }

-- ---- names and literals

name_matches : Matches (one names) (λ n. Name n ∷ []) Whole
unfolding names
name_matches = record { same = λ n h. refl; full = λ n h. tt; dated = λ n h. adds_plain (Name n ∷ []) refl; fits = λ n h r. right_name n [] r }

name_list_matches : Matches name_list (join_by (λ n. Name n ∷ []) (Symbol Comma ∷ [])) (λ ns. ns ≢ [])
unfolding name_list another_name
name_list_matches = whole_row name_list _ (row_matches (one names) another_name (is_symbol Comma) (λ n. Name n ∷ []) (Symbol Comma ∷ []) Whole refl (λ n. refl) (λ n h. h) (λ n h. h) name_matches)

literal_matches : Matches grammar.literal literal Whole
unfolding grammar.literal date dates texts digits
literal_matches = record { same = same; full = λ l h. tt; dated = dated; fits = fits } where
  same : (l : LiteralForm) → Whole l → grammar.literal.spell l ≡ literal l
  same (inl d) h = refl
  same (inr (inl t)) h = refl
  same (inr (inr (None, d))) h = refl
  same (inr (inr (Some u, d))) h = refl

  dated : (l : LiteralForm) → grammar.literal.fits l → Adds (literal l)
  dated (inl d) h = adds_date d h
  dated (inr (inl t)) h = adds_plain (Text t ∷ []) refl
  dated (inr (inr (None, d))) h = adds_plain (Digits d ∷ []) refl
  dated (inr (inr (Some u, d))) h = adds_plain (Symbol Minus ∷ Digits d ∷ []) refl

  fits : (l : LiteralForm) → Whole l → IsRight (literal l) → grammar.literal.fits l
  fits (inl d) h r = right_date d [] r
  fits (inr (inl t)) h r = tt
  fits (inr (inr (None, d))) h r = (tt, tt)
  fits (inr (inr (Some u, d))) h r = (tt, tt)

literals_matches : Matches literals (join_by literal (Symbol Comma ∷ [])) (λ ls. ls ≢ [])
unfolding literals another_literal
literals_matches = whole_row literals _ (row_matches grammar.literal another_literal (is_symbol Comma) literal (Symbol Comma ∷ []) Whole refl (λ l. refl) (λ l h. h) (λ l h. h) literal_matches)

-- ---- comparisons

comparison_matches : Matches grammar.comparison comparison Whole
unfolding grammar.comparison names operators
comparison_matches = record {
  same = λ c h. ap (λ (l : List What). Name c.0 ∷ (one operators).spell c.1.0 ++ l) (literal_matches.same c.1.1 tt);
  full = λ c h. tt;
  dated = λ c h. adds_both (Name c.0 ∷ (one operators).spell c.1.0) (literal c.1.1) (adds_plain _ refl) (literal_matches.dated c.1.1 h.1.1);
  fits = λ c h r. (right_name c.0 _ r, (tt, literal_matches.fits c.1.1 tt (right_back (Name c.0 ∷ (one operators).spell c.1.0) (literal c.1.1) r)));
}

comparisons_matches : Matches comparisons (join_by comparison (Word keyword.And ∷ [])) (λ cs. cs ≢ [])
unfolding comparisons another_comparison
comparisons_matches = whole_row comparisons _ (row_matches grammar.comparison another_comparison (is_word keyword.And) comparison (Word keyword.And ∷ []) Whole refl (λ c. refl) (λ c h. h) (λ c h. h) comparison_matches)

abbrev given : Phrase What (Option (List ComparisonForm))
given = optional (is_word keyword.Where) grammar.condition

condition_matches : Matches given condition (λ c. c ≢ Some [])
unfolding grammar.condition
condition_matches = record { same = same; full = full; dated = dated; fits = fits } where
  same : (c : Option (List ComparisonForm)) → c ≢ Some [] → given.spell c ≡ condition c
  same None h = refl
  same (Some cs) h = ap (λ (l : List What). Word keyword.Where ∷ l) (comparisons_matches.same cs (λ e. h (ap Some e)))

  full : (c : Option (List ComparisonForm)) → given.fits c → c ≢ Some []
  full None h e = cc
  full (Some cs) h e = comparisons_matches.full cs h cc

  dated : (c : Option (List ComparisonForm)) → given.fits c → Adds (condition c)
  dated None h = adds_none
  dated (Some cs) h = adds_both (Word keyword.Where ∷ []) _ (adds_plain _ refl) (comparisons_matches.dated cs h)

  fits : (c : Option (List ComparisonForm)) → c ≢ Some [] → IsRight (condition c) → given.fits c
  fits None h r = tt
  fits (Some cs) h r = comparisons_matches.fits cs (λ e. h (ap Some e)) (right_back (Word keyword.Where ∷ []) _ r)

-- ---- portions

abbrev asked : Phrase What (Option PortionForm)
asked = optional (is_word keyword.For) grammar'.portion

portion_matches : Matches asked portion Whole
unfolding grammar'.portion names date dates
portion_matches = record { same = same; full = λ p h. tt; dated = dated; fits = fits } where
  same : (p : Option PortionForm) → Whole p → asked.spell p ≡ portion p
  same None h = refl
  same (Some p) h = refl

  dated : (p : Option PortionForm) → asked.fits p → Adds (portion p)
  dated None h = adds_none
  dated (Some (n, (a, b))) h = adds_both (Word keyword.For ∷ Word keyword.Portion ∷ Word keyword.Of ∷ Name n ∷ Word keyword.From ∷ []) _ (adds_plain _ refl) (adds_both (Word keyword.Date ∷ Text a ∷ []) _ (adds_date a h.1.0) (adds_both (Word keyword.To ∷ []) _ (adds_plain _ refl) (adds_date b h.1.1)))

  fits : (p : Option PortionForm) → Whole p → IsRight (portion p) → asked.fits p
  fits None h r = tt
  fits (Some (n, (a, b))) h r =
      let name = right_back (Word keyword.For ∷ Word keyword.Portion ∷ Word keyword.Of ∷ []) _ r in
      let from = right_back (Name n ∷ Word keyword.From ∷ []) _ name in
      (right_name n _ name, (right_date a _ from, right_date b [] (right_back (Word keyword.Date ∷ Text a ∷ Word keyword.To ∷ []) _ from)))

-- ---- assignments

value_matches : Matches grammar'.new_value new_value Whole
unfolding grammar'.new_value names digits
value_matches = record { same = same; full = λ v h. tt; dated = dated; fits = fits } where
  same : (v : ValueForm) → Whole v → grammar'.new_value.spell v ≡ new_value v
  same (inl (n, (inl plus, d))) h = refl
  same (inl (n, (inr minus, d))) h = refl
  same (inr l) h = literal_matches.same l tt

  dated : (v : ValueForm) → grammar'.new_value.fits v → Adds (new_value v)
  dated (inl (n, (inl plus, d))) h = adds_plain _ refl
  dated (inl (n, (inr minus, d))) h = adds_plain _ refl
  dated (inr l) h = literal_matches.dated l h

  fits : (v : ValueForm) → Whole v → IsRight (new_value v) → grammar'.new_value.fits v
  fits (inl (n, (inl plus, d))) h r = (right_name n _ r, (tt, tt))
  fits (inl (n, (inr minus, d))) h r = (right_name n _ r, (tt, tt))
  fits (inr l) h r = literal_matches.fits l tt r

assignment_matches : Matches grammar'.assignment assignment Whole
unfolding grammar'.assignment names
assignment_matches = record {
  same = λ a h. ap (λ (l : List What). Name a.0 ∷ Symbol Equal ∷ l) (value_matches.same a.1 tt);
  full = λ a h. tt;
  dated = λ a h. adds_both (Name a.0 ∷ Symbol Equal ∷ []) (new_value a.1) (adds_plain _ refl) (value_matches.dated a.1 h.1);
  fits = λ a h r. (right_name a.0 _ r, value_matches.fits a.1 tt (right_back (Name a.0 ∷ Symbol Equal ∷ []) (new_value a.1) r));
}

assignments_matches : Matches assignments (join_by assignment (Symbol Comma ∷ [])) (λ xs. xs ≢ [])
unfolding assignments another_assignment
assignments_matches = whole_row assignments _ (row_matches grammar'.assignment another_assignment (is_symbol Comma) assignment (Symbol Comma ∷ []) Whole refl (λ a. refl) (λ a h. h) (λ a h. h) assignment_matches)

-- ---- statements

-- a statement's tokens, the first of its parts outermost
abbrev nested : StatementForm → List What
nested (inl (t, (ns, ls))) = Word keyword.Insert ∷ Word keyword.Into ∷ Name t ∷ Symbol Open ∷ (join_by (λ n. Name n ∷ []) (Symbol Comma ∷ []) ns ++ Symbol Close ∷ Word keyword.Values ∷ Symbol Open ∷ (join_by literal (Symbol Comma ∷ []) ls ++ Symbol Close ∷ Symbol Semicolon ∷ []))
nested (inr (inl (t, (p, (xs, c))))) = Word keyword.Update ∷ Name t ∷ (portion p ++ Word keyword.Set ∷ (join_by assignment (Symbol Comma ∷ []) xs ++ (condition c ++ Symbol Semicolon ∷ [])))
nested (inr (inr (t, (p, c)))) = Word keyword.Delete ∷ Word keyword.From ∷ Name t ∷ (portion p ++ (condition c ++ Symbol Semicolon ∷ []))

nested_is : (s : StatementForm) → nested s ≡ statement s
nested_is (inl (t, (ns, ls))) = simp append_assoc
nested_is (inr (inl (t, (p, (xs, c))))) = simp append_assoc
nested_is (inr (inr (t, (p, c)))) = simp append_assoc

closed : (ls : List LiteralForm) → ls ≢ [] → (literals.spell ls ++ Symbol Close ∷ []) ++ Symbol Semicolon ∷ [] ≡ join_by literal (Symbol Comma ∷ []) ls ++ Symbol Close ∷ Symbol Semicolon ∷ []
closed ls h = append_assoc (literals.spell ls) (Symbol Close ∷ []) (Symbol Semicolon ∷ []) ∙ ap (λ (l : List What). l ++ Symbol Close ∷ Symbol Semicolon ∷ []) (literals_matches.same ls h)

nested_matches : Matches grammar'.statement nested IsFull
unfolding grammar'.statement insert update delete names
nested_matches = record { same = same; full = full; dated = dated; fits = fits } where
  same : (s : StatementForm) → IsFull s → grammar'.statement.spell s ≡ nested s
  same (inl (t, (ns, ls))) h = ap (λ (l : List What). Word keyword.Insert ∷ Word keyword.Into ∷ Name t ∷ Symbol Open ∷ l) (
      ap (λ (l : List What). l ++ Symbol Close ∷ Word keyword.Values ∷ Symbol Open ∷ ((literals.spell ls ++ Symbol Close ∷ []) ++ Symbol Semicolon ∷ [])) (name_list_matches.same ns h.0)
      ∙ ap (λ (l : List What). join_by (λ n. Name n ∷ []) (Symbol Comma ∷ []) ns ++ Symbol Close ∷ Word keyword.Values ∷ Symbol Open ∷ l) (closed ls h.1))
  same (inr (inl (t, (p, (xs, c))))) h = ap (λ (l : List What). Word keyword.Update ∷ Name t ∷ l) (
      ap (λ (l : List What). l ++ Word keyword.Set ∷ (assignments.spell xs ++ (given.spell c ++ Symbol Semicolon ∷ []))) (portion_matches.same p tt)
      ∙ ap (λ (l : List What). portion p ++ Word keyword.Set ∷ l) (
      ap (λ (l : List What). l ++ (given.spell c ++ Symbol Semicolon ∷ [])) (assignments_matches.same xs h.0)
      ∙ ap (λ (l : List What). join_by assignment (Symbol Comma ∷ []) xs ++ (l ++ Symbol Semicolon ∷ [])) (condition_matches.same c h.1)))
  same (inr (inr (t, (p, c)))) h = ap (λ (l : List What). Word keyword.Delete ∷ Word keyword.From ∷ Name t ∷ l) (
      ap (λ (l : List What). l ++ (given.spell c ++ Symbol Semicolon ∷ [])) (portion_matches.same p tt) ∙ ap (λ (l : List What). portion p ++ (l ++ Symbol Semicolon ∷ [])) (condition_matches.same c h))

  full : (s : StatementForm) → grammar'.statement.fits s → IsFull s
  full (inl (t, (ns, ls))) f = (name_list_matches.full ns f.1.0, literals_matches.full ls f.1.1)
  full (inr (inl (t, (p, (xs, c))))) f = (assignments_matches.full xs f.1.1.0, condition_matches.full c f.1.1.1)
  full (inr (inr (t, (p, c)))) f = condition_matches.full c f.1.1

  dated : (s : StatementForm) → grammar'.statement.fits s → Adds (nested s)
  dated (inl (t, (ns, ls))) f = adds_both (Word keyword.Insert ∷ Word keyword.Into ∷ Name t ∷ Symbol Open ∷ []) _ (adds_plain _ refl) (adds_both (join_by (λ n. Name n ∷ []) (Symbol Comma ∷ []) ns) _ (name_list_matches.dated ns f.1.0) (
      adds_both (Symbol Close ∷ Word keyword.Values ∷ Symbol Open ∷ []) _ (adds_plain _ refl) (adds_both (join_by literal (Symbol Comma ∷ []) ls) (Symbol Close ∷ Symbol Semicolon ∷ []) (literals_matches.dated ls f.1.1) (adds_plain _ refl))))
  dated (inr (inl (t, (p, (xs, c))))) f = adds_both (Word keyword.Update ∷ Name t ∷ []) _ (adds_plain _ refl) (adds_both (portion p) _ (portion_matches.dated p f.1.0) (
      adds_both (Word keyword.Set ∷ []) _ (adds_plain _ refl) (adds_both (join_by assignment (Symbol Comma ∷ []) xs) _ (assignments_matches.dated xs f.1.1.0) (adds_both (condition c) (Symbol Semicolon ∷ []) (condition_matches.dated c f.1.1.1) (adds_plain _ refl)))))
  dated (inr (inr (t, (p, c)))) f = adds_both (Word keyword.Delete ∷ Word keyword.From ∷ Name t ∷ []) _ (adds_plain _ refl) (adds_both (portion p) _ (portion_matches.dated p f.1.0) (adds_both (condition c) (Symbol Semicolon ∷ []) (condition_matches.dated c f.1.1) (adds_plain _ refl)))

  fits : (s : StatementForm) → IsFull s → IsRight (nested s) → grammar'.statement.fits s
  fits (inl (t, (ns, ls))) h r =
      let named = right_back (Word keyword.Insert ∷ Word keyword.Into ∷ []) _ r in
      let columns = right_back (Name t ∷ Symbol Open ∷ []) _ named in
      let values = right_back (Symbol Close ∷ Word keyword.Values ∷ Symbol Open ∷ []) _ (right_back (join_by (λ n. Name n ∷ []) (Symbol Comma ∷ []) ns) _ columns) in
      (right_name t _ named, (name_list_matches.fits ns h.0 (right_front _ _ columns), literals_matches.fits ls h.1 (right_front (join_by literal (Symbol Comma ∷ []) ls) (Symbol Close ∷ Symbol Semicolon ∷ []) values)))
  fits (inr (inl (t, (p, (xs, c))))) h r =
      let named = right_back (Word keyword.Update ∷ []) _ r in
      let asks = right_back (Name t ∷ []) _ named in
      let sets = right_back (Word keyword.Set ∷ []) _ (right_back (portion p) _ asks) in
      let ends = right_back (join_by assignment (Symbol Comma ∷ []) xs) _ sets in
      (right_name t _ named, (portion_matches.fits p tt (right_front (portion p) _ asks), (assignments_matches.fits xs h.0 (right_front (join_by assignment (Symbol Comma ∷ []) xs) _ sets), condition_matches.fits c h.1 (right_front (condition c) _ ends))))
  fits (inr (inr (t, (p, c)))) h r =
      let named = right_back (Word keyword.Delete ∷ Word keyword.From ∷ []) _ r in
      let asks = right_back (Name t ∷ []) _ named in
      (right_name t _ named, (portion_matches.fits p tt (right_front (portion p) _ asks), condition_matches.fits c h (right_front (condition c) _ (right_back (portion p) _ asks))))

none_between : (xs : List StatementForm) → join_by statement [] xs ≡ flat_map statement xs
none_between [] = refl
none_between (x ∷ xs) = refl

statement_matches : Matches grammar'.statement statement IsFull
statement_matches = along nested_matches nested_is

pub statements_matches : Matches statements (flat_map statement) (λ xs. (xs ≢ []) × AllByRecursion IsFull xs)
unfolding statements
statements_matches = along (row_matches grammar'.statement grammar'.statement is_statement statement [] IsFull refl (λ s. refl) (λ s f. f) (λ s f. f) statement_matches) none_between
