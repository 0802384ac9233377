-- Forms in which each name that is none is another.
use Rattle.std.proofs.Common.{◌≡◌, Bool, true, false, cond, List, [], ◌∷◌, ◌++◌, Option, Some, None, refl, ap, ◌∙◌, map-id, inl, inr}
use Rattle.std.specs.Prelude.{◌≢◌, codes, map}
use Rattle.std.specs.List.{AllByRecursion, flat_map, join_by}
use Rattle.std.specs.Option.{option_map}
use Rattle.std.proofs.lemmas.List.{map-append}
use Rattle.sqltokens.specs.declared.token.Keyword.{Keyword}
use Rattle.sqltokens.specs.declared.token.Keyword.TheVariants as keyword
use Rattle.sqltokens.specs.declared.token.Sign.TheVariants.{Open, Close, Comma, Semicolon, Equal}
use Rattle.sqltokens.specs.What.{What, Word, Symbol, Name, Digits, Text, Stray}
use Rattle.namesyntax.specs.Words.{is_name_text}
use Rattle.namesyntax.specs.Names.{Bytes}
use Rattle.sqlsyntax.specs.Shared.{operator_sign, LiteralForm, ComparisonForm}
use Rattle.sqlsyntax.specs.Transactions.{PortionForm, ValueForm, AssignmentForm, StatementForm}
use Rattle.sqlsyntax.specs.Spelling.{literal, comparison, condition, portion, new_value, assignment, statement, IsFull}
use Rattle.sqlsyntax.proofs.Dated.{Dated, IsNamed, IsRight, dated_back}

-- ---- tokens

abbrev a_name : Bytes → Bytes
a_name n = cond (is_name_text n) n (codes "a")

a_name_is : (n : Bytes) → is_name_text (a_name n) ≡ true
a_name_is n = by (is_name_text n) refl where
  by : (b : Bool) → is_name_text n ≡ b → is_name_text (cond b n (codes "a")) ≡ true
  by true e = e
  by false e = refl

a_name_same : (n : Bytes) → is_name_text n ≡ true → a_name n ≡ n
a_name_same n e = ap (λ (b : Bool). cond b n (codes "a")) e

abbrev pub renamed : What → What
renamed (Name n) = Name (a_name n)
renamed w = w

renamed_word : (w : What) (k : Keyword) → renamed w ≡ Word k → w ≡ Word k
renamed_word (Name n) k e = absurd cc
renamed_word w k e = e

renamed_text : (w : What) (t : Bytes) → renamed w ≡ Text t → w ≡ Text t
renamed_text (Name n) t e = absurd cc
renamed_text w t e = e

all_named : (ts : List What) → AllByRecursion IsNamed (map renamed ts)
all_named [] = tt
all_named (w ∷ ts) = (one w, all_named ts) where
  one : (w : What) → IsNamed (renamed w)
  one (Name n) = a_name_is n
  one (Word k) = tt
  one (Symbol s) = tt
  one (Digits d) = tt
  one (Text t) = tt
  one Stray = tt

pub as_named : (ts : List What) → AllByRecursion IsNamed ts → map renamed ts ≡ ts
as_named [] h = refl
as_named (w ∷ ts) h = ap (λ (l : List What). renamed w ∷ l) (as_named ts h.1) ∙ ap (λ (v : What). v ∷ ts) (one w h.0) where
  one : (w : What) → IsNamed w → renamed w ≡ w
  one (Name n) h = ap Name (a_name_same n h)
  one (Word k) h = refl
  one (Symbol s) h = refl
  one (Digits d) h = refl
  one (Text t) h = refl
  one Stray h = refl

renamed_dated : (ts : List What) → Dated ts → Dated (map renamed ts)
renamed_dated [] h [] a t e = absurd cc
renamed_dated [] h (x ∷ b) a t e = absurd cc
renamed_dated (w ∷ ts) h (x ∷ b) a t e = renamed_dated ts (dated_back (w ∷ []) ts h) b a t cc
renamed_dated (w ∷ []) h [] a t e = absurd cc
renamed_dated (w ∷ v ∷ ts) h [] a t e =
    let first : renamed w ≡ Word keyword.Date = cc in
    let second : renamed v ≡ Text t = cc in
    let date = renamed_word w keyword.Date first in
    let text = renamed_text v t second in
    h [] ts t (ap (λ (u : What). u ∷ v ∷ ts) date ∙ ap (λ (u : What). Word keyword.Date ∷ u ∷ ts) text)

pub right_renamed : (ts : List What) → Dated ts → IsRight (map renamed ts)
right_renamed ts h = record { dates = renamed_dated ts h; names = all_named ts }

-- ---- forms

comparison_named : ComparisonForm → ComparisonForm
comparison_named (n, c) = (a_name n, c)

portion_named : PortionForm → PortionForm
portion_named (n, p) = (a_name n, p)

value_named : ValueForm → ValueForm
value_named (inl (n, c)) = inl (a_name n, c)
value_named (inr l) = inr l

assignment_named : AssignmentForm → AssignmentForm
assignment_named (n, v) = (a_name n, value_named v)

pub statement_named : StatementForm → StatementForm
statement_named (inl (t, (ns, ls))) = inl (a_name t, (map a_name ns, ls))
statement_named (inr (inl (t, (p, (xs, c))))) = inr (inl (a_name t, (option_map portion_named p, (map assignment_named xs, option_map (map comparison_named) c))))
statement_named (inr (inr (t, (p, c)))) = inr (inr (a_name t, (option_map portion_named p, option_map (map comparison_named) c)))

-- ---- their tokens

literal_is : (l : LiteralForm) → map renamed (literal l) ≡ literal l
literal_is (inl d) = refl
literal_is (inr (inl t)) = refl
literal_is (inr (inr (None, d))) = refl
literal_is (inr (inr (Some u, d))) = refl

all_is : {A : Type 0} (f : A → List What) (g : A → A) → ((x : A) → map renamed (f x) ≡ f (g x)) → (xs : List A) → map renamed (flat_map f xs) ≡ flat_map f (map g xs)
all_is f g s [] = refl
all_is f g s (x ∷ xs) = map-append renamed (f x) (flat_map f xs) ∙ ap (λ (l : List What). l ++ map renamed (flat_map f xs)) (s x) ∙ ap (λ (l : List What). f (g x) ++ l) (all_is f g s xs)

join_is : {A : Type 0} (f : A → List What) (sep : List What) (g : A → A) → map renamed sep ≡ sep → ((x : A) → map renamed (f x) ≡ f (g x)) → (xs : List A) → map renamed (join_by f sep xs) ≡ join_by f sep (map g xs)
join_is f sep g e s [] = refl
join_is {A} f sep g e s (x ∷ xs) =
    map-append renamed (f x) (flat_map (λ y. sep ++ f y) xs) ∙ ap (λ (l : List What). l ++ map renamed (flat_map (λ y. sep ++ f y) xs)) (s x)
    ∙ ap (λ (l : List What). f (g x) ++ l) (all_is (λ y. sep ++ f y) g behind xs) where
      behind : (y : A) → map renamed (sep ++ f y) ≡ sep ++ f (g y)
      behind y = map-append renamed sep (f y) ∙ ap (λ (l : List What). l ++ map renamed (f y)) e ∙ ap (λ (l : List What). sep ++ l) (s y)

comparison_is : (c : ComparisonForm) → map renamed (comparison c) ≡ comparison (comparison_named c)
unfolding comparison_named
comparison_is (n, (o, l)) = ap (λ (ts : List What). renamed (Name n) ∷ Symbol (operator_sign o) ∷ ts) (literal_is l)

condition_is : (c : Option (List ComparisonForm)) → map renamed (condition c) ≡ condition (option_map (map comparison_named) c)
condition_is None = refl
condition_is (Some cs) = ap (λ (ts : List What). Word keyword.Where ∷ ts) (join_is comparison (Word keyword.And ∷ []) comparison_named refl comparison_is cs)

portion_is : (p : Option PortionForm) → map renamed (portion p) ≡ portion (option_map portion_named p)
unfolding portion_named
portion_is None = refl
portion_is (Some (n, (a, b))) = refl

value_is : (v : ValueForm) → map renamed (new_value v) ≡ new_value (value_named v)
unfolding value_named
value_is (inl (n, (inl plus, d))) = refl
value_is (inl (n, (inr minus, d))) = refl
value_is (inr l) = literal_is l

assignment_is : (x : AssignmentForm) → map renamed (assignment x) ≡ assignment (assignment_named x)
unfolding assignment_named
assignment_is (n, v) = ap (λ (ts : List What). renamed (Name n) ∷ Symbol Equal ∷ ts) (value_is v)

record IsRenamed (ts us : List What) : Type 0 where
  is : map renamed ts ≡ us

both : {xs ys us vs : List What} → IsRenamed xs us → IsRenamed ys vs → IsRenamed (xs ++ ys) (us ++ vs)
both {xs} {ys} {us} {vs} e f = record { is = map-append renamed xs ys ∙ ap (λ (l : List What). l ++ map renamed ys) e.is ∙ ap (λ (l : List What). us ++ l) f.is }

fixed : (xs : List What) → IsRenamed xs (map renamed xs)
fixed xs = record { is = refl }

statement_is : (s : StatementForm) → IsRenamed (statement s) (statement (statement_named s))
unfolding statement_named
statement_is (inl (t, (ns, ls))) =
    let columns : IsRenamed (join_by (λ n. Name n ∷ []) (Symbol Comma ∷ []) ns) (join_by (λ n. Name n ∷ []) (Symbol Comma ∷ []) (map a_name ns)) = record { is = join_is (λ n. Name n ∷ []) (Symbol Comma ∷ []) a_name refl (λ n. refl) ns } in
    let values : IsRenamed (join_by literal (Symbol Comma ∷ []) ls) (join_by literal (Symbol Comma ∷ []) ls) = record { is = join_is literal (Symbol Comma ∷ []) (λ l. l) refl literal_is ls ∙ ap (join_by literal (Symbol Comma ∷ [])) (map-id ls) } in
    both (both (both (fixed (Word keyword.Insert ∷ Word keyword.Into ∷ Name t ∷ Symbol Open ∷ [])) columns) (both (fixed (Symbol Close ∷ Word keyword.Values ∷ Symbol Open ∷ [])) values)) (fixed (Symbol Close ∷ Symbol Semicolon ∷ []))
statement_is (inr (inl (t, (p, (xs, c))))) =
    let days : IsRenamed (portion p) (portion (option_map portion_named p)) = record { is = portion_is p } in
    let set : IsRenamed (join_by assignment (Symbol Comma ∷ []) xs) (join_by assignment (Symbol Comma ∷ []) (map assignment_named xs)) = record { is = join_is assignment (Symbol Comma ∷ []) assignment_named refl assignment_is xs } in
    let rows : IsRenamed (condition c) (condition (option_map (map comparison_named) c)) = record { is = condition_is c } in
    both (both (both (both (fixed (Word keyword.Update ∷ Name t ∷ [])) days) (both (fixed (Word keyword.Set ∷ [])) set)) rows) (fixed (Symbol Semicolon ∷ []))
statement_is (inr (inr (t, (p, c)))) =
    let days : IsRenamed (portion p) (portion (option_map portion_named p)) = record { is = portion_is p } in
    let rows : IsRenamed (condition c) (condition (option_map (map comparison_named) c)) = record { is = condition_is c } in
    both (both (both (fixed (Word keyword.Delete ∷ Word keyword.From ∷ Name t ∷ [])) days) rows) (fixed (Symbol Semicolon ∷ []))

pub statements_are : (xs : List StatementForm) → map renamed (flat_map statement xs) ≡ flat_map statement (map statement_named xs)
statements_are xs = all_is statement statement_named (λ s. (statement_is s).is) xs

-- ---- they are as full

pub some_left : {A : Type 0} (g : A → A) (xs : List A) → xs ≢ [] → map g xs ≢ []
some_left g [] h e = h refl
some_left g (x ∷ xs) h e = cc

still_given : (c : Option (List ComparisonForm)) → c ≢ Some [] → option_map (map comparison_named) c ≢ Some []
still_given None h e = cc
still_given (Some cs) h e = some_left comparison_named cs (λ f. h (ap Some f)) cc

still_full : (s : StatementForm) → IsFull s → IsFull (statement_named s)
unfolding statement_named
still_full (inl (t, (ns, ls))) h = (some_left a_name ns h.0, h.1)
still_full (inr (inl (t, (p, (xs, c))))) h = (some_left assignment_named xs h.0, still_given c h.1)
still_full (inr (inr (t, (p, c)))) h = still_given c h

pub all_full : (xs : List StatementForm) → AllByRecursion IsFull xs → AllByRecursion IsFull (map statement_named xs)
all_full [] h = tt
all_full (x ∷ xs) h = (still_full x h.0, all_full xs h.1)
