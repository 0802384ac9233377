-- What the checks answer on statements, and the tables that they make, depends on their names, types and numbers alone: so the
-- text of a schema says one thing.
use Rattle.std.proofs.Common.{◌≡◌, ℕ, Bool, true, false, cond, not, nat_lt, nat_eq, List, [], ◌∷◌, ◌++◌, length, map, Option, Some, None, Result, Ok, Err, refl, sym, ap, ◌∙◌}
use Rattle.std.specs.Prelude.{is_some}
use Rattle.fault.specs.declared.refusal.Refusal.{Refusal}
use Rattle.fault.specs.declared.refusal.Refusal.TheVariants.{TooLarge, BadSchema}
use Rattle.schema.specs.declared.syntax.ColumnType.{ColumnType}
use Rattle.schema.specs.declared.syntax.Column.{Column}
use Rattle.schema.specs.declared.syntax.ApplicationPeriod.{ApplicationPeriod}
use Rattle.schema.specs.declared.syntax.SystemPeriod.{SystemPeriod}
use Rattle.schema.specs.declared.syntax.KeyNames.{KeyNames}
use Rattle.schema.specs.declared.syntax.ForeignKey.{ForeignKey}
use Rattle.schema.specs.declared.syntax.CreateTable.{CreateTable}
use Rattle.schema.specs.Name.{same_name}
use Rattle.schema.specs.Checks.{Check, ◌when◌, first_failing, each_after, each}
use Rattle.schema.specs.Rules.{column_checks, application_period_checks, system_period_checks, key_name_checks, key_names_checks, key_checks, parent_checks, table_named, reference_checks, foreign_key_checks, name_and_size_checks, table_checks, schema_checks}
use Rattle.schema.specs.Shape.{ReferenceShape, TableShape}
use Rattle.schema.specs.Tables.{shape_of, tables_after, schema_of}
use Rattle.schema.specs.Tables as made
use Rattle.namesyntax.specs.Names.{Bytes}
use Rattle.schemasyntax.specs.Schemas.{ApplicationForm, SystemForm, TableForm}
use Rattle.sqlchecks.specs.Columns.{Tables}
use Rattle.schemaread.specs.Schemas.{column_of, application_of, system_of, key_of, reference_of, IsSaid, AreSaid, Makes, MakesSaid}

-- ---- lists of which each element stands so to the other's at its place

abbrev Pointwise : {A : Type 0} → (A → A → Type 0) → List A → List A → Type 0
Pointwise R [] [] = Unit {0}
Pointwise R [] (y ∷ ys) = ⊥
Pointwise R (x ∷ xs) [] = ⊥
Pointwise R (x ∷ xs) (y ∷ ys) = R x y × Pointwise R xs ys

push_same : {A : Type 0} (R : A → A → Type 0) (xs ys : List A) (x y : A) → Pointwise R xs ys → R x y → Pointwise R (xs ++ x ∷ []) (ys ++ y ∷ [])
push_same R [] [] x y p r = (r, tt)
push_same R [] (b ∷ bs) x y p r = absurd p
push_same R (a ∷ as') [] x y p r = absurd p
push_same R (a ∷ as') (b ∷ bs) x y p r = (p.0, push_same R as' bs x y p.1 r)

length_same : {A : Type 0} (R : A → A → Type 0) (xs ys : List A) → Pointwise R xs ys → length xs ≡ length ys
length_same R [] [] p = refl
length_same R [] (b ∷ bs) p = absurd p
length_same R (a ∷ as') [] p = absurd p
length_same R (a ∷ as') (b ∷ bs) p = let e = length_same R as' bs p.1 in cc

map_same : {A B : Type 0} (f : A → B) (xs ys : List A) → map f xs ≡ map f ys → Pointwise (λ x y. f x ≡ f y) xs ys
map_same f [] [] e = tt
map_same f [] (b ∷ bs) e = absurd cc
map_same f (a ∷ as') [] e = absurd cc
map_same f (a ∷ as') (b ∷ bs) e = (cc, map_same f as' bs cc)

joined : {A : Type 0} (xs ys zs ws : List A) → xs ≡ ys → zs ≡ ws → xs ++ zs ≡ ys ++ ws
joined {A = A} xs ys zs ws e d = ap (λ (l : List A). l ++ zs) e ∙ ap (λ (l : List A). ys ++ l) d

each_same : {A : Type 0} (R : A → A → Type 0) (c d : List A → A → List Check) → ((before after : List A) (x y : A) → Pointwise R before after → R x y → c before x ≡ d after y)
    → (before after xs ys : List A) → Pointwise R before after → Pointwise R xs ys → each_after before c xs ≡ each_after after d ys
each_same R c d h before after [] [] p q = refl
each_same R c d h before after [] (y ∷ ys) p q = absurd q
each_same R c d h before after (x ∷ xs) [] p q = absurd q
each_same R c d h before after (x ∷ xs) (y ∷ ys) p q =
    joined (c before x) (d after y) (each_after (before ++ x ∷ []) c xs) (each_after (after ++ y ∷ []) d ys) (h before after x y p q.0)
    (each_same R c d h (before ++ x ∷ []) (after ++ y ∷ []) xs ys (push_same R before after x y p q.0) q.1)

-- ---- statements with the same names, types and numbers

record Same (t u : CreateTable) : Type 0 where
  name : t.name ≡ u.name
  columns : t.columns.items ≡ u.columns.items
  application : t.application_period ≡ u.application_period
  system : t.system_period ≡ u.system_period
  key : key_of t.key ≡ key_of u.key
  keys : map reference_of t.foreign_keys.items ≡ map reference_of u.foreign_keys.items

column_from : Bytes × ColumnType → Column
column_from p = record { name = p.0; column_type = p.1 }

from_of : (cs : List Column) → map column_from (map column_of cs) ≡ cs
unfolding column_from
from_of [] = refl
from_of (c ∷ cs) = ap (λ (l : List Column). c ∷ l) (from_of cs)

columns_same : (cs ds : List Column) → map column_of cs ≡ map column_of ds → cs ≡ ds
columns_same cs ds e = sym (from_of cs) ∙ ap (map column_from) e ∙ from_of ds

application_same : (p q : ApplicationPeriod) → application_of p ≡ application_of q → p ≡ q
application_same p q e = ap (λ (f : ApplicationForm). let r : ApplicationPeriod = record { name = f.0; start = f.1.0; end = f.1.1 } in r) e

system_same : (p q : SystemPeriod) → system_of p ≡ system_of q → p ≡ q
system_same p q e = ap (λ (f : SystemForm). let r : SystemPeriod = record { start = f.0; end = f.1 } in r) e

said_same : (form : TableForm) (t u : CreateTable) → IsSaid form t → IsSaid form u → Same t u
said_same form t u h k = record {
  name = h.name ∙ sym k.name;
  columns = columns_same t.columns.items u.columns.items (h.columns ∙ sym k.columns);
  application = application_same t.application_period u.application_period (h.application_period ∙ sym k.application_period);
  system = system_same t.system_period u.system_period (h.system_period ∙ sym k.system_period);
  key = h.key ∙ sym k.key;
  keys = h.foreign_keys ∙ sym k.foreign_keys;
}

all_said_same : (forms : List TableForm) (ts us : List CreateTable) → AreSaid forms ts → AreSaid forms us → Pointwise Same ts us
all_said_same [] [] [] h k = tt
all_said_same [] (t ∷ ts) us h k = absurd h
all_said_same [] [] (u ∷ us) h k = absurd k
all_said_same (f ∷ fs) [] us h k = absurd h
all_said_same (f ∷ fs) (t ∷ ts) [] h k = absurd k
all_said_same (f ∷ fs) (t ∷ ts) (u ∷ us) h k = (said_same f t u h.0 k.0, all_said_same fs ts us h.1 k.1)

-- ---- their checks

application_checks_same : (t u : CreateTable) → Same t u → application_period_checks t ≡ application_period_checks u
unfolding application_period_checks
application_checks_same t u s = rw (s.columns, s.application) refl

system_checks_same : (t u : CreateTable) → Same t u → system_period_checks t ≡ system_period_checks u
unfolding system_period_checks
system_checks_same t u s = rw (s.columns, s.system) refl

key_name_same : (t u : CreateTable) → Same t u → (before : List Bytes) (name : Bytes) → key_name_checks t before name ≡ key_name_checks u before name
unfolding key_name_checks
key_name_same t u s before name = rw (s.columns, s.application, s.system) refl

each_name_same : (t u : CreateTable) → Same t u → (before names : List Bytes) → each_after before (key_name_checks t) names ≡ each_after before (key_name_checks u) names
each_name_same t u s before [] = refl
each_name_same t u s before (n ∷ ns) = joined (key_name_checks t before n) (key_name_checks u before n) _ _ (key_name_same t u s before n) (each_name_same t u s (before ++ n ∷ []) ns)

abbrev period_check : Bytes → Bytes → List Check
period_check name period = BadSchema when not (same_name name period) ∷ []

key_names_same : (t u : CreateTable) → Same t u → (k l : KeyNames) → key_of k ≡ key_of l → key_names_checks t k ≡ key_names_checks u l
unfolding key_names_checks
key_names_same t u s k l e =
    let columns : k.columns.items ≡ l.columns.items = ap (λ (f : List Bytes × Bytes). f.0) e in
    let period : k.period ≡ l.period = ap (λ (f : List Bytes × Bytes). f.1) e in
    joined (each (key_name_checks t) k.columns.items) (each (key_name_checks u) l.columns.items) (period_check k.period t.application_period.name) (period_check l.period u.application_period.name)
    (ap (each (key_name_checks t)) columns ∙ each_name_same t u s [] l.columns.items)
    (ap (λ (n : Bytes). period_check n t.application_period.name) period ∙ ap (λ (p : ApplicationPeriod). period_check l.period p.name) s.application)

key_checks_same : (t u : CreateTable) → Same t u → key_checks t ≡ key_checks u
unfolding key_checks
key_checks_same t u s =
    ap (λ (f : List Bytes × Bytes). TooLarge when nat_lt 3 (length f.0) ∷ key_names_checks t t.key) s.key
    ∙ ap (λ (cs : List Check). TooLarge when nat_lt 3 (length u.key.columns.items) ∷ cs) (key_names_same t u s t.key u.key s.key)

-- ---- foreign keys

abbrev SameOption : Option CreateTable → Option CreateTable → Type 0
SameOption None None = Unit {0}
SameOption None (Some u) = ⊥
SameOption (Some t) None = ⊥
SameOption (Some t) (Some u) = Same t u

choice_same : (b c : Bool) (p q r s : Option CreateTable) → b ≡ c → SameOption p q → SameOption r s → SameOption (cond b p r) (cond c q s)
choice_same true true p q r s e h k = h
choice_same true false p q r s e h k = absurd cc
choice_same false true p q r s e h k = absurd cc
choice_same false false p q r s e h k = k

named_same : (ts us : List CreateTable) (name : Bytes) → Pointwise Same ts us → SameOption (table_named ts name) (table_named us name)
named_same [] [] name p = tt
named_same [] (u ∷ us) name p = absurd p
named_same (t ∷ ts) [] name p = absurd p
named_same (t ∷ ts) (u ∷ us) name p = choice_same (same_name name t.name) (same_name name u.name) (Some t) (Some u) (table_named ts name) (table_named us name) (ap (same_name name) p.0.name) p.0 (named_same ts us name p.1)

is_some_same : (p q : Option CreateTable) → SameOption p q → is_some p ≡ is_some q
is_some_same None None s = refl
is_some_same None (Some u) s = absurd s
is_some_same (Some t) None s = absurd s
is_some_same (Some t) (Some u) s = refl

parent_same : (t u : CreateTable) → Same t u → (k l : ForeignKey) → reference_of k ≡ reference_of l → (p q : Option CreateTable) → SameOption p q → parent_checks t k p ≡ parent_checks u l q
unfolding parent_checks
parent_same t u s k l e None None o = refl
parent_same t u s k l e None (Some q) o = absurd o
parent_same t u s k l e (Some p) None o = absurd o
parent_same t u s k l e (Some p) (Some q) o =
    let names : k.names.columns.items ≡ l.names.columns.items = ap (λ (f : (List Bytes × Bytes) × (Bytes × (List Bytes × Bytes))). f.0.0) e in
    let parent_names : k.parent_names.columns.items ≡ l.parent_names.columns.items = ap (λ (f : (List Bytes × Bytes) × (Bytes × (List Bytes × Bytes))). f.1.1.0) e in
    let period : k.parent_names.period ≡ l.parent_names.period = ap (λ (f : (List Bytes × Bytes) × (Bytes × (List Bytes × Bytes))). f.1.1.1) e in
    let key : p.key.columns.items ≡ q.key.columns.items = ap (λ (f : List Bytes × Bytes). f.0) o.key in
    rw (names, parent_names, period, key, o.application, o.columns, s.columns) refl

reference_checks_same : (earlier later : List CreateTable) → Pointwise Same earlier later → (t u : CreateTable) → Same t u → (k l : ForeignKey) → reference_of k ≡ reference_of l → reference_checks earlier t k ≡ reference_checks later u l
reference_checks_same earlier later p t u s k l e =
    let names : key_of k.names ≡ key_of l.names = ap (λ (f : (List Bytes × Bytes) × (Bytes × (List Bytes × Bytes))). f.0) e in
    let parent : k.parent ≡ l.parent = ap (λ (f : (List Bytes × Bytes) × (Bytes × (List Bytes × Bytes))). f.1.0) e in
    joined (key_names_checks t k.names) (key_names_checks u l.names) (parent_checks t k (table_named earlier k.parent)) (parent_checks u l (table_named later l.parent)) (key_names_same t u s k.names l.names names)
    (ap (λ (n : Bytes). parent_checks t k (table_named earlier n)) parent ∙ parent_same t u s k l e (table_named earlier l.parent) (table_named later l.parent) (named_same earlier later l.parent p))

foreign_key_same : (earlier later : List CreateTable) → Pointwise Same earlier later → (t u : CreateTable) → Same t u → (before after : List ForeignKey) (k l : ForeignKey) → length before ≡ length after → reference_of k ≡ reference_of l → foreign_key_checks earlier t before k ≡ foreign_key_checks later u after l
unfolding foreign_key_checks
foreign_key_same earlier later p t u s before after k l n e =
    ap (λ (m : ℕ). TooLarge when nat_eq m 8 ∷ reference_checks earlier t k) n
    ∙ ap (λ (cs : List Check). TooLarge when nat_eq (length after) 8 ∷ cs) (reference_checks_same earlier later p t u s k l e)

-- ---- tables

size_same : (earlier later : List CreateTable) → Pointwise Same earlier later → (t u : CreateTable) → Same t u → name_and_size_checks earlier t ≡ name_and_size_checks later u
unfolding name_and_size_checks
size_same earlier later p t u s = rw (s.columns, s.name, is_some_same (table_named earlier u.name) (table_named later u.name) (named_same earlier later u.name p)) refl

table_checks_same : (earlier later : List CreateTable) (t u : CreateTable) → Pointwise Same earlier later → Same t u → table_checks earlier t ≡ table_checks later u
table_checks_same earlier later t u p s = joined _ _ _ _ (joined _ _ _ _ (joined _ _ _ _ (joined _ _ _ _ (joined _ _ _ _
    (size_same earlier later p t u s)
    (ap (each column_checks) s.columns))
    (application_checks_same t u s))
    (system_checks_same t u s))
    (key_checks_same t u s))
    (each_same (λ k l. reference_of k ≡ reference_of l) (foreign_key_checks earlier t) (foreign_key_checks later u)
    (λ before after k l b e. foreign_key_same earlier later p t u s before after k l (length_same (λ k l. reference_of k ≡ reference_of l) before after b) e)
    [] [] t.foreign_keys.items u.foreign_keys.items tt (map_same reference_of t.foreign_keys.items u.foreign_keys.items s.keys))

schema_checks_same : (ts us : List CreateTable) → Pointwise Same ts us → schema_checks ts ≡ schema_checks us
schema_checks_same ts us p =
    ap (λ (n : ℕ). TooLarge when nat_lt 16 n ∷ each table_checks ts) (length_same Same ts us p)
    ∙ ap (λ (cs : List Check). TooLarge when nat_lt 16 (length us) ∷ cs) (each_same Same table_checks table_checks table_checks_same [] [] ts us tt p)

-- ---- the tables that they make

module _ (earlier columns : List Bytes) where
  reference_from : (List Bytes × Bytes) × (Bytes × (List Bytes × Bytes)) → ReferenceShape
  reference_from f = record { columns = map (made.place columns) f.0.0; parent = made.place earlier f.1.0 }

  through : (ks : List ForeignKey) → map (made.reference_of earlier columns) ks ≡ map reference_from (map reference_of ks)
  unfolding reference_from
  through [] = refl
  through (k ∷ ks) = ap (λ (l : List ReferenceShape). made.reference_of earlier columns k ∷ l) (through ks)

  references_same : (ks ls : List ForeignKey) → map reference_of ks ≡ map reference_of ls → map (made.reference_of earlier columns) ks ≡ map (made.reference_of earlier columns) ls
  references_same ks ls e = through ks ∙ ap (map reference_from) e ∙ sym (through ls)

shape_same : (earlier : List Bytes) (t u : CreateTable) → Same t u → shape_of earlier t ≡ shape_of earlier u
unfolding shape_of
shape_same earlier t u s =
    let key : t.key.columns.items ≡ u.key.columns.items = ap (λ (f : List Bytes × Bytes). f.0) s.key in
    rw (s.columns, s.application, s.system, key, references_same earlier (made.names_of u.columns.items) t.foreign_keys.items u.foreign_keys.items s.keys) (refl {a = shape_of earlier u})

tables_same : (earlier : List Bytes) (ts us : List CreateTable) → Pointwise Same ts us → tables_after earlier ts ≡ tables_after earlier us
tables_same earlier [] [] p = refl
tables_same earlier [] (u ∷ us) p = absurd p
tables_same earlier (t ∷ ts) [] p = absurd p
tables_same earlier (t ∷ ts) (u ∷ us) p =
    ap (λ (n : Bytes). let l : Tables = (n, shape_of earlier t) ∷ tables_after (earlier ++ n ∷ []) ts in l) p.0.name
    ∙ ap (λ (shape : TableShape). let l : Tables = (u.name, shape) ∷ tables_after (earlier ++ u.name ∷ []) ts in l) (shape_same earlier t u p.0)
    ∙ ap (λ (l : Tables). (u.name, shape_of earlier u) ∷ l) (tables_same (earlier ++ u.name ∷ []) ts us p.1)

-- ---- one answer

made_one : (ts us : List CreateTable) → Pointwise Same ts us → (a b : Result Tables Refusal) → Makes ts a → Makes us b → a ≡ b
made_one ts us p (Ok m) (Ok n) h k = ap (λ (t : Tables). Ok t) (h.1 ∙ tables_same [] ts us p ∙ sym k.1)
made_one ts us p (Ok m) (Err r) h k = absurd (let e : None ≡ Some r = sym h.0 ∙ ap first_failing (schema_checks_same ts us p) ∙ k in cc)
made_one ts us p (Err r) (Ok n) h k = absurd (let e : Some r ≡ None = sym h ∙ ap first_failing (schema_checks_same ts us p) ∙ k.0 in cc)
made_one ts us p (Err r) (Err q) h k = let e : Some r ≡ Some q = sym h ∙ ap first_failing (schema_checks_same ts us p) ∙ k in cc

pub one_answer : (r : Result (List TableForm) Refusal) (a b : Result Tables Refusal) → MakesSaid r a → MakesSaid r b → a ≡ b
one_answer (Ok forms) a b h k = made_one h.0 k.0 (all_said_same forms h.0 k.0 h.1 k.1) a b h.2 k.2
one_answer (Err refusal) a b h k = h ∙ sym k
