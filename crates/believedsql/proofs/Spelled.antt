-- A text spells the same tables by the grammar that is read and in these words, and goes wrong at the same place.
use Rattle.std.proofs.Common.{◌≡◌, ℕ, zero, suc, ◌+◌, ◌<◌, ◌≤◌, Bool, true, false, cond, List, [], ◌∷◌, ◌++◌, length, take, map, refl, sym, ap, ◌∙◌, subst, arith, append_assoc, inl, inr}
use Rattle.std.specs.Prelude.{◌≢◌, codes, slice_get}
use Rattle.std.specs.List.{AllByRecursion, flat_map, take-map}
use Rattle.std.specs.Option.{option_map_or}
use Rattle.std.proofs.Math.Dec.{ltb}
use Rattle.std.proofs.lemmas.Bool.{ltb-true, ltb-false}
use Rattle.std.proofs.lemmas.List.{map-append, take_all}
use Rattle.sqltokens.specs.declared.token.Keyword.TheVariants as keyword
use Rattle.sqltokens.specs.declared.token.Keyword.TheVariants.{Period, For, SystemTime, Primary, Key, Without, Overlaps, Foreign, References, Create, With, System, Versioning}
use Rattle.sqltokens.specs.declared.token.Sign.TheVariants.{Open, Close, Comma, Semicolon}
use Rattle.sqltokens.specs.What.{What, Word, Symbol, Name, Digits, Text, Stray, Piece}
use Rattle.sqltokens.specs.Classes.{digits}
use Rattle.sqltokens.specs.Lexing.{IsTokens}
use Rattle.sqltokens.specs.Syntax.{said, place}
use Rattle.sqltokens.specs.Syntax as grammar
use Rattle.sqltokens.proofs.Texts.{decide}
use Rattle.sqltokens.proofs.Cuts.{tokens_same}
use Rattle.phrase.specs.Grammar.{spell_all, first_of}
use Rattle.namesyntax.specs.Words.{is_name_text}
use Rattle.namesyntax.specs.Names.{Bytes, names, another_name}
use Rattle.schemasyntax.specs.Schemas.{TypeForm, ColumnForm, KeyNamesForm, ReferenceForm, TableForm, before_last, last_of}
use Rattle.schemasyntax.specs.Schemas as before
use Rattle.sqlsyntax.proofs.Dated.{IsNamed, tokens_named}
use Rattle.sqlsyntax.proofs.Renamed.{renamed, as_named}
use Rattle.believed.specs.Spelling as words
use Rattle.believed.proofs.LexingSame.{tokens_now, tokens_before}
use Rattle.believedsql.specs.Forms.{ColumnType, Integer, Varchar, Date, RowStart, RowEnd, KeyNames, ForeignKey, Table, IsFull}
use Rattle.believedsql.specs.Forms as now

-- ---- forms of both

abbrev pub of_type : TypeForm → ColumnType
of_type (inl u) = Integer
of_type (inr (inl d)) = Varchar d
of_type (inr (inr (inl u))) = Date
of_type (inr (inr (inr (inl u)))) = RowStart
of_type (inr (inr (inr (inr u)))) = RowEnd

abbrev pub type_form : ColumnType → TypeForm
type_form Integer = inl tt
type_form (Varchar d) = inr (inl d)
type_form Date = inr (inr (inl tt))
type_form RowStart = inr (inr (inr (inl tt)))
type_form RowEnd = inr (inr (inr (inr tt)))

abbrev pub of_column : ColumnForm → Bytes × ColumnType
of_column c = (c.0, of_type c.1)

abbrev pub column_form : Bytes × ColumnType → ColumnForm
column_form c = (c.0, type_form c.1)

abbrev pub of_names : KeyNamesForm → KeyNames
of_names k = record { columns = k.0; period = k.1 }

abbrev pub names_form : KeyNames → KeyNamesForm
names_form k = (k.columns, k.period)

abbrev pub of_key : ReferenceForm → ForeignKey
of_key r = record { names = of_names r.0; parent = r.1.0; parent_names = of_names r.1.1 }

abbrev pub key_form : ForeignKey → ReferenceForm
key_form k = (names_form k.names, (k.parent, names_form k.parent_names))

abbrev pub of_table : TableForm → Table
of_table f = record {
  name = f.0;
  columns = map of_column f.1.0;
  period = f.1.1.0.0;
  start = f.1.1.0.1.0;
  end = f.1.1.0.1.1;
  system_start = f.1.1.1.0.0;
  system_end = f.1.1.1.0.1;
  key = of_names f.1.1.1.1.0;
  foreign_keys = map of_key f.1.1.1.1.1;
}

abbrev pub table_form : Table → TableForm
table_form t = (t.name, (map column_form t.columns, ((t.period, (t.start, t.end)), ((t.system_start, t.system_end), (names_form t.key, map key_form t.foreign_keys)))))

type_again : (f : TypeForm) → type_form (of_type f) ≡ f
type_again (inl u) = refl
type_again (inr (inl d)) = refl
type_again (inr (inr (inl u))) = refl
type_again (inr (inr (inr (inl u)))) = refl
type_again (inr (inr (inr (inr u)))) = refl

columns_again : (cs : List ColumnForm) → map column_form (map of_column cs) ≡ cs
columns_again [] = refl
columns_again (c ∷ cs) = λ i. (c.0, type_again c.1 i) ∷ columns_again cs i

keys_again : (rs : List ReferenceForm) → map key_form (map of_key rs) ≡ rs
keys_again [] = refl
keys_again (r ∷ rs) = ap (λ (l : List ReferenceForm). r ∷ l) (keys_again rs)

table_again : (f : TableForm) → table_form (of_table f) ≡ f
table_again (n, (cs, (p, (s, (k, rs))))) = λ i. (n, (columns_again cs i, (p, (s, (k, keys_again rs i)))))

tables_again : (fs : List TableForm) → map table_form (map of_table fs) ≡ fs
tables_again [] = refl
tables_again (f ∷ fs) = λ i. table_again f i ∷ tables_again fs i

-- ---- tokens

type_same : (a : ColumnType) → before.column_type.spell (type_form a) ≡ now.column_type a
unfolding before.column_type digits
type_same Integer = refl
type_same (Varchar d) = refl
type_same Date = refl
type_same RowStart = refl
type_same RowEnd = refl

abbrev pub spelled_column : Bytes × ColumnType → List What
spelled_column c = Name c.0 ∷ now.column_type c.1 ++ Symbol Comma ∷ []

columns_same : (cs : List (Bytes × ColumnType)) → spell_all before.column_comma.spell (map column_form cs) ≡ flat_map spelled_column cs
unfolding before.column_comma before.column names
columns_same [] = refl
columns_same (c ∷ cs) = λ i. (Name c.0 ∷ (type_same c.1 i ++ Symbol Comma ∷ [])) ++ columns_same cs i

row_same : (cs : List (Bytes × ColumnType)) → cs ≢ [] → before.columns.spell (map column_form cs) ≡ flat_map spelled_column cs
unfolding before.columns
row_same [] h = absurd (h refl)
row_same (c ∷ cs) h = columns_same (c ∷ cs)

listed_same : (ns : List Bytes) → spell_all before.name_comma.spell ns ≡ now.listed ns
unfolding before.name_comma names
listed_same [] = refl
listed_same (n ∷ ns) = ap (λ (l : List What). Name n ∷ Symbol Comma ∷ l) (listed_same ns)

names_row : (ns : List Bytes) → ns ≢ [] → before.names_comma.spell ns ≡ now.listed ns
unfolding before.names_comma
names_row [] h = absurd (h refl)
names_row (n ∷ ns) h = listed_same (n ∷ ns)

key_names_same : (k : KeyNames) → k.columns ≢ [] → before.key_names.spell (names_form k) ≡ now.key_names k
unfolding before.key_names names
key_names_same k h = ap (λ (l : List What). Symbol Open ∷ (l ++ Word Period ∷ Name k.period ∷ Symbol Close ∷ [])) (names_row k.columns h)

abbrev FullKey : ForeignKey → Type 0
FullKey k = (k.names.columns ≢ []) × (k.parent_names.columns ≢ [])

keys_same : (ks : List ForeignKey) → AllByRecursion FullKey ks → spell_all before.another_reference.spell (map key_form ks) ≡ flat_map now.foreign_key ks
unfolding before.another_reference before.reference names
keys_same [] h = refl
keys_same (k ∷ ks) h = λ i. (Symbol Comma ∷ Word Foreign ∷ Word Key ∷ (key_names_same k.names h.0.0 i ++ Word References ∷ Name k.parent ∷ key_names_same k.parent_names h.0.1 i)) ++ keys_same ks h.1 i

commas_same : (ns : List Bytes) (p : Bytes) → spell_all another_name.spell (ns ++ p ∷ []) ≡ Symbol Comma ∷ (now.listed ns ++ Name p ∷ [])
unfolding another_name names
commas_same [] p = refl
commas_same (n ∷ ns) p = ap (λ (l : List What). Symbol Comma ∷ Name n ∷ l) (commas_same ns p)

two_same : (ns : List Bytes) (p : Bytes) → Name (first_of p (ns ++ p ∷ [])).0 ∷ spell_all another_name.spell (first_of p (ns ++ p ∷ [])).1 ≡ now.listed ns ++ Name p ∷ []
unfolding another_name names
two_same [] p = refl
two_same (n ∷ ns) p = ap (λ (l : List What). Name n ∷ l) (commas_same ns p)

key_columns_same : (ns : List Bytes) (p : Bytes) → ns ≢ [] → before.key_columns.spell (ns, p) ≡ now.listed ns ++ Name p ∷ []
unfolding before.key_columns names
key_columns_same [] p h = absurd (h refl)
key_columns_same (n ∷ ns) p h = ap (λ (l : List What). Name n ∷ Symbol Comma ∷ l) (two_same ns p)

key_end : (xs : List What) (p : Bytes) (rest : List What) →
    ((((xs ++ Name p ∷ []) ++ Word Without ∷ []) ++ Word Overlaps ∷ []) ++ Symbol Close ∷ []) ++ rest ≡ xs ++ Name p ∷ Word Without ∷ Word Overlaps ∷ Symbol Close ∷ rest
key_end [] p rest = refl
key_end (x ∷ xs) p rest = ap (λ (l : List What). x ∷ l) (key_end xs p rest)

abbrev pub ending : List What
ending = Symbol Close ∷ Word With ∷ Word System ∷ Word Versioning ∷ Symbol Semicolon ∷ []

table_end : (xs : List What) → ((((xs ++ Symbol Close ∷ []) ++ Word With ∷ []) ++ Word System ∷ []) ++ Word Versioning ∷ []) ++ Symbol Semicolon ∷ [] ≡ xs ++ ending
table_end [] = refl
table_end (x ∷ xs) = ap (λ (l : List What). x ∷ l) (table_end xs)

abbrev pub opening : Table → List What → List What
opening t rest = Word Create ∷ Word keyword.Table ∷ Name t.name ∷ Symbol Open ∷ rest

abbrev pub periods : Table → List What → List What
periods t rest =
    Word Period ∷ Word For ∷ Name t.period ∷ Symbol Open ∷ Name t.start ∷ Symbol Comma ∷ Name t.end ∷ Symbol Close ∷ Symbol Comma
    ∷ Word Period ∷ Word For ∷ Word SystemTime ∷ Symbol Open ∷ Name t.system_start ∷ Symbol Comma ∷ Name t.system_end ∷ Symbol Close ∷ Symbol Comma
    ∷ Word Primary ∷ Word Key ∷ Symbol Open ∷ rest

abbrev pub keyed : Table → List What → List What
keyed t rest = Name t.key.period ∷ Word Without ∷ Word Overlaps ∷ Symbol Close ∷ rest

abbrev pub flat : Table → List What
flat t = opening t (flat_map spelled_column t.columns ++ periods t (now.listed t.key.columns ++ keyed t (flat_map now.foreign_key t.foreign_keys ++ ending)))

pub flat_is : (t : Table) → now.table t ≡ flat t
flat_is t =
    append_assoc (opening t (flat_map spelled_column t.columns) ++ periods t (now.listed t.key.columns)) (keyed t (flat_map now.foreign_key t.foreign_keys)) ending
    ∙ append_assoc (opening t (flat_map spelled_column t.columns)) (periods t (now.listed t.key.columns)) (keyed t (flat_map now.foreign_key t.foreign_keys ++ ending))

flat_same : (t : Table) → IsFull t → before.table.spell (table_form t) ≡ flat t
unfolding before.table before.application_period before.system_period before.key names
flat_same t h =
    (λ i. opening t (row_same t.columns h.0 i ++ periods t (((((key_columns_same t.key.columns t.key.period h.1 i ++ Word Without ∷ []) ++ Word Overlaps ∷ []) ++ Symbol Close ∷ [])
    ++ (((((keys_same t.foreign_keys h.2 i ++ Symbol Close ∷ []) ++ Word With ∷ []) ++ Word System ∷ []) ++ Word Versioning ∷ []) ++ Symbol Semicolon ∷ [])))))
    ∙ (λ i. opening t (flat_map spelled_column t.columns ++ periods t (((((now.listed t.key.columns ++ Name t.key.period ∷ []) ++ Word Without ∷ []) ++ Word Overlaps ∷ []) ++ Symbol Close ∷ [])
    ++ table_end (flat_map now.foreign_key t.foreign_keys) i)))
    ∙ (λ i. opening t (flat_map spelled_column t.columns ++ periods t (key_end (now.listed t.key.columns) t.key.period (flat_map now.foreign_key t.foreign_keys ++ ending) i)))

all_flat : (ts : List Table) → AllByRecursion IsFull ts → spell_all before.table.spell (map table_form ts) ≡ flat_map now.table ts
all_flat [] h = refl
all_flat (t ∷ ts) h = λ i. (flat_same t h.0 ∙ sym (flat_is t)) i ++ all_flat ts h.1 i

tables_are : (ts : List Table) → ts ≢ [] → AllByRecursion IsFull ts → before.tables.spell (map table_form ts) ≡ flat_map now.table ts
unfolding before.tables
tables_are [] some h = absurd (some refl)
tables_are (t ∷ ts) some h = all_flat (t ∷ ts) h

-- ---- what fits is full

some_left : {A B : Type 0} (g : A → B) (xs : List A) → xs ≢ [] → map g xs ≢ []
some_left g [] h e = h refl
some_left g (x ∷ xs) h e = cc

columns_some : (cs : List ColumnForm) → before.columns.fits cs → cs ≢ []
unfolding before.columns
columns_some [] h e = let never = h.1 in cc
columns_some (c ∷ cs) h e = cc

names_some : (ns : List Bytes) → before.names_comma.fits ns → ns ≢ []
unfolding before.names_comma
names_some [] h e = let never = h.1 in cc
names_some (n ∷ ns) h e = cc

key_some : (ns : List Bytes) (p : Bytes) → before.key.fits (ns, p) → ns ≢ []
unfolding before.key before.key_columns
key_some [] p h e = let never : p ∷ [] ≡ [] = ap (λ (k : KeyNamesForm). k.0) h.1 in cc
key_some (n ∷ ns) p h e = cc

keys_some : (rs : List ReferenceForm) → AllByRecursion before.another_reference.fits rs → AllByRecursion FullKey (map of_key rs)
unfolding before.another_reference before.reference before.key_names
keys_some [] h = tt
keys_some (r ∷ rs) h = ((names_some r.0.0 h.0.0.0, names_some r.1.1.0 h.0.1.1.0), keys_some rs h.1)

full_now : (f : TableForm) → before.table.fits f → IsFull (of_table f)
unfolding before.table
full_now f h = (some_left of_column f.1.0 (columns_some f.1.0 h.1.0), key_some f.1.1.1.1.0.0 f.1.1.1.1.0.1 h.1.1.1.1.0, keys_some f.1.1.1.1.1 h.1.1.1.1.1)

all_full : (fs : List TableForm) → AllByRecursion before.table.fits fs → AllByRecursion IsFull (map of_table fs)
all_full [] h = tt
all_full (f ∷ fs) h = (full_now f h.0, all_full fs h.1)

tables_some : (fs : List TableForm) → before.tables.fits fs → (map of_table fs ≢ []) × AllByRecursion IsFull (map of_table fs)
unfolding before.tables
tables_some [] h = absurd (let never = h.1 in cc)
tables_some (f ∷ fs) h = (some_left of_table (f ∷ fs) (λ e. cc), all_full (f ∷ fs) h.0)

-- ---- what is full fits, where its names are names

all_front : {A : Type 0} (P : A → Type 0) (xs ys : List A) → AllByRecursion P (xs ++ ys) → AllByRecursion P xs
all_front P [] ys h = tt
all_front P (x ∷ xs) ys h = (h.0, all_front P xs ys h.1)

all_back : {A : Type 0} (P : A → Type 0) (xs ys : List A) → AllByRecursion P (xs ++ ys) → AllByRecursion P ys
all_back P [] ys h = h
all_back P (x ∷ xs) ys h = all_back P xs ys h.1

abbrev AreNames : List Bytes → Type 0
AreNames ns = AllByRecursion (λ n. is_name_text n ≡ true) ns

abbrev AllNamed : List What → Type 0
AllNamed ws = AllByRecursion IsNamed ws

type_fits : (a : ColumnType) → before.column_type.fits (type_form a)
unfolding before.column_type digits
type_fits Integer = tt
type_fits (Varchar d) = tt
type_fits Date = tt
type_fits RowStart = tt
type_fits RowEnd = tt

columns_fit : (cs : List (Bytes × ColumnType)) → AllNamed (flat_map spelled_column cs) → AllByRecursion before.column_comma.fits (map column_form cs)
unfolding before.column_comma before.column names
columns_fit [] h = tt
columns_fit (c ∷ cs) h = ((h.0, type_fits c.1), columns_fit cs (all_back IsNamed (now.column_type c.1 ++ Symbol Comma ∷ []) (flat_map spelled_column cs) h.1))

row_fits : (cs : List (Bytes × ColumnType)) → cs ≢ [] → AllByRecursion before.column_comma.fits (map column_form cs) → before.columns.fits (map column_form cs)
unfolding before.columns
row_fits [] some h = absurd (some refl)
row_fits (c ∷ cs) some h = (h, refl)

listed_named : (ns : List Bytes) → AllNamed (now.listed ns) → AreNames ns
listed_named [] h = tt
listed_named (n ∷ ns) h = (h.0, listed_named ns h.1.1)

names_fit : (ns : List Bytes) → ns ≢ [] → AreNames ns → before.names_comma.fits ns
unfolding before.names_comma before.name_comma names
names_fit [] some h = absurd (some refl)
names_fit (n ∷ ns) some h = (h, refl)

key_names_fit : (k : KeyNames) → k.columns ≢ [] → AllNamed (now.key_names k) → before.key_names.fits (names_form k)
unfolding before.key_names names
key_names_fit k some h = (
  names_fit k.columns some (listed_named k.columns (all_front IsNamed (now.listed k.columns) (Word Period ∷ Name k.period ∷ Symbol Close ∷ []) h.1)),
  (all_back IsNamed (now.listed k.columns) (Word Period ∷ Name k.period ∷ Symbol Close ∷ []) h.1).1.0,
)

keys_fit : (ks : List ForeignKey) → AllByRecursion FullKey ks → AllNamed (flat_map now.foreign_key ks) → AllByRecursion before.another_reference.fits (map key_form ks)
unfolding before.another_reference before.reference names
keys_fit [] full h = tt
keys_fit (k ∷ ks) full h =
    let own = (all_front IsNamed (now.foreign_key k) (flat_map now.foreign_key ks) h).1.1.1 in
    let after = all_back IsNamed (now.key_names k.names) (Word References ∷ Name k.parent ∷ now.key_names k.parent_names) own in (
      (
        key_names_fit k.names full.0.0 (all_front IsNamed (now.key_names k.names) (Word References ∷ Name k.parent ∷ now.key_names k.parent_names) own),
        (after.1.0, key_names_fit k.parent_names full.0.1 after.1.1),
      ),
      keys_fit ks full.1 (all_back IsNamed (now.foreign_key k) (flat_map now.foreign_key ks) h),
    )

all_push : (ns : List Bytes) (p : Bytes) → AreNames ns → is_name_text p ≡ true → AreNames (ns ++ p ∷ [])
all_push [] p h e = (e, tt)
all_push (n ∷ ns) p h e = (h.0, all_push ns p h.1 e)

two_named : (ns : List Bytes) (p : Bytes) → AreNames ns → is_name_text p ≡ true → (is_name_text (first_of p (ns ++ p ∷ [])).0 ≡ true) × AreNames (first_of p (ns ++ p ∷ [])).1
two_named [] p h e = (e, tt)
two_named (n ∷ ns) p h e = (h.0, all_push ns p h.1 e)

before_again : (n : Bytes) (ns : List Bytes) (p : Bytes) → before_last n (ns ++ p ∷ []) ≡ n ∷ ns
before_again n [] p = refl
before_again n (m ∷ ns) p = ap (λ (l : List Bytes). n ∷ l) (before_again m ns p)

last_again : (n : Bytes) (ns : List Bytes) (p : Bytes) → last_of n (ns ++ p ∷ []) ≡ p
last_again n [] p = refl
last_again n (m ∷ ns) p = last_again m ns p

parts_again : (ns : List Bytes) (p : Bytes) → (before_last (first_of p (ns ++ p ∷ [])).0 (first_of p (ns ++ p ∷ [])).1 ≡ ns) × (last_of (first_of p (ns ++ p ∷ [])).0 (first_of p (ns ++ p ∷ [])).1 ≡ p)
parts_again [] p = (refl, refl)
parts_again (n ∷ ns) p = (before_again n ns p, last_again n ns p)

key_fits : (ns : List Bytes) (p : Bytes) → ns ≢ [] → AreNames ns → is_name_text p ≡ true → before.key.fits (ns, p)
unfolding before.key before.key_columns another_name names
key_fits [] p some h e = absurd (some refl)
key_fits (n ∷ ns) p some h e =
    let two = two_named ns p h.1 e in
    let again = parts_again ns p in
    ((h.0, (two.0, two.1)), (λ i. (n ∷ again.0 i, again.1 i)))

table_fits : (t : Table) → IsFull t → AllNamed (now.table t) → before.table.fits (table_form t)
unfolding before.table before.application_period before.system_period names
table_fits t full named =
    let h : AllNamed (flat t) = subst AllNamed (flat_is t) named in
    let columns = h.1.1.1.1 in
    let rest = periods t (now.listed t.key.columns ++ keyed t (flat_map now.foreign_key t.foreign_keys ++ ending)) in
    let p = all_back IsNamed (flat_map spelled_column t.columns) rest columns in
    let s = p.1.1.1.1.1.1.1.1.1 in
    let k = s.1.1.1.1.1.1.1.1.1.1.1.1 in
    let after = all_back IsNamed (now.listed t.key.columns) (keyed t (flat_map now.foreign_key t.foreign_keys ++ ending)) k in (
      h.1.1.0,
      (
        row_fits t.columns full.0 (columns_fit t.columns (all_front IsNamed (flat_map spelled_column t.columns) rest columns)),
        (
          (p.1.1.0, (p.1.1.1.1.0, p.1.1.1.1.1.1.0)),
          (
            (s.1.1.1.1.0, s.1.1.1.1.1.1.0),
            (
              key_fits t.key.columns t.key.period full.1 (listed_named t.key.columns (all_front IsNamed (now.listed t.key.columns) (keyed t (flat_map now.foreign_key t.foreign_keys ++ ending)) k)) after.0,
              keys_fit t.foreign_keys full.2 (all_front IsNamed (flat_map now.foreign_key t.foreign_keys) ending after.1.1.1.1),
            ),
          ),
        ),
      ),
    )

all_fit : (ts : List Table) → AllByRecursion IsFull ts → AllNamed (flat_map now.table ts) → AllByRecursion before.table.fits (map table_form ts)
all_fit [] full named = tt
all_fit (t ∷ ts) full named = (table_fits t full.0 (all_front IsNamed (now.table t) (flat_map now.table ts) named), all_fit ts full.1 (all_back IsNamed (now.table t) (flat_map now.table ts) named))

tables_fit : (ts : List Table) → ts ≢ [] → AllByRecursion IsFull ts → AllNamed (flat_map now.table ts) → before.tables.fits (map table_form ts)
unfolding before.tables
tables_fit [] some full named = absurd (some refl)
tables_fit (t ∷ ts) some full named = (all_fit (t ∷ ts) full named, refl)

-- ---- names that are none, as others

abbrev a_name : Bytes → Bytes
a_name n = cond (is_name_text n) n (codes "a")

names_renamed : KeyNames → KeyNames
names_renamed k = record { columns = map a_name k.columns; period = a_name k.period }

key_renamed : ForeignKey → ForeignKey
key_renamed k = record { names = names_renamed k.names; parent = a_name k.parent; parent_names = names_renamed k.parent_names }

column_renamed : Bytes × ColumnType → Bytes × ColumnType
column_renamed c = (a_name c.0, c.1)

table_renamed : Table → Table
table_renamed t = record {
  name = a_name t.name;
  columns = map column_renamed t.columns;
  period = a_name t.period;
  start = a_name t.start;
  end = a_name t.end;
  system_start = a_name t.system_start;
  system_end = a_name t.system_end;
  key = names_renamed t.key;
  foreign_keys = map key_renamed t.foreign_keys;
}

record IsRenamed (ts us : List What) : Type 0 where
  is : map renamed ts ≡ us

both : {xs ys us vs : List What} → IsRenamed xs us → IsRenamed ys vs → IsRenamed (xs ++ ys) (us ++ vs)
both {xs} {ys} {us} {vs} e f = record { is = map-append renamed xs ys ∙ ap (λ (l : List What). l ++ map renamed ys) e.is ∙ ap (λ (l : List What). us ++ l) f.is }

fixed : (xs : List What) → IsRenamed xs (map renamed xs)
fixed xs = record { is = refl }

all_are : {A : Type 0} (f : A → List What) (g : A → A) → ((x : A) → IsRenamed (f x) (f (g x))) → (xs : List A) → IsRenamed (flat_map f xs) (flat_map f (map g xs))
all_are f g s [] = record { is = refl }
all_are f g s (x ∷ xs) = both (s x) (all_are f g s xs)

type_is : (a : ColumnType) → IsRenamed (now.column_type a) (now.column_type a)
type_is Integer = record { is = refl }
type_is (Varchar d) = record { is = refl }
type_is Date = record { is = refl }
type_is RowStart = record { is = refl }
type_is RowEnd = record { is = refl }

column_is : (c : Bytes × ColumnType) → IsRenamed (spelled_column c) (spelled_column (column_renamed c))
unfolding column_renamed
column_is c = both (both (fixed (Name c.0 ∷ [])) (type_is c.1)) (fixed (Symbol Comma ∷ []))

listed_is : (ns : List Bytes) → IsRenamed (now.listed ns) (now.listed (map a_name ns))
listed_is ns = all_are (λ n. Name n ∷ Symbol Comma ∷ []) a_name (λ n. record { is = refl }) ns

key_names_are : (k : KeyNames) → IsRenamed (now.key_names k) (now.key_names (names_renamed k))
unfolding names_renamed
key_names_are k = both (both (fixed (Symbol Open ∷ [])) (listed_is k.columns)) (fixed (Word Period ∷ Name k.period ∷ Symbol Close ∷ []))

key_is : (k : ForeignKey) → IsRenamed (now.foreign_key k) (now.foreign_key (key_renamed k))
unfolding key_renamed
key_is k = both (both (fixed (Symbol Comma ∷ Word Foreign ∷ Word Key ∷ [])) (key_names_are k.names)) (both (fixed (Word References ∷ Name k.parent ∷ [])) (key_names_are k.parent_names))

table_is : (t : Table) → IsRenamed (now.table t) (now.table (table_renamed t))
unfolding table_renamed names_renamed
table_is t = both (both (both (both (fixed (opening t [])) (all_are spelled_column column_renamed column_is t.columns)) (both (fixed (periods t [])) (listed_is t.key.columns)))
    (both (fixed (keyed t [])) (all_are now.foreign_key key_renamed key_is t.foreign_keys))) (fixed ending)

tables_is : (ts : List Table) → map renamed (flat_map now.table ts) ≡ flat_map now.table (map table_renamed ts)
tables_is ts = (all_are now.table table_renamed table_is ts).is

keys_full : (ks : List ForeignKey) → AllByRecursion FullKey ks → AllByRecursion FullKey (map key_renamed ks)
unfolding key_renamed names_renamed
keys_full [] h = tt
keys_full (k ∷ ks) h = ((some_left a_name k.names.columns h.0.0, some_left a_name k.parent_names.columns h.0.1), keys_full ks h.1)

still_full : (ts : List Table) → AllByRecursion IsFull ts → AllByRecursion IsFull (map table_renamed ts)
unfolding table_renamed names_renamed
still_full [] h = tt
still_full (t ∷ ts) h = ((some_left column_renamed t.columns h.0.0, some_left a_name t.key.columns h.0.1, keys_full t.foreign_keys h.0.2), still_full ts h.1)

a_name_is : (n : Bytes) → is_name_text (a_name n) ≡ true
a_name_is n = by (is_name_text n) refl where
  by : (b : Bool) → is_name_text n ≡ b → is_name_text (cond b n (codes "a")) ≡ true
  by true e = e
  by false e = refl

all_named : (ts : List What) → AllNamed (map renamed ts)
all_named [] = tt
all_named (w ∷ ts) = (one w, all_named ts) where
  one : (w : What) → IsNamed (renamed w)
  one (Name n) = a_name_is n
  one (Word k) = tt
  one (Symbol s) = tt
  one (Digits d) = tt
  one (Text t) = tt
  one Stray = tt

-- ---- texts

abbrev pub Any : List Piece → Type 0
Any tokens = (ts : List Table) × now.IsSpelling ts tokens

spelling_now : (fs : List TableForm) (tokens : List Piece) → before.tables.fits fs → said tokens ≡ before.tables.spell fs → now.IsSpelling (map of_table fs) tokens
spelling_now fs tokens fits e =
    let some = tables_some fs fits in
    (e ∙ ap (λ (l : List TableForm). before.tables.spell l) (sym (tables_again fs)) ∙ tables_are (map of_table fs) some.0 some.1, some.0, some.1)

pub spells_now : (text : List ℕ) (fs : List TableForm) → grammar.Spells before.tables text fs → words.Spells text (now.IsSpelling (map of_table fs))
spells_now text fs s = (s.tokens, tokens_now text 0 s.tokens s.are_tokens, spelling_now fs s.tokens s.fits s.spelled)

pub spells_before : (text : List ℕ) (ts : List Table) → words.Spells text (now.IsSpelling ts) → grammar.Spells before.tables text (map table_form ts)
spells_before text ts (tokens, are, (is, some, full)) =
    let were = tokens_before text 0 tokens are in
    record {
      tokens = tokens;
      are_tokens = were;
      fits = tables_fit ts some full (subst AllNamed is (tokens_named text 0 tokens were));
      spelled = is ∙ sym (tables_are ts some full);
    }

abbrev pieces : List What → List Piece
pieces ws = map (λ w. record { what = w; at = 0 }) ws

said_again : (ws : List What) → said (pieces ws) ≡ ws
said_again [] = refl
said_again (w ∷ ws) = ap (λ (l : List What). w ∷ l) (said_again ws)

goes_on : (front : List Piece) → grammar.GoesOn before.tables (said front) → words.GoesOn Any front
goes_on front g =
    let same : said (front ++ pieces g.ending) ≡ said front ++ g.ending = map-append (λ (t : Piece). t.what) front (pieces g.ending) ∙ ap (λ (l : List What). said front ++ l) (said_again g.ending) in
    (pieces g.ending, (map of_table g.value, spelling_now g.value (front ++ pieces g.ending) g.fits (same ∙ sym g.spelled)))

-- the names of the ending need not be names
goes_on_named : (front : List Piece) → AllNamed (said front) → words.GoesOn Any front → grammar.GoesOn before.tables (said front)
goes_on_named front n (ending, (ts, (is, some, full))) =
    let same : map renamed (said (front ++ ending)) ≡ said front ++ map renamed (said ending) =
    ap (map renamed) (map-append (λ (t : Piece). t.what) front ending) ∙ map-append renamed (said front) (said ending) ∙ ap (λ (l : List What). l ++ map renamed (said ending)) (as_named (said front) n) in
    let others = some_left table_renamed ts some in
    let fuller = still_full ts full in
    record {
      value = map table_form (map table_renamed ts);
      ending = map renamed (said ending);
      fits = tables_fit (map table_renamed ts) others fuller (subst AllNamed (tables_is ts) (all_named (flat_map now.table ts)));
      spelled = tables_are (map table_renamed ts) others fuller ∙ sym (tables_is ts) ∙ ap (map renamed) (sym is) ∙ same;
    }

-- ---- where a text goes wrong

place_is : (ts : List Piece) (n end : ℕ) → place ts n end ≡ option_map_or (λ t. t.at) (slice_get ts n) end
place_is [] n end = refl
place_is (t ∷ ts) zero end = refl
place_is (t ∷ ts) (suc n) end = place_is ts n end

place_past : (ts : List Piece) (n end : ℕ) → length ts ≤ n → place ts n end ≡ end
place_past [] n end h = refl
place_past (t ∷ ts) zero end h = absurd (omega arith)
place_past (t ∷ ts) (suc n) end h = place_past ts n end (omega arith)

named : (text : List ℕ) (ts : List Piece) (n : ℕ) → IsTokens text 0 ts → AllNamed (said (take n ts))
named text ts n h = subst AllNamed (take-map (λ (t : Piece). t.what) n ts) (front_named n (said ts) (tokens_named text 0 ts h)) where
  front_named : (n : ℕ) (ws : List What) → AllNamed ws → AllNamed (take n ws)
  front_named zero ws h = tt
  front_named (suc n) [] h = tt
  front_named (suc n) (w ∷ ws) h = (h.0, front_named n ws h.1)

on : (ts : List Piece) (n : ℕ) → grammar.GoesOn before.tables (take n (said ts)) → words.GoesOn Any (take n ts)
on ts n g = goes_on (take n ts) (subst (grammar.GoesOn before.tables) (take-map (λ (t : Piece). t.what) n ts) g)

on_named : (text : List ℕ) (ts : List Piece) (n : ℕ) → IsTokens text 0 ts → words.GoesOn Any (take n ts) → grammar.GoesOn before.tables (take n (said ts))
on_named text ts n h g = subst (grammar.GoesOn before.tables) (sym (take-map (λ (t : Piece). t.what) n ts)) (goes_on_named (take n ts) (named text ts n h) g)

pub wrong_now : (text : List ℕ) (at : ℕ) → grammar.IsWrongAt before.tables text at → words.IsWrongAt Any text at
wrong_now text at w = record {
  spells_nothing = λ s. let g = spells_before text s.2.0 (s.0, s.1, s.2.1) in
      w.says_nothing (map table_form s.2.0) g.fits (ap said (tokens_same text 0 w.tokens g.tokens w.are_tokens g.are_tokens) ∙ g.spelled);
  tokens = w.tokens;
  are_tokens = tokens_now text 0 w.tokens w.are_tokens;
  count = w.count;
  at_is = w.at_is ∙ place_is w.tokens w.count (length text);
  goes_on = on w.tokens w.count w.goes_on;
  ends = λ lt g. w.ends lt (on_named text w.tokens (w.count + 1) w.are_tokens g);
}

pub wrong_before : (text : List ℕ) (at : ℕ) → words.IsWrongAt Any text at → grammar.IsWrongAt before.tables text at
wrong_before text at w =
    elim (decide (ltb w.count (length w.tokens))) [
      | inl h ↦ let lt : w.count < length w.tokens = ltb-true w.count (length w.tokens) h in record {
        tokens = w.tokens;
        are_tokens = are;
        says_nothing = nothing;
        count = w.count;
        within = omega arith;
        at_is = at_is;
        goes_on = on_named text w.tokens w.count are w.goes_on;
        ends = λ lt g. w.ends lt (on w.tokens (w.count + 1) g);
      }
      | inr h ↦ let le : length w.tokens ≤ w.count = ltb-false w.count (length w.tokens) h in record {
        tokens = w.tokens;
        are_tokens = are;
        says_nothing = nothing;
        count = length w.tokens;
        within = omega arith;
        at_is = at_is ∙ place_past w.tokens w.count (length text) le ∙ sym (place_past w.tokens (length w.tokens) (length text) (omega arith));
        goes_on = on_named text w.tokens (length w.tokens) are (subst (words.GoesOn Any) (take_all w.count w.tokens le ∙ sym (take_all (length w.tokens) w.tokens (omega arith))) w.goes_on);
        ends = λ lt g. absurd (omega arith);
      }
    ] where
      are : IsTokens text 0 w.tokens
      are = tokens_before text 0 w.tokens w.are_tokens

      at_is : at ≡ place w.tokens w.count (length text)
      at_is = w.at_is ∙ sym (place_is w.tokens w.count (length text))

      nothing : (fs : List TableForm) → before.tables.fits fs → said w.tokens ≡ before.tables.spell fs → ⊥
      nothing fs f e = let s = spells_now text fs (record { tokens = w.tokens; are_tokens = are; fits = f; spelled = e }) in w.spells_nothing (s.0, s.1, (map of_table fs, s.2))
