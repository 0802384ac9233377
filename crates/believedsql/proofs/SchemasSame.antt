-- The text of a schema says the same in both words.
use Rattle.std.proofs.Common.{◌≡◌, ℕ, zero, suc, ◌+◌, ◌<◌, ◌≤◌, Bool, List, [], ◌∷◌, ◌++◌, length, map, Result, Ok, Err, refl, sym, ap, subst, ◌∙◌, arith, inl, inr}
use Rattle.std.specs.Prelude.{nat_lt, MatchBool}
use Rattle.std.specs.List.{AllByRecursion, flat_map}
use Rattle.std.specs.declared.vec.Vec.{Vec}
use Rattle.std.specs.declared.alloc.Global.{Global}
use Rattle.std.proofs.lemmas.Bool.{ltb-true, ltb-false, lt-ltb, le-ltb}
use Rattle.std.proofs.Common.{length-append, length-drop}
use denote.RawPtr.{null_ptr}
use Rattle.fault.specs.declared.refusal.Refusal.{Refusal}
use Rattle.fault.specs.declared.refusal.Refusal.TheVariants.{TooLarge}
use Rattle.schema.specs.declared.syntax.ColumnType.{ColumnType as TypeSaid}
use Rattle.schema.specs.declared.syntax.Column.{Column}
use Rattle.schema.specs.declared.syntax.ApplicationPeriod.{ApplicationPeriod}
use Rattle.schema.specs.declared.syntax.SystemPeriod.{SystemPeriod}
use Rattle.schema.specs.declared.syntax.KeyNames.{KeyNames as NamesSaid}
use Rattle.schema.specs.declared.syntax.ForeignKey.{ForeignKey as KeySaid}
use Rattle.schema.specs.declared.syntax.CreateTable.{CreateTable}
use Rattle.sqltokens.specs.What.{What, Word, Symbol, Name, Piece}
use Rattle.sqltokens.specs.declared.token.Keyword.TheVariants.{Period, Foreign, Key, References}
use Rattle.sqltokens.specs.declared.token.Sign.TheVariants.{Close, Comma}
use Rattle.sqltokens.specs.Syntax.{IsTold, spelled_in}
use Rattle.sqltokens.proofs.Texts.{decide}
use Rattle.namesyntax.specs.Names.{Bytes}
use Rattle.namesyntax.specs.Parsing.{or_syntax}
use Rattle.schemasyntax.specs.Schemas.{TypeForm, ColumnForm, ApplicationForm, SystemForm, KeyNamesForm, ReferenceForm, TableForm, tables}
use Rattle.sqlchecks.specs.Columns.{Tables}
use Rattle.schemaread.specs.Schemas.{type_said, column_of, column_said, reference_of, IsSaid, AreSaid, MakesSaid, SchemaSays}
use Rattle.believed.specs.Lexing.{token_of, IsTokens}
use Rattle.believed.specs.Spelling.{Spells}
use Rattle.believedsql.specs.Forms.{ColumnType, Integer, Varchar, Date, RowStart, RowEnd, KeyNames, ForeignKey, Table, key_names, foreign_key, listed, table, IsSpelling}
use Rattle.believedsql.specs.Schemas.{schema_in, IsSchema, TooLong, Spelled, Wrong}
use Rattle.believedsql.proofs.Checked.{Pointwise, told, column_made, period_made, system_made, SaysKey, Says, makes_now, makes_before}
use Rattle.believedsql.proofs.Spelled.{of_type, type_form, of_column, column_form, of_key, key_form, of_table, table_form, spelled_column, periods, keyed, ending, flat_is, spells_now, spells_before, wrong_now, wrong_before}

-- ---- a statement and its form

type_told : (f : TypeForm) → type_said f ≡ told (of_type f)
type_told (inl u) = refl
type_told (inr (inl d)) = refl
type_told (inr (inr (inl u))) = refl
type_told (inr (inr (inr (inl u)))) = refl
type_told (inr (inr (inr (inr u)))) = refl

told_type : (a : ColumnType) → told a ≡ type_said (type_form a)
told_type Integer = refl
told_type (Varchar d) = refl
told_type Date = refl
told_type RowStart = refl
told_type RowEnd = refl

abbrev column_from : Bytes × TypeSaid → Column
column_from p = record { name = p.0; column_type = p.1 }

from_of : (cs : List Column) → map column_from (map column_of cs) ≡ cs
from_of [] = refl
from_of (c ∷ cs) = ap (λ (l : List Column). c ∷ l) (from_of cs)

from_said : (fs : List ColumnForm) → map column_from (map column_said fs) ≡ map column_made (map of_column fs)
from_said [] = refl
from_said (f ∷ fs) = λ i. column_from (f.0, type_told f.1 i) ∷ from_said fs i

keys_from : (xs : List KeySaid) → Pointwise SaysKey xs (map of_key (map reference_of xs))
keys_from [] = tt
keys_from (x ∷ xs) = (record { columns = refl; period = refl; parent = refl; parent_columns = refl; parent_period = refl }, keys_from xs)

says_of : (f : TableForm) (w : CreateTable) → IsSaid f w → Says w (of_table f)
says_of f w h = record {
  name = h.name;
  columns = sym (from_of w.columns.items) ∙ ap (map column_from) h.columns ∙ from_said f.1.0;
  application = ap (λ (p : ApplicationForm). let r : ApplicationPeriod = record { name = p.0; start = p.1.0; end = p.1.1 } in r) h.application_period;
  system = ap (λ (p : SystemForm). let r : SystemPeriod = record { start = p.0; end = p.1 } in r) h.system_period;
  key = ap (λ (k : KeyNamesForm). k.0) h.key;
  key_period = ap (λ (k : KeyNamesForm). k.1) h.key;
  keys = subst (λ (rs : List ReferenceForm). Pointwise SaysKey w.foreign_keys.items (map of_key rs)) h.foreign_keys (keys_from w.foreign_keys.items);
}

all_say : (fs : List TableForm) (ws : List CreateTable) → AreSaid fs ws → Pointwise Says ws (map of_table fs)
all_say [] [] h = tt
all_say [] (w ∷ ws) h = absurd h
all_say (f ∷ fs) [] h = absurd h
all_say (f ∷ fs) (w ∷ ws) h = (says_of f w h.0, all_say fs ws h.1)

-- ---- no list of a short text is long

tokens_short : (text : List ℕ) (from : ℕ) (ts : List Piece) → from ≤ length text → IsTokens text from ts → length ts + from ≤ length text
unfolding token_of
tokens_short text from [] le are = omega (arith, le)
tokens_short text from (t ∷ ts) le (at, within, inl (zero, longest, rest)) = absurd (let never = longest.1 in cc)
tokens_short text from (t ∷ ts) le (at, within, inl (suc n, longest, rest)) =
    let short = longest.0 in
    let is = length-drop t.at text in
    let all = tokens_short text (t.at + suc n) ts (omega (arith, short, is, within)) rest in
    omega (arith, at, all)
tokens_short text from (t ∷ ts) le (at, within, inr (none, stray, last)) = let no_more = ap length last in omega (arith, at, within, no_more)

at_least : {A : Type 0} (f : A → List What) → ((x : A) → 0 < length (f x)) → (xs : List A) → length xs ≤ length (flat_map f xs)
at_least f some [] = omega arith
at_least f some (x ∷ xs) = let e = length-append (f x) (flat_map f xs) in let l = some x in let more = at_least f some xs in omega (arith, e, l, more)

-- so many at most
abbrev IsShort : {A : Type 0} → List A → Type 0
IsShort xs = length xs ≤ 65536

abbrev IsShortKey : ForeignKey → Type 0
IsShortKey k = IsShort k.names.columns × IsShort k.parent_names.columns

record IsSmall (t : Table) : Type 0 where
  columns : IsShort t.columns
  key : IsShort t.key.columns
  keys : IsShort t.foreign_keys
  each : AllByRecursion IsShortKey t.foreign_keys

listed_short : (ns : List Bytes) → length ns ≤ length (listed ns)
listed_short ns = at_least (λ n. Name n ∷ Symbol Comma ∷ []) (λ n. omega arith) ns

names_short : (k : KeyNames) → length k.columns ≤ length (key_names k)
names_short k = let e = length-append (listed k.columns) (Word Period ∷ Name k.period ∷ Symbol Close ∷ []) in let l = listed_short k.columns in omega (arith, e, l)

key_short : (k : ForeignKey) → length (foreign_key k) ≤ 65536 → IsShortKey k
key_short k h =
    let e = length-append (Symbol Comma ∷ Word Foreign ∷ Word Key ∷ key_names k.names) (Word References ∷ Name k.parent ∷ key_names k.parent_names) in
    let l = names_short k.names in
    let m = names_short k.parent_names in
    (omega (arith, e, h, l), omega (arith, e, h, m))

keys_short : (ks : List ForeignKey) → length (flat_map foreign_key ks) ≤ 65536 → AllByRecursion IsShortKey ks
keys_short [] h = tt
keys_short (k ∷ ks) h = let e = length-append (foreign_key k) (flat_map foreign_key ks) in (key_short k (omega (arith, e, h)), keys_short ks (omega (arith, e, h)))

column_some : (c : Bytes × ColumnType) → 0 < length (spelled_column c)
column_some c = omega arith

key_some : (k : ForeignKey) → 0 < length (foreign_key k)
key_some k = omega arith

small_of : (t : Table) → length (table t) ≤ 65536 → IsSmall t
small_of t h =
    let cs = flat_map spelled_column t.columns in
    let ls = listed t.key.columns in
    let fs = flat_map foreign_key t.foreign_keys in
    let a = ap length (flat_is t) in
    let b = length-append cs (periods t (ls ++ keyed t (fs ++ ending))) in
    let c = length-append ls (keyed t (fs ++ ending)) in
    let d = length-append fs ending in
    let x = at_least spelled_column column_some t.columns in
    let y = listed_short t.key.columns in
    let z = at_least foreign_key key_some t.foreign_keys in
    record {
      columns = omega (arith, h, a, b, x);
      key = omega (arith, h, a, b, c, y);
      keys = omega (arith, h, a, b, c, d, z);
      each = keys_short t.foreign_keys (omega (arith, h, a, b, c, d));
    }

all_small : (ts : List Table) → length (flat_map table ts) ≤ 65536 → AllByRecursion IsSmall ts
all_small [] h = tt
all_small (t ∷ ts) h = let e = length-append (table t) (flat_map table ts) in (small_of t (omega (arith, e, h)), all_small ts (omega (arith, e, h)))

-- ---- statements that say it

vec : {A : Type 0} (xs : List A) → IsShort xs → Vec A Global
vec xs h = record { ptr = null_ptr; len = length xs; cap = length xs; alloc = record { memory = record { seal = tt } }; items = xs; ok = (refl, omega arith); small = omega (arith, h) }

names_written : (k : KeyNames) → IsShort k.columns → NamesSaid
names_written k h = record { columns = vec k.columns h; period = k.period }

key_written : (k : ForeignKey) → IsShortKey k → KeySaid
key_written k h = record { names = names_written k.names h.0; parent = k.parent; parent_names = names_written k.parent_names h.1 }

keys_written : (ks : List ForeignKey) → AllByRecursion IsShortKey ks → List KeySaid
keys_written [] h = []
keys_written (k ∷ ks) h = key_written k h.0 ∷ keys_written ks h.1

as_many : (ks : List ForeignKey) (h : AllByRecursion IsShortKey ks) → length (keys_written ks h) ≡ length ks
unfolding keys_written
as_many [] h = refl
as_many (k ∷ ks) h = ap (λ n. suc n) (as_many ks h.1)

columns_many : (cs : List (Bytes × ColumnType)) → length (map column_made cs) ≡ length cs
columns_many [] = refl
columns_many (c ∷ cs) = ap (λ n. suc n) (columns_many cs)

written : (t : Table) → IsSmall t → CreateTable
written t s = record {
  name = t.name;
  columns = vec (map column_made t.columns) (subst (λ n. n ≤ 65536) (sym (columns_many t.columns)) s.columns);
  application_period = period_made t;
  system_period = system_made t;
  key = names_written t.key s.key;
  foreign_keys = vec (keys_written t.foreign_keys s.each) (subst (λ n. n ≤ 65536) (sym (as_many t.foreign_keys s.each)) s.keys);
}

keys_say : (ks : List ForeignKey) (h : AllByRecursion IsShortKey ks) → Pointwise SaysKey (keys_written ks h) ks
unfolding keys_written key_written names_written vec
keys_say [] h = tt
keys_say (k ∷ ks) h = (record { columns = refl; period = refl; parent = refl; parent_columns = refl; parent_period = refl }, keys_say ks h.1)

written_says : (t : Table) (s : IsSmall t) → Says (written t s) t
unfolding written names_written vec
written_says t s = record { name = refl; columns = refl; application = refl; system = refl; key = refl; key_period = refl; keys = keys_say t.foreign_keys s.each }

columns_said : (cs : List (Bytes × ColumnType)) → map column_of (map column_made cs) ≡ map column_said (map column_form cs)
columns_said [] = refl
columns_said (c ∷ cs) = λ i. (c.0, told_type c.1 i) ∷ columns_said cs i

keys_said : (ks : List ForeignKey) (h : AllByRecursion IsShortKey ks) → map reference_of (keys_written ks h) ≡ map key_form ks
unfolding keys_written key_written names_written vec
keys_said [] h = refl
keys_said (k ∷ ks) h = ap (λ (l : List ReferenceForm). key_form k ∷ l) (keys_said ks h.1)

written_said : (t : Table) (s : IsSmall t) → IsSaid (table_form t) (written t s)
unfolding written names_written vec
written_said t s = record { name = refl; columns = columns_said t.columns; application_period = refl; system_period = refl; key = refl; foreign_keys = keys_said t.foreign_keys s.each }

all_written : (ts : List Table) → AllByRecursion IsSmall ts → (ws : List CreateTable) × AreSaid (map table_form ts) ws × Pointwise Says ws ts
all_written [] h = ([], tt, tt)
all_written (t ∷ ts) h = let more = all_written ts h.1 in (written t h.0 ∷ more.0, (written_said t h.0, more.1), (written_says t h.0, more.2))

made_said : (text : List ℕ) (ts : List Table) → length text ≤ 65536 → Spells text (IsSpelling ts) → MakesSaid (Ok (map table_form ts)) (schema_in ts)
made_said text ts short (tokens, are, (is, some, full)) =
    let many = tokens_short text 0 tokens (omega arith) are in
    let same : length (map (λ (t : Piece). t.what) tokens) ≡ length tokens = whats tokens in
    let long = ap length is in
    let w = all_written ts (all_small ts (omega (arith, short, many, same, long))) in
    (w.0, w.1, makes_before w.0 ts w.2)
  where
    whats : (ps : List Piece) → length (map (λ (t : Piece). t.what) ps) ≡ length ps
    whats [] = refl
    whats (p ∷ ps) = ap (λ n. suc n) (whats ps)

-- ---- texts

pub says_now : IsTold tables → (text : List ℕ) (r : Result Tables Refusal) → SchemaSays text r → IsSchema text r
unfolding SchemaSays
says_now told text r says = elim (decide (nat_lt 65536 (length text))) [
  | inl h ↦ TooLong (ltb-true 65536 (length text) h) (subst (λ (b : Bool). MatchBool b (r ≡ Err TooLarge) (MakesSaid (or_syntax (spelled_in tables text)) r)) h says)
  | inr h ↦ by (ltb-false 65536 (length text) h) (spelled_in tables text) refl (subst (λ (b : Bool). MatchBool b (r ≡ Err TooLarge) (MakesSaid (or_syntax (spelled_in tables text)) r)) h says)
]
  where
    by : length text ≤ 65536 → (found : Result (List TableForm) ℕ) → spelled_in tables text ≡ found → MakesSaid (or_syntax found) r → IsSchema text r
    by short (Ok forms) e (ws, said, makes) = Spelled (map of_table forms) short (spells_now text forms (((told text).0 forms).1 e)) (makes_now ws (map of_table forms) (all_say forms ws said) r makes)
    by short (Err at) e is = Wrong at short (wrong_now text at (((told text).1 at).1 e)) is

pub says_before : IsTold tables → (text : List ℕ) (r : Result Tables Refusal) → IsSchema text r → SchemaSays text r
unfolding SchemaSays
says_before told text r (TooLong long is) = subst (λ (b : Bool). MatchBool b (r ≡ Err TooLarge) (MakesSaid (or_syntax (spelled_in tables text)) r)) (sym (lt-ltb 65536 (length text) long)) is
says_before told text r (Spelled ts short spells is) =
    subst (λ (b : Bool). MatchBool b (r ≡ Err TooLarge) (MakesSaid (or_syntax (spelled_in tables text)) r)) (sym (le-ltb 65536 (length text) short))
    (subst (λ (found : Result (List TableForm) ℕ). MakesSaid (or_syntax found) r) (sym (((told text).0 (map table_form ts)).0 (spells_before text ts spells)))
    (subst (MakesSaid (Ok (map table_form ts))) (sym is) (made_said text ts short spells)))
says_before told text r (Wrong at short wrong is) =
    subst (λ (b : Bool). MatchBool b (r ≡ Err TooLarge) (MakesSaid (or_syntax (spelled_in tables text)) r)) (sym (le-ltb 65536 (length text) short))
    (subst (λ (found : Result (List TableForm) ℕ). MakesSaid (or_syntax found) r) (sym (((told text).1 at).0 (wrong_before text at wrong))) is)
