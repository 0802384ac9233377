-- Names, and lists of them.
use Rattle.std.specs.Prelude.{◌≡◌, ℕ, true, if◌then◌else◌, List, Option, Some, None, map, codes}
use Rattle.sqltokens.specs.declared.token.Sign.TheVariants.{Comma}
use Rattle.namesyntax.specs.declared.forms.Name.{Name as Given}
use Rattle.sqltokens.specs.What.{What, Name, is_symbol, sign}
use Rattle.sqltokens.specs.Classes.{name_in}
use Rattle.phrase.specs.Grammar.{Phrase, Class, one, ◌▹◌, row}
use Rattle.namesyntax.specs.Words.{is_name_text}

abbrev pub Bytes : Type 0
Bytes = List ℕ

abbrev pub if_name : Option Bytes → Option Bytes
if_name None = None
if_name (Some name) = if is_name_text name then Some name else None

-- a word that is not reserved
unfoldable pub names : Class What Bytes
names = record { fits = λ name. is_name_text name ≡ true; what = Name; of = λ w. if_name (name_in w); example = codes "a" }

unfoldable pub another_name : Phrase What Bytes
another_name = sign Comma ▹ one names

-- name { "," name }
unfoldable pub name_list : Phrase What (List Bytes)
name_list = row (one names) (is_symbol Comma) another_name

-- ---- the parts of what the code reads

abbrev pub name_of : Given → Bytes
name_of n = n.written.now

abbrev pub names_of : List Given → List Bytes
names_of ns = map name_of ns
