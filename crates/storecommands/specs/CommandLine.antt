-- The commands over a store's folder, in the words of `clap`'s own definitions: what their arguments are, and what they ask for.
use Rattle.std.specs.Prelude.{◌≡◌, ◌⊎◌, ◌<◌, ◌^◌, ℕ, Bool, List, Option, Some, None, IfSome, pos, codes, option_map, true, false}
use Rattle.clap.specs.Walk.{Row, Rule, Text, first_of, one_of}
use Rattle.clap.specs.Simple.{App, new_app, new_rule, with_rule, with_subcommand}
use Rattle.clap.specs.declared.builder.action.ArgAction.TheVariants.{Set, SetTrue}
use Rattle.clap.specs.declared.builder.value_parser.ValueParser.TheVariants as parser
use Rattle.storecommands.specs.Given.{GivesFlag, GivesLine, GivesNumber}
use Rattle.storecommands.specs.declared.dot.Form.{Form}
use Rattle.storecommands.specs.Dot.{form_text}
use Rattle.storecommands.specs.declared.command.Command.{Command}
use Rattle.storecommands.specs.declared.command.Command.TheVariants.{New, Open, Log, Flights, Audit, Import, Export, Restore}
use Rattle.storecommands.specs.declared.command.ExportRows.{ExportRows}
use Rattle.storecommands.specs.declared.command.ImportRows.{ImportRows}
use Rattle.storecommands.specs.declared.command.NewStore.{NewStore}
use Rattle.storecommands.specs.declared.command.OpenStore.{OpenStore}

-- DIR
abbrev pub dir_rule : Rule
dir_rule = record (new_rule (codes "DIR")) { required = true; action = Some Set }

-- OUT
abbrev pub out_rule : Rule
out_rule = record (new_rule (codes "OUT")) { required = true; action = Some Set }

-- [FILE]
abbrev pub file_rule : Rule
file_rule = record (new_rule (codes "FILE")) { action = Some Set }

-- --nodes N, 3 to 7
abbrev pub nodes_rule : Rule
nodes_rule = record (new_rule (codes "nodes")) {
  long = Some (codes "nodes");
  value_names = 1;
  required = true;
  parser = Some (parser.Signed (pos 3) (pos 7));
}

-- --schema FILE
abbrev pub schema_rule : Rule
schema_rule = record (new_rule (codes "schema")) {
  long = Some (codes "schema");
  value_names = 1;
  required = true;
  action = Some Set;
}

-- [--sync YESNO]
abbrev pub sync_rule : Rule
sync_rule = record (new_rule (codes "sync")) {
  long = Some (codes "sync");
  value_names = 1;
  action = Some Set;
}

-- [--clock T], an unsigned number of 64 bits
abbrev pub clock_rule : Rule
clock_rule = record (new_rule (codes "clock")) {
  long = Some (codes "clock");
  value_names = 1;
  parser = Some (parser.Unsigned 0 18446744073709551615);
}

-- [--format FORM]
abbrev pub format_rule : Rule
format_rule = record (new_rule (codes "format")) {
  long = Some (codes "format");
  value_names = 1;
  action = Some Set;
}

-- TABLE
abbrev pub table_rule : Rule
table_rule = record (new_rule (codes "TABLE")) { required = true; action = Some Set }

-- FILE
abbrev pub csv_rule : Rule
csv_rule = record (new_rule (codes "FILE")) { required = true; action = Some Set }

-- [--from-line N], an unsigned number of 64 bits
abbrev pub from_line_rule : Rule
from_line_rule = record (new_rule (codes "from-line")) {
  long = Some (codes "from-line");
  value_names = 1;
  parser = Some (parser.Unsigned 0 18446744073709551615);
}

-- [--as-of INSTANT]
abbrev pub as_of_rule : Rule
as_of_rule = record (new_rule (codes "as-of")) {
  long = Some (codes "as-of");
  value_names = 1;
  action = Some Set;
}

-- [--all]
abbrev pub all_rule : Rule
all_rule = record (new_rule (codes "all")) {
  long = Some (codes "all");
  action = Some SetTrue;
}

-- new --nodes N --schema FILE DIR
abbrev pub new_app_words : App
new_app_words = with_rule (with_rule (with_rule (new_app (codes "new")) nodes_rule) schema_rule) dir_rule

-- open [--sync YESNO] [--clock T] [--format FORM] DIR [FILE]
abbrev pub open_app : App
open_app = with_rule (with_rule (with_rule (with_rule (with_rule (new_app (codes "open")) sync_rule) clock_rule) format_rule) dir_rule) file_rule

-- log DIR
abbrev pub log_app : App
log_app = with_rule (new_app (codes "log")) dir_rule

-- flights DIR OUT
abbrev pub flights_app : App
flights_app = with_rule (with_rule (new_app (codes "flights")) dir_rule) out_rule

-- restore DIR
abbrev pub restore_app : App
restore_app = with_rule (new_app (codes "restore")) dir_rule

-- import [--from-line N] DIR TABLE FILE
abbrev pub import_app : App
import_app = with_rule (with_rule (with_rule (with_rule (new_app (codes "import")) from_line_rule) dir_rule) table_rule) csv_rule

-- export [--as-of INSTANT] [--all] DIR TABLE
abbrev pub export_app : App
export_app = with_rule (with_rule (with_rule (with_rule (new_app (codes "export")) as_of_rule) all_rule) dir_rule) table_rule

-- a program with the commands over a store's folder, as its last
abbrev pub with_store_commands : App → App
with_store_commands app = with_subcommand (with_subcommand (with_subcommand (with_subcommand (with_subcommand (with_subcommand (with_subcommand app new_app_words.top) open_app.top) import_app.top) export_app.top) log_app.top) flights_app.top) restore_app.top

-- the matches give `--clock` this value: none where it is not used, else the number that it was given
pub record GivesClock (rows : List Row) (clock : Option ℕ) : Type 0 where
  pub unused : one_of (codes "clock") rows ≡ None → clock ≡ None
  pub some : IfSome clock (GivesNumber (codes "clock") rows)
  pub each : (n : ℕ) → n < 2 ^ 64 → GivesNumber (codes "clock") rows n → clock ≡ Some n

-- the word of `--sync`, or none, says whether journals are synced
abbrev pub GivesSync : Option Text → Bool → Type 0
GivesSync None syncs = syncs ≡ true
GivesSync (Some word) syncs = ((word ≡ codes "yes") × (syncs ≡ true)) ⊎ ((word ≡ codes "no") × (syncs ≡ false))

-- the word of `--format`, or none, says how answers are shown
abbrev pub GivesForm : Option Text → Option Form → Type 0
GivesForm None form = form ≡ None
GivesForm (Some word) form = (given : Form) × (word ≡ form_text given) × (form ≡ Some given)

-- the matches of `new` give these values
pub record AsksNew (rows : List Row) (made : NewStore) : Type 0 where
  pub nodes : GivesNumber (codes "nodes") rows made.members
  pub schema : Some made.schema.now ≡ first_of (codes "schema") rows
  pub dir : Some made.dir.now ≡ first_of (codes "DIR") rows

-- the matches of `open` give these values
pub record AsksOpen (rows : List Row) (opened : OpenStore) : Type 0 where
  pub dir : Some opened.dir.now ≡ first_of (codes "DIR") rows
  pub script : option_map (λ text. text.now) opened.script ≡ first_of (codes "FILE") rows
  pub sync : GivesSync (first_of (codes "sync") rows) opened.syncs
  pub clock : GivesClock rows opened.clock
  pub format : GivesForm (first_of (codes "format") rows) opened.form

-- the matches of `import` give these values
pub record AsksImport (rows : List Row) (import : ImportRows) : Type 0 where
  pub dir : Some import.dir.now ≡ first_of (codes "DIR") rows
  pub table : Some import.table.now ≡ first_of (codes "TABLE") rows
  pub file : Some import.file.now ≡ first_of (codes "FILE") rows
  pub from : GivesLine (codes "from-line") rows import.from

-- the matches of `export` give these values
pub record AsksExport (rows : List Row) (export : ExportRows) : Type 0 where
  pub dir : Some export.dir.now ≡ first_of (codes "DIR") rows
  pub table : Some export.table.now ≡ first_of (codes "TABLE") rows
  pub as_of : option_map (λ text. text.now) export.as_of ≡ first_of (codes "as-of") rows
  pub all : GivesFlag (codes "all") rows export.is_all

-- What the command of this name, with its matches, asks for. Words alone ask for no audit: `audit` has one name of files and folders.
abbrev pub AsksFor : Text → List Row → Command → Type 0
AsksFor name rows (New made) = (name ≡ codes "new") × AsksNew rows made
AsksFor name rows (Open opened) = (name ≡ codes "open") × AsksOpen rows opened
AsksFor name rows (Import import) = (name ≡ codes "import") × AsksImport rows import
AsksFor name rows (Export export) = (name ≡ codes "export") × AsksExport rows export
AsksFor name rows (Log dir) = (name ≡ codes "log") × (Some dir.now ≡ first_of (codes "DIR") rows)
AsksFor name rows (Flights dir out) = (name ≡ codes "flights") × (Some dir.now ≡ first_of (codes "DIR") rows) × (Some out.now ≡ first_of (codes "OUT") rows)
AsksFor name rows (Restore dir) = (name ≡ codes "restore") × (Some dir.now ≡ first_of (codes "DIR") rows)
AsksFor name rows (Audit dir) = ⊥
