-- The command lines of the program, in the words of `clap`'s own definitions: what its arguments and subcommands are, and what a
-- command line asks for.
use Rattle.std.specs.Prelude.{◌≡◌, ◌<◌, ◌^◌, ◌∷◌, ⊤, List, [], Option, Some, None, pos, codes, map, option_map, true, false}
use Rattle.clap.specs.Lexer.{usize_max}
use Rattle.clap.specs.Walk.{Row, Rule, Text, all_of, first_of}
use Rattle.clap.specs.Simple.{App, new_app, new_rule, on_top, with_rule, with_subcommand}
use Rattle.clap.specs.declared.builder.action.ArgAction.TheVariants.{Set, SetTrue, Append}
use Rattle.clap.specs.declared.builder.value_parser.ValueParser.TheVariants as parser
use Rattle.storecommands.specs.CommandLine.{AsksFor as AsksForStore, with_store_commands}
use Rattle.storecommands.specs.Given.{GivesFlag, GivesLine, GivesNumber}
use Rattle.shell.specs.declared.command.Command.{Command}
use Rattle.shell.specs.declared.command.Command.TheVariants.{PlayInput, Sim, Beliefs, Lanes, Live, Audit, Check, Store}
use Rattle.shell.specs.declared.command.Audit.{Audit as AuditValues}
use Rattle.shell.specs.declared.command.Sim.{Sim as SimValues}
use Rattle.shell.specs.declared.command.Beliefs.{Beliefs as BeliefsValues}
use Rattle.shell.specs.declared.command.Lanes.{Lanes as LanesValues}
use Rattle.shell.specs.declared.command.Live.{Live as LiveValues}
use Rattle.shell.specs.declared.command.Check.{Check as CheckValues}

-- SCRIPT
abbrev pub script_rule : Rule
script_rule = record (new_rule (codes "SCRIPT")) { required = true; action = Some Set }

-- --nodes N, 3 to 7
abbrev pub nodes_rule : Rule
nodes_rule = record (new_rule (codes "nodes")) {
  long = Some (codes "nodes");
  value_names = 1;
  required = true;
  parser = Some (parser.Signed (pos 3) (pos 7));
}

-- --seed S, an unsigned number of 64 bits
abbrev pub seed_rule : Rule
seed_rule = record (new_rule (codes "seed")) {
  long = Some (codes "seed");
  value_names = 1;
  required = true;
  parser = Some (parser.Unsigned 0 18446744073709551615);
}

-- --loss P, 0 to 100
abbrev pub loss_rule : Rule
loss_rule = record (new_rule (codes "loss")) {
  long = Some (codes "loss");
  value_names = 1;
  required = true;
  parser = Some (parser.Signed (pos 0) (pos 100));
}

-- [--dir DIR], not empty
abbrev pub dir_rule : Rule
dir_rule = record (new_rule (codes "dir")) {
  long = Some (codes "dir");
  value_names = 1;
  action = Some Set;
  parser = Some parser.NonEmptyString;
}

-- [--schema]
abbrev pub schema_rule : Rule
schema_rule = record (new_rule (codes "schema")) {
  long = Some (codes "schema");
  action = Some SetTrue;
}

-- FILE
abbrev pub file_rule : Rule
file_rule = record (new_rule (codes "FILE")) { required = true; action = Some Set }

-- [--report]
abbrev pub report_rule : Rule
report_rule = record (new_rule (codes "report")) {
  long = Some (codes "report");
  action = Some SetTrue;
}

-- [--json]
abbrev pub json_rule : Rule
json_rule = record (new_rule (codes "json")) {
  long = Some (codes "json");
  action = Some SetTrue;
}

-- [--since LINE], not empty
abbrev pub since_rule : Rule
since_rule = record (new_rule (codes "since")) {
  long = Some (codes "since");
  value_names = 1;
  action = Some Set;
  parser = Some parser.NonEmptyString;
}

-- FILE.., one or more
abbrev pub files_rule : Rule
files_rule = record (new_rule (codes "FILE")) {
  required = true;
  range = Some (record { start_inclusive = 1; end_inclusive = usize_max });
  action = Some Append;
}

-- [--format FORM]
abbrev pub format_rule : Rule
format_rule = record (new_rule (codes "format")) {
  long = Some (codes "format");
  value_names = 1;
  action = Some Set;
}

-- [--quiet]
abbrev pub quiet_rule : Rule
quiet_rule = record (new_rule (codes "quiet")) {
  long = Some (codes "quiet");
  action = Some SetTrue;
}

-- [--strict]
abbrev pub strict_rule : Rule
strict_rule = record (new_rule (codes "strict")) {
  long = Some (codes "strict");
  action = Some SetTrue;
}

-- [QUERY], not empty
abbrev pub query_rule : Rule
query_rule = record (new_rule (codes "QUERY")) {
  action = Some Set;
  parser = Some parser.NonEmptyString;
}

-- [--svg FILE], not empty
abbrev pub svg_rule : Rule
svg_rule = record (new_rule (codes "svg")) {
  long = Some (codes "svg");
  value_names = 1;
  action = Some Set;
  parser = Some parser.NonEmptyString;
}

-- [--from LINE], an unsigned number of 64 bits
abbrev pub from_rule : Rule
from_rule = record (new_rule (codes "from")) {
  long = Some (codes "from");
  value_names = 1;
  parser = Some (parser.Unsigned 0 18446744073709551615);
}

-- [--to LINE], an unsigned number of 64 bits
abbrev pub to_rule : Rule
to_rule = record (new_rule (codes "to")) {
  long = Some (codes "to");
  value_names = 1;
  parser = Some (parser.Unsigned 0 18446744073709551615);
}

-- sim [--format FORM] [--quiet] [--strict] SCRIPT
abbrev pub sim_app : App
sim_app = with_rule (with_rule (with_rule (with_rule (new_app (codes "sim")) format_rule) quiet_rule) strict_rule) script_rule

-- beliefs [--svg FILE] SCRIPT [QUERY]
abbrev pub beliefs_app : App
beliefs_app = with_rule (with_rule (with_rule (new_app (codes "beliefs")) svg_rule) script_rule) query_rule

-- lanes [--svg FILE] [--from LINE] [--to LINE] SCRIPT
abbrev pub lanes_app : App
lanes_app = with_rule (with_rule (with_rule (with_rule (new_app (codes "lanes")) svg_rule) from_rule) to_rule) script_rule

-- live --nodes N --seed S --loss P [--dir DIR] [--format FORM] SCRIPT
abbrev pub live_app : App
live_app = with_rule (with_rule (with_rule (with_rule (with_rule (with_rule (new_app (codes "live")) nodes_rule) seed_rule) loss_rule) dir_rule) format_rule) script_rule

-- audit [--report] [--json] [--since LINE] FILE..
abbrev pub audit_app : App
audit_app = with_rule (with_rule (with_rule (with_rule (new_app (codes "audit")) report_rule) json_rule) since_rule) files_rule

-- check [--schema] FILE
abbrev pub check_app : App
check_app = with_rule (with_rule (new_app (codes "check")) schema_rule) file_rule

-- a command that tells its version
abbrev pub versioned : App → App
versioned app = on_top (λ top. record top { has_version = true }) app

-- the whole command line: first what is done with a store
abbrev pub bitable_app : App
bitable_app = with_subcommand (with_subcommand (with_subcommand (with_subcommand (with_subcommand (with_subcommand (with_store_commands (versioned (new_app (codes "bitable")))) audit_app.top) sim_app.top) live_app.top) beliefs_app.top) lanes_app.top) check_app.top

-- the matches of `live` give these values
pub record AsksLive (rows : List Row) (live : LiveValues) : Type 0 where
  pub nodes : GivesNumber (codes "nodes") rows live.nodes
  pub seed : GivesNumber (codes "seed") rows live.seed
  pub seed_fits : live.seed < 2 ^ 64
  pub loss : GivesNumber (codes "loss") rows live.loss
  pub dir : option_map (λ text. text.now) live.dir ≡ first_of (codes "dir") rows
  pub format : option_map (λ text. text.now) live.format ≡ first_of (codes "format") rows
  pub script : Some live.script.now ≡ first_of (codes "SCRIPT") rows

-- the matches of `sim` give these values
pub record AsksSim (rows : List Row) (sim : SimValues) : Type 0 where
  pub format : option_map (λ text. text.now) sim.format ≡ first_of (codes "format") rows
  pub quiet : GivesFlag (codes "quiet") rows sim.is_quiet
  pub strict : GivesFlag (codes "strict") rows sim.is_strict
  pub script : Some sim.script.now ≡ first_of (codes "SCRIPT") rows

-- the matches of `beliefs` give these values
pub record AsksBeliefs (rows : List Row) (beliefs : BeliefsValues) : Type 0 where
  pub svg : option_map (λ text. text.now) beliefs.svg ≡ first_of (codes "svg") rows
  pub script : Some beliefs.script.now ≡ first_of (codes "SCRIPT") rows
  pub query : option_map (λ text. text.now) beliefs.query ≡ first_of (codes "QUERY") rows

-- the matches of `lanes` give these values
pub record AsksLanes (rows : List Row) (lanes : LanesValues) : Type 0 where
  pub svg : option_map (λ text. text.now) lanes.svg ≡ first_of (codes "svg") rows
  pub first : GivesLine (codes "from") rows lanes.first
  pub last : GivesLine (codes "to") rows lanes.last
  pub script : Some lanes.script.now ≡ first_of (codes "SCRIPT") rows

-- the matches of `check` give these values
pub record AsksCheck (rows : List Row) (check : CheckValues) : Type 0 where
  pub schema : GivesFlag (codes "schema") rows check.is_schema
  pub file : Some check.file.now ≡ first_of (codes "FILE") rows

-- the matches of `audit` give these values
pub record AsksAudit (rows : List Row) (audit : AuditValues) : Type 0 where
  pub report : GivesFlag (codes "report") rows audit.is_report
  pub json : GivesFlag (codes "json") rows audit.is_json
  pub since : option_map (λ text. text.now) audit.since ≡ first_of (codes "since") rows
  pub files : Some (map (λ text. text.now) audit.files.items) ≡ all_of (codes "FILE") rows

-- nothing but this name is given
abbrev pub IsLoneName : AuditValues → Text → Type 0
IsLoneName audit name = (audit.is_report ≡ false) × (audit.is_json ≡ false) × (audit.since ≡ None) × (map (λ text. text.now) audit.files.items ≡ name ∷ [])

-- What the subcommand that was found, with its matches, asks for: without one, to play the input.
abbrev pub AsksFor : Option (Text × List Row) → Command → Type 0
AsksFor None PlayInput = ⊤
AsksFor None (Sim sim) = ⊥
AsksFor None (Beliefs beliefs) = ⊥
AsksFor None (Lanes lanes) = ⊥
AsksFor None (Live live) = ⊥
AsksFor None (Audit audit) = ⊥
AsksFor None (Check check) = ⊥
AsksFor None (Store command) = ⊥
AsksFor (Some (name, rows)) PlayInput = ⊥
AsksFor (Some (name, rows)) (Sim sim) = (name ≡ codes "sim") × AsksSim rows sim
AsksFor (Some (name, rows)) (Beliefs beliefs) = (name ≡ codes "beliefs") × AsksBeliefs rows beliefs
AsksFor (Some (name, rows)) (Lanes lanes) = (name ≡ codes "lanes") × AsksLanes rows lanes
AsksFor (Some (name, rows)) (Live live) = (name ≡ codes "live") × AsksLive rows live
AsksFor (Some (name, rows)) (Audit audit) = (name ≡ codes "audit") × AsksAudit rows audit
AsksFor (Some (name, rows)) (Check check) = (name ≡ codes "check") × AsksCheck rows check
AsksFor (Some (name, rows)) (Store command) = AsksForStore name rows command

-- the command is over a store's folder
abbrev pub IsOfStore : Command → Type 0
IsOfStore PlayInput = ⊥
IsOfStore (Sim sim) = ⊥
IsOfStore (Beliefs beliefs) = ⊥
IsOfStore (Lanes lanes) = ⊥
IsOfStore (Live live) = ⊥
IsOfStore (Audit audit) = ⊥
IsOfStore (Check check) = ⊥
IsOfStore (Store command) = ⊤
