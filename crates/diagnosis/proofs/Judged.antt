-- A script has no fault exactly where its one reading has no text that is refused.
use Rattle.std.proofs.Common.{◌≡◌, ◌≢◌, ◌↔◌, ◌∙◌, sym, subst, ℕ, List, Bool, false, Option, Some, Ok, Err, ⊎_elim}
use Rattle.std.specs.Prelude.{◌⊎◌, IsTrue, IsFalse}
use Rattle.std.specs.Option.{is_none}
use Rattle.std.specs.Str.{IsUtf8}
use Rattle.std.specs.List.{list_all}
use Rattle.sqlchecks.specs.Columns.{Tables}
use Rattle.lines.specs.declared.line.Line.{Line}
use Rattle.fault.specs.declared.refusal.Refusal.{Refusal}
use Rattle.fault.specs.declared.refusal.Refusal.TheVariants.{NoMemory}
use Rattle.lines.specs.Script.{HasLines, IsScriptFault}
use Rattle.lines.specs.Laws.{OneReading, ReadHasNoFault}
use Rattle.schemaread.specs.Schemas.{SchemaSays}
use Rattle.schemaread.specs.Laws.{SaysOneSchema}
use Rattle.diagnosis.specs.Faultless.{reads, IsFaultless, IsFaultlessScript, IsFaultlessSchema, IsNoScript}
use Rattle.diagnosis.specs.declared.files.Subject.{Subject}
use Rattle.diagnosis.specs.declared.files.Subject.TheVariants.{Script, Schema}

same_reads : (s s' : Tables) (ls ls' : List Line) → s ≡ s' → ls ≡ ls' → list_all (reads s) ls ≡ list_all (reads s') ls'
same_reads s s' ls ls' e f = cc

pub judged : (text : List ℕ) (m : ℕ) (s : Tables) (ls : List Line) (b : Bool) → OneReading → HasLines text m s ls → b ≡ list_all (reads s) ls → IsTrue b ↔ IsFaultlessScript text
judged text m s ls b one has is = (
  (λ t. record { members = m; schema = s; lines = ls; has = has; texts = sym is ∙ t }),
  (λ f. let e = one text f.members m f.schema s f.lines ls f.has has in is ∙ (same_reads s f.schema ls f.lines (sym e.1) (sym e.2) ∙ f.texts)),
)

none : (text : List ℕ) → IsNoScript text → IsTrue false ↔ IsFaultlessScript text
none text is_none = ((λ t. absurd cc), (λ f. absurd (is_none f.members f.schema f.lines f.has)))

no_script : (text : List ℕ) (refusal : Refusal) → ReadHasNoFault → IsScriptFault text refusal → refusal ≢ NoMemory → IsNoScript text
no_script text refusal law fault other members schema lines has = other (law text members schema lines refusal has fault)

no_schema : (text : List ℕ) (refusal : Refusal) → SaysOneSchema → SchemaSays text (Err refusal) → IsTrue false ↔ IsFaultlessSchema text
no_schema text refusal law says = ((λ t. absurd cc), (λ f. absurd (let e = law text (Err refusal) (Ok f.0) says f.1 in cc)))

-- a text that is refused
pub refused_script : (text : List ℕ) (refusal : Refusal) (fault : Option Refusal) → ReadHasNoFault → IsScriptFault text refusal → (fault ≡ Some refusal) × (refusal ≢ NoMemory) → IsTrue (is_none fault) ↔ IsFaultlessScript text
refused_script text refusal fault law is_fault h =
    subst (λ (o : Option Refusal). IsTrue (is_none o) ↔ IsFaultlessScript text) (sym h.0) (none text (no_script text refusal law is_fault h.1))

pub refused_schema : (text : List ℕ) (refusal : Refusal) (fault : Option Refusal) → SaysOneSchema → (refusal ≡ NoMemory) ⊎ SchemaSays text (Err refusal) → (fault ≡ Some refusal) × (refusal ≢ NoMemory) → IsTrue (is_none fault) ↔ IsFaultlessSchema text
refused_schema text refusal fault law says h =
    subst (λ (o : Option Refusal). IsTrue (is_none o) ↔ IsFaultlessSchema text) (sym h.0) (⊎_elim (λ e. absurd (h.1 e)) (no_schema text refusal law) says)

-- a text has what bytes need besides
with_utf8 : (U P : Type 0) (b : Bool) → U → IsTrue b ↔ P → IsTrue b ↔ (U × P)
with_utf8 U P b utf8 is = ((λ t. (utf8, is.0 t)), (λ p. is.1 p.1))

pub no_text : (subject : Subject) (bytes : List ℕ) (b : Bool) → ¬ IsUtf8 bytes → IsFalse b → IsTrue b ↔ IsFaultless subject bytes
no_text Script bytes b is_none is_off = ((λ t. absurd cc), (λ f. absurd (is_none f.0)))
no_text Schema bytes b is_none is_off = ((λ t. absurd cc), (λ f. absurd (is_none f.0)))

pub of_script : (subject : Subject) (text : List ℕ) (b : Bool) → subject ≡ Script → IsUtf8 text → IsTrue b ↔ IsFaultlessScript text → IsTrue b ↔ IsFaultless subject text
of_script Script text b e utf8 is = with_utf8 (IsUtf8 text) (IsFaultlessScript text) b utf8 is
of_script Schema text b e utf8 is = absurd cc

pub of_schema : (subject : Subject) (text : List ℕ) (b : Bool) → subject ≡ Schema → IsUtf8 text → IsTrue b ↔ IsFaultlessSchema text → IsTrue b ↔ IsFaultless subject text
of_schema Script text b e utf8 is = absurd cc
of_schema Schema text b e utf8 is = with_utf8 (IsUtf8 text) (IsFaultlessSchema text) b utf8 is
