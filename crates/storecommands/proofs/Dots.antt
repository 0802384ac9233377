-- Lemmas on lines that begin with a full stop.
use Rattle.std.proofs.Common.{◌≢◌, ℕ, ◌+◌, ◌*◌, ◌^◌, ◌<◌, List, ◌++◌, get_or, drop, ap, arith}
use Rattle.std.specs.Prelude.{codes, decimal}
use Rattle.std.specs.Fmt.{signed_decimal}
use Rattle.lines.specs.Number.{IsSigned}
use Rattle.lines.specs.Line.{request_text}
use Rattle.lines.specs.Reading.{IsNoRequest}
use Rattle.storecommands.specs.declared.dot.Form.{Form}
use Rattle.storecommands.specs.declared.dot.DotCommand.TheVariants.{Status, Schema, SchemaOf, Help, Quit, Stop, Start, Clock, Format, Beliefs, Submit}
use Rattle.storecommands.specs.Dot.{form_text, IsNoDotCommand}

-- four bytes behind the full stop, as a number
abbrev pub kind : List ℕ → ℕ
kind text = get_or text 1 0 + 256 * (get_or text 2 0 + 256 * (get_or text 3 0 + 256 * get_or text 4 0))

module _ (rest : List ℕ) where
  -- a line that begins with `.stop ` is a stop or none
  pub no_stop : ((n : ℕ) → n < 2 ^ 64 → rest ≢ decimal n) → IsNoDotCommand (codes ".stop " ++ rest)
  no_stop none (Stop n) h e = none n h (ap (drop 6) e)
  no_stop none command h e = absurd (omega (arith, ap kind e))

  pub no_start : ((n : ℕ) → n < 2 ^ 64 → rest ≢ decimal n) → IsNoDotCommand (codes ".start " ++ rest)
  no_start none (Start n) h e = none n h (ap (drop 7) e)
  no_start none command h e = absurd (omega (arith, ap kind e))

  pub no_clock : ((z : _) → IsSigned z → rest ≢ signed_decimal z) → IsNoDotCommand (codes ".clock " ++ rest)
  no_clock none (Clock z) h e = none z h (ap (drop 7) e)
  no_clock none command h e = absurd (omega (arith, ap kind e))

  pub no_format : ((form : Form) → rest ≢ form_text form) → IsNoDotCommand (codes ".format " ++ rest)
  no_format none (Format form) h e = none form (ap (drop 8) e)
  no_format none command h e = absurd (omega (arith, ap kind e))

  pub no_submit : IsNoRequest rest → IsNoDotCommand (codes ".submit " ++ rest)
  no_submit none (Submit client number text) h e = none client number text.now h (ap (drop 8) e)
  no_submit none command h e = absurd (omega (arith, ap kind e))

-- what begins with none of the words
pub no_word : (line : List ℕ) → (line ≢ codes ".status") × (line ≢ codes ".schema") × (line ≢ codes ".help") × (line ≢ codes ".quit")
    → ((rest : List ℕ) → line ≢ codes ".stop " ++ rest) → ((rest : List ℕ) → line ≢ codes ".start " ++ rest) → ((rest : List ℕ) → line ≢ codes ".clock " ++ rest)
    → ((rest : List ℕ) → line ≢ codes ".format " ++ rest) → ((rest : List ℕ) → line ≢ codes ".schema " ++ rest) → ((rest : List ℕ) → line ≢ codes ".beliefs " ++ rest) → ((rest : List ℕ) → line ≢ codes ".submit " ++ rest)
    → IsNoDotCommand line
no_word line alone stop start clock form schema beliefs submit Status h e = alone.0 e
no_word line alone stop start clock form schema beliefs submit Schema h e = alone.1 e
no_word line alone stop start clock form schema beliefs submit (SchemaOf table) h e = schema table.now e
no_word line alone stop start clock form schema beliefs submit Help h e = alone.2 e
no_word line alone stop start clock form schema beliefs submit Quit h e = alone.3 e
no_word line alone stop start clock form schema beliefs submit (Stop n) h e = stop (decimal n) e
no_word line alone stop start clock form schema beliefs submit (Start n) h e = start (decimal n) e
no_word line alone stop start clock form schema beliefs submit (Clock z) h e = clock (signed_decimal z) e
no_word line alone stop start clock form schema beliefs submit (Format f) h e = form (form_text f) e
no_word line alone stop start clock form schema beliefs submit (Beliefs text) h e = beliefs text.now e
no_word line alone stop start clock form schema beliefs submit (Submit c k text) h e = submit (request_text c k text.now) e
