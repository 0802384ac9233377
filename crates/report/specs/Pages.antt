-- The last lines of a report for people.
use Rattle.std.specs.Prelude.{ℕ, List, ◌++◌, codes, Option, None, Some}
use Rattle.hex.specs.Hex.{encode_lower}
use Rattle.moments.specs.declared.recorded.AuditFault.{AuditFault}
use Rattle.beginnings.specs.Lines.{line_text}
use Rattle.report.specs.declared.whole.Report.{Report}

abbrev pub verdict_word : Option AuditFault → List ℕ
verdict_word None = codes "yes"
verdict_word (Some fault) = codes "no"

-- the line that is kept for a later audit, and the one that is compared with another audit of the same files
abbrev pub kept_lines : Report → List ℕ
kept_lines r = codes "To keep, and to compare with another audit\n  since " ++ (line_text r.contents.beginnings.items
    ++ (codes "\n  1 " ++ (verdict_word r.fault ++ (codes " " ++ (encode_lower r.seal ++ codes "\n")))))
