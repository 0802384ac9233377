-- What a report says.
use Rattle.std.specs.Prelude.{ℕ, Option, Some, None, List, [], ◌∷◌, ◌++◌, codes}
use Rattle.std.specs.List.{flat_map}
use Rattle.fault.specs.Refusal.{shown}
use Rattle.hex.specs.Hex.{encode_lower}
use Rattle.sha2.specs.Sha256.{sha256}
use Rattle.flight.specs.Contents.{FlightContents}
use Rattle.flight.specs.Spelling.{flight_text}
use Rattle.flight.specs.declared.flight.Flight.{Flight}
use Rattle.moments.specs.Faults.{refusal_of}
use Rattle.moments.specs.declared.recorded.AuditFault.{AuditFault}
use Rattle.report.specs.Counts.{counts_of}
use Rattle.report.specs.Digests.{digested}
use Rattle.report.specs.declared.settled.Settled.{Settled}
use Rattle.report.specs.declared.whole.Held.{Held}
use Rattle.report.specs.declared.whole.Contents.{Contents}

-- what a flight has: the digest of its file, and how much there is in it
abbrev pub held_of : FlightContents → Held
held_of f = record { file = digested (flight_text f); counts = counts_of f }

-- the schema of the first flight, which is that of all
abbrev pub schema_in : List Flight → List ℕ
schema_in [] = []
schema_in (f ∷ later) = f.schema

-- the verdict: yes, or the number and the text of a refusal
abbrev pub verdict_text : Option AuditFault → List ℕ
verdict_text None = codes "yes"
verdict_text (Some fault) = shown (refusal_of fault)

-- the digests of files in hex digits, one behind the other
abbrev pub sealed_files : List Held → List ℕ
sealed_files nodes = flat_map (λ n. encode_lower n.file.digest) nodes

-- the digest of all digests, in hex digits, and of the verdict
abbrev pub seal_of : Contents → Settled → Option AuditFault → List ℕ
seal_of c s fault = sha256 (encode_lower c.schema.digest ++ (sealed_files c.nodes.items ++ (encode_lower s.log ++ (encode_lower c.answers ++ verdict_text fault))))
