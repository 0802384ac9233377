-- A report as JSON, in the words of the kit's `json`: the tokens of one object.
use Rattle.std.specs.Prelude.{ℕ, ◌+◌, List, [], ◌∷◌, ◌++◌, map, codes, decimal, slice_get, string_bytes, Option, Some, None, option_map, unwrap_or}
use Rattle.std.specs.List.{flat_map}
use Rattle.std.specs.declared.string.String.{String}
use Rattle.std.specs.declared.alloc.Global.{Global}
use Rattle.beginnings.specs.Lines.{line_text}
use Rattle.hex.specs.Hex.{encode_lower}
use Rattle.json.specs.Token.{Token, begin_array, end_array, key, string, number, null}
use Rattle.period.specs.Instant.{instant_text}
use Rattle.moments.specs.Faults.{refusal_of}
use Rattle.moments.specs.declared.recorded.AuditFault.{AuditFault}
use Rattle.looks.specs.Outcomes.{counts, says, object, refusal_tokens}
use Rattle.report.specs.declared.counts.Counts.{Counts}
use Rattle.report.specs.declared.difference.Difference.{Difference}
use Rattle.report.specs.declared.difference.Differs.{Differs}
use Rattle.report.specs.declared.difference.Differs.TheVariants.{Order, Opening, Up, Message, Outcomes, Answer, Unmarked}
use Rattle.report.specs.declared.digests.Digested.{Digested}
use Rattle.report.specs.declared.earlier.Earlier.{Earlier}
use Rattle.report.specs.declared.settled.Settled.{Settled}
use Rattle.report.specs.declared.whole.Held.{Held}
use Rattle.report.specs.declared.whole.Report.{Report}

-- members of an object: an array, an object, a number or null, a text or null
abbrev pub array_at : List ℕ → List Token → List Token
array_at name tokens = key name ∷ begin_array ∷ (tokens ++ end_array ∷ [])

abbrev pub object_at : List ℕ → List Token → List Token
object_at name tokens = key name ∷ object tokens

abbrev pub number_or_null : Option ℕ → Token
number_or_null None = null
number_or_null (Some n) = number (decimal n)

abbrev pub optional_number : List ℕ → Option ℕ → List Token
optional_number name n = key name ∷ number_or_null n ∷ []

abbrev pub text_or_null : Option (String Global) → Token
text_or_null None = null
text_or_null (Some text) = string (string_bytes text)

abbrev pub optional_text : List ℕ → Option (String Global) → List Token
optional_text name text = key name ∷ text_or_null text ∷ []

-- ---- the verdict, and where it differs

abbrev pub verdict_tokens : Option AuditFault → List Token
verdict_tokens None = says (codes "audit") (codes "yes")
verdict_tokens (Some fault) = says (codes "audit") (codes "no") ++ refusal_tokens (refusal_of fault)

abbrev pub word_of : Differs → List ℕ
word_of Order = codes "order"
word_of Opening = codes "opening"
word_of Up = codes "up"
word_of Message = codes "message"
word_of Outcomes = codes "outcomes"
word_of Answer = codes "answer"
word_of Unmarked = codes "unmarked"

unfoldable pub file_tokens : Difference → List Token
file_tokens d = says (codes "file") (string_bytes d.file) ++ (optional_number (codes "line") (option_map (λ p. p.line) d.place)
    ++ optional_number (codes "byte") (option_map (λ p. p.byte) d.place))

unfoldable pub mark_tokens : Difference → List Token
mark_tokens d = counts (codes "node") d.node ++ (counts (codes "life") d.life ++ counts (codes "mark") d.mark)

unfoldable pub extent_tokens : Difference → List Token
extent_tokens d = says (codes "differs") (word_of d.differs) ++ (counts (codes "lines") d.lines ++ counts (codes "differing") d.differing)

unfoldable pub what_tokens : Difference → List Token
what_tokens d = optional_text (codes "question") d.question ++ (optional_text (codes "recorded") d.recorded ++ optional_text (codes "run") d.given)

unfoldable pub earlier_tokens : Earlier → List Token
earlier_tokens m = object (counts (codes "mark") m.mark ++ (counts (codes "node") m.node ++ (counts (codes "line") m.line ++ says (codes "took") (string_bytes m.words))))

-- nothing on a yes
abbrev pub difference_tokens : Option Difference → List Token
difference_tokens None = []
difference_tokens (Some d) = object_at (codes "difference") (file_tokens d ++ (mark_tokens d ++ (extent_tokens d ++ (what_tokens d ++ array_at (codes "earlier") (flat_map earlier_tokens d.earlier.items)))))

unfoldable pub first_tokens : Report → List Token
first_tokens r = counts (codes "report") 1 ++ (verdict_tokens r.fault ++ difference_tokens r.difference)

-- ---- what was judged

unfoldable pub made_tokens : Counts → List Token
made_tokens c = counts (codes "lives") c.lives ++ (counts (codes "steps") c.steps ++ counts (codes "torn") c.torn)

unfoldable pub told_tokens : Counts → List Token
told_tokens c = counts (codes "taken") c.taken ++ (counts (codes "outcomes") c.outcomes ++ counts (codes "answers") c.answers)

-- the member of this number, with the name and the digest of its file
unfoldable pub member_tokens : ℕ → List ℕ → Held → List Token
member_tokens node name h = object (counts (codes "node") node ++ (says (codes "file") name ++ (counts (codes "bytes") h.file.bytes
    ++ (says (codes "sha256") (encode_lower h.file.digest) ++ (made_tokens h.counts ++ told_tokens h.counts)))))

-- the name of the file at this place
abbrev pub name_at : List (String Global) → ℕ → List ℕ
name_at files place = unwrap_or (option_map string_bytes (slice_get files place)) []

-- the members from this place on
abbrev pub members_tokens : ℕ → List (String Global) → List Held → List Token
members_tokens place files [] = []
members_tokens place files (h ∷ later) = member_tokens (place + 1) (name_at files place) h ++ members_tokens (place + 1) files later

unfoldable pub digested_tokens : List ℕ → Digested → List Token
digested_tokens name d = object_at name (counts (codes "bytes") d.bytes ++ says (codes "sha256") (encode_lower d.digest))

unfoldable pub judged_tokens : Report → List Token
judged_tokens r = array_at (codes "members") (members_tokens 0 r.files.items r.contents.nodes.items) ++ (digested_tokens (codes "schema") r.contents.schema
    ++ array_at (codes "tables") (map (λ name. string (string_bytes name)) r.tables.items))

-- ---- what was decided

abbrev pub instant_token : Option ℕ → Token
instant_token None = null
instant_token (Some stamp) = string (instant_text stamp)

unfoldable pub requests_tokens : Settled → List Token
requests_tokens s = counts (codes "requests") s.requests ++ (counts (codes "accepted") s.accepted ++ counts (codes "refused") s.refused)

abbrev pub stamp_tokens : List ℕ → Option ℕ → List Token
stamp_tokens name stamp = key name ∷ instant_token stamp ∷ []

unfoldable pub settled_tokens : Settled → List Token
settled_tokens s = object_at (codes "decided") (counts (codes "entries") s.entries ++ (requests_tokens s ++ (stamp_tokens (codes "first") s.first
    ++ (stamp_tokens (codes "last") s.last ++ says (codes "sha256") (encode_lower s.log)))))

unfoldable pub answers_tokens : ℕ → List ℕ → List Token
answers_tokens count digest = object_at (codes "answers") (counts (codes "count") count ++ says (codes "sha256") (encode_lower digest))

-- the line that is kept for a later audit, and the seal
unfoldable pub kept_tokens : Report → List Token
kept_tokens r = says (codes "since") (line_text r.contents.beginnings.items) ++ says (codes "seal") (encode_lower r.seal)

unfoldable pub last_tokens : Report → List Token
last_tokens r = settled_tokens r.settled ++ (answers_tokens r.contents.given r.contents.answers ++ kept_tokens r)

-- the whole
unfoldable pub report_tokens : Report → List Token
report_tokens r = object (first_tokens r ++ (judged_tokens r ++ last_tokens r))
