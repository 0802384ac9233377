-- The one spelling of a journal's lines. A function spells a value and then what follows it, as in a flight file: each line ends with
-- LF, which is 10, and a space is 32.
use Rattle.std.specs.Prelude.{ℕ, List, ◌∷◌, ◌++◌, codes}
use Rattle.hex.specs.Hex.{encode_lower}
use Rattle.flight.specs.Spelling.{spaced, ended, signed_text, vote_text, floor_text, block_text, each_text, request_text, outcome_text}
use Rattle.journal.specs.declared.stored.Summary.{Summary}
use Rattle.journal.specs.declared.line.Taken.{Taken}
use Rattle.journal.specs.declared.line.Taken.TheVariants.{Timeout, Beat, Close, Floor, Submit, Message}
use Rattle.journal.specs.declared.line.Line.{Line}
use Rattle.journal.specs.declared.line.Line.TheVariants.{Opens, Rests, Life, Clock, Takes, Saves, Made, Ends, Answer, Printed}

-- a digest in hex digits of lower case
abbrev pub digest_text : List ℕ → List ℕ → List ℕ
digest_text digest rest = encode_lower digest ++ 10 ∷ rest

-- what a member has stored, in short
abbrev pub summary_text : Summary → List ℕ → List ℕ
summary_text s rest = spaced s.hard.term (vote_text s.hard.vote (floor_text 32 s.hard.floor (spaced s.length (digest_text s.digest rest))))

-- a word, a member and what it has stored
abbrev pub stored_text : List ℕ → ℕ → Summary → List ℕ → List ℕ
stored_text word member s rest = word ++ spaced member (summary_text s rest)

-- what a member takes
abbrev pub taken_text : Taken → List ℕ → List ℕ
taken_text Timeout rest = codes "timeout\n" ++ rest
taken_text Beat rest = codes "beat\n" ++ rest
taken_text Close rest = codes "close\n" ++ rest
taken_text Floor rest = codes "floor\n" ++ rest
taken_text (Submit request) rest = codes "submit " ++ request_text request rest
taken_text (Message number) rest = codes "message " ++ ended number rest

-- a word and a block
abbrev pub said_text : List ℕ → List ℕ → List ℕ → List ℕ
said_text word said rest = word ++ block_text said rest

-- a line
abbrev pub line_text : Line → List ℕ → List ℕ
line_text (Opens journal sum marks) rest = codes "opens " ++ spaced journal (spaced sum (ended marks rest))
line_text (Rests member stored) rest = stored_text (codes "rests ") member stored rest
line_text (Life member stored) rest = stored_text (codes "life ") member stored rest
line_text (Clock reading) rest = codes "clock " ++ signed_text 10 reading rest
line_text (Takes member taken) rest = codes "takes " ++ spaced member (taken_text taken rest)
line_text (Saves member stored) rest = stored_text (codes "saves ") member stored rest
line_text (Made member outcomes) rest = codes "made " ++ ended member (each_text outcome_text outcomes rest)
line_text (Ends member) rest = codes "ends " ++ ended member rest
line_text (Answer member query answer) rest = codes "answer " ++ ended member (said_text (codes "query ") query (said_text (codes "text ") answer rest))
line_text (Printed client number words) rest = codes "printed " ++ spaced client (ended number (said_text (codes "text ") words rest))
