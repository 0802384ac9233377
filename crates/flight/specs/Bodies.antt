-- What stands in the line of each kind of message after its word.
use Rattle.std.specs.Prelude.{ℕ, Bool, Option, List, All, ⊤}
use Rattle.model.specs.declared.message.Body.{Body}
use Rattle.model.specs.declared.message.Body.TheVariants.{RequestVote, Vote, Append, Reply, Seek, Stored, Seal}
use Rattle.flight.specs.declared.flight.Version.{Version}
use Rattle.flight.specs.declared.bodies.Candidacy.{Candidacy}
use Rattle.flight.specs.declared.bodies.Voted.{Voted}
use Rattle.flight.specs.declared.bodies.Appended.{Appended}
use Rattle.flight.specs.declared.bodies.Replied.{Replied}
use Rattle.flight.specs.declared.bodies.Sealing.{Sealing}
use Rattle.flight.specs.Spelling.{spaced, ended, flag_text, ballot_text, entries_text, body_text}
use Rattle.flight.specs.Ranges.{IsNumber, IsStamp, IsEntry, IsFloorIn, IsBody}

abbrev pub candidacy_text : Candidacy → List ℕ → List ℕ
candidacy_text c rest = spaced c.term (spaced c.last_index (ended c.last_term rest))

-- whether a vote is given, and the voter's floor
abbrev pub given_text : Version → Bool × Option ℕ → List ℕ → List ℕ
given_text version b rest = ballot_text version b.0 b.1 rest

abbrev pub voted_text : Version → Voted → List ℕ → List ℕ
voted_text version v rest = spaced v.term (ballot_text version v.given v.floor rest)

abbrev pub appended_text : Appended → List ℕ → List ℕ
appended_text a rest = spaced a.term (spaced a.prev_index (spaced a.prev_term (spaced a.commit (entries_text a.entries rest))))

abbrev pub replied_text : Replied → List ℕ → List ℕ
replied_text r rest = spaced r.term (flag_text 32 r.ok (ended r.matched rest))

-- of a message of floors: its term, the index of an entry and a floor
abbrev pub sealing_text : Sealing → List ℕ → List ℕ
sealing_text r rest = spaced r.term (spaced r.index (ended r.floor rest))

-- a term, and what a message of it says
abbrev pub said_text : Version → ℕ × Body → List ℕ → List ℕ
said_text version said rest = body_text version said.0 said.1 rest

abbrev pub IsCandidacy : Candidacy → Type 0
IsCandidacy c = IsNumber c.term × IsNumber c.last_index × IsNumber c.last_term

abbrev pub IsGiven : Version → Bool × Option ℕ → Type 0
IsGiven version b = IsFloorIn version b.1

abbrev pub IsVoted : Version → Voted → Type 0
IsVoted version v = IsNumber v.term × IsFloorIn version v.floor

abbrev pub IsAppended : Appended → Type 0
IsAppended a = IsNumber a.term × IsNumber a.prev_index × IsNumber a.prev_term × IsNumber a.commit × All IsEntry a.entries

abbrev pub IsReplied : Replied → Type 0
IsReplied r = IsNumber r.term × IsNumber r.matched

abbrev pub IsSealing : Sealing → Type 0
IsSealing r = IsNumber r.term × IsNumber r.index × IsStamp r.floor

abbrev pub IsSaid : Version → ℕ × Body → Type 0
IsSaid version said = IsNumber said.0 × IsBody version said.1

-- one of the messages by which a floor is stored and sealed
abbrev pub IsOfSealing : Body → Type 0
IsOfSealing (RequestVote last_index last_term) = ⊥
IsOfSealing (Vote given floor) = ⊥
IsOfSealing (Append prev_index prev_term entries commit) = ⊥
IsOfSealing (Reply ok matched) = ⊥
IsOfSealing (Seek index floor) = ⊤
IsOfSealing (Stored index floor) = ⊤
IsOfSealing (Seal index floor) = ⊤

abbrev pub IsSaidOfSealing : Version → ℕ × Body → Type 0
IsSaidOfSealing version said = IsSaid version said × IsOfSealing said.1
