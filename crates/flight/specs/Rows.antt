-- Worked rows of a flight file.
use Rattle.std.specs.Prelude.{◌≡◌, ℕ, List, [], ◌∷◌, ◌++◌, pos, codes, true, false, None, Some, Err}
use Rattle.fault.specs.declared.refusal.Refusal.TheVariants.{Gap}
use Rattle.model.specs.declared.message.Input.TheVariants.{Timeout, Close}
use Rattle.model.specs.declared.message.Body.TheVariants.{Vote, Seek}
use Rattle.flight.specs.declared.life.Packet.TheVariants.{Local, Delivered}
use Rattle.flight.specs.declared.life.Ending.TheVariants.{Up, Torn}
use Rattle.flight.specs.declared.flight.Version.TheVariants.{One, Two, Three}
use Rattle.flight.specs.Contents.{LifeContents}
use Rattle.flight.specs.Lives.{step_of, told_step}
use Rattle.flight.specs.Spelling.{entry_text, step_text, ending_text, flight_text}

-- a life that began with nothing stored, and in which nothing was done
abbrev pub idle : LifeContents
idle = record { opening = record { mark = 1; hard = record { term = 0; vote = None; floor = None }; entries = [] }; steps = []; ending = Up }

-- the file of a node of three that did nothing, but for the text of its schema
abbrev pub NothingDone : Type 0
NothingDone =
    flight_text (record { version = One; node = 2; members = 3; schema = codes "S"; lives = idle ∷ []; answers = [] })
    ≡ codes "bitable flight 1\nnode 2 of 3\nschema 1\nS\nlife 1 0 0 0\nup\nend\n"

-- and in version 2
abbrev pub NothingDoneTwo : Type 0
NothingDoneTwo =
    flight_text (record { version = Two; node = 2; members = 3; schema = codes "S"; lives = idle ∷ []; answers = [] })
    ≡ codes "bitable flight 2\nnode 2 of 3\nschema 1\nS\nlife 1 0 0 0\nup\nend\n"

-- and in version 3, which has a floor in the line of a life
abbrev pub NothingDoneThree : Type 0
NothingDoneThree =
    flight_text (record { version = Three; node = 2; members = 3; schema = codes "S"; lives = idle ∷ []; answers = [] })
    ≡ codes "bitable flight 3\nnode 2 of 3\nschema 1\nS\nlife 1 0 0 -1 0\nup\nend\n"

-- an entry with a request
abbrev pub OneRequest : Type 0
OneRequest = (rest : List ℕ) →
    entry_text (record { term = 1; stamp = 101; request = Some (record { client = 7; number = 1; text = codes "DELETE FROM Dept WHERE DNo=3;" }) }) rest
    ≡ codes "entry 1 101 7 1 29\nDELETE FROM Dept WHERE DNo=3;\n" ++ rest

-- a vote that is given
abbrev pub OneVote : Type 0
OneVote = (rest : List ℕ) →
    step_text One (record { mark = 5; reading = pos 100; packet = Delivered 4 (pos 100) (record { sender = 2; addressee = 1; term = 1; body = Vote true None }); outcomes = [] }) rest
    ≡ codes "step 5 100 from 2 4 vote 1 1\n" ++ rest

-- in version 3 one from a member without a floor, and one from a member with the least that there is
abbrev pub OneVoteThree : Type 0
OneVoteThree = (rest : List ℕ) →
    step_text Three (record { mark = 5; reading = pos 100; packet = Delivered 4 (pos 100) (record { sender = 2; addressee = 1; term = 1; body = Vote true None }); outcomes = [] }) rest
    ≡ codes "step 5 100 from 2 4 vote 1 1 -1\n" ++ rest

abbrev pub OneFloor : Type 0
OneFloor = (rest : List ℕ) →
    step_text Three (record { mark = 5; reading = pos 100; packet = Delivered 4 (pos 100) (record { sender = 2; addressee = 1; term = 1; body = Vote false (Some 0) }); outcomes = [] }) rest
    ≡ codes "step 5 100 from 2 4 vote 1 0 0\n" ++ rest

-- a leader asks that a floor be stored
abbrev pub OneSeek : Type 0
OneSeek = (rest : List ℕ) →
    step_text Three (record { mark = 5; reading = pos 100; packet = Delivered 4 (pos 100) (record { sender = 1; addressee = 2; term = 1; body = Seek 1 500 }); outcomes = [] }) rest
    ≡ codes "step 5 100 from 1 4 seek 1 1 500\n" ++ rest

-- a close that tells of a request that it was refused
abbrev pub OneOutcome : Type 0
OneOutcome = (rest : List ℕ) →
    step_text Two (told_step (record { index = 3; client = 7; number = 9; outcome = Err Gap } ∷ []) (step_of 5 (pos 100) (Local (Close (pos 100))))) rest
    ≡ codes "step 5 100 close\noutcome 3 7 9\ntext 26\nrefused 31 gap in requests\n" ++ rest

-- a timeout that is cut short
abbrev pub OneTear : Type 0
OneTear = (rest : List ℕ) → ending_text Two (Torn (record { mark = 6; reading = pos 0; packet = Local Timeout; outcomes = [] })) rest ≡ codes "torn 6 0 timeout\n" ++ rest
