-- What a value is spelled with stands before what follows it, so that a text is longer than what is left of it.
use Rattle.std.proofs.Common.{ℕ, ℤ, ◌+◌, ◌≤◌, ◌<◌, Bool, List, [], ◌∷◌, ◌++◌, length, arith, Option, None, Some, length-append}
use Rattle.std.specs.Prelude.{codes, decimal}
use Rattle.std.specs.Fmt.{signed_decimal}
use Rattle.model.specs.declared.entry.Entry.{Entry}
use Rattle.model.specs.declared.entry.Request.{Request}
use Rattle.model.specs.declared.message.Body.{Body}
use Rattle.model.specs.declared.message.Body.TheVariants.{RequestVote, Vote, Append, Reply, Seek, Stored, Seal}
use Rattle.model.specs.declared.message.Input.TheVariants as input
use Rattle.flight.specs.declared.life.Packet.{Packet}
use Rattle.flight.specs.declared.life.Packet.TheVariants.{Local, Delivered}
use Rattle.flight.specs.declared.life.Step.{Step}
use Rattle.flight.specs.declared.life.Ending.{Ending}
use Rattle.flight.specs.declared.life.Ending.TheVariants.{Up, Stopped, Torn}
use Rattle.flight.specs.declared.outcome.Outcome.{Outcome}
use Rattle.flight.specs.declared.flight.Version.{Version}
use Rattle.flight.specs.declared.flight.Version.TheVariants.{One, Two, Three}
use Rattle.flight.specs.declared.flight.Answered.{Answered}
use Rattle.flight.specs.Contents.{OpeningContents, LifeContents}
use Rattle.flight.specs.Spelling.{number_text, spaced, ended, signed_text, floor_number, floor_text, flag_number, flag_text, vote_number, vote_text, block_text, each_text, request_text, asked_text, entry_text, entries_text, ballot_text, body_text, message_text, packet_text, made_text, outcome_text, outcomes_text, step_text, ending_text, opening_floor_text, opening_text, life_text, answer_text}

after_word : (word rest : List ℕ) → length rest ≤ length (word ++ rest)
after_word word rest = omega (arith, length-append word rest)

pub after_number : (end n : ℕ) (rest : List ℕ) → length rest < length (number_text end n rest)
after_number end n rest = omega (arith, after_word (decimal n) (end ∷ rest))

pub after_block : (bytes rest : List ℕ) → length rest < length (block_text bytes rest)
after_block bytes rest = omega (arith, after_word bytes (10 ∷ rest), after_number 10 (length bytes) (bytes ++ 10 ∷ rest))

after_request : (r : Request) (rest : List ℕ) → length rest < length (request_text r rest)
after_request r rest = omega (arith, after_block r.text rest, after_number 32 r.number (block_text r.text rest), after_number 32 r.client (number_text 32 r.number (block_text r.text rest)))

after_asked : (o : Option Request) (rest : List ℕ) → length rest < length (asked_text o rest)
after_asked None rest = omega arith
after_asked (Some r) rest = after_request r rest

after_entry : (e : Entry) (rest : List ℕ) → length rest < length (entry_text e rest)
after_entry e rest =
    let asked = after_asked e.request rest in
    let stamp = after_number 32 e.stamp (asked_text e.request rest) in
    let term = after_number 32 e.term (number_text 32 e.stamp (asked_text e.request rest)) in
    let word = after_word (codes "entry ") (number_text 32 e.term (number_text 32 e.stamp (asked_text e.request rest))) in
    omega (arith, asked, stamp, term, word)

-- a text has more bytes than the entries that it spells
pub after_entries : (es : List Entry) (rest : List ℕ) → length es + length rest ≤ length (each_text entry_text es rest)
after_entries [] rest = omega arith
after_entries (e ∷ es) rest =
    let later = after_entries es rest in
    let first = after_entry e (each_text entry_text es rest) in
    omega (arith, later, first)

after_counted : (es : List Entry) (rest : List ℕ) → length rest < length (entries_text es rest)
after_counted es rest = omega (arith, after_entries es rest, after_number 10 (length es) (each_text entry_text es rest))

after_flag : (end : ℕ) (flag : Bool) (rest : List ℕ) → length rest < length (flag_text end flag rest)
after_flag end flag rest = after_number end (flag_number flag) rest

after_signed : (end : ℕ) (z : ℤ) (rest : List ℕ) → length rest < length (signed_text end z rest)
after_signed end z rest = omega (arith, after_word (signed_decimal z) (end ∷ rest))

after_floor : (end : ℕ) (floor : Option ℕ) (rest : List ℕ) → length rest < length (floor_text end floor rest)
after_floor end floor rest = after_signed end (floor_number floor) rest

after_ballot : (v : Version) (given : Bool) (floor : Option ℕ) (rest : List ℕ) → length rest < length (ballot_text v given floor rest)
after_ballot One given floor rest = after_flag 10 given rest
after_ballot Two given floor rest = after_flag 10 given rest
after_ballot Three given floor rest = omega (arith, after_floor 10 floor rest, after_flag 32 given (floor_text 10 floor rest))

after_sealing : (t i f : ℕ) (rest : List ℕ) → length rest < length (spaced t (spaced i (ended f rest)))
after_sealing t i f rest = omega (arith, after_number 10 f rest, after_number 32 i (ended f rest), after_number 32 t (spaced i (ended f rest)))

after_body : (v : Version) (t : ℕ) (b : Body) (rest : List ℕ) → length rest < length (body_text v t b rest)
after_body v t (RequestVote i u) rest =
    omega (arith, after_number 10 u rest, after_number 32 i (ended u rest), after_number 32 t (spaced i (ended u rest)), after_word (codes "votereq ") (spaced t (spaced i (ended u rest))))
after_body v t (Vote g f) rest =
    omega (arith, after_ballot v g f rest, after_number 32 t (ballot_text v g f rest), after_word (codes "vote ") (spaced t (ballot_text v g f rest)))
after_body v t (Append i u es k) rest =
    omega (
      arith,
      after_counted es rest,
      after_number 32 k (entries_text es rest),
      after_number 32 u (spaced k (entries_text es rest)),
      after_number 32 i (spaced u (spaced k (entries_text es rest))),
      after_number 32 t (spaced i (spaced u (spaced k (entries_text es rest)))),
      after_word (codes "append ") (spaced t (spaced i (spaced u (spaced k (entries_text es rest))))),
    )
after_body v t (Reply ok m) rest =
    omega (arith, after_number 10 m rest, after_flag 32 ok (ended m rest), after_number 32 t (flag_text 32 ok (ended m rest)), after_word (codes "reply ") (spaced t (flag_text 32 ok (ended m rest))))
after_body v t (Seek i f) rest = omega (arith, after_sealing t i f rest, after_word (codes "seek ") (spaced t (spaced i (ended f rest))))
after_body v t (Stored i f) rest = omega (arith, after_sealing t i f rest, after_word (codes "stored ") (spaced t (spaced i (ended f rest))))
after_body v t (Seal i f) rest = omega (arith, after_sealing t i f rest, after_word (codes "seal ") (spaced t (spaced i (ended f rest))))

after_packet : (v : Version) (p : Packet) (rest : List ℕ) → length rest < length (packet_text v p rest)
after_packet v (Local input.Timeout) rest = omega arith
after_packet v (Local input.Beat) rest = omega arith
after_packet v (Local (input.Close reading)) rest = omega arith
after_packet v (Local (input.Floor reading)) rest = omega arith
after_packet v (Local (input.Submit reading request)) rest = omega (arith, after_request request rest, after_word (codes "submit ") (request_text request rest))
after_packet v (Delivered mark reading m) rest =
    omega (arith, after_body v m.term m.body rest, after_number 32 mark (body_text v m.term m.body rest), after_number 32 m.sender (spaced mark (body_text v m.term m.body rest)), after_word (codes "from ") (message_text v mark m rest))

after_made : (v : Version) (s : Step) (rest : List ℕ) → length rest < length (made_text v s rest)
after_made v s rest =
    omega (arith, after_packet v s.packet rest, after_signed 32 s.reading (packet_text v s.packet rest), after_number 32 s.mark (signed_text 32 s.reading (packet_text v s.packet rest)))

pub after_outcome : (o : Outcome) (rest : List ℕ) → length rest < length (outcome_text o rest)
after_outcome o rest =
    let words = codes "text " ++ block_text o.text rest in
    omega (
      arith,
      after_block o.text rest,
      after_word (codes "text ") (block_text o.text rest),
      after_number 10 o.number words,
      after_number 32 o.client (ended o.number words),
      after_number 32 o.index (spaced o.client (ended o.number words)),
      after_word (codes "outcome ") (spaced o.index (spaced o.client (ended o.number words))),
    )

after_each_outcome : (os : List Outcome) (rest : List ℕ) → length rest ≤ length (each_text outcome_text os rest)
after_each_outcome [] rest = omega arith
after_each_outcome (o ∷ os) rest = omega (arith, after_each_outcome os rest, after_outcome o (each_text outcome_text os rest))

after_outcomes : (v : Version) (os : List Outcome) (rest : List ℕ) → length rest ≤ length (outcomes_text v os rest)
after_outcomes One os rest = omega arith
after_outcomes Two os rest = after_each_outcome os rest
after_outcomes Three os rest = after_each_outcome os rest

pub after_step : (v : Version) (s : Step) (rest : List ℕ) → length rest < length (step_text v s rest)
after_step v s rest =
    let told = outcomes_text v s.outcomes rest in
    omega (arith, after_outcomes v s.outcomes rest, after_made v s told, after_word (codes "step ") (made_text v s told))

after_ending : (v : Version) (e : Ending) (rest : List ℕ) → length rest < length (ending_text v e rest)
after_ending v Up rest = omega arith
after_ending v Stopped rest = omega arith
after_ending v (Torn s) rest = omega (arith, after_made v s rest, after_word (codes "torn ") (made_text v s rest))

after_steps : (v : Version) (steps : List Step) (rest : List ℕ) → length rest ≤ length (each_text (step_text v) steps rest)
after_steps v [] rest = omega arith
after_steps v (s ∷ steps) rest = omega (arith, after_steps v steps rest, after_step v s (each_text (step_text v) steps rest))

after_opening_floor : (v : Version) (floor : Option ℕ) (rest : List ℕ) → length rest ≤ length (opening_floor_text v floor rest)
after_opening_floor One floor rest = omega arith
after_opening_floor Two floor rest = omega arith
after_opening_floor Three floor rest = omega (arith, after_floor 32 floor rest)

after_opening : (v : Version) (o : OpeningContents) (rest : List ℕ) → length rest < length (opening_text v o rest)
after_opening v o rest =
    let entries = entries_text o.entries rest in
    let floor = opening_floor_text v o.hard.floor entries in
    omega (
      arith,
      after_counted o.entries rest,
      after_opening_floor v o.hard.floor entries,
      after_number 32 (vote_number o.hard.vote) floor,
      after_number 32 o.hard.term (vote_text o.hard.vote floor),
      after_number 32 o.mark (spaced o.hard.term (vote_text o.hard.vote floor)),
      after_word (codes "life ") (spaced o.mark (spaced o.hard.term (vote_text o.hard.vote floor))),
    )

pub after_life : (v : Version) (l : LifeContents) (rest : List ℕ) → length rest < length (life_text v l rest)
after_life v l rest =
    let ending = ending_text v l.ending rest in
    omega (arith, after_ending v l.ending rest, after_steps v l.steps ending, after_opening v l.opening (each_text (step_text v) l.steps ending))

pub after_answer : (a : Answered) (rest : List ℕ) → length rest < length (answer_text a rest)
after_answer a rest =
    let answer = codes "text " ++ block_text a.answer rest in
    let query = codes "query " ++ block_text a.query answer in
    omega (
      arith,
      after_block a.answer rest,
      after_word (codes "text ") (block_text a.answer rest),
      after_block a.query answer,
      after_word (codes "query ") (block_text a.query answer),
      after_number 10 a.mark query,
      after_word (codes "answer ") (ended a.mark query),
    )
