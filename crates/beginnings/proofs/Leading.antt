-- What a value is spelled with stands before what follows it.
use Rattle.std.proofs.Common.{◌≡◌, ◌∙◌, ℕ, ℤ, List, [], ◌∷◌, ◌++◌, refl, sym, ap, append_assoc, append-nil, Option, None, Some, Bool}
use Rattle.std.specs.Prelude.{codes, decimal, length}
use Rattle.std.specs.Fmt.{signed_decimal}
use Rattle.model.specs.declared.entry.Entry.{Entry}
use Rattle.model.specs.declared.entry.Request.{Request}
use Rattle.model.specs.declared.message.Body.{Body}
use Rattle.model.specs.declared.message.Body.TheVariants.{RequestVote, Vote, Append, Reply, Seek, Stored, Seal}
use Rattle.model.specs.declared.message.Input.TheVariants as input
use Rattle.flight.specs.declared.life.Packet.{Packet}
use Rattle.flight.specs.declared.life.Packet.TheVariants.{Local, Delivered}
use Rattle.flight.specs.declared.life.Step.{Step}
use Rattle.flight.specs.declared.life.Ending.{Ending}
use Rattle.flight.specs.declared.life.Ending.TheVariants.{Up, Stopped, Torn}
use Rattle.flight.specs.declared.outcome.Outcome.{Outcome}
use Rattle.flight.specs.declared.flight.Version.{Version}
use Rattle.flight.specs.declared.flight.Version.TheVariants.{One, Two, Three}
use Rattle.flight.specs.declared.flight.Answered.{Answered}
use Rattle.flight.specs.Contents.{OpeningContents, LifeContents}
use Rattle.flight.specs.Spelling.{number_text, signed_text, floor_number, floor_text, flag_number, flag_text, vote_number, vote_text, block_text, each_text, request_text, asked_text, entry_text, entries_text, ballot_text, body_text, packet_text, made_text, outcome_text, outcomes_text, step_text, ending_text, opening_floor_text, opening_text, life_text, answer_text, version_number, version_text, head_text}

pub record Leads (spell : List ℕ → List ℕ) : Type 0 where
  pub behind : (rest : List ℕ) → spell rest ≡ spell [] ++ rest

-- one after the other
pub chained : {a b : List ℕ → List ℕ} → Leads a → Leads b → Leads (λ rest. a (b rest))
chained {a} {b} first second = record {
  behind = λ rest.
      first.behind (b rest) ∙ (ap (λ l. a [] ++ l) (second.behind rest) ∙ (sym (append_assoc (a []) (b []) rest) ∙ ap (λ l. l ++ rest) (sym (first.behind (b [])))));
}

pub word : (w : List ℕ) → Leads (λ rest. w ++ rest)
word w = record { behind = λ rest. ap (λ l. l ++ rest) (sym (append-nil w)) }

-- a word and the byte that ends it
marked : (w : List ℕ) (end : ℕ) → Leads (λ rest. w ++ end ∷ rest)
marked w end = record { behind = λ rest. sym (append_assoc w (end ∷ []) rest) }

pub number : (end n : ℕ) → Leads (number_text end n)
number end n = marked (decimal n) end

signed : (end : ℕ) (z : ℤ) → Leads (signed_text end z)
signed end z = marked (signed_decimal z) end

pub block : (bytes : List ℕ) → Leads (block_text bytes)
block bytes = chained (number 10 (length bytes)) (marked bytes 10)

nothing : Leads (λ rest. rest)
nothing = record { behind = λ rest. refl }

pub each : {A : Type 0} (spell : A → List ℕ → List ℕ) → ((x : A) → Leads (spell x)) → (xs : List A) → Leads (each_text spell xs)
each spell one [] = nothing
each spell one (x ∷ xs) = chained (one x) (each spell one xs)

request : (r : Request) → Leads (request_text r)
request r = chained (number 32 r.client) (chained (number 32 r.number) (block r.text))

asked : (o : Option Request) → Leads (asked_text o)
asked None = word (codes "close\n")
asked (Some r) = request r

entry : (e : Entry) → Leads (entry_text e)
entry e = chained (word (codes "entry ")) (chained (number 32 e.term) (chained (number 32 e.stamp) (asked e.request)))

entries : (es : List Entry) → Leads (entries_text es)
entries es = chained (number 10 (length es)) (each entry_text entry es)

ballot : (v : Version) (given : Bool) (floor : Option ℕ) → Leads (ballot_text v given floor)
ballot One given floor = number 10 (flag_number given)
ballot Two given floor = number 10 (flag_number given)
ballot Three given floor = chained (number 32 (flag_number given)) (signed 10 (floor_number floor))

sealing : (w : List ℕ) (term index floor : ℕ) → Leads (λ rest. w ++ number_text 32 term (number_text 32 index (number_text 10 floor rest)))
sealing w term index floor = chained (word w) (chained (number 32 term) (chained (number 32 index) (number 10 floor)))

said : (v : Version) (term : ℕ) (b : Body) → Leads (body_text v term b)
said v term (RequestVote index last) = sealing (codes "votereq ") term index last
said v term (Vote given floor) = chained (word (codes "vote ")) (chained (number 32 term) (ballot v given floor))
said v term (Append index before es commit) =
    chained (word (codes "append ")) (chained (number 32 term) (chained (number 32 index) (chained (number 32 before) (chained (number 32 commit) (entries es)))))
said v term (Reply ok matched) = sealing (codes "reply ") term (flag_number ok) matched
said v term (Seek index floor) = sealing (codes "seek ") term index floor
said v term (Stored index floor) = sealing (codes "stored ") term index floor
said v term (Seal index floor) = sealing (codes "seal ") term index floor

packet : (v : Version) (p : Packet) → Leads (packet_text v p)
packet v (Local input.Timeout) = word (codes "timeout\n")
packet v (Local input.Beat) = word (codes "beat\n")
packet v (Local (input.Close reading)) = word (codes "close\n")
packet v (Local (input.Floor reading)) = word (codes "floor\n")
packet v (Local (input.Submit reading r)) = chained (word (codes "submit ")) (request r)
packet v (Delivered mark reading m) = chained (word (codes "from ")) (chained (number 32 m.sender) (chained (number 32 mark) (said v m.term m.body)))

made : (v : Version) (s : Step) → Leads (made_text v s)
made v s = chained (number 32 s.mark) (chained (signed 32 s.reading) (packet v s.packet))

outcome : (o : Outcome) → Leads (outcome_text o)
outcome o = chained (word (codes "outcome ")) (chained (number 32 o.index) (chained (number 32 o.client) (chained (number 10 o.number) (chained (word (codes "text ")) (block o.text)))))

outcomes : (v : Version) (os : List Outcome) → Leads (outcomes_text v os)
outcomes One os = nothing
outcomes Two os = each outcome_text outcome os
outcomes Three os = each outcome_text outcome os

step : (v : Version) (s : Step) → Leads (step_text v s)
step v s = chained (word (codes "step ")) (chained (made v s) (outcomes v s.outcomes))

pub steps : (v : Version) (ss : List Step) → Leads (each_text (step_text v) ss)
steps v ss = each (step_text v) (step v) ss

pub ending : (v : Version) (e : Ending) → Leads (ending_text v e)
ending v Up = word (codes "up\n")
ending v Stopped = word (codes "stopped\n")
ending v (Torn s) = chained (word (codes "torn ")) (made v s)

opening_floor : (v : Version) (floor : Option ℕ) → Leads (opening_floor_text v floor)
opening_floor One floor = nothing
opening_floor Two floor = nothing
opening_floor Three floor = signed 32 (floor_number floor)

pub opening : (v : Version) (o : OpeningContents) → Leads (opening_text v o)
opening v o =
    chained (word (codes "life ")) (chained (number 32 o.mark) (chained (number 32 o.hard.term) (chained (number 32 (vote_number o.hard.vote)) (chained (opening_floor v o.hard.floor) (entries o.entries)))))

pub life : (v : Version) (l : LifeContents) → Leads (life_text v l)
life v l = chained (opening v l.opening) (chained (steps v l.steps) (ending v l.ending))

-- the lines before the lives
abbrev pub heading_text : Version → ℕ → ℕ → List ℕ → List ℕ → List ℕ
heading_text v node members schema rest = version_text v (head_text node members (codes "schema " ++ block_text schema rest))

pub heading : (v : Version) (node members : ℕ) (schema : List ℕ) → Leads (heading_text v node members schema)
heading v node members schema =
    chained (word (codes "bitable flight ")) (chained (number 10 (version_number v)) (chained (word (codes "node ")) (chained (number 32 node) (chained (word (codes "of ")) (chained (number 10 members) (chained (word (codes "schema ")) (block schema)))))))
