-- Texts of lines, one after another.
use Rattle.std.proofs.Common.{◌≡◌, ◌≢◌, ◌∙◌, ℕ, ℤ, List, [], ◌∷◌, ◌++◌, refl, sym, ap, append-nil, append_assoc}
use Rattle.std.specs.Prelude.{codes, decimal, length}
use Rattle.std.specs.Fmt.{signed_decimal}
use Rattle.flight.specs.declared.outcome.Outcome.{Outcome}
use Rattle.model.specs.declared.entry.Request.{Request}
use Rattle.flight.specs.Spelling.{number_text, spaced, ended, signed_text, vote_number, vote_text, floor_number, floor_text, block_text, each_text, request_text, outcome_text}
use Rattle.journal.specs.declared.line.Line.{Line}
use Rattle.journal.specs.declared.line.Line.TheVariants.{Opens, Rests, Life, Clock, Takes, Saves, Made, Ends, Answer, Printed}
use Rattle.journal.specs.declared.line.Taken.{Taken}
use Rattle.journal.specs.declared.line.Taken.TheVariants.{Timeout, Beat, Close, Floor, Submit, Message}
use Rattle.journal.specs.declared.stored.Summary.{Summary}
use Rattle.journal.specs.Spelling.{digest_text, summary_text, stored_text, taken_text, said_text, line_text}
use Rattle.store.specs.Writing.{lines_text, with_line}

-- it spells the same before whatever follows
abbrev Leads : (List ℕ → List ℕ) → Type 0
Leads spell = (rest : List ℕ) → spell rest ≡ spell [] ++ rest

both : (one two : List ℕ → List ℕ) → Leads one → Leads two → Leads (λ rest. one (two rest))
both one two a b = λ rest. a (two rest) ∙ ap (λ (x : List ℕ). one [] ++ x) (b rest) ∙ sym (append_assoc (one []) (two []) rest) ∙ ap (λ (x : List ℕ). x ++ rest) (sym (a (two [])))

bytes : (text : List ℕ) → Leads (λ rest. text ++ rest)
bytes text = λ rest. ap (λ (x : List ℕ). x ++ rest) (sym (append-nil text))

ended_by : (text : List ℕ) (end : ℕ) → Leads (λ rest. text ++ end ∷ rest)
ended_by text end = λ rest. sym (append_assoc text (end ∷ []) rest)

number : (end n : ℕ) → Leads (number_text end n)
number end n = ended_by (decimal n) end

signed : (end : ℕ) (z : ℤ) → Leads (signed_text end z)
signed end z = ended_by (signed_decimal z) end

block : (text : List ℕ) → Leads (block_text text)
block text = both (ended (length text)) (λ rest. text ++ 10 ∷ rest) (number 10 (length text)) (ended_by text 10)

said : (word text : List ℕ) → Leads (said_text word text)
said word text = both (λ rest. word ++ rest) (block_text text) (bytes word) (block text)

each : {A : Type 0} (spell : A → List ℕ → List ℕ) → ((x : A) → Leads (spell x)) → (xs : List A) → Leads (each_text spell xs)
each spell is [] = λ rest. refl
each spell is (x ∷ xs) = both (spell x) (each_text spell xs) (is x) (each spell is xs)

request : (r : Request) → Leads (request_text r)
request r = both (spaced r.client) (λ rest. spaced r.number (block_text r.text rest)) (number 32 r.client) (both (spaced r.number) (block_text r.text) (number 32 r.number) (block r.text))

outcome : (o : Outcome) → Leads (outcome_text o)
outcome o =
    let words = said (codes "text ") o.text in
    let numbered = both (ended o.number) (said_text (codes "text ") o.text) (number 10 o.number) words in
    let of_client = both (spaced o.client) (λ rest. ended o.number (said_text (codes "text ") o.text rest)) (number 32 o.client) numbered in
    let at = both (spaced o.index) (λ rest. spaced o.client (ended o.number (said_text (codes "text ") o.text rest))) (number 32 o.index) of_client in
    both (λ rest. codes "outcome " ++ rest) (λ rest. spaced o.index (spaced o.client (ended o.number (said_text (codes "text ") o.text rest)))) (bytes (codes "outcome ")) at

summary : (s : Summary) → Leads (summary_text s)
summary s =
    let digest : Leads (digest_text s.digest) = ended_by _ 10 in
    let long = both (spaced s.length) (digest_text s.digest) (number 32 s.length) digest in
    let floor = both (floor_text 32 s.hard.floor) (λ rest. spaced s.length (digest_text s.digest rest)) (signed 32 (floor_number s.hard.floor)) long in
    let vote = both (vote_text s.hard.vote) (λ rest. floor_text 32 s.hard.floor (spaced s.length (digest_text s.digest rest))) (number 32 (vote_number s.hard.vote)) floor in
    both (spaced s.hard.term) (λ rest. vote_text s.hard.vote (floor_text 32 s.hard.floor (spaced s.length (digest_text s.digest rest)))) (number 32 s.hard.term) vote

stored : (word : List ℕ) (member : ℕ) (s : Summary) → Leads (stored_text word member s)
stored word member s = both (λ rest. word ++ rest) (λ rest. spaced member (summary_text s rest)) (bytes word) (both (spaced member) (summary_text s) (number 32 member) (summary s))

taken : (t : Taken) → Leads (taken_text t)
taken Timeout = bytes (codes "timeout\n")
taken Beat = bytes (codes "beat\n")
taken Close = bytes (codes "close\n")
taken Floor = bytes (codes "floor\n")
taken (Submit r) = both (λ rest. codes "submit " ++ rest) (request_text r) (bytes (codes "submit ")) (request r)
taken (Message n) = both (λ rest. codes "message " ++ rest) (ended n) (bytes (codes "message ")) (number 10 n)

line : (l : Line) → Leads (line_text l)
line (Opens journal sum marks) =
    both (λ rest. codes "opens " ++ rest) (λ rest. spaced journal (spaced sum (ended marks rest))) (bytes (codes "opens "))
    (both (spaced journal) (λ rest. spaced sum (ended marks rest)) (number 32 journal) (both (spaced sum) (ended marks) (number 32 sum) (number 10 marks)))
line (Rests member s) = stored (codes "rests ") member s
line (Life member s) = stored (codes "life ") member s
line (Clock reading) = both (λ rest. codes "clock " ++ rest) (signed_text 10 reading) (bytes (codes "clock ")) (signed 10 reading)
line (Takes member t) = both (λ rest. codes "takes " ++ rest) (λ rest. spaced member (taken_text t rest)) (bytes (codes "takes ")) (both (spaced member) (taken_text t) (number 32 member) (taken t))
line (Saves member s) = stored (codes "saves ") member s
line (Made member outcomes) =
    both (λ rest. codes "made " ++ rest) (λ rest. ended member (each_text outcome_text outcomes rest)) (bytes (codes "made "))
    (both (ended member) (each_text outcome_text outcomes) (number 10 member) (each outcome_text outcome outcomes))
line (Ends member) = both (λ rest. codes "ends " ++ rest) (ended member) (bytes (codes "ends ")) (number 10 member)
line (Answer member query answer) =
    let texts = both (said_text (codes "query ") query) (said_text (codes "text ") answer) (said (codes "query ") query) (said (codes "text ") answer) in
    both (λ rest. codes "answer " ++ rest) (λ rest. ended member (said_text (codes "query ") query (said_text (codes "text ") answer rest))) (bytes (codes "answer "))
    (both (ended member) (λ rest. said_text (codes "query ") query (said_text (codes "text ") answer rest)) (number 10 member) texts)
line (Printed client n words) =
    both (λ rest. codes "printed " ++ rest) (λ rest. spaced client (ended n (said_text (codes "text ") words rest))) (bytes (codes "printed "))
    (both (spaced client) (λ rest. ended n (said_text (codes "text ") words rest)) (number 32 client) (both (ended n) (said_text (codes "text ") words) (number 10 n) (said (codes "text ") words)))

pub lines_both : (one two : List Line) → lines_text (one ++ two) ≡ lines_text one ++ lines_text two
lines_both [] two = refl
lines_both (l ∷ one) two =
    ap (line_text l) (lines_both one two)
    ∙ line l (lines_text one ++ lines_text two)
    ∙ sym (append_assoc (line_text l []) (lines_text one) (lines_text two))
    ∙ ap (λ (x : List ℕ). x ++ lines_text two) (sym (line l (lines_text one)))

-- a line has a text
some_text : (line : Line) (more : List ℕ) → line_text line more ≡ [] → ⊥
some_text (Opens journal sum marks) more e = cc e
some_text (Rests m stored) more e = cc e
some_text (Life m stored) more e = cc e
some_text (Clock now) more e = cc e
some_text (Takes m taken) more e = cc e
some_text (Saves m stored) more e = cc e
some_text (Made m outcomes) more e = cc e
some_text (Ends m) more e = cc e
some_text (Answer m query answer) more e = cc e
some_text (Printed client number words) more e = cc e

-- lines without a text are none
pub no_text : (lines : List Line) → lines_text lines ≡ [] → lines ≡ []
no_text [] e = refl
no_text (line ∷ lines) e = absurd (some_text line (lines_text lines) e)

-- a buffer to which a line came has something
pub line_there : (old new : List ℕ) (line : Line) → new ≡ with_line old line → new ≢ []
line_there old new line is none = some_text line [] (last_none old (line_text line []) (sym is ∙ none))
  where
    last_none : (xs ys : List ℕ) → xs ++ ys ≡ [] → ys ≡ []
    last_none [] ys e = e
    last_none (x ∷ xs) ys e = absurd (cc e)
