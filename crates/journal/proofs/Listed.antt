-- Lines one after the other.
use Rattle.std.proofs.Common.{◌≡◌, ◌≢◌, ◌∙◌, ℕ, ◌<◌, ◌≤◌, List, [], ◌∷◌, ◌++◌, length, get_or, refl, sym, ap, arith, subst, inl, inr, length-append, append-nil}
use Rattle.std.specs.Prelude.{All, codes}
use Rattle.std.specs.Fmt.{signed_decimal}
use Rattle.fault.specs.declared.refusal.Refusal.{Refusal}
use Rattle.fault.specs.declared.refusal.Refusal.TheVariants.{NoMemory}
use Rattle.flight.specs.Additions.{Adds}
use Rattle.hex.specs.Hex.{encode_lower}
use Rattle.flight.specs.declared.outcome.Outcome.{Outcome}
use Rattle.flight.specs.Spelling.{spaced, ended, signed_text, vote_text, vote_number, floor_text, floor_number, block_text, request_text, outcome_text, each_text}
use Rattle.flight.specs.Reading.{Spells, SpellsOnlyTo, IsUnreadTo}
use Rattle.flight.specs.Courses.{IsNoOutcome}
use Rattle.flight.proofs.Lists.{Taken, taken_more, taken_all, all_later}
use Rattle.flight.proofs.Lengths.{after_number, after_block, after_outcome}
use Rattle.model.specs.declared.entry.Request.{Request}
use Rattle.journal.specs.declared.stored.Summary.{Summary}
use Rattle.journal.specs.declared.line.Taken.{Taken as Packet}
use Rattle.journal.specs.declared.line.Taken.TheVariants.{Timeout, Beat, Close, Floor, Submit, Message}
use Rattle.journal.specs.declared.line.Line.{Line}
use Rattle.journal.specs.declared.line.Line.TheVariants.{Opens, Rests, Life, Clock, Takes, Saves, Made, Ends, Answer, Printed}
use Rattle.journal.specs.Spelling.{digest_text, summary_text, stored_text, taken_text, said_text, line_text}
use Rattle.journal.specs.Parts.{IsOver}
use Rattle.journal.specs.Ranges.{IsLine}

-- ---- a text is longer than what follows a line of it

word_on : (word rest : List ℕ) → length rest ≤ length (word ++ rest)
word_on word rest = omega (arith, length-append word rest)

signed_on : (word : List ℕ) (end : ℕ) (rest : List ℕ) → length rest < length (word ++ end ∷ rest)
signed_on word end rest = omega (arith, word_on word (end ∷ rest))

summary_on : (s : Summary) (rest : List ℕ) → length rest < length (summary_text s rest)
summary_on s rest =
    let digest = signed_on (encode_lower s.digest) 10 rest in
    let long = after_number 32 s.length (digest_text s.digest rest) in
    let floor = signed_on (signed_decimal (floor_number s.hard.floor)) 32 (spaced s.length (digest_text s.digest rest)) in
    let vote = after_number 32 (vote_number s.hard.vote) (floor_text 32 s.hard.floor (spaced s.length (digest_text s.digest rest))) in
    let term = after_number 32 s.hard.term (vote_text s.hard.vote (floor_text 32 s.hard.floor (spaced s.length (digest_text s.digest rest)))) in
    omega (arith, digest, long, floor, vote, term)

stored_on : (word : List ℕ) (member : ℕ) (s : Summary) (rest : List ℕ) → length rest < length (stored_text word member s rest)
stored_on word member s rest = omega (arith, summary_on s rest, after_number 32 member (summary_text s rest), word_on word (spaced member (summary_text s rest)))

request_on : (r : Request) (rest : List ℕ) → length rest < length (request_text r rest)
request_on r rest = omega (arith, after_block r.text rest, after_number 32 r.number (block_text r.text rest), after_number 32 r.client (spaced r.number (block_text r.text rest)))

taken_on : (t : Packet) (rest : List ℕ) → length rest < length (taken_text t rest)
taken_on Timeout rest = omega (arith, length-append (codes "timeout\n") rest)
taken_on Beat rest = omega (arith, length-append (codes "beat\n") rest)
taken_on Close rest = omega (arith, length-append (codes "close\n") rest)
taken_on Floor rest = omega (arith, length-append (codes "floor\n") rest)
taken_on (Submit r) rest = omega (arith, request_on r rest, word_on (codes "submit ") (request_text r rest))
taken_on (Message n) rest = omega (arith, after_number 10 n rest, word_on (codes "message ") (ended n rest))

said_on : (word said rest : List ℕ) → length rest < length (said_text word said rest)
said_on word said rest = omega (arith, after_block said rest, word_on word (block_text said rest))

outcomes_on : (os : List Outcome) (rest : List ℕ) → length rest ≤ length (each_text outcome_text os rest)
outcomes_on [] rest = omega arith
outcomes_on (o ∷ os) rest = omega (arith, outcomes_on os rest, after_outcome o (each_text outcome_text os rest))

pub line_on : (line : Line) (rest : List ℕ) → length rest < length (line_text line rest)
line_on (Opens a b c) rest = omega (arith, after_number 10 c rest, after_number 32 b (ended c rest), after_number 32 a (spaced b (ended c rest)), word_on (codes "opens ") (spaced a (spaced b (ended c rest))))
line_on (Rests m s) rest = stored_on (codes "rests ") m s rest
line_on (Life m s) rest = stored_on (codes "life ") m s rest
line_on (Clock r) rest = omega (arith, signed_on (signed_decimal r) 10 rest, word_on (codes "clock ") (signed_text 10 r rest))
line_on (Takes m t) rest = omega (arith, taken_on t rest, after_number 32 m (taken_text t rest), word_on (codes "takes ") (spaced m (taken_text t rest)))
line_on (Saves m s) rest = stored_on (codes "saves ") m s rest
line_on (Made m os) rest = omega (arith, outcomes_on os rest, after_number 10 m (each_text outcome_text os rest), word_on (codes "made ") (ended m (each_text outcome_text os rest)))
line_on (Ends m) rest = omega (arith, after_number 10 m rest, word_on (codes "ends ") (ended m rest))
line_on (Answer m q a) rest =
    let answer = said_on (codes "text ") a rest in
    let query = said_on (codes "query ") q (said_text (codes "text ") a rest) in
    let member = after_number 10 m (said_text (codes "query ") q (said_text (codes "text ") a rest)) in
    omega (arith, answer, query, member, word_on (codes "answer ") (ended m (said_text (codes "query ") q (said_text (codes "text ") a rest))))
line_on (Printed c n w) rest =
    let words = said_on (codes "text ") w rest in
    let number = after_number 10 n (said_text (codes "text ") w rest) in
    let client = after_number 32 c (ended n (said_text (codes "text ") w rest)) in
    omega (arith, words, number, client, word_on (codes "printed ") (spaced c (ended n (said_text (codes "text ") w rest))))

-- ---- what follows an outcome is no line

pub line_no_outcome : (line : Line) (rest : List ℕ) → IsNoOutcome (line_text line rest)
line_no_outcome (Opens a b c) rest = λ other e. absurd (omega (arith, ap (λ l. get_or l 1 0) e))
line_no_outcome (Rests m s) rest = λ other e. absurd (omega (arith, ap (λ l. get_or l 0 0) e))
line_no_outcome (Life m s) rest = λ other e. absurd (omega (arith, ap (λ l. get_or l 0 0) e))
line_no_outcome (Clock r) rest = λ other e. absurd (omega (arith, ap (λ l. get_or l 0 0) e))
line_no_outcome (Takes m t) rest = λ other e. absurd (omega (arith, ap (λ l. get_or l 0 0) e))
line_no_outcome (Saves m s) rest = λ other e. absurd (omega (arith, ap (λ l. get_or l 0 0) e))
line_no_outcome (Made m os) rest = λ other e. absurd (omega (arith, ap (λ l. get_or l 0 0) e))
line_no_outcome (Ends m) rest = λ other e. absurd (omega (arith, ap (λ l. get_or l 0 0) e))
line_no_outcome (Answer m q a) rest = λ other e. absurd (omega (arith, ap (λ l. get_or l 0 0) e))
line_no_outcome (Printed c n w) rest = λ other e. absurd (omega (arith, ap (λ l. get_or l 0 0) e))

pub lines_no_outcome : (lines : List Line) → IsNoOutcome (each_text line_text lines [])
lines_no_outcome [] = λ other e. absurd (omega (arith, ap length e))
lines_no_outcome (l ∷ ls) = line_no_outcome l (each_text line_text ls [])

-- ---- the lines of a block, one after the other

abbrev pub LinesTaken : List ℕ → List Line → List ℕ → Type 0
LinesTaken text taken left = Taken Line IsLine line_text (λ xs other. IsOver other) text taken left

nothing_left : (left : List ℕ) → 0 < length left → (other : List ℕ) → IsOver other → left ≢ other
nothing_left left some other over = λ e. absurd (omega (arith, some, ap length (e ∙ over)))

no_outcome_over : (ys : List Line) (other : List ℕ) → IsOver other → IsNoOutcome (each_text line_text ys other)
no_outcome_over ys other over = subst (λ (o : List ℕ). IsNoOutcome (each_text line_text ys o)) (sym over) (lines_no_outcome ys)

module _ (text : List ℕ) (taken : List Line) (left : List ℕ) (some : 0 < length left) (t : LinesTaken text taken left) where
  pub lines_more : (x : Line) (rest : List ℕ) → Spells IsLine line_text left x rest → SpellsOnlyTo IsLine line_text IsNoOutcome left x rest → LinesTaken text (taken ++ x ∷ []) rest
  lines_more x rest s only = taken_more IsLine line_text (λ xs other. IsOver other) text taken left x rest t s
      (λ y ys other is over e. only y (each_text line_text ys other) is (no_outcome_over ys other over) e)
      (λ other over. nothing_left left some other over)

  none_of : ((w : Line) (other : List ℕ) → IsLine w → IsNoOutcome other → left ≢ line_text w other) → (xs : List Line) → All IsLine xs → (more : List Line) → xs ≡ taken ++ more → (other : List ℕ) → IsOver other
      → left ≡ each_text line_text more other → ⊥
  none_of none xs is [] p other over e = nothing_left left some other over e
  none_of none xs is (y ∷ ys) p other over e = none y (each_text line_text ys other) (all_later IsLine taken y ys (subst (All IsLine) p is)).0 (no_outcome_over ys other over) e

  pub lines_unread : (r : Refusal) → IsUnreadTo IsLine line_text IsNoOutcome left r → IsUnreadTo (All IsLine) (each_text line_text) IsOver text r
  lines_unread r (inl memory) = inl memory
  lines_unread r (inr (bad, none)) = inr (
    bad,
    λ xs other is over e.
        let g = t.goes_on xs other is over e in
        none_of none xs is g.0 g.1 other over g.2,
  )

pub none_left : (left : List ℕ) → length left ≡ 0 → left ≡ []
none_left [] none = refl
none_left (b ∷ bs) none = absurd (omega (arith, none))

-- nothing follows
module _ (text : List ℕ) (taken : List Line) (left : List ℕ) (over : left ≡ []) (t : LinesTaken text taken left) where
  pub lines_whole : Spells (All IsLine) (each_text line_text) text taken []
  lines_whole = (t.range, t.whole ∙ ap (each_text line_text taken) over)

  none_more : (xs : List Line) (other : List ℕ) (y : Line) (ys : List Line) → left ≢ line_text y (each_text line_text ys other)
  none_more xs other y ys = λ e. absurd (omega (arith, line_on y (each_text line_text ys other), ap length (sym over ∙ e)))

  pub lines_only : SpellsOnlyTo (All IsLine) (each_text line_text) IsOver text taken []
  lines_only = λ xs other is end e.
      let a = taken_all IsLine line_text (λ ys o. IsOver o) text taken left t xs other is end (λ y ys ok p g. none_more xs other y ys g) e in
      (a.0, end)

-- ---- lines that are written as a block

pub added : (old new : List ℕ) (spell : List ℕ → List ℕ) → length old ≡ 0 → Adds old new spell → new ≡ spell []
added old new spell none adds = sym (append-nil new) ∙ adds [] ∙ ap (λ l. l ++ spell []) (none_left old none)

pub lines_some : (lines : List Line) → 0 < length lines → 0 < length (each_text line_text lines [])
lines_some [] some = absurd (omega (arith, some))
lines_some (l ∷ ls) some = omega (arith, line_on l (each_text line_text ls []))

pub lines_memory : (text : List ℕ) (r : Refusal) (lines : List Line) → IsUnreadTo (All IsLine) (each_text line_text) IsOver text r → All IsLine lines → text ≡ each_text line_text lines [] → r ≡ NoMemory
lines_memory text r lines (inl memory) is e = memory
lines_memory text r lines (inr (bad, none)) is e = absurd (none lines [] is refl e)
