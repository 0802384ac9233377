-- One list explains all sessions, said of the sessions themselves. Sessions are counted from 1, and so are the events on
-- the file of each and what they gave. (i, k) is the k-th event of the i-th session. What no file has is not spoken of:
-- nobody was told it.
use Rattle.std.specs.Prelude.{◌≡◌, ℕ, ◌<◌, ◌≤◌, ◌⊎◌, Some, None, IsOk, List, [], ◌∷◌, ◌++◌}
use Rattle.fault.specs.declared.refusal.Refusal.{Refusal}
use Rattle.model.specs.Lists.{nth, IsBeginning}
use Rattle.model.specs.Transactions.{Language}
use Rattle.model.specs.declared.entry.Entry.{Entry}
use Rattle.model.specs.declared.entry.Request.{Request}
use Rattle.model.specs.declared.entry.Told.{Told}
use Rattle.model.specs.Logs.{IsStamped}
use Rattle.model.specs.Answers.{Select, Answer, IsAnswer, read_at}
use Rattle.model.specs.Worlds.Output.{Applied, Refused}
use Rattle.model.specs.Agreement.{IsTold}
use Rattle.onelist.specs.Order.{HasRequest}
use Rattle.onelist.specs.Explained.{Gave, IsAnswered, IsPutOff, AsksPast, IsSubmitted, IsUnstopped, HasTold}
use Rattle.sessions.specs.Sessions.{Session, events_of, AreSessions, new_databases}

-- ---- events of sessions

-- at this event the member told of the request
abbrev pub TellsAt : List Session → ℕ → ℕ → ℕ → Told → Type 0
TellsAt sessions i k m told = (s : Session) × (nth sessions i ≡ Some s) × Gave s.gave k (Applied m told)

-- this event asked the member, and it answered so
abbrev pub AnswersAt : List Session → ℕ → ℕ → ℕ → Select → Answer → Type 0
AnswersAt sessions i k m q a = (s : Session) × (nth sessions i ≡ Some s) × IsAnswered (events_of s) s.gave k m q a

-- this event asked the member, which put the question off
abbrev pub PutsOffAt : List Session → ℕ → ℕ → ℕ → Select → Type 0
PutsOffAt sessions i k m q = (s : Session) × (nth sessions i ≡ Some s) × IsPutOff (events_of s) s.gave k m q

-- at this event the member refused
abbrev pub RefusesAt : List Session → ℕ → ℕ → ℕ → Refusal → Type 0
RefusesAt sessions i k m why = (s : Session) × (nth sessions i ≡ Some s) × Gave s.gave k (Refused m why)

-- this event submitted the request to a member
abbrev pub SubmitsAt : List Session → ℕ → ℕ → Request → Type 0
SubmitsAt sessions i k r = (s : Session) × (nth sessions i ≡ Some s) × IsSubmitted (events_of s) k r

-- (h, j) is before (i, k): in a session before, or before in the same one
abbrev pub IsBefore : ℕ → ℕ → ℕ → ℕ → Type 0
IsBefore h j i k = (h < i) ⊎ ((h ≡ i) × (j < k))

-- no event before this one submitted the request
abbrev pub IsNewAt : List Session → ℕ → ℕ → Request → Type 0
IsNewAt sessions i k r = (h j : ℕ) → IsBefore h j i k → SubmitsAt sessions h j r → ⊥

-- no event of the i-th session between its j-th and its k-th stopped the member
abbrev pub StaysUpAt : List Session → ℕ → ℕ → ℕ → ℕ → Type 0
StaysUpAt sessions i m j k = (s : Session) → nth sessions i ≡ Some s → IsUnstopped (events_of s) m j k

-- by this event the member has told, in this session, of the request at the index, and no `Stop` of it came since
abbrev pub HasToldAt : List Session → ℕ → ℕ → ℕ → ℕ → Type 0
HasToldAt sessions i k m index = (s : Session) × (nth sessions i ≡ Some s) × HasTold (events_of s) s.gave k m index

-- ---- one list

-- The list explains what was told and answered in these sessions.
pub record ExplainsSessions (language : Language) (sessions : List Session) (list : List Entry) : Type 0 where
  -- 1. its instants rise
  pub stamped : IsStamped list
  -- 2. each request that a member told of in any session stands in the list, with the outcome that was told
  pub told : (i k m : ℕ) (told : Told) → TellsAt sessions i k m told → IsTold language list told
  -- 3. each answer of any session is the one that the list has; to a question without system time, AS OF the instant
  -- that the answer names
  pub answered : (i k m : ℕ) (q : Select) (a : Answer) →
      AnswersAt sessions i k m q a → IsAnswer language (read_at a.last q) list a
  -- 4. each request in the list was submitted in some session, by an event of its own that its file has
  pub submitted : (r : Request) → HasRequest list r → (i : ℕ) × (k : ℕ) × SubmitsAt sessions i k r
  pub apart : (r s : Request) (R : HasRequest list r) (S : HasRequest list s) →
      (submitted r R).0 ≡ (submitted s S).0 → (submitted r R).1 ≡ (submitted s S).1 → R.index ≡ S.index
  -- 5. and that event was not refused
  pub unrefused : (r : Request) (R : HasRequest list r) (m : ℕ) (why : Refusal) →
      RefusesAt sessions (submitted r R).0 (submitted r R).1 m why → ⊥
  -- 6. the text of each request in it spells a transaction
  pub reads : (r : Request) → HasRequest list r → IsOk (language.reads r.text)
  -- 7. a member that told of a request in a session has told there of each one before it, since it was last stopped
  pub told_whole : (i k m : ℕ) (told : Told) (r : Request) (R : HasRequest list r) →
      TellsAt sessions i k m told → R.index < told.index → HasToldAt sessions i k m R.index
  -- 8. and one that answered, of each one whose instant is at most the one that the answer names
  pub answered_whole : (i k m : ℕ) (q : Select) (a : Answer) (r : Request) (R : HasRequest list r) →
      AnswersAt sessions i k m q a → R.entry.stamp ≤ a.last → HasToldAt sessions i k m R.index
  -- 9. a request that is first submitted after a member told of another, in the same session or in a later one, stands
  -- behind that one
  pub told_then_submitted : (i k m : ℕ) (told : Told) (r : Request) (R : HasRequest list r) →
      TellsAt sessions i k m told → IsNewAt sessions i k r → told.index < R.index
  -- 10. one that is first submitted after a member answered has an instant above the one that the answer names
  pub answered_then_submitted : (i k m : ℕ) (q : Select) (a : Answer) (r : Request) (R : HasRequest list r) →
      AnswersAt sessions i k m q a → IsNewAt sessions i k r → a.last < R.entry.stamp
  -- 11. within a session, a question without system time that a member answers after it told of a request, and was not
  -- stopped in between, is answered AS OF that request's instant or a later one
  pub told_then_asked : (i j k m : ℕ) (told : Told) (T : IsTold language list told) (q : Select) (a : Answer) → j < k →
      TellsAt sessions i j m told → AnswersAt sessions i k m q a → q.time ≡ None →
      StaysUpAt sessions i m j k → T.entry.stamp ≤ a.last
  -- 12. and after another answer AS OF the instant that this one names, or a later one
  pub answered_then_asked : (i j k m : ℕ) (q r : Select) (a b : Answer) → j < k →
      AnswersAt sessions i j m q a → AnswersAt sessions i k m r b → r.time ≡ None →
      StaysUpAt sessions i m j k → a.last ≤ b.last
  -- 13. a question that it puts off after it told of a request asks about an instant above that request's
  pub told_then_put_off : (i j k m : ℕ) (told : Told) (T : IsTold language list told) (q : Select) → j < k →
      TellsAt sessions i j m told → PutsOffAt sessions i k m q → StaysUpAt sessions i m j k → AsksPast T.entry.stamp q
  -- 14. and after an answer, above the instant that the answer names
  pub answered_then_put_off : (i j k m : ℕ) (q r : Select) (a : Answer) → j < k →
      AnswersAt sessions i j m q a → PutsOffAt sessions i k m r → StaysUpAt sessions i m j k → AsksPast a.last r
  -- 15. until it is stopped a member tells of requests in their order, and of each once
  pub told_then_told : (i j k m : ℕ) (a b : Told) → j < k →
      TellsAt sessions i j m a → TellsAt sessions i k m b → StaysUpAt sessions i m j k → a.index < b.index

-- All sessions have one list that explains them; and with each further session it goes on, and within one too: what a
-- session's file has so far may be seen as a session that is killed now.
pub record OneListExplainsSessions (language : Language) (n : ℕ) : Type 0 where
  pub list : List Session → List Entry
  pub explains : (sessions : List Session) → AreSessions language n (new_databases n) sessions →
      ExplainsSessions language sessions (list sessions)
  pub goes_on : (sessions more : List Session) → IsBeginning (list sessions) (list (sessions ++ more))
  pub goes_on_within : (sessions more : List Session) (s t : Session) → IsBeginning (events_of s) (events_of t) →
      IsBeginning (list (sessions ++ s ∷ [])) (list (sessions ++ t ∷ more))
