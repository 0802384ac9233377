-- One step of one member, by what it is given: Figure 2 of "In search of an understandable consensus algorithm".
use Rattle.std.specs.Prelude.{ℕ, ◌+◌, ◌-◌, ℤ, max, min, Bool, true, false, not, ◌&&◌, ◌||◌, ◌==◌, nat_lt, nat_le, if◌then◌else◌, Option, Some, None, is_none, is_ok, unwrap_or, List, [], ◌∷◌, ◌++◌, map, length, filter, take, drop, replicate}
use Rattle.std.specs.Option.{option_map_or}
use Rattle.model.specs.Lists.{nth, with_nth}
use Rattle.fault.specs.declared.refusal.Refusal.{Refusal}
use Rattle.fault.specs.declared.refusal.Refusal.TheVariants.{NotLeader, TimeFull, LogFull, TermFull}
use Rattle.period.specs.Day.{greatest}
use Rattle.model.specs.declared.entry.Entry.{Entry}
use Rattle.model.specs.declared.entry.Request.{Request}
use Rattle.model.specs.Transactions.{Language}
use Rattle.std.specs.List.{list_all, range_with_len}
use Rattle.model.specs.declared.member.SealedFloor.{SealedFloor}
use Rattle.model.specs.Stamps.{TIME_LAST, greater, stamp}
use Rattle.model.specs.declared.message.Body.{Body}
use Rattle.model.specs.declared.message.Message.{Message}
use Rattle.model.specs.declared.message.TheConstants.{LAST_TERM, LOG_ROOM}
use Rattle.model.specs.Members.{Node, applied, is_leader, is_candidate}
use Rattle.model.specs.declared.message.Body.TheVariants.{RequestVote, Vote, Append, Reply, Seek, Stored, Seal}
use Rattle.model.specs.declared.message.Role.TheVariants.{Follower, Candidate, Leader}
use Rattle.model.specs.declared.message.Input.{Input}
use Rattle.model.specs.declared.message.Input.TheVariants.{Timeout, Beat, Close, Submit, Floor}
use Rattle.believed.specs.Members.{is_majority, is_in, last_stamp, term_at, has_term, is_up_to_date, agreed}

-- What comes of a step: the member after it and what it sends, in order of addressee. After a refusal, and after nothing, all is as before.
pub data Effect : Type 0 where
  Moves : Node → List Message → Effect
  Refuses : Refusal → Effect
  Nothing : Effect

-- a member without what a candidate or a leader keeps
abbrev pub forgets : Node → Node
forgets x = record x { votes = []; told = None; next = []; matched = []; asked = None; stored = [] }

-- a message of a greater term: the term is taken, vote and known leader are none, the role is follower
unfoldable pub hears : ℕ → Node → Node
hears term x = if nat_lt x.term term then record (forgets x) { term = term; vote = None; role = Follower; known = None } else x

-- of a leader in its term: a candidate becomes follower, and the sender is the known leader
abbrev pub follows : ℕ → Node → Node
follows sender x = record (forgets x) { role = Follower; known = Some sender }

-- ---- stamps

-- the least stamp that an entry may get: one more than the last stamp and the floor
abbrev pub least_stamp : Node → ℕ
least_stamp x = elim (greater (last_stamp x.log) x.floor) [ None ↦ 0 | Some t ↦ t + 1 ]

-- why no entry can be appended, if none can: no stamp is left, or no room
abbrev pub full : Node → Option Refusal
full x = if nat_lt TIME_LAST (least_stamp x) then Some TimeFull else if nat_le LOG_ROOM (length x.log) then Some LogFull else None

-- the leader's own log with one entry more
abbrev pub extended : ℤ → Option Request → Node → Node
extended reading request x = record x { log = x.log ++ record { term = x.term; stamp = stamp reading (least_stamp x); request = request } ∷ [] }

-- ---- seals

-- the seal's entry is applied: it has the seal's term
abbrev pub is_applied : Node → SealedFloor → Bool
is_applied x s = has_term (applied x) s.index s.term

-- a seal counts if its entry is applied; else it waits, if no seal of a greater floor does
abbrev pub learned : SealedFloor → Node → Node
learned s x =
    if is_applied x s then record x { sealed = greater x.sealed (Some s.floor) }
    else if option_map_or (λ w. nat_lt w.floor s.floor) x.waiting true then record x { waiting = Some s } else x

-- the waiting seal counts once its entry is applied
abbrev pub settled : Node → Node
settled x = option_map_or (λ s. if is_applied x s then record x { sealed = greater x.sealed (Some s.floor); waiting = None } else x) x.waiting x

-- ---- logs

-- the log stays where it has an entry of the same term at each index sent; else it is cut before the first index where it has not
abbrev pub accepted : List Entry → ℕ → List Entry → List Entry
accepted log prev es = let j = agreed log prev es in if j == prev + length es then log else (take j log ++ drop (j - prev) es)

-- entries go on after an entry: terms not falling and at most the bound, stamps rising
abbrev pub go_on : Option Entry → ℕ → List Entry → Bool
go_on prev bound [] = true
go_on prev bound (e ∷ es) = nat_lt 0 e.term && nat_le (option_map_or (λ d. d.term) prev 0) e.term && nat_le e.term bound
    && nat_le (option_map_or (λ d. d.stamp + 1) prev 0) e.stamp && go_on (Some e) bound es

-- They go on after the one at prev, and those that are new after the last one that stays; nothing up to commit is cut, and there is room.
abbrev pub fits_on : List Entry → ℕ → ℕ → ℕ → List Entry → Bool
fits_on log commit prev bound es =
    let j = agreed log prev es in
    go_on (nth log prev) bound es && go_on (nth log j) bound (drop (j - prev) es)
    && not (nat_lt j (prev + length es) && nat_lt j commit) && not (nat_lt LOG_ROOM (length (accepted log prev es)))

-- an entry of the leader's own term that the leader and others match, a majority
abbrev pub is_matched : ℕ → ℕ → Node → ℕ → Bool
is_matched n me x i = (term_at x.log i == x.term) && is_majority n (λ m. (m == me) || nat_le i (unwrap_or (nth x.matched m) 0))

-- ---- what an honest member can send

-- an index that a log can have, and an instant
abbrev pub can_be_asked : ℕ → ℕ → Bool
can_be_asked index floor = nat_lt 0 index && nat_le index LOG_ROOM && nat_le floor TIME_LAST

-- what the message says can be said in its term
abbrev pub can_be_said : Language → ℕ → Body → Bool
can_be_said language term (Vote given floor) = option_map_or (λ t. nat_le t TIME_LAST) floor true
can_be_said language term (Append prev prev_term es commit) =
    nat_le (length es) 64 && go_on None term es && list_all (λ e. option_map_or (λ r. is_ok (language.reads r.text)) e.request true) es
can_be_said language term (Seek index floor) = can_be_asked index floor
can_be_said language term (Seal index floor) = can_be_asked index floor
can_be_said language term body = true

-- what an honest member can send to this one, save where the table comes to more
abbrev pub is_honest : Language → ℕ → ℕ → Message → Bool
is_honest language n me m = (m.addressee == me) && nat_lt 0 m.sender && nat_le m.sender n && not (m.sender == me)
    && nat_lt 0 m.term && nat_le m.term LAST_TERM && can_be_said language m.term m.body

-- member me of n
module _ (n me : ℕ) where
  -- ---- what is sent

  abbrev pub message : Node → Body → ℕ → Message
  message x body to = record { sender = me; addressee = to; term = x.term; body = body }

  -- the entries from next on, at most 64
  abbrev pub append_to : Node → ℕ → Message
  append_to x to = let prev = unwrap_or (nth x.next to) 0 - 1 in message x (Append prev (term_at x.log prev) (take 64 (drop prev x.log)) x.commit) to

  -- to each other member
  abbrev pub to_all : (ℕ → Message) → List Message
  to_all send = map send (filter (λ m. not (m == me)) (range_with_len 1 n))

  -- ---- inputs

  -- a leader appends an entry of its own
  unfoldable pub append_own : ℤ → Option Request → Node → Effect
  append_own reading request x =
      let y = extended reading request x in
      if is_leader x.role then option_map_or Refuses (full x) (Moves y (to_all (append_to y))) else Refuses (NotLeader x.known)

  unfoldable pub on_input : Input → Node → Effect
  -- a candidate votes for itself in a new term, and asks the others for their votes; the leader that it knew stays known
  on_input Timeout x =
      let y = record (forgets x) { term = x.term + 1; vote = Some me; role = Candidate; votes = with_nth (replicate n false) me true } in
      if is_leader x.role then Nothing
      else if nat_le LAST_TERM x.term then Refuses TermFull
      else Moves y (to_all (message y (RequestVote (length x.log) (term_at x.log (length x.log)))))
  on_input Beat x = if is_leader x.role then Moves x (to_all (append_to x)) else Nothing
  on_input (Close reading) x = append_own reading None x
  -- with an entry of its own term, the leader asks for a floor: the greatest of what its clock shows, the last stamp and the floor so far
  on_input (Floor reading) x =
      let floor = stamp reading (unwrap_or (greater (last_stamp x.log) x.floor) 0) in
      let y = record x { floor = Some floor; asked = Some (record { index = length x.log; floor = floor }); stored = with_nth (replicate n false) me true } in
      if is_leader x.role && has_term x.log (length x.log) x.term then Moves y (to_all (message x (Seek (length x.log) floor))) else Nothing
  on_input (Submit reading request) x = append_own reading (Some request) x

  -- ---- messages of a term, once it is heard

  unfoldable pub on_body : ℤ → ℕ → ℕ → Body → Node → Effect
  -- the vote is given in its very term, while it is free, to a log at least as up to date
  on_body reading sender term (RequestVote last_index last_term) x =
      let given = (term == x.term) && option_map_or (λ v. v == sender) x.vote true && is_up_to_date last_index last_term x.log in
      Moves (if given then record x { vote = Some sender } else x) (message x (Vote given x.floor) sender ∷ [])
  -- A majority makes the candidate leader: no floor that they told is above its own, next is the index after the last entry, nothing
  -- is known to match. It appends a Close, if it can.
  on_body reading sender term (Vote given floor) x =
      let y = record x { votes = with_nth x.votes sender true; told = greater x.told floor } in
      let crowned = record (forgets y) { floor = greater y.floor y.told; role = Leader; next = replicate n (length y.log + 1); matched = replicate n 0 } in
      let z = if is_none (full crowned) then extended reading None crowned else crowned in
      if not (given && (term == x.term) && is_candidate x.role) then Moves x []
      else if is_majority n (is_in y.votes) then Moves z (to_all (append_to z))
      else Moves y []
  -- the entries are taken, and commit goes up to what the leader has committed of them
  on_body reading sender term (Append prev prev_term es commit) x =
      let y = follows sender x in
      let z = settled (record y { log = accepted x.log prev es; commit = max x.commit (min commit (prev + length es)) }) in
      if nat_lt term x.term then Moves x (message x (Reply false 0) sender ∷ [])
      else if is_leader x.role then Nothing
      else if not ((prev == 0) || has_term x.log prev prev_term) then Moves y (message x (Reply false 0) sender ∷ [])
      else if not (fits_on x.log x.commit prev term es) then Nothing
      else Moves z (message x (Reply true (prev + length es)) sender ∷ [])
  -- At yes match never falls, next comes after it, and commit goes up to the last index that a majority match, if it is greater;
  -- at no next falls by one, and not below 1.
  on_body reading sender term (Reply ok matched) x =
      let most = max (unwrap_or (nth x.matched sender) 0) matched in
      let y = record x { matched = with_nth x.matched sender most; next = with_nth x.next sender (most + 1) } in
      let forth = settled (record y { commit = max x.commit (greatest (is_matched n me y) (length x.log)) }) in
      let back = record x { next = with_nth x.next sender (max 1 (unwrap_or (nth x.next sender) 0 - 1)) } in
      if not (is_leader x.role && (term == x.term)) then Moves x []
      else if not ok then Moves back (append_to back sender ∷ [])
      else if nat_lt (length x.log) matched then Nothing
      else if nat_lt x.commit forth.commit then Moves forth (to_all (append_to forth))
      else Moves forth (if nat_le (unwrap_or (nth forth.next sender) 0) (length x.log) then (append_to forth sender ∷ []) else [])
  -- the floor is stored
  on_body reading sender term (Seek index floor) x =
      if nat_lt term x.term then Moves x []
      else if is_leader x.role then Nothing
      else Moves (record (follows sender x) { floor = greater x.floor (Some floor) }) (message x (Stored index floor) sender ∷ [])
  -- one member more has stored what the leader asks for; the one that makes them a majority makes the seal
  on_body reading sender term (Stored index floor) x =
      let y = record x { stored = with_nth x.stored sender true } in
      let asks = option_map_or (λ a. (a.index == index) && (a.floor == floor)) x.asked false in
      if not (is_leader x.role && (term == x.term) && asks) then Moves x []
      else if is_majority n (is_in x.stored) || not (is_majority n (is_in y.stored)) then Moves y []
      else Moves (learned (record { term = term; index = index; floor = floor }) y) (to_all (message y (Seal index floor)))
  on_body reading sender term (Seal index floor) x = Moves (learned (record { term = term; index = index; floor = floor }) x) []

  -- Nothing of a message that no honest member can send, its term neither.
  abbrev pub on_message : Language → ℤ → Message → Node → Effect
  on_message language reading m x = if is_honest language n me m then on_body reading m.sender m.term m.body (hears m.term x) else Nothing
