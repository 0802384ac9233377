-- Messages by their first word.
use Rattle.std.proofs.Common.{◌≡◌, ◌∙◌, ℕ, ℤ, Bool, Option, List, ◌++◌, refl, sym, ap, arith, inl, inr, get_or, drop}
use Rattle.std.specs.Prelude.{codes}
use Rattle.fault.specs.declared.refusal.Refusal.{Refusal}
use Rattle.model.specs.declared.message.Body.{Body}
use Rattle.model.specs.declared.message.Body.TheVariants.{RequestVote, Vote, Append, Reply, Seek, Stored, Seal}
use Rattle.model.specs.declared.message.Input.TheVariants as input
use Rattle.model.specs.declared.message.Message.{Message}
use Rattle.flight.specs.declared.bodies.Candidacy.{Candidacy}
use Rattle.flight.specs.declared.bodies.Voted.{Voted}
use Rattle.flight.specs.declared.bodies.Appended.{Appended}
use Rattle.flight.specs.declared.bodies.Replied.{Replied}
use Rattle.flight.specs.declared.bodies.Sealing.{Sealing}
use Rattle.flight.specs.declared.flight.Version.{Version}
use Rattle.flight.specs.declared.life.Packet.{Packet}
use Rattle.flight.specs.declared.life.Packet.TheVariants.{Local, Delivered}
use Rattle.flight.specs.Spelling.{number_text, spaced, body_text, packet_text}
use Rattle.flight.specs.Ranges.{IsNumber, IsMark, IsPacket}
use Rattle.flight.specs.Bodies.{candidacy_text, given_text, voted_text, appended_text, replied_text, sealing_text, said_text, IsCandidacy, IsGiven, IsVoted, IsAppended, IsReplied, IsSealing, IsSaid, IsSaidOfSealing}
use Rattle.flight.specs.Packets.{delivery_text, IsDelivery}
use Rattle.flight.specs.Reading.{SpellsOnly, IsUnread, IsNotBegun}

-- the byte of a text at a place
abbrev at : ℕ → List ℕ → ℕ
at i text = get_or text i 0

pub candidacy_of : (version : Version) (w : ℕ × Body) (rest other : List ℕ) → IsSaid version w → codes "votereq " ++ rest ≡ said_text version w other
    → (v : Candidacy) × (w ≡ (v.term, RequestVote v.last_index v.last_term)) × IsCandidacy v × (rest ≡ candidacy_text v other)
candidacy_of version (t, RequestVote i u) rest other is e = (record { term = t; last_index = i; last_term = u }, refl, (is.0, is.1.0, is.1.1), ap (drop 8) e)
candidacy_of version (t, Vote g f) rest other is e = absurd (omega (arith, ap (at 4) e))
candidacy_of version (t, Append i u es k) rest other is e = absurd (omega (arith, ap (at 0) e))
candidacy_of version (t, Reply ok m) rest other is e = absurd (omega (arith, ap (at 0) e))
candidacy_of version (t, Seek i f) rest other is e = absurd (omega (arith, ap (at 0) e))
candidacy_of version (t, Stored i f) rest other is e = absurd (omega (arith, ap (at 0) e))
candidacy_of version (t, Seal i f) rest other is e = absurd (omega (arith, ap (at 0) e))

pub voted_of : (version : Version) (w : ℕ × Body) (rest other : List ℕ) → IsSaid version w → codes "vote " ++ rest ≡ said_text version w other
    → (v : Voted) × (w ≡ (v.term, Vote v.given v.floor)) × IsVoted version v × (rest ≡ voted_text version v other)
voted_of version (t, RequestVote i u) rest other is e = absurd (omega (arith, ap (at 4) e))
voted_of version (t, Vote g f) rest other is e = (record { term = t; given = g; floor = f }, refl, (is.0, is.1), ap (drop 5) e)
voted_of version (t, Append i u es k) rest other is e = absurd (omega (arith, ap (at 0) e))
voted_of version (t, Reply ok m) rest other is e = absurd (omega (arith, ap (at 0) e))
voted_of version (t, Seek i f) rest other is e = absurd (omega (arith, ap (at 0) e))
voted_of version (t, Stored i f) rest other is e = absurd (omega (arith, ap (at 0) e))
voted_of version (t, Seal i f) rest other is e = absurd (omega (arith, ap (at 0) e))

-- a vote by its term and what follows it
module _ (version : Version) (text : List ℕ) (term : ℕ) (first : List ℕ) (terms : SpellsOnly IsNumber (number_text 32) text term first) where
  given_in : (w : Voted) (other : List ℕ) → IsVoted version w → text ≡ voted_text version w other → (w.term ≡ term) × (first ≡ given_text version (w.given, w.floor) other)
  given_in w other is e = let a = terms w.term (given_text version (w.given, w.floor) other) is.0 e in (a.0, sym a.1)

  pub voted_unread : (r : Refusal) → IsUnread (IsGiven version) (given_text version) first r → IsUnread (IsVoted version) (voted_text version) text r
  voted_unread r (inl memory) = inl memory
  voted_unread r (inr (bad, none)) = inr (bad, λ w other is e. none (w.given, w.floor) other is.1 (given_in w other is e).1)

  pub voted_only : (given : Bool) (floor : Option ℕ) (left : List ℕ) → SpellsOnly (IsGiven version) (given_text version) first (given, floor) left
      → SpellsOnly (IsVoted version) (voted_text version) text (record { term = term; given = given; floor = floor }) left
  voted_only given floor left only = λ w other is e.
      let s = given_in w other is e in
      let o = only (w.given, w.floor) other is.1 s.1 in
      ((λ i. record { term = s.0 i; given = (o.0 i).0; floor = (o.0 i).1 }), o.1)

pub appended_of : (version : Version) (w : ℕ × Body) (rest other : List ℕ) → IsSaid version w → codes "append " ++ rest ≡ said_text version w other
    → (v : Appended) × (w ≡ (v.term, Append v.prev_index v.prev_term v.entries v.commit)) × IsAppended v × (rest ≡ appended_text v other)
appended_of version (t, RequestVote i u) rest other is e = absurd (omega (arith, ap (at 0) e))
appended_of version (t, Vote g f) rest other is e = absurd (omega (arith, ap (at 0) e))
appended_of version (t, Append i u es k) rest other is e =
    (record { term = t; prev_index = i; prev_term = u; commit = k; entries = es }, refl, (is.0, is.1.0, is.1.1, is.1.3, is.1.2), ap (drop 7) e)
appended_of version (t, Reply ok m) rest other is e = absurd (omega (arith, ap (at 0) e))
appended_of version (t, Seek i f) rest other is e = absurd (omega (arith, ap (at 0) e))
appended_of version (t, Stored i f) rest other is e = absurd (omega (arith, ap (at 0) e))
appended_of version (t, Seal i f) rest other is e = absurd (omega (arith, ap (at 0) e))

pub replied_of : (version : Version) (w : ℕ × Body) (rest other : List ℕ) → IsSaid version w → codes "reply " ++ rest ≡ said_text version w other
    → (v : Replied) × (w ≡ (v.term, Reply v.ok v.matched)) × IsReplied v × (rest ≡ replied_text v other)
replied_of version (t, RequestVote i u) rest other is e = absurd (omega (arith, ap (at 0) e))
replied_of version (t, Vote g f) rest other is e = absurd (omega (arith, ap (at 0) e))
replied_of version (t, Append i u es k) rest other is e = absurd (omega (arith, ap (at 0) e))
replied_of version (t, Reply ok m) rest other is e = (record { term = t; ok = ok; matched = m }, refl, (is.0, is.1), ap (drop 6) e)
replied_of version (t, Seek i f) rest other is e = absurd (omega (arith, ap (at 0) e))
replied_of version (t, Stored i f) rest other is e = absurd (omega (arith, ap (at 0) e))
replied_of version (t, Seal i f) rest other is e = absurd (omega (arith, ap (at 0) e))

-- ---- messages by which a floor is stored and sealed

pub seek_of : (version : Version) (w : ℕ × Body) (rest other : List ℕ) → IsSaidOfSealing version w → codes "seek " ++ rest ≡ said_text version w other
    → (v : Sealing) × (w ≡ (v.term, Seek v.index v.floor)) × IsSealing v × (rest ≡ sealing_text v other)
seek_of version (t, RequestVote i u) rest other is e = absurd is.1
seek_of version (t, Vote g f) rest other is e = absurd is.1
seek_of version (t, Append i u es k) rest other is e = absurd is.1
seek_of version (t, Reply ok m) rest other is e = absurd is.1
seek_of version (t, Seek i f) rest other is e = (record { term = t; index = i; floor = f }, refl, (is.0.0, is.0.1.1, is.0.1.2), ap (drop 5) e)
seek_of version (t, Stored i f) rest other is e = absurd (omega (arith, ap (at 1) e))
seek_of version (t, Seal i f) rest other is e = absurd (omega (arith, ap (at 2) e))

pub stored_of : (version : Version) (w : ℕ × Body) (rest other : List ℕ) → IsSaidOfSealing version w → codes "stored " ++ rest ≡ said_text version w other
    → (v : Sealing) × (w ≡ (v.term, Stored v.index v.floor)) × IsSealing v × (rest ≡ sealing_text v other)
stored_of version (t, RequestVote i u) rest other is e = absurd is.1
stored_of version (t, Vote g f) rest other is e = absurd is.1
stored_of version (t, Append i u es k) rest other is e = absurd is.1
stored_of version (t, Reply ok m) rest other is e = absurd is.1
stored_of version (t, Seek i f) rest other is e = absurd (omega (arith, ap (at 1) e))
stored_of version (t, Stored i f) rest other is e = (record { term = t; index = i; floor = f }, refl, (is.0.0, is.0.1.1, is.0.1.2), ap (drop 7) e)
stored_of version (t, Seal i f) rest other is e = absurd (omega (arith, ap (at 1) e))

pub seal_of : (version : Version) (w : ℕ × Body) (rest other : List ℕ) → IsSaidOfSealing version w → codes "seal " ++ rest ≡ said_text version w other
    → (v : Sealing) × (w ≡ (v.term, Seal v.index v.floor)) × IsSealing v × (rest ≡ sealing_text v other)
seal_of version (t, RequestVote i u) rest other is e = absurd is.1
seal_of version (t, Vote g f) rest other is e = absurd is.1
seal_of version (t, Append i u es k) rest other is e = absurd is.1
seal_of version (t, Reply ok m) rest other is e = absurd is.1
seal_of version (t, Seek i f) rest other is e = absurd (omega (arith, ap (at 2) e))
seal_of version (t, Stored i f) rest other is e = absurd (omega (arith, ap (at 1) e))
seal_of version (t, Seal i f) rest other is e = (record { term = t; index = i; floor = f }, refl, (is.0.0, is.0.1.1, is.0.1.2), ap (drop 5) e)

-- a message that begins with none of the other words
module _ (version : Version) (text : List ℕ) (no_candidacy : IsNotBegun (codes "votereq ") text) (no_vote : IsNotBegun (codes "vote ") text) (no_append : IsNotBegun (codes "append ") text)
    (no_reply : IsNotBegun (codes "reply ") text) where
  of_sealing : (w : ℕ × Body) (other : List ℕ) → IsSaid version w → text ≡ said_text version w other → IsSaidOfSealing version w
  of_sealing (t, RequestVote i u) other is e = absurd (no_candidacy _ e)
  of_sealing (t, Vote g f) other is e = absurd (no_vote _ e)
  of_sealing (t, Append i u es k) other is e = absurd (no_append _ e)
  of_sealing (t, Reply ok m) other is e = absurd (no_reply _ e)
  of_sealing (t, Seek i f) other is e = (is, tt)
  of_sealing (t, Stored i f) other is e = (is, tt)
  of_sealing (t, Seal i f) other is e = (is, tt)

  pub sealing_only : (v : ℕ × Body) (rest : List ℕ) → SpellsOnly (IsSaidOfSealing version) (said_text version) text v rest → SpellsOnly (IsSaid version) (said_text version) text v rest
  sealing_only v rest only = λ w other is e. only w other (of_sealing w other is e) e

  pub sealing_unread : (r : Refusal) → IsUnread (IsSaidOfSealing version) (said_text version) text r → IsUnread (IsSaid version) (said_text version) text r
  sealing_unread r (inl memory) = inl memory
  sealing_unread r (inr (bad, none)) = inr (bad, λ w other is e. none w other (of_sealing w other is e) e)

-- ---- deliveries

module _ (version : Version) (node : ℕ) (text : List ℕ) (sender : ℕ) (first : List ℕ) (mark : ℕ) (second : List ℕ)
    (senders : SpellsOnly IsNumber (number_text 32) text sender first) (marks : SpellsOnly IsMark (number_text 32) first mark second) where
  said_in : (w : ℕ × Message) (other : List ℕ) → IsDelivery version node w → text ≡ delivery_text version w other
      → (w.1.sender ≡ sender) × (w.0 ≡ mark) × (second ≡ said_text version (w.1.term, w.1.body) other)
  said_in w other is e =
      let a = senders w.1.sender (spaced w.0 (body_text version w.1.term w.1.body other)) is.1.0 e in
      let b = marks w.0 (body_text version w.1.term w.1.body other) is.0 (sym a.1) in
      (a.0, b.0, sym b.1)

  pub delivery_unread : (r : Refusal) → IsUnread (IsSaid version) (said_text version) second r → IsUnread (IsDelivery version node) (delivery_text version) text r
  delivery_unread r (inl memory) = inl memory
  delivery_unread r (inr (bad, none)) = inr (bad, λ w other is e. none (w.1.term, w.1.body) other (is.1.2, is.1.3) (said_in w other is e).2)

  pub delivery_only : (term : ℕ) (body : Body) (left : List ℕ) → SpellsOnly (IsSaid version) (said_text version) second (term, body) left
      → SpellsOnly (IsDelivery version node) (delivery_text version) text (mark, record { sender = sender; addressee = node; term = term; body = body }) left
  delivery_only term body left only = λ w other is e.
      let s = said_in w other is e in
      let o = only (w.1.term, w.1.body) other (is.1.2, is.1.3) s.2 in
      ((λ i. (s.1 i, record { sender = s.0 i; addressee = is.1.1 i; term = (o.0 i).0; body = (o.0 i).1 })), o.1)

pub delivery_of : (version : Version) (node : ℕ) (reading : ℤ) (w : Packet) (rest other : List ℕ) → IsPacket version node reading w → codes "from " ++ rest ≡ packet_text version w other
    → (v : ℕ × Message) × (w ≡ Delivered v.0 reading v.1) × IsDelivery version node v × (rest ≡ delivery_text version v other)
delivery_of version node reading (Local input.Timeout) rest other is e = absurd (omega (arith, ap (at 0) e))
delivery_of version node reading (Local input.Beat) rest other is e = absurd (omega (arith, ap (at 0) e))
delivery_of version node reading (Local (input.Close own)) rest other is e = absurd (omega (arith, ap (at 0) e))
delivery_of version node reading (Local (input.Floor own)) rest other is e = absurd (omega (arith, ap (at 1) e))
delivery_of version node reading (Local (input.Submit own request)) rest other is e = absurd (omega (arith, ap (at 0) e))
delivery_of version node reading (Delivered mark own message) rest other is e = ((mark, message), ap (λ z. Delivered mark z message) is.0, (is.1, is.2), ap (drop 5) e)
