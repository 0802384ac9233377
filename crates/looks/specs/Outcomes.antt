-- Outcomes, refusals, messages and verdicts as JSON: the tokens of one object.
use Rattle.std.specs.Prelude.{ℕ, Bool, true, List, [], ◌∷◌, ◌++◌, length, codes, decimal, Option, Some, None, Result, Ok, Err}
use Rattle.period.specs.Instant.{instant_text}
use Rattle.json.specs.Token.{Token, begin_object, end_object, key, string, number, boolean, null}
use Rattle.fault.specs.declared.refusal.Refusal.{Refusal}
use Rattle.fault.specs.Refusal.{number_of, text_of}
use Rattle.model.specs.declared.entry.Told.{Told}
use Rattle.model.specs.declared.message.Message.{Message}
use Rattle.model.specs.declared.message.Body.{Body}
use Rattle.model.specs.declared.message.Body.TheVariants.{RequestVote, Vote, Append, Reply, Seek, Stored, Seal}

-- a member of an object that is a number, one that is a text, and one that is true or false
abbrev pub counts : List ℕ → ℕ → List Token
counts name n = key name ∷ number (decimal n) ∷ []

abbrev pub says : List ℕ → List ℕ → List Token
says name text = key name ∷ string text ∷ []

abbrev pub is_it : List ℕ → Bool → List Token
is_it name holds = key name ∷ boolean holds ∷ []

abbrev pub object : List Token → List Token
object tokens = begin_object ∷ (tokens ++ end_object ∷ [])

-- the number of a refusal, and its text without the number
abbrev pub refusal_tokens : Refusal → List Token
refusal_tokens refusal = counts (codes "refused") (number_of refusal) ++ says (codes "text") (text_of refusal)

abbrev pub outcome_tokens : Result ℕ Refusal → List Token
outcome_tokens (Ok stamp) = says (codes "accepted") (instant_text stamp)
outcome_tokens (Err refusal) = refusal_tokens refusal

-- a request has an outcome, or it has none yet
abbrev pub answered_tokens : Option (Result ℕ Refusal) → List Token
answered_tokens None = is_it (codes "unanswered") true
answered_tokens (Some outcome) = outcome_tokens outcome

abbrev pub request_tokens : ℕ → ℕ → List Token
request_tokens client request = counts (codes "client") client ++ counts (codes "request") request

-- what a node tells of a request
unfoldable pub told_tokens : ℕ → Told → List Token
told_tokens node told =
    object (counts (codes "node") node ++ (counts (codes "entry") told.index ++ (request_tokens told.client told.number ++ outcome_tokens told.outcome)))

-- what came of a request
unfoldable pub outcome_of_tokens : ℕ → ℕ → Option (Result ℕ Refusal) → List Token
outcome_of_tokens client request outcome = object (request_tokens client request ++ answered_tokens outcome)

-- a node refuses an input or a question
unfoldable pub refused_tokens : ℕ → Refusal → List Token
refused_tokens node refusal = object (counts (codes "node") node ++ refusal_tokens refusal)

-- ---- messages

abbrev pub floor_token : Option ℕ → Token
floor_token None = null
floor_token (Some floor) = number (decimal floor)

abbrev pub floor_tokens : List ℕ → ℕ → ℕ → ℕ → List Token
floor_tokens kind term index floor =
    says (codes "kind") kind ++ (counts (codes "term") term ++ (counts (codes "index") index ++ counts (codes "floor") floor))

abbrev pub append_tokens : ℕ → ℕ → ℕ → ℕ → ℕ → List Token
append_tokens term prev_index prev_term commit count =
    says (codes "kind") (codes "append") ++ (counts (codes "term") term ++ (counts (codes "prev_index") prev_index ++ (counts (codes "prev_term") prev_term
    ++ (counts (codes "commit") commit ++ counts (codes "entries") count))))

-- a message of the term
abbrev pub body_tokens : ℕ → Body → List Token
body_tokens term (RequestVote last_index last_term) =
    says (codes "kind") (codes "votereq") ++ (counts (codes "term") term ++ (counts (codes "last_index") last_index ++ counts (codes "last_term") last_term))
body_tokens term (Vote given floor) =
    says (codes "kind") (codes "vote") ++ (counts (codes "term") term ++ (is_it (codes "given") given ++ key (codes "floor") ∷ floor_token floor ∷ []))
body_tokens term (Append prev_index prev_term entries commit) = append_tokens term prev_index prev_term commit (length entries)
body_tokens term (Reply ok matched) =
    says (codes "kind") (codes "reply") ++ (counts (codes "term") term ++ (is_it (codes "ok") ok ++ counts (codes "matched") matched))
body_tokens term (Seek index floor) = floor_tokens (codes "seek") term index floor
body_tokens term (Stored index floor) = floor_tokens (codes "stored") term index floor
body_tokens term (Seal index floor) = floor_tokens (codes "seal") term index floor

-- the message that was sent as the so many-th
unfoldable pub sent_tokens : ℕ → Message → List Token
sent_tokens place message =
    object (counts (codes "sent") place ++ (counts (codes "from") message.sender ++ (counts (codes "to") message.addressee ++ body_tokens message.term message.body)))
