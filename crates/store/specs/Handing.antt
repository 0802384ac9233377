-- What comes of requests that are handed in, and of questions that are asked.
use Rattle.std.specs.Prelude.{◌≡◌, ◌≤◌, ◌-◌, ℕ, List, Option, Result, Err, IfErr, IfOk, IsErr, MatchOption, OnOk, slice_get}
use Rattle.answer.specs.declared.Answer.{Answer as TheAnswer}
use Rattle.answertext.specs.Answers.{answer_text}
use Rattle.fault.specs.declared.refusal.Refusal.TheVariants.{NotClosed}
use Rattle.journal.specs.declared.line.Line.TheVariants.{Answer, Printed}
use Rattle.store.specs.declared.outcome.Outcome.{Outcome}
use Rattle.store.specs.declared.refusal.StoreRefusal.{StoreRefusal}
use Rattle.store.specs.declared.refusal.StoreRefusal.TheVariants.{Refused}
use Rattle.store.specs.declared.store.Store.{Store}
use Rattle.store.specs.Asking.{IsAnswerOf}
use Rattle.store.specs.Fullness.{entries_of, longest}
use Rattle.store.specs.Journals.{EndsWith, IsSettled, IsSpent}
use Rattle.store.specs.Refusals.{log_full}
use Rattle.store.specs.Words.{words_of}

module _ {K J I : Type 0} {an : _} {g : _} {s : _} {d : _} where
  -- the longest log of those that are up has no room for requests
  abbrev pub IsFull : Store K J I an g s d → Type 0
  IsFull store = 99000 ≤ longest store.seats.items (λ seat. entries_of seat.node seat.chain.links.items)

  -- A request of this client is handed in. The journal ends with the number and the outcome that are given. It is refused 36
  -- where the log has no room for it, and then alone; nothing changes then, nor of a store that is spent.
  pub record HandsIn {A : Type 0} (contents : J → Option (List ℕ)) (client : ℕ) (number : A → ℕ) (outcome : A → Outcome)
      (old new : Store K J I an g s d) (result : Result A StoreRefusal) : Type 0 where
    pub told : IfOk result (λ given. EndsWith contents new.scribe (Printed client (number given) (words_of (outcome given))))
    pub full : ¬ (IsSpent old.scribe) → IsFull old → (result ≡ Err log_full) × (new ≡ old)
    pub room : result ≡ Err log_full → IsFull old × (new ≡ old)
    pub spent : IsSpent old.scribe → IsErr result × (new ≡ old)

  -- A member is asked this. What is given names the member, and has its answer from what it has applied, which the journal
  -- ends with; that outlasts a power cut, and so does a refusal 33. Of a store that is spent nothing changes.
  pub record Asks {A : Type 0} (contents : J → Option (List ℕ)) (is_settled : J → Type 0) (honest : K → Type 0)
      (member : A → ℕ) (answer : A → TheAnswer) (text : List ℕ) (old new : Store K J I an g s d) (result : Result A StoreRefusal) : Type 0 where
    pub told : IfOk result (λ given. EndsWith contents new.scribe (Answer (member given) text (answer_text (answer given))))
    pub settled : OnOk result (IsSettled is_settled new.scribe)
    pub asked : IfOk result (λ given. MatchOption (slice_get new.seats.items (member given - 1)) ⊥
        (λ seat. MatchOption seat.node ⊥ (λ node. IsAnswerOf honest node new.schema text (answer given))))
    pub refused : IfErr result
        (λ refusal. (closed : Option (List ℕ)) → refusal ≡ Refused (NotClosed closed) → IsSettled is_settled new.scribe)
    pub spent : IsSpent old.scribe → IsErr result × (new ≡ old)
