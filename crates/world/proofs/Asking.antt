-- What a member answers, and what an Ask gives.
use Rattle.std.proofs.Common.{◌≡◌, ◌∙◌, ℕ, ⊎_elim, Bool, true, false, Option, Some, None, Ok, Err, List, [], ◌∷◌, sym, ap, subst, option_map}
use Rattle.model.specs.Texts.{instant_text}
use Rattle.model.specs.Answers.{Query, closed_query}
use Rattle.model.specs.Members.{Node, applied, closed_time}
use Rattle.model.specs.Transactions.{Language}
use Rattle.model.specs.Worlds.{Output, IsGivenIn, IsGivenAt, IsGivenBy}
use Rattle.model.specs.Worlds.Output.{Answered, Refused}
use Rattle.fault.specs.declared.refusal.Refusal.{Refusal}
use Rattle.fault.specs.declared.refusal.Refusal.TheVariants.{NoMemory, NotClosed}
use Rattle.answer.specs.declared.Answer.{Answer}
use Rattle.answer.specs.Answers.{answer_of}
use Rattle.sqlread.specs.Shapes.{QueryShape}
use Rattle.sqlread.specs.Meaning.{select_of}
use Rattle.node.specs.View.{IsAskedOf}
use Rattle.world.specs.View.{IsAskedAt}

answered_in : (schema : Language) (m : ℕ) (q : QueryShape) (x : Node) (a : Answer) (out : List Output) → IsAskedOf schema q (applied x) (closed_time x) (Ok a) → out ≡ Answered m (answer_of a) ∷ [] → IsGivenIn schema m x (closed_query (select_of q) (closed_time x)) out
answered_in schema m q x a out h is =
    let P : Option Query → Type 0 = λ o. IsGivenIn schema m x o out in
    subst P (sym h.2) (answer_of a, h.3, is)

refused_in : (schema : Language) (m : ℕ) (q : QueryShape) (x : Node) (refusal : Refusal) (out : List Output) → IsAskedOf schema q (applied x) (closed_time x) (Err refusal) → (refusal ≡ NoMemory → ⊥) → out ≡ Refused m refusal ∷ [] → IsGivenIn schema m x (closed_query (select_of q) (closed_time x)) out
refused_in schema m q x refusal out h other is =
    let P : Option Query → Type 0 = λ o. IsGivenIn schema m x o out in
    ⊎_elim (λ (e : refusal ≡ NoMemory). absurd (other e)) (λ (p : (closed_query (select_of q) (closed_time x) ≡ None) × (refusal ≡ NotClosed (option_map instant_text (closed_time x)))). subst P (sym p.0) (is ∙ ap (λ r. Refused m r ∷ []) p.1)) h

answered_by : (schema : Language) (m : ℕ) (q : QueryShape) (x : Node) (up : Bool) (a : Answer) (out : List Output) → IsAskedAt schema q x up (Ok a) → out ≡ Answered m (answer_of a) ∷ [] → IsGivenBy schema m (select_of q) x up out
answered_by schema m q x true a out h is = answered_in schema m q x a out h is
answered_by schema m q x false a out h is = absurd (cc h)

refused_by : (schema : Language) (m : ℕ) (q : QueryShape) (x : Node) (up : Bool) (refusal : Refusal) (out : List Output) → IsAskedAt schema q x up (Err refusal) → (refusal ≡ NoMemory → ⊥) → out ≡ Refused m refusal ∷ [] → IsGivenBy schema m (select_of q) x up out
refused_by schema m q x true refusal out h other is = refused_in schema m q x refusal out h other is
refused_by schema m q x false refusal out h other is = cc

given : (schema : Language) (m : ℕ) (q : QueryShape) (x : Node) (o : Option Node) (out : List Output) → o ≡ Some x → IsGivenBy schema m (select_of q) x x.up out → IsGivenAt schema m (select_of q) o out
given schema m q x o out is h = rw is h

-- the member there answers, or refuses
pub answered : (schema : Language) (m : ℕ) (q : QueryShape) (x : Node) (o : Option Node) (a : Answer) (out : List Output) → o ≡ Some x → IsAskedAt schema q x x.up (Ok a) → out ≡ Answered m (answer_of a) ∷ [] → IsGivenAt schema m (select_of q) o out
answered schema m q x o a out at h is = given schema m q x o out at (answered_by schema m q x x.up a out h is)

pub refused : (schema : Language) (m : ℕ) (q : QueryShape) (x : Node) (o : Option Node) (refusal : Refusal) (out : List Output) → o ≡ Some x → IsAskedAt schema q x x.up (Err refusal) → (refusal ≡ NoMemory → ⊥) → out ≡ Refused m refusal ∷ [] → IsGivenAt schema m (select_of q) o out
refused schema m q x o refusal out at h other is = given schema m q x o out at (refused_by schema m q x x.up refusal out h other is)
