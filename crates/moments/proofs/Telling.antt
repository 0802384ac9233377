-- What is told of an answer.
use Rattle.std.proofs.Common.{◌≡◌, ◌∙◌, ℕ, Bool, true, false, List, [], ◌∷◌, Ok, Err, Option, Some, None, refl, sym, ap, subst}
use Rattle.answer.specs.declared.Answer.{Answer}
use Rattle.answertext.specs.Answers.{answer_text}
use Rattle.fault.specs.declared.refusal.Refusal.{Refusal}
use Rattle.model.specs.Lists.{nth}
use Rattle.model.specs.Transactions.{Language}
use Rattle.model.specs.Members.{Node, applied, closed_time}
use Rattle.model.specs.Answers.{Query, Select, closed_query}
use Rattle.model.specs.Worlds.{Output, Ask, Answered, Gives, IsGivenIn, IsGivenAt, IsGivenBy}
use Rattle.safety.specs.Answers.{OneAnswer}
use Rattle.moments.specs.Faults.{NoneAre}
use Rattle.moments.proofs.Texts.{same_text}
use Rattle.sqlchecks.specs.Columns.{Tables}
use Rattle.sqlread.specs.Meaning.{language_of, select_of}
use Rattle.sqlread.specs.Shapes.{QueryShape}
use Rattle.sqlread.specs.Texts.{query_in}
use Rattle.world.specs.declared.output.Output.{Output as Out}
use Rattle.world.specs.declared.output.Output.TheVariants.{Answered as AnsweredOut}
use Rattle.world.specs.View.{output_of, outputs_of, HasColumns}
use Rattle.moments.specs.declared.recorded.Recorded.{Recorded}
use Rattle.moments.specs.Past.{Past}
use Rattle.moments.specs.Behind.{IsText, IsAnswered}

pub told_answer : (t : Tables) (table m : ℕ) (answer : Answer) (output : Out) (text : List ℕ) → output ≡ AnsweredOut m answer → text ≡ answer_text answer → HasColumns t table output → IsText t table (output_of output ∷ []) text
told_answer t table m answer output text is same has =
    let P : Out → Type 0 = λ o. HasColumns t table o → IsText t table (output_of o ∷ []) text in
    subst P (sym is) (λ columns. (answer, refl, columns, same)) has

pub answered : (t s : Tables) (n : ℕ) (p : Past) (node : ℕ) (a : Recorded) (q : QueryShape) (outs : List Out) → s ≡ t → query_in s a.query ≡ Ok q → Gives (language_of t) n p.world (Ask node (select_of q)) (outputs_of outs) →
    IsText t q.table (outputs_of outs) a.answer → IsAnswered t n p node a (Ask node (select_of q) ∷ [])
answered t s n p node a q outs tables read gives text = (q, outputs_of outs, subst (λ (x : Tables). query_in x a.query ≡ Ok q) tables read, gives, text, refl)

pub told_only : (t : Tables) (table m : ℕ) (answer : Answer) (output : Out) (text : List ℕ) → output ≡ AnsweredOut m answer → HasColumns t table output → IsText t table (output_of output ∷ []) text → text ≡ answer_text answer
told_only t table m answer output text is has told =
    let P : Out → Type 0 = λ o. HasColumns t table o → IsText t table (output_of o ∷ []) text → text ≡ answer_text answer in
    subst P (sym is) (λ columns h. h.3 ∙ same_text h.0 answer h.1 (h.2 ∙ sym columns)) has told

-- ---- one outcome of a question

given_in : OneAnswer → (s : Language) (m : ℕ) (x : Node) (q : Option Query) (a b : List Output) → IsGivenIn s m x q a → IsGivenIn s m x q b → a ≡ b
given_in one s m x None a b p r = p ∙ sym r
given_in one s m x (Some q) a b p r = p.2 ∙ ap (λ z. Answered m z ∷ []) (one s q (applied x) p.0 r.0 p.1 r.1) ∙ sym r.2

given_by : OneAnswer → (s : Language) (m : ℕ) (q : Select) (x : Node) (up : Bool) (a b : List Output) → IsGivenBy s m q x up a → IsGivenBy s m q x up b → a ≡ b
given_by one s m q x false a b p r = p ∙ sym r
given_by one s m q x true a b p r = given_in one s m x (closed_query q (closed_time x)) a b p r

given_at : OneAnswer → (s : Language) (m : ℕ) (q : Select) (o : Option Node) (a b : List Output) → IsGivenAt s m q o a → IsGivenAt s m q o b → a ≡ b
given_at one s m q None a b p r = p ∙ sym r
given_at one s m q (Some x) a b p r = given_by one s m q x x.up a b p r

pub untold : OneAnswer → (t s : Tables) (n : ℕ) (p : Past) (node : ℕ) (a : Recorded) (q : QueryShape) (outs : List Out) → s ≡ t → query_in s a.query ≡ Ok q → Gives (language_of t) n p.world (Ask node (select_of q)) (outputs_of outs) →
    (IsText t q.table (outputs_of outs) a.answer → ⊥) → NoneAre (IsAnswered t n p node a)
untold one t s n p node a q outs tables read gives text events (other, out, others, given, told, is) =
    let same : q ≡ other = cc (sym read, ap (λ (x : Tables). query_in x a.query) tables, others) in
    let G : QueryShape → Type 0 = λ x. Gives (language_of t) n p.world (Ask node (select_of x)) out in
    let alike = given_at one (language_of t) node (select_of q) (nth p.world.nodes node) out (outputs_of outs) (subst G (sym same) given) gives in
    text ((λ (k : IsText t other.table out a.answer). subst (λ (xs : List Output). IsText t q.table xs a.answer) alike (subst (λ (x : QueryShape). IsText t x.table out a.answer) (sym same) k)) told)

pub unread : (t s : Tables) (n : ℕ) (p : Past) (node : ℕ) (a : Recorded) (r : Refusal) → s ≡ t → query_in s a.query ≡ Err r → NoneAre (IsAnswered t n p node a)
unread t s n p node a r tables read events (other, out, others, given, told, is) = absurd (cc (sym read, ap (λ (x : Tables). query_in x a.query) tables, others))
