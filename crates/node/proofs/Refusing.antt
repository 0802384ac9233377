-- What the laws of `refused` rest on besides the clauses that they speak of.
use Rattle.std.proofs.Common.{◌≡◌, ◌∙◌, Option, Some, None, Result, Ok, Err, List, ℕ, inl, inr, sym}
use Rattle.std.specs.Prelude.{IfErr, IfOk}
use Rattle.fault.specs.declared.refusal.Refusal.{Refusal}
use Rattle.fault.specs.declared.refusal.Refusal.TheVariants.{NoMemory}
use Rattle.model.specs.declared.entry.Entry.{Entry}
use Rattle.model.specs.Answers as model
use Rattle.model.specs.Answers.{closed_query}
use Rattle.model.specs.Transactions.{Language}
use Rattle.sqlread.specs.Meaning.{select_of}
use Rattle.sqlread.specs.Shapes.{QueryShape}
use Rattle.answer.specs.declared.Answer.{Answer}
use Rattle.apply.specs.View.{IsAskedOf}

-- ---- what comes of a call

pub if_ok : {A E : Type 0} (r : Result A E) (F G : A → Type 0) → IfOk r F → ((a : A) → F a → G a) → IfOk r G
if_ok (Ok a) F G f map = map a f
if_ok (Err e) F G f map = tt

-- ---- questions

pub asked_closed : (r : Result Answer Refusal) (language : Language) (q : QueryShape) (list : List Entry) (time : Option ℕ) (asked : model.Query) → IsAskedOf language q list time r → closed_query (select_of q) time ≡ Some asked → IfErr r (λ e. e ≡ NoMemory)
asked_closed (Ok a) language q list time asked h closes = tt
asked_closed (Err e) language q list time asked (inl none) closes = none
asked_closed (Err e) language q list time asked (inr late) closes = let f : None ≡ Some asked = sym late.0 ∙ closes in cc
