-- What the laws of `refused` rest on besides the clauses that they speak of.
use Rattle.std.proofs.Common.{◌≡◌, ℕ, ◌≤◌, Option, Some, None, Result, Ok, Err, List, take, drop, ◌++◌, sym, ap, ◌∙◌, subst, arith, inl, inr}
use Rattle.std.specs.Prelude.{IfErr, IfOk, MatchResult}
use Rattle.std.specs.Prelude.{MatchOption}
use Rattle.std.proofs.lemmas.List.{take-append-drop}
use Rattle.fault.specs.declared.refusal.Refusal.{Refusal}
use Rattle.fault.specs.declared.refusal.Refusal.TheVariants.{NotClosed}
use Rattle.model.specs.Answers as model
use Rattle.model.specs.Answers.{closed_query}
use Rattle.model.specs.Logs.{closed}
use Rattle.model.specs.Stamps.{greater}
use Rattle.model.specs.Transactions.{Language}
use Rattle.sqlread.specs.Meaning.{select_of}
use Rattle.sqlread.specs.Shapes.{QueryShape}
use Rattle.history.specs.declared.item.Item.{Item}
use Rattle.history.specs.Items.{Rises, closed_in, entries_in, sealed_in}
use Rattle.view.specs.declared.view.Marked.{Marked}
use Rattle.view.specs.Viewing.{Answers, answer_in}

-- ---- what comes of a call

pub if_ok : {A E : Type 0} (r : Result A E) (F G : A → Type 0) → IfOk r F → ((a : A) → F a → G a) → IfOk r G
if_ok (Ok a) F G f map = map a f
if_ok (Err e) F G f map = tt

pub match_ok : {A E : Type 0} (r : Result A E) (F : A → Type 0) (G : E → Type 0) → MatchResult r F G → IfOk r F
match_ok (Ok a) F G f = f
match_ok (Err e) F G f = tt

pub all_rises : (shown : ℕ) (items : List Item) → Rises items → Rises (take shown items ++ drop shown items)
all_rises shown items h = subst (λ xs. Rises xs) (sym (take-append-drop shown items)) h

pub closed_there : (language : Language) (q : QueryShape) (before after : List Item) (e : Refusal) (time : Option (List ℕ)) (asked : model.Query) → Answers language q before after (Err e) → e ≡ NotClosed time → closed_query (select_of q) (closed_in after) ≡ Some asked → ⊥
closed_there language q before after e time asked answers is closes =
    let said : Answers language q before after (Err (NotClosed time)) = subst (λ x. Answers language q before after (Err x)) is answers in
    elim said [
      | inl none ↦ cc
      | inr late ↦ let o : closed_query (select_of q) (closed_in after) ≡ None = late.0 in cc
    ]

pub refused_closed : (r : Result Marked Refusal) (language : Language) (q : QueryShape) (before after : List Item) → Answers language q before after (answer_in r)
    → IfErr r (λ e. (time : Option (List ℕ)) (asked : model.Query) → e ≡ NotClosed time → closed_query (select_of q) (closed_in after) ≡ Some asked → ⊥)
refused_closed (Ok a) language q before after h = tt
refused_closed (Err e) language q before after h = λ time asked. closed_there language q before after e time asked h

greater_than : (o : Option ℕ) (s : ℕ) → MatchOption (greater o (Some s)) ⊥ (λ c. s ≤ c)
greater_than None s = omega arith
greater_than (Some a) s = omega arith

pub sealed_is_closed : (result : Option ℕ) (items : List Item) (s : ℕ) → result ≡ closed_in items → sealed_in items ≡ Some s → MatchOption result ⊥ (λ c. s ≤ c)
sealed_is_closed result items s is sealed =
    let e : greater (closed (entries_in items)) (Some s) ≡ result = ap (greater (closed (entries_in items))) (sym sealed) ∙ sym is in
    subst (λ r. MatchOption r ⊥ (λ c. s ≤ c)) e (greater_than (closed (entries_in items)) s)
