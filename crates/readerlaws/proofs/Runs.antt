-- What a member gives for a question, and the one list of a run.
use Rattle.std.proofs.Common.{◌≡◌, ℕ, ◌≤◌, inl, inr, Bool, true, List, ◌++◌, Option, Some, None, refl, ap, ◌∙◌, subst}
use Rattle.std.proofs.lemmas.Bool.{cases_lt, le-leb, lt-leb, cond-true, cond-false}
use Rattle.model.specs.Lists.{nth}
use Rattle.model.specs.Transactions.{Language}
use Rattle.model.specs.Answers.{Query, Select, read_at, IsClosed, closed_query}
use Rattle.model.specs.Members.{Node, closed_time}
use Rattle.model.specs.Worlds.{Event, Output, new_world, IsGivenIn, IsGivenBy, IsGivenAt}
use Rattle.model.specs.Agreement.{Agree}
use Rattle.onelist.specs.Explained as onelist
use Rattle.readerlaws.specs.Laws.{RefusedUnlessClosed, NothingComesBelow, OneListExplains}

closed_at : (q : Select) (o : Option ℕ) (t : ℕ) → o ≡ Some t → (read_at t q).time.last ≤ t → closed_query q o ≡ Some (read_at t q)
closed_at q o t e l = ap (closed_query q) e ∙ cond-true _ _ _ (le-leb _ t l)

open_at : (q : Select) (o : Option ℕ) → (IsClosed q o → ⊥) → closed_query q o ≡ None
open_at q None n = refl
open_at q (Some t) n = elim (cases_lt t (read_at t q).time.last) [ inl l ↦ cond-false _ _ _ (lt-leb _ t l) | inr g ↦ absurd (n (t, refl, g)) ]

given : (language : Language) (m : ℕ) (q : Select) (o : Option Node) (x : Node) (out : List Output) → o ≡ Some x → x.up ≡ true → IsGivenAt language m q o out → IsGivenIn language m x (closed_query q (closed_time x)) out
given language m q o x out e up g = subst (λ (b : Bool). IsGivenBy language m q x b out) up (subst (λ (o : Option Node). IsGivenAt language m q o out) e g)

pub refused_unless_closed : RefusedUnlessClosed
refused_unless_closed language n m w q out x e up g =
    let given_in = given language m q (nth w.nodes m) x out e up g in (
      (λ t c l. subst (λ (o : Option Query). IsGivenIn language m x o out) (closed_at q (closed_time x) t c l) given_in),
      (λ no. subst (λ (o : Option Query). IsGivenIn language m x o out) (open_at q (closed_time x) no) given_in),
    )

pub one_list_explains : ((language : Language) (n : ℕ) → onelist.OneListExplains language n (new_world n)) → OneListExplains
one_list_explains law language n events outs gives =
    let one = law language n in
    let explains = one.explains events outs gives in
    (one.list events, explains.0.stamped, explains.0.told, explains.0.answered, explains.0.brought, explains.1)

pub nothing_comes_below : ((language : Language) (n : ℕ) (events : List Event) → Agree language n (new_world n) events) → NothingComesBelow
nothing_comes_below law language n m i t early late x e at time past is = (law language n (early ++ late)).nothing_later_is_closed early late m i t x e refl at time past is
