-- What came of a step of a node, and of a keeper that lost the voice.
use Rattle.std.proofs.Common.{◌≡◌, ◌∙◌, ℕ, Bool, true, false, Option, Some, None, List, ◌++◌, take, MatchOption, Result, Ok, Err, IfOk, IfErr, OnOk, MatchBool, refl, sym, ap, subst, ⊎_elim}
use Rattle.model.specs.Members as model
use Rattle.model.specs.declared.entry.Entry.{Entry}
use Rattle.model.specs.Kept.{node_after}
use Rattle.model.specs.Steps.{Effect, Moves, Refuses, Nothing}
use Rattle.model.specs.Worlds.{node_left, started, stopped}
use Rattle.model.specs.declared.event.Left.TheVariants.{Old, New}
use Rattle.fault.specs.declared.refusal.Refusal.TheVariants.{NodeDown}
use Rattle.keep.specs.Durable.{Durable, IsBeforeOrAfter}
use Rattle.keep.specs.declared.error.StoreError.{StoreError}
use Rattle.sqlchecks.specs.Columns.{Tables}
use Rattle.sqlread.specs.Meaning.{language_of}
use Rattle.node.specs.declared.node.Node.{Node}
use Rattle.node.specs.declared.node.Out.{Out}
use Rattle.node.specs.declared.node.Fault.{Fault}
use Rattle.node.specs.declared.node.Fault.TheVariants.{Kept, Down}
use Rattle.node.specs.Member.{me_of, member_of, members_of, tables_of}
use Rattle.node.specs.View.{durable_of, started_from, told_between, works, Gave, IsGiven, IsEmpty, IsSame, IsTorn, LeavesUp}
use Rattle.node.specs.Work.{Work}
use Rattle.store.specs.Nodes.{rested, IsMember, IsNodeOf, Rests, StepsTo}

left_old : (x : model.Node) (o : Effect) → node_left Old x o ≡ x
left_old x (Moves a) = refl
left_old x (Refuses refusal) = refl
left_old x Nothing = refl

left_new : (x : model.Node) (o : Effect) → node_left New x o ≡ node_after x o
left_new x (Moves a) = refl
left_new x (Refuses refusal) = refl
left_new x Nothing = refl

given_after : (x y : model.Node) (o : Effect) (out : Out) → IsGiven x y o out → y ≡ node_after x o
given_after x y o out came =
    ⊎_elim (λ (moved : Moves (record { node = y; sent = out.messages.items }) ≡ o). ap (node_after x) moved)
    (λ (none : (Nothing ≡ o) × (y ≡ x) × IsEmpty out). none.1 ∙ ap (node_after x) none.0) came

module _ (tables : Tables) (n m : ℕ) (work : Work) (x : model.Node) (up : x.up ≡ true) where
  abbrev comes : Effect
  comes = works tables n m work x

  -- what is left, where what is held is from before the step or after it
  pub went_down : (held : Durable → Type 0) (stored : Durable) (error : StoreError) → ((d : Durable) → held d → d ≡ stored) → IsBeforeOrAfter (durable_of x) (durable_of (node_after x comes)) stored →
      (y : model.Node) × (Rests held y × StepsTo tables n m work x y (Err (Down error)))
  went_down held stored error only left =
      ⊎_elim
      (λ (old : stored ≡ durable_of x). (stopped x, ((refl, λ d h. sym (ap rested (only d h ∙ old))), (up, (Old, ap stopped (sym (left_old x comes)))))))
      (λ (new : stored ≡ durable_of (node_after x comes)). (stopped (node_after x comes), ((refl, λ d h. sym (ap rested (only d h ∙ new))), (up, (New, ap stopped (sym (left_new x comes)))))))
      left

  module _ {K I : Type 0} {g : _} {s : _} (held : K → Durable → Type 0) (node : Node K I g s) where
    pub seen_up : (y : model.Node) → node.is_up ≡ true → y ≡ member_of node → IsMember held node y
    seen_up y u is = subst (λ (b : Bool). MatchBool b (y ≡ member_of node) (Rests (held node.keeper) y)) (sym u) is

    pub seen_down : (y : model.Node) → node.is_up ≡ false → Rests (held node.keeper) y → IsMember held node y
    seen_down y u is = subst (λ (b : Bool). MatchBool b (y ≡ member_of node) (Rests (held node.keeper) y)) (sym u) is

    -- What a step of a node comes to, by what its clauses say where its keeper is honest (H). It was up before.
    pub came : (H : Type 0) (h : H) (was : Bool) (u : was ≡ true) (stored : Durable) (result : Result Out Fault) → held node.keeper stored →
        (was ≡ true → H → Gave x (member_of node) comes result) →
        IfOk result (λ out. H → out.told.items ≡ told_between (language_of tables) (member_of node).log x.commit (member_of node).commit) →
        IfErr result (λ fault. H → IsSame x (member_of node) fault) →
        IsTorn (durable_of x) (durable_of (node_after x comes)) (held node.keeper) result →
        OnOk result ((was ≡ true) × (node.is_up ≡ true)) →
        IfErr result (LeavesUp was node.is_up) →
        ((d : Durable) → held node.keeper d → d ≡ stored) →
        (y : model.Node) × (IsMember held node y × StepsTo tables n m work x y result)
    came H h was u stored (Ok out) holds gave told same torn ups leaves only = (member_of node, (seen_up (member_of node) ups.1 refl, (up, gave u h, told h)))
    came H h was u stored (Err (Kept refusal)) holds gave told same torn ups leaves only =
        (member_of node, (seen_up (member_of node) (leaves ∙ u) refl, (same h, subst (λ (b : Bool). MatchBool b (Refuses refusal ≡ comes) (refusal ≡ NodeDown)) (sym up) (gave u h))))
    came H h was u stored (Err (Down error)) holds gave told same torn ups leaves only =
        let w = went_down (held node.keeper) stored error only (torn stored holds) in
        (w.0, (seen_down w.0 leaves w.1.0, w.1.1))

  -- a node that was taken down after the step
  pub lost : (held : Durable → Type 0) (error : StoreError) (y : model.Node) (result : Result Out Fault) → StepsTo tables n m work x y result → ((d : Durable) → held d → d ≡ durable_of y) →
      Rests held (stopped y) × StepsTo tables n m work x (stopped y) (Err (Down error))
  lost held error y (Ok out) steps only = ((refl, λ d h. sym (ap rested (only d h))), (up, (New, ap stopped (given_after x y comes out steps.1 ∙ sym (left_new x comes)))))
  lost held error y (Err (Kept refusal)) steps only = ((refl, λ d h. sym (ap rested (only d h))), (up, (Old, ap stopped (steps.0 ∙ sym (left_old x comes)))))
  lost held error y (Err (Down other)) steps only = ((refl, λ d h. sym (ap rested (only d h))), (up, (steps.1.0, ap stopped steps.1.1)))

-- ---- seats

module _ {K I : Type 0} {g : _} {s : _} (held : K → Durable → Type 0) where
  -- a node that is up is its member
  pub member_up : (node : Node K I g s) (x : model.Node) → node.is_up ≡ true → IsMember held node x → x ≡ member_of node
  member_up node x u is = subst (λ (b : Bool). MatchBool b (x ≡ member_of node) (Rests (held node.keeper) x)) u is

-- a node whose member is up is up
pub up_there : (held : Durable → Type 0) (b : Bool) (x y : model.Node) → MatchBool b (x ≡ y) (Rests held x) → x.up ≡ true → b ≡ true
up_there held true x y is up = refl
up_there held false x y rests up = absurd (cc (rests.0, up))

-- a node whose keeper gave something back: what it holds is no more
pub given_back : {K I : Type 0} {g : _} {s : _} (held : K → Durable → Type 0) (node : Node K I g s) (holds : Durable → Type 0) (other y : model.Node) → other ≡ member_of node → ((d : Durable) → holds d → held node.keeper d) → IsMember held node y → MatchBool node.is_up (y ≡ other) (Rests holds y)
given_back held node holds other y same less is = go node.is_up is
  where
    go : (b : Bool) → MatchBool b (y ≡ member_of node) (Rests (held node.keeper) y) → MatchBool b (y ≡ other) (Rests holds y)
    go true e = e ∙ sym same
    go false rests = (rests.0, λ d h. rests.1 d (less d h))

-- the member that a node is, where its keeper has these entries
abbrev pub member_with : {K I : Type 0} {g : _} {s : _} → Node K I g s → List Entry → model.Node
member_with node stored = record (member_of node) { log = take node.core.log.elsewhere stored ++ node.core.log.tail.items }

-- what a keeper holds of a node is what its member has stored
pub what_stays : {K I : Type 0} {g : _} {s : _} (held : K → Durable → Type 0) (node : Node K I g s) (y : model.Node) (d : Durable) → IsMember held node y → held node.keeper d → (node.is_up ≡ true → d ≡ durable_of (member_of node)) → d ≡ durable_of y
what_stays held node y d is holds ups = go node.is_up refl is
  where
    go : (b : Bool) → node.is_up ≡ b → MatchBool b (y ≡ member_of node) (Rests (held node.keeper) y) → d ≡ durable_of y
    go true u e = ups u ∙ sym (ap durable_of e)
    go false u rests = sym (ap durable_of (rests.1 d holds))

-- a member that is this one, or rests where what it has stored is held
pub what_rests : (held : Durable → Type 0) (up : Bool) (other y : model.Node) (d : Durable) → MatchBool up (y ≡ other) (Rests held y) → held d → (up ≡ true → d ≡ durable_of other) → d ≡ durable_of y
what_rests held true other y d is holds ups = ups refl ∙ sym (ap durable_of is)
what_rests held false other y d rests holds ups = sym (ap durable_of (rests.1 d holds))

-- the database of a seat without a node
pub at_rest_there : {N I : Type 0} (o : Option N) (i : Option I) (image : I) (P : N → Type 0) (R : I → Type 0) (Q : Type 0) → o ≡ None → i ≡ Some image → MatchOption o (MatchOption i Q R) P → R image
at_rest_there {N} {I} o i image P R Q none some there =
    let a : MatchOption i Q R = subst (λ (x : Option N). MatchOption x (MatchOption i Q R) P) none there in
    subst (λ (x : Option I). MatchOption x Q R) some a

-- and back
pub rests_clean : {N I : Type 0} (o : Option N) (i : Option I) (image : I) (R : I → Type 0) (P : N → Type 0) → o ≡ None → i ≡ Some image → R image → MatchOption o (MatchOption i (Unit {0}) R) P
rests_clean {N} {I} o i image R P none some rests =
    let a : MatchOption i (Unit {0}) R = subst (λ (x : Option I). MatchOption x (Unit {0}) R) (sym some) rests in
    subst (λ (x : Option N). MatchOption x (MatchOption i (Unit {0}) R) P) (sym none) a

-- what is said of a node that is there
pub at_some : {N : Type 0} (o : Option N) (node : N) (Q : Type 0) (P : N → Type 0) → o ≡ Some node → MatchOption o Q P → P node
at_some o node Q P some there = subst (λ x. MatchOption x Q P) some there

pub to_some : {N : Type 0} (o : Option N) (node : N) (Q : Type 0) (P : N → Type 0) → o ≡ Some node → P node → MatchOption o Q P
to_some o node Q P some there = subst (λ x. MatchOption x Q P) (sym some) there

-- a node that was started with what its database holds is the member, started
pub started_there : {K I : Type 0} {g : _} {s : _} (held : K → Durable → Type 0) (holds : Durable → Type 0) (tables : Tables) (n m : ℕ) (node : Node K I g s) (x : model.Node) → Rests holds x → holds (durable_of (member_of node)) → member_of node ≡ started_from (durable_of (member_of node)) → node.is_up ≡ true →
    tables_of node ≡ tables → members_of node ≡ n → me_of node ≡ m → (x.up ≡ false) × IsNodeOf held tables n m node (started x)
started_there held holds tables n m node x rests found opened up a b c =
    let is : started x ≡ member_of node = ap started (rests.1 (durable_of (member_of node)) found) ∙ sym opened in
    (rests.0, record { tables_are = a; members_are = b; me_is = c; is = subst (λ (z : Bool). MatchBool z (started x ≡ member_of node) (Rests (held node.keeper) (started x))) (sym up) is })
