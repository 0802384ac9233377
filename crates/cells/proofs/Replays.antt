-- A life with one step more.
use Rattle.std.proofs.Common.{◌≡◌, ◌∙◌, ℕ, List, [], ◌∷◌, ◌++◌, fold, Err, refl, sym, ap, ⊎_elim}
use Rattle.std.proofs.lemmas.List.Sums.{fold-append}
use Rattle.std.proofs.lemmas.Grind.{merely}
use Rattle.fault.specs.declared.refusal.Refusal.{Refusal}
use Rattle.sqlchecks.specs.Columns.{Tables}
use Rattle.model.specs.Members.{Node}
use Rattle.model.specs.Kept.{node_after}
use Rattle.keep.specs.Durable.{IsBeforeOrAfter, Durable}
use Rattle.node.specs.declared.node.Node.{Node as NodeUp}
use Rattle.node.specs.declared.node.Out.{Out}
use Rattle.node.specs.declared.node.Fault.TheVariants.{Kept}
use Rattle.node.specs.View.{Gave, IsGiven, durable_of, hard_of, started_from, works}
use Rattle.node.specs.Member.{me_of, member_of, members_of, tables_of}
use Rattle.node.specs.Work.{Work}
use Rattle.flight.specs.declared.life.Step.{Step}
use Rattle.flight.specs.declared.life.Opening.{Opening}
use Rattle.cells.specs.Lives.{work_of, stepped, opened_with}

-- the seat of a node, and the member that it is
pub record Seated : Type 0 where
  pub schema : Tables
  pub members : ℕ
  pub me : ℕ
  pub member : Node

abbrev pub seated : {K I : Type 0} {g : _} {s : _} → NodeUp K I g s → Seated
seated x = record { schema = tables_of x; members = members_of x; me = me_of x; member = member_of x }

-- the steps from an opening on
abbrev pub taken_through : Seated → Opening → List Step → Node
taken_through c o steps = fold (stepped c.schema c.members c.me) (started_from (opened_with o)) steps

-- the seat is the same
pub same_seat : (old new : Seated) (o : Opening) (steps : List Step) → new.schema ≡ old.schema → new.members ≡ old.members → new.me ≡ old.me → taken_through new o steps ≡ taken_through old o steps
same_seat old new o steps a b c = rw (a, b, c) refl

-- a life that opens
opens_with : (o : Opening) (x : Node) → o.hard ≡ hard_of x → o.entries.items ≡ x.log → durable_of x ≡ opened_with o
opens_with o x hard log = rw (hard, log) refl

pub replayed_first : (c : Seated) (o : Opening) (steps : List Step) (x : Node) → steps ≡ [] → c.member ≡ x → x ≡ started_from (durable_of x) → o.hard ≡ hard_of c.member → o.entries.items ≡ x.log → c.member ≡ taken_through c o steps
replayed_first c o steps x none same opened hard log = rw none (same ∙ opened ∙ ap started_from (opens_with o x (hard ∙ ap hard_of same) log))

-- one step more
replay_more : (c : Seated) (o : Opening) (steps : List Step) (s : Step) → taken_through c o (steps ++ s ∷ []) ≡ stepped c.schema c.members c.me (taken_through c o steps) s
replay_more c o steps s = fold-append (stepped c.schema c.members c.me) (started_from (opened_with o)) steps (s ∷ [])

-- a step that was made whole
pub stepped_given : (schema : Tables) (n me : ℕ) (x : Node) (s : Step) (w : Work) (y : Node) (out : Out) → w ≡ work_of s.packet → IsGiven x y (works schema n me w x) out → stepped schema n me x s ≡ y
unfolding stepped
stepped_given schema n me x s w y out is gave = rw (← is) (⊎_elim (λ moved. ap (node_after x) (sym moved)) (λ ignored. ap (node_after x) (sym ignored.0) ∙ sym ignored.1) gave)

-- a step that was refused
pub stepped_refused : (schema : Tables) (n me : ℕ) (x : Node) (s : Step) (w : Work) (y : Node) (refusal : Refusal) → w ≡ work_of s.packet → Gave x y (works schema n me w x) (Err (Kept refusal)) → y ≡ x → stepped schema n me x s ≡ y
unfolding stepped
stepped_refused schema n me x s w y refusal is gave same = rw (← is) (ap (node_after x) (sym gave) ∙ sym same)

pub replayed : (old new : Seated) (o : Opening) (before after : List Step) (s : Step) → new.schema ≡ old.schema → new.members ≡ old.members → new.me ≡ old.me → after ≡ before ++ s ∷ [] → old.member ≡ taken_through old o before → stepped old.schema old.members old.me old.member s ≡ new.member → new.member ≡ taken_through new o after
replayed old new o before after s a b c e was is = sym is ∙ ap (λ v. stepped old.schema old.members old.me v s) was ∙ sym (replay_more old o before s) ∙ sym (same_seat old new o (before ++ s ∷ []) a b c) ∙ ap (taken_through new o) (sym e)

-- after a step that was made whole the node is what the longer life replays to
pub replayed_given : (old new : Seated) (o : Opening) (before after : List Step) (s : Step) (w : Work) (out : Out) → new.schema ≡ old.schema → new.members ≡ old.members → new.me ≡ old.me → after ≡ before ++ s ∷ [] → w ≡ work_of s.packet → old.member ≡ taken_through old o before → IsGiven old.member new.member (works old.schema old.members old.me w old.member) out → new.member ≡ taken_through new o after
replayed_given old new o before after s w out a b c e is was gave = replayed old new o before after s a b c e was (stepped_given old.schema old.members old.me old.member s w new.member out is gave)

-- so it is after one that was refused
pub replayed_refused : (old new : Seated) (o : Opening) (before after : List Step) (s : Step) (w : Work) (refusal : Refusal) → new.schema ≡ old.schema → new.members ≡ old.members → new.me ≡ old.me → after ≡ before ++ s ∷ [] → w ≡ work_of s.packet → old.member ≡ taken_through old o before → Gave old.member new.member (works old.schema old.members old.me w old.member) (Err (Kept refusal)) → new.member ≡ old.member → new.member ≡ taken_through new o after
replayed_refused old new o before after s w refusal a b c e is was gave same = replayed old new o before after s a b c e was (stepped_refused old.schema old.members old.me old.member s w new.member refusal is gave same)

-- what is left of a step that was cut short
abbrev pub IsLeft : Seated → Opening → List Step → Step → Durable → Type 0
IsLeft c o steps s d = IsBeforeOrAfter (durable_of (taken_through c o steps)) (durable_of (stepped c.schema c.members c.me (taken_through c o steps) s)) d

left_old : (old : Seated) (o : Opening) (before : List Step) (s : Step) (w : Work) (d : Durable) → w ≡ work_of s.packet → old.member ≡ taken_through old o before → IsBeforeOrAfter (durable_of old.member) (durable_of (node_after old.member (works old.schema old.members old.me w old.member))) d → IsLeft old o before s d
unfolding stepped
left_old old o before s w d is was left = rw (← was, ← is) left

pub torn_left : (old new : Seated) (o : Opening) (before after : List Step) (s : Step) (w : Work) (d : Durable) → new.schema ≡ old.schema → new.members ≡ old.members → new.me ≡ old.me → after ≡ before → w ≡ work_of s.packet → old.member ≡ taken_through old o before → IsBeforeOrAfter (durable_of old.member) (durable_of (node_after old.member (works old.schema old.members old.me w old.member))) d → ∥ IsLeft new o after s d ∥₁
torn_left old new o before after s w d a b c e is was left = rw (a, b, c, e) (merely (left_old old o before s w d is was left))
