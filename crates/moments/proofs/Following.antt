-- What is said of a moment by what it does.
use Rattle.std.proofs.Common.{◌≡◌, ◌∙◌, ℕ, ◌+◌, List, Option, Some, None, Result, Ok, Err, Bor, refl, sym, ap, subst}
use Rattle.std.specs.Prelude.{IfErr, MatchOption, OnOk, slice_get, option_and_then, option_copied}
use Rattle.flight.specs.declared.life.Life.{Life}
use Rattle.flight.specs.declared.life.Step.{Step}
use Rattle.moments.specs.declared.replay.Replay.{Replay}
use Rattle.moments.specs.declared.moment.Deed.{Deed}
use Rattle.moments.specs.declared.moment.Deed.TheVariants.{Takes, Tears, Answers}
use Rattle.moments.specs.declared.moment.Moment.{Moment}
use Rattle.moments.specs.declared.recorded.Recorded.{Recorded}
use Rattle.moments.specs.declared.recorded.AuditFault.{AuditFault}
use Rattle.moments.specs.declared.recorded.AuditFault.TheVariants.{NoMemory, OutOfOrder, Broken, Unsent, Wrong}
use Rattle.model.specs.Worlds.{Event}
use Rattle.moments.specs.Past.{Past}
use Rattle.moments.specs.Behind.{Evidence, life_at, step_at, IsTaken, IsCut, IsLifeCut, IsAnswered, IsAnsweredBy, IsBehindDeed, IsBehind}
use Rattle.moments.specs.Rising.{IsMarked}
use Rattle.moments.specs.Faults.{IsCutFault, IsDeedFault, IsEndFault, IsFaultAt, IsNo, IsStepFault, Lacks, NoneAre}
use Rattle.moments.specs.View.{Follows}

-- a step of a life that was found
pub step_found : (o : Option Life) (l : Life) (k : ℕ) (items : List Step) (s : Option Step) → o ≡ Some l → items ≡ l.steps.items → slice_get items k ≡ s → option_and_then (λ (life : Life). slice_get life.steps.items k) o ≡ s
step_found o l k items s is same at = ap (option_and_then (λ (life : Life). slice_get life.steps.items k)) is ∙ ap (λ (xs : List Step). slice_get xs k) (sym same) ∙ at

pub taken_fault : {T : Type 0} (r : Evidence) (n : ℕ) (p : Past) (m : Moment) (life step : ℕ) (s : Step) (res : Result T AuditFault) → m.deed ≡ Takes life step → step_at r.lives m.node life step ≡ Some s →
    IfErr res (IsNo (Lacks (IsStepFault p m.node m.mark (Some s)) (IsTaken r.version r.tables n p m.node (Some s)))) → IfErr res (IsNo (Lacks (IsFaultAt r.lives p m) (IsBehind r n p m)))
taken_fault {T} r n p m life step s res is found h =
    let Q : Deed → Type 0 = λ d. IfErr res (IsNo (Lacks (IsDeedFault r.lives p m.node m.mark d) (IsBehindDeed r n p m.node d))) in
    let W : Option Step → Type 0 = λ o. IfErr res (IsNo (Lacks (IsStepFault p m.node m.mark o) (IsTaken r.version r.tables n p m.node o))) in
    subst Q (sym is) (subst W (sym found) h)

pub none_taken : (r : Evidence) (n : ℕ) (p : Past) (m : Moment) (life step : ℕ) → m.deed ≡ Takes life step → step_at r.lives m.node life step ≡ None → Lacks (IsFaultAt r.lives p m) (IsBehind r n p m) (Unsent m.node m.mark)
none_taken r n p m life step is found =
    let Q : Deed → Type 0 = λ d. Lacks (IsDeedFault r.lives p m.node m.mark d) (IsBehindDeed r n p m.node d) (Unsent m.node m.mark) in
    let W : Option Step → Type 0 = λ o. Lacks (IsStepFault p m.node m.mark o) (IsTaken r.version r.tables n p m.node o) (Unsent m.node m.mark) in
    subst Q (sym is) (subst W (sym found) (refl, λ events h. h))

-- what was looked up, as it stands there
pub copied_at : {A : Type 0} (found : Option (Bor A)) (there : Option A) → MatchOption found (there ≡ None) (λ x. there ≡ Some x.now) → option_copied found ≡ there
copied_at None there h = sym h
copied_at (Some x) there h = sym h

pub cut_fault : {T : Type 0} (r : Evidence) (n : ℕ) (p : Past) (m : Moment) (k : ℕ) (l : Life) (res : Result T AuditFault) → m.deed ≡ Tears k → life_at r.lives m.node k ≡ Some l →
    IfErr res (IsNo (Lacks (IsEndFault p m.node m.mark l.ending) (IsCut p m.node (life_at r.lives m.node (k + 1)) l.ending))) → IfErr res (IsNo (Lacks (IsFaultAt r.lives p m) (IsBehind r n p m)))
cut_fault {T} r n p m k l res is found h =
    let Q : Deed → Type 0 = λ d. IfErr res (IsNo (Lacks (IsDeedFault r.lives p m.node m.mark d) (IsBehindDeed r n p m.node d))) in
    let W : Option Life → Type 0 = λ o. IfErr res (IsNo (Lacks (IsCutFault p m.node m.mark o) (IsLifeCut r p m.node k o))) in
    subst Q (sym is) (subst W (sym found) h)

pub answered_so : {T : Type 0} (r : Evidence) (n : ℕ) (p : Past) (m : Moment) (k : ℕ) (a : Recorded) (res : Result T AuditFault) (old new : Replay) → m.deed ≡ Answers k → slice_get r.answers k ≡ Some a →
    OnOk res (Follows (λ events. IsMarked r.lives a × IsAnswered r.tables n p m.node a events) old new m.mark) → OnOk res (Follows (IsBehind r n p m) old new m.mark)
answered_so {T} r n p m k a res old new is found h =
    let Q : Deed → Type 0 = λ d. OnOk res (Follows (IsBehindDeed r n p m.node d) old new m.mark) in
    let W : Option Recorded → Type 0 = λ o. OnOk res (Follows (IsAnsweredBy r n p m.node o) old new m.mark) in
    subst Q (sym is) (subst W (sym found) h)

pub answered_fault : {T : Type 0} (r : Evidence) (n : ℕ) (p : Past) (m : Moment) (k : ℕ) (a : Recorded) (res : Result T AuditFault) → m.deed ≡ Answers k → slice_get r.answers k ≡ Some a →
    IfErr res (IsNo (Lacks (λ f. f ≡ Wrong m.node m.mark) (λ events. IsMarked r.lives a × IsAnswered r.tables n p m.node a events))) → IfErr res (IsNo (Lacks (IsFaultAt r.lives p m) (IsBehind r n p m)))
answered_fault {T} r n p m k a res is found h =
    let Q : Deed → Type 0 = λ d. IfErr res (IsNo (Lacks (IsDeedFault r.lives p m.node m.mark d) (IsBehindDeed r n p m.node d))) in
    let W : Option Recorded → Type 0 = λ o. IfErr res (IsNo (Lacks (λ f. f ≡ Wrong m.node m.mark) (IsAnsweredBy r n p m.node o))) in
    subst Q (sym is) (subst W (sym found) h)

-- what no events are behind has none that are behind it and rest on a mark
pub marked_fault : {T : Type 0} (res : Result T AuditFault) (named : AuditFault → Type 0) (mark : Type 0) (such : List Event → Type 0) → IfErr res (IsNo (Lacks named such)) → IfErr res (IsNo (Lacks named (λ events. mark × such events)))
marked_fault (Ok x) named mark such h = h
marked_fault (Err NoMemory) named mark such h = h
marked_fault (Err (OutOfOrder node at)) named mark such h = h
marked_fault (Err (Broken node at)) named mark such (so, none) = (so, λ events p. none events p.1)
marked_fault (Err (Unsent node at)) named mark such (so, none) = (so, λ events p. none events p.1)
marked_fault (Err (Wrong node at)) named mark such (so, none) = (so, λ events p. none events p.1)

pub none_answered : (r : Evidence) (n : ℕ) (p : Past) (m : Moment) (k : ℕ) → m.deed ≡ Answers k → slice_get r.answers k ≡ None → Lacks (IsFaultAt r.lives p m) (IsBehind r n p m) (Wrong m.node m.mark)
none_answered r n p m k is found =
    let Q : Deed → Type 0 = λ d. Lacks (IsDeedFault r.lives p m.node m.mark d) (IsBehindDeed r n p m.node d) (Wrong m.node m.mark) in
    let W : Option Recorded → Type 0 = λ o. NoneAre (IsAnsweredBy r n p m.node o) in
    subst Q (sym is) (refl, subst W (sym found) (λ events h. h))
