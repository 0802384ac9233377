use Rattle.std.proofs.Common.{◌≡◌, ℕ, ap, subst}
use Rattle.std.specs.Prelude.{◌⊎◌}
use Rattle.std.proofs.lemmas.Result.{on_ok_weaker, IfErr-weaker}
use Rattle.store.specs.Applied.{found}
use Rattle.storeviews.specs.declared.windows.Windows.{Windows}
use Rattle.storeviews.specs.Showing.{window_in, IsBrought, IsLater, IsStill}
use Rattle.storeviews.proofs.windows.Windows.publish.Goals as goal

pub returns-clause-brought : goal.returns-clause-brought
returns-clause-brought g c =
    let before : (i : ℕ) → window_in c.next_mark.new.self i ≡ window_in c.args.self.now i = λ i. ap (λ (w : Windows). window_in w i) c.next_mark.ensures.same in
    on_ok_weaker c.bring_all.result (λ brought at. subst (λ o. IsBrought g.K.LogReader.is_honest (found c.bring_all.new.store.seats.items at (λ seat. seat.node)) o (window_in c.bring_all.new.self at)) (before at) (brought at)) c.bring_all.ensures.brought

pub returns-clause-failed : goal.returns-clause-failed
returns-clause-failed g c =
    let before : (i : ℕ) → window_in c.next_mark.new.self i ≡ window_in c.args.self.now i = λ i. ap (λ (w : Windows). window_in w i) c.next_mark.ensures.same in
    IfErr-weaker c.bring_all.result _ _ (λ refusal failed other at. subst (λ o. IsBrought g.K.LogReader.is_honest (found c.bring_all.new.store.seats.items at (λ seat. seat.node)) o (window_in c.bring_all.new.self at) ⊎ IsStill o (window_in c.bring_all.new.self at)) (before at) (failed other at)) c.bring_all.ensures.failed

pub returns-clause-later : goal.returns-clause-later
returns-clause-later g c at =
    subst (λ o. IsLater o (window_in c.bring_all.new.self at)) (ap (λ (w : Windows). window_in w at) c.next_mark.ensures.same) (c.bring_all.ensures.later at)
