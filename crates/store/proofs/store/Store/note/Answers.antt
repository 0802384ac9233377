use Rattle.std.proofs.Common.{◌≡◌, ◌∙◌, ◌+◌, ◌<◌, ◌≤◌, ◌∷◌, ◌++◌, [], ap, refl, rules, subst, sym}
use Rattle.std.proofs.lemmas.List.{take_all}
use Rattle.std.specs.List.{Contains}
use Rattle.flight.specs.Telling.{outcome_of}
use Rattle.store.specs.Recording.{AreOf}
use Rattle.store.proofs.Opening.{noted_again}
use Rattle.store.proofs.Recording.{of_none, of_one}
use Rattle.store.proofs.Noting.{IsNoted, noted_all, noted_more, noted_none, noted_still}
use Rattle.store.proofs.store.Store.note.Goals as goal
use Rattle.store.proofs.store.Store.note.Goals.{then-one-self+in_ok-outcome+in_ok-push, else-one-self}

pub loop-one-init : goal.loop-one-init
loop-one-init g c = record {
  same = refl;
  tells = of_none (Contains c.args.told.now) c.new-outcomes.result.items c.new-outcomes.ensures.items;
  all = subst (IsNoted c.args.self.now.noted c.args.told.now 0 c.args.self.now.noted) (sym c.new-outcomes.ensures.items) (noted_none c.args.self.now.noted c.args.told.now);
}

pub loop-one-preserved : goal.loop-one-preserved
loop-one-preserved g c =
    let all = c.args.told.now in
    let before = c.args.self.now.noted in
    let one = c.one-item.result in
    elim c.if-one-self.branch [
      | then-one-self+in_ok-outcome+in_ok-push w ↦
          let items : w.push.new.self.items ≡ c.loop-one.outcomes.items ++ outcome_of one ∷ [] = search rules in
          record {
            same = noted_again c.args.self.now c.loop-one.self c.if-one-self.self one.index c.loop-one.invariant.same w.self-is;
            all =
                let later : c.loop-one.self.noted < one.index = search rules in
                let n = noted_more before all c.loop-one.one-index c.loop-one.self.noted c.loop-one.outcomes.items one c.loop-one-test.true c.one-item.is later c.loop-one.invariant.all in
                subst (λ k. IsNoted before all (c.loop-one.one-index + 1) k c.if-one-self.outcomes.items) (sym (ap (λ t. t.noted) w.self-is))
                (subst (IsNoted before all (c.loop-one.one-index + 1) one.index) (sym (ap (λ v. v.items) w.outcomes-is ∙ items)) n);
            tells = subst (AreOf (Contains all)) (sym (ap (λ v. v.items) w.outcomes-is ∙ items)) (of_one all c.loop-one.outcomes.items one (c.loop-one.one-index, c.loop-one-test.true, sym c.one-item.is) c.loop-one.invariant.tells);
          }
      | else-one-self w ↦ record {
        same = noted_again c.args.self.now c.loop-one.self c.if-one-self.self c.loop-one.self.noted c.loop-one.invariant.same w.self-is;
        all =
            let early : one.index ≤ c.loop-one.self.noted = search rules in
            let n = noted_still before all c.loop-one.one-index c.loop-one.self.noted c.loop-one.outcomes.items one c.loop-one-test.true c.one-item.is early c.loop-one.invariant.all in
            subst (λ k. IsNoted before all (c.loop-one.one-index + 1) k c.if-one-self.outcomes.items) (sym (ap (λ t. t.noted) w.self-is))
            (subst (IsNoted before all (c.loop-one.one-index + 1) c.loop-one.self.noted) (sym (ap (λ v. v.items) w.outcomes-is)) n);
        tells = subst (AreOf (Contains all)) (sym (ap (λ v. v.items) w.outcomes-is)) c.loop-one.invariant.tells;
      }
    ]

pub returns-clause-tells : goal.returns-clause-tells
returns-clause-tells g c = subst (AreOf (Contains c.args.told.now)) (sym c.new.ensures) c.loop-one.invariant.tells

pub returns-clause-all : goal.returns-clause-all
returns-clause-all g c =
    let told = c.args.told.now in
    let all = noted_all c.args.self.now.noted told c.loop-one.one-index c.loop-one.self.noted c.loop-one.outcomes.items (take_all c.loop-one.one-index told c.loop-one-test.false) c.loop-one.invariant.all in
    (c.new.ensures ∙ all.0, all.1)
