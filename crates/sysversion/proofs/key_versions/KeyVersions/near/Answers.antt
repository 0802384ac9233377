use Rattle.std.proofs.Common.{◌≡◌, ◌∙◌, ◌++◌, ◌∷◌, ◌<◌, ℕ, [], filter, length, map, sym, ap, subst, inl, inr, refl, arith}
use Rattle.std.proofs.lemmas.List.{length-map, map-append, append-nil}
use Rattle.rowlaws.specs.Rows.{Has}
use Rattle.sysversion.specs.Lists.{version_of}
use Rattle.sysversion.specs.Days.{has_day, nearly_has}
use Rattle.sysversion.proofs.Open.{get_mapped}
use Rattle.sysversion.proofs.Tabled.{got}
use Rattle.sysversion.proofs.Near.{picked, picked_next, all_near, few_near, all_within}
use Rattle.sysversion.proofs.key_versions.KeyVersions.near.Goals as goal

pub loop-place-init : goal.loop-place-init
loop-place-init c =
    let gives = c.into_iter-place-iterator.ensures.into_iter_gives in
    let ps = c.in_ok-places.places in
    let list = c.self.inside.list in
    let within : (p : ℕ) → Has ps.keys p → p < length (map version_of list) = all_within c.self.inside.reached (map version_of list) c.self.invariant c.args.day.number ps gives.4 c.in_ok-places.ensures.only c.in_ok-places.ensures.each in
    let long = length-map list version_of in
    let same = ap length c.versions-versions.ensures in
    record {
      found = ap (λ found. map (λ v. version_of v.now) found ++ picked (map version_of c.versions-versions.result.now) c.into_iter-place-iterator.result) c.new-found.ensures.items;
      within = λ p has. (let less = within p (subst (λ qs. Has qs p) gives.0 has) in omega (arith, less, long, same));
      few = omega arith;
      counted = (let none = ap length c.new-found.ensures.items in omega (arith, none));
    }

pub at-requires : goal.at-requires
at-requires c = c.loop-place.invariant.within c.in-Some.place.now (subst (λ qs. Has qs c.in-Some.place.now) (sym c.in-Some.ensures.steps) (inl refl))

pub loop-place-preserved : goal.loop-place-preserved
loop-place-preserved c =
    let inv = c.loop-place.invariant in
    let stored = c.versions-versions.result.now in
    let p = c.in-Some.place.now in
    let less = inv.within p (subst (λ qs. Has qs p) (sym c.in-Some.ensures.steps) (inl refl)) in
    let at = get_mapped version_of stored p c.at.result.now (got stored p c.at.result.now less c.at.ensures.item) in
    let here = subst (λ qs. map (λ v. version_of v.now) c.loop-place.found.items ++ picked (map version_of stored) qs ≡ picked (map version_of stored) c.into_iter-place-iterator.result) c.in-Some.ensures.steps inv.found in
    let next = picked_next (map version_of stored) p c.next.new.self (version_of c.at.result.now) (map (λ v. version_of v.now) c.loop-place.found.items) (picked (map version_of stored) c.into_iter-place-iterator.result) at here in
    let pushed = ap (map (λ v. version_of v.now)) c.in_ok-push.ensures.items ∙ map-append (λ v. version_of v.now) c.loop-place.found.items (c.at.result ∷ []) in
    let one = ap length c.in-Some.ensures.steps in
    let few = inv.few in
    let counted = inv.counted in
    let more = c.at.ensures.counted in
    let long = c.in_ok-push.ensures.len in
    let small = c.loop-place.found.small in
    record {
      found = ap (λ vs. vs ++ picked (map version_of stored) c.next.new.self) pushed ∙ next;
      within = λ q has. inv.within q (subst (λ qs. Has qs q) (sym c.in-Some.ensures.steps) (inr has));
      few = omega (arith, one, few, more);
      counted = omega (arith, counted, more, long, small);
    }

pub returns-in_err-push-clause-few : goal.returns-in_err-push-clause-few
returns-in_err-push-clause-few c =
    let gives = c.into_iter-place-iterator.ensures.into_iter_gives in
    let most = few_near c.self.inside.reached (map version_of c.self.inside.list) c.self.invariant c.args.day.number c.in_ok-places.places gives.4 c.in_ok-places.ensures.only c.in_ok-places.ensures.each in
    let one = ap length c.in-Some.ensures.steps in
    let all = ap length gives.0 in
    let few = c.loop-place.invariant.few in
    let more = c.at.ensures.counted in
    let same = ap (λ list. length (filter (nearly_has c.args.day.number) (map version_of list))) c.self.view_is in
    omega (arith, most, one, all, few, more, same)

pub returns-clause-each : goal.returns-clause-each
returns-clause-each c =
    let gives = c.into_iter-place-iterator.ensures.into_iter_gives in
    let list = c.self.inside.list in
    let near = all_near c.self.inside.reached (map version_of list) c.self.invariant c.args.day.number c.in_ok-places.places gives.4 c.in_ok-places.ensures.only c.in_ok-places.ensures.each in
    let found = c.loop-place.invariant.found in
    let done = sym (append-nil (map (λ v. version_of v.now) c.loop-place.found.items)) ∙ subst (λ qs. map (λ v. version_of v.now) c.loop-place.found.items ++ picked (map version_of c.versions-versions.result.now) qs ≡ picked (map version_of c.versions-versions.result.now) c.into_iter-place-iterator.result) c.in-None.ensures.steps.0 found in
    ap (filter (has_day c.args.day.number)) (done ∙ (λ i. picked (map version_of (c.versions-versions.ensures i)) (gives.0 i))) ∙ near ∙ ap (λ list. filter (has_day c.args.day.number) (map version_of list)) c.self.view_is

pub returns-clause-few : goal.returns-clause-few
returns-clause-few c =
    let gives = c.into_iter-place-iterator.ensures.into_iter_gives in
    let most = few_near c.self.inside.reached (map version_of c.self.inside.list) c.self.invariant c.args.day.number c.in_ok-places.places gives.4 c.in_ok-places.ensures.only c.in_ok-places.ensures.each in
    let all = ap length gives.0 in
    let few = c.loop-place.invariant.few in
    let same = ap (λ list. length (filter (nearly_has c.args.day.number) (map version_of list))) c.self.view_is in
    omega (arith, most, all, few, same)
