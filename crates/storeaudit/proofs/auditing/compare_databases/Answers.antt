use Rattle.std.proofs.Common.{◌≡◌, ◌∙◌, ℕ, ◌+◌, List, [], ◌∷◌, ◌++◌, Option, Some, None, length, length-append, ap, arith, refl, rules, sym, subst}
use Rattle.std.specs.Vec.Iter.{into_iter_items, into_iter_len}
use Rattle.std.proofs.lemmas.Iterator.Adapters.{YieldsList-from_vec}
use Rattle.std.proofs.lemmas.Iterator.Consumers.{YieldsList-end}
use Rattle.std.proofs.lemmas.List.{map-id}
use Rattle.playback.specs.Scenes.{scene_of}
use Rattle.storeaudit.specs.Found.{AreAlike, IsNext}
use Rattle.storeaudit.proofs.Alike.{next}
use Rattle.storeaudit.proofs.auditing.compare_databases.Goals as goal

pub loop-database-preserved : goal.loop-database-preserved
loop-database-preserved g c =
    let holds = g.K.Keeper.holds in
    let sound = g.K.Keeper.is_sound in
    let was = c.loop-database.invariant in
    let xs = c.loop-database.yielded in
    let s = scene_of c.args.play.now in
    let mid = scene_of c.loop-database.play in
    let member : ℕ = c.in-Some-checked_add.member in
    let one : member ≡ c.loop-database.before + 1 = search rules in
    let longer : length (xs ++ c.in-Some.database ∷ []) ≡ length xs + 1 = length-append xs (c.in-Some.database ∷ []) in
    let step : IsNext holds sound (Some None) mid member c.loop-database.missing.items c.push.new.self.items mid = (c.in_ok-push-in-None-database.ensures.items, refl) in
    let more = next holds sound xs None s mid mid c.loop-database.before member c.loop-database.missing.items c.push.new.self.items was.count one was.alike step in
    record {
      count = omega (arith, was.count, one, longer);
      alike = subst (λ x. AreAlike holds sound (xs ++ x ∷ []) s member c.push.new.self.items mid) (sym c.in-None-database.is) more;
    }

pub loop-database-preserved-in_ok-compare-in-Some-database : goal.loop-database-preserved-in_ok-compare-in-Some-database
loop-database-preserved-in_ok-compare-in-Some-database g c =
    let holds = g.K.Keeper.holds in
    let sound = g.K.Keeper.is_sound in
    let was = c.loop-database.invariant in
    let xs = c.loop-database.yielded in
    let s = scene_of c.args.play.now in
    let mid = scene_of c.loop-database.play in
    let end = scene_of c.compare.new.play in
    let missing = c.loop-database.missing.items in
    let member : ℕ = c.in-Some-checked_add.member in
    let one : member ≡ c.loop-database.before + 1 = search rules in
    let longer : length (xs ++ c.in-Some.database ∷ []) ≡ length xs + 1 = length-append xs (c.in-Some.database ∷ []) in
    let step : IsNext holds sound (Some (Some c.in-Some-database.database)) mid member missing missing end = (refl, c.in_ok-compare-in-Some-database.ensures) in
    let more = next holds sound xs (Some c.in-Some-database.database) s mid end c.loop-database.before member missing missing was.count one was.alike step in
    record {
      count = omega (arith, was.count, one, longer);
      alike = subst (λ x. AreAlike holds sound (xs ++ x ∷ []) s member missing end) (sym c.in-Some-database.is) more;
    }

pub returns : goal.returns
returns g c =
    let holds = g.K.Keeper.holds in
    let sound = g.K.Keeper.is_sound in
    let databases = c.args.databases.items in
    let items : into_iter_items c.into_iter-database-iterator.result ≡ databases = search rules in
    let many : into_iter_len c.into_iter-database-iterator.result ≡ length databases = search rules in
    let t = YieldsList-end (YieldsList-from_vec databases items many) c.loop-database.yielded c.loop-database.database-iterator c.loop-database.yielded_by c.next.result c.next.new.self c.in-None.is c.next.ensures.steps in
    let all : c.loop-database.yielded ≡ databases = sym (map-id c.loop-database.yielded) ∙ t.0 in
    let members : length databases ≡ c.args.form.now.members = search rules in
    let count : c.loop-database.before ≡ c.args.form.now.members = c.loop-database.invariant.count ∙ ap length all ∙ members in
    let s = scene_of c.args.play.now in
    let end = scene_of c.loop-database.play in
    let missing = c.loop-database.missing.items in
    let whole = subst (λ xs. AreAlike holds sound xs s c.loop-database.before missing end) all c.loop-database.invariant.alike in
    subst (λ (n : ℕ). AreAlike holds sound databases s n missing end) count whole
