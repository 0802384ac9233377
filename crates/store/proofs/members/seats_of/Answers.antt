use Rattle.std.proofs.Common.{◌^◌, ◌≤◌, ℕ, cond, ◌≡◌, ◌∙◌, ◌+◌, ◌-◌, [], ◌∷◌, ◌++◌, arith, length, sym, ap, subst, refl, rules}
use Rattle.std.specs.Prelude.{is_some}
use Rattle.std.specs.Vec.Iter.{into_iter_items, into_iter_len}
use Rattle.std.proofs.lemmas.Iterator.Adapters.{YieldsList-from_vec}
use Rattle.std.proofs.lemmas.Iterator.Consumers.{YieldsList-end}
use Rattle.std.proofs.lemmas.List.{map-id}
use Rattle.std.proofs.lemmas.List.Sums.{count_by-le-length}
use Rattle.store.specs.Opening.{AreLaid, there_in}
use Rattle.store.specs.Pasts.{told_by}
use Rattle.store.specs.Tales.{tale_of}
use Rattle.store.proofs.Missing.{there_more}
use Rattle.store.proofs.Opening.{laid_more, laid_none}
use Rattle.store.proofs.members.seats_of.Goals as goal
use Rattle.store.proofs.members.seats_of.Goals.{then-is_some, else-is_some}

pub loop-image-init : goal.loop-image-init
loop-image-init g c = record { laid = laid_none (told_by c.args.past.now) c.new-seats.result.items c.new-seats.ensures.items; there = refl }

pub loop-image-preserved : goal.loop-image-preserved
loop-image-preserved g c =
    let before = c.loop-image.yielded in
    let seats = c.loop-image.seats.items in
    let image = c.in-Some.image in
    let next : c.new.result.member ≡ length seats + 1 = search rules in
    let len : c.len-member.result ≡ length seats = search rules in
    let place : c.len-member.result + 1 - 1 ≡ length seats = omega (arith, len) in
    let tale : c.new.result.tale ≡ tale_of (told_by c.args.past.now) (length seats) = c.new.ensures.3 ∙ c.tale.ensures (omega (arith)) ∙ ap (tale_of (told_by c.args.past.now)) place in
    let laid = laid_more (told_by c.args.past.now) before seats image c.new.result c.loop-image.invariant.laid (next ∙ ap (λ n. n + 1) c.loop-image.invariant.laid.all) c.new.ensures.1 c.new.ensures.2 (tale ∙ ap (tale_of (told_by c.args.past.now)) c.loop-image.invariant.laid.all) in
    record {
      laid = subst (λ xs. AreLaid (told_by c.args.past.now) (before ++ image ∷ []) xs) (sym c.in_ok-push.ensures.items) laid;
      there = elim c.if-is_some.branch [
        | then-is_some w ↦
            let most = count_by-le-length is_some before in
            let all = c.loop-image.invariant.laid.all in
            let fits : length seats + 1 ≤ 2 ^ 64 - 1 = search rules in
            let was = c.loop-image.invariant.there in
            let sum : w.saturating_add-there.result ≡ there_in before + 1 = omega (arith, w.saturating_add-there.ensures, was, most, all, fits) in
            let one : cond {A = ℕ} (is_some image) 1 0 ≡ 1 = ap (λ b. cond {A = ℕ} b 1 0) (sym c.is_some.ensures ∙ w.if-is_some.true) in
            let is = w.there-is in
            let more = there_more before image in
            omega (arith, is, sum, one, more)
        | else-is_some w ↦
            let none : cond {A = ℕ} (is_some image) 1 0 ≡ 0 = ap (λ b. cond {A = ℕ} b 1 0) (sym c.is_some.ensures ∙ w.if-is_some.false) in
            let is = w.there-is in
            let was = c.loop-image.invariant.there in
            let more = there_more before image in
            omega (arith, is, was, none, more)
      ];
    }

pub returns-clause-laid : goal.returns-clause-laid
returns-clause-laid g c =
    let images = c.args.images.items in
    let items : into_iter_items c.into_iter-image-iterator.result ≡ images = search rules in
    let count : into_iter_len c.into_iter-image-iterator.result ≡ length images = search rules in
    let t = YieldsList-end (YieldsList-from_vec images items count) c.loop-image.yielded c.loop-image.image-iterator c.loop-image.yielded_by c.next.result c.next.new.self c.in-None.is c.next.ensures.steps in
    subst (λ xs. AreLaid (told_by c.args.past.now) xs c.loop-image.seats.items) (sym (map-id c.loop-image.yielded) ∙ t.0) c.loop-image.invariant.laid

pub returns-clause-there : goal.returns-clause-there
returns-clause-there g c =
    let images = c.args.images.items in
    let items : into_iter_items c.into_iter-image-iterator.result ≡ images = search rules in
    let count : into_iter_len c.into_iter-image-iterator.result ≡ length images = search rules in
    let t = YieldsList-end (YieldsList-from_vec images items count) c.loop-image.yielded c.loop-image.image-iterator c.loop-image.yielded_by c.next.result c.next.new.self c.in-None.is c.next.ensures.steps in
    c.loop-image.invariant.there ∙ ap there_in (sym (map-id c.loop-image.yielded) ∙ t.0)
