use Rattle.std.proofs.Common.{◌≡◌, ◌∙◌, ℕ, Option, MatchOption, List, [], ◌++◌, ◌∷◌, refl, sym, ap, subst, rules, to_z, of_z, w64, true, false, inl, inr, ⊎_elim}
use Rattle.std.specs.List.{slice_range}
use Rattle.node.specs.Member.{me_of, member_of, members_of, tables_of}
use Rattle.model.specs.declared.entry.Entry.{Entry}
use Rattle.history.specs.declared.item.Item.{Item}
use Rattle.view.specs.Publishing.{published, pending}
use Rattle.flight.specs.Lives.{step_of, with_outcomes}
use Rattle.flight.specs.declared.life.Step.{Step}
use Rattle.flight.specs.declared.life.Life.{Life}
use Rattle.flight.specs.declared.life.Ending.TheVariants.{Torn}
use Rattle.cells.specs.declared.cell.Out.{Out}
use Rattle.node.specs.View.{IsGiven}
use Rattle.node.specs.Work.{Work}
use Rattle.cells.specs.Publishing.{marked, marked_seal, items_by}
use Rattle.history.specs.Items.{Rises}
use Rattle.model.specs.Kept.{node_after}
use Rattle.node.specs.Member.{effect_at}
use Rattle.cells.specs.Lives.{work_of}
use Rattle.cells.specs.Publishing.{items_of}
use Rattle.cells.proofs.Listing.{in_order, goes_down, given_after}
use Rattle.cells.proofs.Rising.{rises_whole, rises_torn, made_for, made_of}
use Rattle.cells.proofs.Replays.{seated, stepped_given, stepped_refused, replayed_given, replayed_refused, torn_left}
use Rattle.cells.proofs.Items.{items_in, one_more, OneMore, same_grows, all_listed, still_listed, are_first, whole_left, items_still, listed_still, named_still}
use Rattle.cells.proofs.Telling.{told_whole, told_given, told_none, told_still, untold_torn, read_whole, read_torn, made_at, recorded_whole, recorded_down, nothing_given}
use Rattle.cells.proofs.cell.Cell.feed.Goals as goal

-- ---- a step that was made whole

pub invariant_of-self-in-Ok-step-clause-replayed : goal.invariant_of-self-in-Ok-step-clause-replayed
invariant_of-self-in-Ok-step-clause-replayed g c = λ up.
    let same : to_z w64 (of_z w64 c.args.reading) ≡ c.args.reading = search rules in
    let first : c.new-step.result ≡ step_of c.in-Some.mark c.args.reading c.args.packet = made_at c.new-step.result c.in-Some.mark (to_z w64 (of_z w64 c.args.reading)) c.args.reading c.args.packet same c.new-step.ensures in
    let old = c.args.self.now in
    let was = old.replayed c.in-Ok-step.ensures.up.0 in
    let s : Step = c.with_outcomes.result in
    let made : s ≡ with_outcomes c.in-Ok-note.outcomes (step_of c.in-Some.mark c.args.reading c.args.packet) = c.with_outcomes.ensures ∙ ap (λ (x : Step). with_outcomes c.in-Ok-note.outcomes x) first in
    let items = c.push_reserved.ensures.items ∙ ap (λ xs. xs ++ s ∷ []) c.reserve.ensures.items in
    let seat = c.step.ensures.group in
    (λ honest. replayed_given (seated old.node) (seated c.step.new.self) old.life.opening old.life.steps.items _ s _ c.in-Ok-step.given seat.0 seat.1 seat.2 items (made_of s c.in-Some.mark c.args.reading c.args.packet c.in-Ok.work c.in-Ok-note.outcomes made c.in-Ok.ensures) (was.0 (c.step.ensures.honest honest)) (c.in-Ok-step.ensures.done c.in-Ok-step.ensures.up.0 honest), was.1)

pub invariant_of-self-in-Ok-step-clause-rising : goal.invariant_of-self-in-Ok-step-clause-rising
invariant_of-self-in-Ok-step-clause-rising g c =
    let same : to_z w64 (of_z w64 c.args.reading) ≡ c.args.reading = search rules in
    let first : c.new-step.result ≡ step_of c.in-Some.mark c.args.reading c.args.packet = made_at c.new-step.result c.in-Some.mark (to_z w64 (of_z w64 c.args.reading)) c.args.reading c.args.packet same c.new-step.ensures in
    let old = c.args.self.now in
    let s : Step = c.with_outcomes.result in
    let made : s ≡ with_outcomes c.in-Ok-note.outcomes (step_of c.in-Some.mark c.args.reading c.args.packet) = c.with_outcomes.ensures ∙ ap (λ (x : Step). with_outcomes c.in-Ok-note.outcomes x) first in
    let items = c.push_reserved.ensures.items ∙ ap (λ xs. xs ++ s ∷ []) c.reserve.ensures.items in
    rises_whole old.life _ s (old.replayed c.if-not-self.false).1 old.rising (made_for old.life s c.in-Some.mark c.args.reading c.args.packet c.in-Ok-note.outcomes made (sym c.in-Some.is ∙ c.mark_for.ensures)) items

pub invariant_of-self-in-Ok-step-clause-listed : goal.invariant_of-self-in-Ok-step-clause-listed
invariant_of-self-in-Ok-step-clause-listed g c = λ honest.
    let same : to_z w64 (of_z w64 c.args.reading) ≡ c.args.reading = search rules in
    let first : c.new-step.result ≡ step_of c.in-Some.mark c.args.reading c.args.packet = made_at c.new-step.result c.in-Some.mark (to_z w64 (of_z w64 c.args.reading)) c.args.reading c.args.packet same c.new-step.ensures in
    let old = c.args.self.now in
    let up = c.in-Ok-step.ensures.up.0 in
    let before = c.step.ensures.honest honest in
    let s : Step = c.with_outcomes.result in
    let made : s ≡ with_outcomes c.in-Ok-note.outcomes (step_of c.in-Some.mark c.args.reading c.args.packet) = c.with_outcomes.ensures ∙ ap (λ (x : Step). with_outcomes c.in-Ok-note.outcomes x) first in
    let items = c.push_reserved.ensures.items ∙ ap (λ xs. xs ++ s ∷ []) c.reserve.ensures.items in
    let seat = c.step.ensures.group in
    let is = stepped_given (tables_of old.node) (members_of old.node) (me_of old.node) (member_of old.node) s c.in-Ok.work (member_of c.step.new.self) c.in-Ok-step.given (made_of s c.in-Some.mark c.args.reading c.args.packet c.in-Ok.work c.in-Ok-note.outcomes made c.in-Ok.ensures) (c.in-Ok-step.ensures.done up honest) in
    (one_more (seated old.node) (seated c.step.new.self) old.life.opening old.life.steps.items c.push_reserved.new.self.items s seat.0 seat.1 seat.2 items ((old.replayed up).0 before) is (c.in-Ok-step.ensures.grows honest) (record { entries = old.listed before; sealed = old.sealed before })).listed.entries

pub invariant_of-self-in-Ok-step-clause-sealed : goal.invariant_of-self-in-Ok-step-clause-sealed
invariant_of-self-in-Ok-step-clause-sealed g c = λ honest.
    let same : to_z w64 (of_z w64 c.args.reading) ≡ c.args.reading = search rules in
    let first : c.new-step.result ≡ step_of c.in-Some.mark c.args.reading c.args.packet = made_at c.new-step.result c.in-Some.mark (to_z w64 (of_z w64 c.args.reading)) c.args.reading c.args.packet same c.new-step.ensures in
    let old = c.args.self.now in
    let up = c.in-Ok-step.ensures.up.0 in
    let before = c.step.ensures.honest honest in
    let s : Step = c.with_outcomes.result in
    let made : s ≡ with_outcomes c.in-Ok-note.outcomes (step_of c.in-Some.mark c.args.reading c.args.packet) = c.with_outcomes.ensures ∙ ap (λ (x : Step). with_outcomes c.in-Ok-note.outcomes x) first in
    let items = c.push_reserved.ensures.items ∙ ap (λ xs. xs ++ s ∷ []) c.reserve.ensures.items in
    let seat = c.step.ensures.group in
    let is = stepped_given (tables_of old.node) (members_of old.node) (me_of old.node) (member_of old.node) s c.in-Ok.work (member_of c.step.new.self) c.in-Ok-step.given (made_of s c.in-Some.mark c.args.reading c.args.packet c.in-Ok.work c.in-Ok-note.outcomes made c.in-Ok.ensures) (c.in-Ok-step.ensures.done up honest) in
    (one_more (seated old.node) (seated c.step.new.self) old.life.opening old.life.steps.items c.push_reserved.new.self.items s seat.0 seat.1 seat.2 items ((old.replayed up).0 before) is (c.in-Ok-step.ensures.grows honest) (record { entries = old.listed before; sealed = old.sealed before })).listed.sealed

pub invariant_of-self-in-Ok-step-clause-whole : goal.invariant_of-self-in-Ok-step-clause-whole
invariant_of-self-in-Ok-step-clause-whole g c = λ now honest.
    let same : to_z w64 (of_z w64 c.args.reading) ≡ c.args.reading = search rules in
    let first : c.new-step.result ≡ step_of c.in-Some.mark c.args.reading c.args.packet = made_at c.new-step.result c.in-Some.mark (to_z w64 (of_z w64 c.args.reading)) c.args.reading c.args.packet same c.new-step.ensures in
    let old = c.args.self.now in
    let new = c.step.new.self in
    let up = c.in-Ok-step.ensures.up.0 in
    let before = c.step.ensures.honest honest in
    let s : Step = c.with_outcomes.result in
    let made : s ≡ with_outcomes c.in-Ok-note.outcomes (step_of c.in-Some.mark c.args.reading c.args.packet) = c.with_outcomes.ensures ∙ ap (λ (x : Step). with_outcomes c.in-Ok-note.outcomes x) first in
    let items = c.push_reserved.ensures.items ∙ ap (λ xs. xs ++ s ∷ []) c.reserve.ensures.items in
    let seat = c.step.ensures.group in
    let is = stepped_given (tables_of old.node) (members_of old.node) (me_of old.node) (member_of old.node) s c.in-Ok.work (member_of new) c.in-Ok-step.given (made_of s c.in-Some.mark c.args.reading c.args.packet c.in-Ok.work c.in-Ok-note.outcomes made c.in-Ok.ensures) (c.in-Ok-step.ensures.done up honest) in
    let more : OneMore (seated old.node) (seated new) old.life.opening old.life.steps.items c.push_reserved.new.self.items s = one_more (seated old.node) (seated new) old.life.opening old.life.steps.items c.push_reserved.new.self.items s seat.0 seat.1 seat.2 items ((old.replayed up).0 before) is (c.in-Ok-step.ensures.grows honest) (record { entries = old.listed before; sealed = old.sealed before }) in
    let by : List Item = items_by s.mark (member_of old.node) (member_of new) in
    let given = c.in-Ok-step.given in
    let waits : pending c.note.new.publisher ≡ pending old.publisher ++ by =
    c.in-Ok-note.ensures.pending
    ∙ ap (λ (es : List Entry). pending old.publisher ++ (marked c.in-Some.mark es ++ marked_seal c.in-Some.mark given.sealed)) (c.in-Ok-step.ensures.applied honest)
    ∙ ap (λ (t : Option ℕ). pending old.publisher ++ (marked c.in-Some.mark (slice_range (member_of new).log (member_of old.node).commit (member_of new).commit) ++ marked_seal c.in-Some.mark t)) (c.in-Ok-step.ensures.sealed honest)
    ∙ ap (λ (x : Step). pending old.publisher ++ items_by x.mark (member_of old.node) (member_of new)) (sym made) in
    let all : published c.publish_all.new.publisher ++ pending c.publish_all.new.publisher ≡ published old.publisher ++ pending c.note.new.publisher = c.publish_all.ensures.all ∙ ap (λ (xs : List Item). xs ++ pending c.note.new.publisher) c.note.ensures.same.2 in
    all_listed (items_in (seated old.node) old.life.opening old.life.steps.items) (published old.publisher) (pending old.publisher) (items_in (seated new) old.life.opening c.push_reserved.new.self.items) by (pending c.note.new.publisher) _ (old.whole up before) waits more.items all

pub invariant_of-self-in-Ok-step-clause-named : goal.invariant_of-self-in-Ok-step-clause-named
invariant_of-self-in-Ok-step-clause-named g c =
    let old = c.args.self.now in
    let node = old.node in
    let seat = c.step.ensures.group in
    let first = named_still (tables_of node) (tables_of node) (me_of node) (me_of node) old.life.opening.mark old.publisher c.note.new.publisher old.named c.note.ensures.same.0 refl refl in
    named_still (tables_of node) (tables_of c.step.new.self) (me_of node) (me_of c.step.new.self) old.life.opening.mark c.note.new.publisher c.publish_all.new.publisher first c.publish_all.ensures.same.0 seat.0 seat.2

-- ---- a step that was refused

pub invariant_of-self-in-Err-Kept-clause-replayed : goal.invariant_of-self-in-Err-Kept-clause-replayed
invariant_of-self-in-Err-Kept-clause-replayed g c = λ up.
    let same : to_z w64 (of_z w64 c.args.reading) ≡ c.args.reading = search rules in
    let first : c.new-step.result ≡ step_of c.in-Some.mark c.args.reading c.args.packet = made_at c.new-step.result c.in-Some.mark (to_z w64 (of_z w64 c.args.reading)) c.args.reading c.args.packet same c.new-step.ensures in
    let old = c.args.self.now in
    let step = rw c.in-Err-Kept.field-0-is at c.in-Err-Kept.ensures in
    let was = old.replayed c.if-not-self.false in
    let s : Step = c.new-step.result in
    let items = c.push_reserved-in-Err-Kept.ensures.items ∙ ap (λ xs. xs ++ s ∷ []) c.reserve.ensures.items in
    let seat = c.step.ensures.group in
    (λ honest. replayed_refused (seated old.node) (seated c.step.new.self) old.life.opening old.life.steps.items _ s _ _ seat.0 seat.1 seat.2 items (made_of s c.in-Some.mark c.args.reading c.args.packet c.in-Ok.work [] first c.in-Ok.ensures) (was.0 (c.step.ensures.honest honest)) (step.done c.if-not-self.false honest) (step.same honest), was.1)

pub invariant_of-self-in-Err-Kept-clause-rising : goal.invariant_of-self-in-Err-Kept-clause-rising
invariant_of-self-in-Err-Kept-clause-rising g c =
    let same : to_z w64 (of_z w64 c.args.reading) ≡ c.args.reading = search rules in
    let first : c.new-step.result ≡ step_of c.in-Some.mark c.args.reading c.args.packet = made_at c.new-step.result c.in-Some.mark (to_z w64 (of_z w64 c.args.reading)) c.args.reading c.args.packet same c.new-step.ensures in
    let old = c.args.self.now in
    let s : Step = c.new-step.result in
    let items = c.push_reserved-in-Err-Kept.ensures.items ∙ ap (λ xs. xs ++ s ∷ []) c.reserve.ensures.items in
    rises_whole old.life _ s (old.replayed c.if-not-self.false).1 old.rising (made_for old.life s c.in-Some.mark c.args.reading c.args.packet [] first (sym c.in-Some.is ∙ c.mark_for.ensures)) items

pub invariant_of-self-in-Err-Kept-clause-listed : goal.invariant_of-self-in-Err-Kept-clause-listed
invariant_of-self-in-Err-Kept-clause-listed g c = λ honest.
    let same : to_z w64 (of_z w64 c.args.reading) ≡ c.args.reading = search rules in
    let first : c.new-step.result ≡ step_of c.in-Some.mark c.args.reading c.args.packet = made_at c.new-step.result c.in-Some.mark (to_z w64 (of_z w64 c.args.reading)) c.args.reading c.args.packet same c.new-step.ensures in
    let old = c.args.self.now in
    let new = c.step.new.self in
    let step = rw c.in-Err-Kept.field-0-is at c.in-Err-Kept.ensures in
    let up = c.if-not-self.false in
    let before = c.step.ensures.honest honest in
    let s : Step = c.new-step.result in
    let items = c.push_reserved-in-Err-Kept.ensures.items ∙ ap (λ xs. xs ++ s ∷ []) c.reserve.ensures.items in
    let seat = c.step.ensures.group in
    let is = stepped_refused (tables_of old.node) (members_of old.node) (me_of old.node) (member_of old.node) s c.in-Ok.work (member_of new) _ (made_of s c.in-Some.mark c.args.reading c.args.packet c.in-Ok.work [] first c.in-Ok.ensures) (step.done up honest) (step.same honest) in
    (one_more (seated old.node) (seated new) old.life.opening old.life.steps.items c.push_reserved-in-Err-Kept.new.self.items s seat.0 seat.1 seat.2 items ((old.replayed up).0 before) is (same_grows (member_of old.node) (member_of new) (step.same honest)) (record { entries = old.listed before; sealed = old.sealed before })).listed.entries

pub invariant_of-self-in-Err-Kept-clause-sealed : goal.invariant_of-self-in-Err-Kept-clause-sealed
invariant_of-self-in-Err-Kept-clause-sealed g c = λ honest.
    let same : to_z w64 (of_z w64 c.args.reading) ≡ c.args.reading = search rules in
    let first : c.new-step.result ≡ step_of c.in-Some.mark c.args.reading c.args.packet = made_at c.new-step.result c.in-Some.mark (to_z w64 (of_z w64 c.args.reading)) c.args.reading c.args.packet same c.new-step.ensures in
    let old = c.args.self.now in
    let new = c.step.new.self in
    let step = rw c.in-Err-Kept.field-0-is at c.in-Err-Kept.ensures in
    let up = c.if-not-self.false in
    let before = c.step.ensures.honest honest in
    let s : Step = c.new-step.result in
    let items = c.push_reserved-in-Err-Kept.ensures.items ∙ ap (λ xs. xs ++ s ∷ []) c.reserve.ensures.items in
    let seat = c.step.ensures.group in
    let is = stepped_refused (tables_of old.node) (members_of old.node) (me_of old.node) (member_of old.node) s c.in-Ok.work (member_of new) _ (made_of s c.in-Some.mark c.args.reading c.args.packet c.in-Ok.work [] first c.in-Ok.ensures) (step.done up honest) (step.same honest) in
    (one_more (seated old.node) (seated new) old.life.opening old.life.steps.items c.push_reserved-in-Err-Kept.new.self.items s seat.0 seat.1 seat.2 items ((old.replayed up).0 before) is (same_grows (member_of old.node) (member_of new) (step.same honest)) (record { entries = old.listed before; sealed = old.sealed before })).listed.sealed

pub invariant_of-self-in-Err-Kept-clause-whole : goal.invariant_of-self-in-Err-Kept-clause-whole
invariant_of-self-in-Err-Kept-clause-whole g c = λ now honest.
    let same : to_z w64 (of_z w64 c.args.reading) ≡ c.args.reading = search rules in
    let first : c.new-step.result ≡ step_of c.in-Some.mark c.args.reading c.args.packet = made_at c.new-step.result c.in-Some.mark (to_z w64 (of_z w64 c.args.reading)) c.args.reading c.args.packet same c.new-step.ensures in
    let old = c.args.self.now in
    let new = c.step.new.self in
    let step = rw c.in-Err-Kept.field-0-is at c.in-Err-Kept.ensures in
    let up = c.if-not-self.false in
    let before = c.step.ensures.honest honest in
    let s : Step = c.new-step.result in
    let items = c.push_reserved-in-Err-Kept.ensures.items ∙ ap (λ xs. xs ++ s ∷ []) c.reserve.ensures.items in
    let seat = c.step.ensures.group in
    let is = stepped_refused (tables_of old.node) (members_of old.node) (me_of old.node) (member_of old.node) s c.in-Ok.work (member_of new) _ (made_of s c.in-Some.mark c.args.reading c.args.packet c.in-Ok.work [] first c.in-Ok.ensures) (step.done up honest) (step.same honest) in
    let more : OneMore (seated old.node) (seated new) old.life.opening old.life.steps.items c.push_reserved-in-Err-Kept.new.self.items s = one_more (seated old.node) (seated new) old.life.opening old.life.steps.items c.push_reserved-in-Err-Kept.new.self.items s seat.0 seat.1 seat.2 items ((old.replayed up).0 before) is (same_grows (member_of old.node) (member_of new) (step.same honest)) (record { entries = old.listed before; sealed = old.sealed before }) in
    still_listed s.mark (member_of old.node) (member_of new) (items_in (seated old.node) old.life.opening old.life.steps.items) (items_in (seated new) old.life.opening c.push_reserved-in-Err-Kept.new.self.items) (published old.publisher ++ pending old.publisher) (step.same honest) (old.whole up before) more.items

pub invariant_of-self-in-Err-Kept-clause-named : goal.invariant_of-self-in-Err-Kept-clause-named
invariant_of-self-in-Err-Kept-clause-named g c =
    let old = c.args.self.now in
    let node = old.node in
    let seat = c.step.ensures.group in
    named_still (tables_of node) (tables_of c.step.new.self) (me_of node) (me_of c.step.new.self) old.life.opening.mark old.publisher old.publisher old.named (refl, refl, refl) seat.0 seat.2

-- ---- a step that went down

pub invariant_of-self-in-Err-Down-clause-rising : goal.invariant_of-self-in-Err-Down-clause-rising
invariant_of-self-in-Err-Down-clause-rising g c =
    let same : to_z w64 (of_z w64 c.args.reading) ≡ c.args.reading = search rules in
    let first : c.new-step.result ≡ step_of c.in-Some.mark c.args.reading c.args.packet = made_at c.new-step.result c.in-Some.mark (to_z w64 (of_z w64 c.args.reading)) c.args.reading c.args.packet same c.new-step.ensures in
    let old = c.args.self.now in
    let s : Step = c.new-step.result in
    rises_torn old.life _ s (old.replayed c.if-not-self.false).1 old.rising (made_for old.life s c.in-Some.mark c.args.reading c.args.packet [] first (sym c.in-Some.is ∙ c.mark_for.ensures)) c.reserve.ensures.items

pub invariant_of-self-in-Err-Down-clause-held : goal.invariant_of-self-in-Err-Down-clause-held
invariant_of-self-in-Err-Down-clause-held g c = λ down d may.
    let same : to_z w64 (of_z w64 c.args.reading) ≡ c.args.reading = search rules in
    let first : c.new-step.result ≡ step_of c.in-Some.mark c.args.reading c.args.packet = made_at c.new-step.result c.in-Some.mark (to_z w64 (of_z w64 c.args.reading)) c.args.reading c.args.packet same c.new-step.ensures in
    let old = c.args.self.now in
    let step = rw c.in-Err-Down.field-0-is at c.in-Err-Down.ensures in
    let honest = g.met.K.LogReader.only_honest c.step.new.self.keeper d may in
    let was = old.replayed c.if-not-self.false in
    let s : Step = c.new-step.result in
    let seat = c.step.ensures.group in
    torn_left (seated old.node) (seated c.step.new.self) old.life.opening old.life.steps.items _ s _ d seat.0 seat.1 seat.2 c.reserve.ensures.items (made_of s c.in-Some.mark c.args.reading c.args.packet c.in-Ok.work [] first c.in-Ok.ensures) (was.0 (c.step.ensures.honest honest)) (step.torn d may)

pub invariant_of-self-in-Err-Down-clause-listed : goal.invariant_of-self-in-Err-Down-clause-listed
invariant_of-self-in-Err-Down-clause-listed g c = λ honest.
    let old = c.args.self.now in
    let seat = c.step.ensures.group in
    (listed_still (seated old.node) (seated c.step.new.self) old.life.opening old.life.steps.items c.reserve.new.self.items seat.0 seat.1 seat.2 c.reserve.ensures.items (record { entries = old.listed (c.step.ensures.honest honest); sealed = old.sealed (c.step.ensures.honest honest) })).entries

pub invariant_of-self-in-Err-Down-clause-sealed : goal.invariant_of-self-in-Err-Down-clause-sealed
invariant_of-self-in-Err-Down-clause-sealed g c = λ honest.
    let old = c.args.self.now in
    let seat = c.step.ensures.group in
    (listed_still (seated old.node) (seated c.step.new.self) old.life.opening old.life.steps.items c.reserve.new.self.items seat.0 seat.1 seat.2 c.reserve.ensures.items (record { entries = old.listed (c.step.ensures.honest honest); sealed = old.sealed (c.step.ensures.honest honest) })).sealed

pub invariant_of-self-in-Err-Down-clause-shown : goal.invariant_of-self-in-Err-Down-clause-shown
invariant_of-self-in-Err-Down-clause-shown g c = λ down honest.
    let old = c.args.self.now in
    let seat = c.step.ensures.group in
    let items = items_still (seated old.node) (seated c.step.new.self) old.life.opening old.life.steps.items c.reserve.new.self.items seat.0 seat.1 seat.2 c.reserve.ensures.items in
    are_first (published old.publisher) (pending old.publisher) (items_in (seated old.node) old.life.opening old.life.steps.items) (published old.publisher) _ (old.whole c.if-not-self.false (c.step.ensures.honest honest)) refl items

pub invariant_of-self-in-Err-Down-clause-named : goal.invariant_of-self-in-Err-Down-clause-named
invariant_of-self-in-Err-Down-clause-named g c =
    let old = c.args.self.now in
    let node = old.node in
    let seat = c.step.ensures.group in
    named_still (tables_of node) (tables_of c.step.new.self) (me_of node) (me_of c.step.new.self) old.life.opening.mark old.publisher old.publisher old.named (refl, refl, refl) seat.0 seat.2

-- ---- a step whose entries, or whose outcomes, found no memory

pub invariant_of-self-in-Err-clause-rising : goal.invariant_of-self-in-Err-clause-rising
invariant_of-self-in-Err-clause-rising g c =
    let same : to_z w64 (of_z w64 c.args.reading) ≡ c.args.reading = search rules in
    let first : c.new-step.result ≡ step_of c.in-Some.mark c.args.reading c.args.packet = made_at c.new-step.result c.in-Some.mark (to_z w64 (of_z w64 c.args.reading)) c.args.reading c.args.packet same c.new-step.ensures in
    let old = c.args.self.now in
    let s : Step = c.new-step.result in
    rises_torn old.life _ s (old.replayed c.if-not-self.false).1 old.rising (made_for old.life s c.in-Some.mark c.args.reading c.args.packet [] first (sym c.in-Some.is ∙ c.mark_for.ensures)) c.reserve.ensures.items

pub invariant_of-self-in-Err-clause-held : goal.invariant_of-self-in-Err-clause-held
invariant_of-self-in-Err-clause-held g c = λ down d may.
    let same : to_z w64 (of_z w64 c.args.reading) ≡ c.args.reading = search rules in
    let first : c.new-step.result ≡ step_of c.in-Some.mark c.args.reading c.args.packet = made_at c.new-step.result c.in-Some.mark (to_z w64 (of_z w64 c.args.reading)) c.args.reading c.args.packet same c.new-step.ensures in
    let old = c.args.self.now in
    let same = c.take_down.ensures.group in
    let honest = subst (λ (k : g.row.K.Denot). g.K.LogReader.is_honest k) c.take_down.ensures.keeper (g.met.K.LogReader.only_honest c.take_down.new.self.keeper d may) in
    let was = old.replayed c.if-not-self.false in
    let s : Step = c.new-step.result in
    let seat = c.step.ensures.group in
    let is = c.take_down.ensures.held c.in-Ok-step.ensures.up.1 d may in
    let left = whole_left (member_of old.node) (tables_of old.node) (members_of old.node) (me_of old.node) c.in-Ok.work (member_of c.step.new.self) c.in-Ok-step.given d (c.in-Ok-step.ensures.done c.in-Ok-step.ensures.up.0 honest) is in
    torn_left (seated old.node) (seated c.take_down.new.self) old.life.opening old.life.steps.items _ s c.in-Ok.work d (same.0 ∙ seat.0) (same.1 ∙ seat.1) (same.2 ∙ seat.2) c.reserve.ensures.items (made_of s c.in-Some.mark c.args.reading c.args.packet c.in-Ok.work [] first c.in-Ok.ensures) (was.0 (c.step.ensures.honest honest)) left

pub invariant_of-self-in-Err-clause-listed : goal.invariant_of-self-in-Err-clause-listed
invariant_of-self-in-Err-clause-listed g c = λ honest.
    let old = c.args.self.now in
    let before = c.step.ensures.honest (subst (λ (k : g.row.K.Denot). g.K.LogReader.is_honest k) c.take_down.ensures.keeper honest) in
    let same = c.take_down.ensures.group in
    let seat = c.step.ensures.group in
    (listed_still (seated old.node) (seated c.take_down.new.self) old.life.opening old.life.steps.items c.reserve.new.self.items (same.0 ∙ seat.0) (same.1 ∙ seat.1) (same.2 ∙ seat.2) c.reserve.ensures.items (record { entries = old.listed before; sealed = old.sealed before })).entries

pub invariant_of-self-in-Err-clause-sealed : goal.invariant_of-self-in-Err-clause-sealed
invariant_of-self-in-Err-clause-sealed g c = λ honest.
    let old = c.args.self.now in
    let before = c.step.ensures.honest (subst (λ (k : g.row.K.Denot). g.K.LogReader.is_honest k) c.take_down.ensures.keeper honest) in
    let same = c.take_down.ensures.group in
    let seat = c.step.ensures.group in
    (listed_still (seated old.node) (seated c.take_down.new.self) old.life.opening old.life.steps.items c.reserve.new.self.items (same.0 ∙ seat.0) (same.1 ∙ seat.1) (same.2 ∙ seat.2) c.reserve.ensures.items (record { entries = old.listed before; sealed = old.sealed before })).sealed

pub invariant_of-self-in-Err-clause-shown : goal.invariant_of-self-in-Err-clause-shown
invariant_of-self-in-Err-clause-shown g c = λ down honest.
    let old = c.args.self.now in
    let before = c.step.ensures.honest (subst (λ (k : g.row.K.Denot). g.K.LogReader.is_honest k) c.take_down.ensures.keeper honest) in
    let same = c.take_down.ensures.group in
    let seat = c.step.ensures.group in
    let items = items_still (seated old.node) (seated c.take_down.new.self) old.life.opening old.life.steps.items c.reserve.new.self.items (same.0 ∙ seat.0) (same.1 ∙ seat.1) (same.2 ∙ seat.2) c.reserve.ensures.items in
    are_first (published old.publisher) (pending old.publisher) (items_in (seated old.node) old.life.opening old.life.steps.items) (published c.note.new.publisher) _ (old.whole c.if-not-self.false before) c.note.ensures.same.2 items

pub invariant_of-self-in-Err-clause-named : goal.invariant_of-self-in-Err-clause-named
invariant_of-self-in-Err-clause-named g c =
    let old = c.args.self.now in
    let node = old.node in
    let same = c.take_down.ensures.group in
    let seat = c.step.ensures.group in
    named_still (tables_of node) (tables_of c.take_down.new.self) (me_of node) (me_of c.take_down.new.self) old.life.opening.mark old.publisher c.note.new.publisher old.named c.note.ensures.same.0 (same.0 ∙ seat.0) (same.2 ∙ seat.2)

pub returns-in-Err-clause-cause : goal.returns-in-Err-clause-cause
returns-in-Err-clause-cause g c =
    let old = c.args.self.now in
    let x = member_of old.node in
    let m : ℕ = c.in-Some.mark in
    let up = c.in-Ok-step.ensures.up.0 in
    goes_down (published old.publisher ++ pending old.publisher) (marked m c.in-Ok-step.given.applied.items ++ marked_seal m c.in-Ok-step.given.sealed) c.in-Err.error _ _ _ _ c.in-Err.ensures.refused (λ honest rises.
    let still = subst (λ (k : g.row.K.Denot). g.K.LogReader.is_honest k) c.take_down.ensures.keeper honest in
    let after : node_after x (effect_at old.node (work_of c.args.packet)) ≡ member_of c.step.new.self = given_after x (tables_of old.node) (members_of old.node) (me_of old.node) c.in-Ok.work (work_of c.args.packet) (member_of c.step.new.self) c.in-Ok-step.given c.in-Ok.ensures (c.in-Ok-step.ensures.done up still) in
    let all : Rises (items_of old.node old.life ++ items_by m x (node_after x (effect_at old.node (work_of c.args.packet)))) =
    subst (λ (o : Option ℕ). MatchOption o ⊥ (λ (k : ℕ). Rises (items_of old.node old.life ++ items_by k x (node_after x (effect_at old.node (work_of c.args.packet)))))) (sym (sym c.in-Some.is ∙ c.mark_for.ensures)) rises in
    in_order (published old.publisher) (pending old.publisher) (items_of old.node old.life) m x (member_of c.step.new.self) (node_after x (effect_at old.node (work_of c.args.packet))) c.in-Ok-step.given.applied.items c.in-Ok-step.given.sealed
    (old.whole up (c.step.ensures.honest still)) after (c.in-Ok-step.ensures.applied still) (c.in-Ok-step.ensures.sealed still) all)

-- ---- what is told, and readings

pub invariant_of-self-in-Ok-step-clause-told : goal.invariant_of-self-in-Ok-step-clause-told
invariant_of-self-in-Ok-step-clause-told g c = λ honest.
    let same : to_z w64 (of_z w64 c.args.reading) ≡ c.args.reading = search rules in
    let first : c.new-step.result ≡ step_of c.in-Some.mark c.args.reading c.args.packet = made_at c.new-step.result c.in-Some.mark (to_z w64 (of_z w64 c.args.reading)) c.args.reading c.args.packet same c.new-step.ensures in
    let old = c.args.self.now in
    let new = c.step.new.self in
    let up = c.in-Ok-step.ensures.up.0 in
    let before = c.step.ensures.honest honest in
    let s : Step = c.with_outcomes.result in
    let made : s ≡ with_outcomes c.in-Ok-note.outcomes (step_of c.in-Some.mark c.args.reading c.args.packet) = c.with_outcomes.ensures ∙ ap (λ (x : Step). with_outcomes c.in-Ok-note.outcomes x) first in
    let items = c.push_reserved.ensures.items ∙ ap (λ xs. xs ++ s ∷ []) c.reserve.ensures.items in
    let seat = c.step.ensures.group in
    let is = stepped_given (tables_of old.node) (members_of old.node) (me_of old.node) (member_of old.node) s c.in-Ok.work (member_of new) c.in-Ok-step.given (made_of s c.in-Some.mark c.args.reading c.args.packet c.in-Ok.work c.in-Ok-note.outcomes made c.in-Ok.ensures) (c.in-Ok-step.ensures.done up honest) in
    let told = told_given (tables_of old.node) (member_of old.node) (member_of new) s c.new-step.result c.in-Ok-note.outcomes c.in-Ok-step.given.told.items c.with_outcomes.ensures c.in-Ok-note.ensures.told (c.in-Ok-step.ensures.told honest) in
    told_whole (seated old.node) (seated new) old.life.opening old.life.steps.items c.push_reserved.new.self.items s seat.0 seat.1 seat.2 items ((old.replayed up).0 before) is told (old.told before)

pub invariant_of-self-in-Ok-step-clause-clocked : goal.invariant_of-self-in-Ok-step-clause-clocked
invariant_of-self-in-Ok-step-clause-clocked g c =
    let same : to_z w64 (of_z w64 c.args.reading) ≡ c.args.reading = search rules in
    let first : c.new-step.result ≡ step_of c.in-Some.mark c.args.reading c.args.packet = made_at c.new-step.result c.in-Some.mark (to_z w64 (of_z w64 c.args.reading)) c.args.reading c.args.packet same c.new-step.ensures in
    let old = c.args.self.now in
    let s : Step = c.with_outcomes.result in
    let made : s ≡ with_outcomes c.in-Ok-note.outcomes (step_of c.in-Some.mark c.args.reading c.args.packet) = c.with_outcomes.ensures ∙ ap (λ (x : Step). with_outcomes c.in-Ok-note.outcomes x) first in
    let items = c.push_reserved.ensures.items ∙ ap (λ xs. xs ++ s ∷ []) c.reserve.ensures.items in
    read_whole old.life _ s c.in-Some.mark c.args.reading c.args.packet c.in-Ok-note.outcomes (old.replayed c.if-not-self.false).1 old.clocked made items

pub invariant_of-self-in-Err-Kept-clause-told : goal.invariant_of-self-in-Err-Kept-clause-told
invariant_of-self-in-Err-Kept-clause-told g c = λ honest.
    let same : to_z w64 (of_z w64 c.args.reading) ≡ c.args.reading = search rules in
    let first : c.new-step.result ≡ step_of c.in-Some.mark c.args.reading c.args.packet = made_at c.new-step.result c.in-Some.mark (to_z w64 (of_z w64 c.args.reading)) c.args.reading c.args.packet same c.new-step.ensures in
    let old = c.args.self.now in
    let new = c.step.new.self in
    let step = rw c.in-Err-Kept.field-0-is at c.in-Err-Kept.ensures in
    let up = c.if-not-self.false in
    let before = c.step.ensures.honest honest in
    let s : Step = c.new-step.result in
    let items = c.push_reserved-in-Err-Kept.ensures.items ∙ ap (λ xs. xs ++ s ∷ []) c.reserve.ensures.items in
    let seat = c.step.ensures.group in
    let is = stepped_refused (tables_of old.node) (members_of old.node) (me_of old.node) (member_of old.node) s c.in-Ok.work (member_of new) _ (made_of s c.in-Some.mark c.args.reading c.args.packet c.in-Ok.work [] first c.in-Ok.ensures) (step.done up honest) (step.same honest) in
    told_whole (seated old.node) (seated new) old.life.opening old.life.steps.items c.push_reserved-in-Err-Kept.new.self.items s seat.0 seat.1 seat.2 items ((old.replayed up).0 before) is (told_none (tables_of old.node) (member_of old.node) (member_of new) s (step.same honest) (ap (λ (x : Step). x.outcomes) first)) (old.told before)

pub invariant_of-self-in-Err-Kept-clause-clocked : goal.invariant_of-self-in-Err-Kept-clause-clocked
invariant_of-self-in-Err-Kept-clause-clocked g c =
    let same : to_z w64 (of_z w64 c.args.reading) ≡ c.args.reading = search rules in
    let first : c.new-step.result ≡ step_of c.in-Some.mark c.args.reading c.args.packet = made_at c.new-step.result c.in-Some.mark (to_z w64 (of_z w64 c.args.reading)) c.args.reading c.args.packet same c.new-step.ensures in
    let old = c.args.self.now in
    let s : Step = c.new-step.result in
    let items = c.push_reserved-in-Err-Kept.ensures.items ∙ ap (λ xs. xs ++ s ∷ []) c.reserve.ensures.items in
    read_whole old.life _ s c.in-Some.mark c.args.reading c.args.packet [] (old.replayed c.if-not-self.false).1 old.clocked first items

pub invariant_of-self-in-Err-Down-clause-told : goal.invariant_of-self-in-Err-Down-clause-told
invariant_of-self-in-Err-Down-clause-told g c = λ honest.
    let old = c.args.self.now in
    let seat = c.step.ensures.group in
    told_still (seated old.node) (seated c.step.new.self) old.life.opening old.life.steps.items c.reserve.new.self.items seat.0 seat.1 seat.2 c.reserve.ensures.items (old.told (c.step.ensures.honest honest))

pub invariant_of-self-in-Err-Down-clause-untold : goal.invariant_of-self-in-Err-Down-clause-untold
invariant_of-self-in-Err-Down-clause-untold g c =
    let same : to_z w64 (of_z w64 c.args.reading) ≡ c.args.reading = search rules in
    let first : c.new-step.result ≡ step_of c.in-Some.mark c.args.reading c.args.packet = made_at c.new-step.result c.in-Some.mark (to_z w64 (of_z w64 c.args.reading)) c.args.reading c.args.packet same c.new-step.ensures in
    untold_torn c.new-step.result _ first refl

pub invariant_of-self-in-Err-Down-clause-clocked : goal.invariant_of-self-in-Err-Down-clause-clocked
invariant_of-self-in-Err-Down-clause-clocked g c =
    let same : to_z w64 (of_z w64 c.args.reading) ≡ c.args.reading = search rules in
    let first : c.new-step.result ≡ step_of c.in-Some.mark c.args.reading c.args.packet = made_at c.new-step.result c.in-Some.mark (to_z w64 (of_z w64 c.args.reading)) c.args.reading c.args.packet same c.new-step.ensures in
    let old = c.args.self.now in
    read_torn old.life _ c.new-step.result c.in-Some.mark c.args.reading c.args.packet (old.replayed c.if-not-self.false).1 old.clocked first c.reserve.ensures.items

pub invariant_of-self-in-Err-clause-told : goal.invariant_of-self-in-Err-clause-told
invariant_of-self-in-Err-clause-told g c = λ honest.
    let old = c.args.self.now in
    let before = c.step.ensures.honest (subst (λ (k : g.row.K.Denot). g.K.LogReader.is_honest k) c.take_down.ensures.keeper honest) in
    let same = c.take_down.ensures.group in
    let seat = c.step.ensures.group in
    told_still (seated old.node) (seated c.take_down.new.self) old.life.opening old.life.steps.items c.reserve.new.self.items (same.0 ∙ seat.0) (same.1 ∙ seat.1) (same.2 ∙ seat.2) c.reserve.ensures.items (old.told before)

pub invariant_of-self-in-Err-clause-untold : goal.invariant_of-self-in-Err-clause-untold
invariant_of-self-in-Err-clause-untold g c =
    let same : to_z w64 (of_z w64 c.args.reading) ≡ c.args.reading = search rules in
    let first : c.new-step.result ≡ step_of c.in-Some.mark c.args.reading c.args.packet = made_at c.new-step.result c.in-Some.mark (to_z w64 (of_z w64 c.args.reading)) c.args.reading c.args.packet same c.new-step.ensures in
    untold_torn c.new-step.result _ first refl

pub invariant_of-self-in-Err-clause-clocked : goal.invariant_of-self-in-Err-clause-clocked
invariant_of-self-in-Err-clause-clocked g c =
    let same : to_z w64 (of_z w64 c.args.reading) ≡ c.args.reading = search rules in
    let first : c.new-step.result ≡ step_of c.in-Some.mark c.args.reading c.args.packet = made_at c.new-step.result c.in-Some.mark (to_z w64 (of_z w64 c.args.reading)) c.args.reading c.args.packet same c.new-step.ensures in
    let old = c.args.self.now in
    read_torn old.life _ c.new-step.result c.in-Some.mark c.args.reading c.args.packet (old.replayed c.if-not-self.false).1 old.clocked first c.reserve.ensures.items

-- ---- what is returned

pub returns-in-Err-clause-fed : goal.returns-in-Err-clause-fed
returns-in-Err-clause-fed g c =
    let same : to_z w64 (of_z w64 c.args.reading) ≡ c.args.reading = search rules in
    let first : c.new-step.result ≡ step_of c.in-Some.mark c.args.reading c.args.packet = made_at c.new-step.result c.in-Some.mark (to_z w64 (of_z w64 c.args.reading)) c.args.reading c.args.packet same c.new-step.ensures in
    let old = c.args.self.now in
    let new : Life = record { opening = old.life.opening; steps = c.reserve.new.self; ending = Torn c.new-step.result } in
    inr (c.in-Ok-step.ensures.up.0, recorded_down old.life new c.args.packet c.in-Some.mark c.args.reading c.in-Err.error c.new-step.result refl c.reserve.ensures.items refl first (sym c.in-Some.is ∙ c.mark_for.ensures), λ honest. tt)

pub returns-in-Err-clause-spares : goal.returns-in-Err-clause-spares
returns-in-Err-clause-spares g c = λ honest spare.
    let old = c.args.self.now in
    let still = subst (λ (k : g.row.K.Denot). g.K.LogReader.is_honest k) c.take_down.ensures.keeper honest in
    let none = nothing_given (tables_of old.node) (members_of old.node) (me_of old.node) (member_of old.node) (member_of c.step.new.self) c.in-Ok.work (work_of c.args.packet) c.in-Ok-step.given c.in-Ok.ensures (c.in-Ok-step.ensures.done c.in-Ok-step.ensures.up.0 still) spare in
    let noted : false ≡ true = c.in-Err.ensures.none none.1 none.2 none.3 in
    absurd (cc noted)

pub returns-in-Ok-note-clause-fed : goal.returns-in-Ok-note-clause-fed
returns-in-Ok-note-clause-fed g c =
    let same : to_z w64 (of_z w64 c.args.reading) ≡ c.args.reading = search rules in
    let first : c.new-step.result ≡ step_of c.in-Some.mark c.args.reading c.args.packet = made_at c.new-step.result c.in-Some.mark (to_z w64 (of_z w64 c.args.reading)) c.args.reading c.args.packet same c.new-step.ensures in
    let old = c.args.self.now in
    let up = c.in-Ok-step.ensures.up.0 in
    let s : Step = c.with_outcomes.result in
    let items = c.push_reserved.ensures.items ∙ ap (λ xs. xs ++ s ∷ []) c.reserve.ensures.items in
    let new : Life = record { opening = old.life.opening; steps = c.push_reserved.new.self; ending = old.life.ending } in
    let out : Out = record { mark = c.in-Some.mark; given = c.in-Ok-step.given } in
    inr (up, recorded_whole old.life new c.args.packet c.in-Some.mark c.args.reading out s c.new-step.result c.in-Ok-note.outcomes refl items (old.replayed up).1 c.with_outcomes.ensures first c.in-Ok-note.ensures.told refl (sym c.in-Some.is ∙ c.mark_for.ensures), λ honest. subst (λ (w : Work). IsGiven (member_of old.node) (member_of c.step.new.self) (effect_at old.node w) c.in-Ok-step.given) c.in-Ok.ensures (c.in-Ok-step.ensures.done up honest))

pub returns-in-Ok-note-clause-published : goal.returns-in-Ok-note-clause-published
returns-in-Ok-note-clause-published g c = ⊎_elim
    (λ (still : published c.publish_all.new.publisher ≡ published c.note.new.publisher). inl (still ∙ c.note.ensures.same.2))
    (λ (every : published c.publish_all.new.publisher ≡ published c.note.new.publisher ++ pending c.note.new.publisher). inr (λ honest.
    let same : to_z w64 (of_z w64 c.args.reading) ≡ c.args.reading = search rules in
    let first : c.new-step.result ≡ step_of c.in-Some.mark c.args.reading c.args.packet = made_at c.new-step.result c.in-Some.mark (to_z w64 (of_z w64 c.args.reading)) c.args.reading c.args.packet same c.new-step.ensures in
    let old = c.args.self.now in
    let new = c.step.new.self in
    let up = c.in-Ok-step.ensures.up.0 in
    let before = c.step.ensures.honest honest in
    let s : Step = c.with_outcomes.result in
    let made : s ≡ with_outcomes c.in-Ok-note.outcomes (step_of c.in-Some.mark c.args.reading c.args.packet) = c.with_outcomes.ensures ∙ ap (λ (x : Step). with_outcomes c.in-Ok-note.outcomes x) first in
    let items = c.push_reserved.ensures.items ∙ ap (λ xs. xs ++ s ∷ []) c.reserve.ensures.items in
    let seat = c.step.ensures.group in
    let is = stepped_given (tables_of old.node) (members_of old.node) (me_of old.node) (member_of old.node) s c.in-Ok.work (member_of new) c.in-Ok-step.given (made_of s c.in-Some.mark c.args.reading c.args.packet c.in-Ok.work c.in-Ok-note.outcomes made c.in-Ok.ensures) (c.in-Ok-step.ensures.done up honest) in
    let more : OneMore (seated old.node) (seated new) old.life.opening old.life.steps.items c.push_reserved.new.self.items s = one_more (seated old.node) (seated new) old.life.opening old.life.steps.items c.push_reserved.new.self.items s seat.0 seat.1 seat.2 items ((old.replayed up).0 before) is (c.in-Ok-step.ensures.grows honest) (record { entries = old.listed before; sealed = old.sealed before }) in
    let by : List Item = items_by s.mark (member_of old.node) (member_of new) in
    let given = c.in-Ok-step.given in
    let waits : pending c.note.new.publisher ≡ pending old.publisher ++ by =
    c.in-Ok-note.ensures.pending
    ∙ ap (λ (es : List Entry). pending old.publisher ++ (marked c.in-Some.mark es ++ marked_seal c.in-Some.mark given.sealed)) (c.in-Ok-step.ensures.applied honest)
    ∙ ap (λ (t : Option ℕ). pending old.publisher ++ (marked c.in-Some.mark (slice_range (member_of new).log (member_of old.node).commit (member_of new).commit) ++ marked_seal c.in-Some.mark t)) (c.in-Ok-step.ensures.sealed honest)
    ∙ ap (λ (x : Step). pending old.publisher ++ items_by x.mark (member_of old.node) (member_of new)) (sym made) in
    let all : published c.publish_all.new.publisher ≡ published old.publisher ++ pending c.note.new.publisher = every ∙ ap (λ (xs : List Item). xs ++ pending c.note.new.publisher) c.note.ensures.same.2 in
    all_listed (items_in (seated old.node) old.life.opening old.life.steps.items) (published old.publisher) (pending old.publisher) (items_in (seated new) old.life.opening c.push_reserved.new.self.items) by (pending c.note.new.publisher) (published c.publish_all.new.publisher) (old.whole up before) waits more.items all))
    c.publish_all.ensures.published
