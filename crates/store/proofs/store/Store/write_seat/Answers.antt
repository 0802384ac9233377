use Rattle.std.proofs.Common.{◌≡◌, ◌∙◌, ◌≤◌, ◌∷◌, [], Some, ap, drop, length, refl, rules, slice_get, subst, sym, take}
use Rattle.std.specs.Prelude.{max}
use Rattle.std.proofs.lemmas.List.Elements.{All-nil}
use Rattle.std.proofs.lemmas.Option.{slice_get_read}
use Rattle.journal.specs.declared.line.Line.TheVariants.{Saves}
use Rattle.store.specs.Continuing.{IsContinued}
use Rattle.store.specs.Opening.{longest_of, starts_of}
use Rattle.store.specs.Lines.{no_lines, waiting}
use Rattle.store.specs.Recording.{IsTrue, NobodySays}
use Rattle.store.proofs.Continuing.{continued_same, kept_by}
use Rattle.store.proofs.Opening.{files_on, head_files, none_there, noted_by, one_there, only_first, only_then}
use Rattle.store.proofs.Written.{longer_none, longer_from, on_longer, then_ok}
use Rattle.store.proofs.store.Store.write_seat.Goals as goal
use Rattle.store.proofs.store.Store.write_seat.Goals.{then-is_up, else-is_up}

pub returns-in_default-clause-longer : goal.returns-in_default-clause-longer
returns-in_default-clause-longer g c = longer_none c.args.self.now.scribe

pub returns-in_default-clause-heads : goal.returns-in_default-clause-heads
returns-in_default-clause-heads g c =
    let old = c.args.self.now in
    let past = subst (λ xs. length xs ≤ c.args.at) c.deref.ensures.value c.in_default.ensures.lookup.3 in
    (no_lines, continued_same g.K.Journal.Device.contents old.scribe, λ language n w has. ap starts_of (none_there old.seats.items c.args.at past), All-nil (IsTrue NobodySays))

pub returns-in_default-clause-noted : goal.returns-in_default-clause-noted
returns-in_default-clause-noted g c =
    let old = c.args.self.now in
    let past = subst (λ xs. length xs ≤ c.args.at) c.deref.ensures.value c.in_default.ensures.lookup.3 in
    sym (ap (longest_of old.noted) (none_there old.seats.items c.args.at past))

pub returns-in-Some-announced-clause-longer : goal.returns-in-Some-announced-clause-longer
returns-in-Some-announced-clause-longer g c =
    let old = c.args.self.now.scribe in
    let mid = c.write.new.self.scribe in
    let same : c.if-is_up.self ≡ c.args.self.now = elim c.if-is_up.branch [ then-is_up w ↦ w.self-is | else-is_up w ↦ w.self-is ] in
    let first = longer_from old c.if-is_up.self.scribe mid c.head-head.result (ap (λ t. t.scribe) same) c.in_ok-write.ensures.ok in
    let call = c.write-in-Some-announced in
    on_longer call.result old mid call.new.self.scribe (Saves c.in-Some.seat.now.member c.in-Some-announced.stored) first call.ensures.ok

pub returns-in-Some-announced-clause-heads : goal.returns-in-Some-announced-clause-heads
returns-in-Some-announced-clause-heads g c =
    let contents = g.K.Journal.Device.contents in
    let old = c.args.self.now in
    let seat = c.in-Some.seat.now in
    let call = c.write-in-Some-announced in
    let line = Saves seat.member c.in-Some-announced.stored in
    let same : c.if-is_up.self ≡ old = elim c.if-is_up.branch [ then-is_up w ↦ w.self-is | else-is_up w ↦ w.self-is ] in
    let look = c.in-Some.ensures.lookup in
    let found = c.deref.result.now in
    let there = subst (λ xs. slice_get xs c.args.at ≡ Some seat) c.deref.ensures.value (slice_get_read found (length found) c.args.at seat refl look.3.0 look.1) in
    let on = subst (λ s. IsContinued contents s c.write.new.self.scribe (waiting (c.head-head.result ∷ []))) (ap (λ t. t.scribe) same) c.in_ok-write.ensures.continues in
    let head = head_files contents g.K.LogReader.is_honest old.seats.items c.args.at seat old.scribe c.write.new.self.scribe c.head-head.result there c.head-head.ensures.down c.head-head.ensures.life c.head-head.ensures.up on in
    then_ok call.result (λ more. files_on contents g.K.LogReader.is_honest old.scribe c.write.new.self.scribe call.new.self.scribe (take 1 (drop c.args.at old.seats.items)) head (kept_by contents c.write.new.self.scribe call.new.self.scribe line tt more)) call.ensures.continues

pub returns-in-Some-announced-clause-noted : goal.returns-in-Some-announced-clause-noted
returns-in-Some-announced-clause-noted g c =
    let old = c.args.self.now in
    let seat = c.in-Some.seat.now in
    let call = c.write-in-Some-announced in
    let same : c.if-is_up.self ≡ old = elim c.if-is_up.branch [ then-is_up w ↦ w.self-is | else-is_up w ↦ w.self-is ] in
    let look = c.in-Some.ensures.lookup in
    let found = c.deref.result.now in
    let there = subst (λ xs. slice_get xs c.args.at ≡ Some seat) c.deref.ensures.value (slice_get_read found (length found) c.args.at seat refl look.3.0 look.1) in
    let most : c.max-self.result ≡ max c.if-is_up.self.noted (length seat.chain.links.items) = search rules in
    let mid = record c.if-is_up.self { noted = c.max-self.result } in
    let noted = noted_by mid c.write.new.self c.write.ensures.same
    ∙ most
    ∙ ap (λ n. max n (length seat.chain.links.items)) (ap (λ t. t.noted) same)
    ∙ ap (longest_of old.noted) (sym (one_there old.seats.items c.args.at seat there)) in
    then_ok call.result (λ ok. noted_by c.write.new.self call.new.self call.ensures.same ∙ noted) call.ensures.ok

pub returns-in-Some-announced-clause-same : goal.returns-in-Some-announced-clause-same
returns-in-Some-announced-clause-same g c =
    let old = c.args.self.now in
    let same : c.if-is_up.self ≡ old = elim c.if-is_up.branch [ then-is_up w ↦ w.self-is | else-is_up w ↦ w.self-is ] in
    let mid = record c.if-is_up.self { noted = c.max-self.result } in
    only_then old c.write.new.self c.write-in-Some-announced.new.self (only_then old mid c.write.new.self (only_first old c.if-is_up.self c.max-self.result same) c.write.ensures.same) c.write-in-Some-announced.ensures.same

pub returns-clause-longer : goal.returns-clause-longer
returns-clause-longer g c =
    let old = c.args.self.now.scribe in
    let same : c.if-is_up.self ≡ c.args.self.now = elim c.if-is_up.branch [ then-is_up w ↦ w.self-is | else-is_up w ↦ w.self-is ] in
    longer_from old c.if-is_up.self.scribe c.write.new.self.scribe c.head-head.result (ap (λ t. t.scribe) same) c.in_ok-write.ensures.ok

pub returns-clause-heads : goal.returns-clause-heads
returns-clause-heads g c =
    let contents = g.K.Journal.Device.contents in
    let old = c.args.self.now in
    let seat = c.in-Some.seat.now in
    let same : c.if-is_up.self ≡ old = elim c.if-is_up.branch [ then-is_up w ↦ w.self-is | else-is_up w ↦ w.self-is ] in
    let look = c.in-Some.ensures.lookup in
    let found = c.deref.result.now in
    let there = subst (λ xs. slice_get xs c.args.at ≡ Some seat) c.deref.ensures.value (slice_get_read found (length found) c.args.at seat refl look.3.0 look.1) in
    let on = subst (λ s. IsContinued contents s c.write.new.self.scribe (waiting (c.head-head.result ∷ []))) (ap (λ t. t.scribe) same) c.in_ok-write.ensures.continues in
    head_files contents g.K.LogReader.is_honest old.seats.items c.args.at seat old.scribe c.write.new.self.scribe c.head-head.result there c.head-head.ensures.down c.head-head.ensures.life c.head-head.ensures.up on

pub returns-clause-noted : goal.returns-clause-noted
returns-clause-noted g c =
    let old = c.args.self.now in
    let seat = c.in-Some.seat.now in
    let same : c.if-is_up.self ≡ old = elim c.if-is_up.branch [ then-is_up w ↦ w.self-is | else-is_up w ↦ w.self-is ] in
    let look = c.in-Some.ensures.lookup in
    let found = c.deref.result.now in
    let there = subst (λ xs. slice_get xs c.args.at ≡ Some seat) c.deref.ensures.value (slice_get_read found (length found) c.args.at seat refl look.3.0 look.1) in
    let most : c.max-self.result ≡ max c.if-is_up.self.noted (length seat.chain.links.items) = search rules in
    let mid = record c.if-is_up.self { noted = c.max-self.result } in
    noted_by mid c.write.new.self c.write.ensures.same
    ∙ most
    ∙ ap (λ n. max n (length seat.chain.links.items)) (ap (λ t. t.noted) same)
    ∙ ap (longest_of old.noted) (sym (one_there old.seats.items c.args.at seat there))

pub returns-clause-same : goal.returns-clause-same
returns-clause-same g c =
    let old = c.args.self.now in
    let same : c.if-is_up.self ≡ old = elim c.if-is_up.branch [ then-is_up w ↦ w.self-is | else-is_up w ↦ w.self-is ] in
    let mid = record c.if-is_up.self { noted = c.max-self.result } in
    only_then old mid c.write.new.self (only_first old c.if-is_up.self c.max-self.result same) c.write.ensures.same
