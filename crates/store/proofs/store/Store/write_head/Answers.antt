use Rattle.std.proofs.Common.{◌≡◌, ◌∙◌, ap, arith, drop, length, refl, rules, subst, sym, take}
use Rattle.std.proofs.lemmas.List.{take_all}
use Rattle.std.proofs.lemmas.List.Elements.{All-nil}
use Rattle.journal.specs.declared.line.Line.TheVariants.{Opens}
use Rattle.store.specs.Opening.{Files, longest_of}
use Rattle.store.specs.Lines.{no_lines}
use Rattle.store.specs.Recording.{IsTrue, NobodySays}
use Rattle.store.proofs.Continuing.{continued_same, kept_by}
use Rattle.store.proofs.Opening.{files_both, files_on, files_silent, longest_both, next_seats, noted_by, only_both, only_then}
use Rattle.store.proofs.Written.{longer_none, longer_more, on_opened, then_ok}
use Rattle.store.proofs.store.Store.write_head.Goals as goal

pub loop-at-init : goal.loop-at-init
loop-at-init g c = record {
  longer = longer_none c.write.new.self.scribe;
  heads = (no_lines, continued_same g.K.Journal.Device.contents c.write.new.self.scribe, λ language n w has. refl, All-nil (IsTrue NobodySays));
  noted = refl;
  same = refl;
}

pub loop-at-preserved : goal.loop-at-preserved
loop-at-preserved g c =
    let contents = g.K.Journal.Device.contents in
    let first = c.write.new.self in
    let mid = c.loop-at.self in
    let new = c.write_seat.new.self in
    let seats = first.seats.items in
    let honest = g.K.LogReader.is_honest in
    let stay = ap (λ t. t.seats.items) c.loop-at.invariant.same in
    let one = subst (λ xs. Files contents honest mid.scribe new.scribe (take 1 (drop c.loop-at.at xs))) stay c.in_ok-write_seat.ensures.heads in
    record {
      longer = longer_more first.scribe mid.scribe new.scribe c.loop-at.invariant.longer c.in_ok-write_seat.ensures.longer;
      heads = subst (Files contents honest first.scribe new.scribe) (sym (next_seats seats c.loop-at.at)) (files_both contents honest first.scribe mid.scribe new.scribe (take c.loop-at.at seats) (take 1 (drop c.loop-at.at seats)) c.loop-at.invariant.heads one);
      noted = c.in_ok-write_seat.ensures.noted
          ∙ ap (λ xs. longest_of mid.noted (take 1 (drop c.loop-at.at xs))) stay
          ∙ ap (λ n. longest_of n (take 1 (drop c.loop-at.at seats))) c.loop-at.invariant.noted
          ∙ sym (longest_both first.noted (take c.loop-at.at seats) (take 1 (drop c.loop-at.at seats)))
          ∙ ap (longest_of first.noted) (sym (next_seats seats c.loop-at.at));
      same = only_both first mid new c.loop-at.invariant.same c.write_seat.ensures.same;
    }

pub returns-in_err-write_seat-clause-same : goal.returns-in_err-write_seat-clause-same
returns-in_err-write_seat-clause-same g c =
    let old = c.args.self.now in
    only_both old c.loop-at.self c.write_seat.new.self (only_both old c.write.new.self c.loop-at.self (only_then old old c.write.new.self refl c.write.ensures.same) c.loop-at.invariant.same) c.write_seat.ensures.same

pub returns-clause-opens : goal.returns-clause-opens
returns-clause-opens g c =
    on_opened g.K.Journal.Device.contents c.flush.result c.args.self.now.scribe c.write.new.self.scribe c.loop-at.self.scribe c.flush.new.self.scribe c.in-Some.scribe c.args.journal c.sum-sum.result c.args.marks
    c.in-Some.is c.sum-sum.ensures c.in_ok-write.ensures.ok c.loop-at.invariant.longer c.flush.ensures.ok

pub returns-clause-heads : goal.returns-clause-heads
returns-clause-heads g c =
    let contents = g.K.Journal.Device.contents in
    let old = c.args.self.now in
    let first = c.write.new.self in
    let mid = c.loop-at.self in
    let new = c.flush.new.self in
    let at = c.loop-at.at in
    let line = Opens c.args.journal c.sum-sum.result c.args.marks in
    let seats = ap (λ t. t.seats.items) c.write.ensures.same in
    let len : c.len-at-end.result ≡ length first.seats.items = search rules in
    let test = c.loop-at-test.false in
    let all : take at first.seats.items ≡ old.seats.items = take_all at first.seats.items (omega (arith, len, test)) ∙ seats in
    let honest = g.K.LogReader.is_honest in
    let opens = files_silent contents honest old.scribe first.scribe (take 0 old.seats.items) refl (kept_by contents old.scribe first.scribe line tt c.in_ok-write.ensures.continues) in
    let heads = subst (λ xs. Files contents honest first.scribe mid.scribe xs) all c.loop-at.invariant.heads in
    then_ok c.flush.result (λ ok. files_on contents honest old.scribe mid.scribe new.scribe old.seats.items (files_both contents honest old.scribe first.scribe mid.scribe (take 0 old.seats.items) old.seats.items opens heads) c.flush.ensures.continues) c.flush.ensures.ok

pub returns-clause-noted : goal.returns-clause-noted
returns-clause-noted g c =
    let old = c.args.self.now in
    let first = c.write.new.self in
    let seats = ap (λ t. t.seats.items) c.write.ensures.same in
    let len : c.len-at-end.result ≡ length first.seats.items = search rules in
    let test = c.loop-at-test.false in
    let all : take c.loop-at.at first.seats.items ≡ old.seats.items = take_all c.loop-at.at first.seats.items (omega (arith, len, test)) ∙ seats in
    let noted = noted_by c.loop-at.self c.flush.new.self c.flush.ensures.same
    ∙ c.loop-at.invariant.noted
    ∙ ap (longest_of first.noted) all
    ∙ ap (λ n. longest_of n old.seats.items) (noted_by old first c.write.ensures.same) in
    then_ok c.flush.result (λ ok. noted) c.flush.ensures.ok

pub returns-clause-same : goal.returns-clause-same
returns-clause-same g c =
    let old = c.args.self.now in
    only_then old c.loop-at.self c.flush.new.self (only_both old c.write.new.self c.loop-at.self (only_then old old c.write.new.self refl c.write.ensures.same) c.loop-at.invariant.same) c.flush.ensures.same
