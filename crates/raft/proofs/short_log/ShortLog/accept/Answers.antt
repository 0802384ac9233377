use Rattle.std.proofs.Common.{◌≡◌, ◌-◌, ◌+◌, ◌<◌, true, List, nat_le, drop, length, arith, sym, subst, rules}
use Rattle.std.specs.Prelude.{vec_len}
use Rattle.std.specs.List.{list_all}
use Rattle.model.specs.declared.entry.Entry.{Entry}
use Rattle.model.specs.Steps.{TERM_LAST}
use Rattle.raft.proofs.LogFacts.{all_rest}
use Rattle.raft.proofs.Cuts.{tells_cut}
use Rattle.raft.proofs.short_log.ShortLog.accept.Goals as goal

pub go_on_with-requires : goal.go_on_with-requires
go_on_with-requires g c =
    let r = c.requires in
    let new = c.in_ok-new.new in
    let part : new.items ≡ drop (c.args.index - c.args.prev) c.args.entries.items = c.in_ok-new.ensures.tail in
    let len : vec_len new + (c.args.index - c.args.prev) ≡ vec_len c.args.entries = c.in_ok-new.ensures.tail_len in
    let terms : list_all (λ e. nat_le e.term TERM_LAST) new.items ≡ true = subst (λ (es : List Entry). list_all (λ e. nat_le e.term TERM_LAST) es ≡ true) (sym part) (all_rest (λ e. nat_le e.term TERM_LAST) (c.args.index - c.args.prev) c.args.entries.items r.1.1.1.1.1.1) in
    let lt : c.args.index < c.args.prev + vec_len c.args.entries = omega (arith, r.1.1.0, c.if-index-prev.false, c.len.ensures) in
    let room = r.1.1.1.1.0 lt in
    (r.0, (r.1.1.1.0, (omega (arith, len, lt, r.1.0), (omega (arith, len, room, r.1.0), terms))))

pub returns-clause-tells : goal.returns-clause-tells
returns-clause-tells g c = λ at all.
    let r = c.requires in
    let new = c.in_ok-new.new in
    let part : new.items ≡ drop (c.args.index - c.args.prev) c.args.entries.items = c.in_ok-new.ensures.tail in
    let len : vec_len c.args.entries ≡ length c.args.entries.items = search rules in
    let lt : c.args.index < c.args.prev + length c.args.entries.items = omega (arith, r.1.1.0, c.if-index-prev.false, c.len.ensures, len) in
    tells_cut g.stored c.args.self.now c.go_on_with.new.self c.args.entries.items new.items c.args.prev c.args.index r.0 all r.1.1.1.0 r.1.0 at lt part c.in_ok-go_on_with.ensures.ok c.in_ok-go_on_with.ensures.saved
