use Rattle.std.proofs.Common.{◌≡◌, ◌-◌, ◌≤◌, length, true, nat_le, List, ap, sym, subst, rules, arith}
use Rattle.std.specs.Prelude.{vec_len}
use Rattle.std.specs.List.{list_all}
use Rattle.std.proofs.lemmas.List.{length-drop}
use Rattle.keep.specs.declared.hard_state.HardState.{HardState}
use Rattle.keep.specs.Log.{is_vote}
use Rattle.model.specs.declared.entry.Entry.{Entry}
use Rattle.model.specs.Steps.{TERM_LAST}
use Rattle.raft.proofs.LogFacts.{all_rest, vote_higher}
use Rattle.raft.proofs.state.Core.change_since.Goals as goal

pub returns-clause-small : goal.returns-clause-small
returns-clause-small g c =
    let old = c.args.self.now in
    let l = old.log in
    let tail = c.in_ok-entries.ensures.tail in
    let len : vec_len l.tail ≡ length l.tail.items = search rules in
    let hard = sym c.hard_state-hard.ensures in
    record {
      short = omega (arith, ap length tail, length-drop (l.saved - l.elsewhere) l.tail.items, len, l.within, l.saved_low, l.saved_high);
      term = subst (λ (h : HardState). h.term ≤ TERM_LAST) hard old.term_within;
      vote = subst (λ (h : HardState). is_vote TERM_LAST h.vote ≡ true) hard (vote_higher old.members TERM_LAST old.vote (omega (arith, old.one_of_few)) old.vote_within);
      terms = subst (λ (es : List Entry). list_all (λ e. nat_le e.term TERM_LAST) es ≡ true) (sym tail) (all_rest (λ e. nat_le e.term TERM_LAST) (l.saved - l.elsewhere) l.tail.items l.terms);
    }
