-- What forms a log may be started with, and what a member is then.
use Rattle.std.proofs.Common.{◌≡◌, ◌∙◌, ℕ, zero, suc, ◌-◌, ◌≤◌, min, Bool, true, nat_lt, nat_le, ◌&&◌, Option, Some, None, option_map, List, [], ◌∷◌, length, drop, refl, sym, ap, subst, arith, rules}
use Rattle.std.proofs.Common.{length-drop}
use Rattle.std.proofs.lemmas.Bool.{leb-true, le-leb}
use Rattle.std.specs.Prelude.{vec_len}
use Rattle.std.specs.List.{list_all}
use Rattle.model.specs.declared.entry.Entry.{Entry}
use Rattle.model.specs.Stamps.{above}
use Rattle.model.specs.Transactions.{Language}
use Rattle.model.specs.Members.{term_of}
use Rattle.model.specs.Steps.{TERM_LAST, go_on}
use Rattle.keep.specs.Durable.{Durable, tail_of}
use Rattle.keep.specs.Log.{IsLog}
use Rattle.keep.specs.declared.hard_state.HardState.{HardState}
use Rattle.keep.specs.declared.state.State.{State}
use Rattle.raft.specs.declared.state.Core.{Core}
use Rattle.raft.specs.Start.{IsStart}
use Rattle.raft.specs.View.{IsInStep, IsStateOf, node_of}
use Rattle.node.proofs.Tests.{parts, joint}
use Rattle.node.specs.View.{durable_of}

terms_in : (prev : Option Entry) (bound : ℕ) (es : List Entry) → bound ≤ TERM_LAST → go_on prev bound es ≡ true → list_all (λ e. nat_le e.term TERM_LAST) es ≡ true
terms_in prev bound [] low h = refl
terms_in prev bound (e ∷ es) low h =
    let both = parts (nat_lt 0 e.term && nat_le (term_of prev) e.term && nat_le e.term bound && nat_le (above (option_map (λ d. d.stamp) prev)) e.stamp) (go_on (Some e) bound es) h in
    let upper = parts (nat_lt 0 e.term && nat_le (term_of prev) e.term && nat_le e.term bound) (nat_le (above (option_map (λ d. d.stamp) prev)) e.stamp) both.0 in
    let lower = parts (nat_lt 0 e.term && nat_le (term_of prev) e.term) (nat_le e.term bound) upper.0 in
    let below : e.term ≤ bound = leb-true e.term bound lower.1 in
    joint _ _ (le-leb e.term TERM_LAST (omega (arith, below, low))) (terms_in (Some e) bound es low both.1)

all_rest : (p : Entry → Bool) (j : ℕ) (es : List Entry) → list_all p es ≡ true → list_all p (drop j es) ≡ true
all_rest p zero es h = h
all_rest p (suc j) [] h = refl
all_rest p (suc j) (e ∷ es) h = all_rest p j es (parts (p e) (list_all p es) h).1

tail_length : (log : List Entry) → length (tail_of log) ≡ min (length log) 1024
tail_length log = omega (arith, length-drop (length log - 1024) log)

-- what is read of a log of such a member may be started with
pub start_is : (members : ℕ) (tables : Language) (s : State) (d : Durable) → IsStateOf s d → IsLog members tables d → IsStart members s
start_is members tables s d is log =
    let tail : vec_len s.tail ≡ length s.tail.items = search rules in
    record {
      term = rw is.hard log.term;
      vote = rw is.hard log.vote;
      room = rw is.length log.room;
      last = tail ∙ ap length is.tail ∙ tail_length d.log ∙ ap (λ n. min n 1024) (sym is.length);
      terms = rw is.tail (all_rest (λ e. nat_le e.term TERM_LAST) (length d.log - 1024) d.log (terms_in None d.hard.term d.log log.term log.rises));
    }

joined : (d : Durable) (hard : HardState) (log : List Entry) → d.hard ≡ hard → d.log ≡ log → d ≡ record { hard = hard; log = log }
joined d hard log e f = subst (λ (h : HardState). d ≡ record { hard = h; log = log }) e (subst (λ (l : List Entry). d ≡ record { hard = d.hard; log = l }) f refl)

-- what is stored of a member in step with it is its own
pub stored_is : (c : Core) (d : Durable) → IsInStep c d → d ≡ durable_of (node_of c d.log)
stored_is c d step = joined d _ _ step.hard step.log
