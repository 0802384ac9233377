-- Members agree in both words.
use Rattle.std.proofs.Common.{◌≡◌, ℕ, suc, Some, List, sym, ap, ◌∙◌, subst, arith, slice_index_or}
use Rattle.std.proofs.lemmas.Option.{slice_get-get_or}
use Rattle.model.specs.Lists.{nth, IsBeginning}
use Rattle.model.specs.Transactions.{Language}
use Rattle.model.specs.declared.entry.Entry.{Entry}
use Rattle.model.specs.declared.entry.Told.{Told}
use Rattle.model.specs.Members.{Node, applied}
use Rattle.model.specs.Worlds.{World, Event, Output}
use Rattle.model.specs.Worlds as world
use Rattle.model.specs.Logs as old
use Rattle.model.specs.Agreement as before
use Rattle.believed.specs.Logs as logs
use Rattle.believed.specs.Worlds as later
use Rattle.believed.specs.Answers as answers
use Rattle.believed.specs.Agreement as now
use Rattle.believed.proofs.Bridges.{told_same}
use Rattle.believed.proofs.LogsSame.{told_at_same}
use Rattle.believed.proofs.WorldsSame.{run_same, decided_same}
use Rattle.believed.proofs.GivesSame.{gives_before, answer_now}

pub stamped_now : (list : List Entry) → old.IsStamped list → logs.IsStamped list
stamped_now list x = (
  λ k d l. x.instants (suc k) (slice_index_or list k d) (slice_get-get_or list k d l),
  λ i j d l m. x.rising (suc i) (suc j) (slice_index_or list i d) (slice_index_or list j d) (omega (arith, l)) (slice_get-get_or list i d (omega (arith, l, m))) (slice_get-get_or list j d m),
)

pub told_now : (language : Language) (list : List Entry) (told : Told) → before.IsTold language list told → logs.told_at language list told.index ≡ Some told
told_now language list told t = told_at_same language list told.index ∙ told_same language list told t

module _ (language : Language) (n : ℕ) (outset : World) where
  pub member_before : (early : List Event) (m : ℕ) (x : Node) → nth (later.run language n outset early).nodes m ≡ Some x → nth (world.run language n outset early).nodes m ≡ Some x
  member_before early m x at = ap (λ (w : World). nth w.nodes m) (sym (run_same language n outset early)) ∙ at

  pub given_before : (early : List Event) (e : Event) (out : List Output) → later.Gives language n (later.run language n outset early) e out → world.Gives language n (world.run language n outset early) e out
  given_before early e out g = subst (λ w. world.Gives language n w e out) (run_same language n outset early) (gives_before language n (later.run language n outset early) e out g)

  begins_now : (early events : List Event) → IsBeginning (before.decided language n outset early) (before.decided language n outset events) → IsBeginning (now.decided language n outset early) (now.decided language n outset events)
  begins_now early events b = subst (λ l. IsBeginning l (now.decided language n outset events)) (sym (decided_same language n outset early))
      (subst (λ l. IsBeginning (before.decided language n outset early) l) (sym (decided_same language n outset events)) b)

  pub agree_now : (events : List Event) → before.Agree language n outset events → now.Agree language n outset events
  agree_now events a =
      let same = decided_same language n outset events in
      record {
        applied_is_decided = λ early late m x moment at.
            let r = a.applied_is_decided early late m x moment (member_before early m x at) in
            (subst (λ l. IsBeginning (applied x) l) (sym same) r.0, stamped_now (applied x) r.1);
        decided_grows = λ early late moment. begins_now early events (a.decided_grows early late moment);
        answers_agree = λ early late m q out answer moment g c.
            subst (λ l. answers.IsAnswer language q answer.last l answer) (sym same)
            (answer_now language q answer.last (before.decided language n outset events) answer (a.answers_agree early late m q out answer moment (given_before early (world.Ask m q) out g) c));
        nothing_later_is_closed = λ early late m i t x e moment at closed l is.
            a.nothing_later_is_closed early late m i t x e moment (member_before early m x at) closed l (ap (λ list. nth list i) (sym same) ∙ is);
        outcomes_agree = λ early late e out m told moment g c.
            ap (λ list. logs.told_at language list told.index) same
            ∙ told_now language (before.decided language n outset events) told (a.outcomes_agree early late e out m told moment (given_before early e out g) c);
      }
