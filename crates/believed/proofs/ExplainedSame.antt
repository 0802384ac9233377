-- One list explains a run in both words.
use Rattle.std.proofs.Common.{◌≡◌, ℕ, ◌<◌, ◌≤◌, Some, List, sym, subst, inl, inr}
use Rattle.model.specs.Lists.{nth}
use Rattle.model.specs.Transactions.{Language}
use Rattle.model.specs.declared.entry.Entry.{Entry}
use Rattle.model.specs.declared.entry.Request.{Request}
use Rattle.model.specs.declared.entry.Told.{Told}
use Rattle.model.specs.Worlds.{World, Event, Output}
use Rattle.model.specs.Worlds.Output.{Applied}
use Rattle.model.specs.Agreement as old
use Rattle.onelist.specs.Order.{HasRequest, Brings, Whole, CutShort}
use Rattle.onelist.specs.Explained.{Stops}
use Rattle.onelist.specs.Explained as before
use Rattle.safety.proofs.Lists.{same_some}
use Rattle.believed.specs.Agreement as agreement
use Rattle.believed.specs.Explained as now
use Rattle.believed.proofs.GivesSame.{all_before, answer_now}
use Rattle.believed.proofs.AgreeSame.{stamped_now, told_now}
use Rattle.believed.proofs.WorldsSame.{decided_same}
use Rattle.believed.proofs.Turns.{turn_at}

-- ---- events

submitted_now : (events : List Event) (k : ℕ) (r : Request) → before.IsSubmitted events k r → now.IsSubmitted events k r
submitted_now events k r (m, event, at, brings) = by event at brings
  where
    by : (event : Event) → nth events k ≡ Some event → Brings r m event → now.IsSubmitted events k r
    by _ at (Whole reading) = (m, reading, inl at)
    by _ at (CutShort reading) = (m, reading, inr at)

new_before : (events : List Event) (k : ℕ) (r : Request) → now.IsNew events k r → before.IsNew events k r
new_before events k r new = λ j l s. new j l (submitted_now events j r s)

unstopped_before : (events : List Event) (m j k : ℕ) → now.IsUnstopped events m j k → before.IsUnstopped events m j k
unstopped_before events m j k up = λ i event a b at s. by i event a b at s
  where
    by : (i : ℕ) (event : Event) → j < i → i < k → nth events i ≡ Some event → Stops m event → ⊥
    by i _ a b at before.Whole = (up i a b).0 at
    by i _ a b at (before.CutShort job left) = (up i a b).1 job left at

-- ---- lists

abbrev request_at : (list : List Entry) (i : ℕ) (e : Entry) (r : Request) → now.IsEntry list i e r → HasRequest list r
request_at list i e r (at, asks) = record { index = i; entry = e; at = at; asks = asks }

pub brought_now : (events : List Event) (list : List Entry) → before.WereSubmitted events list → now.WereSubmitted events list
brought_now events list x = record {
  by = λ i e r at. let s = x.submitted r (request_at list i e r at) in (s.0, submitted_now events s.0 r s.1);
  apart = λ i j d e r s D E same. x.apart r s (request_at list i d r D) (request_at list j e s E) same;
}

pub explains_now : (language : Language) (events : List Event) (outs : List (List Output)) (list : List Entry) → before.Explains language events outs list → now.Explains language events outs list
unfolding brought_now
explains_now language events outs list x = record {
  stamped = stamped_now list x.stamped;
  told = λ k m told gave. told_now language list told (x.told k m told gave);
  answered = λ k m q a asked. answer_now language q a.last list a (x.answered k m q a asked);
  brought = brought_now events list x.brought;
  unrefused = λ i e r at m why gave. x.unrefused r (request_at list i e r at) m why gave;
  reads = λ i e r at. x.reads r (request_at list i e r at);
  told_whole = λ k m i told e r gave at l. x.told_whole k m told r (request_at list i e r at) gave l;
  answered_whole = λ k m i q a e r asked at l. x.answered_whole k m q a r (request_at list i e r at) asked l;
}

pub order_now : (language : Language) (events : List Event) (outs : List (List Output)) (list : List Entry) →
    ((k m : ℕ) (told : Told) → before.Gave outs k (Applied m told) → old.IsTold language list told) → before.IsInOrder language events outs list → now.IsInOrder events outs list
order_now language events outs list told_in x = record {
  told_then_submitted = λ k m i told e r gave new at. x.told_then_submitted k m told r (request_at list i e r at) gave (new_before events k r new);
  answered_then_submitted = λ k m i q a e r asked new at. x.answered_then_submitted k m q a r (request_at list i e r at) asked (new_before events k r new);
  told_then_asked = λ j k m told e q a l up none gave asked at.
      let T = told_in j m told gave in
      let same : T.entry ≡ e = same_some (nth list told.index) T.entry e T.at at in
      subst (λ (z : Entry). z.stamp ≤ a.last) same (x.told_then_asked j k m told T q a l gave asked none (unstopped_before events m j k up));
  answered_then_asked = λ j k m q r a b l up none first second. x.answered_then_asked j k m q r a b l first second none (unstopped_before events m j k up);
  told_then_put_off = λ j k m told e q l up gave put at.
      let T = told_in j m told gave in
      let same : T.entry ≡ e = same_some (nth list told.index) T.entry e T.at at in
      subst (λ (z : Entry). now.AsksPast z.stamp q) same (x.told_then_put_off j k m told T q l gave put (unstopped_before events m j k up));
  answered_then_put_off = λ j k m q r a l up first put. x.answered_then_put_off j k m q r a l first put (unstopped_before events m j k up);
  told_then_told = λ j k m a b l up first second. x.told_then_told j k m a b l first second (unstopped_before events m j k up);
}

module _ (language : Language) (n : ℕ) (outset : World) where
  explained_by : (events : List Event) (list : List Entry) → before.IsExplainedBy language n outset events list → now.IsExplainedBy language n outset events list
  explained_by events list x = λ outs g.
      let y = x outs (all_before language n outset events outs g) in
      (explains_now language events outs list y.0, order_now language events outs list y.0.told y.1)

  pub explained_now : (events : List Event) → before.IsExplained language n outset events → now.IsExplained language n outset events
  explained_now events x = record {
    list = x.list;
    explains = explained_by events x.list x.explains;
    goes_on = λ early late moment. let y = x.goes_on early late moment in (y.0, explained_by early y.0 y.1, y.2);
  }

  pub submitted_so : (events : List Event) → before.WereSubmitted events (old.decided language n outset events) → now.WereSubmitted events (agreement.decided language n outset events)
  submitted_so events x = subst (λ l. now.WereSubmitted events l) (sym (decided_same language n outset events)) (brought_now events (old.decided language n outset events) x)

  pub ordered_so : (events : List Event) → old.Agree language n outset events → before.IsDecidedInOrder language n outset events → now.IsDecidedInOrder language n outset events
  ordered_so events agree x = λ outs g.
      let G = all_before language n outset events outs g in
      let list = old.decided language n outset events in
      let told_in : (k m : ℕ) (told : Told) → before.Gave outs k (Applied m told) → old.IsTold language list told = λ k m told gave.
      let T = turn_at language n events outset outs k gave.0 G gave.1 in agree.outcomes_agree T.early T.late T.event gave.0 m told T.moment T.gives gave.2 in
      subst (λ l. now.IsInOrder events outs l) (sym (decided_same language n outset events)) (order_now language events outs list told_in (x outs G))
