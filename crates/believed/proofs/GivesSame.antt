-- What events give is the same in both words.
use Rattle.std.proofs.Common.{◌≡◌, ℕ, Bool, true, false, Option, Some, None, List, [], ◌∷◌, refl, sym, ◌∙◌, subst, slice_index_or}
use Rattle.std.specs.Prelude.{◌≤◌, nat_le, option_map, IsTrue, if◌then◌else◌, MatchBool, MatchOption}
use Rattle.model.specs.Lists.{nth}
use Rattle.model.specs.Tables.{Table, Row, IsRow}
use Rattle.model.specs.Transactions.{Language}
use Rattle.model.specs.declared.entry.Entry.{Entry}
use Rattle.model.specs.Members.{Node, applied, closed_time}
use Rattle.model.specs.Answers.{SystemTime, Query, Select, Answer, IsInstant, read_at, closed_query}
use Rattle.model.specs.Answers as before
use Rattle.model.specs.Logs as old
use Rattle.model.specs.Worlds.{World, Event, Hand, Deliver, Stop, Start, Torn, Ask, Output}
use Rattle.model.specs.Worlds.Output.{Refused}
use Rattle.model.specs.Worlds as world
use Rattle.fault.specs.declared.refusal.Refusal.TheVariants.{NotClosed}
use Rattle.model.specs.Texts as texts
use Rattle.believed.specs.Days as days
use Rattle.believed.proofs.DaysSame.{instant_same}
use Rattle.believed.specs.Answers as now
use Rattle.believed.specs.Logs as logs
use Rattle.believed.specs.Worlds as later
use Rattle.model.specs.declared.event.Job.TheVariants.{Local}
use Rattle.believed.proofs.LogsSame.{states_same}
use Rattle.believed.proofs.WorldsSame.{happens_same, run_same, job_gives, delivery_same}

-- ---- answers

asked_now : (history : ℕ → Table) (q : Query) (row : Row) → before.IsAsked history q row → IsTrue (q.passes row) × ((u : ℕ) × (q.time.first ≤ u) × (u ≤ q.time.last) × IsRow (history u) row)
asked_now history q row a = (a.0, (a.1.0, a.1.1.0, a.1.1.1, a.1.2))

asked_before : (history : ℕ → Table) (q : Query) (row : Row) → IsTrue (q.passes row) × ((u : ℕ) × (q.time.first ≤ u) × (u ≤ q.time.last) × IsRow (history u) row) → before.IsAsked history q row
asked_before history q row a = (a.0, (a.1.0, (a.1.1, a.1.2), a.1.3))

end_now : (history : ℕ → Table) (last : ℕ) (row : Row) (end : Option ℕ) → before.IsShownEnd history last row end → now.IsShownEnd history last row end
end_now history last row None e = e
end_now history last row (Some end) e = e

end_before : (history : ℕ → Table) (last : ℕ) (row : Row) (end : Option ℕ) → now.IsShownEnd history last row end → before.IsShownEnd history last row end
end_before history last row None e = e
end_before history last row (Some end) e = e

over_now : (history : ℕ → Table) (q : Query) (a : Answer) → before.IsAnswerOver history q a → now.IsAnswerOver history q.passes q.time a
over_now history q a x = record {
  last = x.last;
  order = x.order;
  rows = λ row. (λ c. asked_now history q row ((x.rows row).0 c), λ c. (x.rows row).1 (asked_before history q row c));
  ends = λ k d l. let s = slice_index_or a.rows k d in end_now history q.time.last s.row s.end (x.ends k d l);
}

over_before : (history : ℕ → Table) (q : Query) (a : Answer) → now.IsAnswerOver history q.passes q.time a → before.IsAnswerOver history q a
over_before history q a x = record {
  last = x.last;
  order = x.order;
  rows = λ row. (λ c. asked_before history q row ((x.rows row).0 c), λ c. (x.rows row).1 (asked_now history q row c));
  ends = λ k d l. let s = slice_index_or a.rows k d in end_before history q.time.last s.row s.end (x.ends k d l);
}

history_same : (language : Language) (list : List Entry) (table : ℕ) → ◌≡◌ {A = ℕ → Table} (λ u. logs.state_at language list u table) (λ u. old.state_at language list u table)
history_same language list table = λ i. λ u. states_same language list u i table

pub answer_now : (language : Language) (q : Select) (t : ℕ) (list : List Entry) (a : Answer) → before.IsAnswer language (read_at t q) list a → now.IsAnswer language q t list a
answer_now language q t list a x =
    let P : (ℕ → Table) → Type 0 = λ h. now.IsAnswerOver h q.passes (now.asked_at t q) a in
    subst P (sym (history_same language list q.table)) (over_now _ (read_at t q) a x)

pub answer_before : (language : Language) (q : Select) (t : ℕ) (list : List Entry) (a : Answer) → now.IsAnswer language q t list a → before.IsAnswer language (read_at t q) list a
answer_before language q t list a x =
    let P : (ℕ → Table) → Type 0 = λ h. now.IsAnswerOver h q.passes (now.asked_at t q) a in
    over_before _ (read_at t q) a (subst P (history_same language list q.table) x)

-- ---- questions

closed_by : (b : Bool) (q : Select) (t : ℕ) → (if b then Some (read_at t q) else None) ≡ option_map (λ u. read_at u q) (if b then Some t else None)
closed_by true q t = refl
closed_by false q t = refl

closed_same : (q : Select) (time : Option ℕ) → closed_query q time ≡ option_map (λ u. read_at u q) (now.closed_for q time)
closed_same q None = refl
closed_same q (Some t) = closed_by (nat_le (now.asked_at t q).last t) q t

put_off : (m : ℕ) (x : Node) → ◌≡◌ {A = List Output} (Refused m (NotClosed (option_map days.instant_text (closed_time x))) ∷ []) (Refused m (NotClosed (option_map texts.instant_text (closed_time x))) ∷ [])
put_off m x = λ i. Refused m (NotClosed (option_map (λ t. instant_same t i) (closed_time x))) ∷ []

in_now : (language : Language) (m : ℕ) (q : Select) (x : Node) (t : Option ℕ) (out : List Output) → world.IsGivenIn language m x (option_map (λ u. read_at u q) t) out → later.IsGivenIn language m q x t out
in_now language m q x None out g = g ∙ sym (put_off m x)
in_now language m q x (Some t) out (a, is, o) = (a, answer_now language q t (applied x) a is, o)

in_before : (language : Language) (m : ℕ) (q : Select) (x : Node) (t : Option ℕ) (out : List Output) → later.IsGivenIn language m q x t out → world.IsGivenIn language m x (option_map (λ u. read_at u q) t) out
in_before language m q x None out g = g ∙ put_off m x
in_before language m q x (Some t) out (a, is, o) = (a, answer_before language q t (applied x) a is, o)

up_now : (language : Language) (m : ℕ) (q : Select) (x : Node) (up : Bool) (out : List Output) → world.IsGivenBy language m q x up out
    → MatchBool up (later.IsGivenIn language m q x (now.closed_for q (closed_time x)) out) (world.IsGivenBy language m q x false out)
up_now language m q x true out g = in_now language m q x _ out (subst (λ c. world.IsGivenIn language m x c out) (closed_same q (closed_time x)) g)
up_now language m q x false out g = g

up_before : (language : Language) (m : ℕ) (q : Select) (x : Node) (up : Bool) (out : List Output)
    → MatchBool up (later.IsGivenIn language m q x (now.closed_for q (closed_time x)) out) (world.IsGivenBy language m q x false out) → world.IsGivenBy language m q x up out
up_before language m q x true out g = subst (λ c. world.IsGivenIn language m x c out) (sym (closed_same q (closed_time x))) (in_before language m q x _ out g)
up_before language m q x false out g = g

AskGives : Language → ℕ → Select → Option Node → List Output → Type 0
AskGives language m q member out = MatchOption member (out ≡ []) (λ x. MatchBool x.up (later.IsGivenIn language m q x (now.closed_for q (closed_time x)) out) (world.IsGivenBy language m q x false out))

ask_now : (language : Language) (m : ℕ) (q : Select) (member : Option Node) (out : List Output) → world.IsGivenAt language m q member out → AskGives language m q member out
unfolding AskGives
ask_now language m q None out g = g
ask_now language m q (Some x) out g = up_now language m q x x.up out g

ask_before : (language : Language) (m : ℕ) (q : Select) (member : Option Node) (out : List Output) → AskGives language m q member out → world.IsGivenAt language m q member out
unfolding AskGives
ask_before language m q None out g = g
ask_before language m q (Some x) out g = up_before language m q x x.up out g

-- ---- events

pub gives_now : (language : Language) (n : ℕ) (w : World) (e : Event) (out : List Output) → world.Gives language n w e out → later.Gives language n w e out
unfolding AskGives
gives_now language n w (Hand m input) out g = g ∙ sym (job_gives language n w m (Local input))
gives_now language n w (Deliver k reading) out g = g ∙ sym (delivery_same language n w k reading)
gives_now language n w (Stop m) out g = g
gives_now language n w (Start m) out g = g
gives_now language n w (Torn m job left) out g = g
gives_now language n w (Ask m q) out g = ask_now language m q (nth w.nodes m) out g

pub gives_before : (language : Language) (n : ℕ) (w : World) (e : Event) (out : List Output) → later.Gives language n w e out → world.Gives language n w e out
unfolding AskGives
gives_before language n w (Hand m input) out g = g ∙ job_gives language n w m (Local input)
gives_before language n w (Deliver k reading) out g = g ∙ delivery_same language n w k reading
gives_before language n w (Stop m) out g = g
gives_before language n w (Start m) out g = g
gives_before language n w (Torn m job left) out g = g
gives_before language n w (Ask m q) out g = ask_before language m q (nth w.nodes m) out g

pub all_now : (language : Language) (n : ℕ) (w : World) (es : List Event) (outs : List (List Output)) → world.GivesAll language n w es outs → later.GivesAll language n w es outs
all_now language n w [] outs g = g
all_now language n w (e ∷ es) outs (out, rest, p, g, more) =
    (out, rest, p, gives_now language n w e out g, subst (λ v. later.GivesAll language n v es rest) (sym (happens_same language n w e)) (all_now language n (world.happens language n w e) es rest more))

pub all_before : (language : Language) (n : ℕ) (w : World) (es : List Event) (outs : List (List Output)) → later.GivesAll language n w es outs → world.GivesAll language n w es outs
all_before language n w [] outs g = g
all_before language n w (e ∷ es) outs (out, rest, p, g, more) =
    (out, rest, p, gives_before language n w e out g, all_before language n (world.happens language n w e) es rest (subst (λ v. later.GivesAll language n v es rest) (happens_same language n w e) more))

-- after what happened before
pub then_now : (language : Language) (n : ℕ) (w : World) (early es : List Event) (outs : List (List Output)) →
    world.GivesAll language n (world.run language n w early) es outs → later.GivesAll language n (later.run language n w early) es outs
then_now language n w early es outs g = subst (λ v. later.GivesAll language n v es outs) (sym (run_same language n w early)) (all_now language n (world.run language n w early) es outs g)

pub then_before : (language : Language) (n : ℕ) (w : World) (early es : List Event) (outs : List (List Output)) →
    later.GivesAll language n (later.run language n w early) es outs → world.GivesAll language n (world.run language n w early) es outs
then_before language n w early es outs g = all_before language n (world.run language n w early) es outs (subst (λ v. later.GivesAll language n v es outs) (run_same language n w early) g)
