-- No majority is stuck, in both words.
use Rattle.std.proofs.Common.{◌≡◌, ℕ, suc, ◌+◌, ◌*◌, Bool, Some, List, [], ◌∷◌, ◌++◌, length, sym, ap, ◌∙◌, subst, arith, length-append}
use Rattle.std.specs.Prelude.{ℤ, option_map, option_and_then}
use Rattle.model.specs.Lists.{nth}
use Rattle.model.specs.Transactions.{Language}
use Rattle.model.specs.declared.entry.Entry.{Entry}
use Rattle.model.specs.declared.entry.Request.{Request}
use Rattle.model.specs.declared.entry.Told.{Told}
use Rattle.model.specs.declared.message.Input.TheVariants.{Timeout, Beat, Close, Submit, Floor}
use Rattle.model.specs.Logs as logs
use Rattle.model.specs.Members.{Node}
use Rattle.model.specs.Worlds.{World, Event, Hand, Deliver, Stop, Start, Torn, Ask, Output}
use Rattle.model.specs.Worlds.Output.{Applied}
use Rattle.model.specs.Worlds as world
use Rattle.progress.specs.Progress as before
use Rattle.safety.proofs.Lists.{get_push}
use Rattle.believed.specs.Logs as told
use Rattle.believed.specs.Explained.{Gave}
use Rattle.believed.specs.Worlds as later
use Rattle.believed.specs.Progress as now
use Rattle.believed.proofs.Bridges.{majority_same}
use Rattle.believed.proofs.LogsSame.{told_at_same}
use Rattle.believed.proofs.WorldsSame.{happens_same, run_same}
use Rattle.believed.proofs.GivesSame.{all_before}
use Rattle.believed.proofs.Turns.{gave_after, told_always}

-- ---- events

mild_now : (live : ℕ → Bool) (reading : ℤ) (w : World) (e : Event) → before.IsMild live reading w e → now.IsMild live reading w e
mild_now live reading w (Hand m Timeout) (l, timer) = now.TimesOut m l
mild_now live reading w (Hand m Beat) (l, timer) = now.Beats m l
mild_now live reading w (Hand m (Close shown)) (l, timer) = absurd (cc)
mild_now live reading w (Hand m (Floor shown)) (l, timer) = absurd (cc)
mild_now live reading w (Hand m (Submit shown request)) (l, timer) = absurd (cc)
mild_now live reading w (Deliver k shown) (p, at, from, to, same) = subst (λ s. now.IsMild live reading w (Deliver k s)) (sym same) (now.Arrives k p at from to)
mild_now live reading w (Stop m) h = absurd h
mild_now live reading w (Start m) h = now.Starts m h
mild_now live reading w (Torn m job left) h = absurd h
mild_now live reading w (Ask m q) h = absurd h

all_mild : (language : Language) (n : ℕ) (live : ℕ → Bool) (clock : ℕ → ℤ) (w : World) (es : List Event) → before.AllMild language n live clock w es → now.AllMild language n live clock w es
all_mild language n live clock w [] h = h
all_mild language n live clock w (e ∷ es) (h, t) =
    (mild_now live (clock 0) w e h, subst (λ v. now.AllMild language n live (λ i. clock (suc i)) v es) (sym (happens_same language n w e)) (all_mild language n live (λ i. clock (suc i)) (world.happens language n w e) es t))

abbrev leads_now : (language : Language) (n : ℕ) (live : ℕ → Bool) (clock : ℕ → ℤ) (most : ℕ) (w : World) (P Q : World → Type 0) → ((v : World) → P v → Q v) →
    before.Leads language n live clock most w P → now.Leads language n live clock most w Q
leads_now language n live clock most w P Q f L =
    (L.events, all_mild language n live clock w L.events L.mild, L.few, subst Q (sym (run_same language n w L.events)) (f (world.run language n w L.events) L.there))

-- ---- where all is well

room_before : (live : ℕ → Bool) (k : ℕ) (w : World) → now.Room live k w → before.Room live k w
room_before live k w (few, each) = (few, λ m x l at. let r = each m x l at in record { terms = r.0; instants = r.1; entries = r.2 })

step_now : (leader term : ℕ) (list : List Entry) (m : ℕ) (x : Node) → before.IsInStep leader term list m x → now.IsInStep leader term list m x
step_now leader term list m x s = (s.up, s.in_term, s.leads, s.has, s.has_applied)

well_now : (n : ℕ) (live : ℕ → Bool) (leader : ℕ) (list : List Entry) (w : World) → before.IsWell n live leader list w → now.IsWell n live leader list w
well_now n live leader list w s = (s.first, s.last, s.among, (s.term, λ m a b l. let x = s.member m a b l in (x.0, x.1, step_now leader s.term list m x.0 x.2)))

-- ---- a request

long : (list : List Entry) (e : Entry) → length list + 1 ≡ length (list ++ e ∷ [])
long list e = sym (length-append list (e ∷ []))

told_last : (language : Language) (list : List Entry) (e : Entry) (r : Request) → e.request ≡ Some r →
    told.told_at language (list ++ e ∷ []) (length list + 1) ≡ Some (before.told_last language (list ++ e ∷ []) e r)
told_last language list e r asks =
    let all = list ++ e ∷ [] in
    let here : suc (length list) ≡ length all = (let l = long list e in omega (arith, l)) in
    let at : nth all (length all) ≡ Some e = ap (λ j. nth all j) (sym here) ∙ get_push list e in
    told_at_same language all (length list + 1) ∙ ap (λ i. logs.told_at language all i) (long list e)
    ∙ ap (λ found. option_and_then {U = Told} (λ (d : Entry). option_map {U = Told} (λ (s : Request). record { index = length all; client = s.client; number = s.number; outcome = logs.outcome language d.stamp s (logs.before_index all (length all)) }) d.request) found) at
    ∙ ap (λ q. option_map {U = Told} (λ (s : Request). record { index = length all; client = s.client; number = s.number; outcome = logs.outcome language e.stamp s (logs.before_index all (length all)) }) q) asks

tells_now : (language : Language) (n : ℕ) (w : World) (events : List Event) (m : ℕ) (t : Told) → before.Tells language n w events m t →
    (outs : List (List Output)) → later.GivesAll language n w events outs → (k : ℕ) × Gave outs k (Applied m t)
tells_now language n w events m t T outs g =
    let G = gave_after language n T.early T.late T.event w outs (subst (λ es. world.GivesAll language n w es outs) (sym T.at) (all_before language n w events outs g)) in
    (suc (length T.early), (G.0, G.1, told_always language n (world.run language n w T.early) T.event T.out G.0 m t T.gives G.2 T.tells))

served_now : (language : Language) (n : ℕ) (live : ℕ → Bool) (clock : ℕ → ℤ) (most leader : ℕ) (list : List Entry) (r : Request) (w : World) →
    before.Served language n live clock most leader list r w → now.Served language n live clock most leader list r w
served_now language n live clock most leader list r w S = record {
  entry = S.entry;
  asks = S.asks;
  way = leads_now language n live clock most w (before.IsWell n live leader (list ++ S.entry ∷ [])) (now.IsWell n live leader (list ++ S.entry ∷ [])) (well_now n live leader (list ++ S.entry ∷ [])) S.way;
  told = λ m a b l. (
    before.told_last language (list ++ S.entry ∷ []) S.entry r,
    told_last language list S.entry r S.asks,
    tells_now language n w S.way.events m (before.told_last language (list ++ S.entry ∷ []) S.entry r) (S.told m a b l),
  );
}

serves_now : (language : Language) (n : ℕ) (live : ℕ → Bool) (most : ℕ) (reading : ℤ) (r : Request) (w : World) → before.Serves language n live most reading r w → now.Serves language n live most reading r w
serves_now language n live most reading r w S = (
  S.leader,
  S.list,
  well_now n live S.leader S.list w S.well,
  λ clock. subst (λ v. now.Served language n live clock most S.leader S.list r v) (sym (happens_same language n w (Hand S.leader (Submit reading r))))
      (served_now language n live clock most S.leader S.list r (world.happens language n w (Hand S.leader (Submit reading r))) (S.served clock)),
)

can_serve : (language : Language) (n : ℕ) (w : World) → before.CanServe language n w → now.CanServe language n w
can_serve language n w can = λ live clock k reading r statements two most clocks room reads.
    leads_now language n live clock (before.enough n k) w (before.Serves language n live (before.enough n k + 3 * n) reading r) (now.Serves language n live (now.enough n k + 3 * n) reading r)
    (serves_now language n live (before.enough n k + 3 * n) reading r)
    (can live clock k reading r statements two (sym (majority_same n live) ∙ most) clocks (room_before live k w room) reads)

pub serves_so : (language : Language) (n : ℕ) (outset : World) (events : List Event) → before.CanServe language n (world.run language n outset events) → now.CanServe language n (later.run language n outset events)
serves_so language n outset events can = subst (λ w. now.CanServe language n w) (sym (run_same language n outset events)) (can_serve language n (world.run language n outset events) can)
