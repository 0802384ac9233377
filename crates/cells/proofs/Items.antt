-- What a life with one step more publishes.
use Rattle.std.proofs.Common.{◌≡◌, ◌∙◌, ℕ, zero, ◌+◌, ◌-◌, max, Bool, true, false, nat_lt, if◌then◌else◌, Option, Some, None, List, [], ◌∷◌, ◌++◌, length, take, drop, fold, refl, sym, ap, arith, append-nil, append_assoc, inl, inr, ⊎_elim}
use Rattle.std.specs.List.{slice_range}
use Rattle.std.proofs.Math.Seq.{take-add}
use Rattle.std.proofs.lemmas.List.Elements.{filter_map-append}
use Rattle.std.proofs.lemmas.List.Sums.{fold-append}
use Rattle.std.proofs.lemmas.Bool.Decides.{nat_tests}
use Rattle.sqlchecks.specs.Columns.{Tables}
use Rattle.model.specs.declared.entry.Entry.{Entry}
use Rattle.model.specs.Stamps.{greater}
use Rattle.model.specs.Members.{Node, applied}
use Rattle.model.specs.Kept.{node_after}
use Rattle.model.specs.Steps.{Effect}
use Rattle.keep.specs.Durable.{Durable, IsBeforeOrAfter}
use Rattle.node.specs.declared.node.Out.{Out}
use Rattle.node.specs.View.{IsGiven, durable_of, risen, started_from, works, Grows}
use Rattle.node.specs.Work.{Work}
use Rattle.history.specs.declared.item.Item.{Item}
use Rattle.history.specs.Items.{entry_of, entries_in, greater_sealed, sealed_in}
use Rattle.flight.specs.declared.life.Step.{Step}
use Rattle.flight.specs.declared.life.Opening.{Opening}
use Rattle.cells.specs.Lives.{stepped, opened_with}
use Rattle.view.specs.declared.publisher.Publisher.{Publisher}
use Rattle.view.specs.Publishing.{IsSameLife}
use Rattle.cells.specs.Publishing.{marked, marked_seal, items_by, items_from, AreFirst, IsPublisherOf}
use Rattle.cells.proofs.Replays.{taken_through, replayed, Seated}

-- what becomes applied in the steps from an opening on
abbrev pub items_in : Seated → Opening → List Step → List Item
items_in c o steps = items_from c.schema c.members c.me (started_from (opened_with o)) steps

-- the seat is the same
pub same_items : (old new : Seated) (o : Opening) (steps : List Step) → new.schema ≡ old.schema → new.members ≡ old.members → new.me ≡ old.me → items_in new o steps ≡ items_in old o steps
same_items old new o steps a b c = rw (a, b, c) refl

-- one step more
items_more : (schema : Tables) (n me : ℕ) (x : Node) (steps : List Step) (s : Step) → items_from schema n me x (steps ++ s ∷ []) ≡ items_from schema n me x steps ++ items_by s.mark (fold (stepped schema n me) x steps) (stepped schema n me (fold (stepped schema n me) x steps) s)
unfolding items_from
items_more schema n me x [] s = append-nil (items_by s.mark x (stepped schema n me x s))
items_more schema n me x (t ∷ steps) s =
    let y : Node = stepped schema n me x t in
    ap (λ (items : List Item). items_by t.mark x y ++ items) (items_more schema n me y steps s) ∙ sym (append_assoc (items_by t.mark x y) (items_from schema n me y steps) _)

-- the entries of what becomes applied and sealed in a step
entries_marked : (mark : ℕ) (entries : List Entry) → entries_in (marked mark entries) ≡ entries
entries_marked mark [] = refl
entries_marked mark (e ∷ es) = ap (λ (rest : List Entry). e ∷ rest) (entries_marked mark es)

no_entries : (mark : ℕ) (sealed : Option ℕ) → entries_in (marked_seal mark sealed) ≡ []
no_entries mark None = refl
no_entries mark (Some time) = refl

entries_by : (mark : ℕ) (x y : Node) → entries_in (items_by mark x y) ≡ slice_range y.log x.commit y.commit
entries_by mark x y =
    let entries : List Entry = slice_range y.log x.commit y.commit in
    filter_map-append entry_of (marked mark entries) (marked_seal mark (risen x.sealed y.sealed))
    ∙ ap (λ (es : List Entry). entries_in (marked mark entries) ++ es) (no_entries mark (risen x.sealed y.sealed))
    ∙ append-nil (entries_in (marked mark entries))
    ∙ entries_marked mark entries

-- what is sealed in what becomes applied and sealed in a step, after so great a time
sealed_marked : (sealed : Option ℕ) (mark : ℕ) (entries : List Entry) → fold greater_sealed sealed (marked mark entries) ≡ sealed
sealed_marked sealed mark [] = refl
sealed_marked sealed mark (e ∷ es) = sealed_marked sealed mark es

not_above : (before now : ℕ) → nat_lt before now ≡ false → greater (Some before) (Some now) ≡ Some now → Some before ≡ Some now
not_above before now h rises = let most : max before now ≡ now = cc rises in let same : before ≡ now = grind (arith, nat_tests) in ap Some same

sealed_risen_if : (mark before now : ℕ) (above : Bool) → nat_lt before now ≡ above → greater (Some before) (Some now) ≡ Some now → fold greater_sealed (Some before) (marked_seal mark (if above then Some now else None)) ≡ Some now
sealed_risen_if mark before now true h rises = rises
sealed_risen_if mark before now false h rises = not_above before now h rises

sealed_risen : (mark : ℕ) (before now : Option ℕ) → greater before now ≡ now → fold greater_sealed before (marked_seal mark (risen before now)) ≡ now
sealed_risen mark None None rises = refl
sealed_risen mark None (Some now) rises = refl
sealed_risen mark (Some before) None rises = absurd (cc rises)
sealed_risen mark (Some before) (Some now) rises = sealed_risen_if mark before now (nat_lt before now) refl rises

sealed_by : (mark : ℕ) (x y : Node) → Grows x y → fold greater_sealed x.sealed (items_by mark x y) ≡ y.sealed
sealed_by mark x y g =
    let entries : List Entry = slice_range y.log x.commit y.commit in
    fold-append greater_sealed x.sealed (marked mark entries) (marked_seal mark (risen x.sealed y.sealed))
    ∙ ap (λ (sealed : Option ℕ). fold greater_sealed sealed (marked_seal mark (risen x.sealed y.sealed))) (sealed_marked x.sealed mark entries)
    ∙ sealed_risen mark x.sealed y.sealed g.sealed

-- what is applied after a step
pub applied_more : (x y : Node) → Grows x y → applied y ≡ applied x ++ slice_range y.log x.commit y.commit
applied_more x y g =
    let n : x.commit + (y.commit - x.commit) ≡ y.commit = omega (arith, g.commit) in
    ap (λ (k : ℕ). take k y.log) (sym n) ∙ take-add x.commit (y.commit - x.commit) y.log ∙ ap (λ (es : List Entry). es ++ slice_range y.log x.commit y.commit) g.log

-- nothing becomes applied or sealed where nothing changes
not_risen : (sealed : Option ℕ) → risen sealed sealed ≡ None
not_risen None = refl
not_risen (Some time) = let level : nat_lt time time ≡ false = grind (arith, nat_tests) in rw level refl

items_none : (mark : ℕ) (x y : Node) → y ≡ x → items_by mark x y ≡ []
items_none mark x y e =
    let none : x.commit - x.commit ≡ zero = omega arith in
    ap (λ (v : Node). items_by mark x v) e
    ∙ ap (λ (k : ℕ). marked mark (take k (drop x.commit x.log)) ++ marked_seal mark (risen x.sealed x.sealed)) none
    ∙ ap (marked_seal mark) (not_risen x.sealed)

-- what is published of a life are the entries that it has applied and the times that it has sealed
pub record IsListed (c : Seated) (o : Opening) (steps : List Step) : Type 0 where
  pub entries : entries_in (items_in c o steps) ≡ applied (taken_through c o steps)
  pub sealed : sealed_in (items_in c o steps) ≡ (taken_through c o steps).sealed

-- what a longer life publishes
pub record OneMore (old new : Seated) (o : Opening) (before after : List Step) (s : Step) : Type 0 where
  pub items : items_in new o after ≡ items_in old o before ++ items_by s.mark old.member new.member
  pub listed : IsListed new o after

pub one_more : (old new : Seated) (o : Opening) (before after : List Step) (s : Step) → new.schema ≡ old.schema → new.members ≡ old.members → new.me ≡ old.me → after ≡ before ++ s ∷ [] → old.member ≡ taken_through old o before → stepped old.schema old.members old.me old.member s ≡ new.member → Grows old.member new.member → IsListed old o before → OneMore old new o before after s
one_more old new o before after s a b c e was is grows had =
    let x : Node = old.member in
    let y : Node = new.member in
    let items : items_in new o after ≡ items_in old o before ++ items_by s.mark x y =
    same_items old new o after a b c
    ∙ ap (items_in old o) e
    ∙ items_more old.schema old.members old.me (started_from (opened_with o)) before s
    ∙ ap (λ (v : Node). items_in old o before ++ items_by s.mark v (stepped old.schema old.members old.me v s)) (sym was)
    ∙ ap (λ (v : Node). items_in old o before ++ items_by s.mark x v) is in
    let became : y ≡ taken_through new o after = replayed old new o before after s a b c e was is in
    let entries : entries_in (items_in new o after) ≡ applied (taken_through new o after) =
    ap entries_in items
    ∙ filter_map-append entry_of (items_in old o before) (items_by s.mark x y)
    ∙ ap (λ (es : List Entry). es ++ entries_in (items_by s.mark x y)) (had.entries ∙ ap applied (sym was))
    ∙ ap (λ (es : List Entry). applied x ++ es) (entries_by s.mark x y)
    ∙ sym (applied_more x y grows)
    ∙ ap applied became in
    let sealed : sealed_in (items_in new o after) ≡ (taken_through new o after).sealed =
    ap sealed_in items
    ∙ fold-append greater_sealed None (items_in old o before) (items_by s.mark x y)
    ∙ ap (λ (sealed : Option ℕ). fold greater_sealed sealed (items_by s.mark x y)) (had.sealed ∙ ap (λ (v : Node). v.sealed) (sym was))
    ∙ sealed_by s.mark x y grows
    ∙ ap (λ (v : Node). v.sealed) became in
    record { items = items; listed = record { entries = entries; sealed = sealed } }

no_greater : (sealed : Option ℕ) → greater sealed sealed ≡ sealed
no_greater None = refl
no_greater (Some time) = let most : max time time ≡ time = omega arith in ap Some most

-- a step that changes nothing
pub same_grows : (x y : Node) → y ≡ x → Grows x y
same_grows x y e =
    record {
      commit = let n : y.commit ≡ x.commit = ap (λ (v : Node). v.commit) e in omega (arith, n);
      log = ap (λ (v : Node). take x.commit v.log) e;
      sealed = ap (λ (v : Node). greater x.sealed v.sealed) e ∙ no_greater x.sealed ∙ ap (λ (v : Node). v.sealed) (sym e);
    }

-- what is published and what is pending, after what became applied and sealed was appended and perhaps published
pub all_listed : (before shown waits items by waits' all : List Item) → shown ++ waits ≡ before → waits' ≡ waits ++ by → items ≡ before ++ by → all ≡ shown ++ waits' → all ≡ items
all_listed before shown waits items by waits' all was more is same = same ∙ ap (λ (xs : List Item). shown ++ xs) more ∙ sym (append_assoc shown waits by) ∙ ap (λ (xs : List Item). xs ++ by) was ∙ sym is

-- what was published and pending is listed still where nothing became applied or sealed
pub still_listed : (mark : ℕ) (x y : Node) (before items all : List Item) → y ≡ x → all ≡ before → items ≡ before ++ items_by mark x y → all ≡ items
still_listed mark x y before items all same was is = was ∙ sym (append-nil before) ∙ ap (λ (xs : List Item). before ++ xs) (sym (items_none mark x y same)) ∙ sym is

first_of : (xs ys : List Item) → take (length xs) (xs ++ ys) ≡ xs
first_of [] ys = refl
first_of (x ∷ xs) ys = ap (λ (zs : List Item). x ∷ zs) (first_of xs ys)

-- what is published are the first of what is published and what is pending
pub are_first : (shown waits items shown' items' : List Item) → shown ++ waits ≡ items → shown' ≡ shown → items' ≡ items → AreFirst shown' items'
are_first shown waits items shown' items' was a b = rw (a, b, ← was) (first_of shown waits)

-- a step that was made whole, of which what is stored is left
pub whole_left : (x : Node) (schema : Tables) (n me : ℕ) (w : Work) (y : Node) (out : Out) (d : Durable) → IsGiven x y (works schema n me w x) out → d ≡ durable_of y → IsBeforeOrAfter (durable_of x) (durable_of (node_after x (works schema n me w x))) d
whole_left x schema n me w y out d gave is = ⊎_elim
    (λ moved. inr (is ∙ ap (λ (effect : Effect). durable_of (node_after x effect)) moved))
    (λ ignored. inl (is ∙ ap durable_of ignored.1))
    gave

-- ---- where nothing was made

entries_none : (c : Seated) (o : Opening) (steps : List Step) → steps ≡ [] → entries_in (items_in c o steps) ≡ applied (taken_through c o steps)
unfolding items_from
entries_none c o steps e = rw e refl

sealed_none : (c : Seated) (o : Opening) (steps : List Step) → steps ≡ [] → sealed_in (items_in c o steps) ≡ (taken_through c o steps).sealed
unfolding items_from
sealed_none c o steps e = rw e refl

pub listed_none : (c : Seated) (o : Opening) (steps : List Step) → steps ≡ [] → IsListed c o steps
listed_none c o steps e = record { entries = entries_none c o steps e; sealed = sealed_none c o steps e }

pub whole_none : (c : Seated) (o : Opening) (steps : List Step) (shown waits : List Item) → steps ≡ [] → shown ≡ [] → waits ≡ [] → shown ++ waits ≡ items_in c o steps
unfolding items_from
whole_none c o steps shown waits e a b = rw (e, a, b) refl

pub items_still : (old new : Seated) (o : Opening) (before after : List Step) → new.schema ≡ old.schema → new.members ≡ old.members → new.me ≡ old.me → after ≡ before → items_in new o after ≡ items_in old o before
items_still old new o before after a b c e = rw (a, b, c, e) refl

pub listed_still : (old new : Seated) (o : Opening) (before after : List Step) → new.schema ≡ old.schema → new.members ≡ old.members → new.me ≡ old.me → after ≡ before → IsListed old o before → IsListed new o after
listed_still old new o before after a b c e was = record { entries = rw (a, b, c, e) was.entries; sealed = rw (a, b, c, e) was.sealed }

pub named_still : (schema schema' : Tables) (me me' opening : ℕ) (p q : Publisher) → IsPublisherOf schema me opening p → IsSameLife p q → schema' ≡ schema → me' ≡ me → IsPublisherOf schema' me' opening q
named_still schema schema' me me' opening p q was same a b = rw (a, b) (same.0 ∙ was.0, same.1 ∙ was.1)
