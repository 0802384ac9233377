-- Lives that a run explains follow it, and stamps rise in what they make applied and sealed.
use Rattle.std.proofs.Common.{◌≡◌, ◌∙◌, ℕ, zero, suc, ◌<◌, Option, Some, None, List, [], ◌∷◌, ◌++◌, length, true, take, fold, filter, replicate, refl, sym, ap, subst, arith, append-nil, append_assoc}
use Rattle.std.specs.Prelude.{slice_get, option_and_then}
use Rattle.std.specs.declared.vec.Vec.{Vec}
use Rattle.std.specs.declared.alloc.Global.{Global}
use Rattle.std.proofs.lemmas.Option.{get_or_from_slice_get, slice_get_within}
use Rattle.std.proofs.lemmas.List.Sums.{fold-append}
use Rattle.std.proofs.lemmas.List.Elements.{All-contains}
use Rattle.model.specs.Lists.{nth}
use Rattle.model.specs.Members.{Node, applied}
use Rattle.model.specs.Transactions.{Language}
use Rattle.model.specs.Worlds.{Event, fresh, new_world}
use Rattle.safety.specs.Floors.{WasAt}
use Rattle.node.specs.View.{started_from}
use Rattle.history.specs.declared.item.Item.{Item}
use Rattle.history.specs.Items.{Rises, entries_in, sealed_in}
use Rattle.flight.specs.declared.life.Opening.{Opening}
use Rattle.flight.specs.declared.life.Step.{Step}
use Rattle.flight.specs.declared.life.Life.{Life}
use Rattle.flight.specs.declared.life.Ending.{Ending}
use Rattle.sqlread.specs.Meaning.{language_of}
use Rattle.cells.specs.Lives.{opened_with, replay, stepped}
use Rattle.cells.specs.Publishing.{items_by, items_from}
use Rattle.cells.specs.Runs.{RunsRise}
use Rattle.cells.proofs.Replays.{Seated}
use Rattle.cells.proofs.Items.{IsListed, items_in, listed_none, one_more}
use Rattle.moments.specs.Behind.{Evidence, life_at}
use Rattle.moments.specs.Past.{beginning}
use Rattle.moments.specs.declared.moment.Moment.{Moment}
use Rattle.moments.specs.Rising.{Rise, lives_rise}
use Rattle.auditor.specs.Audited.{Explains}
use Rattle.lifelaws.specs.Lives.{begun, made, IsRising, LivesFollow, LivesRise}
use Rattle.lifelaws.proofs.Growing.{IsMove, Runs, grows, was_after, was_before}
use Rattle.lifelaws.proofs.Ordering.{in_order, is_deed, stands_in_order}
use Rattle.lifelaws.proofs.Walking.{GoesThrough, IsFollowed, WasCut, Walks, gone, lives_followed, walks}

-- ---- each life follows the run

replicated : (n j : ℕ) (x : Node) → j < n → slice_get (replicate n x) j ≡ Some x
replicated zero j x less = absurd (omega (arith, less))
replicated (suc n) zero x less = refl
replicated (suc n) (suc j) x less = replicated n j x (omega (arith, less))

-- node me began afresh
begins_fresh : (lives : List (Vec Life Global)) (me : ℕ) (own : Vec Life Global) → nth lives me ≡ Some own → nth (new_world (length lives)).nodes me ≡ Some (fresh 0 None)
begins_fresh lives zero own at = absurd (cc at)
begins_fresh lives (suc j) own at = replicated (length lives) j (fresh 0 None) (slice_get_within lives j own at)

own_rise : (lives : List (Vec Life Global)) (me : ℕ) (own : Vec Life Global) → Rise lives → nth lives me ≡ Some own → lives_rise 0 own.items ≡ true
own_rise lives zero own rise at = absurd (cc at)
own_rise lives (suc j) own rise at =
    let within : j < length lives = slice_get_within lives j own at in
    All-contains (λ (y : Vec Life Global). lives_rise 0 y.items ≡ true) lives own rise (j, within, get_or_from_slice_get lives j own own at)

-- the node of a life
own_lives : (lives : List (Vec Life Global)) (me k : ℕ) (life : Life) → life_at lives me k ≡ Some life → (own : Vec Life Global) × (nth lives me ≡ Some own) × (slice_get own.items k ≡ Some life)
own_lives lives me k life at = by_node (nth lives me) refl at
  where
    by_node : (o : Option (Vec Life Global)) → nth lives me ≡ o → option_and_then (λ (own : Vec Life Global). slice_get own.items k) o ≡ Some life → (own : Vec Life Global) × (nth lives me ≡ Some own) × (slice_get own.items k ≡ Some life)
    by_node None is found = absurd (cc found)
    by_node (Some own) is found = (own, is, found)

pub followed : (r : Evidence) (events : List Event) → Rise r.lives → Explains r events → (me k : ℕ) (life : Life) → life_at r.lives me k ≡ Some life → IsFollowed r events me life
followed r events rise explains me k life at =
    let own = own_lives r.lives me k life at in
    let ordered : filter (is_deed me) explains.moments ≡ in_order me 0 own.0.items = stands_in_order r.lives r.answers explains.moments me own.0 explains.timeline own.1 (own_rise r.lives me own.0 rise own.1) in
    let walked = walks r events me (beginning (length r.lives)) explains.end [] events explains.moments refl refl explains.leads in
    let fresh_first : Walks r events me (Some (fresh 0 None)) (in_order me 0 own.0.items) =
    subst (λ (ms : List Moment). Walks r events me (Some (fresh 0 None)) ms) ordered (subst (λ (o : Option Node). Walks r events me o (filter (is_deed me) explains.moments)) (begins_fresh r.lives me own.0 own.1) walked) in
    lives_followed r events me own.0.items (λ i. ap (option_and_then (λ (y : Vec Life Global). slice_get y.items i)) own.1) fresh_first k life own.2

-- after the first steps
was_through : (r : Evidence) (events : List Event) (me : ℕ) (x : Node) (steps : List Step) → WasAt (language_of r.tables) (length r.lives) (new_world (length r.lives)) events me x → GoesThrough r events me x steps →
    (j : ℕ) → WasAt (language_of r.tables) (length r.lives) (new_world (length r.lives)) events me (gone r me x (take j steps))
was_through r events me x [] was goes zero = was
was_through r events me x [] was goes (suc j) = was
was_through r events me x (s ∷ steps) was goes zero = was
was_through r events me x (s ∷ steps) was goes (suc j) = was_through r events me (stepped r.tables (length r.lives) me x s) steps goes.1 goes.2 j

pub lives_follow : (r : Evidence) (events : List Event) → Rise r.lives → Explains r events → LivesFollow r events
lives_follow r events rise explains me k j life at =
    let f = followed r events rise explains me k life at in
    was_through r events me (begun life) life.steps.items f.begins f.goes j

-- ---- stamps rise in what it makes

abbrev seat : Evidence → ℕ → Node → Seated
seat r me x = record { schema = r.tables; members = length r.lives; me = me; member = x }

-- stamps rise with what a move makes applied and sealed
with_move : (r : Evidence) (me mark : ℕ) (x y : Node) (before : List Item) → Runs (language_of r.tables) (length r.lives) → RunsRise (language_of r.tables) (length r.lives) (new_world (length r.lives)) → IsMove (language_of r.tables) (length r.lives) me x y →
    Rises before → entries_in before ≡ applied x → sealed_in before ≡ x.sealed → Rises (before ++ items_by mark x y)
with_move r me mark x y before runs law move rises entries sealed =
    let language : Language = language_of r.tables in
    let n : ℕ = length r.lives in
    law (move.early ++ move.event ∷ []) me mark x y before (was_before language n me x y move) (was_after language n me x y move) (grows language n me x y runs move) rises entries sealed

-- what a life makes in these steps, and what it is then
record IsMade (r : Evidence) (me : ℕ) (o : Opening) (steps : List Step) : Type 0 where
  member : Node
  is : member ≡ fold (stepped r.tables (length r.lives) me) (started_from (opened_with o)) steps
  listed : IsListed (seat r me member) o steps
  rises : Rises (items_in (seat r me member) o steps)

makes : (r : Evidence) (events : List Event) (me : ℕ) (o : Opening) (before steps : List Step) → Runs (language_of r.tables) (length r.lives) → RunsRise (language_of r.tables) (length r.lives) (new_world (length r.lives)) → (m : IsMade r me o before) →
    GoesThrough r events me m.member steps → IsMade r me o (before ++ steps)
makes r events me o before [] runs law m goes = subst (λ (xs : List Step). IsMade r me o xs) (sym (append-nil before)) m
makes r events me o before (s ∷ steps) runs law m goes =
    let n : ℕ = length r.lives in
    let x : Node = m.member in
    let y : Node = stepped r.tables n me x s in
    let move = goes.0 in
    let more = one_more (seat r me x) (seat r me y) o before (before ++ s ∷ []) s refl refl refl refl m.is refl (grows (language_of r.tables) n me x y runs move) m.listed in
    let entries : entries_in (items_in (seat r me x) o before) ≡ applied x = m.listed.entries ∙ ap applied (sym m.is) in
    let sealed : sealed_in (items_in (seat r me x) o before) ≡ x.sealed = m.listed.sealed ∙ ap (λ (v : Node). v.sealed) (sym m.is) in
    let rises = with_move r me s.mark x y (items_in (seat r me x) o before) runs law move m.rises entries sealed in
    let is : y ≡ fold (stepped r.tables n me) (started_from (opened_with o)) (before ++ s ∷ []) =
    ap (λ (v : Node). stepped r.tables n me v s) m.is ∙ sym (fold-append (stepped r.tables n me) (started_from (opened_with o)) before (s ∷ [])) in
    let next : IsMade r me o (before ++ s ∷ []) = record { member = y; is = is; listed = more.listed; rises = subst (λ (items : List Item). Rises items) (sym more.items) rises } in
    subst (λ (xs : List Step). IsMade r me o xs) (append_assoc before (s ∷ []) steps) (makes r events me o (before ++ s ∷ []) steps runs law next goes.2)

none_made : (r : Evidence) (me : ℕ) (o : Opening) → IsMade r me o []
unfolding items_from
none_made r me o = record { member = started_from (opened_with o); is = refl; listed = listed_none (seat r me (started_from (opened_with o))) o [] refl; rises = tt }

life_rises : (r : Evidence) (events : List Event) (me : ℕ) (life : Life) → Runs (language_of r.tables) (length r.lives) → RunsRise (language_of r.tables) (length r.lives) (new_world (length r.lives)) → IsFollowed r events me life → IsRising r.tables (length r.lives) me life
unfolding none_made
life_rises r events me life runs law f =
    let n : ℕ = length r.lives in
    let m : IsMade r me life.opening life.steps.items = makes r events me life.opening [] life.steps.items runs law (none_made r me life.opening) f.goes in
    let x : Node = replay r.tables n me life in
    let entries : entries_in (made r.tables n me life) ≡ applied x = m.listed.entries in
    let sealed : sealed_in (made r.tables n me life) ≡ x.sealed = m.listed.sealed in
    record {
      whole = m.rises;
      cut = λ s e.
          let move : IsMove (language_of r.tables) n me x (stepped r.tables n me x s) = subst (λ (end : Ending). WasCut r me x end) e f.cut in
          with_move r me s.mark x (stepped r.tables n me x s) (made r.tables n me life) runs law move m.rises entries sealed;
    }

pub lives_rise_so : (r : Evidence) (events : List Event) → Runs (language_of r.tables) (length r.lives) → RunsRise (language_of r.tables) (length r.lives) (new_world (length r.lives)) → Rise r.lives → Explains r events → LivesRise r
lives_rise_so r events runs law rise explains me k life at = life_rises r events me life runs law (followed r events rise explains me k life at)
