use Rattle.std.proofs.Common.{◌≡◌, ◌∙◌, ℕ, Option, Some, None, List, Ok, Err, Result, MatchResult, [], ◌∷◌, ◌++◌, length, sym, ap, rules}
use Rattle.std.proofs.lemmas.List.{append-nil}
use Rattle.std.specs.declared.alloc.AllocError.{AllocError}
use Rattle.node.specs.View.{risen}
use Rattle.history.specs.declared.item.Item.{Item}
use Rattle.history.specs.declared.item.Item.TheVariants.{Sealed}
use Rattle.history.specs.Items.{entries_in, closed_in}
use Rattle.journal.specs.Digests.{digest_of}
use Rattle.view.specs.declared.publisher.Publisher.{Publisher}
use Rattle.view.specs.Publishing.{published, pending}
use Rattle.storeviews.specs.Listing.{listed, marked_time}
use Rattle.storeviews.specs.Showing.{list_of}
use Rattle.storeviews.specs.declared.window.Window.{Window}
use Rattle.storeviews.proofs.Listing.{joined, entries_timed, rises_parts, closes}
use Rattle.storeviews.proofs.window.Window.close.Goals as goal
use Rattle.storeviews.proofs.window.Window.close.Goals.{in-Some+in_ok-append, in_default}

-- a time has no entry
same_entries : (old new : Publisher) (mark t : ℕ) (r : Result (Unit {0}) AllocError) → published new ≡ published old → MatchResult r (λ _. pending new ≡ pending old ++ Sealed mark t ∷ []) (λ _. pending new ≡ pending old)
    → entries_in (listed new) ≡ entries_in (listed old)
same_entries old new mark t (Ok done) same is =
    ap entries_in (joined (published old) (pending old) (published new) (pending new) (Sealed mark t ∷ []) same is) ∙ entries_timed (listed old) mark (Some t)
same_entries old new mark t (Err e) same is =
    ap entries_in (ap (λ (xs : List Item). xs ++ pending new) same ∙ ap (λ (xs : List Item). published old ++ xs) is)

pub invariant_of-self : goal.invariant_of-self
invariant_of-self c =
    let old = c.args.self.now in
    let same = same_entries old.publisher c.append.new.self c.args.mark c.in-Some.time c.append.result c.append.ensures.same.2 c.append.ensures.pending in
    record { counted = old.counted ∙ ap length (sym same); digested = old.digested ∙ ap digest_of (sym same) }

pub returns-clause-closed : goal.returns-clause-closed
returns-clause-closed c =
    let old = c.args.self.now in
    let shown = c.closed-shown.result in
    let all = closes (list_of old) c.args.mark shown c.args.closed (rises_parts _ _ old.publisher.rising) c.closed-shown.ensures c.if-is_below.ensures in
    elim c.match-risen.branch [
      | in-Some+in_ok-append w ↦
          let new = w.append.new.self in
          let longer : listed new ≡ listed old.publisher ++ marked_time c.args.mark (Some w.in-Some.time) =
          joined (published old.publisher) (pending old.publisher) (published new) (pending new) (Sealed c.args.mark w.in-Some.time ∷ []) w.append.ensures.same.2 w.in_ok-append.ensures.pending in
          let is : risen shown c.args.closed ≡ Some w.in-Some.time = sym c.risen.ensures ∙ w.in-Some.is in
          ap (λ (x : Window). closed_in (list_of x)) w.self-is ∙ ap closed_in longer ∙ ap (λ (r : Option ℕ). closed_in (list_of old ++ marked_time c.args.mark r)) (sym is) ∙ all
      | in_default w ↦
          let none : c.risen.result ≡ None = search rules in
          let is : risen shown c.args.closed ≡ None = sym c.risen.ensures ∙ none in
          ap (λ (x : Window). closed_in (list_of x)) w.self-is ∙ ap closed_in (sym (append-nil (list_of old))) ∙ ap (λ (r : Option ℕ). closed_in (list_of old ++ marked_time c.args.mark r)) (sym is) ∙ all
    ]
