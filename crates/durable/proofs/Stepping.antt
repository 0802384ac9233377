-- From a statement of a transaction to a step.
use Rattle.std.specs.List.{list_all}
use Rattle.std.proofs.lemmas.List.Folds.{list_all_at}
use Rattle.std.proofs.lemmas.Bool.{cases_Bool}
use Rattle.std.proofs.lemmas.Bool.Decides.{nat_tests}
use Rattle.model.specs.Steps.{TERM_LAST}
use Rattle.std.proofs.Common.{nat_le, ◌^◌, ◌≡◌, inl, inr, ℕ, suc, ◌+◌, ◌<◌, ◌≤◌, Option, List, [], ◌∷◌, ◌++◌, length, take, get_or, Bool, true, false, Ok, Err, Result, IsTrue, sym, ap, subst, ◌∙◌, refl, arith, append_assoc, length-append}
use Rattle.std.proofs.lemmas.List.{map_more, length-map, length-take-le}
use Rattle.sqlite.specs.Effect.{Database}
use Rattle.sqlite.specs.State.{Survives, IsRolledBack, KeepsCommit}
use Rattle.sqlite.specs.Held.{Held, state}
use Rattle.sqlite.specs.Store.{Ghosts}
use Rattle.sqlite.proofs.StateLemmas.{survives_then}
use Rattle.model.specs.declared.entry.Entry.{Entry}
use Rattle.durable.specs.Contents.{Item, item_of, items_of}
use Rattle.sqlite.specs.Order.{Row}
use Rattle.sqlite.specs.declared.error.Error.{Error}
use Rattle.sqlite.specs.State.{State, Executes, ExecutesInside}
use Rattle.durable.specs.Contents.{Contents}
use Rattle.durable.specs.Rows.{Holds, log_rows}
use Rattle.durable.specs.Found.{read_back}
use Rattle.durable.specs.Steps.{Goes, IsKept}

true_of : (b : Bool) → b ≡ true → IsTrue b
true_of b is = is

pub in_scope : {A B : Type 0} (b : Bool) (result : Result A Error) (a : A) (e : Error) → result ≡ Ok a → (b ≡ false → (result ≡ Err e) × B) → IsTrue b
in_scope true result a e ok ended = refl
in_scope false result a e ok ended = absurd (let no = (ended refl).0 in cc)

pub goes_by : (old new : State) (sql : List ℕ) (params : Row) (count : ℕ) (made : Contents → Contents) → IsTrue old.in_transaction
    → ((d : Contents) → Holds old.now d → Executes sql params old new (Ok count) → Holds new.now (made d))
    → ExecutesInside 0 sql params old new (Ok count) → Goes old new made
goes_by old new sql params count made was f h = record {
  was_open = h.1.was_open;
  is_open = h.1.is_open;
  was_in = was;
  is_in = true_of new.in_transaction h.1.mode;
  committed = h.1.committed_is;
  holds = λ d has. f d has h.0;
}

pub survives_none : (a b c : State) → Survives a b (λ _. ⊥) → Survives b c (λ _. ⊥) → Survives a c (λ _. ⊥)
survives_none a b c = survives_then a b c _ _ (λ _. ⊥) (λ _ db none. none) (λ _ db none. none)

pub survives_still : (a : State) → Survives a a (λ _. ⊥)
survives_still a = record { clean = omega arith; shield = λ h. h; counts = omega arith; limit = refl; closes = λ _ h. inl h; crash = λ _ db h. inl h }

goes_as : (old new : State) (f h : Contents → Contents) → ((d : Contents) → f d ≡ h d) → Goes old new f → Goes old new h
goes_as old new f h same it = record {
  was_open = it.was_open;
  is_open = it.is_open;
  was_in = it.was_in;
  is_in = it.is_in;
  committed = it.committed;
  holds = λ d has. subst (Holds new.now) (same d) (it.holds d has);
}

pub goes_on : (a b c : State) (f h : Contents → Contents) → Goes a b f → Goes b c h → Goes a c (λ d. h (f d))
goes_on a b c f h one two = record {
  was_open = one.was_open;
  is_open = two.is_open;
  was_in = one.was_in;
  is_in = two.is_in;
  committed = two.committed ∙ one.committed;
  holds = λ d has. two.holds (f d) (one.holds d has);
}

pub with_meta : (d : Contents) (t v : ℕ) → t ≡ d.term → v ≡ d.vote → ◌≡◌ {A = Contents} (record d { term = t; vote = v }) d
with_meta d t v term vote = λ i. record { term = term i; vote = vote i; floor = d.floor; log = d.log }

pub with_floor : (d : Contents) (f : Option ℕ) → f ≡ d.floor → ◌≡◌ {A = Contents} (record d { floor = f }) d
with_floor d f floor = λ i. record { term = d.term; vote = d.vote; floor = floor i; log = d.log }

pub with_log : (d : Contents) (a b : List Item) → a ≡ b → ◌≡◌ {A = Contents} (record d { log = a }) (record d { log = b })
with_log d a b = ap (λ l. record d { log = l })

-- what would change nothing need not be stated
pub goes_still : (s : State) (d : Contents) (made : Contents → Contents) → IsTrue s.is_open → IsTrue s.in_transaction → Holds s.now d → made d ≡ d → Goes s s made
goes_still s d made opened inside has same = record {
  was_open = opened;
  is_open = opened;
  was_in = inside;
  is_in = inside;
  committed = refl;
  holds = λ e held. subst (Holds s.now) (sym same ∙ ap made (sym (read_back s.now d has) ∙ read_back s.now e held)) has;
}

pub goes_further : (a b c : State) (xs : List Entry) (i : ℕ) (x : Entry) → i < length xs → x ≡ get_or xs i x → Goes a b (λ d. record d { log = d.log ++ items_of (take i xs) })
    → Goes b c (λ d. record d { log = d.log ++ item_of x ∷ [] }) → Goes a c (λ d. record d { log = d.log ++ items_of (take (i + 1) xs) })
goes_further a b c xs i x low is one two =
    goes_as a c _ _ (λ d. with_log d _ _ (append_assoc d.log _ _ ∙ ap (λ l. d.log ++ l) (sym (map_more item_of xs i x low ∙ ap (λ y. items_of (take i xs) ++ item_of y ∷ []) (sym is))))) (goes_on a b c _ _ one two)

rows_count : (i : ℕ) (es : List Item) → length (log_rows i es) ≡ length es
rows_count i [] = refl
rows_count i (e ∷ es) = ap suc (rows_count (i + 1) es)

-- the rows tell how long the log is
pub same_count : (db : Database) (d e : Contents) → Holds db d → Holds db e → length d.log ≡ length e.log
same_count db d e one two = sym (rows_count 1 d.log) ∙ ap length (sym one.log ∙ two.log) ∙ rows_count 1 e.log

-- the number behind a log that has grown by the first of these
pub next_place : (d : Contents) (xs : List Entry) (i from : ℕ) → from ≡ length d.log + 1 → i ≤ length xs → from + i ≡ length (d.log ++ items_of (take i xs)) + 1
next_place d xs i from start low =
    let long = length-append d.log (items_of (take i xs)) in
    let taken : length (items_of (take i xs)) ≡ i = length-map (take i xs) item_of ∙ length-take-le i xs low in
    omega (arith, long, taken, start)

shown_keeps : (old new : State) → IsTrue old.is_open → new.committed ≡ old.committed → KeepsCommit old new
shown_keeps old new opened same = record { was_open = λ _. opened; committed = λ _. same }

rolled_keeps : (old new : State) → IsRolledBack old new → KeepsCommit old new
rolled_keeps old new back = record { was_open = back.was_open; committed = λ still. (back.undone still).1 }

inside_keeps : (old new : State) (sql : List ℕ) (params : Row) (r : Result ℕ Error) → ExecutesInside 0 sql params old new r → KeepsCommit old new
inside_keeps old new sql params (Ok count) h = shown_keeps old new h.1.was_open h.1.committed_is
inside_keeps old new sql params (Err e) (inl h) = elim h.1 [
  | inl same ↦ shown_keeps old new same.0.was_open same.0.committed_is
  | inr back ↦ rolled_keeps old new back
]
inside_keeps old new sql params (Err e) (inr h) = shown_keeps old new h.2.0.was_open h.2.0.committed_is

pub keeps_nothing : (s : State) → KeepsCommit s s
keeps_nothing s = record { was_open = λ still. still; committed = λ _. refl }

pub keeps_then : (a b c : State) → KeepsCommit a b → KeepsCommit b c → KeepsCommit a c
keeps_then a b c one two = record { was_open = λ still. one.was_open (two.was_open still); committed = λ still. two.committed still ∙ one.committed (two.was_open still) }

-- whatever the statement did, nothing was committed
pub statement_keeps : {S : Type 0} (g : Ghosts S) (old new : Held S) (sql : List ℕ) (params : Row) (r : Result ℕ Error) (e : Error) (b : Bool) → b ≡ old.in_transaction
    → (b ≡ false → (r ≡ Err e) × (new ≡ old)) → (IsTrue b → ExecutesInside 0 sql params (state g old) (state g new) r) → KeepsCommit (state g old) (state g new)
statement_keeps g old new sql params r e true is ended ran = inside_keeps (state g old) (state g new) sql params r (ran refl)
statement_keeps g old new sql params r e false is ended ran = subst (λ h. KeepsCommit (state g old) (state g h)) (sym (ended refl).1) (keeps_nothing (state g old))

-- `transaction` does nothing to the store
pub begun_keeps : {S : Type 0} (g : Ghosts S) (old : Held S) (mid : State) → KeepsCommit (state g (record old { in_transaction = true })) mid → KeepsCommit (state g old) mid
begun_keeps g old mid it = record { was_open = it.was_open; committed = it.committed }

pub rolled_kept : (old mid new : State) → KeepsCommit old mid → IsRolledBack mid new → IsKept old new
rolled_kept old mid new one two = record {
  was_open = λ still. one.was_open (two.was_open still);
  now = λ still. (two.undone still).0 ∙ one.committed (two.was_open still);
  committed = λ still. (two.undone still).1 ∙ one.committed (two.was_open still);
}

-- what all of them pass, each passes
pub passes_at : {X : Type 0} (p : X → Bool) (xs : List X) (i : ℕ) (x : X) → list_all p xs ≡ true → i < length xs → x ≡ get_or xs i x → p x ≡ true
passes_at p xs i x all low is = elim (cases_Bool (p x)) [
  | inl passes ↦ passes
  | inr fails ↦ absurd (let bad = list_all_at p xs i x low (ap p (sym is) ∙ fails) in cc)
]

pub small_term : (n : ℕ) → nat_le n TERM_LAST ≡ true → n < 2 ^ 63
small_term n h = grind (arith, nat_tests)
