use Rattle.std.proofs.Common.{◌≡◌, map, inr, refl, sym}
use Rattle.std.specs.Prelude.{All}
use Rattle.std.proofs.lemmas.Bool.{false≢true}
use Rattle.flight.specs.Contents.{in_flight}
use Rattle.beginnings.specs.Words.{AllBegin}
use Rattle.beginnings.specs.declared.beginning.Found.{Found}
use Rattle.beginnings.specs.declared.beginning.Found.TheVariants.{Begins}
use Rattle.beginnings.proofs.Seen.{all_begin, begin_all}
use Rattle.beginnings.proofs.words.told_of_nodes.Goals as goal

pub returns-then-all_begin : goal.returns-then-all_begin
returns-then-all_begin c =
    let found = c.in_ok-found.found.items in
    let all : All (λ (x : Found). x ≡ Begins) found = rw c.as_slice.ensures.value at (c.if-all_begin.ensures.0 refl) in
    (all_begin (map in_flight c.args.flights.now) c.args.seen.now found c.in_ok-found.ensures all, c.in_ok-from_str.ensures.ok)

pub returns : goal.returns
returns c =
    let found = c.in_ok-found.found.items in
    let words = c.in_ok-lines_of.ensures in
    let none : AllBegin (map in_flight c.args.flights.now) c.args.seen.now → ⊥ = (λ begin.
    let all : All (λ (x : Found). x ≡ Begins) c.as_slice.result.now = rw (sym c.as_slice.ensures.value) at (begin_all (map in_flight c.args.flights.now) c.args.seen.now found c.in_ok-found.ensures begin) in
    absurd (false≢true (c.if-all_begin.ensures.1 all))) in
    (none, inr (found, c.in_ok-found.ensures, rw c.as_slice-2.ensures.value at words))
