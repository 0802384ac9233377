use Rattle.std.proofs.Common.{◌≡◌, inr, refl, sym, rules, List, length, arith}
use Rattle.std.specs.Prelude.{IfErr, ◌⊎◌}
use Rattle.std.specs.List.{All, Contains}
use Rattle.std.proofs.lemmas.Bool.{false≢true}
use Rattle.fault.specs.declared.refusal.Refusal.TheVariants.{NoMemory, BadFlight}
use Rattle.flight.specs.declared.flight.Flight.{Flight as Held}
use Rattle.shell.specs.Reading.{LacksNode}
use Rattle.shell.proofs.Groups.{none_empty, none_unlike, each_flight, lacking, group_read}
use Rattle.shell.proofs.group.read_group.Goals as goal

pub returns-in_default-clause-err : goal.returns-in_default-clause-err
returns-in_default-clause-err c =
    let none : length c.deref.result.now ≡ 0 = omega (arith, c.in_default.ensures.item.3) in
    inr (refl, none_empty c.args.texts.now c.in_ok-flights.flights.items c.in_ok-flights.ensures.ok (rw c.deref.ensures.value at none))

pub returns-then-not-are_alike-clause-err : goal.returns-then-not-are_alike-clause-err
returns-then-not-are_alike-clause-err c =
    let first : Held = c.in-Some.first.now in
    let fs : List Held = c.in_ok-flights.flights.items in
    let held : Contains c.deref.result.now first = (0, c.in-Some.ensures.item.3.0, sym c.in-Some.ensures.item.1) in
    let has : Contains fs first = rw c.deref.ensures.value at held in
    inr (refl, none_unlike c.args.texts.now fs c.in_ok-flights.ensures.ok first has (λ h. absurd (false≢true ((rw c.deref-2.ensures.value at c.if-not-are_alike.ensures.1) h))))

pub tables_of-requires : goal.tables_of-requires
tables_of-requires c =
    let first : Held = c.in-Some.first.now in
    let fs : List Held = c.in_ok-flights.flights.items in
    let held : Contains c.deref.result.now first = (0, c.in-Some.ensures.item.3.0, sym c.in-Some.ensures.item.1) in
    let has : Contains fs first = rw c.deref.ensures.value at held in
    each_flight c.args.texts.now fs c.in_ok-flights.ensures.ok first has

pub returns-in_err-in_order-clause-err : goal.returns-in_err-in_order-clause-err
returns-in_err-in_order-clause-err c =
    let fs : List Held = c.in_ok-flights.flights.items in
    let said : IfErr c.from_residual-in_err-in_order.result (λ refusal. (refusal ≡ NoMemory) ⊎ ((refusal ≡ BadFlight) × LacksNode fs)) = search rules in
    lacking c.from_residual-in_err-in_order.result c.args.texts.now fs c.in_ok-flights.ensures.ok said

pub returns-clause-ok : goal.returns-clause-ok
returns-clause-ok c =
    let first : Held = c.in-Some.first.now in
    let fs : List Held = c.in_ok-flights.flights.items in
    let held : Contains c.deref.result.now first = (0, c.in-Some.ensures.item.3.0, sym c.in-Some.ensures.item.1) in
    let has : Contains fs first = rw c.deref.ensures.value at held in
    let same : All (λ (f : Held). (f.version ≡ first.version) × (f.members ≡ length fs) × (f.schema ≡ first.schema)) fs = rw c.deref-2.ensures.value at (c.if-not-are_alike.ensures.0 refl) in
    group_read c.args.texts.now fs c.in_ok-flights.ensures.ok c.in_ok-tables.tables first has same c.in_ok-tables.ensures.ok c.in_ok-in_order.field-0.items c.in_ok-in_order.ensures.ok.0 c.in_ok-in_order.ensures.ok.1
