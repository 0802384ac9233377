use Rattle.std.proofs.Common.{◌≡◌, ◌≢◌, ◌∙◌, length, map, inl, sym, rules}
use Rattle.std.proofs.lemmas.List.{length-map}
use Rattle.flight.specs.Contents.{in_flight}
use Rattle.beginnings.proofs.Seen.{as_many}
use Rattle.beginnings.proofs.words.told_of.Goals as goal

pub returns : goal.returns
returns c =
    let other : length c.args.flights.now ≢ length c.args.seen.now = search rules in
    let apart : length (map in_flight c.args.flights.now) ≢ length c.args.seen.now = (λ e. other (sym (length-map c.args.flights.now in_flight) ∙ e)) in
    ((λ all. apart (as_many (map in_flight c.args.flights.now) c.args.seen.now all)), inl (apart, c.in_ok-format.ensures.ok))
