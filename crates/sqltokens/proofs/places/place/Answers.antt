use Rattle.std.proofs.Common.{sym, length}
use Rattle.std.proofs.lemmas.Bool.{ltb-true, ltb-false}
use Rattle.sqltokens.proofs.Whole.{place_in, place_past}
use Rattle.sqltokens.proofs.places.place.Goals as goal

pub returns-in-Some : goal.returns-in-Some
returns-in-Some c = let h = c.in-Some.ensures.lookup in place_in c.args.tokens.now c.args.number c.args.end c.in-Some.token.now _ (ltb-true c.args.number (length c.args.tokens.now) (sym h.0)) h.1

pub returns-in-None : goal.returns-in-None
returns-in-None c = place_past c.args.tokens.now c.args.number c.args.end (ltb-false c.args.number (length c.args.tokens.now) (sym c.in-None.ensures.lookup.0))
