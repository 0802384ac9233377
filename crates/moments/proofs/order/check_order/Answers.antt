use Rattle.std.proofs.Common.{rules, ◌≡◌, ◌∙◌, ◌<◌, ◌≤◌, true, length, ap}
use Rattle.std.specs.declared.vec.Vec.{Vec}
use Rattle.std.specs.declared.alloc.Global.{Global}
use Rattle.std.specs.Prelude.{IsNone}
use Rattle.flight.specs.declared.life.Life.{Life}
use Rattle.moments.specs.Rising.{lives_rise}
use Rattle.moments.proofs.Loops.{all_more, all_of}
use Rattle.moments.proofs.order.check_order.Goals as goal

pub loop-place-preserved : goal.loop-place-preserved
loop-place-preserved c =
    let P : Vec Life Global → Type 0 = λ own. lives_rise 0 own.items ≡ true in
    let within : c.loop-place.place < length c.args.lives.now = search rules in
    let none : IsNone c.first_fallen.result = search rules in
    let same : lives_rise 0 c.index-lives-place.result.items ≡ lives_rise 0 c.deref.result.now = ap (lives_rise 0) (search rules) in
    all_more P c.args.lives.now c.loop-place.place c.index-lives-place.result within c.index-lives-place.is c.loop-place.invariant (same ∙ c.first_fallen.ensures.0 none)

pub returns-clause-ok : goal.returns-clause-ok
returns-clause-ok c =
    let P : Vec Life Global → Type 0 = λ own. lives_rise 0 own.items ≡ true in
    let past : length c.args.lives.now ≤ c.loop-place.place = search rules in
    all_of P c.args.lives.now c.loop-place.place past c.loop-place.invariant
