use Rattle.std.proofs.Common.{◌≡◌, ◌∙◌, ℕ, List, ◌++◌, ◌∷◌, [], length, ap, rules, arith}
use Rattle.std.specs.Prelude.{codes, map, All, ⊤}
use Rattle.std.proofs.lemmas.List.{map-append}
use Rattle.flight.specs.Contents.{in_life}
use Rattle.flight.specs.Spelling.{life_text, closing_text}
use Rattle.flight.specs.Ranges.{IsLife, IsAnswer}
use Rattle.flight.specs.Reading.{IsNotBegun}
use Rattle.flight.proofs.Lists.{until_more, until_broken, until_unread, until_only, until_whole, only_to, unread_to}
use Rattle.flight.proofs.Lengths.{after_life}
use Rattle.flight.proofs.Openings.{life_begins, closing_no_life}
use Rattle.flight.proofs.lives.read_lives.Goals as goal

pub returns-in_err-life-clause-err : goal.returns-in_err-life-clause-err
returns-in_err-life-clause-err c =
    let begun : (r : List ℕ) × (c.loop-version.rest.now ≡ codes "life " ++ r) = search rules in
    let unread = until_broken (IsLife c.args.version c.args.node) (life_text c.args.version) (codes "life ") (λ _. ⊤) (λ ys other free. tt) c.args.text.now (map in_life c.loop-version.lives.items) c.loop-version.rest.now (All (IsAnswer c.args.schema.now)) closing_text closing_no_life
    c.loop-version.invariant.taken begun c.in_err-life.field-0.0 (unread_to (IsLife c.args.version c.args.node) (life_text c.args.version) c.loop-version.rest.now c.in_err-life.field-0.0 c.in_err-life.ensures.err) in
    search (rules, unread)

pub loop-version-preserved : goal.loop-version-preserved
loop-version-preserved c =
    let begun : (r : List ℕ) × (c.loop-version.rest.now ≡ codes "life " ++ r) = search rules in
    let more = until_more (IsLife c.args.version c.args.node) (life_text c.args.version) (codes "life ") (λ _. ⊤) (λ ys other free. tt) c.args.text.now (map in_life c.loop-version.lives.items) c.loop-version.rest.now (in_life c.in_ok-life.life) c.in_ok-life.left.now
    c.loop-version.invariant.taken begun c.in_ok-life.ensures.ok (only_to (IsLife c.args.version c.args.node) (life_text c.args.version) c.loop-version.rest.now (in_life c.in_ok-life.life) c.in_ok-life.left.now c.in_ok-life.ensures.only) in
    let items : c.push.new.self.items ≡ c.loop-version.lives.items ++ c.in_ok-life.life ∷ [] = search rules in
    let held : map in_life c.push.new.self.items ≡ map in_life c.loop-version.lives.items ++ in_life c.in_ok-life.life ∷ [] =
    ap (map in_life) items ∙ map-append in_life c.loop-version.lives.items (c.in_ok-life.life ∷ []) in
    record { utf8 = search rules; taken = rw held more }

pub loop-version-smaller : goal.loop-version-smaller
loop-version-smaller c =
    let long : length c.loop-version.rest.now ≡ length (life_text c.args.version (in_life c.in_ok-life.life) c.in_ok-life.left.now) = ap length c.in_ok-life.ensures.ok.1 in
    let longer = after_life c.args.version (in_life c.in_ok-life.life) c.in_ok-life.left.now in
    omega (arith, long, longer)

pub returns-in_err-answers-clause-err : goal.returns-in_err-answers-clause-err
returns-in_err-answers-clause-err c =
    let over : IsNotBegun (codes "life ") c.loop-version.rest.now = search rules in
    let unread = until_unread (IsLife c.args.version c.args.node) (life_text c.args.version) (codes "life ") (λ _. ⊤) (λ ys other free. tt) c.args.text.now (map in_life c.loop-version.lives.items) c.loop-version.rest.now (All (IsAnswer c.args.schema.now)) closing_text closing_no_life
    (life_begins c.args.version) c.loop-version.invariant.taken over c.in_err-answers.field-0.0 c.in_err-answers.ensures.err in
    search (rules, unread)

pub returns-clause-ok : goal.returns-clause-ok
returns-clause-ok c =
    let over : IsNotBegun (codes "life ") c.loop-version.rest.now = search rules in
    until_whole (IsLife c.args.version c.args.node) (life_text c.args.version) (codes "life ") (λ _. ⊤) (λ ys other free. tt) c.args.text.now (map in_life c.loop-version.lives.items) c.loop-version.rest.now (All (IsAnswer c.args.schema.now)) closing_text closing_no_life
    (life_begins c.args.version) c.loop-version.invariant.taken over c.in_ok-answers.answers.items c.in_ok-answers.rest.now c.in_ok-answers.ensures.ok

pub returns-clause-only : goal.returns-clause-only
returns-clause-only c =
    let over : IsNotBegun (codes "life ") c.loop-version.rest.now = search rules in
    until_only (IsLife c.args.version c.args.node) (life_text c.args.version) (codes "life ") (λ _. ⊤) (λ ys other free. tt) c.args.text.now (map in_life c.loop-version.lives.items) c.loop-version.rest.now (All (IsAnswer c.args.schema.now)) closing_text closing_no_life
    (life_begins c.args.version) c.loop-version.invariant.taken over c.in_ok-answers.answers.items c.in_ok-answers.rest.now c.in_ok-answers.ensures.only
