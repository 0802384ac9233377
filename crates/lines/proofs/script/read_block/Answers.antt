use Rattle.std.proofs.Common.{rules, arith, ◌≡◌, ◌≢◌, ◌∙◌, ◌++◌, ◌∷◌, [], ap, append_assoc, string_bytes}
use Rattle.std.specs.Prelude.{codes}
use Rattle.lines.proofs.Scripts.{block_more, block_ends}
use Rattle.lines.proofs.script.read_block.Goals as goal

pub loop-block-preserved : goal.loop-block-preserved
loop-block-preserved c =
    let line = c.in_ok-line.line.now in
    let before = string_bytes c.loop-block.block in
    let other : line ≢ codes "end" = search rules in
    let first : string_bytes c.push_str.new.self ≡ before ++ line = search rules in
    let second : string_bytes c.push_str-in-loop-block.new.self ≡ string_bytes c.push_str.new.self ++ 10 ∷ [] = search rules in (
      omega (arith, c.in_ok-line.ensures.left, c.loop-block.invariant.0),
      block_more c.args.rest.number c.loop-block.rest.number c.in_ok-line.after.number c.args.rest.text.now before c.loop-block.rest.text.now c.in_ok-line.after.text.now line
          c.loop-block.invariant.1 c.in_ok-line.ensures.line c.in_ok-line.ensures.number _ other
          (second ∙ ap (λ b. b ++ 10 ∷ []) first ∙ append_assoc before line (10 ∷ [])),
    )

pub returns-then-eq-clause-block : goal.returns-then-eq-clause-block
returns-then-eq-clause-block c =
    let names : c.in_ok-line.line.now ≡ codes "end" = search rules in
    block_ends c.args.rest.number c.loop-block.rest.number c.in_ok-line.after.number c.args.rest.text.now (string_bytes c.loop-block.block) c.loop-block.rest.text.now c.in_ok-line.after.text.now
    c.in_ok-line.line.now c.loop-block.invariant.1 c.in_ok-line.ensures.line c.in_ok-line.ensures.number names
