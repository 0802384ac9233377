use Rattle.std.proofs.Common.{rules, ◌≡◌, ◌∙◌, refl, sym, ap, inr, Ok}
use Rattle.hex.specs.Hex.{decode_sized, encode_lower}
use Rattle.beginnings.proofs.Digests.{word_is, rest_is, boundary, decodes, spells}
use Rattle.beginnings.proofs.line.read_digest.Goals as goal

pub returns-in_default-clause-err : goal.returns-in_default-clause-err
returns-in_default-clause-err c = inr (refl, λ w other is e. let s = c.in_default.ensures.variant.1 (boundary c.args.text.now w other is e (search rules)) in cc s)

pub returns-in_default-read_hex-clause-err : goal.returns-in_default-read_hex-clause-err
returns-in_default-read_hex-clause-err c = inr (refl, λ w other is e. c.in_default-read_hex.ensures.none w (ap (λ l. decode_sized l 32) c.in-Some.ensures.front ∙ decodes c.args.text.now w other is e))

pub returns-then-not-is_lower-clause-err : goal.returns-then-not-is_lower-clause-err
returns-then-not-is_lower-clause-err c = inr (
  refl,
  λ w other is e.
      let d : Ok c.in-Some-read_hex.digest ≡ Ok w = sym c.in-Some-read_hex.ensures.some.0 ∙ ap (λ l. decode_sized l 32) c.in-Some.ensures.front ∙ decodes c.args.text.now w other is e in
      let same : c.in-Some-read_hex.digest ≡ w = cc d in
      let spelled = ap encode_lower same ∙ sym (word_is c.args.text.now w other is e) ∙ sym c.in-Some.ensures.front in
      let yes = c.in_ok-is_lower.ensures.1 spelled in
      cc yes,
)

pub returns-clause-ok : goal.returns-clause-ok
returns-clause-ok c = (
  c.in-Some-read_hex.ensures.some.1,
  spells c.args.text.now c.in-Some-read_hex.digest c.in-Some.rest.now (c.in_ok-is_lower.ensures.0 (search rules) ∙ c.in-Some.ensures.front) (sym c.in-Some.ensures.back),
)

pub returns-clause-only : goal.returns-clause-only
returns-clause-only c = λ w other is e.
    let d : Ok w ≡ Ok c.in-Some-read_hex.digest = sym (decodes c.args.text.now w other is e) ∙ ap (λ l. decode_sized l 32) (sym c.in-Some.ensures.front) ∙ c.in-Some-read_hex.ensures.some.0 in
    (cc d, sym (rest_is c.args.text.now w other is e) ∙ sym c.in-Some.ensures.back)
