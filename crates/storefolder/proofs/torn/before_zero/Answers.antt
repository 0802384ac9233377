use Rattle.std.proofs.Common.{◌≡◌, ◌∙◌, ◌+◌, get_or, drop, sym, ap, rules, arith}
use Rattle.std.proofs.lemmas.List.{take-append-drop, get_or-drop}
use Rattle.storefolder.proofs.torn.before_zero.Goals as goal

pub returns-in-Some-clause-rest : goal.returns-in-Some-clause-rest
returns-in-Some-clause-rest c =
    let bytes = c.args.bytes.now in
    let at = c.in-Some.at in
    let zero : get_or bytes at 0 ≡ 0 = search rules in
    let here : at + 0 ≡ at = omega arith in
    (drop at bytes, get_or-drop at bytes 0 0 ∙ ap (λ n. get_or bytes n 0) here ∙ zero, sym (take-append-drop at bytes))
