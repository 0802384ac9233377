use Rattle.std.proofs.Common.{rules, ◌≡◌, ◌∙◌, ◌+◌, ◌++◌, ◌==◌, count_by, take, drop, length, ap, sym, append_assoc}
use Rattle.std.proofs.lemmas.List.{take-append-drop}
use Rattle.report.proofs.files.place_of.Goals as goal

pub returns : goal.returns
returns c =
    let text = c.args.text.now in
    let words = c.args.words.now in
    let front = c.in_ok-front.front.now in
    let rest = c.in_ok-front.rest.now in
    let after = c.in_ok-_after._after.now in
    let before : front ≡ take c.args.before text = search rules in
    let behind : rest ≡ drop c.args.before text = search rules in
    let long : length front ≡ c.args.before = search rules in
    let stands : rest ≡ words ++ after = search rules in
    let whole : text ≡ (front ++ words) ++ after =
    sym (take-append-drop c.args.before text) ∙ ((λ i. sym before i ++ sym behind i) ∙ (ap (λ l. front ++ l) stands ∙ sym (append_assoc front words after))) in
    let byte : c.in_ok-checked_add-2.field-0 ≡ c.args.before + 1 = search rules in
    let line : c.in_ok-checked_add.field-0 ≡ count_by (λ b. b == 10) front + 1 = search rules in
    (front, after, whole, byte ∙ ap (λ n. n + 1) (sym long), line)
