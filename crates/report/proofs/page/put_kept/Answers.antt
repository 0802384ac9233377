use Rattle.std.proofs.Common.{◌≡◌, ◌∙◌, ◌++◌, List, ℕ, ap, subst, string_bytes}
use Rattle.std.specs.Prelude.{OnOk, codes}
use Rattle.beginnings.specs.Lines.{line_text}
use Rattle.hex.specs.Hex.{encode_lower}
use Rattle.report.specs.Pages.{verdict_word}
use Rattle.report.proofs.page.put_kept.Goals as goal

pub returns : goal.returns
returns c =
    let since = string_bytes c.in_ok-since.since in
    let seal = string_bytes c.in_ok-seal.seal in
    let lines : List ℕ → List ℕ → List ℕ → List ℕ = λ s v e. codes "To keep, and to compare with another audit\n  since " ++ (s ++ (codes "\n  1 " ++ (v ++ (codes " " ++ (e ++ codes "\n"))))) in
    let P : List ℕ → Type 0 = λ t. OnOk c.write.result (string_bytes c.write.new.self ≡ string_bytes c.args.text.now ++ t) in
    let line : since ≡ line_text c.args.report.now.contents.beginnings.items = c.in_ok-since.ensures ∙ ap line_text c.as_slice.ensures.value in
    let digits : seal ≡ encode_lower c.args.report.now.seal = c.in_ok-seal.ensures ∙ ap encode_lower c.as_slice-2.ensures in
    let whole =
    ap (λ s. lines s c.verdict_word-verdict.result.now seal) line
    ∙ ap (λ v. lines (line_text c.args.report.now.contents.beginnings.items) v seal) c.verdict_word-verdict.ensures
    ∙ ap (λ e. lines (line_text c.args.report.now.contents.beginnings.items) (verdict_word c.args.report.now.fault) e) digits in
    subst P whole c.write.ensures.bytes
