use Rattle.std.proofs.Common.{rules, ◌≡◌, ◌∷◌, [], ◌<◌, ◌++◌, length, string_bytes, subst, sym}
use Rattle.console.specs.Lines.{IsShortened}
use Rattle.console.proofs.Shortening.{put_behind}
use Rattle.console.proofs.gathered.Gathered.into_text.Goals.{then-is_cut+then-len-gt-TEXT_MOST+in_ok-push_line, else-is_cut}
use Rattle.console.proofs.gathered.Gathered.into_text.Goals as goal

pub returns : goal.returns
returns c =
    let text = string_bytes c.args.self.text in
    λ whole is. elim c.if-is_cut.branch [
      | then-is_cut+then-len-gt-TEXT_MOST+in_ok-push_line w ↦
          let long : 65536 < length text = search rules in
          let longer : string_bytes c.if-is_cut.text ≡ text ++ 10 ∷ 46 ∷ 46 ∷ [] = search rules in
          subst (IsShortened whole) (sym longer) (put_behind whole text (10 ∷ 46 ∷ 46 ∷ []) long is)
      | else-is_cut w ↦
          let same : string_bytes c.if-is_cut.text ≡ text = search rules in
          subst (IsShortened whole) (sym same) is
    ]
