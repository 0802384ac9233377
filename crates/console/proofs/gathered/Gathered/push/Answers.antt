use Rattle.std.proofs.Common.{rules, ◌∷◌, ◌<◌, length, string_bytes}
use Rattle.console.proofs.Shortening.{left_out}
use Rattle.console.proofs.gathered.Gathered.push.Goals as goal

pub returns-then-len-gt-TEXT_MOST-clause-gathers : goal.returns-then-len-gt-TEXT_MOST-clause-gathers
returns-then-len-gt-TEXT_MOST-clause-gathers c =
    let text = string_bytes c.args.self.now.text in
    let long : 65536 < length text = search rules in
    λ whole is. left_out whole text (10 ∷ c.args.line.now) long is
