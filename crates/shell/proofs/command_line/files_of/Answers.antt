use Rattle.std.proofs.Common.{◌∙◌, codes, ap, map, Some}
use Rattle.clap.specs.Words.{found_of}
use Rattle.clap.proofs.WalkLemmas.{raw_values-rows}
use Rattle.shell.proofs.command_line.files_of.Goals as goal

pub returns-in_ok-to_vec-in-Some : goal.returns-in_ok-to_vec-in-Some
returns-in_ok-to_vec-in-Some c =
    ap (λ texts. Some (map (λ text. text.now) texts)) (c.in_ok-to_vec-in-Some.ensures.items_if_clones_equal (λ x y e. e))
    ∙ (c.in-Some.ensures ∙ raw_values-rows (found_of c.args.matches.now) (codes "FILE"))

pub returns-in-None : goal.returns-in-None
returns-in-None c = c.in-None.ensures ∙ raw_values-rows (found_of c.args.matches.now) (codes "FILE")
