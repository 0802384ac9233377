use Rattle.std.proofs.Common.{◌≡◌, ◌++◌, map, drop}
use Rattle.answer.specs.Answers.{shown_of}
use Rattle.sysversion.specs.Lists.{version_of}
use Rattle.asof.specs.Asking.{show_by}
use Rattle.asof.proofs.shown.show_all.Given as goal

abbrev pub invariant-loop-version : goal.invariant-loop-version
invariant-loop-version l =
    map shown_of l.shown.items ++ map (show_by l.last) (map (λ v. version_of v.now) (drop l.version-index l.versions)) ≡ map (show_by l.last) (map (λ v. version_of v.now) l.versions)
