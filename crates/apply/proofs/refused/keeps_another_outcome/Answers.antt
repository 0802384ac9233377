use Rattle.std.proofs.Common.{◌∙◌, sym}
use Rattle.sqlread.specs.Meaning.{language_of}
use Rattle.retry.specs.Judging.{outcomes_of}
use Rattle.apply.proofs.Refusing.{if_both, kept_first, some_of}
use Rattle.apply.proofs.refused.keeps_another_outcome.Goals as goal

pub returns : goal.returns
returns g c = if_both c.take.result _ _ _ c.take.ensures.kept c.take.ensures.outcome (λ told keeps tells. some_of told _ (λ o is.
    kept_first (language_of g.of.0) c.args.entry.now g.of.1 g.of.2 (outcomes_of c.take.new.self.requests g.of.2.client) o ((keeps g.of.0 g.of.1 c.requires.0).outcomes g.of.2.client) (sym is ∙ tells g.of.0 g.of.1 c.requires.0) c.requires.1.0 c.requires.1.1))
