use Rattle.sysversion.proofs.Kept.{short_key, least_key}
use Rattle.sysversion.proofs.table.TableVersions.columns.Goals as goal

pub returns-clause-bound : goal.returns-clause-bound
returns-clause-bound c = let s = c.args.self.now in short_key s.lists s.ordered s.of_keys s.columns s.short

pub returns-clause-least : goal.returns-clause-least
returns-clause-least c = let s = c.args.self.now in least_key s.lists s.ordered s.of_keys s.columns s.least
