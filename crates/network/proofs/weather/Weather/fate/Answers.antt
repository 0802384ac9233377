use Rattle.std.proofs.Common.{rules}
use Rattle.network.proofs.weather.Weather.fate.Goals as goal

pub returns-in-0-clause-fate : goal.returns-in-0-clause-fate
returns-in-0-clause-fate c = search rules

pub returns-in-1-clause-fate : goal.returns-in-1-clause-fate
returns-in-1-clause-fate c = search rules

pub returns-in_default-clause-fate : goal.returns-in_default-clause-fate
returns-in_default-clause-fate c = search rules
