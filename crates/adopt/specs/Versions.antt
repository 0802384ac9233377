-- Which flights say what was told of requests.
use Rattle.std.specs.Prelude.{Bool, true, false}
use Rattle.flight.specs.declared.flight.Version.{Version}
use Rattle.flight.specs.declared.flight.Version.TheVariants.{One, Two, Three}

-- their steps bear outcomes
abbrev pub has_outcomes : Version → Bool
has_outcomes One = false
has_outcomes Two = true
has_outcomes Three = true
