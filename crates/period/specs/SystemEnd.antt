-- How the end of a version in system time is shown. SQL:2011 gives a current row the highest value of its type.
use Rattle.std.specs.Prelude.{ℕ, List, codes}
use Rattle.period.specs.declared.system_end.SystemEnd.{SystemEnd}
use Rattle.period.specs.declared.system_end.SystemEnd.TheVariants.{At, Open}
use Rattle.period.specs.Instant.{instant_text}

-- an instant by its text, and the open end by the highest value
abbrev pub end_text : SystemEnd → List ℕ
end_text (At i) = instant_text i.microseconds
end_text Open = codes "9999-12-31 23:59:59.999999"
