-- What an import tells.
use Rattle.std.specs.Prelude.{ℕ, [], ◌==◌, if◌then◌else◌, List, ◌++◌, codes, decimal}
use Rattle.fault.specs.declared.refusal.Refusal.TheVariants.{KeyOverlap}
use Rattle.store.specs.declared.outcome.Outcome.{Outcome}
use Rattle.store.specs.declared.outcome.Outcome.TheVariants.{Accepted, Refused, Unanswered}
use Rattle.store.specs.Words.{words_of}

-- the lines of a request, or its only one
abbrev pub lines_text : ℕ → ℕ → List ℕ
lines_text first last = if first == last then codes "line " ++ decimal first else (codes "lines " ++ (decimal first ++ (codes " to " ++ decimal last)))

-- the command that goes on from a line
abbrev pub command_text : List ℕ → List ℕ → List ℕ → ℕ → List ℕ
command_text dir table file line = codes "bitable import " ++ (dir ++ (codes " " ++ (table ++ (codes " " ++ (file ++ (codes " --from-line " ++ (decimal line ++ codes "\n")))))))

-- what stands below a request that was not accepted
abbrev pub advice_text : Outcome → List ℕ → List ℕ
advice_text (Accepted stamp) command = []
advice_text (Refused KeyOverlap) command = codes "        This request stored nothing. Go on behind what an earlier import stored, or mend it: " ++ command
advice_text (Refused refusal) command = codes "        Nothing of these lines is stored. When it is mended: " ++ command
advice_text Unanswered command = codes "        It is not known whether these lines are stored; where they are, they are refused 20: " ++ command

-- where a request begins in its file
abbrev pub place_text : List ℕ → ℕ → List ℕ
place_text file first = file ++ (codes ":" ++ decimal first)

-- what came of the request of these lines
abbrev pub told_text : Outcome → ℕ → ℕ → List ℕ
told_text outcome first last = words_of outcome ++ (codes ", " ++ lines_text first last)

-- the same with its place, and what stands below it
abbrev pub outcome_text : List ℕ → ℕ → ℕ → Outcome → List ℕ → List ℕ
outcome_text file first last outcome advice = place_text file first ++ (codes ": " ++ (told_text outcome first last ++ (codes "\n" ++ advice)))

-- how many of the rows are stored
abbrev pub stored_text : ℕ → ℕ → List ℕ
stored_text stored rows = decimal stored ++ (codes " of " ++ (decimal rows ++ codes " rows are stored"))

abbrev pub requests_text : ℕ → List ℕ
requests_text requests = if requests == 1 then codes "1 request" else (decimal requests ++ codes " requests")

abbrev pub count_text : List ℕ → ℕ → ℕ → ℕ → List ℕ
count_text file stored rows requests = file ++ (codes ": " ++ (stored_text stored rows ++ (codes ", in " ++ (requests_text requests ++ codes "\n"))))
