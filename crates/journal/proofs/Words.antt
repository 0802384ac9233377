-- Lines by their first word.
use Rattle.std.proofs.Common.{◌≡◌, ℕ, List, ◌++◌, refl, ap, arith, get_or, drop}
use Rattle.std.specs.Prelude.{codes}
use Rattle.flight.specs.Reading.{IsNotBegun}
use Rattle.flight.specs.declared.outcome.Outcome.{Outcome}
use Rattle.journal.specs.declared.stored.Summary.{Summary}
use Rattle.journal.specs.declared.line.Taken.{Taken}
use Rattle.journal.specs.declared.line.Line.{Line}
use Rattle.journal.specs.declared.line.Line.TheVariants.{Opens, Rests, Life, Clock, Takes, Saves, Made, Ends, Answer, Printed}
use Rattle.journal.specs.Spelling.{line_text}
use Rattle.journal.specs.Ranges.{IsLine}
use Rattle.journal.specs.Parts.{opens_text, held_text, takes_text, made_text, answer_text, printed_text, IsOpens, IsHeld, IsTakes, IsMade, IsAnswered, IsPrinted, IsOther}

-- the byte of a text at a place
abbrev at : ℕ → List ℕ → ℕ
at i text = get_or text i 0

pub opens_of : (w : Line) (rest other : List ℕ) → IsLine w → codes "opens " ++ rest ≡ line_text w other
    → (v : ℕ × ℕ × ℕ) × (w ≡ Opens v.0 v.1 v.2) × IsOpens v × (rest ≡ opens_text v other)
opens_of (Opens a b c) rest other is e = ((a, b, c), refl, is, ap (drop 6) e)
opens_of (Rests a b) rest other is e = absurd (omega (arith, ap (at 0) e))
opens_of (Life a b) rest other is e = absurd (omega (arith, ap (at 0) e))
opens_of (Clock a) rest other is e = absurd (omega (arith, ap (at 0) e))
opens_of (Takes a b) rest other is e = absurd (omega (arith, ap (at 0) e))
opens_of (Saves a b) rest other is e = absurd (omega (arith, ap (at 0) e))
opens_of (Made a b) rest other is e = absurd (omega (arith, ap (at 0) e))
opens_of (Ends a) rest other is e = absurd (omega (arith, ap (at 0) e))
opens_of (Answer a b c) rest other is e = absurd (omega (arith, ap (at 0) e))
opens_of (Printed a b c) rest other is e = absurd (omega (arith, ap (at 0) e))

pub rests_of : (w : Line) (rest other : List ℕ) → IsOther w → codes "rests " ++ rest ≡ line_text w other
    → (v : ℕ × Summary) × (w ≡ Rests v.0 v.1) × IsHeld v × (rest ≡ held_text v other)
rests_of (Opens a b c) rest other is e = absurd (omega (arith, ap (at 0) e))
rests_of (Rests a b) rest other is e = ((a, b), refl, is.0, ap (drop 6) e)
rests_of (Life a b) rest other is e = absurd (omega (arith, ap (at 0) e))
rests_of (Clock a) rest other is e = absurd (omega (arith, ap (at 0) e))
rests_of (Takes a b) rest other is e = absurd (omega (arith, ap (at 0) e))
rests_of (Saves a b) rest other is e = absurd (omega (arith, ap (at 0) e))
rests_of (Made a b) rest other is e = absurd (omega (arith, ap (at 0) e))
rests_of (Ends a) rest other is e = absurd (omega (arith, ap (at 0) e))
rests_of (Answer a b c) rest other is e = absurd (omega (arith, ap (at 0) e))
rests_of (Printed a b c) rest other is e = absurd (omega (arith, ap (at 0) e))

pub life_of : (w : Line) (rest other : List ℕ) → IsOther w → codes "life " ++ rest ≡ line_text w other
    → (v : ℕ × Summary) × (w ≡ Life v.0 v.1) × IsHeld v × (rest ≡ held_text v other)
life_of (Opens a b c) rest other is e = absurd (omega (arith, ap (at 0) e))
life_of (Rests a b) rest other is e = absurd (omega (arith, ap (at 0) e))
life_of (Life a b) rest other is e = ((a, b), refl, is.0, ap (drop 5) e)
life_of (Clock a) rest other is e = absurd (omega (arith, ap (at 0) e))
life_of (Takes a b) rest other is e = absurd (omega (arith, ap (at 0) e))
life_of (Saves a b) rest other is e = absurd (omega (arith, ap (at 0) e))
life_of (Made a b) rest other is e = absurd (omega (arith, ap (at 0) e))
life_of (Ends a) rest other is e = absurd (omega (arith, ap (at 0) e))
life_of (Answer a b c) rest other is e = absurd (omega (arith, ap (at 0) e))
life_of (Printed a b c) rest other is e = absurd (omega (arith, ap (at 0) e))

pub takes_of : (w : Line) (rest other : List ℕ) → IsLine w → codes "takes " ++ rest ≡ line_text w other
    → (v : ℕ × Taken) × (w ≡ Takes v.0 v.1) × IsTakes v × (rest ≡ takes_text v other)
takes_of (Opens a b c) rest other is e = absurd (omega (arith, ap (at 0) e))
takes_of (Rests a b) rest other is e = absurd (omega (arith, ap (at 0) e))
takes_of (Life a b) rest other is e = absurd (omega (arith, ap (at 0) e))
takes_of (Clock a) rest other is e = absurd (omega (arith, ap (at 0) e))
takes_of (Takes a b) rest other is e = ((a, b), refl, is, ap (drop 6) e)
takes_of (Saves a b) rest other is e = absurd (omega (arith, ap (at 0) e))
takes_of (Made a b) rest other is e = absurd (omega (arith, ap (at 0) e))
takes_of (Ends a) rest other is e = absurd (omega (arith, ap (at 0) e))
takes_of (Answer a b c) rest other is e = absurd (omega (arith, ap (at 0) e))
takes_of (Printed a b c) rest other is e = absurd (omega (arith, ap (at 0) e))

pub saves_of : (w : Line) (rest other : List ℕ) → IsOther w → codes "saves " ++ rest ≡ line_text w other
    → (v : ℕ × Summary) × (w ≡ Saves v.0 v.1) × IsHeld v × (rest ≡ held_text v other)
saves_of (Opens a b c) rest other is e = absurd (omega (arith, ap (at 0) e))
saves_of (Rests a b) rest other is e = absurd (omega (arith, ap (at 0) e))
saves_of (Life a b) rest other is e = absurd (omega (arith, ap (at 0) e))
saves_of (Clock a) rest other is e = absurd (omega (arith, ap (at 0) e))
saves_of (Takes a b) rest other is e = absurd (omega (arith, ap (at 0) e))
saves_of (Saves a b) rest other is e = ((a, b), refl, is.0, ap (drop 6) e)
saves_of (Made a b) rest other is e = absurd (omega (arith, ap (at 0) e))
saves_of (Ends a) rest other is e = absurd (omega (arith, ap (at 0) e))
saves_of (Answer a b c) rest other is e = absurd (omega (arith, ap (at 0) e))
saves_of (Printed a b c) rest other is e = absurd (omega (arith, ap (at 0) e))

pub made_of : (w : Line) (rest other : List ℕ) → IsLine w → codes "made " ++ rest ≡ line_text w other
    → (v : ℕ × List Outcome) × (w ≡ Made v.0 v.1) × IsMade v × (rest ≡ made_text v other)
made_of (Opens a b c) rest other is e = absurd (omega (arith, ap (at 0) e))
made_of (Rests a b) rest other is e = absurd (omega (arith, ap (at 0) e))
made_of (Life a b) rest other is e = absurd (omega (arith, ap (at 0) e))
made_of (Clock a) rest other is e = absurd (omega (arith, ap (at 0) e))
made_of (Takes a b) rest other is e = absurd (omega (arith, ap (at 0) e))
made_of (Saves a b) rest other is e = absurd (omega (arith, ap (at 0) e))
made_of (Made a b) rest other is e = ((a, b), refl, is, ap (drop 5) e)
made_of (Ends a) rest other is e = absurd (omega (arith, ap (at 0) e))
made_of (Answer a b c) rest other is e = absurd (omega (arith, ap (at 0) e))
made_of (Printed a b c) rest other is e = absurd (omega (arith, ap (at 0) e))

pub answer_of : (w : Line) (rest other : List ℕ) → IsLine w → codes "answer " ++ rest ≡ line_text w other
    → (v : ℕ × List ℕ × List ℕ) × (w ≡ Answer v.0 v.1 v.2) × IsAnswered v × (rest ≡ answer_text v other)
answer_of (Opens a b c) rest other is e = absurd (omega (arith, ap (at 0) e))
answer_of (Rests a b) rest other is e = absurd (omega (arith, ap (at 0) e))
answer_of (Life a b) rest other is e = absurd (omega (arith, ap (at 0) e))
answer_of (Clock a) rest other is e = absurd (omega (arith, ap (at 0) e))
answer_of (Takes a b) rest other is e = absurd (omega (arith, ap (at 0) e))
answer_of (Saves a b) rest other is e = absurd (omega (arith, ap (at 0) e))
answer_of (Made a b) rest other is e = absurd (omega (arith, ap (at 0) e))
answer_of (Ends a) rest other is e = absurd (omega (arith, ap (at 0) e))
answer_of (Answer a b c) rest other is e = ((a, b, c), refl, is, ap (drop 7) e)
answer_of (Printed a b c) rest other is e = absurd (omega (arith, ap (at 0) e))

pub printed_of : (w : Line) (rest other : List ℕ) → IsLine w → codes "printed " ++ rest ≡ line_text w other
    → (v : ℕ × ℕ × List ℕ) × (w ≡ Printed v.0 v.1 v.2) × IsPrinted v × (rest ≡ printed_text v other)
printed_of (Opens a b c) rest other is e = absurd (omega (arith, ap (at 0) e))
printed_of (Rests a b) rest other is e = absurd (omega (arith, ap (at 0) e))
printed_of (Life a b) rest other is e = absurd (omega (arith, ap (at 0) e))
printed_of (Clock a) rest other is e = absurd (omega (arith, ap (at 0) e))
printed_of (Takes a b) rest other is e = absurd (omega (arith, ap (at 0) e))
printed_of (Saves a b) rest other is e = absurd (omega (arith, ap (at 0) e))
printed_of (Made a b) rest other is e = absurd (omega (arith, ap (at 0) e))
printed_of (Ends a) rest other is e = absurd (omega (arith, ap (at 0) e))
printed_of (Answer a b c) rest other is e = absurd (omega (arith, ap (at 0) e))
printed_of (Printed a b c) rest other is e = ((a, b, c), refl, is, ap (drop 8) e)
