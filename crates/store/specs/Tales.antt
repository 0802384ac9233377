-- What a journal's lines tell of the members.
use Rattle.std.specs.Prelude.{◌≡◌, ◌⊎◌, ℕ, zero, suc, option_map, replicate, ◌==◌, ◌&&◌, ◌||◌, not, Bool, true, false, if◌then◌else◌, Option, Some, None, List, map, unwrap_or, slice_get, slice_set}
use Rattle.std.specs.Option.{option_and_then}
use Rattle.keep.specs.Durable.{blank}
use Rattle.journal.specs.Digests.{summary_of}
use Rattle.journal.specs.declared.stored.Summary.{Summary}
use Rattle.journal.specs.declared.line.Line.{Line}
use Rattle.journal.specs.declared.line.Line.TheVariants.{Opens, Rests, Life, Clock, Takes, Saves, Made, Ends, Answer, Printed}
use Rattle.store.specs.declared.tale.Tale.{Tale}
use Rattle.store.specs.Chains.{one_more}

-- a member that is not up, and has this stored
abbrev pub at_rest : Summary → Tale
at_rest s = record { stored = s; announced = None; is_up = false; is_begun = false }

-- nothing is told of it
abbrev pub untold : Tale
untold = at_rest (summary_of blank)

-- as a journal begins: it is not up
abbrev pub laid_down : Tale → Tale
laid_down t = record t { is_up = false; is_begun = false }

-- a database that holds this is the member's: it is what is stored, or what was announced
abbrev pub IsFit : Tale → Summary → Type 0
IsFit t found = (found ≡ t.stored) ⊎ (t.announced ≡ Some found)

-- what is told of a member that is started, begins a step, is about to store this, is through with a step, or is stopped; none where it
-- can't be
abbrev pub started : Tale → Summary → Option Tale
started t s = if not t.is_up || t.is_begun then Some (record (at_rest s) { is_up = true }) else None

abbrev pub begun : Tale → Option Tale
begun t = if t.is_up && not t.is_begun then Some (record t { is_begun = true }) else None

abbrev pub announces : Tale → Summary → Option Tale
announces t s = if t.is_begun || not t.is_up then Some (record t { announced = Some s }) else None

abbrev pub made : Tale → Option Tale
made t = if t.is_begun then Some (record t { stored = unwrap_or t.announced t.stored; announced = None; is_begun = false }) else None

abbrev pub ended : Tale → Option Tale
ended t = if t.is_up && not t.is_begun then Some (record t { is_up = false }) else None

-- what is told of a member after a line about it; none where the line may not stand there
abbrev pub tale_after : Tale → Line → Option Tale
tale_after t (Opens journal sum marks) = Some t
tale_after t (Rests member s) = Some (at_rest s)
tale_after t (Life member s) = started t s
tale_after t (Clock reading) = Some t
tale_after t (Takes member taken) = begun t
tale_after t (Saves member s) = announces t s
tale_after t (Made member outcomes) = made t
tale_after t (Ends member) = ended t
tale_after t (Answer member query answer) = Some t
tale_after t (Printed client number words) = Some t

-- whether a line may stand there, and what is told of the member after one that may
abbrev pub Tells : Option Tale → Bool → Tale → Type 0
Tells None may new = may ≡ false
Tells (Some t) may new = (may ≡ true) × (new ≡ t)

-- how many marks are given out with this line about a member
abbrev pub marks_after : ℕ → Line → ℕ
marks_after marks (Opens journal sum given) = marks
marks_after marks (Rests member s) = marks
marks_after marks (Life member s) = one_more marks
marks_after marks (Clock reading) = marks
marks_after marks (Takes member taken) = one_more marks
marks_after marks (Saves member s) = marks
marks_after marks (Made member outcomes) = marks
marks_after marks (Ends member) = marks
marks_after marks (Answer member query answer) = marks
marks_after marks (Printed client number words) = marks

-- what is told of all members, how many marks were given out, how many journals were begun, and how many outcomes were given out
pub record Told : Type 0 where
  pub tales : List Tale
  pub marks : ℕ
  pub sessions : ℕ
  pub requests : ℕ

-- what is told of the member with so many before it
abbrev pub tale_of : Told → ℕ → Tale
tale_of p at = unwrap_or (slice_get p.tales at) untold

-- before anything is told of so many members
abbrev pub nothing_told : ℕ → Told
nothing_told members = record { tales = replicate members untold; marks = 0; sessions = 0; requests = 0 }

-- a line about this member, of those that there are
abbrev pub told_of : Told → ℕ → Line → Option Told
told_of p zero line = None
told_of p (suc at) line = option_and_then (λ t. option_map (λ u. record p { tales = slice_set p.tales at u; marks = marks_after p.marks line }) (tale_after t line)) (slice_get p.tales at)

-- what is told after one more line; none where the line may not stand there
abbrev pub told_after : Told → Line → Option Told
told_after p (Opens journal sum marks) = if (p.sessions == 0) || (p.marks == marks) then Some (record p { tales = map laid_down p.tales; marks = marks; sessions = one_more p.sessions }) else None
told_after p (Rests member s) = told_of p member (Rests member s)
told_after p (Life member s) = told_of p member (Life member s)
told_after p (Clock reading) = Some p
told_after p (Takes member taken) = told_of p member (Takes member taken)
told_after p (Saves member s) = told_of p member (Saves member s)
told_after p (Made member outcomes) = told_of p member (Made member outcomes)
told_after p (Ends member) = told_of p member (Ends member)
told_after p (Answer member query answer) = told_of p member (Answer member query answer)
told_after p (Printed client number words) = Some (record p { requests = one_more p.requests })
