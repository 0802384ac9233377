-- What a flight holds, without where its lists lie in memory.
use Rattle.std.specs.Prelude.{ℕ, List, map}
use Rattle.model.specs.declared.entry.Entry.{Entry}
use Rattle.keep.specs.declared.hard_state.HardState.{HardState}
use Rattle.flight.specs.declared.life.Step.{Step}
use Rattle.flight.specs.declared.life.Opening.{Opening}
use Rattle.flight.specs.declared.life.Ending.{Ending}
use Rattle.flight.specs.declared.life.Life.{Life}
use Rattle.flight.specs.declared.flight.Answered.{Answered}
use Rattle.flight.specs.declared.flight.Version.{Version}
use Rattle.flight.specs.declared.flight.Flight.{Flight}

pub record OpeningContents : Type 0 where
  pub mark : ℕ
  pub hard : HardState
  pub entries : List Entry

pub record LifeContents : Type 0 where
  pub opening : OpeningContents
  pub steps : List Step
  pub ending : Ending

pub record FlightContents : Type 0 where
  pub version : Version
  pub node : ℕ
  pub members : ℕ
  pub schema : List ℕ
  pub lives : List LifeContents
  pub answers : List Answered

abbrev pub in_opening : Opening → OpeningContents
in_opening o = record { mark = o.mark; hard = o.hard; entries = o.entries.items }

abbrev pub in_life : Life → LifeContents
in_life l = record { opening = in_opening l.opening; steps = l.steps.items; ending = l.ending }

abbrev pub in_flight : Flight → FlightContents
in_flight f = record { version = f.version; node = f.node; members = f.members; schema = f.schema; lives = map in_life f.lives.items; answers = f.answers.items }
