-- What a driver's nodes recorded.
use Rattle.std.specs.declared.vec.Vec.{Vec}
use Rattle.std.specs.declared.alloc.Global.{Global}
use Rattle.flight.specs.declared.flight.Answered.{Answered}
use Rattle.live.specs.declared.station.Station.{Station}

-- what the views of a station's node answered
abbrev pub answers_in : Station → Vec Answered Global
answers_in s = s.answers
