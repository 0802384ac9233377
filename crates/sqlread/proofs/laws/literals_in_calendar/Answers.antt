use Rattle.sqlread.proofs.Days.{literal_in_calendar}
use Rattle.sqlread.proofs.laws.literals_in_calendar.Goals as goal

pub returns : goal.returns
returns c = literal_in_calendar
