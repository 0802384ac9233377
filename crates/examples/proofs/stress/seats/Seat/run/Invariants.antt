use Rattle.view.specs.Publishing.{book_of}
use Rattle.examples.proofs.stress.seats.Seat.run.Given as goal

-- the history of the node
abbrev pub ghosts-lead-L-Naming : goal.ghosts-lead-L-Naming
ghosts-lead-L-Naming g a = record { history = book_of a.cell.publisher }

-- the ledger that was just made
abbrev pub ghosts-lead-L-Ledger : goal.ghosts-lead-L-Ledger
ghosts-lead-L-Ledger g a = record { name = a.blank.name; parts = a.blank.parts }
