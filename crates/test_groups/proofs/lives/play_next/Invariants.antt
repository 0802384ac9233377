use Rattle.view.specs.Publishing.{book_of}
use Rattle.test_groups.proofs.lives.play_next.Given as goal

-- the history of the cell that was just started
abbrev pub ghosts-play_life-L-Naming : goal.ghosts-play_life-L-Naming
ghosts-play_life-L-Naming g a = record { history = book_of a.cell.publisher }

-- the ledger that was just made
abbrev pub ghosts-play_life-L-Ledger : goal.ghosts-play_life-L-Ledger
ghosts-play_life-L-Ledger g a = record { name = a.blank.name; parts = a.blank.parts }
