use Rattle.view.specs.Publishing.{book_of}
use Rattle.test_groups.proofs.locked.Task.run.Given as goal

-- the history of the node
abbrev pub ghosts-feed_and_ask-L-Naming : goal.ghosts-feed_and_ask-L-Naming
ghosts-feed_and_ask-L-Naming g a = record { history = book_of a.node.publisher }

-- the ledger that was just made
abbrev pub ghosts-feed_and_ask-L-Ledger : goal.ghosts-feed_and_ask-L-Ledger
ghosts-feed_and_ask-L-Ledger g a = record { name = a.blank.name; parts = a.blank.parts }
