use Rattle.sqlread.specs.Meaning.{language_of}
use Rattle.keep.specs.Log.{is_entry}
use Rattle.raft.specs.View.{log_of}
use Rattle.raft.proofs.Worked.{part_of}
use Rattle.raft.proofs.state.Core.look.Goals as goal

pub returns-clause-part : goal.returns-clause-part
returns-clause-part g c = λ honest all.
    part_of (is_entry (language_of c.args.self.now.schema)) 65 c.saturating_sub.result (log_of c.args.self.now (g.S.LogReader.stored c.args.reader.now).log) c.in_ok-window.window.items (c.in_ok-window.ensures.ok honest) all
