use Rattle.std.proofs.Common.{◌≡◌, take}
use Rattle.store.specs.Journals.{IsLonger}
use Rattle.store.specs.Opening.{Files, longest_of}
use Rattle.store.proofs.store.Store.write_head.Given as goal

abbrev pub invariant-loop-at : goal.invariant-loop-at
invariant-loop-at g l = record {
  longer : IsLonger l.initial.self.scribe l.self.scribe;
  heads : Files g.K.Journal.Device.contents g.K.LogReader.is_honest l.initial.self.scribe l.self.scribe (take l.at l.initial.self.seats.items);
  noted : l.self.noted ≡ longest_of l.initial.self.noted (take l.at l.initial.self.seats.items);
  same : l.self ≡ record l.initial.self { scribe = l.self.scribe; noted = l.self.noted };
}
