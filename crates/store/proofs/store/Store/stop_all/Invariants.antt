use Rattle.std.specs.Prelude.{◌≡◌, ◌<◌, ℕ, Some, None, slice_get}
use Rattle.store.specs.Became.{EachBecame}
use Rattle.store.specs.Closing.{MayRest}
use Rattle.store.specs.Going.{GoesOn}
use Rattle.store.specs.Journals.{IsLonger, IsSpent}
use Rattle.store.proofs.store.Store.stop_all.Given as goal

abbrev pub invariant-loop-at : goal.invariant-loop-at
invariant-loop-at g l = record {
  rests : EachBecame (MayRest g.K.LogReader.may_hold g.K.Keeper.holds) l.initial.self.seats.items l.self.seats.items;
  longer : IsLonger l.initial.self.scribe l.self.scribe;
  spent : IsSpent l.initial.self.scribe → IsSpent l.self.scribe;
  down : (i : ℕ) (seat : _) → i < l.at → slice_get l.self.seats.items i ≡ Some seat → seat.node ≡ None;
  goes : GoesOn g.K.Journal.Device.contents g.K.LogReader.is_honest g.K.LogReader.may_hold g.K.Keeper.holds l.initial.self l.self;
}
