use Rattle.std.proofs.Common.{◌≡◌, ◌++◌, take}
use Rattle.storeviews.specs.Listing.{marked}
use Rattle.storeviews.specs.Showing.{list_of, shown_of, IsSameWindow}
use Rattle.storeviews.proofs.window.Window.append_all.Given as goal

abbrev pub invariant-loop-entry : goal.invariant-loop-entry
invariant-loop-entry l = record {
  same : IsSameWindow l.initial.self l.self;
  shown : shown_of l.self ≡ shown_of l.initial.self;
  listed : list_of l.self ≡ list_of l.initial.self ++ marked l.mark (take l.entry-index l.entries);
}
