use Rattle.std.proofs.Common.{◌≡◌}
use Rattle.std.specs.List.{Contains}
use Rattle.store.specs.Recording.{AreOf}
use Rattle.store.proofs.Noting.{IsNoted}
use Rattle.store.proofs.store.Store.note.Given as goal

abbrev pub invariant-loop-one : goal.invariant-loop-one
invariant-loop-one g l = record {
  same : l.self ≡ record l.initial.self { noted = l.self.noted };
  tells : AreOf (Contains l.told) l.outcomes.items;
  all : IsNoted l.initial.self.noted l.told l.one-index l.self.noted l.outcomes.items;
}
