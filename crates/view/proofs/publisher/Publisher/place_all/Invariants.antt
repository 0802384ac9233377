use Rattle.std.proofs.Common.{◌≡◌, ◌-◌, vec_len}
use Rattle.view.specs.Publishing.{IsSameLife, given_of}
use Rattle.view.proofs.publisher.Publisher.place_all.Given as goal

abbrev pub invariant-loop-self : goal.invariant-loop-self
invariant-loop-self g l = IsSameLife l.initial.self l.self × (given_of l.self ≡ given_of l.initial.self) × (l.self.items ≡ l.initial.self.items) × (l.self.shown ≡ l.initial.self.shown)

abbrev pub decreases-loop-self : goal.decreases-loop-self
decreases-loop-self g l = vec_len l.self.items - vec_len l.self.places
