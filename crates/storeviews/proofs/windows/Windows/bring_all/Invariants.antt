use Rattle.std.proofs.Common.{◌≡◌, ℕ, ◌<◌, ◌≤◌, vec_len}
use Rattle.store.specs.Applied.{found, IsKept}
use Rattle.storeviews.specs.Showing.{window_in, IsBrought, IsLater}
use Rattle.storeviews.proofs.windows.Windows.bring_all.Given as goal

abbrev pub invariant-loop-at : goal.invariant-loop-at
invariant-loop-at g l = record {
  done : (i : ℕ) → i < l.at → IsBrought g.K.LogReader.is_honest (found l.store.seats.items i (λ seat. seat.node)) (window_in l.initial.self i) (window_in l.self i);
  rest : (i : ℕ) → l.at ≤ i → window_in l.self i ≡ window_in l.initial.self i;
  later : (i : ℕ) → IsLater (window_in l.initial.self i) (window_in l.self i);
  kept : (i : ℕ) → IsKept g.K.LogReader.is_honest (found l.initial.store.seats.items i (λ seat. seat.node)) (found l.store.seats.items i (λ seat. seat.node));
  stay : l.store ≡ record l.initial.store { seats = l.store.seats };
  many : vec_len l.self.windows ≡ vec_len l.initial.self.windows;
}
