use Rattle.std.proofs.Common.{◌≡◌, ℕ, ◌<◌, ◌≤◌, ◌+◌, true}
use Rattle.std.specs.BTreeSet.{contains}
use Rattle.std.specs.Ordering.{nat_cmp}
use Rattle.std.specs.declared.cmp.Ordering.TheVariants.{Less}
use Rattle.sysversion.specs.Days.{reached_cmp}
use Rattle.sysversion.proofs.Reaching.{left}
use Rattle.sysversion.proofs.reached.places_near.Given as goal

-- what comes no later than `after` is done
abbrev pub invariant-loop-reach : goal.invariant-loop-reach
invariant-loop-reach l = record {
  only : (place : ℕ) → contains nat_cmp l.places place ≡ true → (reach : ℕ) × (start : ℕ) × (contains reached_cmp l.reached (reach, (start, place)) ≡ true) × (start ≤ l.day) × (l.day < start + reach);
  each : (reach start place : ℕ) → contains reached_cmp l.reached (reach, (start, place)) ≡ true → (reached_cmp l.after (reach, (start, place)) ≡ Less → ⊥) → start ≤ l.day → l.day < start + reach → contains nat_cmp l.places place ≡ true;
}

abbrev pub decreases-loop-reach : goal.decreases-loop-reach
decreases-loop-reach l = left l.after l.reached.keys
