-- A disk that stays frozen does so below one that passes its calls on.
use Rattle.std.proofs.Common.{◌&&◌, ℕ, Bool, true, false, List}
use Rattle.std.specs.Bool.{IsTrue}
use Rattle.sqlite_disk.specs.Disk.{StaysFrozen}
use Rattle.unsynced.specs.Leaving.{left_of}
use Rattle.unsynced.specs.declared.disk.Unsynced.{Unsynced}

module _ {D : Type 0} (seen : D → List ℕ) (leaves : D → List ℕ → Type 0) (clean frozen : D → Bool) where
  -- with syncs it is frozen as the other is; without them it never is
  pub stays-frozen : (P : Type 0) (syncs : Bool) (old new : D) → (IsTrue (frozen old) → P × StaysFrozen seen leaves clean frozen old new) → IsTrue (syncs && frozen old)
      → P × StaysFrozen {D = Unsynced D} (λ f. seen f.inner) (λ f. left_of f.syncs (seen f.inner) (leaves f.inner)) (λ f. clean f.inner) (λ f. f.syncs && frozen f.inner) (record { inner = old; syncs = syncs }) (record { inner = new; syncs = syncs })
  stays-frozen P true old new under h =
      let both : P × StaysFrozen seen leaves clean frozen old new = under h in
      let stays : StaysFrozen seen leaves clean frozen old new = both.1 in
      (both.0, record { frozen = stays.frozen; same = stays.same; clean = stays.clean; no_more = stays.no_more; no_fewer = stays.no_fewer })
  stays-frozen P false old new under h = cc
