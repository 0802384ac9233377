-- What a disk shows whose syncs may be left out.
use Rattle.std.specs.Prelude.{◌≡◌, ℕ, Bool, true, false, List, refl}
use Rattle.unsynced.specs.declared.disk.Unsynced.{Unsynced}

-- the disk that it passes calls on to
abbrev pub inner_of : {D : Type 0} → Unsynced D → D
inner_of f = f.inner

-- whether syncs are among them
abbrev pub syncs_of : {D : Type 0} → Unsynced D → Bool
syncs_of f = f.syncs

-- With syncs what the disk under it may leave. Without them what a kill of the process leaves, where the machine goes on: what is seen.
abbrev pub left_of : Bool → List ℕ → (List ℕ → Type 0) → List ℕ → Type 0
left_of true seen may_leave c = may_leave c
left_of false seen may_leave c = c ≡ seen

-- what is seen may stay
pub left_as_seen : (syncs : Bool) (seen : List ℕ) (may_leave : List ℕ → Type 0) → may_leave seen → left_of syncs seen may_leave seen
left_as_seen true seen may_leave stays = stays
left_as_seen false seen may_leave stays = refl
