-- What the laws of `refused` rest on besides the clauses that they speak of.
use Rattle.std.proofs.Common.{◌≡◌, ◌⊎◌, ℕ, ℤ, ◌+◌, Bool, true, false, Option, Some, None, Result, Ok, Err, List, [], ◌∷◌, ◌++◌, length, map, refl, sym, ap, ◌∙◌, subst, arith, inl, inr, length-append}
use Rattle.std.specs.Prelude.{IfOk}
use Rattle.std.specs.Prelude.{MatchOption}
use Rattle.std.proofs.lemmas.List.{length-map}
use Rattle.fault.specs.declared.refusal.Refusal.TheVariants.{LifeFull, NoMemory}
use Rattle.model.specs.Members.{Node, is_leader}
use Rattle.model.specs.declared.entry.Entry.{Entry}
use Rattle.model.specs.declared.message.Input.TheVariants.{Beat}
use Rattle.node.specs.View.{spares_memory}
use Rattle.node.specs.declared.node.Fault.{Fault}
use Rattle.node.specs.declared.node.Fault.TheVariants.{Kept, Down}
use Rattle.node.specs.Work.{Local}
use Rattle.history.specs.declared.item.Item.{Item}
use Rattle.history.specs.declared.item.Item.TheVariants.{Applied}
use Rattle.flight.specs.declared.life.Step.{Step}
use Rattle.flight.specs.declared.life.Life.{Life}
use Rattle.flight.specs.declared.life.Packet.{Packet}
use Rattle.flight.specs.Lives.{step_of, told_step}
use Rattle.cells.specs.declared.cell.Out.{Out}
use Rattle.cells.specs.Feeds.{IsTurnedAway, IsRecorded}
use Rattle.cells.specs.Publishing.{marked, marked_seal}

-- ---- what comes of a call

pub if_ok : {A E : Type 0} (r : Result A E) (F G : A → Type 0) → IfOk r F → ((a : A) → F a → G a) → IfOk r G
if_ok (Ok a) F G f map = map a f
if_ok (Err e) F G f map = tt

-- ---- what is recorded

-- what `feed` says: no step was made, or it is recorded once
abbrev pub IsFed : Bool → Option ℕ → Life → Life → ℤ → Packet → Result Out Fault → Type 0 → Type 0 → Type 0 → Type 0 → Type 0
IsFed up mark old new reading packet r P Q R S =
    (IsTurnedAway up mark r × P × Q × R) ⊎ ((up ≡ true) × MatchOption mark ⊥ (λ m. IsRecorded old new (step_of m reading packet) r) × S)

made : (up : Bool) (mark : Option ℕ) (out : Out) → IsTurnedAway up mark (Ok out) → ⊥
made false mark out e = cc
made true None out e = cc
made true (Some m) out e = cc

module _ {P Q R S : Type 0} where
  pub step_recorded : (up : Bool) (mark : Option ℕ) (old new : Life) (reading : ℤ) (packet : Packet) (out : Out) → IsFed up mark old new reading packet (Ok out) P Q R S
      → new.steps.items ≡ old.steps.items ++ told_step out.given.told.items (step_of out.mark reading packet) ∷ []
  step_recorded up mark old new reading packet out (inl away) = absurd (made up mark out away.0)
  step_recorded up None old new reading packet out (inr fed) = absurd fed.1
  step_recorded up (Some m) old new reading packet out (inr fed) =
      fed.1.0.steps ∙ ap (λ k. old.steps.items ++ told_step out.given.told.items (step_of k reading packet) ∷ []) (sym fed.1.1)

  pub recorded_ok : (up : Bool) (mark : Option ℕ) (old new : Life) (z reading : ℤ) (packet : Packet) (r : Result Out Fault) → z ≡ reading → IsFed up mark old new z packet r P Q R S
      → IfOk r (λ out. new.steps.items ≡ old.steps.items ++ told_step out.given.told.items (step_of out.mark reading packet) ∷ [])
  recorded_ok up mark old new z reading packet (Ok out) same fed = step_recorded up mark old new reading packet out (subst (λ v. IsFed up mark old new v packet (Ok out) P Q R S) same fed)
  recorded_ok up mark old new z reading packet (Err fault) same fed = tt

  full_at : (mark : Option ℕ) (old new : Life) (reading : ℤ) (packet : Packet) (r : Result Out Fault) (m : ℕ) → IsFed true mark old new reading packet r P Q R S
      → mark ≡ Some m → r ≡ Err (Kept LifeFull) → new.steps.items ≡ old.steps.items ++ step_of m reading packet ∷ []
  full_at None old new reading packet r m fed e is = let f : None ≡ Some m = e in cc
  full_at (Some k) old new reading packet r m (inl away) e is = let f : Err (Kept LifeFull) ≡ Err (Kept NoMemory) = sym is ∙ away.0 in cc
  full_at (Some k) old new reading packet r m (inr fed) e is =
      let same : k ≡ m = cc in
      let recorded : IsRecorded old new (step_of k reading packet) (Err (Kept LifeFull)) = subst (λ x. IsRecorded old new (step_of k reading packet) x) is fed.1 in
      recorded.steps ∙ ap (λ j. old.steps.items ++ step_of j reading packet ∷ []) same

  pub full_recorded : (up : Bool) (mark : Option ℕ) (old new : Life) (z reading : ℤ) (packet : Packet) (r : Result Out Fault) (m : ℕ) → up ≡ true → z ≡ reading → IsFed up mark old new z packet r P Q R S
      → mark ≡ Some m → r ≡ Err (Kept LifeFull) → new.steps.items ≡ old.steps.items ++ step_of m reading packet ∷ []
  full_recorded up mark old new z reading packet r m is same fed = full_at mark old new reading packet r m (subst (λ u. IsFed u mark old new reading packet r P Q R S) is (subst (λ v. IsFed up mark old new v packet r P Q R S) same fed))

-- ---- a beat of which nothing comes

pub idle_beat : (n me : ℕ) (x : Node) → is_leader x.role ≡ false → spares_memory n me (Local Beat) x ≡ true
idle_beat n me x follows = rw follows refl

-- ---- what is to be published

pub each_noted : (before after : List Item) (mark : ℕ) (entries : List Entry) (sealed : Option ℕ) → after ≡ before ++ (marked mark entries ++ marked_seal mark sealed) → sealed ≡ None → length after ≡ length before + length entries
each_noted before after mark entries sealed is none =
    let e : after ≡ before ++ (marked mark entries ++ []) = is ∙ ap (λ s. before ++ (marked mark entries ++ marked_seal mark s)) none in
    ap length e ∙ simp (length-append, length-map) (omega arith)
