-- Databases that are compared, one by one.
use Rattle.std.proofs.Common.{◌≡◌, ◌∙◌, ℕ, zero, suc, ◌+◌, ◌<◌, ◌≤◌, List, [], ◌∷◌, ◌++◌, length, length-append, get_or, Option, Some, Result, Ok, Err, ap, sym, subst, add-one, arith}
use Rattle.std.specs.Result.{OnOk}
use Rattle.std.specs.Prelude.{slice_get}
use Rattle.std.proofs.lemmas.Option.{slice_get-get_or}
use Rattle.std.proofs.lemmas.List.{get_or_append_left}
use Rattle.std.proofs.Math.Seq.{get_or-append_seam}
use Rattle.keep.specs.Durable.{Durable}
use Rattle.keep.specs.declared.hard_state.HardState.{HardState}
use Rattle.journal.specs.declared.stored.Summary.{Summary}
use Rattle.model.specs.declared.entry.Entry.{Entry}
use Rattle.playback.specs.Scenes.{Scene}
use Rattle.store.specs.HeldAt.{IsFound}
use Rattle.storeaudit.specs.Found.{AreAlike, IsNext}

-- what is found in a database, in short and with its log, is what the database held
pub held_as : {I : Type 0} (holds : I → Durable → Type 0) (sound : I → Type 0) (was now : I) (found : Summary) (log : List Entry) → IsFound holds sound was now found log → sound now → holds was (record { hard = found.hard; log = log })
held_as holds sound was now found log is sane =
    let held = is sane in
    let stored : Durable = record { hard = found.hard; log = log } in
    let same : stored ≡ held.0 =
    ap (λ (h : HardState). let d : Durable = record { hard = h; log = log } in d) (ap (λ (s : Summary). s.hard) held.2)
    ∙ ap (λ (l : List Entry). let d : Durable = record { hard = held.0.hard; log = l } in d) held.3 in
    subst (λ (d : Durable). holds was d) (sym same) held.1

-- what holds of what is given holds of what comes of it
pub on_ok : {A E : Type 0} (r : Result A E) {P Q : Type 0} → (P → Q) → OnOk r P → OnOk r Q
on_ok (Ok a) f ok = f ok
on_ok (Err e) f ok = ok

-- the first elements of a longer list, and the last one
front : {A : Type 0} (xs : List A) (y : A) (i : ℕ) → i < length xs → slice_get (xs ++ y ∷ []) i ≡ slice_get xs i
front xs y i within =
    let longer : length (xs ++ y ∷ []) ≡ length xs + 1 = length-append xs (y ∷ []) in
    slice_get-get_or (xs ++ y ∷ []) i y (omega (arith, within, longer))
    ∙ ap Some (get_or_append_left xs (y ∷ []) y i within)
    ∙ sym (slice_get-get_or xs i y within)

last : {A : Type 0} (xs : List A) (y : A) → slice_get (xs ++ y ∷ []) (length xs) ≡ Some y
last xs y =
    let longer : length (xs ++ y ∷ []) ≡ length xs + 1 = length-append xs (y ∷ []) in
    slice_get-get_or (xs ++ y ∷ []) (length xs) y (omega (arith, longer)) ∙ ap Some (get_or-append_seam xs y [] y)

module _ {I : Type 0} (holds : I → Durable → Type 0) (sound : I → Type 0) where
  -- what is so of some databases is so where there are more
  more : (xs : List (Option I)) (x : Option I) (s : Scene) (n : ℕ) (missing : List ℕ) (t : Scene) → n ≤ length xs → AreAlike holds sound xs s n missing t → AreAlike holds sound (xs ++ x ∷ []) s n missing t
  more xs x s zero missing t within is = is
  more xs x s (suc n) missing t within is =
      let here : n < length xs = omega (arith, within) in (
        is.0,
        is.1,
        more xs x s n is.0 is.1 (omega (arith, within)) is.2,
        subst (λ (o : Option (Option I)). IsNext holds sound o is.1 (suc n) is.0 missing t) (sym (front xs x n here)) is.3,
      )

  -- the next one
  pub next : (xs : List (Option I)) (x : Option I) (s mid t : Scene) (n m : ℕ) (before missing : List ℕ) → n ≡ length xs → m ≡ n + 1 → AreAlike holds sound xs s n before mid
      → IsNext holds sound (Some x) mid m before missing t → AreAlike holds sound (xs ++ x ∷ []) s m missing t
  next xs x s mid t n m before missing count one is step =
      let up : m ≡ suc n = one ∙ add-one n in
      let found : slice_get (xs ++ x ∷ []) n ≡ Some x = ap (λ (i : ℕ). slice_get (xs ++ x ∷ []) i) count ∙ last xs x in
      let step_up : IsNext holds sound (Some x) mid (suc n) before missing t = subst (λ (k : ℕ). IsNext holds sound (Some x) mid k before missing t) up step in
      let alike : AreAlike holds sound (xs ++ x ∷ []) s (suc n) missing t = (
        before,
        mid,
        more xs x s n before mid (omega (arith, count)) is,
        subst (λ (o : Option (Option I)). IsNext holds sound o mid (suc n) before missing t) (sym found) step_up,
      ) in
      subst (λ (k : ℕ). AreAlike holds sound (xs ++ x ∷ []) s k missing t) (sym up) alike
