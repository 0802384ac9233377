-- Seats, of which one is looked at or changed, and letters.
use Rattle.std.proofs.Common.{◌≡◌, ◌∙◌, ℕ, zero, suc, ◌+◌, Some, List, ◌∷◌, ◌++◌, length, slice_get, slice_set, refl, sym, ap, arith, add-one}
use Rattle.std.specs.List.{All}
use Rattle.std.proofs.lemmas.List.Elements.{All-weaker}
use Rattle.model.specs.Lists.{nth, with_nth}
use Rattle.model.specs.Members.{Node}
use Rattle.model.specs.declared.message.Message.{Message}
use Rattle.safety.proofs.Lists.{get_with, none_some}
use Rattle.safety.proofs.Moments.{nth_other}
use Rattle.sessions.proofs.Lists.{with_length, get_short, get_there, in_front, further}
use Rattle.runlaws.specs.Going.{AreSeated}

pub nth_next : {A : Type 0} (xs : List A) (m at : ℕ) → m ≡ at + 1 → nth xs m ≡ slice_get xs at
nth_next xs m at e = rw (e, add-one) refl

pub set_next : {A : Type 0} (xs : List A) (m at : ℕ) (y : A) → m ≡ at + 1 → slice_set xs at y ≡ with_nth xs m y
set_next xs m at y e = rw (e, add-one) refl

module _ {S : Type 0} (has : ℕ → S → Node → Type 0) (seats : List S) (nodes : List Node) (A : AreSeated has seats nodes) where
  -- who sits at a seat
  pub seated : (m : ℕ) (s : S) → nth seats m ≡ Some s → (x : Node) × (nth nodes m ≡ Some x) × has m s x
  seated zero s e = absurd (none_some (nth seats 0) s refl e)
  seated (suc at) s e =
      let l = get_short seats at s e in
      let all = A.all in
      let x = get_there nodes at (omega (arith, l, all)) in
      (x.0, x.1, A.each (suc at) s x.0 e x.1)

  -- another one sits there
  pub seated_anew : (m : ℕ) (s : S) (y : Node) → has m s y → AreSeated has (with_nth seats m s) (with_nth nodes m y)
  seated_anew m s y h = record {
    all = with_length nodes m y ∙ A.all ∙ sym (with_length seats m s);
    each = λ k t x p q. get_with (λ k t. (x : Node) → nth (with_nth nodes m y) k ≡ Some x → has k t x) seats m s
        (λ x q. get_with (λ k x. k ≡ m → has m s x) nodes m y (λ e. h) (λ k x ne q e. absurd (ne e)) m x q refl)
        (λ k t ne p x q. A.each k t x p (sym (nth_other nodes m y k ne) ∙ q)) k t p x q;
  }

-- what was sent is so still once more is sent
pub sent_before : {L : Type 0} (number : L → ℕ) (message : L → Message) (letters : List L) (sent more : List Message) → All (λ l. nth sent (number l) ≡ Some (message l)) letters →
    All (λ l. nth (sent ++ more) (number l) ≡ Some (message l)) letters
sent_before number message letters sent more all = All-weaker (λ l. nth sent (number l) ≡ Some (message l)) (λ l. nth (sent ++ more) (number l) ≡ Some (message l)) (λ l p. there (number l) (message l) p) letters all
  where
    there : (k : ℕ) (m : Message) → nth sent k ≡ Some m → nth (sent ++ more) k ≡ Some m
    there zero m p = absurd (none_some (nth sent 0) m refl p)
    there (suc k) m p = in_front sent more k m p

-- the message that is sent next
pub sent_next : (sent more : List Message) (m : Message) → nth (sent ++ m ∷ more) (length sent + 1) ≡ Some m
sent_next sent more m = nth_next (sent ++ m ∷ more) (length sent + 1) (length sent) refl ∙ ap (slice_get (sent ++ m ∷ more)) (let e : length sent ≡ length sent + 0 = omega arith in e) ∙ further sent (m ∷ more) 0
