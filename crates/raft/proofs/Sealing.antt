-- Seals whose entries are applied, and others.
use Rattle.std.proofs.Common.{◌≡◌, ℕ, zero, suc, ◌≤◌, ◌<◌, max, false, Option, Some, None, List, [], ◌∷◌, take, slice_get, refl, ap, arith}
use Rattle.model.specs.declared.member.SealedFloor.{SealedFloor}
use Rattle.model.specs.Lists.{nth}
use Rattle.model.specs.Members.{Node, has_term}
use Rattle.model.specs.Stamps.{greater}
use Rattle.model.specs.Steps.{is_applied}
use Rattle.raft.proofs.Windows.{got_taken}

-- ---- the greater of two instants

pub greater_self : (a : Option ℕ) → greater a a ≡ a
greater_self None = refl
greater_self (Some a) = let e : max a a ≡ a = omega arith in ap Some e

pub greater_more : (a b : Option ℕ) → greater a (greater a b) ≡ greater a b
greater_more None b = refl
greater_more (Some a) None = greater_self (Some a)
greater_more (Some a) (Some b) = let e : max a (max a b) ≡ max a b = omega arith in ap Some e

-- ---- whether its entry is applied

got_past : {A : Type 0} (xs : List A) (k j : ℕ) → j ≤ k → slice_get (take j xs) k ≡ None
got_past xs k zero le = refl
got_past [] k (suc j) le = refl
got_past (x ∷ xs) zero (suc j) le = absurd (omega (arith, le))
got_past (x ∷ xs) (suc k) (suc j) le = got_past xs k j (omega (arith, le))

nth_taken : {A : Type 0} (xs : List A) (i c : ℕ) → i ≤ c → nth (take c xs) i ≡ nth xs i
nth_taken xs zero c le = refl
nth_taken xs (suc i) c le = got_taken xs i c le

nth_past : {A : Type 0} (xs : List A) (i c : ℕ) → c < i → nth (take c xs) i ≡ None
nth_past xs zero c lt = absurd (omega (arith, lt))
nth_past xs (suc i) c lt = got_past xs i c (omega (arith, lt))

pub applied_within : (x : Node) (s : SealedFloor) → s.index ≤ x.commit → is_applied x s ≡ has_term (nth x.log s.index) s.term
applied_within x s le = ap (λ o. has_term o s.term) (nth_taken x.log s.index x.commit le)

pub applied_past : (x : Node) (s : SealedFloor) → x.commit < s.index → is_applied x s ≡ false
applied_past x s lt = ap (λ o. has_term o s.term) (nth_past x.log s.index x.commit lt)
