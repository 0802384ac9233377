-- Lemmas on the messages that were sent.
use Rattle.std.proofs.Common.{◌≡◌, ◌∙◌, ℕ, zero, suc, ◌+◌, ◌<◌, ◌≤◌, Bool, true, false, List, [], ◌∷◌, ◌++◌, map, take, length, Option, Some, None, refl, sym, ap, subst, append_assoc, arith}
use Rattle.std.specs.Prelude.{slice_get, slice_set, slice_index_or, not, ◌&&◌, unwrap_or}
use Rattle.std.proofs.lemmas.List.{take_more, map-append, length-append, length-set}
use Rattle.std.proofs.lemmas.Option.{slice_get_past}
use Rattle.model.specs.Lists.{nth}
use Rattle.script.specs.declared.sent.Sent.{Sent}
use Rattle.script.specs.Mail.{newly_sent, as_delivered, as_lost, changed, changed_to, lost_first, messages_in, is_left, NoneLeft}
use Rattle.world.specs.declared.output.Output.{Output as Out}
use Rattle.world.specs.declared.output.Output.TheVariants.{Sent as SentOut, Applied as AppliedOut, Refused as RefusedOut, Answered as AnsweredOut}

pub some_is_not_none : {A : Type 0} {x : A} → None ≡ Some x → ⊥
some_is_not_none e = cc

pub some_same : {A : Type 0} {x y : A} → Some x ≡ Some y → x ≡ y
some_same {A} {x} e = ap (λ o. unwrap_or o x) e

-- ---- messages that are lost all at once

pub lost_length : (a : ℕ) (xs : List Sent) → length (lost_first a xs) ≡ length xs
lost_length zero xs = refl
lost_length (suc a) [] = refl
lost_length (suc a) (x ∷ xs) = ap suc (lost_length a xs)

-- as many as are seen
pub seen_length : (a : ℕ) (xs ys : List Sent) → lost_first a xs ≡ ys → length xs ≡ length ys
seen_length a xs ys seen = sym (lost_length a xs) ∙ ap length seen

-- the message at a place, which is lost there
pub lost_at : (a p : ℕ) (xs : List Sent) (m : Sent) → m ≡ slice_index_or xs p m → p < length xs → p < a → slice_get (lost_first a xs) p ≡ Some (as_lost m)
lost_at a p [] m is within lt = absurd (omega (arith, within))
lost_at zero p (x ∷ xs) m is within lt = absurd (omega (arith, lt))
lost_at (suc a) zero (x ∷ xs) m is within lt = ap (λ y. Some (as_lost y)) (sym is)
lost_at (suc a) (suc p) (x ∷ xs) m is within lt = lost_at a p xs m is (omega (arith, within)) (omega (arith, lt))

-- or stays as it is
pub kept_at : (a p : ℕ) (xs : List Sent) (m : Sent) → m ≡ slice_index_or xs p m → p < length xs → a ≤ p → slice_get (lost_first a xs) p ≡ Some m
kept_at a p [] m is within le = absurd (omega (arith, within))
kept_at zero zero (x ∷ xs) m is within le = ap (λ y. Some y) (sym is)
kept_at zero (suc p) (x ∷ xs) m is within le = kept_at zero p xs m is (omega (arith, within)) (omega arith)
kept_at (suc a) zero (x ∷ xs) m is within le = absurd (omega (arith, le))
kept_at (suc a) (suc p) (x ∷ xs) m is within le = kept_at a p xs m is (omega (arith, within)) (omega (arith, le))

pub lost_twice : (a : ℕ) (xs : List Sent) → map as_lost (lost_first a xs) ≡ map as_lost xs
lost_twice zero xs = refl
lost_twice (suc a) [] = refl
lost_twice (suc a) (x ∷ xs) = ap (λ ms. as_lost x ∷ ms) (lost_twice a xs)

lost_whole : (xs : List Sent) → lost_first (length xs) xs ≡ map as_lost xs
lost_whole [] = refl
lost_whole (x ∷ xs) = ap (λ ms. as_lost x ∷ ms) (lost_whole xs)

pub all_lost : (a : ℕ) (xs : List Sent) → lost_first (length xs) xs ≡ map as_lost (lost_first a xs)
all_lost a xs = lost_whole xs ∙ sym (lost_twice a xs)

pub lost_append : (a : ℕ) (xs ys : List Sent) → a ≤ length xs → lost_first a (xs ++ ys) ≡ lost_first a xs ++ ys
lost_append zero xs ys le = refl
lost_append (suc a) [] ys le = absurd (omega (arith, le))
lost_append (suc a) (x ∷ xs) ys le = ap (λ ms. as_lost x ∷ ms) (lost_append a xs ys (omega (arith, le)))

-- a change of one message is the same change of it as it is seen
module _ (f : Sent → Sent) (both : (m : Sent) → as_lost (f m) ≡ f (as_lost m)) where
  seen_at : (a p : ℕ) (xs : List Sent) (d : Sent) → p < length xs →
      (m : Sent) × (slice_get (lost_first a xs) p ≡ Some m) × (lost_first a (slice_set xs p (f (slice_index_or xs p d))) ≡ slice_set (lost_first a xs) p (f m))
  seen_at a p [] d within = absurd (omega (arith, within))
  seen_at zero zero (x ∷ xs) d within = (x, refl, refl)
  seen_at (suc a) zero (x ∷ xs) d within = (as_lost x, refl, ap (λ m. m ∷ lost_first a xs) (both x))
  seen_at zero (suc p) (x ∷ xs) d within =
      let h = seen_at zero p xs d (omega (arith, within)) in (h.0, h.1, ap (λ ms. x ∷ ms) h.2)
  seen_at (suc a) (suc p) (x ∷ xs) d within =
      let h = seen_at a p xs d (omega (arith, within)) in (h.0, h.1, ap (λ ms. as_lost x ∷ ms) h.2)

  changed_at : (a p : ℕ) (xs ys : List Sent) (m : Sent) → lost_first a xs ≡ ys → m ≡ slice_index_or xs p m → p < length xs → lost_first a (slice_set xs p (f m)) ≡ changed f ys (suc p)
  changed_at a p xs ys m seen is within =
      let h = seen_at a p xs m within in
      ap (λ x. lost_first a (slice_set xs p (f x))) is ∙ h.2 ∙ ap (changed_to f (lost_first a xs) (suc p)) (sym h.1) ∙ ap (λ zs. changed f zs (suc p)) seen

pub delivered_at : (a p : ℕ) (xs ys : List Sent) (m : Sent) → lost_first a xs ≡ ys → m ≡ slice_index_or xs p m → p < length xs → lost_first a (slice_set xs p (as_delivered m)) ≡ changed as_delivered ys (suc p)
delivered_at = changed_at as_delivered (λ m. refl)

pub lost_one : (a p : ℕ) (xs ys : List Sent) (m : Sent) → lost_first a xs ≡ ys → m ≡ slice_index_or xs p m → p < length xs → lost_first a (slice_set xs p (as_lost m)) ≡ changed as_lost ys (suc p)
lost_one = changed_at as_lost (λ m. refl)

-- ---- places

pub zeroth : (xs : List Sent) (k : ℕ) → k < 1 → nth xs k ≡ None
zeroth xs zero lt = refl
zeroth xs (suc k) lt = absurd (omega (arith, lt))

pub past : (xs : List Sent) (k : ℕ) → length xs < k → nth xs k ≡ None
past xs zero lt = absurd (omega (arith, lt))
past xs (suc k) lt = slice_get_past xs k (omega (arith, lt))

-- ---- what is left

not_and_false : (b : Bool) → (not b && false) ≡ false
not_and_false true = refl
not_and_false false = refl

pub lost_is_not_left : (m : Sent) → is_left (as_lost m) ≡ false
lost_is_not_left m = not_and_false m.is_delivered

pub none_map : (count : ℕ) (xs : List Sent) → NoneLeft count xs → NoneLeft count (map as_lost xs)
none_map zero xs h = tt
none_map (suc count) [] h = absurd h
none_map (suc count) (x ∷ xs) (is, more) = (lost_is_not_left x, none_map count xs more)

pub none_append : (count : ℕ) (xs ys : List Sent) → NoneLeft count xs → NoneLeft count (xs ++ ys)
none_append zero xs ys h = tt
none_append (suc count) [] ys h = absurd h
none_append (suc count) (x ∷ xs) ys (is, more) = (is, none_append count xs ys more)

pub none_set : (count p : ℕ) (xs : List Sent) (m : Sent) → is_left m ≡ false → NoneLeft count xs → NoneLeft count (slice_set xs p m)
none_set zero p xs m left h = tt
none_set (suc count) p [] m left h = absurd h
none_set (suc count) zero (x ∷ xs) m left (is, more) = (left, more)
none_set (suc count) (suc p) (x ∷ xs) m left (is, more) = (is, none_set count p xs m left more)

module _ (f : Sent → Sent) (gone : (m : Sent) → is_left (f m) ≡ false) where
  none_changed_to : (count p : ℕ) (xs : List Sent) (o : Option Sent) → NoneLeft count xs → NoneLeft count (changed_to f xs (suc p) o)
  none_changed_to count p xs None h = h
  none_changed_to count p xs (Some m) h = none_set count p xs (f m) (gone m) h

  pub none_changed : (count p : ℕ) (xs : List Sent) → NoneLeft count xs → NoneLeft count (changed f xs (suc p))
  none_changed count p xs h = none_changed_to count p xs (slice_get xs p) h

pub none_delivered : (count p : ℕ) (xs : List Sent) → NoneLeft count xs → NoneLeft count (changed as_delivered xs (suc p))
none_delivered = none_changed as_delivered (λ m. refl)

pub none_lost : (count p : ℕ) (xs : List Sent) → NoneLeft count xs → NoneLeft count (changed as_lost xs (suc p))
none_lost = none_changed as_lost lost_is_not_left

-- what holds of all messages holds after a change of one
pub still_delivered : (a p c : ℕ) (xs ys : List Sent) (m : Sent) → lost_first a xs ≡ ys → m ≡ slice_index_or xs p m → p < length xs → (a ≤ length xs) × NoneLeft c (lost_first a xs) →
    (a ≤ length (slice_set xs p (as_delivered m))) × NoneLeft c (lost_first a (slice_set xs p (as_delivered m)))
still_delivered a p c xs ys m seen is within (le, none) = (
  omega (arith, le, length-set xs p (as_delivered m)),
  subst (NoneLeft c) (sym (delivered_at a p xs (lost_first a xs) m refl is within)) (none_delivered c p (lost_first a xs) none),
)

pub still_lost : (a p c : ℕ) (xs ys : List Sent) (m : Sent) → lost_first a xs ≡ ys → m ≡ slice_index_or xs p m → p < length xs → (a ≤ length xs) × NoneLeft c (lost_first a xs) →
    (a ≤ length (slice_set xs p (as_lost m))) × NoneLeft c (lost_first a (slice_set xs p (as_lost m)))
still_lost a p c xs ys m seen is within (le, none) = (
  omega (arith, le, length-set xs p (as_lost m)),
  subst (NoneLeft c) (sym (lost_one a p xs (lost_first a xs) m refl is within)) (none_lost c p (lost_first a xs) none),
)

pub still_added : (a c : ℕ) (xs ys zs : List Sent) → zs ≡ xs ++ ys → (a ≤ length xs) × NoneLeft c (lost_first a xs) → (a ≤ length zs) × NoneLeft c (lost_first a zs)
still_added a c xs ys zs is (le, none) = (
  omega (arith, le, ap length is ∙ length-append xs ys),
  subst (NoneLeft c) (sym (ap (lost_first a) is ∙ lost_append a xs ys le)) (none_append c (lost_first a xs) ys none),
)

pub none_fewer : (less count : ℕ) (xs : List Sent) → less ≤ count → NoneLeft count xs → NoneLeft less xs
none_fewer zero count xs le h = tt
none_fewer (suc less) zero xs le h = absurd (omega (arith, le))
none_fewer (suc less) (suc count) [] le h = absurd h
none_fewer (suc less) (suc count) (x ∷ xs) le (is, more) = (is, none_fewer less count xs (omega (arith, le)) more)

-- one more that is not left
pub none_more : (count : ℕ) (xs : List Sent) (m : Sent) → NoneLeft count xs → slice_get xs count ≡ Some m → is_left m ≡ false → NoneLeft (suc count) xs
none_more count [] m h at left = absurd (some_is_not_none at)
none_more zero (x ∷ xs) m h at left = (ap is_left (some_same at) ∙ left, tt)
none_more (suc count) (x ∷ xs) m (is, more) at left = (is, none_more count xs m more at left)

-- ---- what an output adds

messages_append : (xs ys : List Out) → messages_in (xs ++ ys) ≡ messages_in xs ++ messages_in ys
messages_append [] ys = refl
messages_append (SentOut k m ∷ xs) ys = ap (λ ms. m ∷ ms) (messages_append xs ys)
messages_append (AppliedOut k t ∷ xs) ys = messages_append xs ys
messages_append (RefusedOut k r ∷ xs) ys = messages_append xs ys
messages_append (AnsweredOut k a ∷ xs) ys = messages_append xs ys

pub messages_more : (start sent later : List Sent) (outs : List Out) (i : ℕ) (o : Out) → sent ≡ start ++ map newly_sent (messages_in (take i outs)) → later ≡ sent ++ map newly_sent (messages_in (o ∷ [])) →
    i < length outs → o ≡ slice_index_or outs i o → later ≡ start ++ map newly_sent (messages_in (take (i + 1) outs))
messages_more start sent later outs i o so next lt is =
    next ∙ ap (λ xs. xs ++ map newly_sent (messages_in (o ∷ []))) so ∙ append_assoc start _ _
    ∙ ap (λ xs. start ++ xs) (sym (map-append newly_sent (messages_in (take i outs)) (messages_in (o ∷ []))) ∙ ap (map newly_sent) (sym (messages_append (take i outs) (o ∷ []))
    ∙ ap messages_in (ap (λ x. take i outs ++ x ∷ []) is ∙ sym (take_more outs i o lt))))
