-- A literal that is a day is one of the calendar.
use Rattle.std.proofs.Common.{◌≡◌, ℕ, zero, suc, ◌+◌, ◌<◌, ◌≤◌, Bool, true, false, cond, List, Option, Some, None, Result, Ok, Err, refl, subst, arith, inl, inr}
use Rattle.std.specs.Prelude.{find, bytes_eq, IsTrue}
use Rattle.std.specs.List.{range_with_len}
use Rattle.std.specs.Str.Parse.{digits_value}
use Rattle.std.proofs.lemmas.Bool.{le-leb}
use Rattle.fault.specs.declared.refusal.Refusal.{Refusal}
use Rattle.model.specs.declared.value.Value.{Value}
use Rattle.model.specs.declared.value.Value.TheVariants as value
use Rattle.schema.specs.declared.table.Kind.{Kind}
use Rattle.schema.specs.declared.table.Kind.TheVariants.{Integer, Varchar, Date}
use Rattle.namesyntax.specs.Names.{Bytes}
use Rattle.sqlsyntax.specs.Shared.{LiteralForm}
use Rattle.sqlchecks.specs.Answering.{◌>>=◌, or_refuse}
use Rattle.sqlchecks.specs.Literals.{signed, text_within, undoubled, named, day_named, literal_in}
use Rattle.sqlread.specs.Calendar.{is_in_calendar}

found_below : (p : ℕ → Bool) (a n d : ℕ) → find p (range_with_len a n) ≡ Some d → d < a + n
found_below p a zero d e = absurd cc
found_below p a (suc n) d e = at (p a) (found_below p (a + 1) n d) e where
  at : (b : Bool) → (find p (range_with_len (a + 1) n) ≡ Some d → d < a + 1 + n) → cond b (Some a) (find p (range_with_len (a + 1) n)) ≡ Some d → d < a + suc n
  at true h e = let k : a ≡ d = cc in omega arith
  at false h e = let k = h e in omega arith

named_below : (text_of : ℕ → List ℕ) (n : ℕ) (text : List ℕ) (d : ℕ) → named text_of n text ≡ Some d → d < n
unfolding named
named_below text_of n text d e = let k = found_below (λ j. bytes_eq (text_of j) text) 0 n d e in omega arith

some_of : {A : Type 0} (r : Refusal) (o : Option A) (a : A) → or_refuse r o ≡ Ok a → o ≡ Some a
some_of r None a e = absurd cc
some_of r (Some b) a e = let k : b ≡ a = cc in cc

day_below : (text : Bytes) (d : ℕ) → day_named text ≡ Ok d → d ≤ 3_652_058
unfolding day_named
day_below text d e = let k = named_below _ _ text d (some_of _ _ d e) in omega arith

bound : {A B : Type 0} (r : Result A Refusal) (f : A → B) (b : B) → (r >>= λ a. Ok (f a)) ≡ Ok b → (a : A) × (r ≡ Ok a) × (f a ≡ b)
bound (Ok a) f b e = (a, refl, cc)
bound (Err q) f b e = absurd cc

pub literal_in_calendar : (kind : Kind) (l : LiteralForm) (v : Value) → literal_in kind l ≡ Ok v → IsTrue (is_in_calendar v)
unfolding literal_in
literal_in_calendar Date (inl text) v e =
    let k = bound (day_named text) value.Day v e in
    let in_days : IsTrue (is_in_calendar (value.Day k.0)) = le-leb k.0 3_652_058 (day_below text k.0 k.1) in
    subst (λ (u : Value). IsTrue (is_in_calendar u)) k.2 in_days
literal_in_calendar (Varchar most) (inr (inl text)) v e = let k = bound (text_within most (undoubled text)) value.Text v e in subst (λ (u : Value). IsTrue (is_in_calendar u)) k.2 refl
literal_in_calendar Integer (inr (inr (minus, digits))) v e = let k = bound (signed minus (digits_value 10 digits)) value.Number v e in subst (λ (u : Value). IsTrue (is_in_calendar u)) k.2 refl
literal_in_calendar kind literal v e = absurd cc
