-- What reading calls leave of a reader, one after another.
use Rattle.std.proofs.Common.{◌∙◌, refl, inl, inr, ℕ, ◌≤◌, arith}
use Rattle.model.specs.Transactions.{Language}
use Rattle.keep.specs.Durable.{Durable}
use Rattle.keep.specs.declared.error.StoreError.{StoreError}
use Rattle.raft.specs.Reading.{IsRead, IsCause}

pub read_none : (is : Type 0) (d : Durable) (holds : Durable → Type 0) (serving : ℕ → Language → Type 0) (failed saves : ℕ) {Origin : Type 0} (came : Origin → Type 0) → IsRead is is d d holds holds serving serving failed failed saves saves came came
read_none is d holds serving failed saves came = record { honest = λ h. h; same = λ h. refl; left = λ x h. h; serves = λ n t h. h; counts = omega arith; unsaved = refl; came = λ o h. h }

pub read_both : (a b c : Type 0) (x y z : Durable) (p q r : Durable → Type 0) (s t u : ℕ → Language → Type 0) (i j k l m n : ℕ) {Origin : Type 0} (v w o : Origin → Type 0) → IsRead a b x y p q s t i j l m v w → IsRead b c y z q r t u j k m n w o → IsRead a c x z p r s u i k l n v o
read_both a b c x y z p q r s t u i j k l m n v w o one two = record {
  honest = λ h. one.honest (two.honest h);
  same = λ h. two.same h ∙ one.same (two.honest h);
  left = λ d h. one.left d (two.left d h);
  serves = λ n m h. two.serves n m (one.serves n m h);
  counts = omega (arith, one.counts, two.counts);
  unsaved = two.unsaved ∙ one.unsaved;
  came = λ origin h. two.came origin (one.came origin h);
}

-- a failure after calls that went well
pub later : (i j k : ℕ) (e : StoreError) → i ≤ j → IsCause j k e → IsCause i k e
later i j k e le (inl none) = inl none
later i j k e le (inr fault) = inr (fault.0, omega (arith, le, fault.1))
