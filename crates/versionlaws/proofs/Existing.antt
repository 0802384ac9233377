-- There is an answer.
use Rattle.std.proofs.Common.{ℕ, ◌⊎◌, inl, inr, [], reverse, refl, subst, sym, arith}
use Rattle.std.specs.List.Sorted.{IsStrictlySortedBy}
use Rattle.std.proofs.lemmas.Bool.{cases_lt}
use Rattle.std.proofs.lemmas.List.Elements.{All-from_recursion}
use Rattle.model.specs.Tables.{Table}
use Rattle.model.specs.Logs.{state_at}
use Rattle.model.specs.Answers.{SystemTime, Query, read_at, IsAnswer, IsAnswerOver, IsShownEnd}
use Rattle.rowlaws.proofs.Contents.{contains_has}
use Rattle.safety.specs.Answers.{HoweverLate, HoweverSealed, OneAnswer}
use Rattle.versionlaws.specs.Committing.{versions_after}
use Rattle.versionlaws.specs.Answering.{HasInstant, answer_from, VersionsAnswer, SomeAnswer, ClosedAnswer, SealedAnswer}

-- ---- a query that has no instant

has_or_not : (time : SystemTime) → HasInstant time ⊎ (HasInstant time → ⊥)
has_or_not time = elim (cases_lt time.last time.first) [
  | inl less ↦ inr (λ h. let a = h.1.0 in let b = h.1.1 in omega arith)
  | inr more ↦ inl (time.first, (omega arith, more))
]

no_rows : (history : ℕ → Table) (q : Query) → (HasInstant q.time → ⊥) → IsAnswerOver history q (record { last = q.time.last; rows = [] })
unfolding IsStrictlySortedBy
no_rows history q none = record {
  last = refl;
  order = tt;
  rows = λ row. ((λ c. absurd (contains_has [] row c)), (λ a. absurd (none (a.1.0, a.1.1))));
  ends = All-from_recursion (λ s. IsShownEnd history q.time.last s.row s.end) [] tt;
}

-- ---- the laws

pub answer_in_each : VersionsAnswer → SomeAnswer
answer_in_each gives language q list stamped fine = elim (has_or_not q.time) [
  | inl some ↦ (answer_from q (versions_after language q.table (reverse list)), gives language q list stamped fine some)
  | inr none ↦ (record { last = q.time.last; rows = [] }, no_rows (λ u. state_at language list u q.table) q none)
]

pub closed_has_one : HoweverLate → OneAnswer → SomeAnswer → ClosedAnswer
closed_has_one late one some language q list stamped fine is_closed =
    let t : ℕ = is_closed.0 in
    let found = some language (read_at t q) list stamped fine in
    record {
      now = t;
      answer = found.0;
      at = is_closed.1;
      is = found.1;
      only = λ later a s. let stays = late language (read_at t q) t list later a s is_closed.1 is_closed.2 in (
        (λ h. one language (read_at t q) list a found.0 (stays.1 h) found.1),
        (λ e. stays.0 (subst (IsAnswer language (read_at t q) list) (sym e) found.1)),
      );
    }

pub sealed_has_one : HoweverSealed → OneAnswer → SomeAnswer → SealedAnswer
sealed_has_one sealed one some language q list time stamped fine is_closed =
    let t : ℕ = is_closed.0 in
    let found = some language (read_at t q) list stamped fine in
    record {
      now = t;
      answer = found.0;
      at = is_closed.1;
      is = found.1;
      only = λ later a s. let stays = sealed language (read_at t q) t list later a s is_closed.2 in (
        (λ h. one language (read_at t q) list a found.0 (stays.1 h) found.1),
        (λ e. stays.0 (subst (IsAnswer language (read_at t q) list) (sym e) found.1)),
      );
    }
