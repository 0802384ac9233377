-- What is found by a question's instants and terms is its answer.
use Rattle.std.proofs.Common.{◌≡◌, ℕ, ◌≤◌, map, filter, sym, ap, subst, arith, List}
use Rattle.sqlread.specs.declared.query.Query.{Query as Read}
use Rattle.sqlread.specs.declared.term.Term.{Term}
use Rattle.sqlread.specs.Shapes.{query_of}
use Rattle.sqlread.specs.Meaning.{select_of}
use Rattle.model.specs.Answers.{SystemTime, Query, Shown, Answer, IsAnswerOver}
use Rattle.rowlaws.specs.Sorting.{in_order}
use Rattle.versionlaws.specs.Versions.{Version}
use Rattle.versionlaws.specs.ByKey.{FewVersions}
use Rattle.versionlaws.specs.Answering.{VersionsGive, answer_from, version_cmp}
use Rattle.asof.specs.Named.{IsFew, IsFewRows}
use Rattle.asof.specs.Asking.{read_with, is_found_by, show_by, IsKept}

abbrev pub shown : SystemTime → List Term → List Version → List Shown
shown time terms versions = map (show_by time.last) (in_order version_cmp (filter (is_found_by time terms) versions))

pub answered_is : (q : Read) (time : SystemTime) (versions : List Version) (rows : List Shown) → rows ≡ shown time q.terms.items versions →
    record { last = time.last; rows = rows } ≡ answer_from (read_with time (select_of (query_of q))) versions
unfolding answer_from
answered_is q time versions rows found = let answer : List Shown → Answer = λ rs. record { last = time.last; rows = rs } in ap answer found

pub kept_is : VersionsGive → (q : Query) (versions : List Version) (a : Answer) → q.time.first ≤ q.time.last → a ≡ answer_from q versions → IsKept q versions a
kept_is give q versions a ordered is history now keeps apart known =
    subst (λ b. IsAnswerOver history q b) (sym is) (give versions history now q keeps apart (q.time.first, (omega arith, ordered)) known)

pub few_rows : FewVersions → (ts : List Term) (versions : List Version) (tests : ℕ) → IsFew ts versions tests → IsFewRows ts versions tests
few_rows law ts versions tests few key named long history bound current rows held each =
    let a = few key named long in
    let b = law versions history bound current key rows held each in
    omega (arith, a, b)
