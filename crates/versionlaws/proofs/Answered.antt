-- The versions that are found, in order, are the answer.
use Rattle.std.proofs.Common.{◌≡◌, ℕ, ◌≤◌, inl, inr, true, List, [], ◌∷◌, map, filter, reverse, Option, Some, None, refl, sym, ap, ◌∙◌, subst, arith}
use Rattle.std.specs.declared.cmp.Ordering.TheVariants.{Less, Equal}
use Rattle.std.specs.Ordering.{ordering_then, nat_cmp}
use Rattle.std.specs.Cmp.{IsTotalOrder, nat_cmp_total, on_total, then_total}
use Rattle.std.specs.List.{AllByRecursion}
use Rattle.std.specs.List.Sorted.{IsStrictlySortedBy}
use Rattle.std.proofs.lemmas.Bool.{and_parts, and_from, le-leb, leb-true, lt-ltb, ltb-true}
use Rattle.std.proofs.lemmas.List.Elements.{All-from_recursion}
use Rattle.model.specs.Values.{key_cmp}
use Rattle.model.specs.Tables.{Table, Row, IsRow}
use Rattle.model.specs.Logs.{state_at}
use Rattle.model.specs.Answers.{Query, Shown, IsAnswerOver, IsShownEnd, row_cmp}
use Rattle.rowlaws.specs.Rows.{Has, Apart}
use Rattle.rowlaws.specs.Sorting.{in_order}
use Rattle.rowlaws.proofs.Keys.{key_total, key_same}
use Rattle.rowlaws.proofs.Members.{has_map, map_has, has_filter, filter_has, apart_filter}
use Rattle.rowlaws.proofs.Contents.{has_contains, contains_has}
use Rattle.rowlaws.proofs.RowFacts.{one_place}
use Rattle.rowlaws.proofs.Orders.{then_equal, nat_equal}
use Rattle.rowlaws.proofs.Sorted.{order_has, has_order, sorted_order}
use Rattle.versionlaws.specs.Versions.{Version, IsBefore, Keeps}
use Rattle.versionlaws.specs.Committing.{versions_after, HoldsAfter, KeepsAfter}
use Rattle.versionlaws.specs.Answering.{HasInstant, IsFound, is_before, is_found, version_cmp, show, answer_from, VersionsGive, VersionsAnswer}
use Rattle.versionlaws.proofs.Found.{asked_is, end_is}

-- ---- elements

all_from : {A : Type 0} (P : A → Type 0) (xs : List A) → ((x : A) → Has xs x → P x) → AllByRecursion P xs
all_from P [] f = tt
all_from P (x ∷ xs) f = (f x (inl refl), all_from P xs (λ y h. f y (inr h)))

-- ---- the tests

before_is : (u : ℕ) (end : Option ℕ) → is_before u end ≡ true → IsBefore u end
before_is u None h = tt
before_is u (Some e) h = ltb-true u e h

is_before_of : (u : ℕ) (end : Option ℕ) → IsBefore u end → is_before u end ≡ true
is_before_of u None h = refl
is_before_of u (Some e) h = lt-ltb u e h

found : (q : Query) (v : Version) → is_found q v ≡ true → IsFound q v
found q v h = let p = and_parts _ _ h in let r = and_parts _ _ p.0 in (r.0, leb-true v.row.system_start q.time.last r.1, before_is q.time.first v.end p.1)

found_test : (q : Query) (v : Version) → IsFound q v → is_found q v ≡ true
found_test q v h = and_from _ _ (and_from _ _ h.0 (le-leb v.row.system_start q.time.last h.1)) (is_before_of q.time.first v.end h.2)

-- ---- the order

version_total : IsTotalOrder version_cmp
version_total = then_total (on_total (λ (v : Version). v.row.key) key_total) (then_total (on_total (λ (v : Version). v.row.period.start) nat_cmp_total) (on_total (λ (v : Version). v.row.system_start) nat_cmp_total))

module _ (versions : List Version) (history : ℕ → Table) (now : ℕ) (keeps : Keeps versions history now) (apart : Apart versions) (q : Query) (some : HasInstant q.time) (is_closed : q.time.last ≤ now) where
  -- a version's row is there at its system start
  at_system_start : (v : Version) → Has versions v → (u : ℕ) → v.row.system_start ≡ u → u ≤ now → IsRow (history u) v.row
  at_system_start v h u e b = (keeps.rows u b v.row).1 (v, h, refl, (omega arith, subst (λ x. IsBefore x v.end) e (keeps.lasts v h)))

  ties : (v w : Version) → Has versions v → Has versions w → v.row.system_start ≤ now → version_cmp v w ≡ Equal → v ≡ w
  ties v w h g b e =
      let p = then_equal (key_cmp v.row.key w.row.key) (ordering_then (nat_cmp v.row.period.start w.row.period.start) (nat_cmp v.row.system_start w.row.system_start)) e in
      let r = then_equal (nat_cmp v.row.period.start w.row.period.start) (nat_cmp v.row.system_start w.row.system_start) p.1 in
      let key = key_same v.row.key w.row.key p.0 in
      let start = nat_equal v.row.period.start w.row.period.start r.0 in
      let system_start = nat_equal v.row.system_start w.row.system_start r.1 in
      keeps.once v w h g (one_place (history v.row.system_start) v.row w.row (at_system_start v h v.row.system_start refl b) (at_system_start w g v.row.system_start (sym system_start) b) key start)

  abbrev hits : List Version
  hits = filter (is_found q) versions

  abbrev rows : List Version
  rows = in_order version_cmp hits

  hit : (v : Version) → Has rows v → Has versions v × IsFound q v
  hit v h = let f = filter_has (is_found q) versions v (order_has version_cmp hits v h) in (f.0, found q v f.1)

  sorted : IsStrictlySortedBy version_cmp rows
  sorted = sorted_order version_cmp version_total hits (apart_filter (is_found q) versions apart) (λ v w h g e.
      let a = filter_has (is_found q) versions v h in
      let b = filter_has (is_found q) versions w g in
      let born = (found q v a.1).1 in
      ties v w a.0 b.0 (omega arith) e)

  sorted_rows : (vs : List Version) → IsStrictlySortedBy version_cmp vs → IsStrictlySortedBy row_cmp (map (λ s. s.row) (map (show q) vs))
  unfolding IsStrictlySortedBy
  sorted_rows [] s = tt
  sorted_rows (v ∷ vs) s = (after vs s.0, sorted_rows vs s.1)
    where
      after : (ws : List Version) → AllByRecursion (λ w. version_cmp v w ≡ Less) ws → AllByRecursion (λ r. row_cmp v.row r ≡ Less) (map (λ s. s.row) (map (show q) ws))
      after [] a = tt
      after (w ∷ ws) a = (a.0, after ws a.1)

  shown_row : (row : Row) → Has (map (λ s. s.row) (map (show q) rows)) row → (v : Version) × Has rows v × (v.row ≡ row)
  shown_row row h =
      let s = map_has (λ (s : Shown). s.row) (map (show q) rows) row h in
      let v = map_has (show q) rows s.0 s.1 in
      (v.0, v.1, ap (λ x. x.row) (sym v.2) ∙ sym s.2)

  row_shown : (v : Version) → Has rows v → Has (map (λ s. s.row) (map (show q) rows)) v.row
  row_shown v h = has_map (λ (s : Shown). s.row) (map (show q) rows) (show q v) (has_map (show q) rows v h)

  pub answer_is : IsAnswerOver history q (answer_from q versions)
  unfolding answer_from
  answer_is = record {
    last = refl;
    order = sorted_rows rows sorted;
    rows = λ row. (
      (λ c. let v = shown_row row (contains_has _ row c) in let h = hit v.0 v.1 in (asked_is versions history now keeps q row some is_closed).1 (v.0, h.0, v.2, h.1)),
      (λ a. let v = (asked_is versions history now keeps q row some is_closed).0 a in
          has_contains _ row (subst (λ r. Has (map (λ s. s.row) (map (show q) rows)) r) v.2 (row_shown v.0 (has_order version_cmp hits v.0 (has_filter (is_found q) versions v.0 v.1 (found_test q v.0 v.3)))))),
    );
    ends = All-from_recursion (λ s. IsShownEnd history q.time.last s.row s.end) (map (show q) rows) (all_from (λ s. IsShownEnd history q.time.last s.row s.end) (map (show q) rows) (λ s h.
        let v = map_has (show q) rows s h in
        subst (λ x. IsShownEnd history q.time.last x.row x.end) (sym v.2) (end_is versions history now keeps v.0 q.time.last (hit v.0 v.1).0 is_closed)));
  }

pub versions_give_answer : VersionsGive
versions_give_answer versions history now q keeps apart some le = answer_is versions history now keeps apart q some le

le_itself : (n : ℕ) → n ≤ n
le_itself n = omega arith

pub answer_in_log : HoldsAfter → KeepsAfter → VersionsAnswer
answer_in_log holds keeps language q list s fine some =
    answer_is (versions_after language q.table (reverse list)) (λ u. state_at language list u q.table) q.time.last (keeps language list q.table q.time.last s fine) (holds language list q.table s fine).apart q some (le_itself q.time.last)
