-- What a list of versions answers is what the instants answer.
use Rattle.std.proofs.Common.{◌≡◌, ℕ, ◌<◌, ◌≤◌, inl, inr, ◌↔◌, true, Option, Some, None, List, refl, sym, subst, arith, max}
use Rattle.std.proofs.lemmas.Bool.{cases_lt, le-leb, lt-leb}
use Rattle.model.specs.Tables.{Table, Row, IsRow}
use Rattle.model.specs.Answers.{Query, IsAsked, IsShownEnd}
use Rattle.rowlaws.specs.Rows.{Has}
use Rattle.versionlaws.specs.Versions.{Version, IsBefore, IsAlive, Keeps}
use Rattle.versionlaws.specs.Answering.{HasInstant, IsFound, shown_end, VersionsRows, VersionsEnds}

before_less : (u w : ℕ) (end : Option ℕ) → u ≤ w → IsBefore w end → IsBefore u end
before_less u w None h b = tt
before_less u w (Some end) h b = omega arith

before_both : (u w : ℕ) (end : Option ℕ) → IsBefore u end → IsBefore w end → IsBefore (max u w) end
before_both u w None a b = tt
before_both u w (Some end) a b = omega arith

module _ (versions : List Version) (history : ℕ → Table) (now : ℕ) (keeps : Keeps versions history now) where
  pub asked_is : (q : Query) (row : Row) → HasInstant q.time → q.time.last ≤ now → IsAsked history q row ↔ ((v : Version) × Has versions v × (v.row ≡ row) × IsFound q v)
  asked_is q row some closed =
      let some_at = some.1 in
      let first : ℕ = q.time.first in
      let last : ℕ = q.time.last in (
        (λ h.
            let u = h.1 in
            let at = u.1 in
            let a = at.0 in
            let b = at.1 in
            let v = (keeps.rows u.0 (omega arith) row).0 u.2 in
            let born = v.3.0 in
            (v.0, v.1, v.2, (subst (λ r. q.passes r ≡ true) (sym v.2) h.0, omega arith, before_less first u.0 v.0.end a v.3.1))),
        (λ v.
            let f = v.3 in
            let born = f.1 in
            let s0 = some_at.0 in
            let s1 = some_at.1 in
            let u : ℕ = max first v.0.row.system_start in
            (subst (λ r. q.passes r ≡ true) v.2 f.0, (u, (omega arith, omega arith), (keeps.rows u (omega arith) row).1 (v.0, v.1, v.2, (omega arith, before_both first v.0.row.system_start v.0.end f.2 (keeps.lasts v.0 v.1)))))),
      )

  alive_row : (v : Version) (u : ℕ) → Has versions v → u ≤ now → IsAlive v u → IsRow (history u) v.row
  alive_row v u h le a = (keeps.rows u le v.row).1 (v, h, refl, a)

  removed_row : (v : Version) (u : ℕ) → Has versions v → u ≤ now → (IsAlive v u → ⊥) → IsRow (history u) v.row → ⊥
  removed_row v u h le dead row = let w = (keeps.rows u le v.row).0 row in dead (subst (λ x. IsAlive x u) (keeps.once w.0 v w.1 h w.2) w.3)

  pub end_is : (v : Version) (last : ℕ) → Has versions v → last ≤ now → IsShownEnd history last v.row (shown_end last v.end)
  end_is v last h le = by v.end refl
    where
      by : (end : Option ℕ) → v.end ≡ end → IsShownEnd history last v.row (shown_end last end)
      by None e = λ w a b. alive_row v w h (omega arith) (omega arith, subst (λ x. IsBefore w x) (sym e) tt)
      by (Some end) e =
          let born : v.row.system_start < end = subst (λ x. IsBefore v.row.system_start x) e (keeps.lasts v h) in
          let alive : (w : ℕ) → v.row.system_start < w → w < end → w ≤ now → IsRow (history w) v.row = λ w a b c. alive_row v w h c (omega arith, subst (λ x. IsBefore w x) (sym e) b) in
          elim (cases_lt last end) [
            | inl l ↦ rw (lt-leb end last l) (λ w a b. alive w a (omega arith) (omega arith))
            | inr g ↦ rw (le-leb end last g) (born, g, removed_row v end h (omega arith) (λ a. let bad : end < end = subst (λ x. IsBefore end x) e a.1 in omega arith), (λ w a b. alive w a b (omega arith)))
          ]

pub versions_rows_are : VersionsRows
versions_rows_are versions history now q row keeps some le = asked_is versions history now keeps q row some le

pub versions_ends_are : VersionsEnds
versions_ends_are versions history now v last keeps h le = end_is versions history now keeps v last h le
