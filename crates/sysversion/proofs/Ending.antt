-- The versions of a table, some of which end, and rows of a key.
use Rattle.std.proofs.Common.{◌≡◌, ℕ, ◌==◌, Bool, true, false, ◌&&◌, ◌||◌, cond, List, [], ◌∷◌, ◌++◌, map, filter, Some, is_none, refl, sym, ap, ◌∙◌, subst, inl, inr}
use Rattle.std.proofs.lemmas.Bool.{cases_Bool, and_parts}
use Rattle.std.proofs.lemmas.List.{append-nil}
use Rattle.std.proofs.lemmas.List.Elements.{filter-append}
use Rattle.std.specs.List.{list_any, list_all}
use Rattle.model.specs.declared.value.Value.{Value}
use Rattle.model.specs.Values.{same_key}
use Rattle.model.specs.Tables.{Row}
use Rattle.rowlaws.proofs.Keys.{same_key-true}
use Rattle.rowlaws.proofs.RowFacts.{both}
use Rattle.versionlaws.specs.Versions.{Version}
use Rattle.versionlaws.specs.ByKey.{is_of}
use Rattle.versionlaws.specs.Committing.{is_at, ended, opened, committed}
use Rattle.sysversion.specs.Lists.{rows_of}
use Rattle.sysversion.specs.Open.{is_open_from, ended_from}

and_false : (b : Bool) → (b && false) ≡ false
and_false true = refl
and_false false = refl

or_false : (b : Bool) → (b || false) ≡ b
or_false true = refl
or_false false = refl

abbrev pub ends : Bool → ℕ → Version → Version
ends b t v = cond b (record { row = v.row; end = Some t }) v

-- the version ends with one row where it is open and the row is at its place
pub ends_at : (t : ℕ) (r : Row) (v : Version) (b : Bool) → (is_none v.end && is_at v.row r) ≡ b → ended t (r ∷ []) v ≡ ends b t v
ends_at t r v b e = ap (λ c. ends (is_none v.end && c) t v) (or_false (is_at v.row r)) ∙ ap (λ c. ends c t v) e

-- of a row's key, those end that are open and start with it
at_start : (t : ℕ) (r : Row) (v : Version) → is_of r.key v ≡ true → ended_from t r.period.start v ≡ ended t (r ∷ []) v
at_start t r v mine = sym (ends_at t r v (is_open_from r.period.start v) (ap (λ b. is_none v.end && (b && (v.row.period.start == r.period.start))) mine))

pub all_at_start : (t : ℕ) (r : Row) (versions : List Version) → list_all (is_of r.key) versions ≡ true → map (ended_from t r.period.start) versions ≡ map (ended t (r ∷ [])) versions
all_at_start t r [] all = refl
all_at_start t r (v ∷ versions) all =
    let parts = and_parts (is_of r.key v) (list_all (is_of r.key) versions) all in
    λ i. at_start t r v parts.0 i ∷ all_at_start t r versions parts.1 i

ends_none : (t : ℕ) (v : Version) → ended t [] v ≡ v
ends_none t v = ap (λ b. ends b t v) (and_false (is_none v.end))

-- where no row goes no version ends
pub none_ends : (t : ℕ) (versions : List Version) → map (ended t []) versions ≡ versions
none_ends t [] = refl
none_ends t (v ∷ versions) = λ i. ends_none t v i ∷ none_ends t versions i

-- where nothing is touched the versions stay
pub none_committed : (t : ℕ) (versions : List Version) → committed t [] [] versions ≡ versions
unfolding committed
none_committed t versions = append-nil (map (ended t []) versions) ∙ none_ends t versions

-- ---- one row after another

skipped : (o a l : Bool) → (o && a) ≡ false → (o && (a || l)) ≡ (o && l)
skipped true true l h = cc
skipped true false l h = refl
skipped false a l h = refl

one_more : (t : ℕ) (r : Row) (rs : List Row) (v : Version) → ended t (r ∷ rs) v ≡ ended t rs (ended t (r ∷ []) v)
one_more t r rs v = elim (cases_Bool (is_none v.end && is_at v.row r)) [
  | inl y ↦
      let parts = and_parts (is_none v.end) (is_at v.row r) y in
      (λ i. ends (parts.0 i && (parts.1 i || list_any (is_at v.row) rs)) t v) ∙ sym (ap (ended t rs) (ends_at t r v true y))
  | inr n ↦ ap (λ b. ends b t v) (skipped (is_none v.end) (is_at v.row r) (list_any (is_at v.row) rs) n) ∙ sym (ap (ended t rs) (ends_at t r v false n))
]

pub ended_more : (t : ℕ) (r : Row) (rs : List Row) (versions : List Version) → map (ended t (r ∷ rs)) versions ≡ map (ended t rs) (map (ended t (r ∷ [])) versions)
ended_more t r rs [] = refl
ended_more t r rs (v ∷ versions) = λ i. one_more t r rs v i ∷ ended_more t r rs versions i

-- ---- the row of a version stays

row_kept : (b : Bool) (t : ℕ) (v : Version) → (ends b t v).row ≡ v.row
row_kept true t v = refl
row_kept false t v = refl

pub of_ended : (key : List Value) (t : ℕ) (rs : List Row) (v : Version) → is_of key (ended t rs v) ≡ is_of key v
of_ended key t rs v = ap (λ (r : Row). same_key r.key key) (row_kept (is_none v.end && list_any (is_at v.row) rs) t v)

pub all_ended : (key : List Value) (t : ℕ) (rs : List Row) (versions : List Version) → list_all (is_of key) (map (ended t rs) versions) ≡ list_all (is_of key) versions
all_ended key t rs [] = refl
all_ended key t rs (v ∷ versions) = λ i. of_ended key t rs v i && all_ended key t rs versions i

pub filter_ended : (key : List Value) (t : ℕ) (rs : List Row) (versions : List Version) → filter (is_of key) (map (ended t rs) versions) ≡ map (ended t rs) (filter (is_of key) versions)
filter_ended key t rs [] = refl
filter_ended key t rs (v ∷ versions) = elim (cases_Bool (is_of key v)) [
  | inl y ↦ rw (of_ended key t rs v ∙ y, y) (ap (λ vs. ended t rs v ∷ vs) (filter_ended key t rs versions))
  | inr n ↦ rw (of_ended key t rs v ∙ n, n) (filter_ended key t rs versions)
]

pub filter_opened : (key : List Value) (rs : List Row) → filter (is_of key) (map opened rs) ≡ map opened (rows_of key rs)
filter_opened key [] = refl
filter_opened key (r ∷ rs) = elim (cases_Bool (same_key r.key key)) [
  | inl y ↦ rw y (ap (λ vs. opened r ∷ vs) (filter_opened key rs))
  | inr n ↦ rw n (filter_opened key rs)
]

-- ---- only rows of its key end a version

elsewhere : (key : List Value) (v : Version) (r : Row) → is_of key v ≡ true → same_key r.key key ≡ false → is_at v.row r ≡ false
elsewhere key v r mine other = elim (cases_Bool (same_key v.row.key r.key)) [
  | inl y ↦
      let one : v.row.key ≡ r.key = same_key-true v.row.key r.key y in
      absurd (both (subst (λ k. same_key k key ≡ true) one mine) other)
  | inr n ↦ ap (λ b. b && (v.row.period.start == r.period.start)) n
]

any_of_key : (key : List Value) (v : Version) (rs : List Row) → is_of key v ≡ true → list_any (is_at v.row) rs ≡ list_any (is_at v.row) (rows_of key rs)
any_of_key key v [] mine = refl
any_of_key key v (r ∷ rs) mine = elim (cases_Bool (same_key r.key key)) [
  | inl y ↦ rw y (ap (λ b. is_at v.row r || b) (any_of_key key v rs mine))
  | inr n ↦ rw (n, elsewhere key v r mine n) (any_of_key key v rs mine)
]

pub ended_of_key : (key : List Value) (t : ℕ) (rs : List Row) (versions : List Version) → list_all (is_of key) versions ≡ true → map (ended t rs) versions ≡ map (ended t (rows_of key rs)) versions
ended_of_key key t rs [] all = refl
ended_of_key key t rs (v ∷ versions) all =
    let parts = and_parts (is_of key v) (list_all (is_of key) versions) all in
    λ i. ends (is_none v.end && any_of_key key v rs parts.0 i) t v ∷ ended_of_key key t rs versions parts.1 i

-- ---- what is committed, of a key

pub committed_of_key : (key : List Value) (t : ℕ) (removed added : List Row) (versions mine : List Version) → filter (is_of key) versions ≡ mine → list_all (is_of key) mine ≡ true →
    filter (is_of key) (committed t removed added versions) ≡ map (ended t (rows_of key removed)) mine ++ map opened (rows_of key added)
unfolding committed
committed_of_key key t removed added versions mine is all =
    filter-append (is_of key) (map (ended t removed) versions) (map opened added)
    ∙ (λ i. (filter_ended key t removed versions ∙ ap (map (ended t removed)) is ∙ ended_of_key key t removed mine all) i ++ filter_opened key added i)
