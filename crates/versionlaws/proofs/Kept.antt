-- Versions over whole logs.
use Rattle.std.proofs.Common.{◌≡◌, ℕ, ◌+◌, ◌<◌, ◌≤◌, inl, inr, List, [], ◌∷◌, ◌++◌, length, reverse, nat_le, slice_get, option_map, Some, None, refl, sym, ap, ◌∙◌, subst, arith}
use Rattle.std.proofs.lemmas.Bool.{cases_lt}
use Rattle.std.proofs.lemmas.List.{reverse-append}
use Rattle.model.specs.Tables.{Table, Row, IsRow, empty_table}
use Rattle.model.specs.Transactions.{Language}
use Rattle.model.specs.declared.entry.Entry.{Entry}
use Rattle.model.specs.Stamps.{above}
use Rattle.model.specs.Logs.{state_at, state_after, least_stamp, IsStamped}
use Rattle.rowlaws.specs.Rows.{Has}
use Rattle.rowlaws.specs.Touching.{rows_without, IsTouched, Touched}
use Rattle.rowlaws.specs.Logs.{rows_after, IsFineRequest, AllFine, LogsOnRows, LogsFollow}
use Rattle.versionlaws.specs.Versions.{Version, Holds, NoVersions}
use Rattle.versionlaws.specs.Committing.{committed, versions_after, CommitEntry, EntryStays, Lasts, KeptLater, HoldsAfter, KeepsAfter}
use Rattle.versionlaws.proofs.Lasting.{Falling, falling, stamped_beginning, filter-reverse, all_kept, none_later, AreOlder, lasts, up_to}
use Rattle.versionlaws.proofs.Committed.{holds_next, held_on, held_kept}

-- ---- fine logs

fine_more : (language : Language) (xs : List Entry) (x : Entry) → AllFine language xs → IsFineRequest language x.request → AllFine language (xs ++ x ∷ [])
fine_more language [] x a f = (f, tt)
fine_more language (y ∷ ys) x a f = (a.0, fine_more language ys x a.1 f)

fine_reverse : (language : Language) (xs : List Entry) → AllFine language xs → AllFine language (reverse xs)
fine_reverse language [] f = tt
fine_reverse language (x ∷ xs) f = subst (λ ys. AllFine language ys) (sym (reverse-append (x ∷ []) xs)) (fine_more language (reverse xs) x (fine_reverse language xs f.1) f.0)

-- ---- the bound of a list from the newest entry back

abbrev bound : List Entry → ℕ
bound [] = 0
bound (e ∷ before) = e.stamp + 1

below_bound : (u : ℕ) (before : List Entry) → Falling before → bound before ≤ u → (f : Entry) → Has before f → f.stamp < u
below_bound u [] falls le f h = absurd h
below_bound u (e ∷ before) falls le f (inl q) = let s : f.stamp ≡ e.stamp = ap (λ x. x.stamp) q in omega arith
below_bound u (e ∷ before) falls le f (inr h) = let s = falls.0 f h in omega arith

bound_less : (e : Entry) (before : List Entry) → Falling (e ∷ before) → bound before ≤ e.stamp
bound_less e [] falls = omega arith
bound_less e (f ∷ before) falls = let s = falls.0 f (inl refl) in omega arith

get_last : (x : Entry) (xs : List Entry) (e : Entry) → slice_get (x ∷ xs ++ e ∷ []) (length (xs ++ e ∷ [])) ≡ Some e
get_last x [] e = refl
get_last x (y ∷ xs) e = get_last y xs e

pub least_more : (xs : List Entry) (e : Entry) → least_stamp (xs ++ e ∷ []) ≡ e.stamp + 1
least_more [] e = refl
least_more (x ∷ xs) e = ap (λ o. above (option_map (λ (d : Entry). d.stamp) o)) (get_last x xs e)

least_reversed : (before : List Entry) → least_stamp (reverse before) ≡ bound before
least_reversed [] = refl
least_reversed (e ∷ before) = ap least_stamp (reverse-append (e ∷ []) before) ∙ least_more (reverse before) e

twice : (xs : List Entry) → reverse (reverse xs) ≡ xs
twice [] = refl
twice (x ∷ xs) = ap reverse (reverse-append (x ∷ []) xs) ∙ reverse-append (reverse xs) (x ∷ []) ∙ ap (λ ys. x ∷ ys) (twice xs)

bound_least : (list : List Entry) → bound (reverse list) ≡ least_stamp list
bound_least list = sym (least_reversed (reverse list)) ∙ ap least_stamp (twice list)

-- ---- one entry more

none_some : {A : Type 0} (e : A) → None ≡ Some e → ⊥
none_some e h = cc

nothing_there : (row : Row) → IsRow empty_table row → ⊥
unfolding empty_table
nothing_there row r = let some = r.some in none_some _ (r.filled row.period.start (omega arith) some)

pub no_versions_hold : NoVersions
no_versions_hold history = record {
  rows = λ u l row. absurd (omega arith);
  open_rows = λ row. ((λ h. absurd (nothing_there row h)), (λ v. absurd v.1));
  apart = tt;
  once = λ v w h. absurd h;
  lasts = λ v h. absurd h;
  born = λ v h. absurd h;
  over = λ v e h. absurd h;
}

module _ (language : Language) (n : ℕ) where
  abbrev table : List Entry → Table
  table es = state_after language es n

  -- the table at each instant, by the entries from the newest back
  abbrev history : List Entry → ℕ → Table
  history before u = table (up_to u before)

  holds_entry : (e : Entry) (before : List Entry) (versions : List Version) (removed added : List Row) → LogsFollow → AllFine language (e ∷ before) → Falling (e ∷ before) →
      Holds versions (history before) (bound before) (table before) → IsTouched (table before) (table (e ∷ before)) removed added →
      Holds (committed e.stamp removed added versions) (history (e ∷ before)) (e.stamp + 1) (table (e ∷ before))
  holds_entry e before versions removed added follows fine falls held touch =
      holds_next versions (history before) (history (e ∷ before)) (bound before) e.stamp (table before) (table (e ∷ before)) removed added held (bound_less e before falls)
      (λ u l. let b = bound_less e before falls in ap table (none_later u e before (omega arith)))
      (λ u g l. ap table (none_later u e before l ∙ all_kept u before (λ f h. let s = below_bound u before falls.1 g f h in omega arith)))
      (ap table (all_kept e.stamp (e ∷ before) (λ f h. let s = below_bound (e.stamp + 1) (e ∷ before) falls (omega arith) f h in omega arith)))
      touch (follows language e before fine n)

  nothing_yet : table [] ≡ empty_table
  unfolding state_after
  nothing_yet = refl

  holds_before : (before : List Entry) → LogsOnRows → LogsFollow → Touched → AllFine language before → Falling before → Holds (versions_after language n before) (history before) (bound before) (table before)
  unfolding versions_after
  holds_before [] listed follows touched fine falls = subst (λ (t : Table). Holds [] (history []) 0 t) (sym nothing_yet) (no_versions_hold (history []))
  holds_before (e ∷ before) listed follows touched fine falls =
      let old : List Row = rows_after language before n in
      let new : List Row = rows_after language (e ∷ before) n in
      holds_entry e before (versions_after language n before) (rows_without old new) (rows_without new old) follows fine falls (holds_before before listed follows touched fine.1 falls.1)
      (touched old new (table before) (table (e ∷ before)) (listed language before fine.1 n) (listed language (e ∷ before) fine n))

  older : (before : List Entry) → LogsFollow → AllFine language before → AreOlder table before
  older [] follows fine = tt
  older (e ∷ before) follows fine = (follows language e before fine n, older before follows fine.1)

  -- ---- the state at an instant

  at : (list : List Entry) (u : ℕ) → IsStamped list → state_at language list u n ≡ history (reverse list) u
  unfolding state_at
  at list u s = ap (λ (es : List Entry). state_after language es n) (sym (filter-reverse (λ (e : Entry). nat_le e.stamp u) list))

  -- from its bound on the table stays
  stays_from : (list : List Entry) (u : ℕ) → IsStamped list → least_stamp list ≤ u → state_at language list u n ≡ table (reverse list)
  stays_from list u s le =
      let b = bound_least list in
      at list u s ∙ ap table (all_kept u (reverse list) (λ f h. let l = below_bound u (reverse list) (falling list s) (omega arith) f h in omega arith))

  held : (list : List Entry) (versions : List Version) → IsStamped list → Holds versions (history (reverse list)) (bound (reverse list)) (table (reverse list)) → Holds versions (λ u. state_at language list u n) (least_stamp list) (table (reverse list))
  held list versions s h =
      let x : Holds versions (history (reverse list)) (least_stamp list) (table (reverse list)) = subst (λ k. Holds versions (history (reverse list)) k (table (reverse list))) (bound_least list) h in
      subst (λ (f : ℕ → Table). Holds versions f (least_stamp list) (table (reverse list))) (λ i u. sym (at list u s) i) x

  held_back : (list : List Entry) (versions : List Version) → IsStamped list → Holds versions (λ u. state_at language list u n) (least_stamp list) (table (reverse list)) → Holds versions (history (reverse list)) (bound (reverse list)) (table (reverse list))
  held_back list versions s h =
      let x : Holds versions (history (reverse list)) (least_stamp list) (table (reverse list)) = subst (λ (f : ℕ → Table). Holds versions f (least_stamp list) (table (reverse list))) (λ i u. at list u s i) h in
      subst (λ k. Holds versions (history (reverse list)) k (table (reverse list))) (sym (bound_least list)) x

-- ---- the laws

pub commit_entry_holds : LogsFollow → CommitEntry
commit_entry_holds follows language n list e versions removed added s fine h touch =
    let before : List Entry = reverse list in
    let more : reverse (list ++ e ∷ []) ≡ e ∷ before = reverse-append list (e ∷ []) in
    let was = held_back language n list versions (stamped_beginning list (e ∷ []) s) h in
    let fine_now : AllFine language (e ∷ before) = subst (λ es. AllFine language es) more (fine_reverse language (list ++ e ∷ []) fine) in
    let falls_now : Falling (e ∷ before) = subst (λ es. Falling es) more (falling (list ++ e ∷ []) s) in
    let touched_now = subst (λ es. IsTouched (state_after language before n) (state_after language es n) removed added) more touch in
    let next = holds_entry language n e before versions removed added follows fine_now falls_now was touched_now in
    held language n (list ++ e ∷ []) (committed e.stamp removed added versions) s
    (subst (λ es. Holds (committed e.stamp removed added versions) (history language n es) (bound es) (state_after language es n)) (sym more) next)

pub entry_stays_held : EntryStays
entry_stays_held language n list e versions s h stays =
    let was = stamped_beginning list (e ∷ []) s in
    let more : reverse (list ++ e ∷ []) ≡ e ∷ reverse list = reverse-append list (e ∷ []) in
    let falls : Falling (e ∷ reverse list) = subst (λ es. Falling es) more (falling (list ++ e ∷ []) s) in
    let bound_is = bound_least list in
    let next_is = least_more list e in
    let less = bound_less e (reverse list) falls in
    let now : (u : ℕ) → state_at language (list ++ e ∷ []) u n ≡ history language n (e ∷ reverse list) u = λ u. at language n (list ++ e ∷ []) u s ∙ ap (λ es. history language n es u) more in
    let on = held_on versions (λ u. state_at language list u n) (λ u. state_at language (list ++ e ∷ []) u n) (least_stamp list) (least_stamp (list ++ e ∷ [])) (state_after language (reverse list) n) h (omega arith)
    (λ u l. now u ∙ ap (λ es. state_after language es n) (none_later u e (reverse list) (omega arith)) ∙ sym (at language n list u was))
    (λ u g l. elim (cases_lt u e.stamp) [
      | inl k ↦ now u ∙ ap (λ es. state_after language es n) (none_later u e (reverse list) k) ∙ sym (at language n list u was) ∙ stays_from language n list u was g
      | inr k ↦ now u ∙ ap (λ es. state_after language es n) (all_kept u (e ∷ reverse list) (λ f m. let x = below_bound (e.stamp + 1) (e ∷ reverse list) falls (omega arith) f m in omega arith) ∙ sym more) ∙ stays
    ]) in
    subst (λ (t : Table). Holds versions (λ u. state_at language (list ++ e ∷ []) u n) (least_stamp (list ++ e ∷ [])) t) (sym stays) on

pub kept_later : KeptLater
kept_later language n list versions now s h =
    held_kept versions (λ u. state_at language list u n) (least_stamp list) now (state_after language (reverse list) n) h (λ u g le. stays_from language n list u s g)

pub lasts_in_log : LogsFollow → Lasts
lasts_in_log follows language list n t w row s fine le b h =
    subst (λ x. IsRow x row) (sym (at language n list w s))
    (lasts (λ es. state_after language es n) w t (reverse list) row (older language n (reverse list) follows (fine_reverse language list fine)) (falling list s) le b (subst (λ x. IsRow x row) (at language n list t s) h))

pub holds_in_log : LogsOnRows → LogsFollow → Touched → HoldsAfter
holds_in_log listed follows touched language list n s fine =
    held language n list (versions_after language n (reverse list)) s (holds_before language n (reverse list) listed follows touched (fine_reverse language list fine) (falling list s))

pub keeps_in_log : LogsOnRows → LogsFollow → Touched → KeepsAfter
keeps_in_log listed follows touched language list n now s fine =
    kept_later language n list (versions_after language n (reverse list)) now s (holds_in_log listed follows touched language list n s fine)
