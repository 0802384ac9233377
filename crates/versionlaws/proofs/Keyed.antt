-- Versions key by key.
use Rattle.std.proofs.Common.{◌≡◌, inl, inr, true, false, List, [], ◌∷◌, map, filter, refl, sym, subst, arith}
use Rattle.std.proofs.lemmas.Bool.{cases_Bool}
use Rattle.std.proofs.lemmas.List.{length-map}
use Rattle.model.specs.declared.value.Value.{Value}
use Rattle.model.specs.Tables.{IsRow}
use Rattle.rowlaws.specs.Rows.{Has, Apart}
use Rattle.rowlaws.proofs.Keys.{same_key-true, same_key-itself}
use Rattle.rowlaws.proofs.Members.{has_filter, filter_has, apart_filter, apart_map, map_has, pigeon}
use Rattle.versionlaws.specs.Versions.{Version}
use Rattle.versionlaws.specs.ByKey.{is_of, SameByKey, HeldByKey, FewVersions}

-- ---- lists that are the same by key

moved : (xs ys : List Version) → SameByKey xs ys → (v : Version) → Has xs v → Has ys v
moved xs ys same v h = (filter_has (is_of v.row.key) ys v (subst (λ l. Has l v) (same v.row.key) (has_filter (is_of v.row.key) xs v h (same_key-itself v.row.key)))).0

taken : (key : List Value) (y : Version) (ys : List Version) → is_of key y ≡ true → filter (is_of key) (y ∷ ys) ≡ y ∷ filter (is_of key) ys
taken key y ys e = rw e refl

passed : (key : List Value) (y : Version) (ys : List Version) → is_of key y ≡ false → filter (is_of key) (y ∷ ys) ≡ filter (is_of key) ys
passed key y ys e = rw e refl

apart_tail : (y : Version) (ys : List Version) → ((key : List Value) → Apart (filter (is_of key) (y ∷ ys))) → (key : List Value) → Apart (filter (is_of key) ys)
apart_tail y ys f key = elim (cases_Bool (is_of key y)) [
  | inl t ↦ (subst (λ l. Apart l) (taken key y ys t) (f key)).1
  | inr n ↦ subst (λ l. Apart l) (passed key y ys n) (f key)
]

apart_by_key : (ys : List Version) → ((key : List Value) → Apart (filter (is_of key) ys)) → Apart ys
apart_by_key [] f = tt
apart_by_key (y ∷ ys) f =
    let k = y.row.key in
    let here : Apart (y ∷ filter (is_of k) ys) = subst (λ l. Apart l) (taken k y ys (same_key-itself k)) (f k) in
    ((λ h. here.0 (has_filter (is_of k) ys y h (same_key-itself k))), apart_by_key ys (apart_tail y ys f))

pub held_by_key : HeldByKey
held_by_key versions others history bound current held same =
    let there = moved versions others (λ key. sym (same key)) in
    let back = moved others versions same in
    record {
      rows = λ u l row. (
        (λ r. let f = (held.rows u l row).0 r in (f.0, there f.0 f.1, f.2, f.3)),
        (λ f. (held.rows u l row).1 (f.0, back f.0 f.1, f.2, f.3)),
      );
      open_rows = λ row. (
        (λ r. let f = (held.open_rows row).0 r in (f.0, there f.0 f.1, f.2, f.3)),
        (λ f. (held.open_rows row).1 (f.0, back f.0 f.1, f.2, f.3)),
      );
      apart = apart_by_key others (λ key. subst (λ l. Apart l) (sym (same key)) (apart_filter (is_of key) versions held.apart));
      once = λ v w h g e. held.once v w (back v h) (back w g) e;
      lasts = λ v h. held.lasts v (back v h);
      born = λ v h. held.born v (back v h);
      over = λ v e h g. held.over v e (back v h) g;
    }

-- ---- how many

pub few_versions : FewVersions
few_versions versions history bound current key rows held each =
    let mine : List Version = filter (is_of key) versions in
    let of_mine = filter_has (is_of key) versions in
    let apart : Apart (map (λ v. v.row) mine) =
    apart_map (λ v. v.row) mine (λ v w h g e. held.once v w (of_mine v h).0 (of_mine w g).0 e) (apart_filter (is_of key) versions held.apart) in
    let most = pigeon (map (λ v. v.row) mine) rows apart (λ row h.
    let m = map_has (λ v. v.row) mine row h in
    let o = of_mine m.0 m.1 in
    let at = m.0.row.system_start in
    let there : IsRow (history at) m.0.row = (held.rows at (held.born m.0 o.0) m.0.row).1 (m.0, o.0, refl, (omega arith, held.lasts m.0 o.0)) in
    let has : Has rows m.0.row = each at m.0.row (held.born m.0 o.0) there (same_key-true m.0.row.key key o.1) in
    subst (λ r. Has rows r) (sym m.2) has) in
    let long = length-map mine (λ v. v.row) in
    omega (arith, most, long)
