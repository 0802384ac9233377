-- Lists of items in which stamps rise over all that is closed before.
use Rattle.std.proofs.Common.{◌≡◌, ◌∙◌, ℕ, zero, suc, ◌<◌, ◌≤◌, max, Option, Some, None, List, [], ◌∷◌, ◌++◌, take, drop, fold, refl, sym, ap, subst, arith}
use Rattle.std.proofs.lemmas.List.{take-append-drop}
use Rattle.std.proofs.lemmas.List.Sums.{fold-append}
use Rattle.model.specs.Lists.{nth}
use Rattle.model.specs.declared.entry.Entry.{Entry}
use Rattle.model.specs.Stamps.{TIME_LAST, above, greater}
use Rattle.model.specs.Logs.{IsStamped, closed}
use Rattle.history.specs.declared.item.Item.{Item}
use Rattle.history.specs.declared.item.Item.TheVariants.{Applied, Sealed}
use Rattle.history.specs.Items.{entries_in, greater_sealed, sealed_in, closed_in, Follows, closed_after, RisesFrom, Rises}

-- ---- one list and another after it

pub rises_join : (time : Option ℕ) (xs ys : List Item) → RisesFrom time xs → RisesFrom (fold closed_after time xs) ys → RisesFrom time (xs ++ ys)
rises_join time [] ys h k = k
rises_join time (x ∷ xs) ys h k = (h.0, rises_join (closed_after time x) xs ys h.1 k)

pub rises_first : (time : Option ℕ) (xs ys : List Item) → RisesFrom time (xs ++ ys) → RisesFrom time xs
rises_first time [] ys h = tt
rises_first time (x ∷ xs) ys h = (h.0, rises_first (closed_after time x) xs ys h.1)

pub rises_later : (time : Option ℕ) (xs ys : List Item) → RisesFrom time (xs ++ ys) → RisesFrom (fold closed_after time xs) ys
rises_later time [] ys h = h
rises_later time (x ∷ xs) ys h = rises_later (closed_after time x) xs ys h.1

-- ---- what is closed

-- the stamp of the last entry, or this where there is none
closed_from : Option ℕ → List Entry → Option ℕ
closed_from time [] = time
closed_from time (e ∷ es) = closed_from (Some e.stamp) es

closed_cons : (e : Entry) (es : List Entry) → closed (e ∷ es) ≡ closed_from (Some e.stamp) es
unfolding closed_from
closed_cons e [] = refl
closed_cons e (d ∷ es) = closed_cons d es

closed_last : (es : List Entry) → closed es ≡ closed_from None es
unfolding closed_from
closed_last [] = refl
closed_last (e ∷ es) = closed_cons e es

-- an entry above both times
above_both : (a b : Option ℕ) (s : ℕ) → above (greater a b) ≤ s → greater (greater a b) (Some s) ≡ greater (Some s) b
above_both None None s h = refl
above_both None (Some b) s h = let most : max b s ≡ max s b = omega (arith, h) in ap Some most
above_both (Some a) None s h = let most : max a s ≡ s = omega (arith, h) in ap Some most
above_both (Some a) (Some b) s h = let most : max (max a b) s ≡ max s b = omega (arith, h) in ap Some most

greater_assoc : (a b : Option ℕ) (t : ℕ) → greater (greater a b) (Some t) ≡ greater a (greater b (Some t))
greater_assoc None b t = refl
greater_assoc (Some a) None t = refl
greater_assoc (Some a) (Some b) t = let most : max (max a b) t ≡ max a (max b t) = omega arith in ap Some most

closed_fold : (a b : Option ℕ) (items : List Item) → RisesFrom (greater a b) items → fold closed_after (greater a b) items ≡ greater (closed_from a (entries_in items)) (fold greater_sealed b items)
unfolding closed_from
closed_fold a b [] h = refl
closed_fold a b (Applied mark e ∷ items) h =
    let same : greater (greater a b) (Some e.stamp) ≡ greater (Some e.stamp) b = above_both a b e.stamp h.0.0 in
    ap (λ (t : Option ℕ). fold closed_after t items) same ∙ closed_fold (Some e.stamp) b items (subst (λ (t : Option ℕ). RisesFrom t items) same h.1)
closed_fold a b (Sealed mark t ∷ items) h =
    let same : greater (greater a b) (Some t) ≡ greater a (greater b (Some t)) = greater_assoc a b t in
    ap (λ (t : Option ℕ). fold closed_after t items) same ∙ closed_fold a (greater b (Some t)) items (subst (λ (t : Option ℕ). RisesFrom t items) same h.1)

-- what is closed after the items is their closed time
pub closed_is : (items : List Item) → Rises items → fold closed_after None items ≡ closed_in items
closed_is items h = closed_fold None None items h ∙ ap (λ (t : Option ℕ). greater t (sealed_in items)) (sym (closed_last (entries_in items)))

-- ---- one item more

pub rises_more : (items : List Item) (item : Item) → Rises items → Follows (closed_in items) item → Rises (items ++ item ∷ [])
rises_more items item h k = rises_join None items (item ∷ []) h (subst (λ (t : Option ℕ). Follows t item) (sym (closed_is items h)) k, tt)

pub closed_more : (items : List Item) (item : Item) → Rises items → Follows (closed_in items) item → closed_after (closed_in items) item ≡ closed_in (items ++ item ∷ [])
closed_more items item h k =
    ap (λ (t : Option ℕ). closed_after t item) (sym (closed_is items h))
    ∙ sym (fold-append closed_after None items (item ∷ []))
    ∙ closed_is (items ++ item ∷ []) (rises_more items item h k)

-- what comes after some of the items may come where their closed time is closed
pub rises_after : (xs ys : List Item) → Rises (xs ++ ys) → RisesFrom (closed_in xs) ys
rises_after xs ys h = subst (λ (t : Option ℕ). RisesFrom t ys) (closed_is xs (rises_first None xs ys h)) (rises_later None xs ys h)

pub rises_take : (n : ℕ) (items : List Item) → Rises items → Rises (take n items)
rises_take n items h = rises_first None (take n items) (drop n items) (subst Rises (sym (take-append-drop n items)) h)

-- ---- the entries

-- all of them are stamped above the time
abbrev pub AllAbove : Option ℕ → List Entry → Type 0
AllAbove time es = (i : ℕ) (e : Entry) → nth es i ≡ Some e → above time ≤ e.stamp

not_less : (time : Option ℕ) (s : ℕ) → above time ≤ above (greater time (Some s))
not_less None s = omega arith
not_less (Some t) s = omega arith

over : (time : Option ℕ) (s n : ℕ) → above (greater time (Some s)) ≤ n → s < n
over None s n h = omega (arith, h)
over (Some t) s n h = omega (arith, h)

some_same : (d e : Entry) → Some d ≡ Some e → d.stamp ≡ e.stamp
some_same d e h = cc h

higher : (time : Option ℕ) (s : ℕ) (es : List Entry) → AllAbove (greater time (Some s)) es → AllAbove time es
higher time s es h i e at = let low : above time ≤ above (greater time (Some s)) = not_less time s in let high : above (greater time (Some s)) ≤ e.stamp = h i e at in omega (arith, low, high)

above_cons : (time : Option ℕ) (d : Entry) (es : List Entry) → above time ≤ d.stamp → AllAbove time es → AllAbove time (d ∷ es)
above_cons time d es h rest zero e at = absurd (cc at)
above_cons time d es h rest (suc zero) e at = let same : d.stamp ≡ e.stamp = some_same d e at in omega (arith, h, same)
above_cons time d es h rest (suc (suc i)) e at = rest (suc i) e at

instants_cons : (d : Entry) (es : List Entry) → d.stamp ≤ TIME_LAST → IsStamped es → (i : ℕ) (e : Entry) → nth (d ∷ es) i ≡ Some e → e.stamp ≤ TIME_LAST
instants_cons d es h rest zero e at = absurd (cc at)
instants_cons d es h rest (suc zero) e at = subst (λ (n : ℕ). n ≤ TIME_LAST) (some_same d e at) h
instants_cons d es h rest (suc (suc i)) e at = rest.instants (suc i) e at

rising_cons : (d : Entry) (es : List Entry) → ((i : ℕ) (e : Entry) → nth es i ≡ Some e → d.stamp < e.stamp) → IsStamped es → (i j : ℕ) (x y : Entry) → i < j → nth (d ∷ es) i ≡ Some x → nth (d ∷ es) j ≡ Some y → x.stamp < y.stamp
rising_cons d es h rest zero j x y less a b = absurd (cc a)
rising_cons d es h rest (suc i) zero x y less a b = absurd (omega (arith, less))
rising_cons d es h rest (suc zero) (suc zero) x y less a b = absurd (omega (arith, less))
rising_cons d es h rest (suc zero) (suc (suc j)) x y less a b = subst (λ (n : ℕ). n < y.stamp) (some_same d x a) (h (suc j) y b)
rising_cons d es h rest (suc (suc i)) (suc zero) x y less a b = absurd (omega (arith, less))
rising_cons d es h rest (suc (suc i)) (suc (suc j)) x y less a b = rest.rising (suc i) (suc j) x y (omega (arith, less)) a b

pub stamped_from : (time : Option ℕ) (items : List Item) → RisesFrom time items → IsStamped (entries_in items) × AllAbove time (entries_in items)
stamped_from time [] h = (record { instants = λ i e at. absurd (none_there i e at); rising = λ i j d e less a b. absurd (none_there i d a) }, λ i e at. absurd (none_there i e at))
  where
    none_there : (i : ℕ) (e : Entry) → nth [] i ≡ Some e → ⊥
    none_there zero e at = cc at
    none_there (suc i) e at = cc at
stamped_from time (Applied mark d ∷ items) h =
    let rest = stamped_from (greater time (Some d.stamp)) items h.1 in (
      record {
        instants = instants_cons d (entries_in items) h.0.1 rest.0;
        rising = rising_cons d (entries_in items) (λ i e at. over time d.stamp e.stamp (rest.1 i e at)) rest.0;
      },
      above_cons time d (entries_in items) h.0.0 (higher time d.stamp (entries_in items) rest.1),
    )
stamped_from time (Sealed mark t ∷ items) h =
    let rest = stamped_from (greater time (Some t)) items h.1 in (rest.0, higher time t (entries_in items) rest.1)

-- stamps rise in the entries
pub stamped : (items : List Item) → Rises items → IsStamped (entries_in items)
stamped items h = (stamped_from None items h).0

-- the entries that come after some of the items are stamped above the closed time of these
pub later_above : (xs ys : List Item) → Rises (xs ++ ys) → AllAbove (closed_in xs) (entries_in ys)
later_above xs ys h = (stamped_from (closed_in xs) ys (rises_after xs ys h)).1

-- ---- what is closed only rises

no_lower : (time : Option ℕ) (s : ℕ) (t : ℕ) → time ≡ Some t → (u : ℕ) × (greater time (Some s) ≡ Some u) × (t ≤ u)
no_lower None s t h = absurd (cc h)
no_lower (Some n) s t h = let same : n ≡ t = cc h in (max n s, refl, omega (arith, same))

pub closed_rises_from : (time : Option ℕ) (items : List Item) (t : ℕ) → time ≡ Some t → (u : ℕ) × (fold closed_after time items ≡ Some u) × (t ≤ u)
closed_rises_from time [] t h = (t, h, omega arith)
closed_rises_from time (Applied mark e ∷ items) t h =
    let one = no_lower time e.stamp t h in
    let rest = closed_rises_from (greater time (Some e.stamp)) items one.0 one.1 in
    (rest.0, rest.1, omega (arith, one.2, rest.2))
closed_rises_from time (Sealed mark s ∷ items) t h =
    let one = no_lower time s t h in
    let rest = closed_rises_from (greater time (Some s)) items one.0 one.1 in
    (rest.0, rest.1, omega (arith, one.2, rest.2))

-- the closed time of a longer list is not below that of its beginning
pub closed_rises : (xs ys : List Item) (t : ℕ) → Rises (xs ++ ys) → closed_in xs ≡ Some t → (u : ℕ) × (closed_in (xs ++ ys) ≡ Some u) × (t ≤ u)
closed_rises xs ys t h is =
    let first : fold closed_after None xs ≡ closed_in xs = closed_is xs (rises_first None xs ys h) in
    let more = closed_rises_from (fold closed_after None xs) ys t (first ∙ is) in
    (more.0, sym (closed_is (xs ++ ys) h) ∙ fold-append closed_after None xs ys ∙ more.1, more.2)
