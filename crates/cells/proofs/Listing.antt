-- Items that may not come after what was appended before.
use Rattle.std.proofs.Common.{◌≡◌, ◌∙◌, ℕ, zero, suc, ◌<◌, get_or, refl, arith, Option, List, [], ◌∷◌, ◌++◌, length, take, drop, sym, ap, subst, inl, inr, ⊎_elim, append_assoc}
use Rattle.std.proofs.lemmas.List.{take-append-drop}
use Rattle.keep.specs.declared.error.StoreError.{StoreError}
use Rattle.keep.specs.declared.error.StoreError.TheVariants.{BadStore}
use Rattle.model.specs.declared.entry.Entry.{Entry}
use Rattle.history.specs.declared.item.Item.{Item}
use Rattle.history.specs.declared.item.Item.TheVariants.{Applied}
use Rattle.history.specs.Items.{Rises, Follows, closed_in}
use Rattle.history.proofs.Rising.{rises_first, rises_after}
use Rattle.model.specs.Members.{Node}
use Rattle.model.specs.Kept.{node_after}
use Rattle.sqlchecks.specs.Columns.{Tables}
use Rattle.node.specs.declared.node.Out.{Out}
use Rattle.node.specs.View.{IsGiven, risen, works}
use Rattle.node.specs.Work.{Work}
use Rattle.std.specs.List.{slice_range}
use Rattle.node.specs.declared.node.Fault.TheVariants.{Down}
use Rattle.cells.specs.Feeds.{HasCauseOrOrder}
use Rattle.cells.specs.Publishing.{marked, marked_seal, items_by, IsUnlisted}

-- one that may not come after the list
pub no_follower : (before : List Item) (item : Item) → (Follows (closed_in before) item → ⊥) → Rises (before ++ item ∷ []) → ⊥
no_follower before item not h = not (rises_after before (item ∷ []) h).0

-- what may not come still may not come where more comes with it
pub unlisted_more : (before some more all : List Item) (e : StoreError) → all ≡ some ++ more → IsUnlisted before some e → IsUnlisted before all e
unlisted_more before some more all e is h =
    ⊎_elim inl (λ (w : _ × (Rises (before ++ some) → ⊥)). inr (w.0, λ (r : Rises (before ++ all)). w.1 (rises_first _ (before ++ some) more (subst Rises (ap (λ (xs : List Item). before ++ xs) is ∙ sym (append_assoc before some more)) r)))) h

-- nor where it came later
pub unlisted_later : (shown waits waits' some more all : List Item) (e : StoreError) → waits' ≡ waits ++ some → all ≡ some ++ more → IsUnlisted (shown ++ waits') more e → IsUnlisted (shown ++ waits) all e
unlisted_later shown waits waits' some more all e was is h =
    let parts : (shown ++ waits) ++ all ≡ (shown ++ waits') ++ more = ap (λ (xs : List Item). (shown ++ waits) ++ xs) is ∙ sym (append_assoc (shown ++ waits) some more) ∙ ap (λ (xs : List Item). xs ++ more) (append_assoc shown waits some ∙ ap (λ (xs : List Item). shown ++ xs) (sym was)) in
    ⊎_elim inl (λ (w : _ × (Rises ((shown ++ waits') ++ more) → ⊥)). inr (w.0, λ (r : Rises ((shown ++ waits) ++ all)). w.1 (subst Rises parts r))) h

-- one entry of a step's
pub unlisted_one : (before : List Item) (item : Item) → (Follows (closed_in before) item → ⊥) → IsUnlisted before (item ∷ []) BadStore
unlisted_one before item not = inr (refl, no_follower before item not)

marked_join : (mark : ℕ) (xs ys : List Entry) → marked mark (xs ++ ys) ≡ marked mark xs ++ marked mark ys
marked_join mark [] ys = refl
marked_join mark (x ∷ xs) ys = ap (λ (zs : List Item). Applied mark x ∷ zs) (marked_join mark xs ys)

dropped : (xs : List Entry) (k : ℕ) (x : Entry) → k < length xs → x ≡ get_or xs k x → drop k xs ≡ x ∷ drop (suc k) xs
dropped [] k x h e = absurd (omega (arith, h))
dropped (y ∷ xs) zero x h e = ap (λ (z : Entry). z ∷ xs) (sym e)
dropped (y ∷ xs) (suc k) x h e = dropped xs k x (omega (arith, h)) e

pub unlisted_entry : (shown shown' waits waits' : List Item) (mark : ℕ) (entries : List Entry) (k : ℕ) (read entry : Entry) (e : StoreError) → k < length entries → read ≡ get_or entries k read → entry ≡ read
    → shown' ≡ shown → waits' ≡ waits ++ marked mark (take k entries) → IsUnlisted (shown' ++ waits') (Applied mark entry ∷ []) e → IsUnlisted (shown ++ waits) (marked mark entries) e
unlisted_entry shown shown' waits waits' mark entries k read entry e within there copied same was h =
    let rest : drop k entries ≡ entry ∷ drop (suc k) entries = dropped entries k read within there ∙ ap (λ (z : Entry). z ∷ drop (suc k) entries) (sym copied) in
    let more : IsUnlisted (shown ++ waits') (marked mark (drop k entries)) e =
    unlisted_more (shown ++ waits') (Applied mark entry ∷ []) (marked mark (drop (suc k) entries)) (marked mark (drop k entries)) e (ap (marked mark) rest) (subst (λ (xs : List Item). IsUnlisted (xs ++ waits') (Applied mark entry ∷ []) e) same h) in
    unlisted_later shown waits waits' (marked mark (take k entries)) (marked mark (drop k entries)) (marked mark entries) e was (ap (marked mark) (sym (take-append-drop k entries)) ∙ marked_join mark (take k entries) (drop k entries)) more

-- the entries of a step, with what becomes sealed
pub unlisted_sealed : (before seal : List Item) (mark : ℕ) (entries read : List Entry) (e : StoreError) → read ≡ entries → IsUnlisted before (marked mark read) e → IsUnlisted before (marked mark entries ++ seal) e
unlisted_sealed before seal mark entries read e is h = unlisted_more before (marked mark entries) seal (marked mark entries ++ seal) e refl (subst (λ (xs : List Entry). IsUnlisted before (marked mark xs) e) is h)

-- ---- what goes down for it

-- the member after a step that gave something
pub given_after : (x : Node) (schema : Tables) (n me : ℕ) (w v : Work) (y : Node) (out : Out) → w ≡ v → IsGiven x y (works schema n me w x) out → node_after x (works schema n me v x) ≡ y
given_after x schema n me w v y out is gave = subst (λ (u : Work). node_after x (works schema n me u x) ≡ y) is (⊎_elim (λ moved. ap (node_after x) (sym moved)) (λ ignored. ap (node_after x) (sym ignored.0) ∙ sym ignored.1) gave)

-- where stamps rise in what a life and a step make applied and sealed, they rise in what was published and pending with what is to be appended
pub in_order : (shown waits items : List Item) (mark : ℕ) (x y z : Node) (entries : List Entry) (sealed : Option ℕ) → shown ++ waits ≡ items → z ≡ y → entries ≡ slice_range y.log x.commit y.commit → sealed ≡ risen x.sealed y.sealed
    → Rises (items ++ items_by mark x z) → Rises ((shown ++ waits) ++ (marked mark entries ++ marked_seal mark sealed))
in_order shown waits items mark x y z entries sealed was is listed time rises =
    let same : items ++ items_by mark x z ≡ (shown ++ waits) ++ (marked mark entries ++ marked_seal mark sealed) =
    ap (λ (v : Node). items ++ items_by mark x v) is
    ∙ ap (λ (xs : List Item). xs ++ items_by mark x y) (sym was)
    ∙ ap (λ (es : List Entry). (shown ++ waits) ++ (marked mark es ++ marked_seal mark (risen x.sealed y.sealed))) (sym listed)
    ∙ ap (λ (t : Option ℕ). (shown ++ waits) ++ (marked mark entries ++ marked_seal mark t)) (sym time) in
    subst Rises same rises

-- so a cell goes down for want of memory, or because they do not
pub goes_down : (before more : List Item) (error : StoreError) (honest rises : Type 0) (failed failed' : ℕ) → IsUnlisted before more error → (honest → rises → Rises (before ++ more)) → HasCauseOrOrder honest failed failed' rises (Down error)
goes_down before more error honest rises failed failed' (inl no_memory) order = inl (inl (inl no_memory))
goes_down before more error honest rises failed failed' (inr w) order = inr (w.0, λ h r. w.1 (order h r))
