-- What is stamped later changes nothing at an instant before.
use Rattle.std.proofs.Common.{◌≡◌, ℕ, suc, ◌+◌, ◌<◌, ◌≤◌, List, ◌++◌, length, slice_get, Option, Some, None, reverse, sym, ap, ◌∙◌, subst, arith, ◌↔◌}
use Rattle.std.proofs.lemmas.List.Elements.{All-weaker}
use Rattle.model.specs.Lists.{nth}
use Rattle.model.specs.Tables.{Table, Row, IsRow}
use Rattle.model.specs.Transactions.{Language, State}
use Rattle.model.specs.declared.entry.Entry.{Entry}
use Rattle.model.specs.Logs.{state_at, state_after, closed, IsStamped}
use Rattle.model.specs.Answers.{Query, Answer, Shown, IsAnswer, IsAnswerOver, IsAsked, IsShownEnd}
use Rattle.safety.proofs.Lists.{get_append_right, Rising}
use Rattle.safety.proofs.Accepted.{Later, later_from, up_to_later}
use Rattle.safety.proofs.Runs.{past_closed, rising_stamped}

later_rest : (w t : ℕ) (list rest : List Entry) → Rising (list ++ rest) → closed list ≡ Some t → w ≤ t → Later w rest
later_rest w t list rest R c h = later_from w rest (λ i e p. at i e p)
  where
    at : (i : ℕ) (e : Entry) → slice_get rest i ≡ Some e → w < e.stamp
    at i e p = let l : t < e.stamp = past_closed list rest R t c (suc (length list + i)) e (omega arith) (get_append_right list rest i ∙ p) in omega arith

-- the state at an instant is the same for every longer list in which all that comes later is stamped above it
pub same_state : (language : Language) (w : ℕ) (list rest : List Entry) → Later w rest → state_at language (list ++ rest) w ≡ state_at language list w
unfolding state_at
same_state language w list rest l = ap (λ es. state_after language (reverse es)) (up_to_later w list rest l)

-- two histories that agree up to the last instant of a query have the same answers
asked_over : (old new : ℕ → Table) (q : Query) (row : Row) → ((w : ℕ) → w ≤ q.time.last → old w ≡ new w) → IsAsked old q row → IsAsked new q row
asked_over old new q row same h = let at = h.1 in (h.0, (at.0, at.1, subst (λ t. IsRow t row) (same at.0 at.1.1) at.2))

end_over : (old new : ℕ → Table) (last : ℕ) (row : Row) (end : Option ℕ) → ((w : ℕ) → w ≤ last → old w ≡ new w) → IsShownEnd old last row end → IsShownEnd new last row end
end_over old new last row (Some end) same h =
    (h.0, h.1, (λ r. h.2 (subst (λ t. IsRow t row) (sym (same end h.1)) r)), (λ w a b. subst (λ t. IsRow t row) (same w (omega (arith, h.1))) (h.3 w a b)))
end_over old new last row None same h = λ w a b. subst (λ t. IsRow t row) (same w b) (h w a b)

answer_over : (old new : ℕ → Table) (q : Query) (a : Answer) → ((w : ℕ) → w ≤ q.time.last → old w ≡ new w) → IsAnswerOver old q a → IsAnswerOver new q a
answer_over old new q a same h = record {
  last = h.last;
  order = h.order;
  rows = λ row. ((λ c. asked_over old new q row same ((h.rows row).0 c)), (λ k. (h.rows row).1 (asked_over new old q row (λ w b. sym (same w b)) k)));
  ends = All-weaker (λ (s : Shown). IsShownEnd old (q.time.last) s.row s.end) (λ (s : Shown). IsShownEnd new (q.time.last) s.row s.end) (λ s e. end_over old new (q.time.last) s.row s.end same e) a.rows h.ends;
}

-- an answer to a query is its answer in every longer list in which all that comes later is stamped above its instants
pub late_answer : (language : Language) (q : Query) (list rest : List Entry) (a : Answer) → ((w : ℕ) → w ≤ q.time.last → Later w rest) → IsAnswer language q list a ↔ IsAnswer language q (list ++ rest) a
late_answer language q list rest a l =
    let table : List Entry → ℕ → Table = λ es w. state_at language es w q.table in
    let same : (w : ℕ) → w ≤ q.time.last → table (list ++ rest) w ≡ table list w = λ w b. ap (λ (x : State). x q.table) (same_state language w list rest (l w b)) in
    (answer_over (table list) (table (list ++ rest)) q a (λ w b. sym (same w b)), answer_over (table (list ++ rest)) (table list) q a same)

-- an answer to a query that is closed in a list is its answer in every longer one
pub however_late : (language : Language) (q : Query) (t : ℕ) (list rest : List Entry) (a : Answer) → IsStamped (list ++ rest) → closed list ≡ Some t → q.time.last ≤ t →
    IsAnswer language q list a ↔ IsAnswer language q (list ++ rest) a
however_late language q t list rest a s c l = late_answer language q list rest a (λ w b. later_rest w t list rest (rising_stamped (list ++ rest) s) c (omega arith))

-- the same where what comes later is known by its index
pub late_after : (language : Language) (q : Query) (t : ℕ) (list rest : List Entry) (a : Answer) → ((i : ℕ) (e : Entry) → length list < i → nth (list ++ rest) i ≡ Some e → t < e.stamp) → q.time.last ≤ t →
    IsAnswer language q list a ↔ IsAnswer language q (list ++ rest) a
late_after language q t list rest a above l = late_answer language q list rest a (λ w b. later_from w rest (λ i e p.
    (let h : t < e.stamp = above (suc (length list + i)) e (omega arith) (get_append_right list rest i ∙ p) in omega arith)))
