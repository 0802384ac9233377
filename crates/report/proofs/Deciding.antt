-- What a run decides, event by event and member by member.
use Rattle.std.proofs.Common.{◌≡◌, ◌∙◌, ℕ, zero, suc, ◌+◌, ◌<◌, ◌≤◌, List, [], ◌∷◌, ◌++◌, length, get_or, take, drop, refl, ap, sym, arith, cond, true, false}
use Rattle.std.specs.Prelude.{replicate, nat_lt, None, Some, slice_get}
use Rattle.std.proofs.lemmas.List.{take_more, length-take-le, take-append-le, take-append-drop}
use Rattle.std.proofs.lemmas.Bool.Decides.{nat_tests}
use Rattle.std.proofs.Math.Seq.{take-append_seam}
use Rattle.model.specs.Agreement.{longer, longest, decided_from}
use Rattle.model.specs.Lists.{IsBeginning}
use Rattle.model.specs.Members.{Node, applied}
use Rattle.model.specs.Transactions.{Language}
use Rattle.model.specs.Worlds.{World, Event, happens, run, fresh}
use Rattle.model.specs.declared.entry.Entry.{Entry}

pub decided_more : (language : Language) (n : ℕ) (best : List Entry) (w : World) (es : List Event) (e : Event)
    → decided_from language n best w (es ++ e ∷ []) ≡ longest (decided_from language n best w es) (happens language n (run language n w es) e).nodes
decided_more language n best w [] e = refl
decided_more language n best w (x ∷ es) e = decided_more language n (longest best w.nodes) (happens language n w x) es e

pub none_longer : (n : ℕ) → longest [] (replicate n (fresh 0 None)) ≡ []
none_longer zero = refl
none_longer (suc n) = none_longer n

pub longest_more : (best : List Entry) (xs : List Node) (x : Node) → longest best (xs ++ x ∷ []) ≡ longer (longest best xs) (applied x)
longest_more best [] x = refl
longest_more best (y ∷ ys) x = longest_more (longer best (applied y)) ys x

pub longest_next : (best : List Entry) (xs : List Node) (k : ℕ) (x : Node) → k < length xs → x ≡ get_or xs k x
    → longest best (take (k + 1) xs) ≡ longer (longest best (take k xs)) (applied x)
longest_next best xs k x less is =
    ap (longest best) (take_more xs k x less ∙ ap (λ y. take k xs ++ y ∷ []) (sym is)) ∙ longest_more best (take k xs) x

-- a longer of two beginnings of one list is one
longer_begins : (whole best list : List Entry) → IsBeginning best whole → IsBeginning list whole → IsBeginning (longer best list) whole
longer_begins whole best list b l = elim (nat_lt (length best) (length list)) as (λ v. IsBeginning (cond v list best) whole) [ true ↦ l | false ↦ b ]

pub longest_begins : (whole best : List Entry) (xs : List Node) → IsBeginning best whole → ((k : ℕ) (x : Node) → slice_get xs k ≡ Some x → IsBeginning (applied x) whole)
    → IsBeginning (longest best xs) whole
longest_begins whole best [] b all = b
longest_begins whole best (x ∷ xs) b all = longest_begins whole (longer best (applied x)) xs (longer_begins whole best (applied x) b (all 0 x refl)) (λ k y e. all (suc k) y e)

-- a beginning is what stands in front of the whole
front : (some whole : List Entry) → IsBeginning some whole → some ≡ take (length some) whole
front some whole (rest, is) = sym (take-append_seam some rest) ∙ ap (take (length some)) is

pub longer_is : (best list : List Entry) → length best < length list → longer best list ≡ list
longer_is best list h = grind (arith, nat_tests)

pub longer_stays : (best list : List Entry) → length list ≤ length best → longer best list ≡ best
longer_stays best list h = grind (arith, nat_tests)

-- what a log has behind a beginning of what is applied of it, up to there
module _ (whole old log : List Entry) (commit : ℕ) (b : IsBeginning old whole) (l : IsBeginning (take commit log) whole) (less : length old < commit) (within : commit ≤ length log) where
  long : length (take commit log) ≡ commit
  long = length-take-le commit log within

  in_both : take (length old) (take commit log) ≡ old
  in_both =
      let short : length old ≤ length (take commit log) = omega (arith, long, less) in
      sym (take-append-le (length old) (take commit log) l.0 short) ∙ (ap (take (length old)) l.1 ∙ sym (front old whole b))

  pub filled_up : old ++ drop (length old) (take commit log) ≡ longer old (take commit log)
  filled_up =
      ap (λ x. x ++ drop (length old) (take commit log)) (sym in_both)
      ∙ (take-append-drop (length old) (take commit log)
      ∙ sym (longer_is old (take commit log) (omega (arith, long, less))))
