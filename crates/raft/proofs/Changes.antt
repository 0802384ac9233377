-- What a step tells the keeper.
use Rattle.std.proofs.Common.{◌≡◌, ◌∙◌, ℕ, zero, suc, ◌-◌, ◌≤◌, Option, Some, None, List, [], ◌∷◌, ◌++◌, take, drop, length, refl, sym, ap, subst, arith, inl, inr}
use Rattle.std.proofs.lemmas.List.{take-append-drop, length-take}
use Rattle.model.specs.declared.entry.Entry.{Entry}
use Rattle.keep.specs.declared.change.Change.{Change}
use Rattle.raft.specs.declared.short_log.ShortLog.{ShortLog}
use Rattle.raft.specs.declared.state.Core.{Core}
use Rattle.raft.specs.Saved.{whole, IsSaved, Tells}
use Rattle.raft.specs.View.{hard_in, log_of, node_of, ChangeFits, IsNews, Reaches}
use Rattle.raft.proofs.Cuts.{cut_changes, cut_most}
use Rattle.raft.proofs.Windows.{length_of}

dropped_past : {A : Type 0} (xs ys : List A) (k n : ℕ) → length xs ≡ n → n ≤ k → drop k (xs ++ ys) ≡ drop (k - n) ys
dropped_past [] ys k zero e le = let none : k - 0 ≡ k = omega arith in rw none refl
dropped_past [] ys k (suc n) e le = absurd (omega (arith, e))
dropped_past (x ∷ xs) ys zero n e le = absurd (omega (arith, e, le))
dropped_past (x ∷ xs) ys (suc k) zero e le = absurd (omega (arith, e))
dropped_past (x ∷ xs) ys (suc k) (suc n) e le =
    let same : suc k - suc n ≡ k - n = omega arith in
    rw same (dropped_past xs ys k n (omega (arith, e)) (omega (arith, le)))

-- what is stored of a log, and what is not, are all its entries
pub whole_again : (l : ShortLog) (stored : List Entry) → l.elsewhere ≤ length stored → take l.saved (whole l stored) ++ drop (l.saved - l.elsewhere) l.tail.items ≡ whole l stored
whole_again l stored there =
    let rest : drop l.saved (whole l stored) ≡ drop (l.saved - l.elsewhere) l.tail.items = dropped_past (take l.elsewhere stored) l.tail.items l.saved l.elsewhere (omega (arith, length-take l.elsewhere stored, there)) l.saved_low in
    ap (λ (xs : List Entry). take l.saved (whole l stored) ++ xs) (sym rest) ∙ take-append-drop l.saved (whole l stored)

-- the change that the new log tells is the one that leads from the old node to the new
pub news_fits : (old new : Core) (stored : List Entry) (change : Option Change) → Reaches old stored → Reaches new stored → IsSaved old.log → Tells stored old.log new.log → IsNews new stored (hard_in old) change → ChangeFits (node_of old stored) (node_of new stored) change
news_fits old new stored None there near all (inl same) (saved, hard) = record { hard = hard; log = ap (λ (l : ShortLog). whole l stored) same }
news_fits old new stored None there near all (inr cut) (saved, hard) = absurd (omega (arith, cut.more, saved, length_of new stored near))
news_fits old new stored (Some c) there near all (inl same) (hard, kept, rest, other) =
    let log : log_of new stored ≡ log_of old stored = ap (λ (l : ShortLog). whole l stored) same in
    let saved : IsSaved new.log = subst (λ (l : ShortLog). IsSaved l) (sym same) all in
    let len : c.kept ≡ length (log_of old stored) = kept ∙ saved ∙ sym (length_of new stored near) ∙ ap length log in
    record {
      hard = hard;
      within = omega (arith, len);
      log = rw kept (ap (λ (xs : List Entry). take new.log.saved xs ++ c.entries.items) (sym log) ∙ rest);
      most = λ j inside alike. rw len inside;
      news = λ already. other saved already.hard;
    }
news_fits old new stored (Some c) there near all (inr cut) (hard, kept, rest, other) = record {
  hard = hard;
  within = rw kept cut.within;
  log = rw kept (ap (λ (xs : List Entry). xs ++ c.entries.items) (sym cut.begins) ∙ rest);
  most = λ j inside alike. rw kept (cut_most new.log.saved j (log_of old stored) (log_of new stored) cut inside alike);
  news = λ already. cut_changes new.log.saved (log_of old stored) (log_of new stored) cut already.log;
}
