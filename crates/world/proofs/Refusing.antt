-- What an explanation excludes.
use Rattle.std.proofs.Common.{◌≡◌, ◌≢◌, ℕ, ◌<◌, ◌≤◌, ⊎_elim, Some, None, map, Contains, List, [], ◌∷◌, ◌++◌, length, refl, subst, arith, length-append}
use Rattle.std.specs.Prelude.{IsTrue}
use Rattle.std.proofs.Math.Logic.{∥∥₁_elim}
use mathlib.Core.HLevel.{⊥_prop}
use Rattle.model.specs.Lists.{nth}
use Rattle.model.specs.Transactions.{Language}
use Rattle.model.specs.Logs.{state_at}
use Rattle.model.specs.Tables.{Row, IsRow}
use Rattle.model.specs.Answers.{SystemTime, Select, Shown, Answer, IsAnswer, read_at}
use Rattle.model.specs.declared.entry.Told.{Told}
use Rattle.fault.specs.declared.refusal.Refusal.{Refusal}
use Rattle.model.specs.Worlds.{Event, Ask, Output}
use Rattle.model.specs.Worlds.Output.{Applied, Answered, Refused}
use Rattle.safety.proofs.Lists.{same_some}
use Rattle.safety.proofs.Unique.{one_answer}
use Rattle.believed.specs.Answers as now
use Rattle.believed.specs.Explained.{Explanation, Gave, IsAnswered, IsExplainedSo, IsUnstopped, Replies}
use Rattle.believed.specs.Logs.{told_at}
use Rattle.believed.specs.Logs as later
use Rattle.believed.proofs.GivesSame.{answer_before}

-- a list that is not empty has an element
some_more : (more : List Event) → more ≢ [] → 1 ≤ length more
some_more [] not = absurd (not refl)
some_more (e ∷ es) not = omega arith

pub nothing_given : (language : Language) (n : ℕ) (events more : List Event) (given : List (List Output)) → Explanation language n events given → more ≢ [] → IsExplainedSo language n (events ++ more) given → ⊥
nothing_given language n events more given x some y =
    ∥∥₁_elim y ⊥_prop (λ (z : Explanation language n (events ++ more) given).
    let a = x.each in
    let b = z.each in
    let c = length-append events more in
    let d = some_more more some in omega (arith, a, b, c, d))

not_empty : (given : List (List Output)) (k m : ℕ) → Replies given k m → nth given k ≡ Some [] → ⊥
not_empty given k m r e = ⊎_elim
    (λ (x : (a : Answer) × (nth given k ≡ Some (Answered m a ∷ []))). let h : Answered m x.0 ∷ [] ≡ [] = same_some (nth given k) (Answered m x.0 ∷ []) [] x.1 e in absurd (cc))
    (λ (x : (why : Refusal) × (nth given k ≡ Some (Refused m why ∷ []))). let h : Refused m x.0 ∷ [] ≡ [] = same_some (nth given k) (Refused m x.0 ∷ []) [] x.1 e in absurd (cc)) r

pub nothing_said : (language : Language) (n : ℕ) (events : List Event) (given : List (List Output)) (k m : ℕ) (q : Select) → IsExplainedSo language n events given → nth events k ≡ Some (Ask m q) → 1 ≤ m → m ≤ n → nth given k ≡ Some [] → ⊥
nothing_said language n events given k m q x at low high e = ∥∥₁_elim x ⊥_prop (λ (z : Explanation language n events given). not_empty given k m (z.replies k m q at low high) e)

pub one_outcome : (language : Language) (n : ℕ) (events : List Event) (given : List (List Output)) (j k l m : ℕ) (a b : Told) → Explanation language n events given → Gave given j (Applied l a) → Gave given k (Applied m b) → a.index ≡ b.index → a ≡ b
one_outcome language n events given j k l m a b x g h same =
    same_some (told_at language x.list b.index) a b (subst (λ i. told_at language x.list i ≡ Some a) same (x.explains.told j l a g)) (x.explains.told k m b h)

pub one_answer_each : (language : Language) (n : ℕ) (events : List Event) (given : List (List Output)) (j k l m : ℕ) (q : Select) (a b : Answer) → Explanation language n events given → IsAnswered events given j l q a → IsAnswered events given k m q b → a.last ≡ b.last → a ≡ b
one_answer_each language n events given j k l m q a b x g h same =
    let first : IsAnswer language (read_at b.last q) x.list a = answer_before language q b.last x.list a (subst (λ t. now.IsAnswer language q t x.list a) same (x.explains.answered j l q a g)) in
    let second : IsAnswer language (read_at b.last q) x.list b = answer_before language q b.last x.list b (x.explains.answered k m q b h) in
    one_answer (λ u. state_at language x.list u q.table) (read_at b.last q) a b first second

pub goes_back : (language : Language) (n : ℕ) (events : List Event) (given : List (List Output)) (j k m : ℕ) (q r : Select) (a b : Answer) → IsExplainedSo language n events given → j < k → IsUnstopped events m j k →
    IsAnswered events given j m q a → IsAnswered events given k m r b → r.time ≡ None → b.last < a.last → ⊥
goes_back language n events given j k m q r a b x l up g h none low = ∥∥₁_elim x ⊥_prop (λ (z : Explanation language n events given). let high = z.order.answered_then_asked j k m q r a b l up none g h in omega (arith, low, high))

pub fails_where : (language : Language) (n : ℕ) (events : List Event) (given : List (List Output)) (k m : ℕ) (q : Select) (a : Answer) (row : Row) → IsExplainedSo language n events given → IsAnswered events given k m q a →
    Contains (map (λ (s : Shown). s.row) a.rows) row → (IsTrue (q.passes row) → ⊥) → ⊥
fails_where language n events given k m q a row x h c not = ∥∥₁_elim x ⊥_prop (λ (z : Explanation language n events given). let A = z.explains.answered k m q a h in not ((A.rows row).0 c).0)

pub lacks_row : (language : Language) (n : ℕ) (events : List Event) (given : List (List Output)) (j k l m : ℕ) (q r : Select) (a b : Answer) (row : Row) → IsExplainedSo language n events given → IsAnswered events given j l q a → IsAnswered events given k m r b →
    q.table ≡ r.table → now.asked_at a.last q ≡ now.asked_at b.last r → Contains (map (λ (s : Shown). s.row) a.rows) row → IsTrue (r.passes row) → (Contains (map (λ (s : Shown). s.row) b.rows) row → ⊥) → ⊥
lacks_row language n events given j k l m q r a b row x g h table time c pass not = ∥∥₁_elim x ⊥_prop (λ (z : Explanation language n events given).
    let A = z.explains.answered j l q a g in
    let B = z.explains.answered k m r b h in
    let was : (u : ℕ) × ((now.asked_at a.last q).first ≤ u) × (u ≤ (now.asked_at a.last q).last) × IsRow (later.state_at language z.list u q.table) row = ((A.rows row).0 c).1 in
    let then : (u : ℕ) × ((now.asked_at b.last r).first ≤ u) × (u ≤ (now.asked_at b.last r).last) × IsRow (later.state_at language z.list u r.table) row =
    subst (λ t. (u : ℕ) × ((now.asked_at b.last r).first ≤ u) × (u ≤ (now.asked_at b.last r).last) × IsRow (later.state_at language z.list u t) row) table
    (subst (λ (t : SystemTime). (u : ℕ) × (t.first ≤ u) × (u ≤ t.last) × IsRow (later.state_at language z.list u q.table) row) time was) in
    not ((B.rows row).1 (pass, then)))

pub told_again : (language : Language) (n : ℕ) (events : List Event) (given : List (List Output)) (j k m : ℕ) (a b : Told) → IsExplainedSo language n events given → j < k → IsUnstopped events m j k →
    Gave given j (Applied m a) → Gave given k (Applied m b) → b.index ≤ a.index → ⊥
told_again language n events given j k m a b x l up g h low = ∥∥₁_elim x ⊥_prop (λ (z : Explanation language n events given). let high = z.order.told_then_told j k m a b l up g h in omega (arith, low, high))
