-- What stands in a block.
use Rattle.std.proofs.Common.{◌≡◌, ◌≢◌, ◌∙◌, ℕ, suc, ◌<◌, ◌≤◌, List, [], ◌∷◌, ◌++◌, length, get_or, take, drop, refl, sym, ap, arith, subst, length-append, append_assoc, inl, inr, Option, Some, None}
use Rattle.std.specs.Prelude.{decimal, All, IfSome}
use Rattle.std.specs.Str.{IsUtf8, IsCharBoundary, IsValidUpTo}
use Rattle.std.proofs.lemmas.Str.{IsCharBoundary-from_take}
use Rattle.std.proofs.lemmas.Fmt.{decimal_injective}
use Rattle.std.proofs.lemmas.List.{append_cancel_left, take-append-drop, take-take}
use Rattle.std.proofs.lemmas.List.Elements.{All-nil, All-push, All-head, All-tail}
use Rattle.flight.proofs.Lengths.{after_number}
use Rattle.std.proofs.Math.Seq.{take-append_seam}
use Rattle.flight.specs.Spelling.{number_text, ended}
use Rattle.flight.specs.Ranges.{IsNumber}
use Rattle.fault.specs.declared.refusal.Refusal.{Refusal}
use Rattle.fault.specs.declared.refusal.Refusal.TheVariants.{NoMemory, BadFlight}
use Rattle.flight.specs.Reading.{Lacks, IsUnread}
use Rattle.flight.proofs.Numbers.{decimal_lacks}
use Rattle.journal.specs.Parts.{opens_text, IsOpens}
use Rattle.journal.specs.Blocks.{sum_with, sum_after, IsBody, framed_text, block_text, HasNoBlock, blocks_text, last_sum, TornIsNone, EndsOnce}

later : (end c : ℕ) (cs : List ℕ) → Lacks end (c ∷ cs) → Lacks end cs
later end c cs lacks i within = lacks (suc i) (omega (arith, within))

-- words that lack what ends them
seam : (end : ℕ) (a b x y : List ℕ) → Lacks end a → Lacks end b → a ++ end ∷ x ≡ b ++ end ∷ y → (a ≡ b) × (x ≡ y)
seam end [] [] x y la lb e = (refl, ap (drop 1) e)
seam end [] (c ∷ cs) x y la lb e = absurd (lb 0 (omega arith) (sym (ap (λ l. get_or l 0 0) e)))
seam end (c ∷ cs) [] x y la lb e = absurd (la 0 (omega arith) (ap (λ l. get_or l 0 0) e))
seam end (c ∷ cs) (d ∷ ds) x y la lb e =
    let s = seam end cs ds x y (later end c cs la) (later end d ds lb) (ap (drop 1) e) in
    let first : c ≡ d = ap (λ l. get_or l 0 0) e in
    ((λ i. first i ∷ s.0 i), s.1)

pub number_same : (end a b : ℕ) (x y : List ℕ) → end < 48 → IsNumber a → IsNumber b → number_text end a x ≡ number_text end b y → (a ≡ b) × (x ≡ y)
number_same end a b x y low small_a small_b e =
    let s = seam end (decimal a) (decimal b) x y (decimal_lacks end a small_a low) (decimal_lacks end b small_b low) e in
    (decimal_injective a b small_a small_b s.0, s.1)

same_front : (a b x y : List ℕ) → length a ≡ length b → a ++ x ≡ b ++ y → a ≡ b
same_front a b x y long e = sym (take-append_seam a x) ∙ ap (take (length a)) e ∙ ap (λ n. take n (b ++ y)) long ∙ take-append_seam b y

pub framed_same : (s t : ℕ) (a b x y : List ℕ) → IsNumber s → IsNumber t → IsNumber (length a) → IsNumber (length b) → framed_text s a x ≡ framed_text t b y
    → (s ≡ t) × (a ≡ b) × (x ≡ y)
framed_same s t a b x y small_s small_t small_a small_b e =
    let first = number_same 32 (length a) (length b) (ended s (a ++ x)) (ended t (b ++ y)) (omega arith) small_a small_b e in
    let second = number_same 10 s t (a ++ x) (b ++ y) (omega arith) small_s small_t first.1 in
    let front = same_front a b x y first.0 second.1 in
    (second.0, front, append_cancel_left a x y (second.1 ∙ ap (λ l. l ++ y) (sym front)))

pub sum_small : (before : ℕ) (bytes : List ℕ) → IsNumber before → IsNumber (sum_after before bytes)
sum_small before [] small = small
sum_small before (b ∷ bs) small = sum_small (sum_with before b) bs (omega arith)

-- a text may be cut behind a body
pub body_ends : (text body rest : List ℕ) → IsUtf8 text → IsUtf8 body → text ≡ body ++ rest → IsCharBoundary text (length body)
body_ends text body rest whole utf8 e =
    let within : length body ≤ length text = omega (arith, ap length e, length-append body rest) in
    IsCharBoundary-from_take text (length body) whole within (subst IsUtf8 (sym (ap (take (length body)) e ∙ take-append_seam body rest)) utf8)

-- the longest text
not_longer : (bytes : List ℕ) (n : ℕ) → IsValidUpTo bytes n → (front : List ℕ) → IsUtf8 front → take (length front) bytes ≡ front → length front ≤ n
not_longer bytes n up front utf8 first =
    let none : n < length front → ⊥ = λ more. up.longest (length front) more (subst IsUtf8 (sym first) utf8) in
    omega (arith, none)

pub longest_text : (bytes : List ℕ) (n : ℕ) → IsValidUpTo bytes n → (front torn : List ℕ) → IsUtf8 front → bytes ≡ front ++ torn → (more : List ℕ) × (take n bytes ≡ front ++ more)
longest_text bytes n up front torn utf8 e =
    let first : take (length front) bytes ≡ front = ap (take (length front)) e ∙ take-append_seam front torn in
    let within : length front ≤ n = not_longer bytes n up front utf8 first in (
      drop (length front) (take n bytes),
      sym (take-append-drop (length front) (take n bytes)) ∙ ap (λ l. l ++ drop (length front) (take n bytes)) (take-take (length front) n bytes within ∙ first),
    )

-- ---- blocks one after the other

all_first : {A : Type 0} (Is : A → Type 0) (x : A) (xs : List A) → All Is (x ∷ xs) → Is x × All Is xs
all_first Is x xs h = (All-head Is x xs h, All-tail Is x xs h)

pub if_some : {A : Type 0} (r : Option A) (F G : A → Type 0) → IfSome r F → ((a : A) → F a → G a) → IfSome r G
if_some (Some a) F G f map = map a f
if_some None F G f map = tt

append_none : (a b : List ℕ) → a ++ b ≡ [] → b ≡ []
append_none [] b e = e
append_none (c ∷ cs) b e = absurd (omega (arith, ap length e))

pub last_push : (before : ℕ) (bodies : List (List ℕ)) (body : List ℕ) → last_sum before (bodies ++ body ∷ []) ≡ sum_after (last_sum before bodies) body
last_push before [] body = refl
last_push before (b ∷ bs) body = last_push (sum_after before b) bs body

pub blocks_push : (before : ℕ) (bodies : List (List ℕ)) (body rest : List ℕ) → blocks_text before (bodies ++ body ∷ []) rest ≡ blocks_text before bodies (block_text (last_sum before bodies) body rest)
blocks_push before [] body rest = refl
blocks_push before (b ∷ bs) body rest = ap (block_text before b) (blocks_push (sum_after before b) bs body rest)

pub block_longer : (before : ℕ) (body rest : List ℕ) → length rest < length (block_text before body rest)
block_longer before body rest =
    let first = after_number 32 (length body) (ended (sum_after before body) (body ++ rest)) in
    let second = after_number 10 (sum_after before body) (body ++ rest) in
    omega (arith, first, second, length-append body rest)

-- what is so after some blocks
abbrev pub WholeSoFar : ℕ → List ℕ → ℕ → List ℕ → Type 0
WholeSoFar before text sum rest = (bodies : List (List ℕ)) × All IsBody bodies × (text ≡ blocks_text before bodies rest) × (sum ≡ last_sum before bodies)

pub whole_none : (before : ℕ) (text : List ℕ) → WholeSoFar before text before text
whole_none before text = ([], All-nil IsBody, refl, refl)

pub whole_more : (before : ℕ) (text : List ℕ) (sum : ℕ) (rest body left : List ℕ) (next : ℕ) → WholeSoFar before text sum rest → IsBody body → rest ≡ block_text sum body left
    → next ≡ sum_after sum body → WholeSoFar before text next left
whole_more before text sum rest body left next w is e n = (
  w.0 ++ body ∷ [],
  All-push IsBody w.0 body w.1 is,
  w.2 ∙ ap (blocks_text before w.0) (e ∙ ap (λ s. block_text s body left) w.3) ∙ sym (blocks_push before w.0 body left),
  n ∙ ap (λ s. sum_after s body) w.3 ∙ sym (last_push before w.0 body),
)

pub block_same : (before : ℕ) (a b x y : List ℕ) → IsNumber before → IsBody a → IsBody b → block_text before a x ≡ block_text before b y → (a ≡ b) × (x ≡ y)
block_same before a b x y small is_a is_b e =
    let s = framed_same (sum_after before a) (sum_after before b) a b x y (sum_small before a small) (sum_small before b small) is_a.2 is_b.2 e in (s.1, s.2)

block_then : (before : ℕ) (body rest back : List ℕ) → block_text before body rest ++ back ≡ block_text before body (rest ++ back)
block_then before body rest back =
    append_assoc (decimal (length body)) _ back
    ∙ ap (λ l. decimal (length body) ++ 32 ∷ l) (append_assoc (decimal (sum_after before body)) _ back ∙ ap (λ l. decimal (sum_after before body) ++ 10 ∷ l) (append_assoc body rest back))

pub torn_is_none : TornIsNone
torn_is_none before body front back small is e some = λ other rest is_other f.
    let g : block_text before other (rest ++ back) ≡ block_text before body [] = sym (block_then before other rest back) ∙ ap (λ l. l ++ back) (sym f) ∙ e in
    let s = block_same before other body (rest ++ back) [] small is_other is g in
    some (append_none rest back s.1)

pub ends_once : EndsOnce
ends_once before text [] [] sum total rest left small a b = (refl, a.2 ∙ sym b.2, sym a.1 ∙ b.1)
ends_once before text [] (o ∷ os) sum total rest left small a b =
    let over : HasNoBlock before rest = subst (λ n. HasNoBlock n rest) a.2 a.3 in
    absurd (over o (blocks_text (sum_after before o) os left) (all_first IsBody o os b.0).0 (sym a.1 ∙ b.1))
ends_once before text (s ∷ ss) [] sum total rest left small a b =
    let over : HasNoBlock before left = subst (λ n. HasNoBlock n left) b.2 b.3 in
    absurd (over s (blocks_text (sum_after before s) ss rest) (all_first IsBody s ss a.0).0 (sym b.1 ∙ a.1))
ends_once before text (s ∷ ss) (o ∷ os) sum total rest left small a b =
    let is_s = all_first IsBody s ss a.0 in
    let is_o = all_first IsBody o os b.0 in
    let same = block_same before s o (blocks_text (sum_after before s) ss rest) (blocks_text (sum_after before o) os left) small is_s.0 is_o.0 (sym a.1 ∙ b.1) in
    let further = ends_once (sum_after before s) (blocks_text (sum_after before s) ss rest) ss os sum total rest left (sum_small before s small) (is_s.1, refl, a.2, a.3)
    (is_o.1, same.1 ∙ ap (λ w. blocks_text (sum_after before w) os left) (sym same.0), b.2 ∙ ap (λ w. last_sum (sum_after before w) os) (sym same.0), b.3) in
    ((λ i. same.0 i ∷ further.0 i), further.1, further.2)

-- ---- the line that opens a journal

no_memory : NoMemory ≢ BadFlight
no_memory e = absurd (cc e)

pub unread_none : (r : Refusal) (text : List ℕ) (o : ℕ × ℕ × ℕ) (rest : List ℕ) → IsUnread IsOpens opens_text text r → r ≡ BadFlight → IsOpens o → text ≢ opens_text o rest
unread_none r text o rest (inl memory) bad is e = no_memory (sym memory ∙ bad)
unread_none r text o rest (inr (bad', none)) bad is e = none o rest is e
