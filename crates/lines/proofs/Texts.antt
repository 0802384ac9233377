-- Each line in range has a text of its own.
use Rattle.std.proofs.Common.{◌≡◌, ◌≢◌, ◌∙◌, ◌^◌, ◌<◌, ℕ, ℤ, pos, negsuc, true, false, List, [], ◌∷◌, ◌++◌, get_or, drop, refl, sym, ap, arith, eq-eqb, Some, None}
use Rattle.std.specs.Prelude.{All, map, ◌==◌, codes, decimal}
use Rattle.std.specs.Fmt.{signed_decimal}
use Rattle.std.specs.Int.{IsInRange as IsBetween}
use Rattle.std.proofs.lemmas.List.Elements.{All-head, All-tail}
use Rattle.std.proofs.lemmas.Str.Parse.{not_in_digits}
use Rattle.std.proofs.lemmas.Fmt.{digits_decimal, decimal_injective, decimal_nonempty, signed_decimal_injective}
use lib.Signed.{mag}
use Rattle.lines.proofs.Numbers.{own}
use Rattle.lines.proofs.Lines.{kind, same_split, decimal_no_space, left_no_space, all_no_space}
use Rattle.model.specs.declared.event.Left.{Left}
use Rattle.model.specs.declared.event.Left.TheVariants.{Old, New}
use Rattle.lines.specs.declared.line.TornJob.{TornJob}
use Rattle.lines.specs.declared.line.TornJob.TheVariants as jobs
use Rattle.lines.specs.declared.line.Line.{Line}
use Rattle.lines.specs.declared.line.Line.TheVariants.{Clock, ClockAll, Submit, Timeout, Beat, Close, Floor, Deliver, Lose, LoseAll, Settle, Recover, Stop, Start, Torn, Ask}
use Rattle.lines.specs.Number.{IsSigned}
use Rattle.lines.specs.Line.{left_text, request_text, job_text, line_text, IsNode, IsRequest, IsJobInRange, IsInRange}

-- ---- numbers

signed_small : (z : ℤ) → IsSigned z → mag z < 2 ^ 63
signed_small (pos n) h = h
signed_small (negsuc n) h = h

same_reading : (y z : ℤ) → IsSigned y → IsSigned z → signed_decimal y ≡ signed_decimal z → y ≡ z
same_reading y z h k e = signed_decimal_injective y z (signed_small y h) (signed_small z k) e

numbered : (m n : ℕ) (rest rest' : List ℕ) → m < 2 ^ 64 → n < 2 ^ 64 → decimal m ++ 32 ∷ rest ≡ decimal n ++ 32 ∷ rest' → (m ≡ n) × (rest ≡ rest')
numbered m n rest rest' h k e =
    let s = same_split (decimal m) (decimal n) rest rest' (decimal_no_space m h) (decimal_no_space n k) e in
    (decimal_injective m n h k s.0, s.1)

-- no number is spelled `all`, which begins with 97
not_all : (n : ℕ) → n < 2 ^ 64 → decimal n ≢ codes "all"
not_all n small e =
    let digit : ¬ IsBetween 48 57 97 = λ h. absurd (omega arith) in
    not_in_digits own (decimal n) 97 (digits_decimal own n small) digit 0 (decimal_nonempty n small) (ap (λ l. get_or l 0 0) e)

-- ---- requests and steps that are cut short

same_request : (c c' k k' : ℕ) (t t' : List ℕ) → IsRequest c k → IsRequest c' k' → request_text c k t ≡ request_text c' k' t' → (c ≡ c') × (k ≡ k') × (t ≡ t')
same_request c c' k k' t t' h h' e =
    let s = numbered c c' (decimal k ++ 32 ∷ t) (decimal k' ++ 32 ∷ t') (omega (arith, h.1)) (omega (arith, h'.1)) e in
    let r = numbered k k' t t' (omega (arith, h.3)) (omega (arith, h'.3)) s.1 in
    (s.0, r.0, r.1)

-- texts that begin with other bytes differ
first_apart : (t u : List ℕ) → (get_or t 0 0 == get_or u 0 0) ≡ false → t ≢ u
first_apart t u differ e = let both : true ≡ false = sym (eq-eqb (get_or t 0 0) (get_or u 0 0) (ap (λ l. get_or l 0 0) e)) ∙ differ in cc

same_left : (left left' : Left) → left_text left ≡ left_text left' → left ≡ left'
same_left Old Old e = refl
same_left New New e = refl
same_left left left' e = absurd (first_apart (left_text left) (left_text left') refl e)

same_job : (a b : TornJob) → IsJobInRange a → IsJobInRange b → job_text a ≡ job_text b → a ≡ b
same_job jobs.Timeout jobs.Timeout h k e = refl
same_job jobs.Beat jobs.Beat h k e = refl
same_job jobs.Close jobs.Close h k e = refl
same_job jobs.Floor jobs.Floor h k e = refl
same_job (jobs.Submit c n t) (jobs.Submit c' n' t') h k e = let s = same_request c c' n n' t t' h k (ap (drop 7) e) in λ i. jobs.Submit (s.0 i) (s.1 i) (s.2 i)
same_job (jobs.Deliver m) (jobs.Deliver m') h k e = ap jobs.Deliver (decimal_injective m m' h k (ap (drop 8) e))
same_job a b h k e = absurd (first_apart (job_text a) (job_text b) refl e)

-- ---- lines

nothing_more : (rest : List ℕ) → [] ≢ 32 ∷ rest
nothing_more rest e = cc

-- the first four bytes of a line's text, as a number
abbrev kind_of : Line → ℕ
kind_of (Clock n z) = kind (codes "cloc")
kind_of (ClockAll z) = kind (codes "cloc")
kind_of (Submit n c k t) = kind (codes "subm")
kind_of (Timeout n) = kind (codes "time")
kind_of (Beat n) = kind (codes "beat")
kind_of (Close n) = kind (codes "clos")
kind_of (Floor n) = kind (codes "floo")
kind_of (Deliver m) = kind (codes "deli")
kind_of (Lose m) = kind (codes "lose")
kind_of LoseAll = kind (codes "lose")
kind_of (Settle r) = kind (codes "sett")
kind_of Recover = kind (codes "reco")
kind_of (Stop n) = kind (codes "stop")
kind_of (Start n) = kind (codes "star")
kind_of (Torn n left job) = kind (codes "torn")
kind_of (Ask n t) = kind (codes "ask ")

kind_is : (line : Line) → kind (line_text line) ≡ kind_of line
kind_is (Settle None) = refl
kind_is (Settle (Some r)) = refl
kind_is line = refl

apart : (a b : Line) → (kind_of a == kind_of b) ≡ false → line_text a ≢ line_text b
apart a b differ e = let both : true ≡ false = sym (eq-eqb (kind_of a) (kind_of b) (sym (kind_is a) ∙ ap kind e ∙ kind_is b)) ∙ differ in cc

module _ (members : ℕ) (few : members < 2 ^ 64) where
  node_small : (n : ℕ) → IsNode members n → n < 2 ^ 64
  node_small n h = omega (arith, few, h.1)

  same_node : (n n' : ℕ) → IsNode members n → IsNode members n' → decimal n ≡ decimal n' → n ≡ n'
  same_node n n' h k e = decimal_injective n n' (node_small n h) (node_small n' k) e

  at_node : (n n' : ℕ) (rest rest' : List ℕ) → IsNode members n → IsNode members n' → decimal n ++ 32 ∷ rest ≡ decimal n' ++ 32 ∷ rest' → (n ≡ n') × (rest ≡ rest')
  at_node n n' rest rest' h k e = numbered n n' rest rest' (node_small n h) (node_small n' k) e

  clock_or_all : (n : ℕ) (y z : ℤ) → IsNode members n → decimal n ++ 32 ∷ signed_decimal y ≢ codes "all" ++ 32 ∷ signed_decimal z
  clock_or_all n y z h e = not_all n (node_small n h) (same_split (decimal n) (codes "all") (signed_decimal y) (signed_decimal z) (decimal_no_space n (node_small n h)) all_no_space e).0

  pub same_line : (a b : Line) → IsInRange members a → IsInRange members b → line_text a ≡ line_text b → a ≡ b
  same_line (Clock n y) (Clock n' z) h k e = let s = at_node n n' (signed_decimal y) (signed_decimal z) h.0 k.0 (ap (drop 6) e) in let r = same_reading y z h.1 k.1 s.1 in λ i. Clock (s.0 i) (r i)
  same_line (ClockAll y) (ClockAll z) h k e = ap ClockAll (same_reading y z h k (ap (drop 10) e))
  same_line (Clock n y) (ClockAll z) h k e = absurd (clock_or_all n y z h.0 (ap (drop 6) e))
  same_line (ClockAll y) (Clock n z) h k e = absurd (clock_or_all n z y k.0 (ap (drop 6) (sym e)))
  same_line (Submit n c q t) (Submit n' c' q' t') h k e =
      let s = at_node n n' (request_text c q t) (request_text c' q' t') h.0 k.0 (ap (drop 7) e) in
      let r = same_request c c' q q' t t' h.1 k.1 s.1 in
      λ i. Submit (s.0 i) (r.0 i) (r.1 i) (r.2 i)
  same_line (Timeout n) (Timeout n') h k e = ap Timeout (same_node n n' h k (ap (drop 8) e))
  same_line (Beat n) (Beat n') h k e = ap Beat (same_node n n' h k (ap (drop 5) e))
  same_line (Close n) (Close n') h k e = ap Close (same_node n n' h k (ap (drop 6) e))
  same_line (Floor n) (Floor n') h k e = ap Floor (same_node n n' h k (ap (drop 6) e))
  same_line (Deliver m) (Deliver m') h k e = ap Deliver (decimal_injective m m' h k (ap (drop 8) e))
  same_line (Lose m) (Lose m') h k e = ap Lose (decimal_injective m m' h k (ap (drop 5) e))
  same_line LoseAll LoseAll h k e = refl
  same_line (Lose m) LoseAll h k e = absurd (not_all m h (ap (drop 5) e))
  same_line LoseAll (Lose m) h k e = absurd (not_all m k (ap (drop 5) (sym e)))
  same_line (Settle None) (Settle None) h k e = refl
  same_line (Settle (Some r)) (Settle (Some r')) h k e = ap (λ n. Settle (Some n)) (decimal_injective r r' (omega (arith, h.1)) (omega (arith, k.1)) (ap (drop 7) e))
  same_line (Settle None) (Settle (Some r)) h k e = absurd (nothing_more (decimal r) (ap (drop 6) e))
  same_line (Settle (Some r)) (Settle None) h k e = absurd (nothing_more (decimal r) (ap (drop 6) (sym e)))
  same_line Recover Recover h k e = refl
  same_line (Stop n) (Stop n') h k e = ap Stop (same_node n n' h k (ap (drop 5) e))
  same_line (Start n) (Start n') h k e = ap Start (same_node n n' h k (ap (drop 6) e))
  same_line (Torn n left job) (Torn n' left' job') h k e =
      let s = at_node n n' (left_text left ++ 32 ∷ job_text job) (left_text left' ++ 32 ∷ job_text job') h.0 k.0 (ap (drop 5) e) in
      let l = same_split (left_text left) (left_text left') (job_text job) (job_text job') (left_no_space left) (left_no_space left') s.1 in
      let p = same_left left left' l.0 in
      let q = same_job job job' h.1 k.1 l.1 in
      λ i. Torn (s.0 i) (p i) (q i)
  same_line (Ask n t) (Ask n' t') h k e = let s = at_node n n' t t' h k (ap (drop 4) e) in λ i. Ask (s.0 i) (s.1 i)
  same_line a b h k e = absurd (apart a b refl e)

pub line_texts : (members : ℕ) (a b : Line) → members < 2 ^ 64 → IsInRange members a → IsInRange members b → line_text a ≡ line_text b → a ≡ b
line_texts members a b few h k e = same_line members few a b h k e

-- lines in range with the same texts are the same
pub same_said : (members : ℕ) → members < 2 ^ 64 → (lines lines' : List Line) → All (IsInRange members) lines → All (IsInRange members) lines' → map line_text lines ≡ map line_text lines' → lines ≡ lines'
same_said members few [] [] h k e = refl
same_said members few [] (b ∷ bs) h k e = absurd cc
same_said members few (l ∷ ls) [] h k e = absurd cc
same_said members few (l ∷ ls) (b ∷ bs) h k e =
    let first : line_text l ≡ line_text b = cc in
    let rest : map line_text ls ≡ map line_text bs = cc in
    let one = same_line members few l b (All-head (IsInRange members) l ls h) (All-head (IsInRange members) b bs k) first in
    let more = same_said members few ls bs (All-tail (IsInRange members) l ls h) (All-tail (IsInRange members) b bs k) rest in
    λ i. one i ∷ more i
