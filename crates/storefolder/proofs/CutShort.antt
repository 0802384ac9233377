-- What a write leaves that was cut short.
use Rattle.std.proofs.Common.{◌≡◌, ◌≢◌, ◌∙◌, ℕ, ◌+◌, ◌-◌, ◌/◌, ◌%◌, ◌<◌, ◌≤◌, List, [], ◌∷◌, ◌++◌, length, get_or, drop, refl, sym, ap, arith, subst, length-append, append_assoc, inl, inr, ◌⊎◌}
use Rattle.std.specs.Prelude.{decimal}
use Rattle.std.specs.Str.{IsUtf8}
use Rattle.std.proofs.lemmas.Fmt.{decimal_digit, decimal_step, decimal_by_steps, IsAscii-decimal}
use Rattle.std.proofs.lemmas.Str.{IsUtf8-nil, IsUtf8-from_ascii}
use Rattle.std.proofs.lemmas.Str.Ascii.{IsAscii-push}
use Rattle.std.proofs.Math.Seq.{drop-append_seam}
use Rattle.std.proofs.lemmas.List.{append-nil, length-replicate}
use Rattle.std.proofs.Math.ListN.{replicate}
use Rattle.flight.specs.Spelling.{number_text, spaced, ended}
use Rattle.flight.specs.Ranges.{IsNumber}
use Rattle.flight.specs.Reading.{IsUnread}
use Rattle.fault.specs.declared.refusal.Refusal.{Refusal}
use Rattle.fault.specs.declared.refusal.Refusal.TheVariants.{NoMemory, BadFlight}
use Rattle.journal.proofs.Frames.{number_same}
use Rattle.storefolder.specs.Torn.{BeginsNumber, BeginsBlock}

-- ---- beginnings of lists

-- the beginning of a list ends before the element in its midst, or behind it
pub cut : (a : List ℕ) (x : ℕ) (b front back : List ℕ) → front ++ back ≡ a ++ x ∷ b
    → ((mid : List ℕ) × (front ++ mid ≡ a)) ⊎ ((more : List ℕ) × (front ≡ a ++ x ∷ more) × (more ++ back ≡ b))
cut [] x b [] back e = inl ([], refl)
cut [] x b (f ∷ fs) back e =
    let first : f ≡ x = ap (λ l. get_or l 0 0) e in
    inr (fs, (λ i. first i ∷ fs), ap (drop 1) e)
cut (a ∷ others) x b [] back e = inl (a ∷ others, refl)
cut (a ∷ others) x b (f ∷ fs) back e =
    let first : f ≡ a = ap (λ l. get_or l 0 0) e in
    elim (cut others x b fs back (ap (drop 1) e)) [ inl p ↦ inl (p.0, (λ i. first i ∷ p.1 i)) | inr p ↦ inr (p.0, (λ i. first i ∷ p.1 i), p.2) ]

no_front : (a b : List ℕ) → a ++ b ≡ [] → a ≡ []
no_front [] b e = refl
no_front (x ∷ xs) b e = absurd (omega (arith, ap length e))

pub some_length : (a : List ℕ) → a ≢ [] → 0 < length a
some_length [] some = absurd (some refl)
some_length (x ∷ xs) some = omega arith

pub holds_one : (a : List ℕ) (x : ℕ) (b : List ℕ) → a ++ x ∷ b ≢ []
holds_one a x b e = omega (arith, ap length e, length-append a (x ∷ b))

-- ---- the beginning of a number

abbrev BeginsAs : ℕ → List ℕ → Type 0
BeginsAs n digits = IsNumber n → (decimal n ≡ digits) × ((front back : List ℕ) → front ++ back ≡ digits → BeginsNumber front)

-- what begins digits behind which one more stands, or is all of it
one_more : (n : ℕ) (ds : List ℕ) (d : ℕ) → IsNumber n → decimal n ≡ ds ++ d ∷ [] → ((front back : List ℕ) → front ++ back ≡ ds → BeginsNumber front)
    → (front back : List ℕ) → front ++ back ≡ ds ++ d ∷ [] → BeginsNumber front
one_more n ds d small is before front back e =
    elim (cut ds d [] front back e) [
      | inl p ↦ before front p.0 p.1
      | inr p ↦ inr (n, small, p.1 ∙ ap (λ l. ds ++ d ∷ l) (no_front p.0 back p.2) ∙ sym is)
    ]

none_begin : (front back : List ℕ) → front ++ back ≡ [] → BeginsNumber front
none_begin front back e = inl (no_front front back e)

one_digit : (n : ℕ) → n < 10 → BeginsAs n ((48 + n) ∷ [])
one_digit n low = λ small. (decimal_digit n low, one_more n [] (48 + n) small (decimal_digit n low) none_begin)

more_digits : (n : ℕ) (ds : List ℕ) → 10 ≤ n → BeginsAs (n / 10) ds → BeginsAs n (ds ++ ((48 + n % 10) ∷ []))
more_digits n ds high p = λ small.
    let q = p (omega (arith, small)) in
    let is : decimal n ≡ ds ++ ((48 + n % 10) ∷ []) = decimal_step n high small ∙ ap (λ l. l ++ ((48 + n % 10) ∷ [])) q.0 in
    (is, one_more n ds (48 + n % 10) small is q.1)

pub begins_decimal : (n : ℕ) → IsNumber n → (front back : List ℕ) → front ++ back ≡ decimal n → BeginsNumber front
begins_decimal n small = (decimal_by_steps BeginsAs one_digit more_digits n small small).1

-- ---- the beginning of a block

pub block_of : (long sum : ℕ) (front back body : List ℕ) → IsNumber long → IsNumber sum → length body ≡ long → back ≢ [] → front ++ back ≡ spaced long (ended sum body) → BeginsBlock front
block_of long sum front back body small_long small_sum is some e = (
  sum,
  body,
  back,
  small_sum,
  subst IsNumber (sym is) small_long,
  e ∙ ap (λ n. spaced n (ended sum body)) (sym is) ∙ ap (λ l. spaced (length body) (ended sum l)) (sym (append-nil body)),
  some,
)

-- as long a body as there may be
abbrev any_body : ℕ → List ℕ
any_body long = replicate long 0

-- of a block that begins with a number, what is behind it
behind_length : (long : ℕ) (bytes rest : List ℕ) → IsNumber long → bytes ≡ spaced long rest → (b : BeginsBlock bytes)
    → (long ≡ length b.1) × (rest ++ b.2 ≡ ended b.0 (b.1 ++ []))
behind_length long bytes rest small is b =
    number_same 32 long (length b.1) (rest ++ b.2) (ended b.0 (b.1 ++ [])) (omega arith) small b.4
    (sym (append_assoc (decimal long) (32 ∷ rest) b.2) ∙ ap (λ l. l ++ b.2) (sym is) ∙ b.5)

abbrev NoNumber : ℕ → List ℕ → Type 0
NoNumber end bytes = (number : ℕ) (rest : List ℕ) → IsNumber number → bytes ≢ number_text end number rest

-- bytes without a whole number begin one, where a number is cut
number_cut : (end n : ℕ) (rest front back : List ℕ) → IsNumber n → NoNumber end front → front ++ back ≡ number_text end n rest → BeginsNumber front
number_cut end n rest front back small none e =
    elim (cut (decimal n) end rest front back e) [
      | inl p ↦ begins_decimal n small front p.0 p.1
      | inr p ↦ absurd (none n p.0 small p.1)
    ]

-- without a length
pub word_begins : (bytes : List ℕ) → NoNumber 32 bytes → BeginsBlock bytes → BeginsNumber bytes
word_begins bytes none b = number_cut 32 (length b.1) (ended b.0 (b.1 ++ [])) bytes b.2 b.4 none b.5

pub begins_word : (bytes : List ℕ) → BeginsNumber bytes → BeginsBlock bytes
begins_word bytes (inl e) = block_of 0 0 bytes (spaced 0 (ended 0 [])) [] (omega arith) (omega arith) refl (holds_one (decimal 0) 32 (ended 0 [])) (ap (λ l. l ++ spaced 0 (ended 0 [])) e)
begins_word bytes (inr p) =
    let body = any_body p.0 in
    block_of p.0 0 bytes (32 ∷ ended 0 body) body p.1 (omega arith) (length-replicate p.0 0) (holds_one [] 32 (ended 0 body)) (ap (λ l. l ++ 32 ∷ ended 0 body) p.2)

-- with a length, and without a sum
pub line_begins : (long : ℕ) (bytes rest : List ℕ) → IsNumber long → bytes ≡ spaced long rest → NoNumber 10 rest → BeginsBlock bytes → BeginsNumber rest
line_begins long bytes rest small is none b = number_cut 10 b.0 (b.1 ++ []) rest b.2 b.3 none (behind_length long bytes rest small is b).1

behind : (long : ℕ) (bytes rest back after : List ℕ) → bytes ≡ spaced long rest → rest ++ back ≡ after → bytes ++ back ≡ spaced long after
behind long bytes rest back after is e = ap (λ l. l ++ back) is ∙ append_assoc (decimal long) (32 ∷ rest) back ∙ ap (spaced long) e

pub begins_line : (long : ℕ) (bytes rest : List ℕ) → IsNumber long → bytes ≡ spaced long rest → BeginsNumber rest → BeginsBlock bytes
begins_line long bytes rest small is (inl e) =
    let body = any_body long in
    block_of long 0 bytes (ended 0 body) body small (omega arith) (length-replicate long 0) (holds_one (decimal 0) 10 body) (behind long bytes rest (ended 0 body) (ended 0 body) is (ap (λ l. l ++ ended 0 body) e))
begins_line long bytes rest small is (inr p) =
    let body = any_body long in
    block_of long p.0 bytes (10 ∷ body) body small p.1 (length-replicate long 0) (holds_one [] 10 body) (behind long bytes rest (10 ∷ body) (ended p.0 body) is (ap (λ l. l ++ 10 ∷ body) p.2))

-- with both
pub body_begins : (long sum : ℕ) (bytes rest body : List ℕ) → IsNumber long → IsNumber sum → bytes ≡ spaced long rest → rest ≡ ended sum body → BeginsBlock bytes → length body < long
body_begins long sum bytes rest body small_long small_sum is sum_is b =
    let first = behind_length long bytes rest small_long is b in
    let second = number_same 10 sum b.0 (body ++ b.2) (b.1 ++ []) (omega arith) small_sum b.3 (sym (append_assoc (decimal sum) (10 ∷ body) b.2) ∙ ap (λ l. l ++ b.2) (sym sum_is) ∙ first.1) in
    omega (arith, first.0, ap length second.1, length-append body b.2, length-append b.1 [], some_length b.2 b.6)

pub begins_body : (long sum : ℕ) (bytes rest body : List ℕ) → IsNumber long → IsNumber sum → bytes ≡ spaced long rest → rest ≡ ended sum body → length body < long → BeginsBlock bytes
begins_body long sum bytes rest body small_long small_sum is sum_is within =
    let back = any_body (long - length body) in
    let long_back : length back ≡ long - length body = length-replicate (long - length body) 0 in
    let whole : length (body ++ back) ≡ long = omega (arith, length-append body back, long_back, within) in
    let some : back ≢ [] = λ e. omega (arith, ap length e, long_back, within) in
    block_of long sum bytes back (body ++ back) small_long small_sum whole some
    (behind long bytes rest back (ended sum (body ++ back)) is (ap (λ l. l ++ back) sum_is ∙ append_assoc (decimal sum) (10 ∷ body) back))

-- ---- what text has of it

pub number_utf8 : (word : List ℕ) → BeginsNumber word → IsUtf8 word
number_utf8 word (inl e) = subst IsUtf8 (sym e) IsUtf8-nil
number_utf8 word (inr p) = subst IsUtf8 (sym p.2) (IsUtf8-from_ascii (decimal p.0) (IsAscii-decimal p.0 p.1))

-- each beginning that is text
abbrev HasLongest : List ℕ → List ℕ → Type 0
HasLongest bytes text = (front torn : List ℕ) → IsUtf8 front → bytes ≡ front ++ torn → (more : List ℕ) × (text ≡ front ++ more)

number_then : (end n : ℕ) (rest : List ℕ) → (decimal n ++ end ∷ []) ++ rest ≡ number_text end n rest
number_then end n rest = append_assoc (decimal n) (end ∷ []) rest

no_memory : NoMemory ≢ BadFlight
no_memory e = absurd (cc e)

-- where text has no number the bytes have none
pub text_none : (end : ℕ) (bytes text : List ℕ) (r : Refusal) → end < 48 → HasLongest bytes text → r ≡ BadFlight → IsUnread IsNumber (number_text end) text r → NoNumber end bytes
text_none end bytes text r low longest bad (inl memory) = λ n rest small e. no_memory (sym memory ∙ bad)
text_none end bytes text r low longest bad (inr unread) = λ n rest small e.
    let utf8 = IsUtf8-from_ascii (decimal n ++ end ∷ []) (IsAscii-push (decimal n) end (IsAscii-decimal n small) (omega arith)) in
    let p = longest (decimal n ++ end ∷ []) rest utf8 (e ∙ sym (number_then end n rest)) in
    unread.1 n p.0 small (p.1 ∙ number_then end n p.0)

-- behind the number of the text stands what the bytes have behind it
pub bytes_behind : (end n : ℕ) (bytes text torn rest : List ℕ) → text ≡ number_text end n rest → bytes ≡ text ++ torn → bytes ≡ number_text end n (drop (length text - length rest) bytes)
bytes_behind end n bytes text torn rest is e =
    let head = decimal n ++ end ∷ [] in
    let whole : bytes ≡ head ++ (rest ++ torn) = e ∙ ap (λ l. l ++ torn) (is ∙ sym (number_then end n rest)) ∙ append_assoc head rest torn in
    let long : length text - length rest ≡ length head = omega (arith, ap length is, ap length (number_then end n rest), length-append head rest) in
    let left : drop (length text - length rest) bytes ≡ rest ++ torn = ap (λ n. drop n bytes) long ∙ ap (drop (length head)) whole ∙ drop-append_seam head (rest ++ torn) in
    whole ∙ ap (λ l. head ++ l) (sym left) ∙ number_then end n (drop (length text - length rest) bytes)
