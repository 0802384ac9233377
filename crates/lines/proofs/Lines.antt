-- Lemmas on the words of lines.
use Rattle.std.proofs.Common.{◌≡◌, ◌≢◌, ◌∙◌, ℕ, zero, suc, ◌+◌, ◌*◌, ◌^◌, ◌<◌, ◌≤◌, ℤ, Bool, true, false, cond, List, [], ◌∷◌, ◌++◌, get_or, drop, refl, sym, ap, subst, arith, Option, Some, None, ◌⊎◌, inl, inr}
use Rattle.std.specs.Prelude.{◌==◌, codes, decimal}
use Rattle.std.specs.Fmt.{signed_decimal}
use Rattle.std.proofs.lemmas.Str.Parse.{not_in_digits}
use Rattle.std.proofs.lemmas.Fmt.{digits_decimal}
use borrow.Author.Tests.{clash}
use Rattle.lines.proofs.Numbers.{own, outside, never}
use Rattle.model.specs.declared.event.Left.{Left}
use Rattle.model.specs.declared.event.Left.TheVariants.{Old, New}
use Rattle.lines.specs.declared.line.TornJob.{TornJob}
use Rattle.lines.specs.declared.line.TornJob.TheVariants as jobs
use Rattle.lines.specs.declared.line.Line.{Line}
use Rattle.lines.specs.declared.line.Line.TheVariants.{Clock, ClockAll, Submit, Timeout, Beat, Close, Floor, Deliver, Lose, LoseAll, Settle, Recover, Stop, Start, Torn, Ask}
use Rattle.lines.specs.Number.{IsSigned}
use Rattle.lines.specs.Line.{left_text, request_text, job_text, line_text, IsNode, IsRequest, IsJobInRange, IsInRange, IsNoLine}
use Rattle.lines.specs.Reading.{HasNoSpace, IsNoNode, IsNoRequest, IsNoJob, IsNoTorn, IsNoLong}

-- ---- spaces

tail_no_space : (c : ℕ) (cs : List ℕ) → HasNoSpace (c ∷ cs) → HasNoSpace cs
tail_no_space c cs h = λ i lt. h (suc i) (omega (arith, lt))

no_space_cons : (c : ℕ) (cs : List ℕ) → c ≢ 32 → HasNoSpace cs → HasNoSpace (c ∷ cs)
no_space_cons c cs first h zero lt = first
no_space_cons c cs first h (suc i) lt = h i (omega (arith, lt))

has_space : List ℕ → Bool
has_space [] = false
has_space (c ∷ cs) = cond (c == 32) true (has_space cs)

not_second : (b x : Bool) → cond b true x ≡ false → x ≡ false
not_second true x e = absurd (clash (sym e))
not_second false x e = e

no_space_test : (w : List ℕ) → has_space w ≡ false → HasNoSpace w
unfolding has_space
no_space_test [] e = λ i lt. absurd (omega (arith, lt))
no_space_test (c ∷ cs) e =
    let first : c ≢ 32 = λ (h : c ≡ 32). absurd (clash (sym e ∙ ap (λ d. cond (d == 32) true (has_space cs)) h)) in
    no_space_cons c cs first (no_space_test cs (not_second (c == 32) (has_space cs) e))

spaced : (v x : List ℕ) → HasNoSpace (v ++ 32 ∷ x) → ⊥
spaced [] x h = h 0 (omega arith) refl
spaced (c ∷ v) x h = spaced v x (tail_no_space c (v ++ 32 ∷ x) h)

-- what a space divides has one
not_spaced : (text v x : List ℕ) → HasNoSpace text → text ≢ v ++ 32 ∷ x
not_spaced text v x h e = spaced v x (subst HasNoSpace e h)

-- the first space divides a text in one way
pub same_split : (v w x y : List ℕ) → HasNoSpace v → HasNoSpace w → v ++ 32 ∷ x ≡ w ++ 32 ∷ y → (v ≡ w) × (x ≡ y)
same_split [] [] x y hv hw e = (refl, ap (drop 1) e)
same_split [] (d ∷ w) x y hv hw e = absurd (hw 0 (omega arith) (ap (λ l. get_or l 0 0) (sym e)))
same_split (c ∷ v) [] x y hv hw e = absurd (hv 0 (omega arith) (ap (λ l. get_or l 0 0) e))
same_split (c ∷ v) (d ∷ w) x y hv hw e =
    let rest = same_split v w x y (tail_no_space c v hv) (tail_no_space d w hw) (ap (drop 1) e) in
    let first : c ≡ d = ap (λ l. get_or l 0 0) e in
    ((λ i. first i ∷ rest.0 i), rest.1)

pub decimal_no_space : (n : ℕ) → n < 2 ^ 64 → HasNoSpace (decimal n)
decimal_no_space n small = not_in_digits own (decimal n) 32 (digits_decimal own n small) (outside 32 (omega arith))

pub left_no_space : (left : Left) → HasNoSpace (left_text left)
unfolding has_space
left_no_space Old = no_space_test (codes "old") refl
left_no_space New = no_space_test (codes "new") refl

pub all_no_space : HasNoSpace (codes "all")
unfolding has_space
all_no_space = no_space_test (codes "all") refl

-- a number stands before the first space
same_number : (n : ℕ) (rest word after text : List ℕ) → n < 2 ^ 64 → rest ≡ word ++ 32 ∷ after → HasNoSpace word → rest ≡ decimal n ++ 32 ∷ text → (word ≡ decimal n) × (after ≡ text)
same_number n rest word after text small is first e = same_split word (decimal n) after text first (decimal_no_space n small) (sym is ∙ e)

-- ---- requests

pub request_unspaced : (rest : List ℕ) → HasNoSpace rest → IsNoRequest rest
request_unspaced rest h client number text range e = not_spaced rest (decimal client) _ h e

module _ (rest word after : List ℕ) (is : rest ≡ word ++ 32 ∷ after) (first : HasNoSpace word) where
  client_of : (client number : ℕ) (text : List ℕ) → IsRequest client number → rest ≡ request_text client number text → (word ≡ decimal client) × (after ≡ decimal number ++ 32 ∷ text)
  client_of client number text range e = same_number client rest word after (decimal number ++ 32 ∷ text) (omega (arith, range.1)) is first e

  pub request_short : HasNoSpace after → IsNoRequest rest
  request_short h client number text range e = not_spaced after (decimal number) text h (client_of client number text range e).1

  pub request_client : ((n : ℕ) → 1 ≤ n → n < 2 ^ 16 → word ≢ decimal n) → IsNoRequest rest
  request_client none client number text range e = none client range.0 range.1 (client_of client number text range e).0

  pub request_number : (number text : List ℕ) → after ≡ number ++ 32 ∷ text → HasNoSpace number → ((n : ℕ) → 1 ≤ n → n ≤ 2 ^ 62 → number ≢ decimal n) → IsNoRequest rest
  request_number number text is2 first2 none c k t range e =
      none k range.2 range.3 (same_number k after number text t (omega (arith, range.3)) is2 first2 (client_of c k t range e).1).0

-- ---- steps that are cut short

pub torn_unspaced : (members : ℕ) (rest : List ℕ) → HasNoSpace rest → IsNoTorn members rest
torn_unspaced members rest h n left job node e = not_spaced rest (decimal n) _ h e

module _ (members : ℕ) (few : members < 2 ^ 64) (rest word after : List ℕ) (is : rest ≡ word ++ 32 ∷ after) (first : HasNoSpace word) where
  node_first : (n : ℕ) (text : List ℕ) → IsNode members n → rest ≡ decimal n ++ 32 ∷ text → (word ≡ decimal n) × (after ≡ text)
  node_first n text node e = same_number n rest word after text (omega (arith, few, node.1)) is first e

  pub torn_node : IsNoNode members word → IsNoTorn members rest
  torn_node none n left job node e = none n node (node_first n _ node e).0

  pub torn_short : HasNoSpace after → IsNoTorn members rest
  torn_short h n left job node e = not_spaced after (left_text left) job h (node_first n _ node e).1

  pub torn_left : (kept job : List ℕ) → after ≡ kept ++ 32 ∷ job → HasNoSpace kept → kept ≢ codes "old" → kept ≢ codes "new" → IsNoTorn members rest
  torn_left kept job is2 first2 old new n Old text node e = old (same_split kept (codes "old") job text first2 (left_no_space Old) (sym is2 ∙ (node_first n _ node e).1)).0
  torn_left kept job is2 first2 old new n New text node e = new (same_split kept (codes "new") job text first2 (left_no_space New) (sym is2 ∙ (node_first n _ node e).1)).0

-- a text without a space that is none of the four words
pub job_unspaced : (text : List ℕ) → HasNoSpace text → text ≢ codes "timeout" → text ≢ codes "beat" → text ≢ codes "close" → text ≢ codes "floor" → IsNoJob text
job_unspaced text h timeout beat close floor jobs.Timeout range e = timeout e
job_unspaced text h timeout beat close floor jobs.Beat range e = beat e
job_unspaced text h timeout beat close floor jobs.Close range e = close e
job_unspaced text h timeout beat close floor jobs.Floor range e = floor e
job_unspaced text h timeout beat close floor (jobs.Submit c k t) range e = not_spaced text (codes "submit") _ h e
job_unspaced text h timeout beat close floor (jobs.Deliver m) range e = not_spaced text (codes "deliver") _ h e

-- a first word that is neither of the two
pub job_word : (text word rest : List ℕ) → text ≡ word ++ 32 ∷ rest → HasNoSpace word → word ≢ codes "submit" → word ≢ codes "deliver" → IsNoJob text
unfolding has_space
job_word text word rest is first submit deliver jobs.Timeout range e = not_spaced (codes "timeout") word rest (no_space_test (codes "timeout") refl) (sym e ∙ is)
job_word text word rest is first submit deliver jobs.Beat range e = not_spaced (codes "beat") word rest (no_space_test (codes "beat") refl) (sym e ∙ is)
job_word text word rest is first submit deliver jobs.Close range e = not_spaced (codes "close") word rest (no_space_test (codes "close") refl) (sym e ∙ is)
job_word text word rest is first submit deliver jobs.Floor range e = not_spaced (codes "floor") word rest (no_space_test (codes "floor") refl) (sym e ∙ is)
job_word text word rest is first submit deliver (jobs.Submit c k t) range e = submit (same_split word (codes "submit") rest _ first (no_space_test (codes "submit") refl) (sym is ∙ e)).0
job_word text word rest is first submit deliver (jobs.Deliver m) range e = deliver (same_split word (codes "deliver") rest _ first (no_space_test (codes "deliver") refl) (sym is ∙ e)).0

-- ---- which line a text is

-- the first four bytes of a text, as a number
abbrev pub kind : List ℕ → ℕ
kind text = get_or text 0 0 + 256 * (get_or text 1 0 + 256 * (get_or text 2 0 + 256 * get_or text 3 0))

module _ (members : ℕ) (rest : List ℕ) where
  submit_of : (line : Line) → IsInRange members line → codes "submit " ++ rest ≡ line_text line → (n c k : ℕ) × (t : List ℕ) × IsNode members n × IsRequest c k × (rest ≡ decimal n ++ 32 ∷ request_text c k t)
  submit_of (Submit n c k t) h e = (n, c, k, t, h.0, h.1, ap (drop 7) e)
  submit_of (Settle None) h e = absurd (omega (arith, ap kind e))
  submit_of (Settle (Some r)) h e = absurd (omega (arith, ap kind e))
  submit_of line h e = absurd (omega (arith, ap kind e))

  torn_of : (line : Line) → IsInRange members line → codes "torn " ++ rest ≡ line_text line → (n : ℕ) × (left : Left) × (job : TornJob) × IsNode members n × IsJobInRange job × (rest ≡ decimal n ++ 32 ∷ (left_text left ++ 32 ∷ job_text job))
  torn_of (Torn n left job) h e = (n, left, job, h.0, h.1, ap (drop 5) e)
  torn_of (Settle None) h e = absurd (omega (arith, ap kind e))
  torn_of (Settle (Some r)) h e = absurd (omega (arith, ap kind e))
  torn_of line h e = absurd (omega (arith, ap kind e))

  ask_of : (line : Line) → IsInRange members line → codes "ask " ++ rest ≡ line_text line → (n : ℕ) × (t : List ℕ) × IsNode members n × (rest ≡ decimal n ++ 32 ∷ t)
  ask_of (Ask n t) h e = (n, t, h, ap (drop 4) e)
  ask_of (Settle None) h e = absurd (omega (arith, ap kind e))
  ask_of (Settle (Some r)) h e = absurd (omega (arith, ap kind e))
  ask_of line h e = absurd (omega (arith, ap kind e))

  clock_of : (line : Line) → IsInRange members line → codes "clock " ++ rest ≡ line_text line
      → (z : ℤ) × IsSigned z × ((rest ≡ codes "all" ++ 32 ∷ signed_decimal z) ⊎ ((n : ℕ) × IsNode members n × (rest ≡ decimal n ++ 32 ∷ signed_decimal z)))
  clock_of (Clock n z) h e = (z, h.1, inr (n, h.0, ap (drop 6) e))
  clock_of (ClockAll z) h e = (z, h, inl (ap (drop 6) e))
  clock_of (Settle None) h e = absurd (omega (arith, ap kind e))
  clock_of (Settle (Some r)) h e = absurd (omega (arith, ap kind e))
  clock_of line h e = absurd (omega (arith, ap kind e))

  pub submit_unspaced : HasNoSpace rest → IsNoLine members (codes "submit " ++ rest)
  submit_unspaced h line range e = let s = submit_of line range e in not_spaced rest (decimal s.0) _ h s.6

  pub ask_unspaced : HasNoSpace rest → IsNoLine members (codes "ask " ++ rest)
  ask_unspaced h line range e = let s = ask_of line range e in not_spaced rest (decimal s.0) _ h s.3

module _ (members : ℕ) (few : members < 2 ^ 64) (rest word after : List ℕ) (is : rest ≡ word ++ 32 ∷ after) (first : HasNoSpace word) where
  pub submit_node : IsNoNode members word → IsNoLine members (codes "submit " ++ rest)
  submit_node none line range e =
      let s = submit_of members rest line range e in
      none s.0 s.4 (node_first members few rest word after is first s.0 _ s.4 s.6).0

  pub submit_request : IsNoRequest after → IsNoLine members (codes "submit " ++ rest)
  submit_request none line range e =
      let s = submit_of members rest line range e in
      none s.1 s.2 s.3 s.5 (node_first members few rest word after is first s.0 _ s.4 s.6).1

  pub ask_node : IsNoNode members word → IsNoLine members (codes "ask " ++ rest)
  ask_node none line range e =
      let s = ask_of members rest line range e in
      none s.0 s.2 (node_first members few rest word after is first s.0 _ s.2 s.3).0

  torn_job : (left : Left) (job : List ℕ) → after ≡ left_text left ++ 32 ∷ job → IsNoJob job → IsNoLine members (codes "torn " ++ rest)
  torn_job left job is2 none line range e =
      let s = torn_of members rest line range e in
      let f = node_first members few rest word after is first s.0 _ s.3 s.5 in
      let g = same_split (left_text left) (left_text s.1) job (job_text s.2) (left_no_space left) (left_no_space s.1) (sym is2 ∙ f.1) in
      none s.2 s.4 g.1

  clock_parts : (z : ℤ) → (rest ≡ codes "all" ++ 32 ∷ signed_decimal z) ⊎ ((n : ℕ) × IsNode members n × (rest ≡ decimal n ++ 32 ∷ signed_decimal z))
      → (after ≡ signed_decimal z) × ((word ≡ codes "all") ⊎ ((n : ℕ) × IsNode members n × (word ≡ decimal n)))
  unfolding has_space
  clock_parts z (inl e) = let s = same_split word (codes "all") after (signed_decimal z) first (no_space_test (codes "all") refl) (sym is ∙ e) in (s.1, inl s.0)
  clock_parts z (inr (n, node, e)) = let s = node_first members few rest word after is first n _ node e in (s.1, inr (n, node, s.0))

  pub clock_reading : ((z : ℤ) → IsSigned z → after ≢ signed_decimal z) → IsNoLine members (codes "clock " ++ rest)
  clock_reading none line range e = let s = clock_of members rest line range e in none s.0 s.1 (clock_parts s.0 s.2).0

  neither : word ≢ codes "all" → IsNoNode members word → (word ≡ codes "all") ⊎ ((n : ℕ) × IsNode members n × (word ≡ decimal n)) → ⊥
  neither all none (inl e) = all e
  neither all none (inr (n, node, e)) = none n node e

  pub clock_node : word ≢ codes "all" → IsNoNode members word → IsNoLine members (codes "clock " ++ rest)
  clock_node all none line range e = let s = clock_of members rest line range e in neither all none (clock_parts s.0 s.2).1

clock_spaced : (rest : List ℕ) (members : ℕ) (z : ℤ) → HasNoSpace rest → (rest ≡ codes "all" ++ 32 ∷ signed_decimal z) ⊎ ((n : ℕ) × IsNode members n × (rest ≡ decimal n ++ 32 ∷ signed_decimal z)) → ⊥
clock_spaced rest members z h (inl e) = not_spaced rest (codes "all") _ h e
clock_spaced rest members z h (inr (n, node, e)) = not_spaced rest (decimal n) _ h e

-- the step of a `torn` is none
pub torn_step : (members : ℕ) (rest : List ℕ) (n : ℕ) (left : Left) (job : List ℕ) → members < 2 ^ 64 → IsNode members n → rest ≡ decimal n ++ 32 ∷ (left_text left ++ 32 ∷ job) → IsNoJob job → IsNoLine members (codes "torn " ++ rest)
torn_step members rest n left job few node is none = torn_job members few rest (decimal n) (left_text left ++ 32 ∷ job) is (decimal_no_space n (omega (arith, few, node.1))) left job refl none

pub clock_unspaced : (members : ℕ) (rest : List ℕ) → HasNoSpace rest → IsNoLine members (codes "clock " ++ rest)
clock_unspaced members rest h line range e = let s = clock_of members rest line range e in clock_spaced rest members s.0 h s.2

-- a number that was not read is not spelled
pub not_signed : (o : Option ℤ) (word : List ℕ) → ((z : ℤ) → IsSigned z → word ≡ signed_decimal z → o ≡ Some z) → o ≡ None → (z : ℤ) → IsSigned z → word ≢ signed_decimal z
not_signed o word every none z signed e = never o z none (every z signed e)

-- ---- lines of one word, and those that begin with none of the words

-- no space, and neither of the one-word lines
pub line_unspaced : (members : ℕ) (text : List ℕ) → HasNoSpace text → text ≢ codes "settle" → text ≢ codes "recover" → IsNoLine members text
line_unspaced members text h settle recover (Clock n z) range e = not_spaced text (codes "clock") _ h e
line_unspaced members text h settle recover (ClockAll z) range e = not_spaced text (codes "clock") _ h e
line_unspaced members text h settle recover (Submit n c k t) range e = not_spaced text (codes "submit") _ h e
line_unspaced members text h settle recover (Timeout n) range e = not_spaced text (codes "timeout") _ h e
line_unspaced members text h settle recover (Beat n) range e = not_spaced text (codes "beat") _ h e
line_unspaced members text h settle recover (Close n) range e = not_spaced text (codes "close") _ h e
line_unspaced members text h settle recover (Floor n) range e = not_spaced text (codes "floor") _ h e
line_unspaced members text h settle recover (Deliver m) range e = not_spaced text (codes "deliver") _ h e
line_unspaced members text h settle recover (Lose m) range e = not_spaced text (codes "lose") _ h e
line_unspaced members text h settle recover LoseAll range e = not_spaced text (codes "lose") _ h e
line_unspaced members text h settle recover (Settle None) range e = settle e
line_unspaced members text h settle recover (Settle (Some r)) range e = not_spaced text (codes "settle") _ h e
line_unspaced members text h settle recover Recover range e = recover e
line_unspaced members text h settle recover (Stop n) range e = not_spaced text (codes "stop") _ h e
line_unspaced members text h settle recover (Start n) range e = not_spaced text (codes "start") _ h e
line_unspaced members text h settle recover (Torn n left job) range e = not_spaced text (codes "torn") _ h e
line_unspaced members text h settle recover (Ask n t) range e = not_spaced text (codes "ask") _ h e

-- none of the first words that begin a line with one number
pub record IsNoShort (word : List ℕ) : Type 0 where
  pub timeout : word ≢ codes "timeout"
  pub beat : word ≢ codes "beat"
  pub close : word ≢ codes "close"
  pub floor : word ≢ codes "floor"
  pub stop : word ≢ codes "stop"
  pub start : word ≢ codes "start"
  pub deliver : word ≢ codes "deliver"
  pub lose : word ≢ codes "lose"
  pub settle : word ≢ codes "settle"

module _ (members : ℕ) (word rest : List ℕ) (first : HasNoSpace word) where
  begins : (w : List ℕ) (text : List ℕ) → has_space w ≡ false → word ++ 32 ∷ rest ≡ w ++ 32 ∷ text → word ≡ w
  begins w text e is = (same_split word w rest text first (no_space_test w e) is).0

  pub line_word : IsNoLong word → IsNoShort word → IsNoLine members (word ++ 32 ∷ rest)
  unfolding has_space
  line_word long short (Clock n z) range e = long.3 (begins _ _ refl e)
  line_word long short (ClockAll z) range e = long.3 (begins _ (codes "all " ++ signed_decimal z) refl e)
  line_word long short (Submit n c k t) range e = long.0 (begins _ _ refl e)
  line_word long short (Timeout n) range e = short.timeout (begins _ _ refl e)
  line_word long short (Beat n) range e = short.beat (begins _ _ refl e)
  line_word long short (Close n) range e = short.close (begins _ _ refl e)
  line_word long short (Floor n) range e = short.floor (begins _ _ refl e)
  line_word long short (Deliver m) range e = short.deliver (begins _ _ refl e)
  line_word long short (Lose m) range e = short.lose (begins _ _ refl e)
  line_word long short LoseAll range e = short.lose (begins _ (codes "all") refl e)
  line_word long short (Settle None) range e = not_spaced (codes "settle") word rest (no_space_test (codes "settle") refl) (sym e)
  line_word long short (Settle (Some r)) range e = short.settle (begins _ _ refl e)
  line_word long short Recover range e = not_spaced (codes "recover") word rest (no_space_test (codes "recover") refl) (sym e)
  line_word long short (Stop n) range e = short.stop (begins _ _ refl e)
  line_word long short (Start n) range e = short.start (begins _ _ refl e)
  line_word long short (Torn n left job) range e = long.1 (begins _ _ refl e)
  line_word long short (Ask n t) range e = long.2 (begins _ _ refl e)
