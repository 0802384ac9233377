-- A log of which the end is here and the rest with its reader.
use Rattle.std.proofs.Common.{◌≡◌, ◌∙◌, ℕ, zero, suc, ◌+◌, ◌-◌, ◌≤◌, ◌<◌, min, true, false, cond, Option, Some, None, option_map, List, [], ◌∷◌, ◌++◌, take, drop, length, slice_get, refl, sym, ap, subst, arith, rules}
use Rattle.std.proofs.Common.{length-append, append_assoc}
use Rattle.std.proofs.lemmas.List.{length-take, take-append-le, take-take}
use Rattle.std.specs.Prelude.{vec_len}
use Rattle.model.specs.declared.entry.Entry.{Entry}
use Rattle.model.specs.Lists.{nth}
use Rattle.model.specs.Logs.{closed, last_entry, least_over}
use Rattle.model.specs.Members.{agreed, has_term, last_term, stands, term_of}
use Rattle.model.specs.Stamps.{above, greater}
use Rattle.model.specs.Steps.{continues}
use Rattle.raft.proofs.Lists.{agreed_reach}
use Rattle.raft.specs.declared.short_log.ShortLog.{ShortLog}
use Rattle.raft.specs.declared.state.Core.{Core}
use Rattle.raft.specs.Saved.{whole}
use Rattle.raft.specs.View.{log_of, Reaches}

-- an entry of two lists, one after the other
pub got_first : {A : Type 0} (xs ys : List A) (k : ℕ) → k < length xs → slice_get (xs ++ ys) k ≡ slice_get xs k
got_first [] ys k lt = absurd (omega (arith, lt))
got_first (x ∷ xs) ys zero lt = refl
got_first (x ∷ xs) ys (suc k) lt = got_first xs ys k (omega (arith, lt))

pub got_second : {A : Type 0} (xs ys : List A) (k n : ℕ) → length xs ≡ n → n ≤ k → slice_get (xs ++ ys) k ≡ slice_get ys (k - n)
got_second [] ys k zero e le = let none : k - 0 ≡ k = omega arith in rw none refl
got_second [] ys k (suc n) e le = absurd (omega (arith, e))
got_second (x ∷ xs) ys zero n e le = absurd (omega (arith, e, le))
got_second (x ∷ xs) ys (suc k) zero e le = absurd (omega (arith, e))
got_second (x ∷ xs) ys (suc k) (suc n) e le =
    let same : suc k - suc n ≡ k - n = omega arith in
    rw same (got_second xs ys k n (omega (arith, e)) (omega (arith, le)))

pub got_taken : {A : Type 0} (xs : List A) (k j : ℕ) → k < j → slice_get (take j xs) k ≡ slice_get xs k
got_taken xs k zero lt = absurd (omega (arith, lt))
got_taken [] k (suc j) lt = refl
got_taken (x ∷ xs) zero (suc j) lt = refl
got_taken (x ∷ xs) (suc k) (suc j) lt = got_taken xs k j (omega (arith, lt))

pub got_dropped : {A : Type 0} (xs : List A) (n k : ℕ) → slice_get (drop n xs) k ≡ slice_get xs (n + k)
got_dropped xs zero k = let none : 0 + k ≡ k = omega arith in rw none refl
got_dropped [] (suc n) k = refl
got_dropped (x ∷ xs) (suc n) k = let next : suc n + k ≡ suc (n + k) = omega arith in rw next (got_dropped xs n k)

-- ---- the end of a log

nth_seam : {A : Type 0} (xs ys : List A) → 1 ≤ length ys → nth (xs ++ ys) (length (xs ++ ys)) ≡ nth ys (length ys)
nth_seam xs [] some = absurd (omega (arith, some))
nth_seam xs (y ∷ ys) some =
    let len : length (xs ++ y ∷ ys) ≡ suc (length xs + length ys) = length-append xs (y ∷ ys) ∙ omega arith in
    let back : (length xs + length ys) - length xs ≡ length ys = omega arith in
    let at : slice_get (xs ++ y ∷ ys) (length xs + length ys) ≡ slice_get (y ∷ ys) (length ys) = rw back at (got_second xs (y ∷ ys) (length xs + length ys) (length xs) refl (omega arith)) in
    ap (nth (xs ++ y ∷ ys)) len ∙ at

last_seam : {A : Type 0} (n : ℕ) (xs ys : List A) → (1 ≤ n → 1 ≤ length ys) → nth (take n xs ++ ys) (length (take n xs ++ ys)) ≡ nth ys (length ys)
last_seam zero xs ys h = refl
last_seam (suc n) xs ys h = nth_seam (take (suc n) xs) ys (h (omega arith))

pub last_of : (c : Core) (stored : List Entry) → last_entry (log_of c stored) ≡ last_entry c.log.tail.items
last_of c stored =
    let len : vec_len c.log.tail ≡ length c.log.tail.items = search rules in
    last_seam c.log.elsewhere stored c.log.tail.items (λ some. omega (arith, len, c.log.ends some))

pub last_term_of : (c : Core) (stored : List Entry) → last_term (log_of c stored) ≡ last_term c.log.tail.items
last_term_of c stored = ap term_of (last_of c stored)

pub closed_of : (c : Core) (stored : List Entry) → closed (log_of c stored) ≡ closed c.log.tail.items
closed_of c stored = ap (λ (o : Option Entry). option_map (λ e. e.stamp) o) (last_of c stored)

pub least_over_of : (c : Core) (stored : List Entry) (floor : Option ℕ) → least_over floor (log_of c stored) ≡ least_over floor c.log.tail.items
least_over_of c stored floor = ap (λ (o : Option ℕ). above (greater o floor)) (closed_of c stored)

pub whole_length : (l : ShortLog) (stored : List Entry) → l.elsewhere ≤ length stored → length (whole l stored) ≡ l.elsewhere + vec_len l.tail
whole_length l stored there =
    let len : vec_len l.tail ≡ length l.tail.items = search rules in
    length-append (take l.elsewhere stored) l.tail.items ∙ omega (arith, length-take l.elsewhere stored, there, len)

pub length_of : (c : Core) (stored : List Entry) → Reaches c stored → length (log_of c stored) ≡ c.log.elsewhere + vec_len c.log.tail
length_of c stored there = whole_length c.log stored there

pub log_pushed : (s : ℕ) (stored tail : List Entry) (e : Entry) → take s stored ++ (tail ++ e ∷ []) ≡ (take s stored ++ tail) ++ e ∷ []
log_pushed s stored tail e = sym (append_assoc (take s stored) tail (e ∷ []))

-- ---- a part of a log

agreed_shifted : (log : List Entry) (d i : ℕ) (es : List Entry) → agreed log (d + i) es ≡ d + agreed (drop d log) i es
agreed_shifted log d i [] = refl
agreed_shifted log d i (e ∷ es) =
    let next : (d + i) + 1 ≡ d + (i + 1) = omega arith in
    let more = agreed_shifted log d (i + 1) es in
    rw (got_dropped log d i, next, more) (elim (has_term (slice_get log (d + i)) e.term) as (λ b. cond b (d + agreed (drop d log) (i + 1) es) (d + i) ≡ d + cond b (agreed (drop d log) (i + 1) es) i) [ true ↦ refl | false ↦ refl ])

agreed_taken : (log : List Entry) (n i : ℕ) (es : List Entry) → i + length es ≤ n → agreed (take n log) i es ≡ agreed log i es
agreed_taken log n i [] h = refl
agreed_taken log n i (e ∷ es) h =
    let more = agreed_taken log n (i + 1) es (omega (arith, h)) in
    rw (got_taken log i n (omega (arith, h)), more) refl

-- where entries come in a log, by the part of it after the first d entries
pub agreed_seen : (log window es : List Entry) (prev : ℕ) → window ≡ take 65 (drop (prev - 1) log) → length es ≤ 64 → agreed log prev es ≡ (prev - min prev 1) + agreed window (min prev 1) es
agreed_seen log window es prev seen few =
    let split : prev ≡ (prev - 1) + min prev 1 = omega arith in
    let first : prev - min prev 1 ≡ prev - 1 = omega arith in
    let part : agreed window (min prev 1) es ≡ agreed (drop (prev - 1) log) (min prev 1) es = rw seen (agreed_taken (drop (prev - 1) log) 65 (min prev 1) es (omega (arith, few))) in
    rw (first, part) (ap (λ n. agreed log n es) split ∙ agreed_shifted log (prev - 1) (min prev 1) es)

nth_seen : (log : List Entry) (d i : ℕ) → 1 ≤ i → i ≤ 65 → nth (take 65 (drop d log)) i ≡ nth log (d + i)
nth_seen log d zero first last = absurd (omega (arith, first))
nth_seen log d (suc i) first last =
    let next : d + suc i ≡ suc (d + i) = omega arith in
    rw next (got_taken (drop d log) i 65 (omega (arith, last)) ∙ got_dropped log d i)

-- the entry before those that a message brings, and one among them
pub entry_seen : (log window : List Entry) (prev i : ℕ) → window ≡ take 65 (drop (prev - 1) log) → min prev 1 ≤ i → i ≤ 65 → nth window i ≡ nth log ((prev - min prev 1) + i)
entry_seen log window zero zero seen low high = refl
entry_seen log window zero (suc i) seen low high = rw seen (nth_seen log 0 (suc i) (omega arith) high)
entry_seen log window (suc p) i seen low high =
    let d : suc p - min (suc p) 1 ≡ suc p - 1 = omega arith in
    rw (seen, d) (nth_seen log (suc p - 1) i (omega (arith, low)) high)

pub stands_seen : (log window : List Entry) (prev t : ℕ) → 1 ≤ prev → window ≡ take 65 (drop (prev - 1) log) → has_term (slice_get window 0) t ≡ stands log prev t
stands_seen log window zero t some seen = absurd (omega (arith, some))
stands_seen log window (suc p) t some seen =
    let back : suc p - 1 ≡ p = omega arith in
    let at : p + 0 ≡ p = omega arith in
    rw (seen, back) (ap (λ (o : Option Entry). has_term o t) (got_taken (drop p log) 0 65 (omega arith) ∙ got_dropped log p 0 ∙ ap (slice_get log) at))

pub continues_seen : (log window es : List Entry) (prev t : ℕ) → window ≡ take 65 (drop (prev - 1) log) → length es ≤ 64 → continues window (min prev 1) t es ≡ continues log prev t es
continues_seen log window es prev t seen few =
    let f = min prev 1 in
    let i = agreed window f es in
    let is : agreed log prev es ≡ (prev - f) + i = agreed_seen log window es prev seen few in
    let far = agreed_reach window es f in
    let before : nth window f ≡ nth log prev = entry_seen log window prev f seen (omega arith) (omega arith) ∙ ap (nth log) (omega arith) in
    let after : nth window i ≡ nth log ((prev - f) + i) = entry_seen log window prev i seen far.low (omega (arith, far.high, few)) in
    let gone : ((prev - f) + i) - prev ≡ i - f = omega (arith, far.low) in
    rw (is, before, after, gone) refl

-- ---- a log that is cut

pub taken_past : {A : Type 0} (xs ys : List A) (k n : ℕ) → length xs ≡ n → n ≤ k → take k (xs ++ ys) ≡ xs ++ take (k - n) ys
taken_past [] ys k zero e le = let none : k - 0 ≡ k = omega arith in rw none refl
taken_past [] ys k (suc n) e le = absurd (omega (arith, e))
taken_past (x ∷ xs) ys zero n e le = absurd (omega (arith, e, le))
taken_past (x ∷ xs) ys (suc k) zero e le = absurd (omega (arith, e))
taken_past (x ∷ xs) ys (suc k) (suc n) e le =
    let same : suc k - suc n ≡ k - n = omega arith in
    rw same (ap (λ zs. x ∷ zs) (taken_past xs ys k n (omega (arith, e)) (omega (arith, le))))

pub cut_low : (s k : ℕ) (stored tail : List Entry) → k < s → s ≤ length stored → take k (take s stored ++ tail) ≡ take k stored
cut_low s k stored tail low there = take-append-le k (take s stored) tail (omega (arith, length-take s stored, low, there)) ∙ take-take k s stored (omega (arith, low))

pub cut_high : (s k : ℕ) (stored tail : List Entry) → s ≤ k → s ≤ length stored → take k (take s stored ++ tail) ≡ take s stored ++ take (k - s) tail
cut_high s k stored tail high there = taken_past (take s stored) tail k s (omega (arith, length-take s stored, there)) high

-- ---- a part of a log, entry by entry

taken_next : {A : Type 0} (xs : List A) (n : ℕ) (x : A) → slice_get xs n ≡ Some x → take (suc n) xs ≡ take n xs ++ x ∷ []
taken_next [] n x h = absurd (cc h)
taken_next (y ∷ xs) zero x h = let e : y ≡ x = cc in ap (λ z. z ∷ []) e
taken_next (y ∷ xs) (suc n) x h = ap (λ zs. y ∷ zs) (taken_next xs n x h)

there : {A : Type 0} (xs : List A) (i : ℕ) → i < length xs → slice_get xs i ≡ None → ⊥
there [] i lt gone = omega (arith, lt)
there (x ∷ xs) zero lt gone = cc gone
there (x ∷ xs) (suc i) lt gone = there xs i (omega (arith, lt)) gone

pub seen_more : (log : List Entry) (before place : ℕ) (e : Entry) → before ≤ place → nth log (place + 1) ≡ Some e → take ((place + 1) - before) (drop before log) ≡ take (place - before) (drop before log) ++ e ∷ []
seen_more log before place e low got =
    let more : (place + 1) - before ≡ suc (place - before) = omega (arith, low) in
    let next : place + 1 ≡ suc place = omega arith in
    let there : slice_get log place ≡ Some e = subst (λ n. nth log n ≡ Some e) next got in
    let at : before + (place - before) ≡ place = omega (arith, low) in
    rw more (taken_next (drop before log) (place - before) e (got_dropped log before (place - before) ∙ ap (slice_get log) at ∙ there))
