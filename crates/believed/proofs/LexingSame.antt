-- A text has the same tokens in both words.
use Rattle.std.proofs.Common.{◌≡◌, ℕ, ◌+◌, ◌-◌, ◌<◌, ◌≤◌, ◌&&◌, Bool, true, false, cond, Option, Some, None, List, [], ◌∷◌, length, take, drop, map, refl, sym, ap, ◌∙◌, arith, slice_index_or, ◌⊎◌, inl, inr}
use Rattle.std.specs.Prelude.{◌==◌, nat_le, option_map, find, codes, bytes_eq, slice_index, if◌then◌else◌}
use Rattle.std.specs.Char.{is_ascii_digit, is_ascii_alphabetic}
use Rattle.std.specs.List.{list_all, prefix_len}
use Rattle.std.specs.Option.{option_map_or}
use Rattle.std.specs.Cmp.Lexicographic.{pointwise}
use Rattle.std.specs.Str.{str_eq_ignore_ascii_case}
use Rattle.std.proofs.lemmas.List.Sums.{AllPass-from_list_all, list_all-from_AllPass, prefix_len_passes, prefix_len_stops, prefix_len_is}
use Rattle.std.proofs.lemmas.List.{get_or-drop, get_or_default, length-drop}
use Rattle.sqltokens.specs.declared.token.Keyword.{Keyword}
use Rattle.sqltokens.specs.declared.token.Sign.{Sign}
use Rattle.sqltokens.specs.declared.token.Sign.TheVariants.{Open, Close, Comma, Semicolon, Star, Equal, NotEqual, Less, LessEqual, Greater, GreaterEqual, Plus, Minus}
use Rattle.sqltokens.specs.declared.token.TheConstants.{KEYWORDS}
use Rattle.sqltokens.specs.What.{What, Word, Symbol, Name, Digits, Text, Stray, Piece}
use Rattle.sqltokens.specs.Lexing.{is_blank, is_word_byte, closes, keyword_in, keyword_of, word_or_name, one_sign, two_sign, sign_of}
use Rattle.sqltokens.specs.Lexing as before
use Rattle.sqltokens.specs.Classes as classes
use Rattle.believed.specs.Lexing as now

-- ---- words

word_step : {X : Type 0} (b : Bool) (k : X × Keyword) (found : Option (X × Keyword)) (other : Option Keyword) (word : List ℕ) →
    option_map_or (λ (k : X × Keyword). Word k.1) found (Name word) ≡ word_or_name other word →
    option_map_or (λ (k : X × Keyword). Word k.1) (cond b (Some k) found) (Name word) ≡ word_or_name (cond b (Some k.1) other) word
word_step true k found other word same = refl
word_step false k found other word same = same

word_by : {X : Type 0} (ks : List (X × Keyword)) (text : X → List ℕ) (word : List ℕ) →
    option_map_or (λ (k : X × Keyword). Word k.1) (find (λ (k : X × Keyword). str_eq_ignore_ascii_case (text k.0) word) ks) (Name word) ≡ word_or_name (keyword_in (map (λ (k : X × Keyword). (text k.0, k.1)) ks) word) word
word_by [] text word = refl
word_by {X} (k ∷ ks) text word = word_step (str_eq_ignore_ascii_case (text k.0) word) k (find (λ (k : X × Keyword). str_eq_ignore_ascii_case (text k.0) word) ks)
    (keyword_in (map (λ (k : X × Keyword). (text k.0, k.1)) ks) word) word (word_by ks text word)

word_same : (word : List ℕ) → now.word_what word ≡ before.word_what word
unfolding keyword_of
word_same word = word_by KEYWORDS (λ x. x.now) word

-- ---- signs

abbrev Entry : Type 0
Entry = List ℕ × Sign

abbrev sign_in : Option Entry → Option Sign
sign_in o = option_map (λ (s : Entry). s.1) o

-- an entry that is as long as the text
hit : (t : Bool) (s : Entry) (rest : Option Entry) (r : Option Sign) → sign_in rest ≡ r → sign_in (cond (t && true) (Some s) rest) ≡ cond t (Some s.1) r
hit true s rest r same = refl
hit false s rest r same = same

hit_two : (t u : Bool) (s : Entry) (rest : Option Entry) (r : Option Sign) → sign_in rest ≡ r → sign_in (cond (t && (u && true)) (Some s) rest) ≡ cond (t && u) (Some s.1) r
hit_two true true s rest r same = refl
hit_two true false s rest r same = same
hit_two false u s rest r same = same

-- and one that is not
miss : (t : Bool) (s : Entry) (rest : Option Entry) (r : Option Sign) → sign_in rest ≡ r → sign_in (cond (t && false) (Some s) rest) ≡ r
miss true s rest r same = same
miss false s rest r same = same

miss_two : (t u : Bool) (s : Entry) (rest : Option Entry) (r : Option Sign) → sign_in rest ≡ r → sign_in (cond (t && (u && false)) (Some s) rest) ≡ r
miss_two true true s rest r same = same
miss_two true false s rest r same = same
miss_two false u s rest r same = same

sign_by : (b : ℕ) (bs : List ℕ) → sign_in (find (λ (s : Entry). bytes_eq (b ∷ bs) s.0) now.signs) ≡ sign_of (b ∷ bs)
unfolding one_sign two_sign
sign_by b [] =
    hit (b == 40) (codes "(", Open) _ _ (hit (b == 41) (codes ")", Close) _ _ (hit (b == 44) (codes ",", Comma) _ _ (hit (b == 59) (codes ";", Semicolon) _ _ (hit (b == 42) (codes "*", Star) _ _
    (hit (b == 61) (codes "=", Equal) _ _ (hit (b == 60) (codes "<", Less) _ _ (hit (b == 62) (codes ">", Greater) _ _ (hit (b == 43) (codes "+", Plus) _ _ (hit (b == 45) (codes "-", Minus) _ _
    (miss (b == 60) (codes "<>", NotEqual) _ _ (miss (b == 60) (codes "<=", LessEqual) _ _ (miss (b == 62) (codes ">=", GreaterEqual) _ _ refl))))))))))))
sign_by b (c ∷ []) =
    miss (b == 40) (codes "(", Open) _ _ (miss (b == 41) (codes ")", Close) _ _ (miss (b == 44) (codes ",", Comma) _ _ (miss (b == 59) (codes ";", Semicolon) _ _ (miss (b == 42) (codes "*", Star) _ _
    (miss (b == 61) (codes "=", Equal) _ _ (miss (b == 60) (codes "<", Less) _ _ (miss (b == 62) (codes ">", Greater) _ _ (miss (b == 43) (codes "+", Plus) _ _ (miss (b == 45) (codes "-", Minus) _ _
    (hit_two (b == 60) (c == 62) (codes "<>", NotEqual) _ _ (hit_two (b == 60) (c == 61) (codes "<=", LessEqual) _ _ (hit_two (b == 62) (c == 61) (codes ">=", GreaterEqual) _ _ refl))))))))))))
sign_by b (c ∷ d ∷ bs) =
    miss (b == 40) (codes "(", Open) _ _ (miss (b == 41) (codes ")", Close) _ _ (miss (b == 44) (codes ",", Comma) _ _ (miss (b == 59) (codes ";", Semicolon) _ _ (miss (b == 42) (codes "*", Star) _ _
    (miss (b == 61) (codes "=", Equal) _ _ (miss (b == 60) (codes "<", Less) _ _ (miss (b == 62) (codes ">", Greater) _ _ (miss (b == 43) (codes "+", Plus) _ _ (miss (b == 45) (codes "-", Minus) _ _
    (miss_two (b == 60) (c == 62) (codes "<>", NotEqual) _ _ (miss_two (b == 60) (c == 61) (codes "<=", LessEqual) _ _ (miss_two (b == 62) (c == 61) (codes ">=", GreaterEqual) _ _ refl))))))))))))

mark_by : (o : Option Entry) → option_map (λ (s : Entry). Symbol s.1) o ≡ option_map Symbol (sign_in o)
mark_by None = refl
mark_by (Some s) = refl

mark_same : (b : ℕ) (bs : List ℕ) → option_map (λ (s : Entry). Symbol s.1) (find (λ (s : Entry). bytes_eq (b ∷ bs) s.0) now.signs) ≡ option_map Symbol (sign_of (b ∷ bs))
mark_same b bs = mark_by (find (λ (s : Entry). bytes_eq (b ∷ bs) s.0) now.signs) ∙ ap (λ o. option_map Symbol o) (sign_by b bs)

-- ---- tokens

token_same : (bytes : List ℕ) → now.token_of bytes ≡ before.token_of bytes
unfolding now.token_of before.token_of
token_same [] = refl
token_same (b ∷ bs) = λ i.
    if is_ascii_alphabetic b then (if list_all is_word_byte bs && nat_le (length bs) 31 then Some (word_same (b ∷ bs) i) else None)
    else if is_ascii_digit b then (if list_all is_ascii_digit bs then Some (Digits (b ∷ bs)) else None)
    else if b == 39 then (if closes bs then Some (Text (take (length bs - 1) bs)) else None)
    else mark_same b bs i

longest_now : (bytes : List ℕ) (n : ℕ) (w : What) → before.IsLongest bytes n w → now.IsLongest bytes n w
longest_now bytes n w x = (x.within, token_same (take n bytes) ∙ x.is, λ m l k. token_same (take m bytes) ∙ x.longest m l k)

longest_before : (bytes : List ℕ) (n : ℕ) (w : What) → now.IsLongest bytes n w → before.IsLongest bytes n w
longest_before bytes n w x = record { within = x.0; is = sym (token_same (take n bytes)) ∙ x.1; longest = λ m l k. sym (token_same (take m bytes)) ∙ x.2 m l k }

abbrev NoneNow : List ℕ → Type 0
NoneNow bytes = (m : ℕ) → m ≤ length bytes → now.token_of (take m bytes) ≡ None

none_now : (bytes : List ℕ) → before.BeginsNone bytes → NoneNow bytes
none_now bytes x = λ m l. token_same (take m bytes) ∙ x m l

none_before : (bytes : List ℕ) → NoneNow bytes → before.BeginsNone bytes
none_before bytes x = λ m l. sym (token_same (take m bytes)) ∙ x m l

-- ---- blanks

-- a byte behind a place
behind : (text : List ℕ) (from k : ℕ) → from ≤ k → slice_index_or (drop from text) (k - from) 0 ≡ slice_index text k
behind text from k l = get_or-drop from text (k - from) 0 ∙ ap (λ j. slice_index text j) (let e : from + (k - from) ≡ k = omega (arith, l) in e)

blank_now : (text : List ℕ) (from : ℕ) → before.AreBlank text from (length text) → list_all is_blank (drop from text) ≡ true
blank_now text from x = list_all-from_AllPass is_blank (drop from text) (λ k d l.
    let long : length (drop from text) ≡ length text - from = length-drop from text in
    let here : from + k < length text = omega (arith, l, long) in
    ap is_blank (get_or-drop from text k d ∙ get_or_default text (from + k) d 0 here) ∙ x (from + k) (omega arith) here)

blank_before : (text : List ℕ) (from : ℕ) → list_all is_blank (drop from text) ≡ true → before.AreBlank text from (length text)
blank_before text from x = λ k l m.
    let long : length (drop from text) ≡ length text - from = length-drop from text in
    ap is_blank (sym (behind text from k l)) ∙ AllPass-from_list_all is_blank (drop from text) x (k - from) 0 (omega (arith, l, m, long))

next_now : (text : List ℕ) (from at : ℕ) → before.IsNext text from at → (at ≡ from + prefix_len is_blank (drop from text)) × (at < length text)
next_now text from at x =
    let long : length (drop from text) ≡ length text - from = length-drop from text in
    let l = x.within.0 in
    let m = x.within.1 in
    let is : prefix_len is_blank (drop from text) ≡ at - from = prefix_len_is is_blank (drop from text) (at - from) 0 (omega (arith, l, m, long))
    (λ k h. ap is_blank (get_or-drop from text k 0) ∙ x.blank (from + k) (omega arith) (omega (arith, h, l)))
    (λ h. ap is_blank (behind text from at l) ∙ x.begins) in
    (omega (arith, is, l), m)

next_before : (text : List ℕ) (from at : ℕ) → (at ≡ from + prefix_len is_blank (drop from text)) × (at < length text) → before.IsNext text from at
next_before text from at (is, m) =
    let long : length (drop from text) ≡ length text - from = length-drop from text in
    let n = prefix_len is_blank (drop from text) in
    record {
      within = (omega (arith, is), m);
      blank = λ k l h. ap is_blank (sym (behind text from k l)) ∙ prefix_len_passes is_blank (drop from text) (k - from) 0 (omega (arith, is, l, h));
      begins = ap (λ j. is_blank (slice_index text j)) is ∙ ap is_blank (sym (get_or-drop from text n 0)) ∙ prefix_len_stops is_blank (drop from text) 0 (omega (arith, is, m, long));
    }

-- ---- all tokens

more_now : (text : List ℕ) (t : Piece) (ts : List Piece) → ((n : ℕ) → before.IsTokens text (t.at + n) ts → now.IsTokens text (t.at + n) ts) →
    ((n : ℕ) × before.IsLongest (drop t.at text) n t.what × before.IsTokens text (t.at + n) ts) ⊎ (before.BeginsNone (drop t.at text) × (t.what ≡ Stray) × (ts ≡ [])) →
    ((n : ℕ) × now.IsLongest (drop t.at text) n t.what × now.IsTokens text (t.at + n) ts) ⊎ (NoneNow (drop t.at text) × (t.what ≡ Stray) × (ts ≡ []))
more_now text t ts more (inl x) = inl (x.0, longest_now (drop t.at text) x.0 t.what x.1, more x.0 x.2)
more_now text t ts more (inr x) = inr (none_now (drop t.at text) x.0, x.1, x.2)

pub tokens_now : (text : List ℕ) (from : ℕ) (ts : List Piece) → before.IsTokens text from ts → now.IsTokens text from ts
tokens_now text from [] x = blank_now text from x
tokens_now text from (t ∷ ts) (next, more) =
    let n = next_now text from t.at next in (n.0, n.1, more_now text t ts (λ k x. tokens_now text (t.at + k) ts x) more)

more_before : (text : List ℕ) (t : Piece) (ts : List Piece) → ((n : ℕ) → now.IsTokens text (t.at + n) ts → before.IsTokens text (t.at + n) ts) →
    ((n : ℕ) × now.IsLongest (drop t.at text) n t.what × now.IsTokens text (t.at + n) ts) ⊎ (NoneNow (drop t.at text) × (t.what ≡ Stray) × (ts ≡ [])) →
    ((n : ℕ) × before.IsLongest (drop t.at text) n t.what × before.IsTokens text (t.at + n) ts) ⊎ (before.BeginsNone (drop t.at text) × (t.what ≡ Stray) × (ts ≡ []))
more_before text t ts more (inl x) = inl (x.0, longest_before (drop t.at text) x.0 t.what x.1, more x.0 x.2)
more_before text t ts more (inr x) = inr (none_before (drop t.at text) x.0, x.1, x.2)

pub tokens_before : (text : List ℕ) (from : ℕ) (ts : List Piece) → now.IsTokens text from ts → before.IsTokens text from ts
tokens_before text from [] x = blank_before text from x
tokens_before text from (t ∷ ts) (at, within, more) = (next_before text from t.at (at, within), more_before text t ts (λ k x. tokens_before text (t.at + k) ts x) more)

-- ---- shapes

pub shape_same : (shape text : List ℕ) → pointwise (λ d b. if d == 100 then is_ascii_digit b else d == b) shape text ≡ classes.has_shape shape text
shape_same [] [] = refl
shape_same [] (b ∷ bs) = refl
shape_same (d ∷ ds) [] = refl
shape_same (d ∷ ds) (b ∷ bs) = ap (λ r. (if d == 100 then is_ascii_digit b else d == b) && r) (shape_same ds bs)
