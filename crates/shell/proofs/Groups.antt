-- Lemmas on the flight files of a group.
use Rattle.std.proofs.Common.{◌≡◌, ◌≢◌, ◌≤◌, ◌<◌, ◌+◌, ◌-◌, ◌∙◌, inl, inr, ℕ, zero, suc, List, [], ◌∷◌, ◌++◌, length, get_or, map, take, ap, sym, subst, refl, arith, length-append}
use Rattle.std.specs.Prelude.{IsPermutation, Ok, Result, Err, IfErr, string_bytes, ◌⊎◌}
use Rattle.fault.specs.declared.refusal.Refusal.{Refusal}
use Rattle.fault.specs.declared.refusal.Refusal.TheVariants.{NoMemory, BadFlight}
use Rattle.std.proofs.lemmas.List.{get_or_append_left, get_or_at}
use Rattle.schemaread.specs.Schemas.{SchemaSays}
use Rattle.std.specs.List.{All, AllZip, Contains}
use Rattle.std.specs.declared.string.String.{String}
use Rattle.std.specs.declared.alloc.Global.{Global}
use Rattle.std.proofs.lemmas.List.{get_or-map, length-map, length_push, append-nil, take_more}
use Rattle.std.proofs.lemmas.List.Elements.{All-append, All-contains, All-map, Contains-get_or}
use Rattle.std.proofs.lemmas.List.Sorted.{IsPermutation-sym, IsPermutation-map, IsPermutation-pop_more, All-permutation, Contains-permutation, length_permutation}
use Rattle.std.proofs.lemmas.Bool.{cases_lt}
use Rattle.flight.specs.Contents.{FlightContents, in_flight, in_life}
use Rattle.flight.specs.Files.{IsFileOf, IsOnlyOf, IsNoFile}
use Rattle.flight.specs.Ranges.{IsFlight}
use Rattle.flight.specs.Spelling.{flight_text}
use Rattle.flight.specs.declared.flight.Flight.{Flight}
use Rattle.flight.specs.declared.flight.Answered.{Answered}
use Rattle.flight.specs.declared.flight.Version.{Version}
use Rattle.flight.specs.declared.flight.Version.TheVariants.{Two}
use Rattle.flight.specs.declared.life.Life.{Life}
use Rattle.std.specs.declared.vec.Vec.{Vec}
use Rattle.sqlchecks.specs.Columns.{Tables}
use Rattle.shell.specs.Group.{AreFilesOf, AreHeld, IsNoGroup}
use Rattle.shell.specs.Reading.{IsRead, AreRead, InOrder, LacksNode}

blank : FlightContents
blank = record { version = Two; node = 0; members = 0; schema = []; lives = []; answers = [] }

-- ---- lists

-- an element of a mapped list comes from one of the list
pub from_map : {X Y : Type 0} (f : X → Y) (d : X) (xs : List X) (y : Y) → Contains (map f xs) y → (x : X) × Contains xs x × (f x ≡ y)
from_map f d xs y (k, less, is) =
    let within : k < length xs = subst (λ n. k < n) (length-map xs f) less in
    (get_or xs k d, Contains-get_or xs k d within, sym (get_or-map f xs k d y within) ∙ is)

pub to_map : {X Y : Type 0} (f : X → Y) (xs : List X) (x : X) → Contains xs x → Contains (map f xs) (f x)
to_map f xs x (k, less, is) =
    let within : k < length (map f xs) = subst (λ n. k < n) (sym (length-map xs f)) less in
    (k, within, get_or-map f xs k x (f x) less ∙ ap f is)

-- ---- two lists in step

module _ {X Y : Type 0} (R : X → Y → Type 0) where
  pub zip_push : (xs : List X) (ys : List Y) (x : X) (y : Y) → AllZip R xs ys → R x y → AllZip R (xs ++ x ∷ []) (ys ++ y ∷ [])
  zip_push [] [] x y zip here = (here, tt)
  zip_push [] (b ∷ ys) x y zip here = absurd zip
  zip_push (a ∷ xs) [] x y zip here = absurd zip
  zip_push (a ∷ xs) (b ∷ ys) x y (first, zip) here = (first, zip_push xs ys x y zip here)

  pub zip_more : (xs : List X) (ys : List Y) (i : ℕ) (x : X) (y : Y) → i < length xs → x ≡ get_or xs i x → AllZip R (take i xs) ys → R x y → AllZip R (take (i + 1) xs) (ys ++ y ∷ [])
  zip_more xs ys i x y less is zip here =
      subst (λ zs. AllZip R zs (ys ++ y ∷ [])) (sym (take_more xs i x less)) (subst (λ z. AllZip R (take i xs ++ z ∷ []) (ys ++ y ∷ [])) is (zip_push (take i xs) ys x y zip here))

  pub zip_length : (xs : List X) (ys : List Y) → AllZip R xs ys → length xs ≡ length ys
  zip_length [] [] zip = refl
  zip_length [] (b ∷ ys) zip = absurd zip
  zip_length (a ∷ xs) [] zip = absurd zip
  zip_length (a ∷ xs) (b ∷ ys) (first, zip) = ap suc (zip_length xs ys zip)

  pub zip_get : (xs : List X) (ys : List Y) (k : ℕ) (d : X) (e : Y) → AllZip R xs ys → k < length xs → R (get_or xs k d) (get_or ys k e)
  zip_get [] [] k d e zip less = absurd (omega (arith, less))
  zip_get [] (b ∷ ys) k d e zip less = absurd zip
  zip_get (a ∷ xs) [] k d e zip less = absurd zip
  zip_get (a ∷ xs) (b ∷ ys) zero d e (first, zip) less = first
  zip_get (a ∷ xs) (b ∷ ys) (suc k) d e (first, zip) less = zip_get xs ys k d e zip (omega (arith, less))

-- ---- texts and flights

module _ (texts : List (List ℕ)) (version : Version) (tables : Tables) (flights : List FlightContents) (are : AreFilesOf texts version tables flights) where
  -- each text is the file of a flight
  pub file_of : (t : List ℕ) → Contains texts t → (g : FlightContents) × Contains flights g × IsFileOf t g
  file_of t has =
      let found : (g : FlightContents) × Contains flights g × (flight_text g ≡ t) = from_map flight_text blank flights t (Contains-permutation texts (map flight_text flights) t are.files has) in
      let good : IsFlight found.0 × (found.0.version ≡ version) × (found.0.members ≡ length flights) × (found.0.schema ≡ are.schema) = All-contains (λ f. IsFlight f × (f.version ≡ version) × (f.members ≡ length flights) × (f.schema ≡ are.schema)) flights found.0 are.each found.1 in
      (found.0, found.1, (good.0, sym found.2))

  -- each flight's file is a text
  pub text_of : (g : FlightContents) → Contains flights g → Contains texts (flight_text g)
  text_of g has = Contains-permutation (map flight_text flights) texts (flight_text g) (IsPermutation-sym texts (map flight_text flights) are.files) (to_map flight_text flights g has)

  pub as_many : length flights ≡ length texts
  as_many = sym (length-map flights flight_text) ∙ length_permutation texts (map flight_text flights) are.files

-- a text that is no flight's file is of no group
pub no_file : (texts : List (List ℕ)) (t : List ℕ) → Contains texts t → ((g : FlightContents) → IsFileOf t g → ⊥) → IsNoGroup texts
no_file texts t has none version tables flights are = let found : (g : FlightContents) × Contains flights g × IsFileOf t g = file_of texts version tables flights are t has in none found.0 found.2

-- ---- the order of nodes

pub lacks_node : (fs done left : List Flight) (at : ℕ) → IsPermutation fs (done ++ left) → InOrder done → length done ≡ at → at < length fs
    → All (λ f. f.node ≢ at + 1) left → LacksNode fs
lacks_node fs done left at moved ordered is less none =
    let others : All (λ (f : Flight). f.node ≢ at + 1) done = λ k d b e. let h : (get_or done k d).node ≡ k + 1 = ordered k d b in omega (arith, h, e, b, is) in
    (at + 1, omega arith, omega arith, All-permutation (λ (f : Flight). f.node ≢ at + 1) (done ++ left) fs (IsPermutation-sym fs (done ++ left) moved) (All-append (λ (f : Flight). f.node ≢ at + 1) done left others none))

pub in_order_more : (done : List Flight) (x : Flight) → InOrder done → x.node ≡ length done + 1 → InOrder (done ++ x ∷ [])
in_order_more done x ordered is k d b =
    let l : length (done ++ x ∷ []) ≡ length done + 1 = length_push done x in
    elim (cases_lt k (length done)) [
      | inl h ↦ rw (get_or_append_left done (x ∷ []) d k h) (ordered k d h)
      | inr h ↦ let e : k ≡ length done = omega (arith, h, b, l) in rw e (rw (get_or_at done x [] d (length done) refl) is)
    ]

pub taken : (fs done left rest : List Flight) (i : ℕ) (x : Flight) → IsPermutation fs (done ++ left) → i < length left → x ≡ get_or left i x → IsPermutation left (x ∷ rest) → IsPermutation fs ((done ++ x ∷ []) ++ rest)
taken fs done left rest i x moved less is out = IsPermutation-pop_more fs done left rest x moved out

-- once as many are taken none is left
pub none_left : (fs done left : List Flight) → IsPermutation fs (done ++ left) → length done ≡ length fs → IsPermutation fs done
none_left fs done [] moved is = subst (IsPermutation fs) (append-nil done) moved
none_left fs done (x ∷ left) moved is =
    let h : length (done ++ x ∷ left) ≡ length fs = length_permutation fs (done ++ x ∷ left) moved in
    absurd (omega (arith, h, length-append done (x ∷ left), is))

-- ---- what was read

pub file_texts : (texts : List (String Global)) (fs : List Flight) → AreRead texts fs → map string_bytes texts ≡ map flight_text (map in_flight fs)
file_texts [] [] read = refl
file_texts [] (f ∷ fs) read = absurd read
file_texts (x ∷ texts) [] read = absurd read
file_texts (x ∷ texts) (f ∷ fs) (here, rest) =
    let h : string_bytes x ≡ flight_text (in_flight f) = here.0.1 in
    let t : map string_bytes texts ≡ map flight_text (map in_flight fs) = file_texts texts fs rest in
    cc

pub read_of : (texts : List (String Global)) (fs : List Flight) → AreRead texts fs → (f : Flight) → Contains fs f → (x : String Global) × Contains texts x × IsRead x f
read_of [] [] read f (k, less, is) = absurd (omega (arith, less))
read_of [] (g ∷ fs) read f has = absurd read
read_of (x ∷ texts) [] read f has = absurd read
read_of (x ∷ texts) (g ∷ fs) read f (k, less, is) =
    let within : k < length (x ∷ texts) = omega (arith, less, zip_length IsRead (x ∷ texts) (g ∷ fs) read) in
    (get_or (x ∷ texts) k x, Contains-get_or (x ∷ texts) k x within, subst (IsRead (get_or (x ∷ texts) k x)) is (zip_get IsRead (x ∷ texts) (g ∷ fs) k x f read within))

pub flight_of : (texts : List (String Global)) (fs : List Flight) → AreRead texts fs → (t : List ℕ) → Contains (map string_bytes texts) t
    → (f : Flight) × Contains fs f × IsFileOf t (in_flight f) × IsOnlyOf t (in_flight f)
flight_of [] [] read t (k, less, is) = absurd (omega (arith, less))
flight_of [] (g ∷ fs) read t has = absurd read
flight_of (x ∷ texts) [] read t has = absurd read
flight_of (x ∷ texts) (g ∷ fs) read t (k, less, is) =
    let within : k < length (x ∷ texts) = omega (arith, less, length-map (x ∷ texts) (string_bytes {Z = Global})) in
    let inside : k < length (g ∷ fs) = omega (arith, within, zip_length IsRead (x ∷ texts) (g ∷ fs) read) in
    let y : String Global = get_or (x ∷ texts) k x in
    let f : Flight = get_or (g ∷ fs) k g in
    let same : string_bytes y ≡ t = sym (get_or-map string_bytes (x ∷ texts) k x t within) ∙ is in
    let both : IsRead y f = zip_get IsRead (x ∷ texts) (g ∷ fs) k x g read within in
    (f, Contains-get_or (g ∷ fs) k g inside, subst (λ b. IsFileOf b (in_flight f)) same both.0, subst (λ b. IsOnlyOf b (in_flight f)) same both.1)

module _ (texts : List (String Global)) (fs : List Flight) (read : AreRead texts fs) where
  abbrev bytes : List (List ℕ)
  bytes = map string_bytes texts

  as_many_read : length bytes ≡ length fs
  as_many_read = length-map texts string_bytes ∙ zip_length IsRead texts fs read

  -- what is read of the files of a group is of its version and of as many members, and has its schema
  pub alike : (version : Version) (tables : Tables) (flights : List FlightContents) (are : AreFilesOf bytes version tables flights) (f : Flight) → Contains fs f
      → (f.version ≡ version) × (f.members ≡ length fs) × (f.schema ≡ are.schema)
  alike version tables flights are f has =
      let from : (x : String Global) × Contains texts x × IsRead x f = read_of texts fs read f has in
      let found : (g : FlightContents) × Contains flights g × IsFileOf (string_bytes from.0) g = file_of bytes version tables flights are (string_bytes from.0) (to_map string_bytes texts from.0 from.1) in
      let good : IsFlight found.0 × (found.0.version ≡ version) × (found.0.members ≡ length flights) × (found.0.schema ≡ are.schema) = All-contains (λ g. IsFlight g × (g.version ≡ version) × (g.members ≡ length flights) × (g.schema ≡ are.schema)) flights found.0 are.each found.1 in
      let same : found.0 ≡ in_flight f = from.2.1 found.0 found.2 in
      (ap (λ g. g.version) (sym same) ∙ good.1, ap (λ g. g.members) (sym same) ∙ good.2 ∙ as_many bytes version tables flights are ∙ as_many_read, ap (λ g. g.schema) (sym same) ∙ good.3)

  pub none_unlike : (first : Flight) → Contains fs first → (All (λ f. (f.version ≡ first.version) × (f.members ≡ length fs) × (f.schema ≡ first.schema)) fs → ⊥) → IsNoGroup bytes
  none_unlike first has unlike version tables flights are =
      let mine : (first.version ≡ version) × (first.members ≡ length fs) × (first.schema ≡ are.schema) = alike version tables flights are first has in
      unlike (λ k d b.
      let its : ((get_or fs k d).version ≡ version) × ((get_or fs k d).members ≡ length fs) × ((get_or fs k d).schema ≡ are.schema) = alike version tables flights are (get_or fs k d) (Contains-get_or fs k d b) in
      (its.0 ∙ sym mine.0, its.1, its.2 ∙ sym mine.2))

  pub none_lacking : LacksNode fs → IsNoGroup bytes
  none_lacking (k, above, most, none) version tables flights are =
      let within : k - 1 < length flights = omega (arith, above, most, as_many bytes version tables flights are, as_many_read) in
      let g : FlightContents = get_or flights (k - 1) blank in
      let has : Contains flights g = Contains-get_or flights (k - 1) blank within in
      let node : g.node ≡ k - 1 + 1 = are.nodes (k - 1) blank within in
      let found : (f : Flight) × Contains fs f × IsFileOf (flight_text g) (in_flight f) × IsOnlyOf (flight_text g) (in_flight f) = flight_of texts fs read (flight_text g) (text_of bytes version tables flights are g has) in
      let good : IsFlight g × (g.version ≡ version) × (g.members ≡ length flights) × (g.schema ≡ are.schema) = All-contains (λ g. IsFlight g × (g.version ≡ version) × (g.members ≡ length flights) × (g.schema ≡ are.schema)) flights g are.each has in
      let same : g ≡ in_flight found.0 = found.3 g (good.0, refl) in
      let its : found.0.node ≡ g.node = ap (λ g. g.node) (sym same) in
      All-contains (λ (f : Flight). f.node ≢ k) fs found.0 none found.1 (omega (arith, its, node, above))

  pub none_empty : length fs ≡ 0 → IsNoGroup bytes
  none_empty is version tables flights are = omega (arith, is, as_many bytes version tables flights are, as_many_read, are.least)

  pub each_flight : (f : Flight) → Contains fs f → IsFlight (in_flight f)
  each_flight f has = (read_of texts fs read f has).2.0.0

  pub group_read : (tables : Tables) (first : Flight) → Contains fs first → All (λ f. (f.version ≡ first.version) × (f.members ≡ length fs) × (f.schema ≡ first.schema)) fs → SchemaSays first.schema (Ok tables)
      → (ordered : List Flight) → IsPermutation fs ordered → InOrder ordered → AreFilesOf bytes first.version tables (map in_flight ordered)
  group_read tables first has same says ordered moved in_order =
      let many : length (map in_flight ordered) ≡ length fs = length-map ordered in_flight ∙ length_permutation fs ordered moved in
      let P : FlightContents → Type 0 = λ g. IsFlight g × (g.version ≡ first.version) × (g.members ≡ length (map in_flight ordered)) × (g.schema ≡ first.schema) in
      let good : All (λ f. P (in_flight f)) fs = λ k d b.
      let f : Flight = get_or fs k d in
      let its : (f.version ≡ first.version) × (f.members ≡ length fs) × (f.schema ≡ first.schema) = same k d b in
      (each_flight f (Contains-get_or fs k d b), its.0, its.1 ∙ sym many, its.2) in
      let firsts : (first.version ≡ first.version) × (first.members ≡ length fs) × (first.schema ≡ first.schema) = All-contains (λ f. (f.version ≡ first.version) × (f.members ≡ length fs) × (f.schema ≡ first.schema)) fs first same has in
      let is : IsFlight (in_flight first) = each_flight first has in
      let large : 3 ≤ first.members = is.0.0 in
      record {
        least = omega (arith, large, firsts.1, many);
        schema = first.schema;
        declares = says;
        each = All-map P in_flight ordered (All-permutation (λ f. P (in_flight f)) fs ordered moved good);
        nodes = λ k d b.
            let within : k < length ordered = omega (arith, b, length-map ordered in_flight) in
            ap (λ g. g.node) (get_or-map in_flight ordered k first d within) ∙ in_order k first within;
        files = subst (λ ts. IsPermutation ts (map flight_text (map in_flight ordered))) (sym (file_texts texts fs read)) (IsPermutation-map flight_text (map in_flight fs) (map in_flight ordered) (IsPermutation-map in_flight fs ordered moved));
      }

pub unread : {T : Type 0} (r : Result T Refusal) (texts : List (String Global)) (i : ℕ) (x : String Global) → i < length texts → x ≡ get_or texts i x → IfErr r (IsNoFile (string_bytes x))
    → IfErr r (λ refusal. (refusal ≡ NoMemory) ⊎ ((refusal ≡ BadFlight) × IsNoGroup (map string_bytes texts)))
unread (Ok v) texts i x less is said = said
unread (Err e) texts i x less is (inl h) = inl h
unread (Err e) texts i x less is (inr (h, none)) =
    let has : Contains texts x = (i, less, sym is) in
    inr (h, no_file (map string_bytes texts) (string_bytes x) (to_map string_bytes texts x has) none)

pub lacking : {T : Type 0} (r : Result T Refusal) (texts : List (String Global)) (fs : List Flight) → AreRead texts fs → IfErr r (λ refusal. (refusal ≡ NoMemory) ⊎ ((refusal ≡ BadFlight) × LacksNode fs))
    → IfErr r (λ refusal. (refusal ≡ NoMemory) ⊎ ((refusal ≡ BadFlight) × IsNoGroup (map string_bytes texts)))
lacking (Ok v) texts fs read said = said
lacking (Err e) texts fs read (inl h) = inl h
lacking (Err e) texts fs read (inr (h, none)) = inr (h, none_lacking texts fs read none)

-- ---- what flights hold

held_lives : (fs : List Flight) → map (λ (own : Vec Life Global). map in_life own.items) (map (λ (f : Flight). f.lives) fs) ≡ map (λ (f : FlightContents). f.lives) (map in_flight fs)
held_lives [] = refl
held_lives (f ∷ fs) = ap (λ rest. map in_life f.lives.items ∷ rest) (held_lives fs)

held_answers : (fs : List Flight) → map (λ (own : Vec Answered Global). own.items) (map (λ (f : Flight). f.answers) fs) ≡ map (λ (f : FlightContents). f.answers) (map in_flight fs)
held_answers [] = refl
held_answers (f ∷ fs) = ap (λ rest. f.answers.items ∷ rest) (held_answers fs)

pub held : (fs : List Flight) (lives : List (Vec Life Global)) (answers : List (Vec Answered Global)) → lives ≡ map (λ (f : Flight). f.lives) fs → answers ≡ map (λ (f : Flight). f.answers) fs → AreHeld (map in_flight fs) lives answers
held fs lives answers l a = record {
  lived = rw l (held_lives fs);
  answered = rw a (held_answers fs);
}
