-- How many rows are read for those that go and come back.
use Rattle.std.proofs.Common.{◌≡◌, ℕ, zero, suc, ◌+◌, ◌*◌, ◌≤◌, length, refl, ap, subst, ◌-◌, add-one, add-zero, add-suc, arith}
use Rattle.rowlaws.specs.Statements.{Rows}
use Rattle.current.specs.Reads.{rows_touched}

-- of rows that are left, one more is done
pub one_less : (left others k count more most : ℕ) → left ≡ others + 1 → more ≤ count + k → count + left * k ≤ most → more + others * k ≤ most
one_less left others k count more most e few before = let p = ap (λ n. n * k) e in omega (arith, p, few, before)

-- of rows that are done, there is one more
pub one_more : (n k count more old : ℕ) → more ≤ count + k → count ≤ old + n * k → more ≤ old + (n + 1) * k
one_more n k count more old few before = omega (arith, few, before)

pub product_less : (m n k : ℕ) → m ≤ n → m * k ≤ n * k
product_less m n k h = grind arith

pub up_to : (m n k count old : ℕ) → m ≤ n → count ≤ old + m * k → count ≤ old + n * k
up_to m n k count old h few = let p = product_less m n k h in omega (arith, p, few)

-- those that come back and those that are taken out
pub both_few : (removed added digits old mid new : ℕ) → mid ≤ old + added * (digits + digits + 2) → new ≤ mid + removed * digits → new ≤ old + (removed + added) * (digits + digits + 2)
both_few removed added digits old mid new out back = omega (arith, out, back)

-- ---- of several tables

pub touched_one_more : (n : ℕ) (removed added : Rows) → rows_touched (n + 1) removed added ≡ rows_touched n removed added + (length (removed n) + length (added n))
touched_one_more n removed added = rw add-one refl

touched_up : (m k : ℕ) (removed added : Rows) → rows_touched m removed added ≤ rows_touched (m + k) removed added
touched_up m zero removed added = rw add-zero (omega arith)
touched_up m (suc k) removed added = let before = touched_up m k removed added in rw add-suc (omega (arith, before))

pub touched_up_to : (m n : ℕ) (removed added : Rows) → m ≤ n → rows_touched m removed added ≤ rows_touched n removed added
touched_up_to m n removed added h =
    let e : m + (n - m) ≡ n = omega arith in
    subst (λ k. rows_touched m removed added ≤ rows_touched k removed added) e (touched_up m (n - m) removed added)

pub table_few : (n r a k old count more : ℕ) (removed added : Rows) → r ≡ length (removed n) → a ≡ length (added n) → count ≤ old + rows_touched n removed added * k → more ≤ count + (r + a) * k → more ≤ old + rows_touched (n + 1) removed added * k
table_few n r a k old count more removed added went came before few =
    let e = ap (λ m. m * k) (touched_one_more n removed added) in
    let here : (r + a) * k ≡ (length (removed n) + length (added n)) * k = rw (went, came) refl in
    omega (arith, e, here, before, few)
