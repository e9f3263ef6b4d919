-- Numbers as the console reads them.
use Rattle.std.specs.Prelude.{◌≡◌, ℕ, ◌+◌, ◌-◌, ◌*◌, ◌<◌, ◌≤◌, List, length, fold, slice_index}

-- a decimal digit: a byte from '0', 48, to '9', 57
abbrev pub Digit : ℕ → Type 0
Digit c = (48 ≤ c) × (c ≤ 57)

-- one to seven decimal digits
pub record Numeral (ds : List ℕ) : Type 0 where
  pub some : 0 < length ds
  pub few : length ds ≤ 7
  pub digits : (k : ℕ) → k < length ds → Digit (slice_index ds k)

-- the number that decimal digits write
abbrev pub value_of : List ℕ → ℕ
value_of ds = fold (λ n c. 10 * n + (c - 48)) 0 ds

-- the text ds is a way to write the number n
abbrev pub Writes : List ℕ → ℕ → Type 0
Writes ds n = Numeral ds × (n ≡ value_of ds)
