-- Bytes as pairs of hexadecimal digits.
use Rattle.std.specs.Prelude.{◌≡◌, ℕ, ◌+◌, ◌-◌, ◌*◌, ◌%◌, ◌<◌, ◌≤◌, cond, ◌⊎◌, List, [], ◌∷◌, length, nat_lt, slice_index}

-- a byte from '0', 48, to '9', 57, or from 'A', 65, to 'F', 70
abbrev pub HexDigit : ℕ → Type 0
HexDigit c = ((48 ≤ c) × (c ≤ 57)) ⊎ ((65 ≤ c) × (c ≤ 70))

-- pairs of hexadecimal digits, at least one pair
pub record HexPairs (ds : List ℕ) : Type 0 where
  pub some : 0 < length ds
  pub even : length ds % 2 ≡ 0
  pub digits : (k : ℕ) → k < length ds → HexDigit (slice_index ds k)

-- the value of a hexadecimal digit: '0' is 0, 'A' is 10
abbrev pub hex_value : ℕ → ℕ
hex_value c = cond (nat_lt c 65) (c - 48) (c - 55)

-- the bytes that pairs of digits write, the big digit first
abbrev pub bytes_of : List ℕ → List ℕ
bytes_of [] = []
bytes_of (d ∷ []) = []
bytes_of (high ∷ (low ∷ ds)) = (16 * hex_value high + hex_value low) ∷ bytes_of ds
