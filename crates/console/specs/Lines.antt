-- A line of at most 9,000 bytes. What has come of a line is its bytes, or nothing once there were more than 9,000.
use Rattle.std.specs.Prelude.{ℕ, cond, List, [], ◌∷◌, ◌++◌, length, Some, None, Option, nat_lt}

-- one byte more
abbrev pub with_byte : Option (List ℕ) → ℕ → Option (List ℕ)
with_byte None byte = None
with_byte (Some bytes) byte = cond (nat_lt (length bytes) 9000) (Some (bytes ++ (byte ∷ []))) None
