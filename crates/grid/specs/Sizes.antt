-- The sizes that a plan may have.
use Rattle.std.specs.Prelude.{ℕ, Bool, ◌&&◌, nat_le}

-- columns and rows are 1 to 1,024, and the radius is 1 to 255
abbrev pub lawful_sizes : (width rows radius : ℕ) → Bool
lawful_sizes width rows radius = (nat_le 1 width && nat_le width 1024) && ((nat_le 1 rows && nat_le rows 1024) && (nat_le 1 radius && nat_le radius 255))
