-- Words of the search for the nearest higher cell.
use Rattle.std.specs.Prelude.{ℕ, ◌/◌, ◌%◌, cond, Some, None, Option, nat_le}
use Rattle.grid.specs.declared.Place.{Place}
use Rattle.grid.specs.declared.Higher.{Higher}

-- the place of the cell at an index of reading order
abbrev pub place_of : (width index : ℕ) → Place
place_of width index = record { x = index % width; y = index / width }

-- the nearer of two cells of which the second comes later in reading order
abbrev pub nearer_of : Option Higher → Higher → Option Higher
nearer_of None later = Some later
nearer_of (Some found) later = cond (nat_le found.distance later.distance) (Some found) (Some later)
