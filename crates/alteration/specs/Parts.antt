-- The part of a grid that is in reach of a cell.
use Rattle.std.specs.Prelude.{◌≡◌, ℕ, ◌+◌, ◌-◌, ◌*◌, ◌<◌, ◌≤◌, min, List}
use Rattle.std.specs.List.{range_with_len, flat_map}
use Rattle.grid.specs.declared.Place.{Place}
use Rattle.grid.specs.declared.Plan.{Plan}
use Rattle.alteration.specs.declared.part.Part.{Part}

-- the sizes of a plan are small enough to be summed, the place is one of its cells, and each cell has one of so many records
pub record Alterable (fitted : ℕ) (plan : Plan) (at : Place) : Type 0 where
  pub wide : plan.width ≤ 1024
  pub deep : plan.rows ≤ 1024
  pub close : plan.radius ≤ 255
  pub swept_few : plan.swept ≤ plan.rows
  pub column : at.x < plan.width
  pub row : at.y < plan.rows
  pub whole : fitted ≡ plan.width * plan.rows

-- the cells at most a radius away from a place
abbrev pub part_around : Plan → Place → Part
part_around plan at = record {
  width = plan.width;
  left = at.x - plan.radius;
  right = min plan.width (at.x + plan.radius + 1);
  top = at.y - plan.radius;
  bottom = min plan.rows (at.y + plan.radius + 1);
}

-- the columns of a part are some of a grid's, and its rows are not too many to be counted
abbrev pub Lawful : Part → Type 0
Lawful p = (p.left ≤ p.right) × (p.right ≤ p.width) × (p.width ≤ 1024) × (p.bottom ≤ 1024)

-- an index lies from one to just before another
abbrev pub Between : (start end i : ℕ) → Type 0
Between start end i = (start ≤ i) × (i < end)

-- an index is that of a cell of a part
pub record InPart (p : Part) (i : ℕ) : Type 0 where
  pub column : ℕ
  pub row : ℕ
  pub columns : Between p.left p.right column
  pub rows : Between p.top p.bottom row
  pub index : i ≡ row * p.width + column

-- the indices of the cells of a part in reading order
abbrev pub indices_of : Part → List ℕ
indices_of p = flat_map (λ y. range_with_len (y * p.width + p.left) (p.right - p.left)) (range_with_len p.top (p.bottom - p.top))
