-- What any bytes read as: those that are not as many as the kind stores are no height.
use Rattle.std.specs.Prelude.{ℕ, cond, List, length, Ok, Err, Result, ◌==◌}
use Rattle.heights.specs.declared.height.Unread.{Unread}
use Rattle.heights.specs.declared.height.Unread.TheVariants.{Length, Cause}

-- a reading, with its cause as one of the reasons for not reading
abbrev pub blamed : {X C : Type 0} → Result X C → Result X (Unread C)
blamed (Ok h) = Ok h
blamed (Err c) = Err (Cause c)

-- what bytes read as where a height takes `wide` of them
abbrev pub exactly : {X C : Type 0} → ℕ → (List ℕ → Result X C) → List ℕ → Result X (Unread C)
exactly wide reads bytes = cond (length bytes == wide) (blamed (reads bytes)) (Err Length)
