-- What a layer remembers, a height with its answer, and what calls do to that.
use Rattle.std.specs.Prelude.{◌≡◌, ℕ, ◌+◌, ◌-◌, min, Bool, cond, Some, None, Option}
use Rattle.heights.specs.Order.{level}
use Rattle.counters.specs.declared.counter.Asked.{Asked}
use Rattle.flat_layer.specs.declared.remembered.Remembered.{Remembered}

-- after a height was put: one more if it is not higher than the remembered one, and never more than the places
abbrev pub after_put : {X : Type 0} → (X → X → Bool) → X → ℕ → Option (Remembered X) → Option (Remembered X)
after_put le h places None = None
after_put le h places (Some m) = Some (record { height = m.height; count = cond (le h m.height) (min (m.count + 1) places) m.count })

-- after a height was taken: one less if it is not higher than the remembered one
abbrev pub after_take : {X : Type 0} → (X → X → Bool) → X → Option (Remembered X) → Option (Remembered X)
after_take le h None = None
after_take le h (Some m) = Some (record { height = m.height; count = cond (le h m.height) (m.count - 1) m.count })

-- the remembered answer, if the remembered height is level with h
abbrev pub recalled : {X : Type 0} → (X → X → Bool) → X → Option (Remembered X) → Option ℕ
recalled le h None = None
recalled le h (Some m) = cond (level le m.height h) (Some m.count) None

-- what an ask leaves and tells where an answer is recalled: that answer with 0 steps, and the counter below as it was
abbrev pub Flat : {S : Type 0} → Option ℕ → S → Asked → S → Type 0
Flat None before asked after = Unit {0}
Flat (Some n) before asked after = (asked.count ≡ n) × (asked.steps ≡ 0) × (after ≡ before)
