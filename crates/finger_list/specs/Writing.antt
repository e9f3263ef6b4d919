-- What the writes of links do, entry by entry.
use Rattle.std.specs.Prelude.{◌≡◌, ℕ, zero, suc, ◌+◌, ◌-◌, ◌<◌, ◌≤◌, cond, List, [], ◌∷◌, length, ◌==◌, ◌≢◌}
use Rattle.finger_list.specs.declared.entry.Entry.{Entry}
use Rattle.finger_list.specs.Entries.{height_at, number_at, next_at, prev_at}

-- the entries with another link up at i
abbrev pub with_next : {X : Type 0} → List (Entry X) → ℕ → ℕ → List (Entry X)
with_next [] i x = []
with_next (e ∷ es) zero x = record { height = e.height; number = e.number; next = x; prev = e.prev } ∷ es
with_next (e ∷ es) (suc i) x = e ∷ with_next es i x

-- the entries with another link down at i
abbrev pub with_prev : {X : Type 0} → List (Entry X) → ℕ → ℕ → List (Entry X)
with_prev [] i x = []
with_prev (e ∷ es) zero x = record { height = e.height; number = e.number; next = e.next; prev = x } ∷ es
with_prev (e ∷ es) (suc i) x = e ∷ with_prev es i x

-- the link x, when the entry `from` becomes the entry `to`
abbrev pub by_name : ℕ → ℕ → ℕ → ℕ
by_name from to x = cond (x == from) to x

-- h is held once in a new entry above a; all else is as it was
pub record Inserted {X : Type 0} (es fs : List (Entry X)) (used a : ℕ) (h : X) : Type 0 where
  pub size : length fs ≡ length es
  pub height : (d : Entry X) → height_at fs d (used + 1) ≡ h
  pub heights : (d : Entry X) (j : ℕ) → j ≤ used → height_at fs d j ≡ height_at es d j
  pub number : (d : Entry X) → number_at fs d (used + 1) ≡ 1
  pub numbers : (d : Entry X) (j : ℕ) → j ≤ used → number_at fs d j ≡ number_at es d j
  pub next_a : (d : Entry X) → next_at fs d a ≡ used + 1
  pub next_n : (d : Entry X) → next_at fs d (used + 1) ≡ next_at es d a
  pub nexts : (d : Entry X) (j : ℕ) → j ≤ used → (j ≢ a) → next_at fs d j ≡ next_at es d j
  pub prev_k : (d : Entry X) → prev_at fs d (next_at es d a) ≡ used + 1
  pub prev_n : (d : Entry X) → prev_at fs d (used + 1) ≡ a
  pub prevs : (d : Entry X) (j : ℕ) → j ≤ used → (j ≢ next_at es d a) → prev_at fs d j ≡ prev_at es d j

-- the neighbours of r are linked to each other; all else is as it was
pub record Unlinked {X : Type 0} (es fs : List (Entry X)) (r : ℕ) : Type 0 where
  pub size : length fs ≡ length es
  pub heights : (d : Entry X) (j : ℕ) → height_at fs d j ≡ height_at es d j
  pub numbers : (d : Entry X) (j : ℕ) → number_at fs d j ≡ number_at es d j
  pub next_a : (d : Entry X) → next_at fs d (prev_at es d r) ≡ next_at es d r
  pub nexts : (d : Entry X) (j : ℕ) → (j ≢ prev_at es d r) → next_at fs d j ≡ next_at es d j
  pub prev_k : (d : Entry X) → prev_at fs d (next_at es d r) ≡ prev_at es d r
  pub prevs : (d : Entry X) (j : ℕ) → (j ≢ next_at es d r) → prev_at fs d j ≡ prev_at es d j

-- linked, but for the entry r, to which no link leads
abbrev pub Half : {X : Type 0} → List (Entry X) → ℕ → ℕ → Type 0
Half {X} es used r =
    (used ≤ length es - 1) × (used ≤ 1048576)
    × ((i : ℕ) (d : Entry X) → i ≤ used → i < length es → (i ≢ r)
    → (next_at es d i ≤ used) × (prev_at es d i ≤ used) × (number_at es d i ≤ 1048576)
    × (next_at es d (prev_at es d i) ≡ i) × (prev_at es d (next_at es d i) ≡ i)
    × (next_at es d i ≢ r) × (prev_at es d i ≢ r))

-- the last entry m has become the entry r
pub record Relocated {X : Type 0} (es fs : List (Entry X)) (m r : ℕ) : Type 0 where
  pub size : length fs ≡ length es
  pub heights : (d : Entry X) (j : ℕ) → j < m → height_at fs d j ≡ height_at es d (by_name r m j)
  pub numbers : (d : Entry X) (j : ℕ) → j < m → number_at fs d j ≡ number_at es d (by_name r m j)
  pub nexts : (d : Entry X) (j : ℕ) → j < m → next_at fs d j ≡ by_name m r (next_at es d (by_name r m j))
  pub prevs : (d : Entry X) (j : ℕ) → j < m → prev_at fs d j ≡ by_name m r (prev_at es d (by_name r m j))
