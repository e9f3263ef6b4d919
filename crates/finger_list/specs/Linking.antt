-- When entries are linked, when their links are those of the order, and where a height stands among them.
use Rattle.std.specs.Prelude.{◌≡◌, ℕ, ◌-◌, ◌<◌, ◌≤◌, Bool, true, false, cond, not, List, length, ◌==◌}
use Rattle.finger_list.specs.declared.entry.Entry.{Entry}
use Rattle.finger_list.specs.Entries.{height_at, number_at, next_at, prev_at}

-- whatever the order: the links lead to the end or to entries in use, up and down are each other's inverse, the numbers are small
abbrev pub Linked : {X : Type 0} → List (Entry X) → ℕ → Type 0
Linked {X} es used =
    (used ≤ length es - 1) × (used ≤ 1048576)
    × ((i : ℕ) (d : Entry X) → i ≤ used → i < length es
    → (next_at es d i ≤ used) × (prev_at es d i ≤ used) × (number_at es d i ≤ 1048576)
    × (next_at es d (prev_at es d i) ≡ i) × (prev_at es d (next_at es d i) ≡ i))

-- x is not higher than the entry i; nothing is so at the end of the list
abbrev pub not_past : {X : Type 0} → (X → X → Bool) → (ℕ → X) → ℕ → X → Bool
not_past le H i x = cond (i == 0) false (le x (H i))

-- x is not lower than the entry k; nothing is so at the end of the list
abbrev pub onwards : {X : Type 0} → (X → X → Bool) → (ℕ → X) → ℕ → X → Bool
onwards le H k x = cond (k == 0) false (le (H k) x)

-- i and k are neighbours in the order: each height of the entries L is either not past i or from k on
abbrev pub Neighbours : {X : Type 0} → (X → X → Bool) → (ℕ → X) → (ℕ → Type 0) → ℕ → ℕ → Type 0
Neighbours le H L i k = (j : ℕ) → 0 < j → L j → onwards le H k (H j) ≡ not (not_past le H i (H j))

-- heights H and links up N over the entries L: each links to its neighbour in the order, and no two are level
pub record Chain {X : Type 0} (le : X → X → Bool) (H : ℕ → X) (N : ℕ → ℕ) (L : ℕ → Type 0) : Type 0 where
  pub up : (i : ℕ) → L i → Neighbours le H L i (N i)
  pub apart : (i j : ℕ) → 0 < i → L i → 0 < j → L j → le (H i) (H j) ≡ true → le (H j) (H i) ≡ true → i ≡ j

-- two entries in use are neighbours in the order
abbrev pub Adjacent : {X : Type 0} → (X → X → Bool) → List (Entry X) → ℕ → Entry X → ℕ → ℕ → Type 0
Adjacent le es used d = Neighbours le (height_at es d) (λ j. j ≤ used)

-- the entries in use are linked in their order, and no two are level
abbrev pub InOrder : {X : Type 0} → (X → X → Bool) → List (Entry X) → ℕ → Type 0
InOrder {X} le es used = (d : Entry X) → Chain le (height_at es d) (next_at es d) (λ j. j ≤ used)

-- among the entries L, i is the last that is not higher than p, or the end
abbrev pub Stands : {X : Type 0} → (X → X → Bool) → (ℕ → X) → (ℕ → Type 0) → X → ℕ → Type 0
Stands le H L p i = (j : ℕ) → 0 < j → L j → le (H j) p ≡ not_past le H i (H j)

-- the height p stands at the link i: the last entry in use that is not higher, or the end
abbrev pub StandsAt : {X : Type 0} → (X → X → Bool) → List (Entry X) → ℕ → X → ℕ → Type 0
StandsAt {X} le es used p i = (d : Entry X) → Stands le (height_at es d) (λ j. j ≤ used) p i
