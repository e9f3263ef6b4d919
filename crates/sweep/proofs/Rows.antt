-- A row's sweep, turn by turn.
use Rattle.std.proofs.Common.{◌≡◌, ℕ, ◌+◌, ◌-◌, ◌*◌, ◌<◌, ◌≤◌, min, Bool, ◌⊎◌, List, [], get_or, Some, sym, refl, ap, ◌∙◌, subst, ⊎_elim, add-mul, arith, below_more}
use Rattle.std.specs.List.{range_with_len, flat_map}
use Rattle.counters.specs.Held.{Same}
use Rattle.counters.specs.Calls.{View, Ran, still, begun}
use Rattle.counters.proofs.Tallies.{same_equal, same_sym, same_trans}
use Rattle.grid.specs.declared.CellRecord.{CellRecord}
use Rattle.grid.specs.Terrain.{Terrain, heights_of, height_at}
use Rattle.grid.specs.Window.{count_at}
use Rattle.sweep.specs.Inner.{Turned}
use Rattle.sweep.specs.Sweeping.{Swept}
use Rattle.sweep.specs.Walk.{band_top, columns_heights, taken_before, put_before, turn_calls}
use Rattle.sweep.proofs.Cells.{count_of, heights_length}
use Rattle.sweep.proofs.Lists.{joined_next}
use Rattle.sweep.proofs.Runs.{ran_then, ran_places}
use Rattle.sweep.proofs.Turns.{put_before_later, columns_at}
use Rattle.sweep.proofs.Windows.{same_window}

-- what the turns below x have left
pub record Progress {X : Type 0} (le : X → X → Bool) (t : Terrain X) (r y x : ℕ) (before after : List (CellRecord X)) (old new : View X) : Type 0 where
  pub heights : heights_of after ≡ heights_of before
  pub counts : (d : CellRecord X) (k : ℕ) → k < x → (get_or after (y * t.width + k) d).count ≡ count_at le t r (record { x = k; y = y })
  pub others : (i : ℕ) (d : CellRecord X) → ((k : ℕ) → k < x → i ≡ y * t.width + k → ⊥) → get_or after i d ≡ get_or before i d
  pub ran : Ran le old (flat_map (turn_calls t r y) (range_with_len 0 x)) new
  pub held : Same le new.held (columns_heights t r y (taken_before r x) (put_before t.width r x))

-- the columns held after a turn are those held before the next
next_held : {X : Type 0} (le : X → X → Bool) (t : Terrain X) (r y x : ℕ) → Same le (columns_heights t r y (x - r) (min t.width (x + r + 1))) (columns_heights t r y (taken_before r (x + 1)) (put_before t.width r (x + 1)))
next_held le t r y x =
    let e : x + r + 1 ≡ x + 1 + r = omega arith in
    same_equal le (columns_at t r y (x - r) (min t.width (x + r + 1)) (taken_before r (x + 1)) (put_before t.width r (x + 1)) (omega arith) (ap (min t.width) e ∙ sym (put_before_later t.width r (x + 1) (omega arith))))

-- before the first turn
pub progress_start : {X : Type 0} (le : X → X → Bool) (t : Terrain X) (r y : ℕ) (records : List (CellRecord X)) (old : View X) (first asked : X) (v : View X) → v ≡ begun old first asked → Progress le t r y 0 records records v v
progress_start {X} le t r y records old first asked v begins =
    let empty : v.held ≡ [] = ap (λ (s : View X). s.held) begins in
    let none : columns_heights t r y (taken_before r 0) (put_before t.width r 0) ≡ columns_heights t r y 0 0 = columns_at t r y (taken_before r 0) (put_before t.width r 0) 0 0 (omega arith) refl in
    record {
      heights = refl;
      counts = λ d k lt. absurd (omega arith);
      others = λ i d apart. refl;
      ran = still;
      held = same_equal le (empty ∙ sym none);
    }

-- the places are those from before begin
pub progress_places : {X : Type 0} (le : X → X → Bool) (t : Terrain X) (r y x : ℕ) (before after : List (CellRecord X)) (old new : View X) (first asked : X) (v : View X)
    → v ≡ begun old first asked → Progress le t r y x before after v new → new.places ≡ old.places
progress_places {X} le t r y x before after old new first asked v begins p = ran_places p.ran ∙ ap (λ (s : View X). s.places) begins

-- one turn more
pub progress_more : {X : Type 0} (le : X → X → Bool) (t : Terrain X) (r y x : ℕ) (before during after : List (CellRecord X)) (old new newer : View X)
    → Progress le t r y x before during old new → Turned le t r y x during after new newer → Progress le t r y (x + 1) before after old newer
progress_more le t r y x before during after old new newer p n =
    let calls = joined_next (turn_calls t r y) 0 x (x + 1) x (omega arith) refl in
    record {
      heights = n.heights ∙ p.heights;
      counts = λ d. below_more (λ k. (get_or after (y * t.width + k) d).count ≡ count_at le t r (record { x = k; y = y })) x
          (λ k lt. count_of (n.others (y * t.width + k) d (λ q. omega arith)) ∙ p.counts d k lt)
          (n.count d);
      others = λ i d apart. n.others i d (λ q. apart x (omega arith) q) ∙ p.others i d (λ k lt q. apart k (omega arith) q);
      ran = subst (λ o. Ran le old o newer) (sym calls) (ran_then p.ran n.ran);
      held = same_trans n.held (next_held le t r y x);
    }

-- after the last turn the row is swept
pub progress_end : {X : Type 0} (le : X → X → Bool) (t : Terrain X) (r y x : ℕ) (before after : List (CellRecord X)) (old new : View X) (first asked : X) (u : View X) (mileage : ℕ)
    → 0 < t.width → y < t.rows → x ≡ t.width → u ≡ begun old first asked
    → height_at t (record { x = 0; y = band_top r y }) ≡ Some first → height_at t (record { x = 0; y = y }) ≡ Some asked → mileage ≡ new.mileage
    → Progress le t r y x before after u new → Swept le t r y before after old new mileage
progress_end le t r y x before after old new first asked u mileage wide iny end begins first_is asked_is answer p =
    let w = t.width in
    let outside : (i k : ℕ) → k < x → (i < y * w) ⊎ ((y + 1) * w ≤ i) → i ≡ y * w + k → ⊥ =
    (λ i k lt apart q. ⊎_elim (λ (low : i < y * w). omega arith) (λ (high : (y + 1) * w ≤ i). omega (arith, add-mul y 1 w)) apart) in
    let last : w - 1 + 1 ≡ x = omega arith in
    let held = subst (λ k. Same le (columns_heights t r y (w - 1 - r) (min w (w - 1 + r + 1))) (columns_heights t r y (taken_before r k) (put_before w r k))) last (next_held le t r y (w - 1)) in
    record {
      heights = p.heights;
      counts = λ k d lt. p.counts d k (omega arith);
      length_is = heights_length before after p.heights;
      others = λ i d apart. p.others i d (λ k lt q. outside i k lt apart q);
      answer = answer;
      first = first;
      first_is = first_is;
      asked = asked;
      asked_is = asked_is;
      ran = subst (λ v. Ran le v (flat_map (turn_calls t r y) (range_with_len 0 w)) new) begins (subst (λ k. Ran le u (flat_map (turn_calls t r y) (range_with_len 0 k)) new) end p.ran);
      held = same_trans p.held (same_trans (same_sym held) (same_window le t r (w - 1) y (omega arith) iny));
    }

-- a sweep keeps the places
pub swept_places : {X : Type 0} {le : X → X → Bool} {t : Terrain X} {r y : ℕ} {before after : List (CellRecord X)} {old new : View X} {mileage : ℕ} → Swept le t r y before after old new mileage → new.places ≡ old.places
swept_places s = ran_places s.ran
