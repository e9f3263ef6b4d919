-- Partnered calls on paired boxes show the same and leave paired boxes.
use Rattle.std.proofs.Common.{◌≡◌, ℕ, ◌+◌, ◌*◌, ◌<◌, Bool, true, eqb, ltb, leb, List, [], ◌∷◌, length, is_some, is_ok, Some, None, Ok, Err, sum, Option, Result, sym, refl, ap, ◌∙◌, subst, arith}
use Rattle.std.proofs.lemmas.Option.{same_Some, none-some}
use Rattle.std.specs.List.{AllByRecursion as All}
use Rattle.std.proofs.lemmas.Bool.{and_parts, ltb-true, true≢false}
use Rattle.heights.specs.Meaning.{Storage}
use Rattle.counters.specs.Calls.{View}
use Rattle.grid.specs.declared.Place.{Place}
use Rattle.grid.specs.declared.Plan.{Plan}
use Rattle.grid.specs.declared.CellRecord.{CellRecord}
use Rattle.grid.specs.Terrain.{Inside}
use Rattle.grid.specs.Window.{count_at, window_size, share_at}
use Rattle.siting_box.specs.declared.denial.Denial.{Denial}
use Rattle.siting_box.specs.declared.told.Told.{Told}
use Rattle.grid.specs.Sizes.{lawful_sizes}
use Rattle.siting_box.specs.Contents.{Contents, well_fitted, plan_terrain, radius_of, is_swept, all_swept, Counted, total_on}
use Rattle.siting_box.specs.Stored.{read_first}
use Rattle.siting_box.specs.Denials.{number, denied_by, first_no}
use Rattle.siting_box.specs.Calls.{has_cell, row_left, has_places, open_questions, OpenLeaves, FirstUnread, alter_questions, AlterLeaves, CellUnread, sweep_questions, SweepLeaves, tell_questions, TellAnswer, share_questions, ShareAnswer, nearest_questions, NearestAnswer, total_questions}
use Rattle.siting_box.proofs.Counting.{open_keeps, alter_keeps, sweep_keeps}
use Rattle.grid.specs.Alike.{Alike}
use Rattle.agreement.proofs.Places.{same_index}
use Rattle.agreement.proofs.Ranks.{counts_agree, nearest_agree}
use Rattle.runs.specs.Calling.{Form, opens, alters, sweeps, tells, shares, nears, totals, brings}
use Rattle.runs.specs.Running.{Outcome, denied, done, swept, told, shared, nearest, cell_of, outcome_of, total_shows, StepOf}
use Rattle.runs.proofs.Couples.{Compares}
use Rattle.runs.proofs.Readings.{Coupled, first_alike, heights_alike, failures_alike, one_height}
use Rattle.runs.proofs.Denials.{open_alike, alter_alike, alter_reads}
use Rattle.runs.proofs.Boxes.{Paired, same_paired, opened_paired, altered_paired, swept_paired}
use Rattle.runs.proofs.Grids.{paired_alike}
use Rattle.runs.proofs.Counts.{paired_counts}
use Rattle.runs.proofs.Cells.{all_yes, six, unasked, no_cell, same_cell, same_denied}

-- after two calls the boxes are paired, and the outcomes are equal
pub record Together {X Y : Type 0} (P : X → Y → Type 0) (after : Contents X) (after' : Contents Y) (outcome outcome' : Outcome) : Type 0 where
  pub paired : Paired P after after'
  pub outcomes : outcome ≡ outcome'

-- the column and the row of an index
same_place : (width x y x' y' : ℕ) → x < width → x' < width → y * width + x ≡ y' * width + x' → (x ≡ x') × (y ≡ y')
same_place width x y x' y' h h' e =
    let same = same_index width (record { x = x; y = y }) (record { x = x'; y = y' }) h h' e in
    (ap (λ (p : Place). p.x) same, ap (λ (p : Place). p.y) same)

-- a cell of the plan lies in its grid
has_inside : {X : Type 0} (o : Option Plan) (records : List (CellRecord X)) (x y : ℕ) → has_cell o x y ≡ true → Inside (plan_terrain o records) (record { x = x; y = y })
has_inside None records x y e = absurd (true≢false (sym e))
has_inside (Some p) records x y e =
    let parts = and_parts (ltb x p.width) (ltb y p.rows) e in
    (ltb-true x p.width parts.0, ltb-true y p.rows parts.1)

module _ {X C Y D : Type 0} (P : X → Y → Type 0) (k : Storage X C) (k' : Storage Y D) (le : X → X → Bool) (le' : Y → Y → Bool) (before after : Contents X) (before' after' : Contents Y) (h : Paired P before before') where
  denied_together : (d : Denial C) (d' : Denial D) → after ≡ before → after' ≡ before' → number d ≡ number d' → cell_of d ≡ cell_of d' → Together P after after' (denied (number d) (cell_of d)) (denied (number d') (cell_of d'))
  denied_together d d' e e' n c = record { paired = same_paired P before after before' after' e e' h; outcomes = same_denied (number d) (number d') (cell_of d) (cell_of d') n c }

  open_together : (width rows radius : ℕ) (bytes bytes' : List ℕ) → Coupled P k k' (width * rows) bytes bytes' → (r : Result Unit (Denial C)) (r' : Result Unit (Denial D)) → denied_by r ≡ first_no (open_questions k before width rows radius bytes) → denied_by r' ≡ first_no (open_questions k' before' width rows radius bytes')
      → OpenLeaves k width rows radius bytes before after r → OpenLeaves k' width rows radius bytes' before' after' r' → Together P after after' (outcome_of (λ _. done) r) (outcome_of (λ _. done) r')
  open_together width rows radius bytes bytes' c (Ok a) (Ok a') q q' l l' =
      let asked = all_yes (open_questions k before width rows radius bytes) (sym q) in
      let read = first_alike P k k' bytes bytes' (width * rows) (c.readings asked.1.1.0) in
      let both = heights_alike P (read_first k bytes (width * rows)) (read_first k' bytes' (width * rows)) l.heights l'.heights read l.read l'.read in
      record { paired = opened_paired P k k' width rows radius bytes bytes' before after before' after' h.fitted asked.0 asked.1.0 l l' both; outcomes = refl }
  open_together width rows radius bytes bytes' c (Ok a) (Err d') q q' l l' = absurd (none-some (number d') (sym (q' ∙ sym (open_alike P k k' before before' width rows radius bytes bytes' h.fitted c) ∙ sym q)))
  open_together width rows radius bytes bytes' c (Err d) (Ok a') q q' l l' = absurd (none-some (number d) (sym (q ∙ open_alike P k k' before before' width rows radius bytes bytes' h.fitted c ∙ sym q')))
  open_together width rows radius bytes bytes' c (Err d) (Err d') q q' l l' =
      let n : number d ≡ number d' = same_Some (number d) (number d') (q ∙ open_alike P k k' before before' width rows radius bytes bytes' h.fitted c ∙ sym q') in
      denied_together d d' l.0 l'.0 n
      (same_cell (FirstUnread k width rows bytes) (FirstUnread k' width rows bytes') d d' n l.1 l'.1
      (λ cause x y cause' x' y' is-six u v.
      let long = six (lawful_sizes width rows radius) (leb (width * rows) (length before.records)) (eqb (length bytes) (width * rows * k.wide)) (is_ok (read_first k bytes (width * rows))) (sym q ∙ ap Some is-six) in
      let read = first_alike P k k' bytes bytes' (width * rows) (c.readings long) in
      same_place width x y x' y' u.0 v.0 (failures_alike P (read_first k bytes (width * rows)) (read_first k' bytes' (width * rows)) (y * width + x) (y' * width + x') cause cause' read u.1 v.1)))

  alter_together : (x y : ℕ) (bytes bytes' : List ℕ) → Coupled P k k' 1 bytes bytes' → (r : Result Unit (Denial C)) (r' : Result Unit (Denial D)) → denied_by r ≡ first_no (alter_questions k before x y bytes) → denied_by r' ≡ first_no (alter_questions k' before' x y bytes')
      → AlterLeaves k le x y bytes before after r → AlterLeaves k' le' x y bytes' before' after' r' → Together P after after' (outcome_of (λ _. done) r) (outcome_of (λ _. done) r')
  alter_together x y bytes bytes' c (Ok a) (Ok a') q q' l l' =
      let asked = all_yes (alter_questions k before x y bytes) (sym q) in
      let pair = one_height P (k.reads bytes) (k'.reads bytes') l.height l'.height (alter_reads P k k' bytes bytes' c asked.1.1.0) l.read l'.read in
      record { paired = altered_paired P k k' le le' x y bytes bytes' before after before' after' h l l' pair; outcomes = refl }
  alter_together x y bytes bytes' c (Ok a) (Err d') q q' l l' = absurd (none-some (number d') (sym (q' ∙ sym (alter_alike P k k' before before' x y bytes bytes' h.plans c) ∙ sym q)))
  alter_together x y bytes bytes' c (Err d) (Ok a') q q' l l' = absurd (none-some (number d) (sym (q ∙ alter_alike P k k' before before' x y bytes bytes' h.plans c ∙ sym q')))
  alter_together x y bytes bytes' c (Err d) (Err d') q q' l l' =
      let n : number d ≡ number d' = same_Some (number d) (number d') (q ∙ alter_alike P k k' before before' x y bytes bytes' h.plans c ∙ sym q') in
      denied_together d d' l.0 l'.0 n
      (same_cell (CellUnread k x y bytes) (CellUnread k' x y bytes') d d' n l.1 l'.1 (λ cause x₁ y₁ cause' x₂ y₂ six u v. (u.1 ∙ sym v.1, u.2 ∙ sym v.2)))

  sweep_alike : (places : ℕ) → first_no (sweep_questions before places) ≡ first_no (sweep_questions before' places)
  sweep_alike places = ap (λ (o : Option Plan). first_no ((1, is_some o) ∷ ((7, row_left o) ∷ ((8, has_places o places) ∷ [])))) h.plans

  sweep_together : (old new : View X) (old' new' : View Y) → old.places ≡ old'.places → (r : Result ℕ (Denial C)) (r' : Result ℕ (Denial D)) → denied_by r ≡ first_no (sweep_questions before old.places) → denied_by r' ≡ first_no (sweep_questions before' old'.places)
      → SweepLeaves le before after old new r → SweepLeaves le' before' after' old' new' r' → Together P after after' (outcome_of (λ _. swept) r) (outcome_of (λ _. swept) r')
  sweep_together old new old' new' e (Ok m) (Ok m') q q' l l' =
      let asked = all_yes (sweep_questions before old.places) (sym q) in
      let left : ltb l.plan.swept l.plan.rows ≡ true = ap row_left (sym l.plan_is) ∙ asked.1.0 in
      record { paired = swept_paired P le le' before after before' after' old new old' new' m m' h l l' (ltb-true l.plan.swept l.plan.rows left); outcomes = refl }
  sweep_together old new old' new' e (Ok m) (Err d') q q' l l' = absurd (none-some (number d') (sym (q' ∙ ap (λ n. first_no (sweep_questions before' n)) (sym e) ∙ sym (sweep_alike old.places) ∙ sym q)))
  sweep_together old new old' new' e (Err d) (Ok m') q q' l l' = absurd (none-some (number d) (sym (q ∙ sweep_alike old.places ∙ ap (λ n. first_no (sweep_questions before' n)) e ∙ sym q')))
  sweep_together old new old' new' e (Err d) (Err d') q q' l l' =
      let n : number d ≡ number d' = same_Some (number d) (number d') (q ∙ sweep_alike old.places ∙ ap (λ m. first_no (sweep_questions before' m)) e ∙ sym q') in
      let no_six : number d ≡ 6 → ⊥ = λ six. unasked 6 (sweep_questions before old.places) (λ e. omega arith, (λ e. omega arith, (λ e. omega arith, tt))) (sym q ∙ ap Some six) in
      denied_together d d' l.0 l'.0 n (no_cell d no_six ∙ sym (no_cell d' (λ six. no_six (n ∙ six))))

  -- calls that ask and change nothing
  asked_together : {A : Type 0} (questions questions' : List (ℕ × Bool)) (Answers : Result A (Denial C) → Type 0) (Answers' : Result A (Denial D) → Type 0) (shows : A → Outcome) → after ≡ before → after' ≡ before' → first_no questions ≡ first_no questions' → All (λ (q : ℕ × Bool). q.0 ≡ 6 → ⊥) questions
      → (first_no questions ≡ None → (a a' : A) → Answers (Ok a) → Answers' (Ok a') → shows a ≡ shows a') → (r : Result A (Denial C)) (r' : Result A (Denial D)) → denied_by r ≡ first_no questions → denied_by r' ≡ first_no questions' → Answers r → Answers' r' → Together P after after' (outcome_of shows r) (outcome_of shows r')
  asked_together questions questions' Answers Answers' shows e e' same others answers (Ok a) (Ok a') q q' l l' = record { paired = same_paired P before after before' after' e e' h; outcomes = answers (sym q) a a' l l' }
  asked_together questions questions' Answers Answers' shows e e' same others answers (Ok a) (Err d') q q' l l' = absurd (none-some (number d') (sym (q' ∙ sym same ∙ sym q)))
  asked_together questions questions' Answers Answers' shows e e' same others answers (Err d) (Ok a') q q' l l' = absurd (none-some (number d) (sym (q ∙ same ∙ sym q')))
  asked_together questions questions' Answers Answers' shows e e' same others answers (Err d) (Err d') q q' l l' =
      let n : number d ≡ number d' = same_Some (number d) (number d') (q ∙ same ∙ sym q') in
      let no_six : number d ≡ 6 → ⊥ = λ six. unasked 6 questions others (sym q ∙ ap Some six) in
      denied_together d d' e e' n (no_cell d no_six ∙ sym (no_cell d' (λ six. no_six (n ∙ six))))

  -- outcomes that are those of two results
  shown_together : (outcome outcome' shown shown' : Outcome) → outcome ≡ shown → outcome' ≡ shown' → Together P after after' shown shown' → Together P after after' outcome outcome'
  shown_together outcome outcome' shown shown' e e' t = record { paired = t.paired; outcomes = e ∙ t.outcomes ∙ sym e' }

  -- the grids compare alike
  grids_agree : Compares le le' P → Alike le le' (plan_terrain before.plan before.records) (plan_terrain before'.plan before'.records)
  grids_agree iso = paired_alike P le le' before before' iso h

  same_radius : radius_of before.plan ≡ radius_of before'.plan
  same_radius = ap radius_of h.plans

  tell_alike : (x y : ℕ) → first_no (tell_questions before x y) ≡ first_no (tell_questions before' x y)
  tell_alike x y = ap (λ (o : Option Plan). first_no ((1, is_some o) ∷ ((4, has_cell o x y) ∷ ((9, is_swept o y) ∷ [])))) h.plans

  near_alike : (x y : ℕ) → first_no (nearest_questions before x y) ≡ first_no (nearest_questions before' x y)
  near_alike x y = ap (λ (o : Option Plan). first_no ((1, is_some o) ∷ ((4, has_cell o x y) ∷ []))) h.plans

  total_alike : first_no (total_questions before) ≡ first_no (total_questions before')
  total_alike = ap (λ (o : Option Plan). first_no ((1, is_some o) ∷ ((10, all_swept o) ∷ []))) h.plans

  same_told : (count cells count' cells' : ℕ) → count ≡ count' → cells ≡ cells' → told count cells ≡ told count' cells'
  same_told count cells count' cells' e f = ap (λ n. told n cells) e ∙ ap (told count') f

  -- partnered calls of one form on paired boxes whose counts are the defined ones
  pub step_together : (f : Form) (bytes bytes' : List ℕ) (old new : View X) (old' new' : View Y) (outcome outcome' : Outcome) → Compares le le' P → Coupled P k k' (brings f) bytes bytes' → (f ≡ sweeps → old.places ≡ old'.places) → Counted le before → Counted le' before'
      → StepOf k le f bytes before after old new outcome → StepOf k' le' f bytes' before' after' old' new' outcome' → Together P after after' outcome outcome'
  step_together (opens width rows radius) bytes bytes' old new old' new' outcome outcome' iso c e counted counted' s s' =
      shown_together outcome outcome' _ _ s.shown s'.shown (open_together width rows radius bytes bytes' c s.result s'.result s.denial s'.denial s.leaves s'.leaves)
  step_together (alters x y) bytes bytes' old new old' new' outcome outcome' iso c e counted counted' s s' =
      shown_together outcome outcome' _ _ s.shown s'.shown (alter_together x y bytes bytes' c s.result s'.result s.denial s'.denial s.leaves s'.leaves)
  step_together sweeps bytes bytes' old new old' new' outcome outcome' iso c e counted counted' s s' =
      shown_together outcome outcome' _ _ s.shown s'.shown (sweep_together old new old' new' (e refl) s.result s'.result s.denial s'.denial s.leaves s'.leaves)
  step_together (tells x y) bytes bytes' old new old' new' outcome outcome' iso c e counted counted' s s' =
      let t = plan_terrain before.plan before.records in
      let t' = plan_terrain before'.plan before'.records in
      let q : Place = record { x = x; y = y } in
      shown_together outcome outcome' _ _ s.answered.shown s'.answered.shown
      (asked_together (tell_questions before x y) (tell_questions before' x y) (TellAnswer {C = C} le before x y) (TellAnswer {C = D} le' before' x y) (λ (a : Told). told a.count a.cells) s.unchanged s'.unchanged (tell_alike x y) (λ z. omega arith, (λ z. omega arith, (λ z. omega arith, tt)))
      (λ passed a a' l l'.
      let inside = has_inside before.plan before.records x y (all_yes (tell_questions before x y) passed).1.0 in
      let same = counts_agree le le' t t' (grids_agree iso) (radius_of before.plan) q inside in
      same_told a.count a.cells a'.count a'.cells
      (l.defined counted ∙ same.same_count ∙ ap (λ r. count_at le' t' r q) same_radius ∙ sym (l'.defined counted'))
      (l.cells ∙ same.same_size ∙ ap (λ r. window_size t' r q) same_radius ∙ sym l'.cells))
      s.answered.result s'.answered.result s.answered.denial s'.answered.denial s.answered.leaves s'.answered.leaves)
  step_together (shares x y) bytes bytes' old new old' new' outcome outcome' iso c e counted counted' s s' =
      let t = plan_terrain before.plan before.records in
      let t' = plan_terrain before'.plan before'.records in
      let q : Place = record { x = x; y = y } in
      shown_together outcome outcome' _ _ s.answered.shown s'.answered.shown
      (asked_together (share_questions before x y) (share_questions before' x y) (ShareAnswer {C = C} le before x y) (ShareAnswer {C = D} le' before' x y) shared s.unchanged s'.unchanged (tell_alike x y) (λ z. omega arith, (λ z. omega arith, (λ z. omega arith, tt)))
      (λ passed a a' l l'.
      let inside = has_inside before.plan before.records x y (all_yes (tell_questions before x y) passed).1.0 in
      let same = counts_agree le le' t t' (grids_agree iso) (radius_of before.plan) q inside in
      ap shared (l.defined counted ∙ same.same_share ∙ ap (λ r. share_at le' t' r q) same_radius ∙ sym (l'.defined counted')))
      s.answered.result s'.answered.result s.answered.denial s'.answered.denial s.answered.leaves s'.answered.leaves)
  step_together (nears x y) bytes bytes' old new old' new' outcome outcome' iso c e counted counted' s s' =
      let t = plan_terrain before.plan before.records in
      let t' = plan_terrain before'.plan before'.records in
      shown_together outcome outcome' _ _ s.answered.shown s'.answered.shown
      (asked_together (nearest_questions before x y) (nearest_questions before' x y) (NearestAnswer {C = C} le before x y) (NearestAnswer {C = D} le' before' x y) nearest s.unchanged s'.unchanged (near_alike x y) (λ z. omega arith, (λ z. omega arith, tt))
      (λ passed a a' l l'.
      let inside = has_inside before.plan before.records x y (all_yes (nearest_questions before x y) passed).1.0 in
      ap nearest (nearest_agree le le' t t' (grids_agree iso) (record { x = x; y = y }) inside a a' l l'))
      s.answered.result s'.answered.result s.answered.denial s'.answered.denial s.answered.leaves s'.answered.leaves)
  step_together totals bytes bytes' old new old' new' outcome outcome' iso c e counted counted' s s' =
      record {
        paired = same_paired P before after before' after' s.0 s'.0 h;
        outcomes = s.1 ∙ ap (λ n. total_shows n (total_on before)) total_alike ∙ ap (λ counts. total_shows (first_no (total_questions before')) (sum counts)) (paired_counts P le le' before before' iso h counted counted') ∙ sym s'.1;
      }

-- each call keeps the counts the defined ones, in a box whose plan fits
pub step_keeps : {X C : Type 0} (k : Storage X C) (le : X → X → Bool) (f : Form) (bytes : List ℕ) (before after : Contents X) (old new : View X) (outcome : Outcome) → well_fitted before.plan (length before.records) ≡ true → Counted le before → StepOf k le f bytes before after old new outcome → Counted le after
step_keeps k le (opens width rows radius) bytes before after old new outcome fit counted s = open_keeps le k width rows radius bytes before after s.result s.leaves counted
step_keeps k le (alters x y) bytes before after old new outcome fit counted s = alter_keeps k le x y bytes before after s.result s.leaves fit counted
step_keeps k le sweeps bytes before after old new outcome fit counted s = sweep_keeps le before after old new s.result s.leaves fit counted
step_keeps k le (tells x y) bytes before after old new outcome fit counted s = subst (Counted le) (sym s.unchanged) counted
step_keeps k le (shares x y) bytes before after old new outcome fit counted s = subst (Counted le) (sym s.unchanged) counted
step_keeps k le (nears x y) bytes before after old new outcome fit counted s = subst (Counted le) (sym s.unchanged) counted
step_keeps k le totals bytes before after old new outcome fit counted s = subst (Counted le) (sym s.0) counted
