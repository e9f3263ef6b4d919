-- Two boxes that are called alike show the same after each call.
use Rattle.std.proofs.Common.{◌≡◌, ℕ, suc, ◌<◌, Bool, List, [], ◌∷◌, ◌++◌, length, Some, sym, refl, ap, ◌∙◌, subst, arith}
use Rattle.std.proofs.lemmas.Option.{same_Some}
use Rattle.std.specs.List.{slice_get}
use Rattle.heights.specs.Meaning.{Storage}
use Rattle.grid.specs.declared.CellRecord.{CellRecord}
use Rattle.siting_box.specs.Contents.{Contents, Counted}
use Rattle.runs.specs.declared.call.Call.{Call}
use Rattle.runs.specs.Calling.{sweeps, form, brought, brings}
use Rattle.runs.specs.Matching.{ReadAt, Matched, EqualPlaces}
use Rattle.runs.specs.Running.{Outcome, Sight, Turn, Run, StepOf, new_box}
use Rattle.runs.specs.Agreeing.{BoxesAgree}
use Rattle.runs.proofs.Couples.{Compares}
use Rattle.runs.proofs.Readings.{Coupled, coupled}
use Rattle.runs.proofs.Boxes.{Paired, new_paired, same_paired, fits'}
use Rattle.runs.proofs.Counts.{paired_counts}
use Rattle.runs.proofs.Steps.{step_together, step_keeps}

-- the counts of a new box are the defined ones: it has no cell
new_counted : {X : Type 0} (le : X → X → Bool) (records : List (CellRecord X)) → Counted le (new_box records)
new_counted le records q inside = let none : q.x < 0 = inside.0 in absurd (omega arith)

same_sight : (s s' : Sight) → s.outcome ≡ s'.outcome → s.counts ≡ s'.counts → s ≡ s'
same_sight s s' e f =
    let first : Outcome → Sight = λ o. record { outcome = o; counts = s.counts } in
    let second : List ℕ → Sight = λ counts. record { outcome = s'.outcome; counts = counts } in
    ap first e ∙ ap second f

-- after two runs the same was seen, and the boxes are paired, with the defined counts
pub record Gone {X Y : Type 0} (P : X → Y → Type 0) (le : X → X → Bool) (le' : Y → Y → Bool) (last : Contents X) (last' : Contents Y) (sights sights' : List Sight) : Type 0 where
  pub seen : sights ≡ sights'
  pub paired : Paired P last last'
  pub counted : Counted le last
  pub counted' : Counted le' last'

module _ {X C Y D : Type 0} (P : X → Y → Type 0) (k : Storage X C) (k' : Storage Y D) (le : X → X → Bool) (le' : Y → Y → Bool) (iso : Compares le le' P) where
  -- two calls that agree in form and bring coupled bytes
  abbrev Alike : Call → Call → Type 0
  Alike c c' = (form c ≡ form c') × Coupled P k k' (brings (form c)) (brought c) (brought c')

  -- the boxes after a call each are paired, with the defined counts, and the same is seen of them
  record Going (after : Contents X) (after' : Contents Y) (s s' : Sight) : Type 0 where
    paired : Paired P after after'
    counted : Counted le after
    counted' : Counted le' after'
    seen : s ≡ s'

  turn_together : (c c' : Call) (places places' : ℕ) (b after : Contents X) (b' after' : Contents Y) (s s' : Sight) → Alike c c' → (form c ≡ sweeps → places ≡ places') → Paired P b b' → Counted le b → Counted le' b' → Turn k le c places b after s → Turn k' le' c' places' b' after' s' → Going after after' s s'
  turn_together c c' places places' b after b' after' s s' alike equal h counted counted' t t' =
      let step' : StepOf k' le' (form c) (brought c') b' after' t'.old t'.new s'.outcome = subst (λ f. StepOf k' le' f (brought c') b' after' t'.old t'.new s'.outcome) (sym alike.0) t'.step in
      let both = step_together P k k' le le' b after b' after' h (form c) (brought c) (brought c') t.old t.new t'.old t'.new s.outcome s'.outcome iso alike.1 (λ sweep. t.places_are ∙ equal sweep ∙ sym t'.places_are) counted counted' t.step step' in
      let keeps = step_keeps k le (form c) (brought c) b after t.old t.new s.outcome h.fits counted t.step in
      let keeps' = step_keeps k' le' (form c) (brought c') b' after' t'.old t'.new s'.outcome (fits' P b b' h) counted' step' in
      record {
        paired = both.paired;
        counted = keeps;
        counted' = keeps';
        seen = same_sight s s' both.outcomes (t.counts_are ∙ paired_counts P le le' after after' iso both.paired keeps keeps' ∙ sym t'.counts_are);
      }

  stayed : (b last : Contents X) (b' last' : Contents Y) → Paired P b b' → Counted le b → Counted le' b' → last ≡ b → last' ≡ b' → Gone P le le' last last' [] []
  stayed b last b' last' h counted counted' e e' = record {
    seen = refl;
    paired = same_paired P b last b' last' e e' h;
    counted = subst (Counted le) (sym e) counted;
    counted' = subst (Counted le') (sym e') counted';
  }

  -- from paired boxes on
  pub runs_together : (calls calls' : List Call) (places places' : List ℕ) (sights sights' : List Sight) (b last : Contents X) (b' last' : Contents Y) → length calls ≡ length calls' → ((i : ℕ) (c c' : Call) → slice_get calls i ≡ Some c → slice_get calls' i ≡ Some c' → Alike c c') → EqualPlaces calls places places' → Paired P b b' → Counted le b → Counted le' b'
      → Run k le b calls places sights last → Run k' le' b' calls' places' sights' last' → Gone P le le' last last' sights sights'
  runs_together [] [] [] [] [] [] b last b' last' long alike equal h counted counted' r r' = stayed b last b' last' h counted counted' r r'
  runs_together [] [] [] [] [] (s' ∷ sights') b last b' last' long alike equal h counted counted' r r' = absurd r'
  runs_together [] [] [] (n' ∷ places') [] sights' b last b' last' long alike equal h counted counted' r r' = absurd r'
  runs_together [] [] [] places' (s ∷ sights) sights' b last b' last' long alike equal h counted counted' r r' = absurd r
  runs_together [] [] (n ∷ places) places' sights sights' b last b' last' long alike equal h counted counted' r r' = absurd r
  runs_together [] (c' ∷ calls') places places' sights sights' b last b' last' long alike equal h counted counted' r r' = absurd (omega arith)
  runs_together (c ∷ calls) [] places places' sights sights' b last b' last' long alike equal h counted counted' r r' = absurd (omega arith)
  runs_together (c ∷ calls) (c' ∷ calls') [] places' sights sights' b last b' last' long alike equal h counted counted' r r' = absurd r
  runs_together (c ∷ calls) (c' ∷ calls') (n ∷ places) [] sights sights' b last b' last' long alike equal h counted counted' r r' = absurd r'
  runs_together (c ∷ calls) (c' ∷ calls') (n ∷ places) (n' ∷ places') [] sights' b last b' last' long alike equal h counted counted' r r' = absurd r
  runs_together (c ∷ calls) (c' ∷ calls') (n ∷ places) (n' ∷ places') (s ∷ sights) [] b last b' last' long alike equal h counted counted' r r' = absurd r'
  runs_together (c ∷ calls) (c' ∷ calls') (n ∷ places) (n' ∷ places') (s ∷ sights) (s' ∷ sights') b last b' last' long alike equal h counted counted' r r' =
      let now = turn_together c c' n n' b r.0 b' r'.0 s s' (alike 0 c c' refl refl) (λ sweep. same_Some n n' (equal 0 c refl sweep)) h counted counted' r.1 r'.1 in
      let rest = runs_together calls calls' places places' sights sights' r.0 last r'.0 last' (omega arith) (λ i. alike (suc i)) (λ i. equal (suc i)) now.paired now.counted now.counted' r.2 r'.2 in
      record {
        seen = ap (λ t. t ∷ sights) now.seen ∙ ap (λ t. s' ∷ t) rest.seen;
        paired = rest.paired;
        counted = rest.counted;
        counted' = rest.counted';
      }

-- two runs of matching lists from new boxes with equally many records
pub matched_runs : {X C Y D : Type 0} (k : Storage X C) (k' : Storage Y D) (le : X → X → Bool) (le' : Y → Y → Bool) (records : List (CellRecord X)) (records' : List (CellRecord Y)) (calls calls' : List Call) (places places' : List ℕ) (sights sights' : List Sight) (last : Contents X) (last' : Contents Y) → length records ≡ length records'
    → Matched k k' le le' calls calls' → EqualPlaces calls places places' → Run k le (new_box records) calls places sights last → Run k' le' (new_box records') calls' places' sights' last' → Gone (ReadAt k k' calls calls') le le' last last' sights sights'
matched_runs k k' le le' records records' calls calls' places places' sights sights' last last' fitted m equal r r' =
    runs_together (ReadAt k k' calls calls') k k' le le' m.order calls calls' places places' sights sights' (new_box records) last (new_box records') last' m.long
    (λ i c c' e e'. let p = m.partners i c c' e e' in (p.forms, coupled k k' calls calls' i c c' e e' p)) equal
    (new_paired (ReadAt k k' calls calls') records records' fitted) (new_counted le records) (new_counted le' records') r r'

-- the law of two boxes
pub boxes_agree : {X C Y D : Type 0} (k : Storage X C) (k' : Storage Y D) (le : X → X → Bool) (le' : Y → Y → Bool) → BoxesAgree k k' le le'
boxes_agree k k' le le' records records' calls calls' places places' sights sights' last last' fitted m equal r r' =
    (matched_runs k k' le le' records records' calls calls' places places' sights sights' last last' fitted m equal r r').seen

-- a run and one call more
pub run_push : {X C : Type 0} (k : Storage X C) (le : X → X → Bool) (calls : List Call) (places : List ℕ) (sights : List Sight) (b last after : Contents X) (c : Call) (n : ℕ) (s : Sight) → Run k le b calls places sights last → Turn k le c n last after s → Run k le b (calls ++ c ∷ []) (places ++ n ∷ []) (sights ++ s ∷ []) after
run_push k le [] [] [] b last after c n s r t = (after, subst (λ start. Turn k le c n start after s) r t, refl)
run_push k le [] [] (s₀ ∷ sights) b last after c n s r t = absurd r
run_push k le [] (n₀ ∷ places) sights b last after c n s r t = absurd r
run_push k le (c₀ ∷ calls) [] sights b last after c n s r t = absurd r
run_push k le (c₀ ∷ calls) (n₀ ∷ places) [] b last after c n s r t = absurd r
run_push k le (c₀ ∷ calls) (n₀ ∷ places) (s₀ ∷ sights) b last after c n s r t = (r.0, r.1, run_push k le calls places sights r.0 last after c n s r.2 t)
