-- A row that a plan has left cannot be swept for want of places only.
use Rattle.std.proofs.Common.{◌≡◌, ℕ, ◌*◌, ◌<◌, ◌≤◌, Bool, true, false, cond, ◌&&◌, eqb, ltb, leb, List, Some, None, Option, sym, ap, ◌∙◌, subst, arith}
use Rattle.std.proofs.lemmas.Bool.Decides.{nat_tests}
use Rattle.grid.specs.declared.Plan.{Plan}
use Rattle.grid.specs.declared.CellRecord.{CellRecord}
use Rattle.sweep.specs.Sweeping.{can_sweep, places_needed}
use Rattle.siting_box.specs.Contents.{contents, fits_in}
use Rattle.siting_box.specs.Denials.{first_no}
use Rattle.siting_box.specs.Calls.{sweep_questions}
use Rattle.siting_box.proofs.Plans.{fitting}

-- where all else holds, the test is that of the places
all_but : (a b c d e f g h : Bool) → a ≡ true → b ≡ true → c ≡ true → d ≡ true → e ≡ true → f ≡ true → g ≡ true → (a && b && c && d && e && f && g && h) ≡ h
all_but a b c d e f g h p q r s t u v = rw (p, q, r, s, t, u, v)

pub only_places : (p : Plan) (places fitted n : ℕ) → fits_in p fitted ≡ true → p.swept < p.rows → n ≡ p.width * p.rows → can_sweep places n p.width p.rows p.radius p.swept ≡ leb (places_needed p.width p.rows p.radius) places
only_places p places fitted n fit left whole =
    let facts = fitting p fitted fit in
    all_but (leb 1 p.width) (leb p.width 1024) (leb p.rows 1024) (leb 1 p.radius) (leb p.radius 255) (ltb p.swept p.rows) (eqb n (p.width * p.rows)) (leb (places_needed p.width p.rows p.radius) places)
    (le_leb _ _ facts.some_columns) (le_leb _ _ facts.columns) (le_leb _ _ facts.rows) (le_leb _ _ facts.some_radius) (le_leb _ _ facts.radius) (le_leb _ _ left) (eq_eqb _ _ whole)
  where
    le_leb : (a b : ℕ) → a ≤ b → leb a b ≡ true
    le_leb a b h = grind (arith, nat_tests)

    eq_eqb : (a b : ℕ) → a ≡ b → eqb a b ≡ true
    eq_eqb a b h = grind (arith, nat_tests)

-- a sweep that cannot be is denied by question 8
pub denied_places : {X : Type 0} (o : Option Plan) (p : Plan) (records : List (CellRecord X)) (places fitted n : ℕ) → o ≡ Some p → fits_in p fitted ≡ true → p.swept < p.rows → n ≡ p.width * p.rows → false ≡ can_sweep places n p.width p.rows p.radius p.swept → Some 8 ≡ first_no (sweep_questions (contents o records) places)
denied_places o p records places fitted n e fit left whole cannot =
    let none : leb (places_needed p.width p.rows p.radius) places ≡ false = sym (only_places p places fitted n fit left whole) ∙ sym cannot in
    let row : ltb p.swept p.rows ≡ true = grind (arith, nat_tests) in
    let out : Bool → Bool → Option ℕ = λ a b. cond a (cond b None (Some 8)) (Some 7) in
    subst (λ q. Some 8 ≡ first_no (sweep_questions (contents q records) places)) (sym e) (sym (ap (λ a. out a (leb (places_needed p.width p.rows p.radius) places)) row ∙ ap (out true) none))
