-- The turn of a cell: which columns are held, taken and put.
use Rattle.std.proofs.Common.{◌≡◌, ℕ, zero, suc, ◌+◌, ◌-◌, ◌*◌, ◌<◌, ◌≤◌, min, Bool, cond, List, ◌++◌, map, length, Some, sym, ap, ◌∙◌, subst, arith, length-append}
use lib.Dec.{eqb-suc-zero}
use Rattle.std.specs.Option.{option_to_list}
use Rattle.heights.specs.Order.{Preorder}
use Rattle.counters.specs.Held.{tally, Same, up_to}
use Rattle.counters.specs.Calls.{View, ask, Did, Ran, still, next}
use Rattle.counters.proofs.Tallies.{tally_append, same_trans, same_length, same_up_to, same_equal}
use Rattle.grid.specs.declared.CellRecord.{CellRecord}
use Rattle.grid.specs.Terrain.{Terrain, height_at}
use Rattle.grid.specs.Window.{count_at, window_heights}
use Rattle.sweep.specs.declared.column.Change.TheVariants.{Put, Take}
use Rattle.sweep.specs.Inner.{call_of, Ready, Turned}
use Rattle.sweep.specs.Sweeping.{places_needed}
use Rattle.sweep.specs.Walk.{column_heights, columns_heights, taken_before, put_before, turn_calls}
use Rattle.sweep.proofs.Cells.{Recorded}
use Rattle.sweep.proofs.Lists.{joined_range}
use Rattle.sweep.proofs.Runs.{ran_then, ran_places, ran_puts, ran_takes}
use Rattle.sweep.proofs.Windows.{same_window, count_window, columns_fit}

-- after the first turn, the columns put before are those up to x - 1 + r
pub put_before_later : (width r x : ℕ) → 0 < x → put_before width r x ≡ min width (x + r)
put_before_later width r zero p = absurd (omega arith)
put_before_later width r (suc x) p = let f : Bool → ℕ = λ b. cond b 0 (min width (suc x + r)) in ap f (eqb-suc-zero x)

-- the columns put before a turn end between those to take and those to put
pub put_bounds : (width r x : ℕ) → x < width → (x - r ≤ put_before width r x) × (put_before width r x ≤ min width (x + r + 1))
put_bounds width r zero lt = (omega arith, omega arith)
put_bounds width r (suc x) lt = let e = put_before_later width r (suc x) (omega arith) in (omega (arith, e), omega (arith, e))

-- the columns between equal bounds
pub columns_at : {X : Type 0} (t : Terrain X) (r y a b c d : ℕ) → a ≡ c → b ≡ d → columns_heights t r y a b ≡ columns_heights t r y c d
columns_at t r y a b c d e f = ap (λ k. columns_heights t r y k b) e ∙ ap (λ k. columns_heights t r y c k) f

module _ {X : Type 0} (le : X → X → Bool) (t : Terrain X) (r y : ℕ) where
  -- columns in two parts
  pub columns_split : (a b z : ℕ) → a ≤ b → b ≤ z → columns_heights t r y a z ≡ columns_heights t r y a b ++ columns_heights t r y b z
  columns_split a b z p q = joined_range (column_heights t r y) a b z p q

  -- the first of the columns held can be taken
  pub takes_ready : (a b z : ℕ) (v : View X) → a ≤ b → b ≤ z → Same le v.held (columns_heights t r y a z) → Ready le v Take (columns_heights t r y a b)
  takes_ready a b z v p q s = (columns_heights t r y b z, same_trans s (same_equal le (columns_split a b z p q)))

  -- and the others are held then
  pub takes_held : (a b z : ℕ) (v w : View X) → a ≤ b → b ≤ z → Same le v.held (columns_heights t r y a z) → Ran le v (map (call_of Take) (columns_heights t r y a b)) w → Same le w.held (columns_heights t r y b z)
  takes_held a b z v w p q s ran =
      let u = ran_takes (columns_heights t r y a b) ran in
      record { tallies = λ f blind. omega (arith, u.tallies f blind, s.tallies f blind, ap (tally f) (columns_split a b z p q), tally_append f (columns_heights t r y a b) (columns_heights t r y b z), tally_append f (columns_heights t r y a b) w.held) }

  -- columns for which there are places can be put behind those held
  pub puts_ready : (a b z : ℕ) (v : View X) → a ≤ b → b ≤ z → length (columns_heights t r y a z) ≤ v.places → Same le v.held (columns_heights t r y a b) → Ready le v Put (columns_heights t r y b z)
  puts_ready a b z v p q l s =
      omega (arith, same_length le v.held (columns_heights t r y a b) s, ap length (columns_split a b z p q), length-append (columns_heights t r y a b) (columns_heights t r y b z), l)

  -- and all are held then
  pub puts_held : (a b z : ℕ) (v w : View X) → a ≤ b → b ≤ z → Same le v.held (columns_heights t r y a b) → Ran le v (map (call_of Put) (columns_heights t r y b z)) w → Same le w.held (columns_heights t r y a z)
  puts_held a b z v w p q s ran =
      let u = ran_puts (columns_heights t r y b z) ran in
      record { tallies = λ f blind. omega (arith, u.tallies f blind, s.tallies f blind, ap (tally f) (columns_split a b z p q), tally_append f (columns_heights t r y a b) (columns_heights t r y b z), tally_append f (columns_heights t r y b z) v.held) }

-- one turn: the columns from a to before b are taken, those from c to before e are put; u is the counter before it
module _ {X : Type 0} (le : X → X → Bool) (t : Terrain X) (r y x a b c e : ℕ) (a-is : a ≡ taken_before r x) (b-is : b ≡ x - r) (c-is : c ≡ put_before t.width r x) (e-is : e ≡ min t.width (x + r + 1))
    (u : View X) (inx : x < t.width) (iny : y < t.rows) (enough : places_needed t.width t.rows r ≤ u.places) (held : Same le u.held (columns_heights t r y (taken_before r x) (put_before t.width r x))) where
  old_held : Same le u.held (columns_heights t r y a c)
  old_held = same_trans held (same_equal le (sym (columns_at t r y a c (taken_before r x) (put_before t.width r x) a-is c-is)))

  low : b ≤ c
  low = omega (arith, (put_bounds t.width r x inx).0)

  high : c ≤ e
  high = omega (arith, (put_bounds t.width r x inx).1)

  -- the columns that fall behind can be taken
  pub turn_takes_ready : Ready le u Take (columns_heights t r y a b)
  turn_takes_ready = takes_ready le t r y a b c u (omega arith) low old_held

  -- v is the counter after the takes
  module _ (v : View X) (took : Ran le u (map (call_of Take) (columns_heights t r y a b)) v) where
    turn_takes_held : Same le v.held (columns_heights t r y b c)
    turn_takes_held = takes_held le t r y a b c u v (omega arith) low old_held took

    -- the columns that come near can be put
    pub turn_puts_ready : Ready le v Put (columns_heights t r y c e)
    turn_puts_ready =
        let fits = ap length (columns_at t r y b e (x - r) (min t.width (x + r + 1)) b-is e-is) in
        puts_ready le t r y b c e v low high (omega (arith, fits, columns_fit t r y x iny, ran_places took)) turn_takes_held

    -- w is the counter after the puts
    module _ (w : View X) (gave : Ran le v (map (call_of Put) (columns_heights t r y c e)) w) where
      turn_held : Same le w.held (columns_heights t r y (x - r) (min t.width (x + r + 1)))
      turn_held = same_trans (puts_held le t r y b c e v w low high turn_takes_held gave) (same_equal le (columns_at t r y b e (x - r) (min t.width (x + r + 1)) b-is e-is))

      -- h is the height asked, and z the counter after that
      module _ (h : X) (own : height_at t (record { x = x; y = y }) ≡ Some h) (steps : ℕ) (z : View X) (did : Did le w (ask h) steps z) where
        turn_ran : Ran le u (turn_calls t r y x) z
        turn_ran =
            let took-all = subst (λ hs. Ran le u (map (call_of Take) hs) v) (columns_at t r y a b (taken_before r x) (x - r) a-is b-is) took in
            let gave_all = subst (λ hs. Ran le v (map (call_of Put) hs) w) (columns_at t r y c e (put_before t.width r x) (min t.width (x + r + 1)) c-is e-is) gave in
            let asked : Ran le w (map ask (option_to_list (height_at t (record { x = x; y = y })))) z = subst (λ o. Ran le w (map ask (option_to_list o)) z) (sym own) (next steps did still) in
            ran_then took-all (ran_then gave_all asked)

        turn_count : Preorder le → up_to le w.held h ≡ count_at le t r (record { x = x; y = y })
        turn_count o =
            same_up_to o w.held (window_heights t r (record { x = x; y = y })) h (same_trans turn_held (same_window le t r x y inx iny))
            ∙ sym (count_window le t r (record { x = x; y = y }) h own)

        -- what the turn leaves, once the count told is recorded
        pub turn_done : Preorder le → (n : ℕ) → n ≡ up_to le w.held h → (before after : List (CellRecord X)) → Recorded (y * t.width + x) n before after → Turned le t r y x before after u z
        turn_done o n told before after written = record {
          heights = written.heights;
          count = λ d. written.count d ∙ (told ∙ turn_count o);
          others = written.others;
          ran = turn_ran;
          held = same_trans did.held turn_held;
        }
