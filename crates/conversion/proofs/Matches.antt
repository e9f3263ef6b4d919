-- Calls in whole metres match the converted calls in binary32 numbers.
use Rattle.std.proofs.Common.{◌≡◌, ℕ, zero, suc, ◌+◌, ◌*◌, ◌/◌, ◌<◌, true, eqb, List, length, get_or, take, drop, ℤ, pos, negsuc, is_ok, Ok, sym, ap, ◌∙◌, subst, arith, w16, to_z}
use lib.Signed.{le_z}
use Rattle.std.proofs.lemmas.List.{get_or-take, get_or-drop}
use Rattle.std.proofs.lemmas.Bool.Decides.{nat_tests}
use Rattle.heights.specs.Patterns.{exponent}
use Rattle.heights.specs.Float.{pattern, float_not_higher}
use Rattle.heights.specs.declared.float.FloatBits.{FloatBits}
use Rattle.siting_box.specs.Stored.{stored_at}
use Rattle.runs.specs.declared.call.Call.{Call}
use Rattle.runs.specs.Calling.{form, brought, brings, right}
use Rattle.runs.specs.Matching.{Partners, ReadAt, Matched}
use Rattle.conversion.specs.Metres.{IsMetres}
use Rattle.conversion.specs.Converting.{metres_at, pattern_at, converted_length}
use Rattle.conversion.specs.Calls.{whole_storage, float_storage, ConvertedCall, ConvertedCalls}
use Rattle.conversion.proofs.Orders.{same_order}

-- a byte of a stored height is a byte of all that are stored
byte_at : (bytes : List ℕ) (wide start k : ℕ) → k < wide → get_or (take wide (drop start bytes)) k 0 ≡ get_or bytes (start + k) 0
byte_at bytes wide start k h = get_or-take wide (drop start bytes) k 0 h ∙ get_or-drop start bytes k 0

-- the first byte of a stored height
first_at : (bytes : List ℕ) (wide start : ℕ) → 0 < wide → get_or (take wide (drop start bytes)) 0 0 ≡ get_or bytes start 0
first_at bytes wide start h = byte_at bytes wide start 0 h ∙ ap (λ k. get_or bytes k 0) (omega arith)

-- two bytes read as the metres that they store
whole_stored : (bytes : List ℕ) (i : ℕ) → stored_at whole_storage bytes i ≡ Ok (metres_at bytes i)
whole_stored bytes i = ap (λ n. Ok (to_z w16 n)) (omega (arith, first_at bytes 2 (i * 2) (omega arith), byte_at bytes 2 (i * 2) 1 (omega arith)))

-- four bytes as one number are the pattern that they store
pattern_stored : (bytes : List ℕ) (i : ℕ) → pattern (take 4 (drop (i * 4) bytes)) ≡ pattern_at bytes i
pattern_stored bytes i =
    omega (arith, first_at bytes 4 (i * 4) (omega arith), byte_at bytes 4 (i * 4) 1 (omega arith), byte_at bytes 4 (i * 4) 2 (omega arith), byte_at bytes 4 (i * 4) 3 (omega arith))

-- the number of so many whole metres is finite
finite : (p : ℕ) (z : ℤ) → IsMetres p z → exponent p < 255
finite p (pos zero) is = omega (arith, is.1.0)
finite p (pos (suc n)) is = is.1.below_most
finite p (negsuc n) is = is.1.below_most

-- four bytes that store such a number read
float_stored : (bytes : List ℕ) (i : ℕ) (z : ℤ) → IsMetres (pattern_at bytes i) z → stored_at float_storage bytes i ≡ Ok (record { bits = pattern_at bytes i })
float_stored bytes i z is = grind (arith, nat_tests, pattern_stored bytes i, finite (pattern_at bytes i) z is)

-- the bytes of a call are as many as they should be where the converted ones are
lengths_agree : (n long long' : ℕ) → long' ≡ converted_length long → eqb long (n * 2) ≡ eqb long' (n * 4)
lengths_agree n long long' h = grind (arith, nat_tests)

-- a stored height of a call with as many bytes as it should have is one of those that are converted
within : (c : Call) (i : ℕ) → right whole_storage c ≡ true → i < brings (form c) → i < length (brought c) / 2
within c i long h = grind (arith, nat_tests)

-- a call and the converted one are partners
partners : (c c' : Call) → ConvertedCall c c' → Partners whole_storage float_storage c c'
partners c c' converted =
    record {
      forms = converted.forms;
      lengths = lengths_agree (brings (form c)) (length (brought c)) (length (brought c')) converted.bytes.long ∙ ap (λ f. eqb (length (brought c')) (brings f * 4)) converted.forms;
      readings = λ long i h. ap is_ok (whole_stored (brought c) i) ∙ sym (ap is_ok (float_stored (brought c') i _ (converted.bytes.heights i (within c i long h))));
    }

-- a height that is read in a converted call is the number of the metres that are read in the call
read_metres : (calls calls' : List Call) → ConvertedCalls calls calls' → (a : ℤ) (a' : FloatBits) → ReadAt whole_storage float_storage calls calls' a a' → IsMetres a'.bits a
read_metres calls calls' converted a a' r =
    let is = (converted.each r.place r.call r.call' r.call_is r.call_is').bytes.heights r.index (within r.call r.index r.long r.within) in
    let metres : metres_at (brought r.call) r.index ≡ a = cc (whole_stored (brought r.call) r.index, r.read) in
    let height : record { bits = pattern_at (brought r.call') r.index } ≡ a' = cc (float_stored (brought r.call') r.index _ is, r.read') in
    subst (λ (h : FloatBits). IsMetres h.bits a) height (subst (λ (z : ℤ). IsMetres (pattern_at (brought r.call') r.index) z) metres is)

-- calls in whole metres match the converted calls
pub converted_match : (calls calls' : List Call) → ConvertedCalls calls calls' → Matched whole_storage float_storage le_z float_not_higher calls calls'
converted_match calls calls' converted =
    record {
      long = converted.long;
      partners = λ i c c' is is'. partners c c' (converted.each i c c' is is');
      order = λ a b a' b' r s. same_order a b a'.bits b'.bits (read_metres calls calls' converted a a' r) (read_metres calls calls' converted b b' s);
    }
