-- A number's digits written one by one, and numbers one after the other, each after a space.
use Rattle.std.proofs.Common.{◌≡◌, ℕ, ◌+◌, ◌/◌, ◌%◌, ◌^◌, ◌<◌, ◌≤◌, List, [], ◌∷◌, ◌++◌, length, get_or, map, take, decimal, sym, ap, ◌∙◌, arith}
use Rattle.std.proofs.lemmas.List.{append_assoc, append-nil, length_push, map-append, take_more}
use Rattle.std.proofs.lemmas.Fmt.{decimal_digit, decimal_step, length-decimal-le}
use Rattle.console_text.specs.Words.{after_spaces}

-- a number of 64 bits has at most twenty digits
pub decimal_short : (n : ℕ) → n < 2 ^ 64 → length (decimal n) ≤ 20
decimal_short n h = length-decimal-le 20 n (omega arith) (omega arith) h

-- a number of more than one digit is written by its tenth and its last digit
pub last_digit : (old before after : List ℕ) (n : ℕ) → 10 ≤ n → n < 2 ^ 64 → before ≡ old ++ decimal (n / 10) → after ≡ before ++ (48 + n % 10) ∷ [] → after ≡ old ++ decimal n
last_digit old before after n ten h e f =
    f ∙ ap (λ t. t ++ (48 + n % 10) ∷ []) e ∙ append_assoc old (decimal (n / 10)) ((48 + n % 10) ∷ []) ∙ ap (λ t. old ++ t) (sym (decimal_step n ten h))

-- its tenth has one digit less
pub length_tenth : (n : ℕ) → 10 ≤ n → n < 2 ^ 64 → length (decimal n) ≡ length (decimal (n / 10)) + 1
length_tenth n ten h = ap length (decimal_step n ten h) ∙ length_push (decimal (n / 10)) (48 + n % 10)

-- a number of one digit is that digit
pub one_digit : (n : ℕ) → n < 10 → (48 + n % 10) ∷ [] ≡ decimal n
one_digit n h = let same : 48 + n % 10 ≡ 48 + n = omega arith in ap (λ d. d ∷ []) same ∙ sym (decimal_digit n h)

-- one word more after its space
after_spaces_push : (ws : List (List ℕ)) (w : List ℕ) → after_spaces (ws ++ w ∷ []) ≡ after_spaces ws ++ 32 ∷ w
after_spaces_push [] w = ap (λ t. 32 ∷ t) (append-nil w)
after_spaces_push (v ∷ ws) w =
    ap (λ t. 32 ∷ (v ++ t)) (after_spaces_push ws w) ∙ ap (λ t. 32 ∷ t) (sym (append_assoc v (after_spaces ws) (32 ∷ w)))

-- one number more after its space
pub fields_more : (old ns : List ℕ) (i : ℕ) → i < length ns → ((old ++ after_spaces (map decimal (take i ns))) ++ 32 ∷ []) ++ decimal (get_or ns i 0) ≡ old ++ after_spaces (map decimal (take (i + 1) ns))
fields_more old ns i h =
    let front = map decimal (take i ns) in
    let digits = decimal (get_or ns i 0) in
    append_assoc (old ++ after_spaces front) (32 ∷ []) digits
    ∙ append_assoc old (after_spaces front) (32 ∷ digits)
    ∙ ap (λ t. old ++ t) (sym (
    ap (λ t. after_spaces (map decimal t)) (take_more ns i 0 h)
    ∙ ap after_spaces (map-append decimal (take i ns) (get_or ns i 0 ∷ []))
    ∙ after_spaces_push front digits
    ))
