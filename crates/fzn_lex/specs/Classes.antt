-- Classes of bytes, and what digits are worth.
use Rattle.std.specs.Prelude.{◌≡◌, ℕ, ◌+◌, ◌-◌, ◌*◌, Bool, true, ◌&&◌, ◌||◌, not, nat_lt, nat_le, ◌==◌, if◌then◌else◌, List, [], ◌∷◌}
use Rattle.std.specs.List.{AllByRecursion}

-- from one byte to another, both among them
abbrev pub is_between : ℕ → ℕ → ℕ → Bool
is_between low high b = nat_le low b && nat_le b high

-- what a byte is worth as a digit, in either case of letters; 16 where it is no digit
abbrev pub digit_of : ℕ → ℕ
digit_of b = if is_between 48 57 b then b - 48 else if is_between 97 102 b then b - 87 else if is_between 65 70 b then b - 55 else 16

-- a digit of the base
unfoldable pub is_digit : ℕ → ℕ → Bool
is_digit base b = nat_lt (digit_of b) base

-- a letter of ASCII, or a low line
unfoldable pub is_letter : ℕ → Bool
is_letter b = is_between 97 122 b || is_between 65 90 b || b == 95

-- what may stand in a name after its first byte
unfoldable pub is_word : ℕ → Bool
is_word b = is_letter b || is_digit 10 b

-- space, tab, carriage return and newline
unfoldable pub is_blank : ℕ → Bool
is_blank b = b == 32 || b == 9 || b == 13 || b == 10

-- anything but a newline
unfoldable pub is_inline : ℕ → Bool
is_inline b = not (b == 10)

-- what stands for itself between quotes: no quote, no backslash, no newline
unfoldable pub is_plain : ℕ → Bool
is_plain b = not (b == 34 || b == 92 || b == 10)

-- every byte passes the test
abbrev pub Are : (ℕ → Bool) → List ℕ → Type 0
Are test bs = AllByRecursion (λ b. test b ≡ true) bs

-- the number that digits write, behind what was written before them
abbrev pub value_after : ℕ → ℕ → List ℕ → ℕ
value_after base front [] = front
value_after base front (d ∷ ds) = value_after base (base * front + digit_of d) ds
