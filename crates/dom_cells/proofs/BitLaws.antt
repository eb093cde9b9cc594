-- Words of 64 bits, bit by bit, and the truth values that they stand for.
use Rattle.std.proofs.Common.{◌≡◌, ◌≢◌, ℕ, suc, ◌+◌, ◌-◌, ◌*◌, ◌/◌, ◌%◌, ◌^◌, ◌<◌, ◌≤◌, Bool, true, false, eqb, List, length, replicate, get_or, set, sym, ◌∙◌, ap, inl, inr, arith, ext_get_or, length-set, get_or-set_same, get_or-set_other, w64}
use Rattle.std.proofs.lemmas.List.{length-replicate, get_or-replicate}
use Rattle.std.proofs.lemmas.List.FromFn.{length-map-range_with_len, get_or-map-range_with_len}
use Rattle.std.proofs.lemmas.Bool.{cases_eq, cases_lt}
use Rattle.std.proofs.lemmas.Nat.{shr-shr}
use Rattle.std.proofs.Math.Nat.{pow-suc}
use Rattle.std.proofs.lemmas.Nat.Bits.{bit_at-zero, bit_at-lt, bit_at_and, bit_at_ones, bit_at_ones_above, bit_at_above, bit_at_cat_high, bit_at-trailing_zeros, ones_shr}
use Rattle.std.specs.Prelude.{bit_and, min}
use Rattle.std.specs.Int.{bit_at, trailing_zeros}
use Rattle.dom_cells.specs.Bits.{is_set, flags_of, IsFirstBit, IsLastBit}
use Rattle.dom_cells.specs.Flagged.{IsLastUp, IsFirstUp}

-- ---- one word

pub shifted_bit : (word k i : ℕ) → bit_at (word / 2 ^ k) i ≡ bit_at word (k + i)
shifted_bit word k i = ap (λ x. x % 2) (shr-shr word k i)

later_bit : (word k i : ℕ) → k ≤ i → bit_at word i ≡ bit_at (word / 2 ^ k) (i - k)
later_bit word k i le =
    let e : i ≡ k + (i - k) = omega arith in
    ap (bit_at word) e ∙ sym (shifted_bit word k (i - k))

pub no_first_bit : (word begin limit : ℕ) → begin < limit → word / 2 ^ begin ≡ 0 → IsFirstBit word begin limit limit
no_first_bit word begin limit lt none = record {
  within = omega arith;
  after = omega arith;
  clear = λ i low high. later_bit word begin i low ∙ ap (λ x. bit_at x (i - begin)) none ∙ bit_at-zero (i - begin);
  set = λ less. absurd (omega arith);
}

pub first_bit_is : (word begin limit at : ℕ) → begin < limit → 0 < word / 2 ^ begin → word / 2 ^ begin < 2 ^ 64
    → at ≡ min (begin + trailing_zeros w64 (word / 2 ^ begin)) limit → IsFirstBit word begin limit at
first_bit_is word begin limit at lt some small is =
    let place = bit_at-trailing_zeros w64 (word / 2 ^ begin) some small in
    let zeros : ℕ = trailing_zeros w64 (word / 2 ^ begin) in
    let sum : at ≡ min (begin + zeros) limit = is in
    record {
      within = omega arith;
      after = omega arith;
      clear = λ i low high. later_bit word begin i low ∙ place.2 (i - begin) (omega arith);
      set = λ less. (let e : at ≡ begin + zeros = omega arith in ap (bit_at word) e ∙ sym (shifted_bit word begin zeros) ∙ place.1);
    }

-- the mask of the bits below a place
pub low_mask : (word below : ℕ) → below ≤ 64 → bit_and word ((2 ^ 64 - 1) / 2 ^ (64 - below)) ≡ bit_and word (2 ^ below - 1)
low_mask word below le =
    let e : 64 - (64 - below) ≡ below = omega arith in
    ap (bit_and word) (ones_shr 64 (64 - below) (omega arith) ∙ ap (λ k. 2 ^ k - 1) e)

min_one : (b : ℕ) → b < 2 → min b 1 ≡ b
min_one b lt = omega arith

min_zero : (b : ℕ) → min b 0 ≡ 0
min_zero b = omega arith

pub low_bit : (word below i : ℕ) → i < below → bit_at (bit_and word (2 ^ below - 1)) i ≡ bit_at word i
low_bit word below i lt =
    bit_at_and word (2 ^ below - 1) i ∙ ap (min (bit_at word i)) (bit_at_ones below i lt) ∙ min_one (bit_at word i) (bit_at-lt word i)

pub high_bit : (word below i : ℕ) → below ≤ i → bit_at (bit_and word (2 ^ below - 1)) i ≡ 0
high_bit word below i le =
    bit_at_and word (2 ^ below - 1) i ∙ ap (min (bit_at word i)) (bit_at_ones_above below i le) ∙ min_zero (bit_at word i)

-- the highest bit of a number
pub top_bit : (n k : ℕ) → 2 ^ k ≤ n → n < 2 * 2 ^ k → bit_at n k ≡ 1
top_bit n k low high =
    let e : n ≡ 1 * 2 ^ k + (n - 2 ^ k) = omega arith in
    let same : k - k ≡ 0 = omega arith in
    ap (λ x. bit_at x k) e ∙ bit_at_cat_high 1 k (n - 2 ^ k) k (omega arith) (omega arith) ∙ ap (bit_at 1) same

pub no_last_bit : (word below : ℕ) → bit_and word (2 ^ below - 1) ≡ 0 → IsLastBit word below 0
no_last_bit word below none = record {
  within = omega arith;
  clear = λ i low high. sym (low_bit word below i high) ∙ ap (λ x. bit_at x i) none ∙ bit_at-zero i;
  set = λ some. absurd (omega arith);
}

not_both_bits : (b : ℕ) → b ≡ 1 → b ≡ 0 → ⊥
not_both_bits b one none = omega arith

top_below : (word below top : ℕ) → bit_at (bit_and word (2 ^ below - 1)) top ≡ 1 → top < below
top_below word below top up =
    elim (cases_lt top below) [
      | inl lt ↦ lt
      | inr ge ↦ absurd (not_both_bits (bit_at (bit_and word (2 ^ below - 1)) top) up (high_bit word below top ge))
    ]

pub last_bit_is : (word below top : ℕ) → 2 ^ top ≤ bit_and word (2 ^ below - 1) → bit_and word (2 ^ below - 1) < 2 * 2 ^ top → IsLastBit word below (top + 1)
last_bit_is word below top low high =
    let rest : ℕ = bit_and word (2 ^ below - 1) in
    let up : bit_at rest top ≡ 1 = top_bit rest top low high in
    let lt : top < below = top_below word below top up in
    let next : top + 1 ≡ suc top = omega arith in
    let twice : 2 ^ (top + 1) ≡ 2 ^ top * 2 = ap (λ k. 2 ^ k) next ∙ pow-suc 2 top in
    let small : rest < 2 ^ (top + 1) = omega arith in
    let same : top + 1 - 1 ≡ top = omega arith in
    record {
      within = omega arith;
      clear = λ i from to. sym (low_bit word below i to) ∙ bit_at_above rest (top + 1) i small from;
      set = λ some. ap (bit_at word) same ∙ sym (low_bit word below top lt) ∙ up;
    }

-- ---- many words

pub length-flags_of : (words : List ℕ) (count : ℕ) → length (flags_of words count) ≡ count
unfolding flags_of
length-flags_of words count = length-map-range_with_len (is_set words) 0 count

pub get_or-flags_of : (words : List ℕ) (count i : ℕ) → i < count → get_or (flags_of words count) i false ≡ is_set words i
unfolding flags_of
get_or-flags_of words count i lt = get_or-map-range_with_len (is_set words) 0 count i i false lt (omega arith)

-- words of ones have all flags up
pub flags_of-ones : (n count : ℕ) → count ≤ 64 * n → flags_of (replicate n (2 ^ 64 - 1)) count ≡ replicate count true
flags_of-ones n count le =
    ext_get_or false _ _ (length-flags_of _ count ∙ sym (length-replicate count true))
    (λ i h.
    let lt : i < count = rw length-flags_of at h in
    get_or-flags_of _ count i lt
    ∙ ap (λ x. eqb (bit_at x (i % 64)) 1) (get_or-replicate n (i / 64) (2 ^ 64 - 1) 0 (omega arith))
    ∙ ap (λ x. eqb x 1) (bit_at_ones 64 (i % 64) (omega arith))
    ∙ sym (get_or-replicate count i true false lt))

-- a word with one bit written writes one flag
pub flags_of-set : (words : List ℕ) (count n new : ℕ) (up : Bool) → n < count → count ≤ 64 * length words
    → eqb (bit_at new (n % 64)) 1 ≡ up
    → ((i : ℕ) → i < 64 → i ≢ n % 64 → bit_at new i ≡ bit_at (get_or words (n / 64) 0) i)
    → flags_of (set words (n / 64) new) count ≡ set (flags_of words count) n up
flags_of-set words count n new up within fits here others =
    let word_in : n / 64 < length words = omega arith in
    let n_in : n < length (flags_of words count) = omega (arith, length-flags_of words count) in
    ext_get_or false _ _
    (length-flags_of _ count ∙ sym (length-flags_of words count) ∙ sym (length-set (flags_of words count) n up))
    (λ k h.
    let k_in : k < count = rw length-flags_of at h in
    get_or-flags_of _ count k k_in
    ∙ (elim (cases_eq k n) as (λ _. is_set (set words (n / 64) new) k ≡ get_or (set (flags_of words count) n up) k false) [
      | inl same ↦
          rw same
          (ap (λ x. eqb (bit_at x (n % 64)) 1) (get_or-set_same words (n / 64) new 0 word_in)
          ∙ here
          ∙ sym (get_or-set_same (flags_of words count) n up false n_in))
      | inr other ↦
          (elim (cases_eq (k / 64) (n / 64)) as (λ _. is_set (set words (n / 64) new) k ≡ is_set words k) [
            | inl row ↦
                ap (λ x. eqb (bit_at (get_or (set words (n / 64) new) x 0) (k % 64)) 1) row
                ∙ ap (λ x. eqb (bit_at x (k % 64)) 1) (get_or-set_same words (n / 64) new 0 word_in)
                ∙ ap (λ x. eqb x 1) (others (k % 64) (omega arith) (omega arith))
                ∙ ap (λ x. eqb (bit_at (get_or words x 0) (k % 64)) 1) (sym row)
            | inr apart ↦ ap (λ x. eqb (bit_at x (k % 64)) 1) (get_or-set_other words (n / 64) (k / 64) new 0 apart)
          ])
          ∙ sym (get_or-flags_of words count k k_in)
          ∙ sym (get_or-set_other (flags_of words count) n k up false other)
    ]))

-- ---- the next flag that is up

-- no flag is up from the one place to the other
abbrev pub AllDown : List Bool → ℕ → ℕ → Type 0
AllDown bs low high = (i : ℕ) → low ≤ i → i < high → get_or bs i false ≡ false

flag_is : (words : List ℕ) (count i k bit : ℕ) → i < count → i / 64 ≡ k → bit_at (get_or words k 0) (i % 64) ≡ bit
    → get_or (flags_of words count) i false ≡ eqb bit 1
flag_is words count i k bit lt row is =
    get_or-flags_of words count i lt ∙ ap (λ x. eqb (bit_at (get_or words x 0) (i % 64)) 1) row ∙ ap (λ x. eqb x 1) is

-- the flags before the first bit of a word are down too
pub down_after : (words : List ℕ) (count begin at limit bit : ℕ) → limit ≤ 64 → at - at % 64 + limit ≤ count
    → AllDown (flags_of words count) begin at → IsFirstBit (get_or words (at / 64) 0) (at % 64) limit bit
    → AllDown (flags_of words count) begin (at - at % 64 + bit)
down_after words count begin at limit bit small fits down first i low high =
    let within : bit ≤ limit = first.within in
    elim (cases_lt i at) [
      | inl before ↦ down i low before
      | inr later ↦ flag_is words count i (at / 64) 0 (omega arith) (omega arith) (first.clear (i % 64) (omega arith) (omega arith))
    ]

pub first_found : (words : List ℕ) (count begin at limit bit : ℕ) → begin ≤ at → limit ≤ 64 → at - at % 64 + limit ≤ count
    → AllDown (flags_of words count) begin at → IsFirstBit (get_or words (at / 64) 0) (at % 64) limit bit → bit < limit
    → IsFirstUp (flags_of words count) begin (at - at % 64 + bit)
first_found words count begin at limit bit le small fits down first less =
    let after : at % 64 ≤ bit = first.after in
    let place : (at - at % 64 + bit) % 64 ≡ bit = omega arith in
    record {
      within = omega (arith, length-flags_of words count);
      after = omega arith;
      down = down_after words count begin at limit bit small fits down first;
      up = λ lt. flag_is words count (at - at % 64 + bit) (at / 64) 1 (omega arith) (omega arith)
          (ap (bit_at (get_or words (at / 64) 0)) place ∙ first.set less);
    }

pub first_none : (words : List ℕ) (count begin at : ℕ) → begin ≤ at → at ≡ count → AllDown (flags_of words count) begin at
    → IsFirstUp (flags_of words count) begin count
first_none words count begin at le is down = record {
  within = omega (arith, length-flags_of words count);
  after = omega arith;
  down = λ i low high. down i low (omega arith);
  up = λ lt. absurd (omega (arith, length-flags_of words count));
}

-- the flags after the last bit of a word are down too
pub down_before : (words : List ℕ) (count below after bit : ℕ) → 0 < after → after ≤ below → below ≤ count
    → AllDown (flags_of words count) after below → IsLastBit (get_or words ((after - 1) / 64) 0) (after - 64 * ((after - 1) / 64)) bit
    → AllDown (flags_of words count) (64 * ((after - 1) / 64) + bit) below
down_before words count below after bit some le fits down last i low high =
    elim (cases_lt i after) [
      | inl before ↦ flag_is words count i ((after - 1) / 64) 0 (omega arith) (omega arith) (last.clear (i % 64) (omega arith) (omega arith))
      | inr later ↦ down i later high
    ]

pub last_found : (words : List ℕ) (count below after bit : ℕ) → 0 < after → after ≤ below → below ≤ count
    → AllDown (flags_of words count) after below → IsLastBit (get_or words ((after - 1) / 64) 0) (after - 64 * ((after - 1) / 64)) bit → 0 < bit
    → IsLastUp (flags_of words count) below (64 * ((after - 1) / 64) + bit)
last_found words count below after bit some le fits down last up =
    let within : bit ≤ after - 64 * ((after - 1) / 64) = last.within in
    let place : (64 * ((after - 1) / 64) + bit - 1) % 64 ≡ bit - 1 = omega arith in
    record {
      within = omega arith;
      down = down_before words count below after bit some le fits down last;
      up = λ lt. flag_is words count (64 * ((after - 1) / 64) + bit - 1) ((after - 1) / 64) 1 (omega arith) (omega arith)
          (ap (bit_at (get_or words ((after - 1) / 64) 0)) place ∙ last.set up);
    }
