-- Texts that are read or written piece by piece.
use Rattle.std.proofs.Common.{◌≡◌, ℕ, ◌+◌, ◌≤◌, List, ◌++◌, Option, length, take, drop, sym, arith}
use Rattle.std.proofs.Math.Seq.{take-add}
use Rattle.std.proofs.lemmas.List.{append_assoc, take-take, take_all, length-append, length-take-le}
use Rattle.std.specs.Io.{StartsWith}
use Rattle.dom_edge.specs.Text.{Gains}

-- one piece after another was gained
pub gains_append : (old mid new : Option (List ℕ)) (xs ys : List ℕ) → Gains old mid xs → Gains mid new ys → Gains old new (xs ++ ys)
gains_append old mid new xs ys first second was told =
    rw (← append_assoc was xs ys) (second (was ++ xs) (first was told))

-- a prefix was gained, and then the first bytes of the rest
pub gains_piece : (old mid new : Option (List ℕ)) (text : List ℕ) (done n size : ℕ) → n ≤ size → Gains old mid (take done text) → Gains mid new (take n (take size (drop done text))) → Gains old new (take (done + n) text)
gains_piece old mid new text done n size fits first second =
    rw (take-add done n text, ← take-take n size (drop done text) fits)
    (gains_append old mid new (take done text) (take n (take size (drop done text))) first second)

-- a text that a file begins with, and then the file's next bytes
pub starts_with_piece : (file xs buf : List ℕ) (n : ℕ) → n ≤ length buf → take n buf ≡ take n (drop (length xs) file) → StartsWith file xs → StartsWith file (xs ++ take n buf)
starts_with_piece file xs buf n fits part starts =
    let size : length (xs ++ take n buf) ≡ length xs + n = omega (arith, length-append xs (take n buf), length-take-le n buf fits) in
    let split = take-add (length xs) n file in
    rw size (cc)

-- a file's prefix that is as long as the file, or as the limit
pub starts_with_whole : (file xs : List ℕ) (limit : ℕ) → StartsWith file xs → length file ≤ length xs → length xs ≤ limit → xs ≡ take limit file
starts_with_whole file xs limit starts ends within =
    let short : take (length xs) file ≡ file = take_all (length xs) file ends in
    let fits : length file ≤ limit = omega arith in
    let whole : take limit file ≡ file = take_all limit file fits in
    cc

-- a file's prefix of so many bytes
pub starts_with_limit : (file xs : List ℕ) (limit : ℕ) → StartsWith file xs → length xs ≡ limit → xs ≡ take limit file
starts_with_limit file xs limit starts size = rw (← size) (sym starts)
