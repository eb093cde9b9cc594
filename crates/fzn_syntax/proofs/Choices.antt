-- The law of a choice: the first symbol tells whether it is this alternative or one of the others.
use Rattle.std.proofs.Common.{◌≡◌, Bool, true, false, List, ◌++◌, ◌⊎◌, refl, subst}
use Rattle.reading.specs.Readers.{Answer, begins, none, made, either}
use Rattle.reading.proofs.Laws.{Stops, Reads}
use Rattle.reading.proofs.Joins.{made_reads, either_reads, sure_reads}

pub choice_reads : {S X Y : Type 0} (D : Y → List S → Type 0) (E F : X → List S → Type 0) (goes test : S → Bool) (f : Y → X) (read : List S → Answer S Y) (other : List S → Answer S X)
    → Reads D goes read → Reads E goes other
    → ((y : Y) (used rest : List S) → D y used → begins test (used ++ rest) ≡ true)
    → ((x : X) (used rest : List S) → E x used → Stops goes rest → begins test (used ++ rest) ≡ false)
    → ((y : Y) (symbols : List S) → D y symbols → F (f y) symbols)
    → ((x : X) (symbols : List S) → E x symbols → F x symbols)
    → ((x : X) (symbols : List S) → F x symbols → ((y : Y) × (f y ≡ x) × D y symbols) ⊎ E x symbols)
    → Reads F goes (either test (made f read) other)
choice_reads {S} {X} {Y} D E F goes test f read other h k starts differs left right back =
    let M : X → List S → Type 0 = λ x symbols. (y : Y) × (f y ≡ x) × D y symbols in
    either_reads M E F goes test (made f read) other
    (made_reads D M goes f read h (λ y symbols d. (y, refl, d)) (λ x symbols d. d)) k
    (λ x symbols d. subst (λ (v : X). F v symbols) d.1 (left d.0 symbols d.2)) right
    (λ x used rest d. starts d.0 used rest d.2) differs back

-- an alternative that is sure of its end
pub sure_choice_reads : {S X Y : Type 0} (D : Y → List S → Type 0) (E F : X → List S → Type 0) (goes test : S → Bool) (f : Y → X) (read : List S → Answer S Y) (other : List S → Answer S X)
    → Reads D none read → Reads E goes other
    → ((y : Y) (used rest : List S) → D y used → begins test (used ++ rest) ≡ true)
    → ((x : X) (used rest : List S) → E x used → Stops goes rest → begins test (used ++ rest) ≡ false)
    → ((y : Y) (symbols : List S) → D y symbols → F (f y) symbols)
    → ((x : X) (symbols : List S) → E x symbols → F x symbols)
    → ((x : X) (symbols : List S) → F x symbols → ((y : Y) × (f y ≡ x) × D y symbols) ⊎ E x symbols)
    → Reads F goes (either test (made f read) other)
sure_choice_reads D E F goes test f read other h k starts differs left right back =
    choice_reads D E F goes test f read other (sure_reads D goes read h) k starts differs left right back
