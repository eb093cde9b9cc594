-- What a call leaves on a sink.
use Rattle.std.specs.Prelude.{◌≡◌, ℕ, List, Option}

-- a sink before and after a call: its bytes, where they are told, and its count of faults
pub record Written : Type 0 where
  pub old : Option (List ℕ)
  pub new : Option (List ℕ)
  pub faults_old : ℕ
  pub faults_new : ℕ

-- what was written, by its parts
abbrev pub written : Option (List ℕ) → Option (List ℕ) → ℕ → ℕ → Written
written old new faults_old faults_new = record { old = old; new = new; faults_old = faults_old; faults_new = faults_new }

-- nothing was written
abbrev pub IsSilent : Written → Type 0
IsSilent out = out.new ≡ out.old
