-- From the text that was read to the file that it was read from.
use Rattle.std.proofs.Common.{◌≡◌, ℕ, ◌<◌, ◌≤◌, List, length, take, arith, subst, ◌∙◌}
use Rattle.std.proofs.lemmas.List.{take_all, length-take}
use Rattle.fzn_lex.specs.declared.errors.LexError.{LexError}
use Rattle.fzn_lex.specs.declared.errors.LexError.TheVariants as lexing
use Rattle.fzn_syntax.specs.declared.items.Items.{Items}
use Rattle.dom_top.specs.declared.fault.ModelFault.{ModelFault}
use Rattle.dom_top.specs.declared.fault.ModelFault.TheVariants.{Lex, Syntax, Lower, NotBuilt}
use Rattle.dom_top.specs.Texts.{HasItems, HasLexFault, IsFault}

module _ (limit : ℕ) (above : 16777216 < limit) (text file : List ℕ) (is : text ≡ take limit file) where
  -- a text that is shorter than what was asked for is the whole file
  whole_file : length text ≤ 16777216 → text ≡ file
  whole_file short =
      let cut : length (take limit file) < limit = rw (← is) (omega (arith, short, above)) in
      let few : length file ≤ limit = let e = length-take limit file in omega (arith, e, cut) in
      is ∙ take_all limit file few

  short_file : (P : List ℕ → Type 0) → length text ≤ 16777216 → P text → P file
  short_file P short p = subst P (whole_file short) p

  -- a text that is too long is the beginning of a file that is
  long_file : 16777216 < length text → 16777216 < length file
  long_file long =
      let cut : 16777216 < length (take limit file) = rw (← is) long in
      let e = length-take limit file in
      omega (arith, e, cut)

  pub has_file : (P : List ℕ → Type 0) (items : Items) → HasItems text items → P text → P file
  has_file P items has p = short_file P has.lexed.0 p

  lex_fault_file : (error : LexError) → HasLexFault text error → HasLexFault file error
  lex_fault_file lexing.TooLong f = record { not_memory = f.not_memory; lexed = long_file f.lexed }
  lex_fault_file (lexing.BadByte at) f = short_file (λ t. HasLexFault t (lexing.BadByte at)) f.lexed.0 f
  lex_fault_file (lexing.BadNumber at) f = short_file (λ t. HasLexFault t (lexing.BadNumber at)) f.lexed.0 f
  lex_fault_file (lexing.OpenString at) f = short_file (λ t. HasLexFault t (lexing.OpenString at)) f.lexed.0 f
  lex_fault_file lexing.Memory f = record { not_memory = f.not_memory; lexed = tt }

  pub fault_file : (fault : ModelFault) → IsFault text fault → IsFault file fault
  fault_file (Lex error) f = lex_fault_file error f
  fault_file (Syntax error) f = short_file (λ t. IsFault t (Syntax error)) f.lexed.0 f
  fault_file (Lower error) f = short_file (λ t. IsFault t (Lower error)) f.has.lexed.0 f
  fault_file NotBuilt f = short_file (λ t. IsFault t NotBuilt) f.stands.read.has.lexed.0 f
