-- Laws of kinds that have neither a sum nor a product, and of functions that have a value everywhere.
use Rattle.std.proofs.Common.{true, List, [], refl, arith}
use Rattle.dom_core.specs.declared.var_id.VarId.{VarId}
use Rattle.kind_law.specs.Laws.{SizeLaw}
use Rattle.kind_law.specs.DefineLaws.{DefinedLaw}

pub no_size : SizeLaw [] (λ s. 0)
no_size small large within = omega arith

pub total_defined : (inputs : List VarId) → DefinedLaw inputs (λ s. true)
total_defined inputs s t same = refl
