-- The items of a text, the model that it stands for, and its first fault.
use Rattle.std.specs.Prelude.{◌≡◌, ◌≢◌, ◌↔◌, ℕ, ◌<◌, ◌≤◌, List, length, None, Ok, Err}
use Rattle.dom_model.specs.Least.{width_of}
use Rattle.dom_model.specs.Problem.{Problem}
use Rattle.fzn_lex.specs.declared.tokens.Token.{Token}
use Rattle.fzn_lex.specs.declared.errors.LexError.{LexError}
use Rattle.fzn_lex.specs.declared.errors.LexError.TheVariants as lexing
use Rattle.fzn_lex.specs.Cutting.{IsLexed}
use Rattle.fzn_syntax.specs.declared.error.SyntaxError.{SyntaxError}
use Rattle.fzn_syntax.specs.declared.error.SyntaxError.TheVariants as parsing
use Rattle.fzn_syntax.specs.declared.items.Items.{Items}
use Rattle.fzn_words.specs.Words.{words}
use Rattle.fzn_syntax.specs.Parsed.{IsParsed}
use Rattle.fzn_lower.specs.declared.error.ModelError.{ModelError}
use Rattle.fzn_lower.specs.declared.error.ModelError.TheVariants as lowering
use Rattle.fzn_lower.specs.Lowered.{IsLowered}
use Rattle.fzn_lower.specs.Steps.{FindsFault}
use Rattle.fzn_totality.specs.Totality.{HasUnbuilt}
use Rattle.dom_top.specs.declared.fault.ModelFault.{ModelFault}
use Rattle.dom_top.specs.declared.fault.ModelFault.TheVariants.{Lex, Syntax, Lower, NotBuilt}

-- the text is cut into tokens, whose words are these items
pub record HasItems (text : List ℕ) (items : Items) : Type 0 where
  pub tokens : List Token
  pub lexed : IsLexed text (Ok tokens)
  pub parsed : IsParsed (length text) (words text tokens) (Ok items)

-- the text has these items, which stand for this model
pub record IsRead (text : List ℕ) (items : Items) (p : Problem) : Type 0 where
  pub has : HasItems text items
  pub lowered : IsLowered items (Ok p)

-- the text stands for the model
pub record Stands (text : List ℕ) (p : Problem) : Type 0 where
  pub items : Items
  pub read : IsRead text items p

-- the text stands for the model, whose tuples of values are few enough to be tried
pub record IsBuilt (text : List ℕ) (p : Problem) : Type 0 where
  pub stands : Stands text p
  pub narrow : width_of p ≤ 1000000

-- the text is not cut into tokens, and this is why
pub record HasLexFault (text : List ℕ) (error : LexError) : Type 0 where
  pub not_memory : error ≢ lexing.Memory
  pub lexed : IsLexed text (Err error)

-- the text is cut into tokens, whose words are no items, and this is why
pub record HasSyntaxFault (text : List ℕ) (error : SyntaxError) : Type 0 where
  pub not_memory : error ≢ parsing.Memory
  pub tokens : List Token
  pub lexed : IsLexed text (Ok tokens)
  pub parsed : IsParsed (length text) (words text tokens) (Err error)

-- the text has items, which stand for no model, and this is why
pub record HasItemFault (text : List ℕ) (error : ModelError) : Type 0 where
  pub not_memory : error ≢ lowering.Memory
  pub items : Items
  pub has : HasItems text items
  pub lowered : IsLowered items (Err error)

-- the text stands for a model with too many tuples of values to be tried
pub record IsTooWide (text : List ℕ) : Type 0 where
  pub model : Problem
  pub stands : Stands text model
  pub wide : 1000000 < width_of model

-- the first fault of a text, of those in its bytes, its tokens, its items and its model
abbrev pub IsFault : List ℕ → ModelFault → Type 0
IsFault text (Lex error) = HasLexFault text error
IsFault text (Syntax error) = HasSyntaxFault text error
IsFault text (Lower error) = HasItemFault text error
IsFault text NotBuilt = IsTooWide text

-- the text has items without a fault, one of whose constraints isn't built
pub record IsUnbuilt (text : List ℕ) : Type 0 where
  pub items : Items
  pub has : HasItems text items
  pub faultless : FindsFault items None
  pub unbuilt : HasUnbuilt items.constraints

-- a text has one outcome: one list of items, one model and one first fault at most, and no fault where it stands for a model, but that this is too wide;
-- and what isn't built is a constraint of items without a fault
pub record HasOneOutcome (text : List ℕ) : Type 0 where
  pub items : (one other : Items) → HasItems text one → HasItems text other → one ≡ other
  pub model : (one other : Problem) → Stands text one → Stands text other → one ≡ other
  pub fault : (one other : ModelFault) → IsFault text one → IsFault text other → one ≡ other
  pub standing : (p : Problem) (fault : ModelFault) → Stands text p → IsFault text fault → fault ≡ NotBuilt
  pub built : (p : Problem) (fault : ModelFault) → IsBuilt text p → IsFault text fault → ⊥
  pub unbuilt : IsFault text (Lower lowering.NotBuilt) ↔ IsUnbuilt text

-- every text has one outcome
abbrev pub EveryTextHasOneOutcome : Type 0
EveryTextHasOneOutcome = (text : List ℕ) → HasOneOutcome text
