-- A text has one outcome.
use Rattle.std.proofs.Common.{◌≡◌, ℕ, ◌≤◌, List, length, Result, Ok, Err, refl, subst, ap, arith}
use Rattle.dom_model.specs.Least.{width_of}
use Rattle.dom_model.specs.Problem.{Problem}
use Rattle.fzn_lex.specs.declared.tokens.Token.{Token}
use Rattle.fzn_lex.specs.declared.errors.LexError.{LexError}
use Rattle.fzn_lex.specs.declared.errors.LexError.TheVariants as lexing
use Rattle.fzn_lex.specs.Cutting as cutting
use Rattle.fzn_syntax.specs.declared.error.SyntaxError.{SyntaxError}
use Rattle.fzn_syntax.specs.declared.error.SyntaxError.TheVariants as parsing
use Rattle.fzn_syntax.specs.declared.items.Items.{Items}
use Rattle.fzn_words.specs.Words.{words}
use Rattle.fzn_syntax.specs.Parsed as parsed
use Rattle.fzn_lower.specs.declared.error.ModelError.{ModelError}
use Rattle.fzn_lower.specs.declared.error.ModelError.TheVariants as lowering
use Rattle.fzn_lower.specs.Lowered as lowered
use Rattle.dom_top.specs.declared.fault.ModelFault.{ModelFault}
use Rattle.dom_top.specs.declared.fault.ModelFault.TheVariants.{Lex, Syntax, Lower, NotBuilt}
use Rattle.dom_top.specs.Texts.{HasItems, Stands, IsBuilt, HasLexFault, HasSyntaxFault, HasItemFault, IsTooWide, IsUnbuilt, IsFault, HasOneOutcome}
use Rattle.dom_top.proofs.OneAnswer.{one_value, one_error, not_both}

module _ (lexes : cutting.HasOneAnswer) (parses : parsed.HasOneAnswer) (lowers : lowered.HasOneAnswer) (text : List ℕ) where
  one_tokens : (a b : List Token) → cutting.IsLexed text (Ok a) → cutting.IsLexed text (Ok b) → a ≡ b
  one_tokens = one_value lexing.Memory (cutting.IsLexed text) (lexes text)

  one_lex_fault : (a b : LexError) → HasLexFault text a → HasLexFault text b → a ≡ b
  one_lex_fault a b f g = one_error lexing.Memory (cutting.IsLexed text) (lexes text) a b f.not_memory g.not_memory f.lexed g.lexed

  no_tokens : (tokens : List Token) (a : LexError) → cutting.IsLexed text (Ok tokens) → HasLexFault text a → ⊥
  no_tokens tokens a l f = not_both lexing.Memory (cutting.IsLexed text) (lexes text) tokens a f.not_memory l f.lexed

  -- what the words of the tokens are
  abbrev Parsed : List Token → Result Items SyntaxError → Type 0
  Parsed tokens = parsed.IsParsed (length text) (words text tokens)

  one_items : (a b : Items) → HasItems text a → HasItems text b → a ≡ b
  one_items a b h k =
      let same : h.tokens ≡ k.tokens = one_tokens h.tokens k.tokens h.lexed k.lexed in
      let again : Parsed k.tokens (Ok a) = subst (λ (ts : List Token). Parsed ts (Ok a)) same h.parsed in
      one_value parsing.Memory (Parsed k.tokens) (parses (length text) (words text k.tokens)) a b again k.parsed

  one_syntax_fault : (a b : SyntaxError) → HasSyntaxFault text a → HasSyntaxFault text b → a ≡ b
  one_syntax_fault a b f g =
      let same : f.tokens ≡ g.tokens = one_tokens f.tokens g.tokens f.lexed g.lexed in
      let again : Parsed g.tokens (Err a) = subst (λ (ts : List Token). Parsed ts (Err a)) same f.parsed in
      one_error parsing.Memory (Parsed g.tokens) (parses (length text) (words text g.tokens)) a b f.not_memory g.not_memory again g.parsed

  no_items : (a : Items) (b : SyntaxError) → HasItems text a → HasSyntaxFault text b → ⊥
  no_items a b h f =
      let same : h.tokens ≡ f.tokens = one_tokens h.tokens f.tokens h.lexed f.lexed in
      let again : Parsed f.tokens (Ok a) = subst (λ (ts : List Token). Parsed ts (Ok a)) same h.parsed in
      not_both parsing.Memory (Parsed f.tokens) (parses (length text) (words text f.tokens)) a b f.not_memory again f.parsed

  one_model : (p q : Problem) → Stands text p → Stands text q → p ≡ q
  one_model p q s t =
      let same : s.items ≡ t.items = one_items s.items t.items s.read.has t.read.has in
      let again = subst (λ (items : Items). lowered.IsLowered items (Ok p)) same s.read.lowered in
      one_value lowering.Memory (lowered.IsLowered t.items) (lowers t.items) p q again t.read.lowered

  one_item_fault : (a b : ModelError) → HasItemFault text a → HasItemFault text b → a ≡ b
  one_item_fault a b f g =
      let same : f.items ≡ g.items = one_items f.items g.items f.has g.has in
      let again = subst (λ (items : Items). lowered.IsLowered items (Err a)) same f.lowered in
      one_error lowering.Memory (lowered.IsLowered g.items) (lowers g.items) a b f.not_memory g.not_memory again g.lowered

  no_model : (p : Problem) (a : ModelError) → Stands text p → HasItemFault text a → ⊥
  no_model p a s f =
      let same : s.items ≡ f.items = one_items s.items f.items s.read.has f.has in
      let again = subst (λ (items : Items). lowered.IsLowered items (Ok p)) same s.read.lowered in
      not_both lowering.Memory (lowered.IsLowered f.items) (lowers f.items) p a f.not_memory again f.lowered

  one_fault : (e f : ModelFault) → IsFault text e → IsFault text f → e ≡ f
  one_fault (Lex e) (Lex f) h k = ap Lex (one_lex_fault e f h k)
  one_fault (Lex e) (Syntax f) h k = absurd (no_tokens k.tokens e k.lexed h)
  one_fault (Lex e) (Lower f) h k = absurd (no_tokens k.has.tokens e k.has.lexed h)
  one_fault (Lex e) NotBuilt h k = absurd (no_tokens k.stands.read.has.tokens e k.stands.read.has.lexed h)
  one_fault (Syntax e) (Lex f) h k = absurd (no_tokens h.tokens f h.lexed k)
  one_fault (Syntax e) (Syntax f) h k = ap Syntax (one_syntax_fault e f h k)
  one_fault (Syntax e) (Lower f) h k = absurd (no_items k.items e k.has h)
  one_fault (Syntax e) NotBuilt h k = absurd (no_items k.stands.items e k.stands.read.has h)
  one_fault (Lower e) (Lex f) h k = absurd (no_tokens h.has.tokens f h.has.lexed k)
  one_fault (Lower e) (Syntax f) h k = absurd (no_items h.items f h.has k)
  one_fault (Lower e) (Lower f) h k = ap Lower (one_item_fault e f h k)
  one_fault (Lower e) NotBuilt h k = absurd (no_model k.model e k.stands h)
  one_fault NotBuilt (Lex f) h k = absurd (no_tokens h.stands.read.has.tokens f h.stands.read.has.lexed k)
  one_fault NotBuilt (Syntax f) h k = absurd (no_items h.stands.items f h.stands.read.has k)
  one_fault NotBuilt (Lower f) h k = absurd (no_model h.model f h.stands k)
  one_fault NotBuilt NotBuilt h k = refl

  standing : (p : Problem) (f : ModelFault) → Stands text p → IsFault text f → f ≡ NotBuilt
  standing p (Lex e) s k = absurd (no_tokens s.read.has.tokens e s.read.has.lexed k)
  standing p (Syntax e) s k = absurd (no_items s.items e s.read.has k)
  standing p (Lower e) s k = absurd (no_model p e s k)
  standing p NotBuilt s k = refl

  never_wide : (p : Problem) → IsBuilt text p → IsTooWide text → ⊥
  never_wide p b w =
      let same : p ≡ w.model = one_model p w.model b.stands w.stands in
      let narrow : width_of w.model ≤ 1000000 = subst (λ (q : Problem). width_of q ≤ 1000000) same b.narrow in
      let wide = w.wide in
      omega (arith, narrow, wide)

  built : (p : Problem) (f : ModelFault) → IsBuilt text p → IsFault text f → ⊥
  built p f b k = never_wide p b (subst (IsFault text) (standing p f b.stands k) k)

  not_built_is_no_memory : lowering.NotBuilt ≡ lowering.Memory → ⊥
  not_built_is_no_memory e = absurd cc

  told_unbuilt : IsFault text (Lower lowering.NotBuilt) → IsUnbuilt text
  told_unbuilt h = record { items = h.items; has = h.has; faultless = h.lowered.0; unbuilt = h.lowered.1 }

  unbuilt_told : IsUnbuilt text → IsFault text (Lower lowering.NotBuilt)
  unbuilt_told h = record { not_memory = not_built_is_no_memory; items = h.items; has = h.has; lowered = (h.faultless, h.unbuilt) }

  pub one_outcome : HasOneOutcome text
  one_outcome = record {
    items = one_items;
    model = one_model;
    fault = one_fault;
    standing = standing;
    built = built;
    unbuilt = (told_unbuilt, unbuilt_told);
  }
