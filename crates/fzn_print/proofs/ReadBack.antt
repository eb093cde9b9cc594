-- A printed text is read back as the same items, places aside.
use Rattle.std.proofs.Common.{◌≡◌, ℕ, List, [], refl, sym}
use Rattle.fzn_lex.specs.Cutting.{tokens_of}
use Rattle.fzn_lex.proofs.TightPieces.{tight_cut}
use Rattle.fzn_syntax.specs.declared.items.Items.{Items}
use Rattle.fzn_words.specs.Words.{words}
use Rattle.fzn_syntax.specs.Texts.{AreOfText}
use Rattle.fzn_print.specs.Marks.{text_of}
use Rattle.fzn_print.specs.Canonical.{items_marks}
use Rattle.fzn_print.specs.Aside.{items_aside}
use Rattle.fzn_print.specs.ReadBack.{ReadsBack}
use Rattle.fzn_print.proofs.Apart.{pieces_of, pieces_text, apart_tight}
use Rattle.fzn_print.proofs.Back.{printed_words}
use Rattle.fzn_print.proofs.Placed.{Again}
use Rattle.fzn_syntax.proofs.Spelled.{whole_words}
use Rattle.fzn_syntax.proofs.SpelledItems.{IsSpelledItems, items_spelled}
use Rattle.fzn_print.proofs.ItemsApart.{items_apart}
use Rattle.fzn_print.proofs.ItemsAgain.{items_again}

text_spelled : (items : Items) → AreOfText items → IsSpelledItems items
text_spelled items h = items_spelled items (words h.bytes h.tokens) h.parsed (whole_words h.bytes h.tokens h.lexed.1)

pub printed_back : (items : Items) → ReadsBack items (text_of (items_marks items))
printed_back items h short =
    let kept = text_spelled items h in
    let a = items_again items (words (text_of (items_marks items)) (tokens_of 0 (pieces_of (items_marks items)))) kept (printed_words (items_marks items)) in
    record {
      tokens = tokens_of 0 (pieces_of (items_marks items));
      lexed = (
        short,
        record {
          pieces = pieces_of (items_marks items);
          parts = sym (pieces_text (items_marks items));
          cut = tight_cut (pieces_of (items_marks items)) [] (apart_tight (items_marks items) [] (items_apart items [] kept));
          are = refl;
        },
      );
      again = a.thing;
      same = a.same;
      parsed = a.is;
    }
