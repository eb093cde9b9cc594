-- What a search by halves says of the table.
use Rattle.std.proofs.Common.{◌≡◌, ℕ, ◌<◌, List, map, length, get_or, Some, Ok, Err, slice_get, refl, sym, ◌∙◌, ap}
use Rattle.std.specs.Cmp.Lexicographic.{slice_cmp}
use Rattle.std.specs.List.Sorted.{IsBinarySearchResult}
use Rattle.std.specs.Option.{option_map}
use Rattle.std.specs.Ordering.{nat_cmp}
use Rattle.std.proofs.lemmas.Map.Lookups.{exact_bytes}
use Rattle.std.proofs.lemmas.Option.{slice_get-get_or, slice_get-map}
use Rattle.fzn_signatures.specs.declared.row.Row.{Row}
use Rattle.fzn_signatures.specs.Rows.{entry_of}
use Rattle.fzn_signatures.specs.Table.{Entry, table, IsEntryOf, IsUnlisted}
use Rattle.fzn_signatures.proofs.Rising.{rises, rises_before, image_at, absent}

module _ (rows : List Row) (are : map entry_of rows ≡ table) (name : List ℕ) where
  pub listed : (at : ℕ) (d : Row) → at < length rows → IsBinarySearchResult (λ r. slice_cmp nat_cmp r.name.now name) rows (Ok at) → IsEntryOf name (entry_of (get_or rows at d))
  listed at d within equal =
      let r = get_or rows at d in
      let stands : slice_get (map entry_of rows) at ≡ Some (entry_of r) = slice_get-map entry_of rows at ∙ ap (option_map entry_of) (slice_get-get_or rows at d within) in
      (at, ap (λ (es : List Entry). slice_get es at) (sym are) ∙ stands, exact_bytes r.name.now name (equal d))

  pub unlisted : (at : ℕ) → IsBinarySearchResult (λ r. slice_cmp nat_cmp r.name.now name) rows (Err at) → IsUnlisted name
  unlisted at ended e h =
      let stands : slice_get (map entry_of rows) h.0 ≡ Some e = ap (λ (es : List Entry). slice_get es h.0) are ∙ h.1 in
      let row = image_at entry_of rows h.0 e stands in
      let rising : rises (λ (r : Row). r.name.now) rows ≡ rises (λ (x : Entry). x.name) table = rises_before (λ (x : Entry). x.name) entry_of rows ∙ ap (rises (λ (x : Entry). x.name)) are in
      absent (λ (r : Row). r.name.now) rows name at h.0 row.0 (rising ∙ refl) ended row.1 (ap (λ (x : Entry). x.name) row.2 ∙ h.2)
