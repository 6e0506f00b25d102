-- What each sniffer looks for, as a truth value. The law `sniffers_are_decided` says that it is that of the definition.
use Rattle.std.specs.Prelude.{ℕ, zero, suc, ◌+◌, Bool, false, ◌&&◌, nat_eq, List, [], ◌∷◌, length, take, drop, codes, Option, Some, None, is_some, if◌then◌else◌}
use Rattle.std.specs.List.{list_any, starts_with}
use Rattle.orb_bytes.specs.Bytes.{is_whitespace_byte}
use Rattle.orb_bytes.specs.Fields.{same_name}
use Rattle.orb_bytes.specs.Trim.{without_leading}
use Rattle.corb_sniffers.specs.Breakers.{breakers}
use Rattle.corb_sniffers.specs.Html.{tags}
use Rattle.corb_sniffers.specs.HtmlReading.{begins_ending}
use Rattle.corb_sniffers.specs.JsonReading.{rest_after_colon}

unfoldable pub has_breaker : List ℕ → Bool
has_breaker window = list_any (starts_with nat_eq (without_leading is_whitespace_byte window)) breakers

unfoldable pub sniffs_xml : List ℕ → Bool
sniffs_xml window = starts_with nat_eq (without_leading is_whitespace_byte window) (codes "<?xml")

unfoldable pub sniffs_json : List ℕ → Bool
sniffs_json window = is_some (rest_after_colon window)

-- the text begins with that tag, in either case, and a byte that ends it
abbrev pub begins_with_tag : List ℕ → List ℕ → Bool
begins_with_tag text tag = same_name (take (length tag) text) tag && begins_ending (drop (length tag) text)

-- after the first `-->`
abbrev pub after_end : List ℕ → Option (List ℕ)
after_end [] = None
after_end (b ∷ text) = if starts_with nat_eq (b ∷ text) (codes "-->") then Some (drop 3 (b ∷ text)) else after_end text

-- after the comment with which the text begins
abbrev pub after_comment : List ℕ → Option (List ℕ)
after_comment text = if starts_with nat_eq text (codes "<!--") then after_end (drop 4 text) else None

-- the text is white space and fewer than n comments, and then what begins with a tag
abbrev pub has_tag_within : (n : ℕ) → List ℕ → Bool
has_tag_within zero text = false
has_tag_within (suc n) text =
    let rest = without_leading is_whitespace_byte text in
    elim (after_comment rest) [
      | Some after ↦ has_tag_within n after
      | None ↦ list_any (begins_with_tag rest) tags
    ]

-- a window has no more comments than bytes
unfoldable pub sniffs_html : List ℕ → Bool
sniffs_html window = has_tag_within (length window + 1) window
