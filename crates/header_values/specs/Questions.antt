-- What two fields say of the body (WHATWG Fetch: determine nosniff; RFC 9110 8.4).
use Rattle.std.specs.Prelude.{ℕ, Bool, false, not, ◌&&◌, List, [], ◌∷◌, codes}
use Rattle.std.specs.List.{list_any}
use Rattle.orb_bytes.specs.Fields.{same_name}
use Rattle.orb_bytes.specs.Bytes.{is_empty}
use Rattle.header_values.specs.Joined.{joined}
use Rattle.header_values.specs.Cuts.{parts_left_of}

-- the parts of the fields of that name; none where there is no such field
abbrev pub parts_under : List (List ℕ × List ℕ) → List ℕ → List (List ℕ)
parts_under fields name = parts_left_of (joined fields name)

-- the first text passes the test
abbrev pub first_passes : (List ℕ → Bool) → List (List ℕ) → Bool
first_passes test [] = false
first_passes test (text ∷ texts) = test text

-- the first part of X-Content-Type-Options is `nosniff`
unfoldable pub is_nosniff : List (List ℕ × List ℕ) → Bool
is_nosniff fields =
    first_passes (λ part. same_name part (codes "nosniff"))
    (parts_under fields (codes "X-Content-Type-Options"))

-- a coding that changes the body: neither empty nor `identity`
abbrev pub is_coding : List ℕ → Bool
is_coding part = not (is_empty part) && not (same_name part (codes "identity"))

-- some part of Content-Encoding is such a coding
unfoldable pub is_coded : List (List ℕ × List ℕ) → Bool
is_coded fields = list_any is_coding (parts_under fields (codes "Content-Encoding"))
