-- Request targets in absolute form (RFC 9112 3.2.2) with the scheme `http`, as the grammar of `http_uri` has them.
use Rattle.std.specs.Prelude.{◌≡◌, ℕ, ◌<◌, ◌≤◌, Bool, false, ◌||◌, ◌==◌, List, [], ◌∷◌, ◌++◌, length, Some, codes, if◌then◌else◌}
use Rattle.std.specs.List.{list_any}
use Rattle.http_uri.specs.ByteClasses.{slash, colon, at_sign, hash_sign}
use Rattle.http_uri.specs.Grammar.{authority_host}
use Rattle.http_uri.specs.Uri.{Spells, uri_scheme, uri_authority, uri_data}
use Rattle.http_uri.specs.declared.uri.Uri.{Uri}
use Rattle.orb_bytes.specs.Decimal.{decimal_of}

-- where a target sends a request to, and what for
pub record Target : Type 0 where
  -- host and port, as written
  pub authority : List ℕ
  pub host : List ℕ
  pub port : ℕ
  -- path and query
  pub path : List ℕ

-- a byte that a target may not have: one that ends user information (RFC 3986 3.2.1) or begins a fragment (3.5)
abbrev pub is_refused_byte : ℕ → Bool
is_refused_byte b = b == at_sign || b == hash_sign

-- what stands after the host is the port; none is 80 (RFC 9110 4.2.1)
abbrev pub IsPort : List ℕ → ℕ → Type 0
IsPort [] port = port ≡ 80
IsPort (b ∷ digits) port = (b ≡ colon) × (decimal_of digits ≡ Some port) × (1 ≤ port) × (port ≤ 65535)

-- the authority is a host that isn't empty, and the port after it
pub record IsHostAndPort (authority host : List ℕ) (port : ℕ) : Type 0 where
  pub host_is : host ≡ authority_host authority
  pub some : 0 < length host
  pub after : List ℕ
  pub cut : authority ≡ host ++ after
  pub port_is : IsPort after port

-- a path and a query, with `/` before them where they don't begin so
abbrev pub absolute_path : List ℕ → List ℕ
absolute_path [] = slash ∷ []
absolute_path (b ∷ bytes) = if b == slash then b ∷ bytes else slash ∷ (b ∷ bytes)

-- the text is this target, with the scheme in any case
pub record IsTarget (text : List ℕ) (t : Target) : Type 0 where
  pub plain : list_any is_refused_byte text ≡ false
  pub uri : Uri
  pub spelled : Spells text uri
  pub scheme : uri_scheme uri ≡ Some (codes "http")
  pub authority : uri_authority uri ≡ Some t.authority
  pub place : IsHostAndPort t.authority t.host t.port
  pub path : t.path ≡ absolute_path (uri_data uri)
