-- What a proxy is asked for, and what it sends on (RFC 9110 7.6, RFC 9112 3.2).
use Rattle.std.specs.Prelude.{◌≡◌, ℕ, Bool, not, List, [], ◌∷◌, ◌++◌, filter, codes}
use Rattle.std.specs.List.{list_any, flat_map}
use Rattle.httparse.specs.Grammar.{RequestHead}
use Rattle.orb_bytes.specs.Ascii.{space, crlf}
use Rattle.orb_bytes.specs.Fields.{same_name}
use Rattle.http_exchange.specs.Heads.{IsRequest}
use Rattle.http_exchange.specs.Fields.{pairs_of}
use Rattle.exchanges.specs.Heads.{RequestText, IsRequestHead}
use Rattle.live_proxy.specs.Targets.{Target, IsTarget}

-- a request
pub record Request : Type 0 where
  -- its head, and what that says of the fetch that made it
  pub text : RequestText
  pub method : List ℕ
  pub target : Target
  -- names and values, in order
  pub fields : List (List ℕ × List ℕ)

-- the bytes are a request head of this method, this target and these fields
pub record IsRequestFor (head method : List ℕ) (target : Target) (fields : List (List ℕ × List ℕ)) : Type 0 where
  pub tree : RequestHead
  pub reads : IsRequest head tree
  pub method_is : method ≡ tree.method
  pub target_is : IsTarget tree.target target
  pub fields_are : fields ≡ pairs_of tree.fields

-- the bytes are a request head with a target that is refused
pub record HasBadTarget (head : List ℕ) : Type 0 where
  pub tree : RequestHead
  pub reads : IsRequest head tree
  pub none : (t : Target) → ¬ (IsTarget tree.target t)

-- the head is good, and says this
pub record IsGood (r : Request) : Type 0 where
  pub head : IsRequestHead r.text
  pub parts : IsRequestFor r.text.bytes r.method r.target r.fields

-- The fields that are not sent on: the host, which is written anew; those that are about one connection alone (RFC 9110
-- 7.6.1, with `Proxy-Connection` and `Keep-Alive`); the codings that the client accepts; and the id of its media resource.
abbrev pub dropped_names : List (List ℕ)
dropped_names =
    codes "Host" ∷ codes "Connection" ∷ codes "Proxy-Connection" ∷ codes "Keep-Alive" ∷ codes "Accept-Encoding"
    ∷ codes "Orb-Media" ∷ []

abbrev pub is_sent_on : List ℕ → Bool
is_sent_on name = not (list_any (same_name name) dropped_names)

-- the line of a field (RFC 9112 5)
abbrev pub line_of : List ℕ × List ℕ → List ℕ
line_of field = field.0 ++ (codes ": " ++ (field.1 ++ crlf))

-- the lines of the fields that are sent on
abbrev pub lines_of : List (List ℕ × List ℕ) → List ℕ
lines_of fields = flat_map line_of (filter (λ field. is_sent_on field.0) fields)

-- the request line (RFC 9112 3), and the host (RFC 9110 7.2)
abbrev pub start_of : (method : List ℕ) → Target → List ℕ
start_of method target =
    method ++ (space ∷ (target.path ++ (codes " HTTP/1.1" ++ (crlf
    ++ (codes "Host: " ++ (target.authority ++ crlf))))))

-- the request head that is sent on
unfoldable pub forwarded_for : (method : List ℕ) → Target → (fields : List (List ℕ × List ℕ)) → List ℕ
forwarded_for method target fields =
    start_of method target ++ (lines_of fields ++ (codes "Connection: close" ++ (crlf ++ crlf)))

-- the same of a request
abbrev pub forwarded : Request → List ℕ
forwarded r = forwarded_for r.method r.target r.fields
