-- The parts of a request head: what its line asks for (RFC 9112 3), and its fields (RFC 9112 5).
use Rattle.std.specs.Prelude.{◌≡◌, ℕ, List}
use Rattle.httparse.specs.Grammar.{RequestHead}
use Rattle.header_values.specs.Fields.{pairs_in, AreOfHead}
use Rattle.http_exchange.specs.Fields.{pairs_of}
use Rattle.http_exchange.specs.declared.spans.RequestLine.{RequestLine}
use Rattle.http_exchange.specs.declared.request.RequestParts.{RequestParts}

-- it is the line of the head
pub record IsLineOf (h : RequestHead) (line : RequestLine) : Type 0 where
  pub method : line.method.now ≡ h.method
  pub target : line.target.now ≡ h.target

-- they are the parts of the head, which is these bytes
pub record ArePartsOf (head : List ℕ) (h : RequestHead) (parts : RequestParts) : Type 0 where
  pub method : parts.method.now ≡ h.method
  pub target : parts.target.now ≡ h.target
  pub head_is : parts.fields.head.now ≡ head
  pub fields_are : pairs_in parts.fields ≡ pairs_of h.fields
  pub good : AreOfHead parts.fields
