-- What is read of a head, or which refusal is the first.
use Rattle.std.specs.Prelude.{◌≡◌, ℕ, ◌⊎◌, Bool, List, Result, Ok, Err, codes, bytes_eq}
use Rattle.httparse.specs.Grammar.{status_code}
use Rattle.httparse.specs.Grammar.{RequestHead as RequestTree, ResponseHead as ResponseTree}
use Rattle.header_values.specs.Fields.{pairs_in, AreOfHead}
use Rattle.http_exchange.specs.declared.refusals.BadKind.{BadKind}
use Rattle.http_exchange.specs.declared.refusals.BadKind.TheVariants.{BadHead}
use Rattle.http_exchange.specs.declared.request.RequestHead.{RequestHead}
use Rattle.http_exchange.specs.declared.response.ResponseHead.{ResponseHead}
use Rattle.http_exchange.specs.Fields.{pairs_of}
use Rattle.http_exchange.specs.Heads.{IsRequest, IsResponse}
use Rattle.http_exchange.specs.RequestFields.{request_of}
use Rattle.http_exchange.specs.ResponseFields.{frame_of}

-- the bytes are no request head, or what is read is what its method and its fields say
abbrev pub ReadsRequestHead : List ℕ → Result RequestHead BadKind → Type 0
ReadsRequestHead head result =
    (((h : RequestTree) → ¬ (IsRequest head h)) × (result ≡ Err BadHead))
    ⊎ ((h : RequestTree) × IsRequest head h
    × (result ≡ request_of (bytes_eq h.method (codes "HEAD")) (pairs_of h.fields)))

-- what is read of a response head: its status, its fields, and how its body is framed
pub record IsResponseRead (head : List ℕ) (to_head : Bool) (h : ResponseTree) (r : ResponseHead) : Type 0 where
  pub status : r.status ≡ status_code h
  pub head_is : r.fields.head.now ≡ head
  pub fields_are : pairs_in r.fields ≡ pairs_of h.fields
  pub good : AreOfHead r.fields
  pub frame : frame_of to_head (status_code h) (pairs_of h.fields) ≡ Ok r.frame

-- what is read of a response head, or what its status and its fields are refused for
abbrev pub IsResponseAnswer : List ℕ → Bool → ResponseTree → Result ResponseHead BadKind → Type 0
IsResponseAnswer head to_head h (Ok r) = IsResponseRead head to_head h r
IsResponseAnswer head to_head h (Err kind) = frame_of to_head (status_code h) (pairs_of h.fields) ≡ Err kind

-- the bytes are no response head, or what is read is what it says
abbrev pub ReadsResponseHead : List ℕ → Bool → Result ResponseHead BadKind → Type 0
ReadsResponseHead head to_head result =
    (((h : ResponseTree) → ¬ (IsResponse head h)) × (result ≡ Err BadHead))
    ⊎ ((h : ResponseTree) × IsResponse head h × IsResponseAnswer head to_head h result)
