-- What is read of a response head, to judge the response and to read its body.
use Rattle.std.specs.Prelude.{◌≡◌, ℕ, List, Option, Result, Ok, Err}
use Rattle.response_rules.specs.declared.facts.Facts.{Facts}
use Rattle.response_rules.specs.Facts.{AreFactsOf}
use Rattle.response_rules.specs.Reads.{case_of}
use Rattle.http_exchange.specs.Reading.{ReadsResponseHead}
use Rattle.http_exchange.specs.Heads.{IsResponse}
use Rattle.http_exchange.specs.Fields.{pairs_of}
use Rattle.http_exchange.specs.ResponseFields.{frame_of}
use Rattle.http_exchange.specs.declared.refusals.BadKind.{BadKind}
use Rattle.http_exchange.specs.declared.frames.BodyFrame.{BodyFrame}
use Rattle.httparse.specs.Grammar.{status_code, ResponseHead}
use Rattle.response_rules.specs.Heads.{HasEssence}
use Rattle.exchanges.specs.declared.room.Context.{Context}

-- the head says this, and these are the facts of its response
pub record ReadsWell (c : Context) (head : List ℕ) (read : Facts) (frame : BodyFrame) : Type 0 where
  pub tree : ResponseHead
  pub is : IsResponse head tree
  pub framed : frame_of c.asks.is_head (status_code tree) (pairs_of tree.fields) ≡ Ok frame
  pub essence : Option (List ℕ × List ℕ)
  pub states : HasEssence (pairs_of tree.fields) essence
  pub facts : AreFactsOf read
      (case_of c.policy c.state c.asks.opaque (status_code tree) (pairs_of tree.fields) c.limit essence)

abbrev pub ReadsResponse : Context → List ℕ → Result (Facts × BodyFrame) BadKind → Type 0
ReadsResponse c head (Ok read) = ReadsWell c head read.0 read.1
ReadsResponse c head (Err kind) = ReadsResponseHead head c.asks.is_head (Err kind)
