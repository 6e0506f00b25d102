-- The heads of the responses: trees of the grammar, and what they say.
use Rattle.std.proofs.Common.{◌≡◌, ℕ, ◌≤◌, false, List, length, Option, Ok, refl, sym, arith}
use Rattle.httparse.specs.Grammar.{status_code}
use Rattle.response_rules.specs.Heads.{HasEssence}
use Rattle.http_exchange.specs.HeadTexts.{head_limit}
use Rattle.http_exchange.specs.ResponseFields.{frame_of}
use Rattle.http_exchange.specs.declared.frames.BodyFrame.{BodyFrame}
use Rattle.exchanges.specs.Heads.{ResponseText, IsResponseHead}
use Rattle.http_exchange.specs.Messages.{head_text}
use Rattle.http_exchange.proofs.HeadTextLemmas.{head_ends}
use Rattle.http_exchange.proofs.HeadTreeLemmas.{StatusLine, line_text, IsStatusLine, response_tree, IsResponse-tree}
use Rattle.trial.proofs.HeadLemmas.{ArePlain, written, read_plain}

-- a head that says this of its status and its frame
pub record Says (line : StatusLine) (fields : List (List ℕ × List ℕ)) (essence : Option (List ℕ × List ℕ)) (frame : BodyFrame)
    : Type 0 where
  pub is_line : IsStatusLine line
  pub plain : ArePlain fields
  pub few : length fields ≤ 128
  pub fits : length (head_text (line_text line) fields) ≤ 384
  pub frame_is : frame_of false (status_code (response_tree line fields)) fields ≡ Ok frame
  pub essence_is : HasEssence fields essence

-- as it is read
abbrev pub text_of : StatusLine → List (List ℕ × List ℕ) → Option (List ℕ × List ℕ) → BodyFrame → ResponseText
text_of line fields essence frame = record {
  bytes = head_text (line_text line) fields;
  status = status_code (response_tree line fields);
  fields = fields;
  essence = essence;
  frame = frame;
}

pub IsResponseHead-text : (line : StatusLine) (fields : List (List ℕ × List ℕ)) (essence : Option (List ℕ × List ℕ)) (frame : BodyFrame)
    → Says line fields essence frame → IsResponseHead false (text_of line fields essence frame)
unfolding head_limit
IsResponseHead-text line fields essence frame says = record {
  text = record { ends = head_ends (line_text line) fields says.is_line.whole (written fields says.plain); fits = omega (arith, says.fits) };
  tree = response_tree line fields;
  reads = IsResponse-tree line fields says.is_line (written fields says.plain) says.few;
  status = refl;
  fields = sym (read_plain fields says.plain);
  frame = says.frame_is;
  essence = says.essence_is;
}
