-- The trees of the grammar that the texts of heads are: there is one for each.
use Rattle.std.proofs.Common.{◌≡◌, ℕ, ◌<◌, ◌≤◌, true, List, [], ◌∷◌, ◌++◌, length, get_or, Some, refl, sym, ap, ◌∙◌, arith, append-nil, append_assoc, codes}
use Rattle.std.specs.List.{list_all, flat_map}
use Rattle.std.specs.Char.{is_ascii_digit}
use Rattle.std.proofs.lemmas.List.{length-map}
use Rattle.std.proofs.lemmas.List.Sums.{AllPass-from_list_all}
use Rattle.std.proofs.lemmas.Str.{IsUtf8-from_ascii}
use Rattle.std.proofs.lemmas.Str.Ascii.{IsAscii-cons, IsAscii-nil}
use Rattle.httparse.specs.Grammar as grammar
use Rattle.httparse.specs.Grammar.{is_token_byte, is_uri_byte, is_value_byte, print_version, print_section, print_request, print_response, ReadsRequest, ReadsResponse}
use Rattle.httparse.proofs.GrammarLemmas.{request_unique, response_unique}
use Rattle.orb_bytes.specs.Ascii.{space}
use Rattle.orb_bytes.specs.Ascii as ascii
use Rattle.http_exchange.specs.Heads.{IsRequest, IsResponse}
use Rattle.http_exchange.specs.Messages.{field_line, head_text}
use Rattle.http_exchange.proofs.HeadTextLemmas.{AreWritable, tree_of, trees_of, print_section-trees, AreFields-trees, is_no_end}

-- ---- requests

-- the start line of a request with this method for the target `/`
abbrev pub request_line : (method : List ℕ) → List ℕ
request_line method = method ++ codes " / HTTP/1.1"

pub record IsMethod (method : List ℕ) : Type 0 where
  pub some : 0 < length method
  pub token : list_all is_token_byte method ≡ true

-- the tree of a head with these fields
abbrev pub request_tree : (method : List ℕ) → List (List ℕ × List ℕ) → grammar.RequestHead
request_tree method fields = record {
  blank = [];
  method = method;
  target = codes "/";
  minor = 1;
  line_end = grammar.crlf;
  fields = trees_of fields;
  last = grammar.crlf;
}

-- what stands after the method
print-target : (fields : List (List ℕ × List ℕ))
    → (space ∷ codes "/") ++ ((space ∷ print_version 1) ++ (ascii.crlf ++ print_section (trees_of fields) grammar.crlf))
    ≡ codes " / HTTP/1.1" ++ (ascii.crlf ++ (flat_map field_line fields ++ ascii.crlf))
print-target fields = ap (λ l. codes " / HTTP/1.1" ++ (ascii.crlf ++ l)) (print_section-trees fields)

print-request : (method : List ℕ) (fields : List (List ℕ × List ℕ))
    → print_request (request_tree method fields) ≡ head_text (request_line method) fields
unfolding print_request
print-request method fields =
    let target = space ∷ codes "/" in
    let version = space ∷ print_version 1 in
    let section = print_section (trees_of fields) grammar.crlf in
    append_assoc ((method ++ target) ++ version) ascii.crlf section
    ∙ append_assoc (method ++ target) version (ascii.crlf ++ section)
    ∙ append_assoc method target (version ++ (ascii.crlf ++ section))
    ∙ ap (λ l. method ++ l) (print-target fields)
    ∙ sym (append_assoc method (codes " / HTTP/1.1") (ascii.crlf ++ (flat_map field_line fields ++ ascii.crlf)))

is_request_tree : (method : List ℕ) (fields : List (List ℕ × List ℕ)) → IsMethod method → AreWritable fields
    → grammar.IsRequestHead (request_tree method fields)
is_request_tree method fields is written = record {
  method = (is.some, AllPass-from_list_all is_token_byte method is.token);
  target = (omega arith, AllPass-from_list_all is_uri_byte (codes "/") refl);
  target_text = IsUtf8-from_ascii (codes "/") (IsAscii-cons (get_or (codes "/") 0 0) [] (omega arith) IsAscii-nil);
  minor = omega arith;
  fields = AreFields-trees fields written;
}

reads_request_tree : (method : List ℕ) (fields : List (List ℕ × List ℕ)) → IsMethod method → AreWritable fields
    → ReadsRequest (head_text (request_line method) fields) (request_tree method fields) []
reads_request_tree method fields is written =
    (is_request_tree method fields is written, sym (append-nil (print_request (request_tree method fields)) ∙ print-request method fields))

pub IsRequest-tree : (method : List ℕ) (fields : List (List ℕ × List ℕ)) → IsMethod method → AreWritable fields → length fields ≤ 128
    → IsRequest (head_text (request_line method) fields) (request_tree method fields)
IsRequest-tree method fields is written few = (reads_request_tree method fields is written, omega (arith, length-map fields tree_of))

-- the text is no other head
pub request_tree-only : (method : List ℕ) (fields : List (List ℕ × List ℕ)) (h : grammar.RequestHead) → IsMethod method
    → AreWritable fields → IsRequest (head_text (request_line method) fields) h → h ≡ request_tree method fields
request_tree-only method fields h is written x =
    (request_unique (head_text (request_line method) fields) h (request_tree method fields) _ _ x.0 (reads_request_tree method fields is written)).0

-- ---- responses

-- a status line as the grammar has it
pub record StatusLine : Type 0 where
  pub digits : List ℕ
  pub phrase : List ℕ

abbrev pub line_text : StatusLine → List ℕ
line_text l = codes "HTTP/1.1 " ++ (l.digits ++ (space ∷ l.phrase))

pub record IsStatusLine (l : StatusLine) : Type 0 where
  pub three : length l.digits ≡ 3
  pub digits : list_all is_ascii_digit l.digits ≡ true
  pub phrase : list_all is_value_byte l.phrase ≡ true
  pub whole : list_all is_no_end (line_text l) ≡ true

-- the tree of a head with these fields
abbrev pub response_tree : StatusLine → List (List ℕ × List ℕ) → grammar.ResponseHead
response_tree l fields = record {
  blank = [];
  minor = 1;
  digits = l.digits;
  reason = Some l.phrase;
  line_end = grammar.crlf;
  fields = trees_of fields;
  last = grammar.crlf;
}

print-response : (l : StatusLine) (fields : List (List ℕ × List ℕ))
    → print_response (response_tree l fields) ≡ head_text (line_text l) fields
unfolding print_response
print-response l fields =
    ap (λ rest. codes "HTTP/1.1 " ++ rest)
    (append_assoc (l.digits ++ (space ∷ l.phrase)) ascii.crlf (grammar.print_section (trees_of fields) grammar.crlf)
    ∙ ap (λ section. (l.digits ++ (space ∷ l.phrase)) ++ (ascii.crlf ++ section)) (print_section-trees fields))

is_response_tree : (l : StatusLine) (fields : List (List ℕ × List ℕ)) → IsStatusLine l → AreWritable fields
    → grammar.IsResponseHead (response_tree l fields)
is_response_tree l fields is written = record {
  minor = omega arith;
  digits = (is.three, AllPass-from_list_all is_ascii_digit l.digits is.digits);
  reason = AllPass-from_list_all is_value_byte l.phrase is.phrase;
  fields = AreFields-trees fields written;
}

reads_response_tree : (l : StatusLine) (fields : List (List ℕ × List ℕ)) → IsStatusLine l → AreWritable fields
    → ReadsResponse (head_text (line_text l) fields) (response_tree l fields) []
reads_response_tree l fields is written =
    (is_response_tree l fields is written, sym (append-nil (print_response (response_tree l fields)) ∙ print-response l fields))

pub IsResponse-tree : (l : StatusLine) (fields : List (List ℕ × List ℕ)) → IsStatusLine l → AreWritable fields → length fields ≤ 128
    → IsResponse (head_text (line_text l) fields) (response_tree l fields)
IsResponse-tree l fields is written few = (reads_response_tree l fields is written, omega (arith, length-map fields tree_of))

-- the text is no other head
pub response_tree-only : (l : StatusLine) (fields : List (List ℕ × List ℕ)) (h : grammar.ResponseHead) → IsStatusLine l
    → AreWritable fields → IsResponse (head_text (line_text l) fields) h → h ≡ response_tree l fields
response_tree-only l fields h is written x =
    (response_unique (head_text (line_text l) fields) h (response_tree l fields) _ _ x.0 (reads_response_tree l fields is written)).0
