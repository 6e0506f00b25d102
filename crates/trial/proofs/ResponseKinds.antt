-- What the response heads of each kind say.
use Rattle.std.proofs.Common.{◌≡◌, ℕ, ◌-◌, ◌<◌, ◌≤◌, ◌^◌, true, List, [], ◌∷◌, ◌++◌, length, Some, None, Ok, refl, sym, ap, subst, arith, append_assoc, length-append, codes, decimal}
use Rattle.std.specs.List.{list_all}
use Rattle.std.proofs.lemmas.List.Folds.{list_all-append}
use Rattle.std.proofs.lemmas.Fmt.{length-decimal-le}
use Rattle.httparse.specs.Grammar.{is_token_byte, is_value_byte, trim_ows}
use Rattle.orb_bytes.specs.Ascii.{space, solidus}
use Rattle.orb_bytes.specs.Ascii as ascii
use Rattle.mime_types.specs.Mime.{Mime, IsCut}
use Rattle.std.specs.Str.{str_to_ascii_lowercase}
use Rattle.header_values.specs.Questions.{parts_under}
use Rattle.header_values.specs.Cuts.{parts_of}
use Rattle.header_values.specs.Extracted.{extracted_of, kept_of, HaveRecords}
use Rattle.response_rules.specs.Heads.{HasEssence}
use Rattle.http_exchange.specs.ResponseFields.{frame_of, sized}
use Rattle.http_exchange.specs.declared.frames.BodyFrame.TheVariants.{Length, Chunked}
use Rattle.trial.specs.declared.kinds.Kind.TheVariants.{Javascript, Nosniff, Png, Script, Json, Text, Jpeg, Media}
use Rattle.http_exchange.specs.Messages.{field_line, head_text}
use Rattle.trial.specs.Trials.{fields_of, whole_range}
use Rattle.http_exchange.proofs.DecimalLemmas.{decimal_of-decimal, decimal-value, decimal-digits, trim_ows-decimal, trim_ows-digits, parts_of-decimal}
use Rattle.trial.proofs.HeadLemmas.{IsPlain, length-last}
use Rattle.http_exchange.proofs.HeadTreeLemmas.{StatusLine, line_text, IsStatusLine}
use Rattle.trial.proofs.Responses.{Says}

-- ---- status lines

abbrev pub ok : StatusLine
ok = record { digits = codes "200"; phrase = codes "OK" }

abbrev pub partial : StatusLine
partial = record { digits = codes "206"; phrase = codes "Partial Content" }

ok_is_line : IsStatusLine ok
ok_is_line = record { three = refl; digits = refl; phrase = refl; whole = refl }

partial_is_line : IsStatusLine partial
partial_is_line = record { three = refl; digits = refl; phrase = refl; whole = refl }

-- ---- fields

plain-type : (text : List ℕ) → list_all is_value_byte text ≡ true → trim_ows (space ∷ text) ≡ text
    → IsPlain (codes "Content-Type", text)
unfolding is_token_byte
plain-type text value bare = record { some = omega arith; name = refl; value = value; bare = bare }

plain-length : (n : ℕ) → IsPlain (codes "Content-Length", decimal n)
unfolding is_token_byte
plain-length n = record {
  some = omega arith;
  name = refl;
  value = decimal-value n;
  bare = trim_ows-decimal n;
}

plain-nosniff : IsPlain (codes "X-Content-Type-Options", codes "nosniff")
unfolding is_token_byte trim_ows
plain-nosniff = record { some = omega arith; name = refl; value = refl; bare = refl }

plain-chunked : IsPlain (codes "Transfer-Encoding", codes "chunked")
unfolding is_token_byte trim_ows
plain-chunked = record { some = omega arith; name = refl; value = refl; bare = refl }

-- up to the number of all bytes
range_start : ℕ → List ℕ
range_start n = codes "bytes 0-" ++ (decimal (n - 1) ++ (solidus ∷ []))

range_cut : (n : ℕ) → whole_range n ≡ range_start n ++ decimal n
unfolding range_start
range_cut n = ap (λ l. codes "bytes 0-" ++ l) (sym (append_assoc (decimal (n - 1)) (solidus ∷ []) (decimal n)))

range-value : (n : ℕ) → list_all is_value_byte (whole_range n) ≡ true
range-value n =
    rw (
      list_all-append is_value_byte (decimal (n - 1)) (solidus ∷ decimal n),
      decimal-value (n - 1),
      decimal-value n,
    ) refl

plain-range : (n : ℕ) → IsPlain (codes "Content-Range", whole_range n)
unfolding is_token_byte range_start
plain-range n =
    let cut = range_cut n in
    let bare = trim_ows-digits (range_start n) (decimal n) refl (decimal-digits n) in record {
      some = omega arith;
      name = refl;
      value = range-value n;
      bare = subst (λ l. trim_ows (space ∷ l) ≡ l) (sym cut) bare;
    }

-- ---- frames

-- a status that may have a body, no Transfer-Encoding, and one Content-Length
sized_is : (n : ℕ) → n < 10 ^ 19 → sized (Some (decimal n)) ≡ Ok (Length n)
sized_is n small = rw (parts_of-decimal n, decimal_of-decimal n small) refl

-- ---- essences

-- one record of the type, and nothing else
abbrev pub mime_type : (main sub : List ℕ) → Mime
mime_type main sub = record { main = main; sub = sub; parameters = [] }

-- the only Content-Type is this text, which is cut so
of_type : (fields : List (List ℕ × List ℕ)) (text main sub : List ℕ) → parts_under fields (codes "Content-Type") ≡ text ∷ []
    → IsCut text (record { main = main; sub = sub; space = []; segments = [] })
    → str_to_ascii_lowercase main ≡ main → str_to_ascii_lowercase sub ≡ sub
    → extracted_of (kept_of (Some (mime_type main sub) ∷ [])) ≡ Some (mime_type main sub)
    → HasEssence fields (Some (main, sub))
of_type fields text main sub found cut lower lower' alone = (
  mime_type main sub,
  (
    Some (mime_type main sub) ∷ [],
    subst (λ texts. HaveRecords texts (Some (mime_type main sub) ∷ [])) (sym found)
        ((record { main = main; sub = sub; space = []; segments = [] }, cut, rw (lower, lower') refl), tt),
    sym alone,
  ),
  refl,
  refl,
)

pub javascript_says : (n : ℕ) → n < 10000 → Says ok (fields_of Javascript n) (Some (codes "text", codes "javascript")) (Length n)
unfolding frame_of parts_of extracted_of trim_ows
javascript_says n small = record {
  is_line = ok_is_line;
  plain = (plain-type (codes "text/javascript") refl refl, (plain-length n, tt));
  few = omega arith;
  fits = omega (arith, length-decimal-le 5 n, length-last (decimal n));
  frame_is = sized_is n (omega arith);
  essence_is =
      of_type (fields_of Javascript n) (codes "text/javascript") (codes "text") (codes "javascript") refl
      (record { whole = refl; main = refl; sub = refl; space = refl; segments = refl })
      refl refl refl;
}

pub nosniff_says : (n : ℕ) → n < 10000 → Says ok (fields_of Nosniff n) (Some (codes "text", codes "html")) (Length n)
unfolding frame_of parts_of extracted_of trim_ows
nosniff_says n small = record {
  is_line = ok_is_line;
  plain = (plain-type (codes "text/html") refl refl, (plain-nosniff, (plain-length n, tt)));
  few = omega arith;
  fits = omega (arith, length-decimal-le 5 n, length-last (decimal n));
  frame_is = sized_is n (omega arith);
  essence_is =
      of_type (fields_of Nosniff n) (codes "text/html") (codes "text") (codes "html") refl
      (record { whole = refl; main = refl; sub = refl; space = refl; segments = refl })
      refl refl refl;
}

pub script_says : (n : ℕ) → n < 10000 → Says ok (fields_of Script n) (Some (codes "application", codes "octet-stream")) (Length n)
unfolding frame_of parts_of extracted_of trim_ows
script_says n small = record {
  is_line = ok_is_line;
  plain = (plain-type (codes "application/octet-stream") refl refl, (plain-length n, tt));
  few = omega arith;
  fits = omega (arith, length-decimal-le 5 n, length-last (decimal n));
  frame_is = sized_is n (omega arith);
  essence_is =
      of_type (fields_of Script n) (codes "application/octet-stream") (codes "application") (codes "octet-stream") refl
      (record { whole = refl; main = refl; sub = refl; space = refl; segments = refl })
      refl refl refl;
}

pub json_says : (n : ℕ) → n < 10000 → Says ok (fields_of Json n) (Some (codes "application", codes "octet-stream")) (Length n)
unfolding frame_of parts_of extracted_of trim_ows
json_says n small = record {
  is_line = ok_is_line;
  plain = (plain-type (codes "application/octet-stream") refl refl, (plain-length n, tt));
  few = omega arith;
  fits = omega (arith, length-decimal-le 5 n, length-last (decimal n));
  frame_is = sized_is n (omega arith);
  essence_is =
      of_type (fields_of Json n) (codes "application/octet-stream") (codes "application") (codes "octet-stream") refl
      (record { whole = refl; main = refl; sub = refl; space = refl; segments = refl })
      refl refl refl;
}

pub text_says : (n : ℕ) → n < 10000 → Says ok (fields_of Text n) (Some (codes "text", codes "plain")) (Length n)
unfolding frame_of parts_of extracted_of trim_ows
text_says n small = record {
  is_line = ok_is_line;
  plain = (plain-type (codes "text/plain") refl refl, (plain-length n, tt));
  few = omega arith;
  fits = omega (arith, length-decimal-le 5 n, length-last (decimal n));
  frame_is = sized_is n (omega arith);
  essence_is =
      of_type (fields_of Text n) (codes "text/plain") (codes "text") (codes "plain") refl
      (record { whole = refl; main = refl; sub = refl; space = refl; segments = refl })
      refl refl refl;
}

pub jpeg_says : (n : ℕ) → n < 10000 → Says ok (fields_of Jpeg n) (Some (codes "image", codes "jpeg")) Chunked
unfolding frame_of parts_of extracted_of trim_ows
jpeg_says n small = record {
  is_line = ok_is_line;
  plain = (plain-type (codes "image/jpeg") refl refl, (plain-chunked, tt));
  few = omega arith;
  fits = omega arith;
  frame_is = refl;
  essence_is =
      of_type (fields_of Jpeg n) (codes "image/jpeg") (codes "image") (codes "jpeg") refl
      (record { whole = refl; main = refl; sub = refl; space = refl; segments = refl })
      refl refl refl;
}

range_fits : (n : ℕ) → n < 10000 → length (head_text (line_text partial) (fields_of Media n)) ≤ 384
range_fits n small =
    let range = decimal (n - 1) ++ (solidus ∷ decimal n) in
    let line = field_line (codes "Content-Length", decimal n) in
    omega (
      arith,
      length-decimal-le 5 n,
      length-decimal-le 5 (n - 1),
      length-append ((range ++ ascii.crlf) ++ (line ++ [])) ascii.crlf,
      length-append (range ++ ascii.crlf) (line ++ []),
      length-append range ascii.crlf,
      length-append line [],
      length-append (decimal n) ascii.crlf,
      length-append (decimal (n - 1)) (solidus ∷ decimal n),
    )

pub media_says : (n : ℕ) → n < 10000 → Says partial (fields_of Media n) (Some (codes "video", codes "ogg")) (Length n)
unfolding frame_of parts_of extracted_of trim_ows
media_says n small = record {
  is_line = partial_is_line;
  plain = (plain-type (codes "video/ogg") refl refl, (plain-range n, (plain-length n, tt)));
  few = omega arith;
  fits = range_fits n small;
  frame_is = sized_is n (omega arith);
  essence_is =
      of_type (fields_of Media n) (codes "video/ogg") (codes "video") (codes "ogg") refl
      (record { whole = refl; main = refl; sub = refl; space = refl; segments = refl })
      refl refl refl;
}

pub png_says : (n : ℕ) → n < 10000 → Says ok (fields_of Png n) None (Length n)
unfolding frame_of extracted_of
png_says n small = record {
  is_line = ok_is_line;
  plain = (plain-length n, tt);
  few = omega arith;
  fits = omega (arith, length-decimal-le 5 n, length-last (decimal n));
  frame_is = sized_is n (omega arith);
  essence_is = ([], tt, refl);
}
