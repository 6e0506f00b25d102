-- What stands in the place of a response that is blocked.
use Rattle.std.specs.Prelude.{ℕ, List, ◌++◌, codes}
use Rattle.response_rules.specs.Rules.{name_of}
use Rattle.response_rules.specs.declared.rules.Rule.{Rule}
use Rattle.orb_bytes.specs.Ascii.{crlf}

-- a response with status 403 and no body, whose one further field names the rule
unfoldable pub reply_of : Rule → List ℕ
reply_of rule =
    codes "HTTP/1.1 403 Forbidden"
    ++ (crlf ++ (codes "Content-Length: 0"
    ++ (crlf ++ (codes "Orb-Rule: " ++ (name_of rule ++ (crlf ++ crlf))))))
