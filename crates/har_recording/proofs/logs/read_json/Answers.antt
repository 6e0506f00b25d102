use Rattle.std.proofs.Common.{◌∙◌, sym, ap}
use Rattle.serde_json.specs.Read.{read}
use Rattle.har_recording.proofs.JsonLemmas.{json_in_utf8, no_json}
use Rattle.har_recording.proofs.logs.read_json.Goals as goal

pub returns-in_default-clause-refused : goal.returns-in_default-clause-refused
returns-in_default-clause-refused c entry e = (cc, no_json c.args.text.now c.in_default.ensures.cases.0)

pub returns-in-Ok-from_str-clause-value : goal.returns-in-Ok-from_str-clause-value
returns-in-Ok-from_str-clause-value c =
    json_in_utf8 c.args.text.now c.in-Ok.ensures.cases.1
    ∙ (ap read (sym c.in-Ok.ensures.cases.0) ∙ c.in-Ok-from_str.ensures.ok)
