use Rattle.response_rules.proofs.TextLemmas.{script_is_decided, json_is_decided}
use Rattle.response_rules.proofs.laws.texts_are_decided.Goals as goal

pub returns : goal.returns
returns c = record { script = script_is_decided; json = json_is_decided }
