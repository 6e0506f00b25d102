use Rattle.corb_sniffers.proofs.ValueLemmas.{tag_value, breaker_value, html_value, xml_value, json_value}
use Rattle.corb_sniffers.proofs.laws.sniffers_are_decided.Goals as goal

pub returns : goal.returns
returns c = record { tag = tag_value; breaker = breaker_value; html = html_value; xml = xml_value; json = json_value }
