use Rattle.std.proofs.Common.{ap, ◌∙◌}
use Rattle.text_stream.specs.Runs.{is_in}
use Rattle.es5_lexer.specs.declared.runs.TheConstants.{NAME_PARTS}
use Rattle.es5_lexer.proofs.RunLemmas.{name_table}
use Rattle.es5_lexer.proofs.runs.is_name_part.Goals as goal

pub returns : goal.returns
returns c = ap (is_in NAME_PARTS) c.from.ensures ∙ name_table c.args.b c.ranges.b.fits
