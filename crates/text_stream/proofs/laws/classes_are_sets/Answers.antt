use Rattle.text_stream.proofs.ClassLemmas.{class_of-sets}
use Rattle.text_stream.proofs.laws.classes_are_sets.Goals as goal

pub returns : goal.returns
returns c = class_of-sets
