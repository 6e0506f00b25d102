use Rattle.std.proofs.Common.{ltb-true}
use Rattle.text_stream.proofs.ClassLemmas.{ascii-class_of}
use Rattle.text_stream.proofs.classes.class_of.Goals as goal

pub returns-then-is_ascii : goal.returns-then-is_ascii
returns-then-is_ascii c = ascii-class_of c.args.c (ltb-true c.args.c 128 (cc))
