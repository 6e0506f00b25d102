use Rattle.std.proofs.Common.{Some, ap}
use Rattle.mime_types.specs.Mime.{quoted, plain}
use Rattle.mime_types.proofs.ReadingLemmas.{reads_plain, reads_string}
use Rattle.mime_types.proofs.values.read_value.Goals as goal

pub returns-in-Some-strip_byte : goal.returns-in-Some-strip_byte
returns-in-Some-strip_byte c =
    let string = c.in_ok-value.ensures in (
      quoted string.0 string.1 c.split_before.result.0.now,
      reads_string c.args.text.now c.in-Some.after.now c.in-Some-strip_byte.string.now c.in_ok-value.after.now
          c.split_before.result.0.now c.split_before.result.1.now string.0 string.1
          c.in-Some.ensures.found c.in-Some-strip_byte.ensures.found string.2 c.split_before.ensures,
      ap Some string.3,
    )

pub returns : goal.returns
returns c = (
  plain c.split_before-2.result.0.now,
  reads_plain c.args.text.now c.in-Some.after.now c.split_before-2.result.0.now c.split_before-2.result.1.now
      c.in-Some.ensures.found c.in_default-strip_byte.ensures.none c.split_before-2.ensures,
  c.in_ok-plain_value.ensures,
)
