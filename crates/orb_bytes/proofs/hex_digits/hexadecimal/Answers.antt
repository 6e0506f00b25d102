use Rattle.std.proofs.Common.{sym, arith}
use Rattle.orb_bytes.proofs.HexadecimalLemmas.{one_digit, two_digits, three_digits}
use Rattle.orb_bytes.proofs.hex_digits.hexadecimal.Goals as goal

pub returns-then-number-lt16 : goal.returns-then-number-lt16
returns-then-number-lt16 c =
    rw (c.push.ensures.items, c.new-text.ensures, c.digit-last.ensures) (sym (one_digit c.args.number (omega arith)))

pub returns-then-number-lt256 : goal.returns-then-number-lt256
returns-then-number-lt256 c =
    rw (
      c.push-then-number-lt256-2.ensures.items,
      c.push-then-number-lt256.ensures.items,
      c.new-text.ensures,
      c.digit-last.ensures,
      c.digit-middle.ensures,
    )
    (sym (two_digits c.args.number (omega arith) (omega arith)))

pub returns : goal.returns
returns c =
    rw (
      c.push-4.ensures.items,
      c.push-3.ensures.items,
      c.push-2.ensures.items,
      c.new-text.ensures,
      c.digit-last.ensures,
      c.digit-middle.ensures,
      c.digit.ensures,
    )
    (sym (three_digits c.args.number (omega arith) (omega arith)))
