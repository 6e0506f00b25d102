use Rattle.std.proofs.Common.{◌+◌, ◌*◌, get_or, sym, ◌∙◌, refl, arith}
use Rattle.std.specs.Char.{is_ascii_digit}
use Rattle.std.proofs.lemmas.Int.Digits.{digits_value_more}
use Rattle.std.proofs.lemmas.List.Folds.{list_all_more}
use Rattle.orb_bytes.proofs.DecimalLemmas.{one_digit_more, digits_fit, digit_value-ascii, ascii_digit_bounds}
use Rattle.orb_bytes.proofs.numbers.read_decimal.Goals as goal

pub overflow_mul-number : goal.overflow_mul-number
overflow_mul-number c =
    let more = one_digit_more c.loop-b.number 0 c.loop-b.b-index c.loop-b.invariant.0 (omega arith) in
    let fits = digits_fit (c.loop-b.number * 10 + 0) (c.loop-b.b-index + 1) more (omega arith) in
    omega arith

pub overflow_add-number : goal.overflow_add-number
overflow_add-number c =
    let bounds = ascii_digit_bounds (get_or c.args.text.now c.loop-b.b-index 0) (sym c.is_ascii_digit.ensures.value ∙ c.if-not-is_ascii_digit.false) in
    let more = one_digit_more c.loop-b.number c.from.result c.loop-b.b-index c.loop-b.invariant.0 (omega arith) in
    let fits = digits_fit (c.loop-b.number * 10 + c.from.result) (c.loop-b.b-index + 1) more (omega arith) in
    omega arith

pub loop-b-preserved : goal.loop-b-preserved
loop-b-preserved c =
    let digit = sym c.is_ascii_digit.ensures.value ∙ c.if-not-is_ascii_digit.false in
    let bounds = ascii_digit_bounds (get_or c.args.text.now c.loop-b.b-index 0) digit in
    let value = digit_value-ascii (get_or c.args.text.now c.loop-b.b-index 0) digit in
    let more = digits_value_more 10 c.args.text.now c.loop-b.b-index c.loop-b-test.true in
    let each = list_all_more is_ascii_digit c.args.text.now c.loop-b.b-index 0 c.loop-b-test.true in (
      one_digit_more c.loop-b.number c.from.result c.loop-b.b-index c.loop-b.invariant.0 (omega arith),
      omega (arith, more, value, c.loop-b.invariant.1, c.from.ensures),
      rw (each, c.loop-b.invariant.2, digit) refl,
    )
