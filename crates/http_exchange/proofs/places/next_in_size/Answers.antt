use Rattle.std.proofs.Common.{arith}
use Rattle.http_exchange.proofs.PieceLemmas.{one_digit_fits}
use Rattle.http_exchange.proofs.places.next_in_size.Goals as goal

pub overflow_mul-result : goal.overflow_mul-result
overflow_mul-result c =
    let fits = one_digit_fits c.args.size c.args.digits 0 c.requires.fits c.if-digits-lt-MOST_DIGITS.true (omega arith) in omega arith

pub overflow_add-result : goal.overflow_add-result
overflow_add-result c =
    let fits = one_digit_fits c.args.size c.args.digits 15 c.requires.fits c.if-digits-lt-MOST_DIGITS.true (omega arith) in omega arith
