-- A head that is gathered, pull after pull.
use Rattle.std.proofs.Common.{ℕ, ◌+◌, ◌-◌, ◌<◌, ◌≤◌, List, [], ◌++◌, length, Option, refl, sym, ap, ◌∙◌, arith, append_assoc, length-append}
use Rattle.orb_io.specs.Told.{Loses}
use Rattle.orb_io.proofs.ToldLemmas.{Loses-twice}
use Rattle.http_exchange.specs.Head.{head_length}
use Rattle.http_exchange.specs.HeadTexts.{IsOpenHead, IsLongHead, head_limit}
use Rattle.http_exchange.specs.Gathering.{TakesHead}
use Rattle.http_exchange.specs.declared.gathering.HeadTaken.TheVariants as taken
use Rattle.live_proxy.specs.Hearing.{Lost, BeginsWith}

-- nothing may go on to be a head
pub open-none : IsOpenHead []
unfolding head_limit head_length
open-none = record { open_ = refl; fits = omega arith }

-- a head that goes on has grown, and is not longer than a head may be
pub grown : (before piece after : List ℕ) → 1 ≤ length piece → TakesHead before after piece taken.Open
    → 65536 - length after < 65536 - length before
unfolding head_limit
grown before piece after some takes =
    omega (arith, takes.1.fits, ap length takes.0, length-append before piece, some)

-- a head that is too long, and what was pulled with it
pub long : (left left' left'' : Option (List ℕ)) (before piece after room : List ℕ) → Loses left left' before → Loses left' left'' piece
    → IsOpenHead before → length piece ≤ length room → TakesHead before after piece taken.Long
    → Lost left left'' (λ read. BeginsWith IsLongHead read × (length read ≤ 65536 + length room))
unfolding head_limit
long left left' left'' before piece after room first second open_ short (prefix, rest, is, grew, too_long) = record {
  read = before ++ piece;
  lost = Loses-twice left left' left'' before piece first second;
  holds = (
    (
      after,
      rest,
      ap (λ t. before ++ t) is ∙ sym (append_assoc before prefix rest) ∙ ap (λ t. t ++ rest) (sym grew),
      too_long,
    ),
    omega (arith, open_.fits, length-append before piece, short),
  );
}
