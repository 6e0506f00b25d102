use Rattle.std.proofs.Common.{◌≡◌, ℕ, ◌-◌, ◌≤◌, List, length, sym, ap, subst, arith}
use Rattle.http_exchange.specs.Pieces.{Takes}
use Rattle.http_exchange.specs.Places.{IsSound, with_left}
use Rattle.http_exchange.specs.declared.places.Place.{Place}
use Rattle.http_exchange.specs.declared.places.Place.TheVariants.{Data, DataCr}
use Rattle.http_exchange.proofs.PieceLemmas.{takes, with_left_some}
use Rattle.http_exchange.proofs.pieces.take_content.Goals as goal

-- the places as the code names them
named : (start stop : Place) (left : ℕ) (piece body : List ℕ) → start ≡ Data left → with_left (left - length body) ≡ stop
    → Takes (Data left) (with_left (left - length body)) piece body → Takes start stop piece body
named start stop left piece body is ends h =
    let P : Place → Type 0 = λ p. Takes p stop piece body in
    let Q : Place → Type 0 = λ q. Takes (Data left) q piece body in
    subst P (sym is) (subst Q ends h)

some_left : (start : Place) (left : ℕ) → start ≡ Data left → IsSound start → 1 ≤ left
some_left start left is sound = subst IsSound is sound

pub returns-then-rest-eq0-clause-taken : goal.returns-then-rest-eq0-clause-taken
returns-then-rest-eq0-clause-taken c =
    named c.args.start DataCr c.in-Data.left c.args.piece.now c.prefix_of-body.result.now c.in-Data.is (ap with_left c.if-rest-eq0.true)
    (takes c.in-Data.left c.args.piece.now c.prefix_of-body.result.now (some_left c.args.start c.in-Data.left c.in-Data.is c.requires) c.prefix_of-body.ensures)

pub returns-else-rest-eq0-clause-taken : goal.returns-else-rest-eq0-clause-taken
returns-else-rest-eq0-clause-taken c =
    named c.args.start (Data (c.in-Data.left - length c.prefix_of-body.result.now)) c.in-Data.left c.args.piece.now c.prefix_of-body.result.now c.in-Data.is
    (with_left_some (c.in-Data.left - length c.prefix_of-body.result.now) (omega arith))
    (takes c.in-Data.left c.args.piece.now c.prefix_of-body.result.now (some_left c.args.start c.in-Data.left c.in-Data.is c.requires) c.prefix_of-body.ensures)
