-- What a reading keeps.
use Rattle.http_exchange.specs.Places.{IsSound}
use Rattle.http_exchange.specs.declared.unframing.Reading.{Reading}
use Rattle.http_exchange.specs.declared.unframing.Reading.TheVariants.{Counted, Chunks, Rest}

-- the place in a chunked body is sound
abbrev pub IsSoundReading : Reading → Type 0
IsSoundReading (Counted left) = Unit {0}
IsSoundReading (Chunks place) = IsSound place
IsSoundReading Rest = Unit {0}
