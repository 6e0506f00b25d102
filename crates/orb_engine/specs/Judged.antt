-- What the responses of a recording are judged by, under the settings.
use Rattle.response_rules.specs.Heads.{Case}
use Rattle.media_state.specs.Table.{States}
use Rattle.body_filter.specs.Responses.{Response}
use Rattle.exchanges.specs.declared.room.Context.{Context}
use Rattle.http_exchange.specs.declared.request.RequestHead.{RequestHead}
use Rattle.media_state.specs.declared.states.MediaState.{MediaState}
use Rattle.exchanges.specs.Heads as exchange
use Rattle.exchanges.specs.Heads.{Heads}
use Rattle.orb_engine.specs.declared.settings.Settings.{Settings}

abbrev pub judged_by : Settings → States → Heads → Case
judged_by s table h = exchange.judged_by s.policy s.limit table h

-- the response, to be filtered
abbrev pub response_of : Settings → States → Heads → Response
response_of s table h = exchange.response_of s.policy s.limit table h

-- what a response is judged by besides its own head
abbrev pub context_of : Settings → RequestHead → MediaState → Context
context_of s asks state = record { policy = s.policy; state = state; asks = asks; limit = s.limit }
