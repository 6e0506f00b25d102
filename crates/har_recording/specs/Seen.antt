-- What the values that are read stand for, and what a reading answers. The contracts within the crate speak of it.
use Rattle.std.specs.Prelude.{◌≡◌, List, map, Option, Some, None, Result, Ok, Err, ⊤}
use Rattle.har_recording.specs.declared.entries.Fault.{Fault}
use Rattle.har_recording.specs.declared.entries.Fault.TheVariants.{NotWhole, NoMemory}
use Rattle.har_recording.specs.declared.entries.Header.{Header}
use Rattle.har_recording.specs.declared.entries.Request.{Request}
use Rattle.har_recording.specs.declared.entries.Response.{Response}
use Rattle.har_recording.specs.declared.entries.Entry.{Entry}
use Rattle.har_recording.specs.Log as log
use Rattle.har_recording.specs.Log.{Text}

abbrev pub header_in : Header → Text × Text
header_in h = (h.name.now, h.value.now)

abbrev pub headers_in : List Header → log.Headers
headers_in headers = map header_in headers

abbrev pub request_in : Request → log.Request
request_in r = record { method = r.method.now; headers = headers_in r.headers.items }

abbrev pub response_in : Response → log.Response
response_in r = record { status = r.status; headers = headers_in r.headers.items; body = r.body.items }

abbrev pub entry_in : Entry → log.Entry
entry_in e = record { request = request_in e.request; response = response_in e.response }

-- what is wanted was read, or there is no such thing
abbrev pub Reads : {S X : Type 0} → (S → X) → Option X → Result S Fault → Type 0
Reads seen want (Ok value) = want ≡ Some (seen value)
Reads seen want (Err NotWhole) = want ≡ None
Reads seen want (Err NoMemory) = ⊤
