-- What was pulled of a response.
use Rattle.std.proofs.Common.{◌≡◌, ℕ, ◌≤◌, ◌^◌, Bool, true, false, List, [], ◌++◌, length, take, subst, ◌∙◌, arith, append_assoc, length-append, Result, Ok, Err, Option}
use Rattle.std.proofs.lemmas.List.{append-nil}
use Rattle.std.proofs.lemmas.Bool.{false≢true}
use Rattle.orb_io.specs.Told.{Loses, IsAtEnd}
use Rattle.orb_io.proofs.ToldLemmas.{Loses-none, Loses-twice}
use Rattle.http_exchange.specs.HeadTexts.{IsHeadText, IsOpenHead, head_limit}
use Rattle.live_proxy.specs.Answers.{run_limit}
use Rattle.live_proxy.specs.Relaying.{Pulled, goes_past, ClientCause, RelayCauses}
use Rattle.live_proxy.specs.declared.outcomes.ProxyOutcome.TheVariants as outcome
use Rattle.live_proxy.specs.declared.outcomes.ProxyOutcome.{ProxyOutcome}

-- nothing more was pulled
pub pulled-none : {T : Type 0} (result : Result T ProxyOutcome) (left : Option (List ℕ)) (before given : List ℕ)
    (Says : List ℕ → Bool → List ℕ → Type 0) → length before ≤ 2 ^ 62 → Says before false given
    → Pulled result left left before Says given
unfolding run_limit
pulled-none result left before given Says few says = record {
  read = [];
  ended = false;
  lost = Loses-none left;
  at_end = λ never. absurd (false≢true never);
  fits = λ _. rw (append-nil before) few;
  says = rw (append-nil before) says;
}

-- what another answer says of the same bytes
pub pulled-says : {S T : Type 0} (result : Result S ProxyOutcome) (result' : Result T ProxyOutcome) (left left' : Option (List ℕ))
    (before given given' : List ℕ) (Says Says' : List ℕ → Bool → List ℕ → Type 0) (p : Pulled result left left' before Says given)
    → goes_past result ≡ goes_past result' → Says' (before ++ p.read) p.ended given'
    → Pulled result' left left' before Says' given'
pulled-says result result' left left' before given given' Says Says' p alike says = record {
  read = p.read;
  ended = p.ended;
  lost = p.lost;
  at_end = p.at_end;
  fits = λ past. p.fits (alike ∙ past);
  says = says;
}

-- after what was pulled before
pub pulled-after : {T : Type 0} (result : Result T ProxyOutcome) (left left' left'' : Option (List ℕ)) (before given : List ℕ)
    (Says : List ℕ → Bool → List ℕ → Type 0) → Loses left left' before → Pulled result left' left'' before Says given
    → Pulled result left left'' [] Says given
pulled-after result left left' left'' before given Says lost p = record {
  read = before ++ p.read;
  ended = p.ended;
  lost = Loses-twice left left' left'' before p.read lost p.lost;
  at_end = p.at_end;
  fits = p.fits;
  says = p.says;
}

-- all that was pulled, where no head came
pub pulled-first : {T : Type 0} (result : Result T ProxyOutcome) (left left' : Option (List ℕ)) (read given : List ℕ) (ended : Bool)
    (Says : List ℕ → Bool → List ℕ → Type 0) → Loses left left' read → (ended ≡ true → IsAtEnd left') → length read ≤ 2 ^ 62
    → Says read ended given → Pulled result left left' [] Says given
unfolding run_limit
pulled-first result left left' read given ended Says lost at_end few says = record {
  read = read;
  ended = ended;
  lost = lost;
  at_end = at_end;
  fits = λ _. few;
  says = says;
}

-- one pull more, after which it stops
pub pumped : {T : Type 0} (result : Result T ProxyOutcome) (left left' left'' : Option (List ℕ)) (before read piece given : List ℕ)
    (ended : Bool) (Says : List ℕ → Bool → List ℕ → Type 0) → Loses left left' read → Loses left' left'' piece
    → (ended ≡ true → IsAtEnd left'') → (goes_past result ≡ false → length ((before ++ read) ++ piece) ≤ 2 ^ 62)
    → Says ((before ++ read) ++ piece) ended given → Pulled result left left'' before Says given
unfolding run_limit
pumped result left left' left'' before read piece given ended Says first second at_end few says = record {
  read = read ++ piece;
  ended = ended;
  lost = Loses-twice left left' left'' read piece first second;
  at_end = at_end;
  fits = λ past. rw (← append_assoc before read piece) (few past);
  says = rw (← append_assoc before read piece) says;
}

-- the same, where it gave nothing
pub pumped-none : {T : Type 0} (result : Result T ProxyOutcome) (left left' left'' : Option (List ℕ)) (before read given : List ℕ)
    (ended : Bool) (Says : List ℕ → Bool → List ℕ → Type 0) → Loses left left' read → Loses left' left'' []
    → (ended ≡ true → IsAtEnd left'') → length (before ++ read) ≤ 2 ^ 62
    → Says (before ++ read) ended given → Pulled result left left'' before Says given
pumped-none result left left' left'' before read given ended Says first second at_end few says =
    pumped result left left' left'' before read [] given ended Says first second at_end
    (λ _. rw (append-nil (before ++ read)) few) (rw (append-nil (before ++ read)) says)

-- whose fault it is
pub relay-cause : {T : Type 0} (result : Result T ProxyOutcome) (source source' client client' : ℕ) → source' ≡ source
    → ClientCause result client client' → RelayCauses result source source' client client'
relay-cause (Ok value) s s' k k' same cause = (same, cause)
relay-cause (Err outcome.Done) s s' k k' same cause = (same, cause)
relay-cause (Err (outcome.Bad kind)) s s' k k' same cause = (same, cause)
relay-cause (Err outcome.Cut) s s' k k' same cause = (same, cause)
relay-cause (Err outcome.HeadLimit) s s' k k' same cause = (same, cause)
relay-cause (Err outcome.Endless) s s' k k' same cause = (same, cause)
relay-cause (Err outcome.PeerFault) s s' k k' same cause = absurd cause
relay-cause (Err outcome.WriteFault) s s' k k' same cause = (same, cause)

-- a pull of no byte lost none
pub nothing-lost : (left left' : Option (List ℕ)) (n : ℕ) (room : List ℕ) → n ≡ 0 → Loses left left' (take n room) → Loses left left' []
nothing-lost left left' n room none lost = subst (λ (k : ℕ). Loses left left' (take k room)) none lost

-- the same, after calls that left the client's count as it was
pub relay-cause-after : {T : Type 0} (result : Result T ProxyOutcome) (source source' client client' client'' : ℕ) → source' ≡ source
    → client' ≡ client → ClientCause result client' client'' → RelayCauses result source source' client client''
relay-cause-after result s s' k k' k'' same before cause =
    relay-cause result s s' k k'' same (subst (λ (n : ℕ). ClientCause result n k'') before cause)

-- what is read with a head is little
pub few-open : (read : List ℕ) → IsOpenHead read → length read ≤ 2 ^ 62
unfolding head_limit
few-open read opened = omega (arith, opened.fits)

pub few-come : (head rest : List ℕ) → IsHeadText head → length rest ≤ 8192 → length (head ++ rest) ≤ 2 ^ 62
unfolding head_limit
few-come head rest text short = omega (arith, text.fits, short, length-append head rest)
