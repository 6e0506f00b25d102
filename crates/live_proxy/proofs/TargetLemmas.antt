-- Targets, and what is read of them.
use Rattle.std.proofs.Common.{◌≡◌, ℕ, ◌<◌, ◌==◌, Bool, true, false, List, [], ◌∷◌, ◌++◌, arith, length, Option, Some, None, refl, sym, ap, ◌∙◌, subst}
use Rattle.std.proofs.lemmas.List.{append_cancel_left}
use Rattle.std.specs.Option.{MatchOption, option_map}
use Rattle.std.specs.Prelude.{codes}
use Rattle.std.specs.List.{list_any}
use Rattle.http_uri.specs.Grammar.{authority_host}
use Rattle.http_uri.specs.Uri.{Spells, uri_scheme, uri_authority, uri_data}
use Rattle.http_uri.specs.declared.uri.Uri.{Uri}
use Rattle.http_uri.proofs.Theorems.{Spells_unique}
use Rattle.live_proxy.specs.Targets.{Target, IsTarget, IsPort, is_refused_byte, absolute_path}
use Rattle.live_proxy.specs.TargetReads.{IsPlace, IsRead}

-- what a reference with a place says
target_at : (uri : Uri) (port : ℕ) → IsPlace uri port → Target
target_at uri port place = record {
  authority = place.authority;
  host = place.host;
  port = port;
  path = absolute_path (uri_data uri);
}

-- a reference with a place is a target
pub target_of : (text : List ℕ) (uri : Uri) (port : ℕ) → Spells text uri → list_any is_refused_byte text ≡ false → IsPlace uri port
    → (t : Target) × IsTarget text t × IsRead (record { uri = uri; port = port }) t
unfolding target_at
target_of text uri port spelled plain place = (
  target_at uri port place,
  record {
    plain = plain;
    uri = uri;
    spelled = spelled;
    scheme = place.scheme;
    authority = place.is;
    place = place.place;
    path = refl;
  },
  record {
    scheme = place.scheme;
    authority = place.is;
    place = place.place;
    port = refl;
    path = refl;
  },
)

-- a reference without one is none
pub no_target : (text : List ℕ) (uri : Uri) → Spells text uri → ((port : ℕ) → ¬ (IsPlace uri port)) → (t : Target) → ¬ (IsTarget text t)
no_target text uri spelled none t is =
    let same = Spells_unique text uri is.uri spelled is.spelled in
    none t.port (record {
      scheme = same.0 ∙ is.scheme;
      authority = t.authority;
      is = same.1 ∙ is.authority;
      host = t.host;
      place = is.place;
    })

same_some : (a b : List ℕ) → Some a ≡ Some b → a ≡ b
same_some a b same = cc

-- the host that the crate tells
pub host_told : (uri : Uri) (authority host : List ℕ) → uri_authority uri ≡ Some authority
    → Some host ≡ option_map authority_host (uri_authority uri) → host ≡ authority_host authority
host_told uri authority host is told = same_some host (authority_host authority) (told ∙ ap (option_map authority_host) is)

-- no place where the authority doesn't begin with the host
pub no_after : (uri : Uri) (authority host : List ℕ) → uri_authority uri ≡ Some authority → host ≡ authority_host authority
    → ((rest : List ℕ) → ¬ (authority ≡ host ++ rest)) → (port : ℕ) → ¬ (IsPlace uri port)
no_after uri authority host is host_is none port place =
    let same : place.authority ≡ authority = same_some place.authority authority (sym place.is ∙ is) in
    let hosts : place.host ≡ host = place.place.host_is ∙ ap authority_host same ∙ sym host_is in
    none place.place.after (sym same ∙ place.place.cut ∙ ap (λ t. t ++ place.place.after) hosts)

-- the port after the host
pub port_is : (uri : Uri) (authority host after : List ℕ) (r : Option ℕ) → uri_scheme uri ≡ Some (codes "http")
    → uri_authority uri ≡ Some authority → host ≡ authority_host authority → 0 < length host → authority ≡ host ++ after
    → MatchOption r ((port : ℕ) → ¬ (IsPort after port)) (IsPort after)
    → MatchOption r ((port : ℕ) → ¬ (IsPlace uri port)) (IsPlace uri)
port_is uri authority host after (Some port) scheme is host_is some cut reads = record {
  scheme = scheme;
  authority = authority;
  is = is;
  host = host;
  place = record { host_is = host_is; some = some; after = after; cut = cut; port_is = reads };
}
port_is uri authority host after None scheme is host_is some cut none = λ port place.
    let same : place.authority ≡ authority = same_some place.authority authority (sym place.is ∙ is) in
    let hosts : place.host ≡ host = place.place.host_is ∙ ap authority_host same ∙ sym host_is in
    let both : host ++ after ≡ host ++ place.place.after =
    sym cut ∙ sym same ∙ place.place.cut ∙ ap (λ t. t ++ place.place.after) hosts in
    none port (subst (λ t. IsPort t port) (sym (append_cancel_left host after place.place.after both)) place.place.port_is)

-- a text that isn't empty has a byte
pub some_byte : (text : List ℕ) (empty : Bool) → empty ≡ (length text == 0) → empty ≡ false → 0 < length text
some_byte [] empty is other = absurd (let no : true ≡ false = sym is ∙ other in cc)
some_byte (b ∷ text) empty is other = omega arith
