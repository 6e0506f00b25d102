-- What is kept of a target that was read.
use Rattle.std.specs.Prelude.{◌≡◌, ℕ, List, Some, codes, Result, Ok, Err, ⊤}
use Rattle.http_uri.specs.Uri.{uri_scheme, uri_authority, uri_data}
use Rattle.http_uri.specs.declared.uri.Uri.{Uri}
use Rattle.live_proxy.specs.Targets.{Target, IsHostAndPort, IsTarget, absolute_path}
use Rattle.live_proxy.specs.declared.targets.ProxyTarget.{ProxyTarget}
use Rattle.live_proxy.specs.declared.targets.TargetRefusal.{TargetRefusal}
use Rattle.live_proxy.specs.declared.targets.TargetRefusal.TheVariants as refusal

-- the reference has the scheme `http`, a host and this port
pub record IsPlace (uri : Uri) (port : ℕ) : Type 0 where
  pub scheme : uri_scheme uri ≡ Some (codes "http")
  pub authority : List ℕ
  pub is : uri_authority uri ≡ Some authority
  pub host : List ℕ
  pub place : IsHostAndPort authority host port

-- it is what this target says
pub record IsRead (read : ProxyTarget) (t : Target) : Type 0 where
  pub scheme : uri_scheme read.uri ≡ Some (codes "http")
  pub authority : uri_authority read.uri ≡ Some t.authority
  pub place : IsHostAndPort t.authority t.host t.port
  pub port : read.port ≡ t.port
  pub path : t.path ≡ absolute_path (uri_data read.uri)

-- the text is a target, and this was read of it, or it is none; nothing is said where memory ran out
abbrev pub ReadsTarget : List ℕ → Result ProxyTarget TargetRefusal → Type 0
ReadsTarget text (Ok read) = (t : Target) × IsTarget text t × IsRead read t
ReadsTarget text (Err refusal.BadTarget) = (t : Target) → ¬ (IsTarget text t)
ReadsTarget text (Err refusal.NoMemory) = ⊤
