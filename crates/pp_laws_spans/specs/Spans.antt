-- Which bytes of a version a response brings (RFC 2616, section 4.4; RFC 7233, sections 4.1 and 4.2).
use Rattle.std.specs.Prelude.{◌≡◌, ◌+◌, ◌≤◌, false, length, Some, Ok}
use Rattle.pp_framing.specs.Framing.{rule_of}
use Rattle.pp_framing.specs.Rules.{body_of}
use Rattle.pp_framing.specs.declared.body.BodyRule.{BodyRule}
use Rattle.pp_head.specs.Response.{Response}
use Rattle.pp_valid.specs.declared.version.Version.{Version}
use Rattle.pp_law.specs.Lists.{Bytes}
use Rattle.pp_law.specs.OwnHeads.{end_in, first_offset, range_in, version_in}
use Rattle.pp_law.specs.Responses.{asks_head}
use Rattle.pp_law.specs.Stages.{is_through}
use Rattle.pp_law.specs.State.{Exchange}

-- it ends behind its first offset, or there, and with the version at the latest
pub record IsWithin (head : Response) (v : Version) : Type 0 where
  pub order : first_offset head ≤ end_in (range_in head) v.length
  pub ends : end_in (range_in head) v.length ≤ v.length

abbrev pub SpansAreWithin : Type 0
SpansAreWithin = (e : Exchange) (head : Response) (v : Version) → version_in e head ≡ Some v → IsWithin head v

-- of an exchange that is the cache's own; whatever came of it
abbrev pub BodiesFillSpans : Type 0
BodiesFillSpans = (e : Exchange) (head : Response) (v : Version) (rule : BodyRule) (raw : Bytes) → is_through e ≡ false → version_in e head ≡ Some v → rule_of (asks_head e) head.status head.fields ≡ Ok rule
    → first_offset head + length (body_of rule raw).payload ≤ end_in (range_in head) v.length
