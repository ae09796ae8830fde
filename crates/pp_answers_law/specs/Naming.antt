-- The rows of other places that a response names (RFC 2616, sections 13.10, 14.14 and 14.30).
use Rattle.std.specs.Prelude.{◌≡◌, ◌+◌, ◌≤◌, true, false, length, Option, Some, None, Ok}
use Rattle.pp_cache.specs.Named.{key_named, site_of}
use Rattle.pp_law.specs.Lists.{Bytes}
use Rattle.pp_law.specs.ThroughHeads.{is_same_host, key_named as law_key_named}
use Rattle.pp_target.specs.Key.{Key, key_at, text_of}

-- "the host part MUST be the same as in the Request-URI"
abbrev pub named_at : Key → Bytes → Option Bytes
named_at key text = elim (law_key_named key text) [ None ↦ None | Some named ↦ elim (is_same_host named key) [ true ↦ Some (text_of named) | false ↦ None ] ]

-- of the key of a target
abbrev pub NamesAreTheLaws : Type 0
NamesAreTheLaws = (key : Key) (target text : Bytes) → key_at target ≡ Ok key → key_named (site_of key) text ≡ named_at key text
