-- What a follower asks for is what the law has it ask for (RFC 7233, section 3.2; ours: chunk by chunk).
use Rattle.std.specs.Prelude.{◌≡◌, ◌<◌, ◌≤◌}
use Rattle.pp_cache.specs.Bounds.{IsBounded}
use Rattle.pp_cache_law.specs.Joins.{EndsWhole}
use Rattle.pp_law.specs.Followers.{need_of as need_by}
use Rattle.pp_law.specs.State.{State}
use Rattle.pp_law.specs.Table.{Next, extent_of}
use Rattle.pp_state.specs.Bringing.{need_of}
use Rattle.pp_turns_law.specs.Nexts.{OfNexts}

-- the next byte is one of the body; what is kept on the disk ends with a chunk, or with the body
pub record IsWithin (s : State) (n : Next) : Type 0 where
  pub some : n.at < n.to
  pub body : n.to ≤ n.source.version.length
  pub whole : EndsWhole (extent_of s n.source) n.source.version.length

-- of a cache, of which each is bounded
abbrev pub NeedsAreTheLaws : Type 0
NeedsAreTheLaws = OfNexts (λ p s x n. IsBounded p.cache → IsWithin s n → need_of x p.cache p.flow ≡ need_by s n)
