-- How the order of use is kept: one ring with all numbers, first the used ones and then the free ones.
use Rattle.std.specs.Prelude.{ℕ, ◌+◌, ◌≤◌, ◌<◌, ◌≡◌, List, length, take, drop}
use Rattle.std.specs.List.{All}
use Rattle.pp_pool.specs.declared.ring.Ring.TheInside.{Inside}
use Rattle.pp_pool.specs.Chunks.{AreDistinct}
use Rattle.pp_pool.specs.Rings.{Line, link, IsChain, walk, first_or}

-- all numbers, as the ring has them behind its end
abbrev pub ring_of : Inside → List ℕ
ring_of o = walk (link o.next.items) (link o.next.items o.end) o.end

abbrev pub line_of : Inside → Line
line_of o = record { size = o.end; used = take o.used (ring_of o) }

-- the ring closes at its end, both ways, and has each number once; the free ones begin behind the used
pub record IsRing (o : Inside) : Type 0 where
  pub chain : IsChain (link o.next.items) (link o.previous.items) o.end (ring_of o) o.end
  pub distinct : AreDistinct (ring_of o)
  pub within : All (λ n. n < o.end) (ring_of o)
  pub free : o.first_free ≡ first_or o.end (drop o.used (ring_of o))
  pub count : o.used ≤ o.end
  pub nexts : length o.next.items ≡ o.end + 1
  pub previouses : length o.previous.items ≡ o.end + 1
  pub few : o.end ≤ 65536
