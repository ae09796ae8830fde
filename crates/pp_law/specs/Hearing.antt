-- What a client sends is read as requests (RFC 2616, section 5).
use Rattle.std.specs.Prelude.{◌-◌, [], ◌++◌, length, drop, Some, None, Ok, Err}
use Rattle.pp_law.specs.Lists.{Bytes}
use Rattle.pp_law.specs.Requests.{Front, NoHeadYet, NoHead, IsRequest, parsed_in, front_of, behind_head, body_len}
use Rattle.pp_law.specs.State.{Client}

-- behind a head whose body has no end nothing that comes counts (section 4.4)
abbrev pub what_counts : Front → Bytes → Bytes
what_counts front bytes = elim (parsed_in front) [ None ↦ bytes | Some r ↦ elim r.rule [ Ok rule ↦ bytes | Err fault ↦ [] ] ]

-- what stands at the front of the bytes is its current request
abbrev pub fronted : Client → Client
fronted c =
    let front = front_of c.heard in
    record c { front = front; heard = what_counts front (behind_head front c.heard); body_left = body_len front }

-- the bytes are read as a request where there is none
abbrev pub with_front : Client → Client
with_front c = elim c.front [ NoHeadYet ↦ fronted c | NoHead status ↦ c | IsRequest r ↦ c ]

abbrev pub heard_by : Bytes → Client → Client
heard_by bytes c = with_front (record c { heard = c.heard ++ what_counts c.front (drop c.skip bytes); skip = c.skip - length bytes })
