-- The laws' words on a worked log, and what they refuse: bytes that nobody sent, or under another version; and a number that is given twice.
use Rattle.std.proofs.Common.{◌≡◌, refl, ℕ, true, List, [], ◌∷◌, map, codes, None, inl, inr, ap, ◌∙◌, zero-le}
use Rattle.pp_valid.specs.declared.version.Version.{Version}
use Rattle.pp_world.specs.Log.{Log}
use Rattle.pp_world.specs.declared.happening.Happening.{Happening}
use Rattle.pp_world.specs.declared.happening.Happening.TheVariants.{Woke, Waits, CanRead, CanWrite, Clock, Opened, Heard, Dialled, Reached, Asked, Got, Noted, Rooted, Listed, Listens}
use Rattle.pp_world.specs.declared.note.Decision.TheVariants.{Fetch}
use Rattle.pp_world.specs.declared.note.Remark.TheVariants.{Taken}
use Rattle.pp_law.proofs.OnLiterals.{pp_law_on_literals}
use Rattle.pp_law.specs.Lawful.{first_fault}
use Rattle.pp_law.specs.Lists.{Bytes}
use Rattle.pp_law.specs.State.{Term, Sent, Chunk}
use Rattle.pp_laws.specs.Numbers.{AreDistinct}
use Rattle.pp_laws.specs.Origin.{AllSent, IsSentIn}
use Rattle.pp_laws.specs.Runs.{state_after}

abbrev one_life : List Term
one_life = record { words = codes "diskRun=1" ∷ codes "pipelineAsks=1" ∷ codes "hostConnections=4" ∷ []; faults = 0 } ∷ []

-- it waits to accept, and for these to be read and to be written
abbrev wait : List ℕ → List ℕ → Happening
wait read write = Waits (record { accept = true; read = record { items = read }; write = record { items = write } })

-- a body is fetched, and held
abbrev fetched : Log
fetched =
    Woke [] ∷ Rooted (codes "polipo-cache") ∷ Listed true ∷ Listens 8123 true ∷ wait [] [] ∷ Clock 784111777 ∷ wait [] []
    ∷ Opened 1 ∷ wait (1 ∷ []) [] ∷ CanRead 1 ∷ Heard 1 (codes "GET http://h/a HTTP/1.1\r\nHost: h\r\n\r\n") ∷ Noted (Taken 1 0 Fetch)
    ∷ Dialled 2 (codes "h") 80 ∷ wait (1 ∷ []) [] ∷ Reached 2 ∷ wait (1 ∷ 2 ∷ []) (2 ∷ []) ∷ CanWrite 2
    ∷ Asked 2 (codes "GET /a HTTP/1.1\r\nhost: h\r\nvia: 1.1 polipo\r\n\r\n") ∷ wait (1 ∷ 2 ∷ []) []
    ∷ CanRead 2 ∷ Got 2 (codes "HTTP/1.1 200 OK\r\nETag: \"x\"\r\nCache-Control: max-age=60\r\nContent-Length: 5\r\n\r\nhello") ∷ []

fetched_is_lawful : first_fault one_life fetched ≡ None
unfolding pp_law_on_literals
fetched_is_lawful = refl

-- what is on record as sent, and what is held of it
abbrev part : Sent
part = record { key = codes "http://h/a"; version = record { tag = codes "\"x\""; length = 5 }; at = 0; bytes = codes "hello" }

one_part : (state_after one_life fetched).sent ≡ part ∷ []
unfolding pp_law_on_literals
one_part = refl

one_chunk : map {B = ℕ × Bytes} (λ (c : Chunk). (c.index, c.bytes)) (state_after one_life fetched).chunks ≡ (0, codes "hello") ∷ []
unfolding pp_law_on_literals
one_chunk = refl

-- each byte of it was sent
hello_was_sent : AllSent (part ∷ []) part.key part.version 0 (codes "hello")
hello_was_sent = (inl (refl, refl, zero-le, refl), (inl (refl, refl, zero-le, refl), (inl (refl, refl, zero-le, refl), (inl (refl, refl, zero-le, refl), (inl (refl, refl, zero-le, refl), tt)))))

-- ---- and nothing else

none_sent : (key : Bytes) (version : Version) (at byte : ℕ) (bytes : Bytes) → AllSent [] key version at (byte ∷ bytes) → ⊥
none_sent key version at byte bytes all = all.0

of_no_other : (other : Version) (at byte : ℕ) → other.length ≡ 6 → IsSentIn (part ∷ []) part.key other at byte → ⊥
of_no_other other at byte long (inl w) = let same : part.version ≡ other = w.1 in let both : 5 ≡ 6 = ap (λ (v : Version). v.length) same ∙ long in cc both
of_no_other other at byte long (inr none) = none

not_twice : (n : ℕ) → AreDistinct (n ∷ n ∷ []) → ⊥
not_twice n w = w.0 (inl refl)
