-- Worked places of asks (RFC 2616, sections 8.1.2.2 and 8.1.4).
use Rattle.std.proofs.Common.{refl, ℕ, zero, suc, ◌+◌, ◌-◌, Bool, true, false, List, [], ◌∷◌, ◌++◌, map, codes, replicate}
use Rattle.pp_text.proofs.Table.{Rows}
use Rattle.pp_pipe.specs.Line.{started}
use Rattle.pp_pipe.specs.declared.asks.Ask.{Ask}
use Rattle.pp_peers.specs.Peers.{load_of, place_in, unused, with_load, with_pipe, without}
use Rattle.pp_peers.specs.Placing.{place}
use Rattle.pp_peers.specs.declared.peers.Peer.{Peer}
use Rattle.pp_peers.specs.declared.placing.Limits.{Limits}
use Rattle.pp_peers.specs.declared.placing.Placed.{Placed}
use Rattle.pp_peers.specs.declared.placing.Placed.TheVariants.{On, Dial, CloseThenDial, Wait}

-- an ask, with so many bytes of its text to be written
abbrev ask : ℕ → Ask
ask left = record { head_request = false; is_begun = false; text_left = left }

-- what a connection carries: so many asks that are written, so many that are not, and whether it brought a response before
abbrev Carried : Type 0
Carried = ℕ × ℕ × Bool

abbrev nothing : Carried
nothing = (0, 0, false)

abbrev peer_of : ℕ → List ℕ → Carried → Peer
peer_of number host c = record (unused number host 80 0) {
  pipe = record (started number) { asks = replicate c.0 (ask 0) ++ replicate c.1 (ask 3); may_pipeline = c.2 };
}

abbrev h : List ℕ
h = codes "h"

-- a connection to h
abbrev on : ℕ → Carried → Peer
on number c = peer_of number h c

abbrev four : Limits
four = record { host_connections = 4; pipelines_asks = true }

-- where the next ask for h goes, shared or alone
abbrev next : List Peer → Bool → Placed
next peers alone = place four h 80 alone (map with_load peers)

abbrev both : List Peer → Placed × Placed
both peers = (next peers false, next peers true)

an_idle_connection_of_the_host_comes_first : Rows both (
    ([], (Dial, Dial))
    ∷ (on 7 (1, 0, true) ∷ [], (Dial, Dial))
    ∷ (on 7 (1, 0, true) ∷ on 6 nothing ∷ on 5 nothing ∷ [], (On 5, Dial))
    ∷ (record (on 5 nothing) { port = 81 } ∷ peer_of 6 (codes "g") nothing ∷ [], (Dial, Dial))
    ∷ [])
an_idle_connection_of_the_host_comes_first = refl

-- the fewest outstanding asks, of those that take one more; the idle one of another host is not the host's
a_host_has_as_many_connections_as_it_may : Rows both (
    (on 1 (2, 1, true) ∷ on 2 (1, 1, true) ∷ on 3 (0, 1, false) ∷ peer_of 9 (codes "g") nothing ∷ [], (Dial, Dial))
    ∷ (on 1 (2, 1, true) ∷ on 2 (1, 1, true) ∷ on 3 (0, 1, false) ∷ on 4 (1, 7, true) ∷ [], (On 2, Wait))
    ∷ (on 1 (2, 1, true) ∷ on 2 (1, 7, true) ∷ on 3 (0, 1, false) ∷ on 4 (1, 7, true) ∷ [], (On 1, Wait))
    ∷ (on 1 (2, 1, false) ∷ on 2 (1, 7, true) ∷ on 3 (0, 1, false) ∷ on 4 (1, 7, true) ∷ [], (Wait, Wait))
    ∷ (on 1 (2, 1, false) ∷ on 2 (1, 7, true) ∷ on 3 nothing ∷ on 4 (1, 7, true) ∷ [], (On 3, CloseThenDial 3))
    ∷ (on 1 (2, 1, false) ∷ on 2 (1, 7, true) ∷ on 4 (1, 7, true) ∷ [], (Dial, Dial))
    ∷ [])
a_host_has_as_many_connections_as_it_may = refl

the_33rd_ask_of_a_host_waits_for_the_first_connection_with_room : Rows both (
    (on 1 (8, 0, true) ∷ on 2 (8, 0, true) ∷ on 3 (8, 0, true) ∷ on 4 (8, 0, true) ∷ [], (Wait, Wait))
    ∷ (on 1 (8, 0, true) ∷ on 2 (8, 0, true) ∷ on 3 (7, 0, true) ∷ on 4 (8, 0, true) ∷ [], (On 3, Wait))
    ∷ [])
the_33rd_ask_of_a_host_waits_for_the_first_connection_with_room = refl

-- ---- what the user lets connections be used for

asks_go_behind_others_only_where_the_user_says_so : Rows (λ (limits : Limits). place limits h 80 false (map with_load (on 1 (1, 0, true) ∷ on 2 (2, 0, true) ∷ []))) (
    (record { host_connections = 2; pipelines_asks = false }, Wait)
    ∷ (record { host_connections = 2; pipelines_asks = true }, On 1)
    ∷ (record { host_connections = 1; pipelines_asks = true }, On 1)
    ∷ (record { host_connections = 3; pipelines_asks = false }, Dial)
    ∷ (record { host_connections = 64; pipelines_asks = true }, Dial)
    ∷ [])
asks_go_behind_others_only_where_the_user_says_so = refl

abbrev same : ℕ → List Peer
same zero = []
same (suc n) = same n ++ on (n + 1) (1, 0, true) ∷ []

the_ninth_connection_of_a_host_is_one_too_many_by_default : Rows (λ (n : ℕ). place (record { host_connections = 8; pipelines_asks = false }) h 80 false (map with_load (same n))) (
    (7, Dial)
    ∷ (8, Wait)
    ∷ [])
the_ninth_connection_of_a_host_is_one_too_many_by_default = refl

-- ---- by how many connections the host has, alone or with 64 in all

-- so many connections of others that carry something, from this number on, four to a host
abbrev busy : ℕ → ℕ → List Peer
busy number zero = []
busy number (suc n) = peer_of number (n ∷ 0 ∷ []) (1, 0, true) ∷ busy (number + 1) n

-- those of h: one that is 14, and further ones that are 13, 12 and 11
abbrev ours : ℕ → Carried → List Peer
ours zero c = []
ours (suc n) c = ours n c ++ on (14 - n) c ∷ []

-- 64 in all, of which all others carry something
abbrev among_busy : ℕ → Carried → List Peer
among_busy n c = busy 100 (64 - n) ++ ours n c

-- 64 in all, of which the one with the number 5 carries nothing
abbrev beside_idle : ℕ → Carried → List Peer
beside_idle n c = peer_of 5 (codes "g") nothing ∷ busy 100 (63 - n) ++ ours n c

-- where the next ask goes while the host has 0 to 4 connections that carry this
abbrev shared : (ℕ → Carried → List Peer) → Carried → List Placed
shared peers c = next (peers 0 c) false ∷ next (peers 1 c) false ∷ next (peers 2 c) false ∷ next (peers 3 c) false ∷ next (peers 4 c) false ∷ []

abbrev alone : (ℕ → Carried → List Peer) → Carried → List Placed
alone peers c = next (peers 0 c) true ∷ next (peers 1 c) true ∷ next (peers 2 c) true ∷ next (peers 3 c) true ∷ next (peers 4 c) true ∷ []

abbrev pipelined : Carried
pipelined = (7, 0, true)

abbrev full : Carried
full = (8, 0, true)

abbrev untried : Carried
untried = (1, 0, false)

a_host_alone_shared : Rows (shared ours) (
    (nothing, Dial ∷ On 14 ∷ On 13 ∷ On 12 ∷ On 11 ∷ [])
    ∷ (pipelined, Dial ∷ Dial ∷ Dial ∷ Dial ∷ On 11 ∷ [])
    ∷ (full, Dial ∷ Dial ∷ Dial ∷ Dial ∷ Wait ∷ [])
    ∷ (untried, Dial ∷ Dial ∷ Dial ∷ Dial ∷ Wait ∷ [])
    ∷ [])
a_host_alone_shared = refl

a_host_alone_and_an_ask_alone : Rows (alone ours) (
    (nothing, Dial ∷ Dial ∷ Dial ∷ Dial ∷ CloseThenDial 11 ∷ [])
    ∷ (pipelined, Dial ∷ Dial ∷ Dial ∷ Dial ∷ Wait ∷ [])
    ∷ (full, Dial ∷ Dial ∷ Dial ∷ Dial ∷ Wait ∷ [])
    ∷ (untried, Dial ∷ Dial ∷ Dial ∷ Dial ∷ Wait ∷ [])
    ∷ [])
a_host_alone_and_an_ask_alone = refl

where_64_are_busy_shared : Rows (shared among_busy) (
    (nothing, Wait ∷ On 14 ∷ On 13 ∷ On 12 ∷ On 11 ∷ [])
    ∷ (pipelined, Wait ∷ On 14 ∷ On 13 ∷ On 12 ∷ On 11 ∷ [])
    ∷ (full, Wait ∷ Wait ∷ Wait ∷ Wait ∷ Wait ∷ [])
    ∷ (untried, Wait ∷ Wait ∷ Wait ∷ Wait ∷ Wait ∷ [])
    ∷ [])
where_64_are_busy_shared = refl

where_64_are_busy_alone : Rows (alone among_busy) (
    (nothing, Wait ∷ CloseThenDial 14 ∷ CloseThenDial 13 ∷ CloseThenDial 12 ∷ CloseThenDial 11 ∷ [])
    ∷ (pipelined, Wait ∷ Wait ∷ Wait ∷ Wait ∷ Wait ∷ [])
    ∷ (full, Wait ∷ Wait ∷ Wait ∷ Wait ∷ Wait ∷ [])
    ∷ (untried, Wait ∷ Wait ∷ Wait ∷ Wait ∷ Wait ∷ [])
    ∷ [])
where_64_are_busy_alone = refl

where_one_of_64_is_idle_shared : Rows (shared beside_idle) (
    (nothing, CloseThenDial 5 ∷ On 14 ∷ On 13 ∷ On 12 ∷ On 11 ∷ [])
    ∷ (pipelined, CloseThenDial 5 ∷ CloseThenDial 5 ∷ CloseThenDial 5 ∷ CloseThenDial 5 ∷ On 11 ∷ [])
    ∷ (full, CloseThenDial 5 ∷ CloseThenDial 5 ∷ CloseThenDial 5 ∷ CloseThenDial 5 ∷ Wait ∷ [])
    ∷ (untried, CloseThenDial 5 ∷ CloseThenDial 5 ∷ CloseThenDial 5 ∷ CloseThenDial 5 ∷ Wait ∷ [])
    ∷ [])
where_one_of_64_is_idle_shared = refl

where_one_of_64_is_idle_alone : Rows (alone beside_idle) (
    (nothing, CloseThenDial 5 ∷ CloseThenDial 5 ∷ CloseThenDial 5 ∷ CloseThenDial 5 ∷ CloseThenDial 11 ∷ [])
    ∷ (pipelined, CloseThenDial 5 ∷ CloseThenDial 5 ∷ CloseThenDial 5 ∷ CloseThenDial 5 ∷ Wait ∷ [])
    ∷ (full, CloseThenDial 5 ∷ CloseThenDial 5 ∷ CloseThenDial 5 ∷ CloseThenDial 5 ∷ Wait ∷ [])
    ∷ (untried, CloseThenDial 5 ∷ CloseThenDial 5 ∷ CloseThenDial 5 ∷ CloseThenDial 5 ∷ Wait ∷ [])
    ∷ [])
where_one_of_64_is_idle_alone = refl

-- the lowest idle one gives way: of all where 64 are there, of the host where it has as many as it may
the_lowest_idle_one_gives_way : Rows both (
    (peer_of 90 (codes "c") nothing ∷ peer_of 50 (codes "d") nothing ∷ busy 100 62, (CloseThenDial 50, CloseThenDial 50))
    ∷ (peer_of 50 (codes "d") nothing ∷ on 90 nothing ∷ on 91 full ∷ on 92 full ∷ on 93 full ∷ busy 100 59, (On 90, CloseThenDial 90))
    ∷ [])
the_lowest_idle_one_gives_way = refl

-- ---- connections by number

abbrev two : List Peer
two = on 1 nothing ∷ on 2 (1, 1, true) ∷ []

the_connection_of_a_number_stands_or_is_gone : Rows {B = ℕ × List Peer} (λ (number : ℕ). (place_in number two, without number two)) (
    (1, (0, on 2 (1, 1, true) ∷ []))
    ∷ (2, (1, on 1 nothing ∷ []))
    ∷ (3, (2, two))
    ∷ [])
the_connection_of_a_number_stands_or_is_gone = refl

a_pipe_is_that_of_its_connection : Rows (λ (number : ℕ). with_pipe number (started 7) two) (
    (1, record (on 1 nothing) { pipe = started 7 } ∷ on 2 (1, 1, true) ∷ [])
    ∷ (3, two)
    ∷ [])
a_pipe_is_that_of_its_connection = refl

a_load_is_what_the_pipe_tells : Rows load_of (
    (on 2 (1, 1, true), record { asks = 2; outstanding = 1; may_pipeline = true })
    ∷ (unused 3 h 80 0, record { asks = 0; outstanding = 0; may_pipeline = false })
    ∷ [])
a_load_is_what_the_pipe_tells = refl
