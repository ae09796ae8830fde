-- The chunks of what was said are used as the law has it, and all else stands as it did.
use Rattle.std.proofs.Common.{◌≡◌, ◌≤◌, ◌<◌, refl, sym, subst, ap, ◌∙◌, ℕ, zero, suc, ◌+◌, ◌-◌, ◌/◌, min, Bool, true, false, ◌&&◌, find, nat_lt, List, [], ◌++◌, Option, Some, None, option_map, arith}
use Rattle.std.proofs.lemmas.Bool.Decides.{nat_tests}
use Rattle.pp_cache.specs.Memory.{Memory}
use Rattle.pp_cache.specs.Uses.{used_run}
use Rattle.pp_cache_law.proofs.Touching.{touches_of}
use Rattle.pp_cache_law.specs.Pairs.{AreBoth}
use Rattle.pp_cache_law.specs.Tables.{ShowsCache}
use Rattle.pp_flow_law.proofs.Framed.{frames as flow_frames}
use Rattle.pp_flow_law.specs.Tables.{line_in, none_leaves}
use Rattle.pp_holes.specs.Cells.{chunks_of}
use Rattle.pp_holes.specs.Places.{Chunk as Place}
use Rattle.pp_law.specs.Chunks.{is_chunk, put_chunk, use_chunk}
use Rattle.pp_law.specs.Connections.{exchange, is_conn, is_exchange}
use Rattle.pp_law.specs.Lists.{Bytes}
use Rattle.pp_law.specs.Replies.{of_body, use_chunks, use_from, use_said}
use Rattle.pp_law.specs.State.{State, Chunk, Client, Conn, Exchange}
use Rattle.pp_law.specs.Table.{Next, next_of}
use Rattle.pp_objects.specs.Instances.{is_there}
use Rattle.pp_peers.specs.declared.peers.Peer.{Peer}
use Rattle.pp_peers_law.specs.Peers.{ShowConns}
use Rattle.pp_seats.specs.Courses.{has_begun}
use Rattle.pp_seats.specs.Follows.{next_of as seat_next}
use Rattle.pp_seats.specs.Said.{first_of, used_by}
use Rattle.pp_seats.specs.declared.seat.Next.{Next as SeatNext}
use Rattle.pp_seats.specs.declared.seat.Seat.{Seat}
use Rattle.pp_seats_law.specs.Clients.{AreShown}
use Rattle.pp_seats_law.specs.Words.{ShowsUsed}
use Rattle.pp_state.specs.Ends.{Parts}
use Rattle.pp_states_law.proofs.Asked.{all_as, frames, itself}
use Rattle.pp_states_law.specs.Asks.{IsAskedAs}
use Rattle.pp_states_law.proofs.Told.{are_told_on, told_next}
use Rattle.pp_states_law.specs.Steps.{ShowsSteps}
use Rattle.pp_talk.specs.Talking.{used_chunks}

-- ---- of the law: chunks alone change

abbrev pub IsChunks : State → State → Type 0
IsChunks s t = t ≡ record s { chunks = t.chunks }

chunks_then : (s t u : State) → IsChunks s t → IsChunks t u → IsChunks s u
chunks_then s t u one two = two ∙ ap (λ (v : State). record v { chunks = u.chunks }) one

one_rest : (id i : ℕ) (s : State) → IsChunks s (use_chunk id i s)
unfolding use_chunk
one_rest id i s = by (find (is_chunk id i) s.chunks)
  where
    by : (o : Option Chunk) → IsChunks s (elim o as (λ t. State) [ None ↦ s | Some c ↦ record s { chunks = put_chunk id i c.bytes s.chunks } ])
    by None = refl
    by (Some c) = refl

all_rest : (more id i : ℕ) (s : State) → IsChunks s (use_chunks more id i s)
unfolding use_chunks
all_rest zero id i s = refl
all_rest (suc more) id i s = chunks_then s (use_chunk id i s) (use_chunks more id (i + 1) (use_chunk id i s)) (one_rest id i s) (all_rest more id (i + 1) (use_chunk id i s))

from_rest : (n : ℕ) (x : Next) (s : State) → IsChunks s (use_from n x s)
unfolding use_from
from_rest n x s = all_rest _ _ _ s

-- so many bytes of the body
abbrev law_used : ℕ → Bool → Option Next → State → State
law_used n b o s = elim b [ false ↦ s | true ↦ elim o [ None ↦ s | Some x ↦ use_from n x s ] ]

pub used_rest : (n : ℕ) (c : Client) (s : State) → IsChunks s (use_said n c s)
unfolding use_said
used_rest n c s = by (nat_lt 0 (of_body n c)) (next_of s c)
  where
    by : (b : Bool) (o : Option Next) → IsChunks s (law_used (of_body n c) b o s)
    by false o = refl
    by true None = refl
    by true (Some x) = from_rest (of_body n c) x s

-- ---- of the program

pub same_instances : (o : Option SeatNext) (m : Memory) → (used_chunks o m).instances ≡ m.instances
same_instances None m = refl
same_instances (Some x) m = by (is_there x.source m.instances)
  where
    by : (b : Bool) → (elim b as (λ t. Memory) [ true ↦ record m { chunks = used_run ((min x.to 1073741824 + 4095) / 4096 - x.at / 4096) x.source.slot (x.at / 4096) m.chunks } | false ↦ m ]).instances ≡ m.instances
    by true = refl
    by false = refl

pub same_lives : (o : Option SeatNext) (m : Memory) → (used_chunks o m).lives ≡ m.lives
same_lives None m = refl
same_lives (Some x) m = by (is_there x.source m.instances)
  where
    by : (b : Bool) → (elim b as (λ t. Memory) [ true ↦ record m { chunks = used_run ((min x.to 1073741824 + 4095) / 4096 - x.at / 4096) x.source.slot (x.at / 4096) m.chunks } | false ↦ m ]).lives ≡ m.lives
    by true = refl
    by false = refl

abbrev run_of : SeatNext → Memory → List Place
run_of x m = used_run ((min x.to 1073741824 + 4095) / 4096 - x.at / 4096) x.source.slot (x.at / 4096) m.chunks

-- it is of the next of its seat
pub record IsOfNext (seat : Seat) (used : SeatNext) : Type 0 where
  pub next : SeatNext
  pub its : seat_next seat ≡ Some next
  pub source : next.source ≡ used.source
  pub to : used.to ≤ next.to

pub used_next : (n : ℕ) (seat : Seat) (used : SeatNext) → used_by n seat ≡ Some used → IsOfNext seat used
used_next n seat used is = by (nat_lt seat.before_body n && has_begun seat) (seat_next seat) refl is
  where
    least : (a b c : ℕ) → c ≡ min a b → c ≤ a
    least a b c same = omega (arith, same)

    by : (b : Bool) (o : Option SeatNext) → seat_next seat ≡ o → (elim b as (λ t. Option SeatNext) [ true ↦ option_map (first_of (n - seat.before_body)) o | false ↦ None ]) ≡ Some used → IsOfNext seat used
    by false o its one = absurd (cc one)
    by true None its one = absurd (cc one)
    by true (Some next) its one =
        let same : first_of (n - seat.before_body) next ≡ used = cc one in
        record { next = next; its = its; source = ap (λ (u : SeatNext). u.source) same; to = least next.to (next.at + (n - seat.before_body)) used.to (ap (λ (u : SeatNext). u.to) (sym same)) }

-- ---- both

module _ (number : ℕ → ℕ) (name : Bytes) (peers : List Peer) (p : Parts) (s : State) (steps : ShowsSteps number name none_leaves peers p s) where
  -- where the chunks alone change
  with_chunks : (cs : List Place) (t : State) → IsChunks s t → ShowsCache number (record p.cache { chunks = cs }) t → ShowsSteps number name none_leaves peers (record p { cache = record p.cache { chunks = cs } }) t
  with_chunks cs t rest cache = record {
    shows = record {
      clients = subst (λ (ds : List Client). AreShown number name [] p.seats ds) (sym (ap (λ (u : State). u.clients) rest)) steps.shows.clients;
      exchanges =
          flow_frames number none_leaves p.flow s steps.shows.exchanges none_leaves t
          (record { exchanges = ap (λ (u : State). u.exchanges) rest; next = ap (λ (u : State). u.next_exchange) rest; lines = λ n. ap (λ (u : State). none_leaves n ++ line_in (find (is_conn n) u.conns)) rest });
      table = cache;
      conns = subst (λ (ks : List Conn). ShowConns t peers ks) (sym (ap (λ (u : State). u.conns) rest)) (frames s t peers s.conns (all_as s t as_before s.conns) steps.shows.conns);
    };
    order = steps.order;
    told = told_next number (record p.cache { chunks = cs }) s.next_instance t.next_instance p.flow (ap (λ (u : State). u.next_instance) rest)
        (are_told_on number p.cache (record p.cache { chunks = cs }) s.next_instance s.next_instance (record { lives = omega arith; numbers = omega arith; there = λ id is. is }) p.flow steps.told);
    refused = steps.refused;
  }
    where
      as_before : (m : ℕ) → AreBoth IsAskedAs (exchange s m) (exchange t m)
      as_before m = subst (λ (es : List Exchange). AreBoth IsAskedAs (exchange s m) (find (is_exchange m) es)) (sym (ap (λ (u : State). u.exchanges) rest)) (itself (exchange s m))

  uses_one : (n : ℕ) (x : SeatNext) (y : Next) → is_there x.source p.cache.instances ≡ true → x.to ≤ 1073741824 → nat_lt 0 n ≡ true → ShowsUsed number n (Some x) (Some y)
      → ShowsSteps number name none_leaves peers (record p { cache = used_chunks (Some x) p.cache }) (use_from n y s)
  uses_one n x y there small some shows =
      subst (λ (b : Bool). ShowsSteps number name none_leaves peers (record p { cache = elim b as (λ t. Memory) [ true ↦ record p.cache { chunks = run_of x p.cache } | false ↦ p.cache ] }) (use_from n y s)) (sym there)
      (with_chunks (run_of x p.cache) (use_from n y s) (from_rest n y s)
      (subst (λ (a : ℕ). ShowsCache number (record p.cache { chunks = used_run (chunks_of (min x.to 1073741824) - a / 4096) x.source.slot (a / 4096) p.cache.chunks }) (use_from n y s)) (sym shows.1)
      (subst (λ (e : ℕ). ShowsCache number (record p.cache { chunks = used_run (chunks_of (min e 1073741824) - y.at / 4096) x.source.slot (y.at / 4096) p.cache.chunks }) (use_from n y s)) (sym shows.2)
      (touches_of number p.cache s steps.shows.table x.source n y there shows.0 (more n some) (few x.to y.at n shows.2 small)))))
    where
      more : (m : ℕ) → nat_lt 0 m ≡ true → 0 < m
      more m is = grind (arith, nat_tests)

      few : (to at m : ℕ) → to ≡ at + m → to ≤ 1073741824 → at + m ≤ 1073741824
      few to at m is small = omega (arith, is, small)

  used_as : (n : ℕ) (b : Bool) (o : Option SeatNext) (q : Option Next) → nat_lt 0 n ≡ b → ShowsUsed number n o (elim b as (λ t. Option Next) [ true ↦ q | false ↦ None ])
      → ((x : SeatNext) (y : Next) → o ≡ Some x → q ≡ Some y → is_there x.source p.cache.instances ≡ true) → ((x : SeatNext) → o ≡ Some x → x.to ≤ 1073741824)
      → ShowsSteps number name none_leaves peers (record p { cache = used_chunks o p.cache }) (law_used n b q s)
  used_as n false None q is shows there small = steps
  used_as n false (Some x) q is shows there small = absurd shows
  used_as n true None None is shows there small = steps
  used_as n true (Some x) (Some y) is shows there small = uses_one n x y (there x y refl refl) (small x refl) is shows
  used_as n true None (Some y) is shows there small = absurd shows
  used_as n true (Some x) None is shows there small = absurd shows

  pub uses : (k : ℕ) (seat : Seat) (c : Client) → ShowsUsed number (of_body k c) (used_by k seat) (elim (nat_lt 0 (of_body k c)) as (λ t. Option Next) [ true ↦ next_of s c | false ↦ None ])
      → ((x : SeatNext) (y : Next) → used_by k seat ≡ Some x → next_of s c ≡ Some y → is_there x.source p.cache.instances ≡ true) → ((x : SeatNext) → used_by k seat ≡ Some x → x.to ≤ 1073741824)
      → ShowsSteps number name none_leaves peers (record p { cache = used_chunks (used_by k seat) p.cache }) (use_said k c s)
  unfolding use_said
  uses k seat c shows there small = used_as (of_body k c) (nat_lt 0 (of_body k c)) (used_by k seat) (next_of s c) refl shows there small
