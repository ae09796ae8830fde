-- Bytes that join an instance of the program join that of the law, and its exchange has fewer to come.
use Rattle.std.proofs.Common.{◌≡◌, ◌≤◌, ◌+◌, ◌-◌, refl, sym, subst, ap, ◌∙◌, ℕ, Bool, true, false, ◌&&◌, find, List, length, drop, [], Option, Some, None, arith}
use Rattle.std.specs.Prelude.{nat_le, if◌then◌else◌, option_and_then, option_map}
use Rattle.std.proofs.lemmas.Bool.Decides.{nat_tests}
use Rattle.std.proofs.lemmas.List.{length-drop, take_all}
use Rattle.pp_cache.specs.Memory.{Memory, extent_of as bytes_kept}
use Rattle.pp_cache.specs.OnDisk.{grown_by}
use Rattle.pp_cache_law.proofs.Alike.{instances_of}
use Rattle.pp_cache_law.proofs.Faces.{followed-faced, in_slot-faced, table-faced}
use Rattle.pp_cache_law.proofs.Framing.{frames_of, the_same}
use Rattle.pp_cache_law.proofs.Joined.{joins_of}
use Rattle.pp_cache_law.specs.Joins.{added_behind, kept_of_run}
use Rattle.pp_cache_law.specs.Reads.{IsFound}
use Rattle.pp_cache_law.specs.Tables.{ShowsCache}
use Rattle.pp_flow.specs.Changes.{Exchanges}
use Rattle.pp_flow.specs.Entries.{is_number, left_of, to_come}
use Rattle.pp_flow.specs.declared.entry.Entry.{Entry}
use Rattle.pp_flow_law.proofs.Errands.{bytes as bytes_came}
use Rattle.pp_flow_law.proofs.Framed.{frames}
use Rattle.pp_flow_law.proofs.Standing.{IsShown, entry_placed, is_shown, none_waits}
use Rattle.pp_flow_law.specs.Tables.{Leaving, ShowsFlow}
use Rattle.pp_law.specs.Chunks.{joined as law_joined, note_use}
use Rattle.pp_law.specs.Connections.{exchange, on_exchange}
use Rattle.pp_law.specs.Lists.{Bytes}
use Rattle.pp_law.specs.OwnHeads.{join, joined_one, join_bound, moved_on}
use Rattle.pp_law.specs.Stages.{bound_of}
use Rattle.pp_law.specs.State.{State, Bound, Client, Exchange, Instance as Known, Joining}
use Rattle.pp_law.specs.Table.{extent_of, instance}
use Rattle.pp_cache_law.proofs.Numbers.{some_is}
use Rattle.pp_holes.specs.Adding.{added}
use Rattle.pp_objects.specs.Changes.{face, faces}
use Rattle.pp_objects.specs.Instances.{Instance, in_slot, is_life, is_there, total_at, total_of}
use Rattle.pp_objects.specs.declared.id.ObjectId.{ObjectId}
use Rattle.pp_peers.specs.declared.peers.Peer.{Peer}
use Rattle.pp_peers_law.specs.Peers.{ShowConns}
use Rattle.pp_seats_law.proofs.Entries.{exchanges}
use Rattle.pp_seats_law.specs.Exchanges.{Binding, ShowsBound, ShowsExchange}
use Rattle.pp_seats_law.specs.Clients.{AreShown}
use Rattle.pp_states_law.proofs.Asked.{all_as, frames as conn_frames, itself, one_as}
use Rattle.pp_states_law.specs.Asks.{IsAskedAs}
use Rattle.pp_state.specs.Bodies.{HasJoined, IsButForCells, joined, joined_by, joined_to, joined_within, left_for, with_came, with_run}
use Rattle.pp_state.specs.declared.state.State.{State as Core}
use Rattle.pp_state.specs.Ends.{Parts, parts}
use Rattle.pp_states_law.proofs.Made.{gone_too}
use Rattle.pp_states_law.proofs.Told.{Stands, are_told_on, exchange_next, told_moved, told_next, told_of}
use Rattle.pp_states_law.specs.Steps.{ShowsSteps}
use Rattle.pp_states_law.specs.Told.{IsTold, IsToldBy}
use Rattle.pp_bodies_law.specs.Bytes.{FindsRoom, IsToJoin, JoinsAreTheLaws}

-- ---- memory

cache_faced : (number : ℕ → ℕ) (m k : Memory) (s : State) → ShowsCache number m s → HasJoined m k → ShowsCache number k s
cache_faced number m k s shows has =
    subst (λ (j : Memory). ShowsCache number j s) (sym (ap (λ (j : Memory). record j { instances = k.instances }) has.rest))
    (record { table = table-faced number m s k.instances has.faces shows.table; followed = followed-faced k.instances m.instances has.faces shows.followed; ahead = shows.ahead })

-- the run that the program adds, by what is kept
run_by : ℕ → ObjectId → ℕ → Bytes → Memory → Memory
run_by kept id at bytes m = elim (is_there id m.instances && nat_le (at + kept_of_run kept at (length bytes) + length (drop (kept_of_run kept at (length bytes)) bytes)) (total_at id.slot m.instances)) [
  | true ↦ record m { chunks = (added_behind kept m.size id.slot at bytes m.chunks).chunks; grown = grown_by id m.grown }
  | false ↦ m
]

fits : (kept at total : ℕ) (bytes : Bytes) → at + length bytes ≤ total → nat_le (at + kept_of_run kept at (length bytes) + length (drop (kept_of_run kept at (length bytes)) bytes)) total ≡ true
fits kept at total bytes within = grind (arith, nat_tests, within, length-drop (kept_of_run kept at (length bytes)) bytes)

abbrev join_if : Bound → Bytes → State → Option Known → State
join_if b bytes s o = elim o as (λ x. State) [ None ↦ s | Some x ↦ note_use (record s { chunks = law_joined x.id (extent_of s x) b.next bytes s.chunks }) ]

none_join : (none : Bool) (o : Option Known) → o ≡ None → elim none as (λ t. Option Known) [ true ↦ None | false ↦ o ] ≡ None
none_join true o is = refl
none_join false o is = is

run_joins : (number : ℕ → ℕ) (m k : Memory) (s : State) (id : ObjectId) (b : Bound) (bytes : Bytes) → ShowsCache number m s → IsTold number m s.next_instance id → number id.life ≡ b.instance
    → ((y : Known) → instance s b.instance ≡ Some y → FindsRoom m s id b bytes y) → HasJoined (with_run id b.next bytes m) k → ShowsCache number k (join b bytes s)
unfolding run_by join
run_joins number m k s id b bytes shows told bound finds has = by (is_there id m.instances) refl
  where
    by : (t : Bool) → is_there id m.instances ≡ t → ShowsCache number k (join b bytes s)
    by false gone =
        let none : joined_one b bytes s ≡ None = none_join _ (instance s b.instance) (ap (λ (n : ℕ). instance s n) (sym bound) ∙ gone_too number m s id shows.table told gone) in
        subst (λ (o : Option Known). ShowsCache number k (join_if b bytes s o)) (sym none)
        (cache_faced number m k s shows (subst (λ (t : Bool). HasJoined (elim (t && nat_le (b.next + kept_of_run (bytes_kept id m) b.next (length bytes) + length (drop (kept_of_run (bytes_kept id m) b.next (length bytes)) bytes)) (total_at id.slot m.instances)) as (λ x. Memory) [
          | true ↦ record m { chunks = (added_behind (bytes_kept id m) m.size id.slot b.next bytes m.chunks).chunks; grown = grown_by id m.grown }
          | false ↦ m
        ]) k) gone has))
    by true there =
        let one : IsFound number m s id = instances_of number m s shows.table id there in
        let known : instance s b.instance ≡ Some one.known = ap (λ (i : ℕ). instance s i) (sym bound) ∙ one.there in
        let found : FindsRoom m s id b bytes one.known = finds one.known known in
        let kept : bytes_kept id m ≡ extent_of s one.known = ap (λ (i : ObjectId). bytes_kept i m) (sym one.same) ∙ one.shows.extent in
        let total : total_at id.slot m.instances ≡ one.known.version.length = ap total_of one.here ∙ ap (λ v. v.length) one.shows.version in
        let added : run_by (extent_of s one.known) id b.next bytes m ≡ record m { chunks = (added_behind (extent_of s one.known) m.size id.slot b.next bytes m.chunks).chunks; grown = grown_by id m.grown } =
        rw (run_by, there, total, fits (extent_of s one.known) b.next one.known.version.length bytes found.within) refl in
        let all : HasJoined (record m { chunks = (added_behind (extent_of s one.known) m.size id.slot b.next bytes m.chunks).chunks; grown = grown_by id m.grown }) k =
        subst (λ (j : Memory). HasJoined j k) added (subst (λ (i : ℕ). HasJoined (run_by i id b.next bytes m) k) kept has) in
        subst (λ (j : Memory). ShowsCache number j (join b bytes s)) (sym (ap (λ (j : Memory). record j { instances = k.instances }) all.rest))
        (joins_of number m s shows k.instances id one.known b bytes there one.there (sym bound) found.kept found.within found.room all.faces)

-- ---- the exchange, and the rest of the law

join_flow : (number : ℕ → ℕ) (l : Leaving) (f : Exchanges) (b : Bound) (bytes : Bytes) (s : State) → ShowsFlow number l f s → ShowsFlow number l f (join b bytes s)
unfolding join note_use
join_flow number l f b bytes s shows = by (joined_one b bytes s)
  where
    by : (o : Option Known) → ShowsFlow number l f (elim o as (λ x. State) [ None ↦ s | Some x ↦ note_use (record s { chunks = law_joined x.id (extent_of s x) b.next bytes s.chunks }) ])
    by None = shows
    by (Some x) = frames number l f s shows l (note_use (record s { chunks = law_joined x.id (extent_of s x) b.next bytes s.chunks })) (record { exchanges = refl; next = refl; lines = λ k. refl })

pub join_clients : (b : Bound) (bytes : Bytes) (s : State) → (join b bytes s).clients ≡ s.clients
unfolding join note_use
join_clients b bytes s = by (joined_one b bytes s)
  where
    by : (o : Option Known) → (elim o as (λ x. State) [ None ↦ s | Some x ↦ note_use (record s { chunks = law_joined x.id (extent_of s x) b.next bytes s.chunks }) ]).clients ≡ s.clients
    by None = refl
    by (Some x) = refl

-- how many are to come, and that these are no more
to_come_is : (p : Core) (x : Entry) (span : Binding) → find (is_number x.exchange.number) p.flow.placed ≡ Some x → x.exchange.bound ≡ Some span → span.1 ≤ span.2 → left_for x.exchange.number p.flow ≡ Some (span.2 - span.1)
to_come_is p x span here bound le =
    let some : nat_le span.1 span.2 ≡ true = grind (arith, nat_tests, le) in
    ap (λ (o : Option Entry). option_and_then to_come o) here ∙ ap left_of bound
    ∙ ap (λ (b : Bool). if b then Some (span.2 - span.1) else None) some

joined_is : (p : Core) (x : Entry) (span : Binding) (bytes : Bytes) → find (is_number x.exchange.number) p.flow.placed ≡ Some x → x.exchange.bound ≡ Some span → span.1 + length bytes ≤ span.2
    → joined x.exchange bytes p ≡ joined_to x.exchange.number span bytes p
joined_is p x span bytes here bound fit =
    ap (λ (o : Option Binding). joined_by x.exchange.number o bytes p) bound
    ∙ ap (λ (o : Option ℕ). joined_within x.exchange.number o span bytes p) (to_come_is p x span here bound (omega (arith, fit)))
    ∙ ap (λ (bs : Bytes). joined_to x.exchange.number span bs p) (take_all (span.2 - span.1) bytes (omega (arith, fit)))

-- what the exchange is bound to, the law's is
pub bounds : (number : ℕ → ℕ) (l : Leaving) (f : Exchanges) (s : State) (x : Entry) (d : Exchange) → ShowsFlow number l f s → find (is_number x.exchange.number) f.placed ≡ Some x → exchange s x.exchange.number ≡ Some d → ShowsExchange number x d
bounds number l f s x d shows here there =
    let is : IsShown number s x.exchange.number x = is_shown number l f s shows x.exchange.number x (entry_placed x.exchange.number f x (none_waits number l f s shows x.exchange.number x here) here) in
    subst (λ (e : Exchange). ShowsExchange number x e) (some_is is.known d (sym is.there ∙ there)) is.shows

-- ---- what is told of it

same_life : (life : ℕ) (o : Option Instance) → is_life life o ≡ is_life life (option_map face o)
same_life life None = refl
same_life life (Some i) = refl

there_faced : (is js : List Instance) → faces is ≡ faces js → (id : ObjectId) → is_there id is ≡ is_there id js
there_faced is js same id = same_life id.life (in_slot id.slot is) ∙ ap (λ (o : Option Instance). is_life id.life o) (in_slot-faced id.slot is js same) ∙ sym (same_life id.life (in_slot id.slot js))

cells_stand : (m k : Memory) (next : ℕ) → HasJoined m k → Stands m k next next
cells_stand m k next has = record {
  lives = omega (arith, ap (λ (j : Memory). j.lives) has.rest);
  numbers = omega arith;
  there = λ id there. sym (there_faced k.instances m.instances has.faces id) ∙ there;
}

abbrev run_if : ObjectId → ℕ → Bytes → Memory → Bool → Memory
run_if id from rest m b = elim b as (λ t. Memory) [ true ↦ record m { chunks = (added m.size id.slot from rest m.chunks).chunks; grown = grown_by id m.grown } | false ↦ m ]

run_keeps : (id : ObjectId) (from : ℕ) (rest : Bytes) (m : Memory) (b : Bool) → ((run_if id from rest m b).instances ≡ m.instances) × ((run_if id from rest m b).lives ≡ m.lives)
run_keeps id from rest m true = (refl, refl)
run_keeps id from rest m false = (refl, refl)

run_rest : (id : ObjectId) (at : ℕ) (bytes : Bytes) (m : Memory) → ((with_run id at bytes m).instances ≡ m.instances) × ((with_run id at bytes m).lives ≡ m.lives)
run_rest id at bytes m =
    let kept : ℕ = kept_of_run (bytes_kept id m) at (length bytes) in
    run_keeps id (at + kept) (drop kept bytes) m (is_there id m.instances && nat_le (at + kept + length (drop kept bytes)) (total_at id.slot m.instances))

run_stands : (id : ObjectId) (at : ℕ) (bytes : Bytes) (m k : Memory) (next : ℕ) → HasJoined (with_run id at bytes m) k → Stands m k next next
run_stands id at bytes m k next has =
    let cells : Stands (with_run id at bytes m) k next next = cells_stand (with_run id at bytes m) k next has in
    record {
      lives = omega (arith, cells.lives, (run_rest id at bytes m).1);
      numbers = omega arith;
      there = λ other there. subst (λ (is : List Instance). is_there other is ≡ true) (run_rest id at bytes m).0 (cells.there other there);
    }

-- ---- connections are asked as before

join_next : (b : Bound) (bytes : Bytes) (s : State) → (join b bytes s).next_instance ≡ s.next_instance
unfolding join note_use
join_next b bytes s = by (joined_one b bytes s)
  where
    by : (o : Option Known) → (elim o as (λ x. State) [ None ↦ s | Some x ↦ note_use (record s { chunks = law_joined x.id (extent_of s x) b.next bytes s.chunks }) ]).next_instance ≡ s.next_instance
    by None = refl
    by (Some x) = refl

join_conns : (ps : List Peer) (b : Bound) (bytes : Bytes) (s : State) → ShowConns s ps s.conns → ShowConns (join b bytes s) ps (join b bytes s).conns
unfolding join note_use
join_conns ps b bytes s shows = by (joined_one b bytes s)
  where
    by : (o : Option Known) → ShowConns (join_if b bytes s o) ps (join_if b bytes s o).conns
    by None = shows
    by (Some x) = conn_frames s (join_if b bytes s (Some x)) ps s.conns (all_as s (join_if b bytes s (Some x)) (λ n. itself (exchange s n)) s.conns) shows

abbrev moved_if : ℕ → Exchange → Option Bound → Exchange
moved_if n e o = elim o as (λ x. Exchange) [ None ↦ e | Some b ↦ record e { body = Joining (record b { next = b.next + n }) } ]

moved_as : (n : ℕ) (e : Exchange) → ((moved_on n e).number ≡ e.number) × IsAskedAs e (moved_on n e)
moved_as n e = by (bound_of e)
  where
    by : (o : Option Bound) → ((moved_if n e o).number ≡ e.number) × IsAskedAs e (moved_if n e o)
    by None = (refl, record { to_head = refl; asked = refl; text = refl; alone = refl })
    by (Some b) = (refl, record { to_head = refl; asked = refl; text = refl; alone = refl })

moved_conns : (ps : List Peer) (i n : ℕ) (s : State) → ShowConns s ps s.conns → ShowConns (on_exchange i (moved_on n) s) ps (on_exchange i (moved_on n) s).conns
unfolding on_exchange
moved_conns ps i n s shows =
    conn_frames s (on_exchange i (moved_on n) s) ps s.conns (all_as s (on_exchange i (moved_on n) s) (λ m. one_as i m (moved_on n) (λ e. (moved_as n e).0) (λ e. (moved_as n e).1) s.exchanges) s.conns) shows

-- ---- all of it

with_cells : (number : ℕ → ℕ) (name : Bytes) (l : Leaving) (peers : List Peer) (p : Parts) (s : State) (k : Memory) → ShowsSteps number name l peers p s → HasJoined p.cache k → ShowsSteps number name l peers (record p { cache = k }) s
with_cells number name l peers p s k shows has = record {
  shows = record { clients = shows.shows.clients; exchanges = shows.shows.exchanges; table = cache_faced number p.cache k s shows.shows.table has; conns = shows.shows.conns };
  order = shows.order;
  told = are_told_on number p.cache k s.next_instance s.next_instance (cells_stand p.cache k s.next_instance has) p.flow shows.told;
  refused = shows.refused;
}

abbrev joining_by : Exchange → Bytes → State → Option Bound → State
joining_by d bytes s o = elim o as (λ t. State) [ None ↦ s | Some b ↦ on_exchange d.number (moved_on (length bytes)) (join b bytes s) ]

pub joins : JoinsAreTheLaws
unfolding join_bound on_exchange
joins number name l peers p s shows new x d bytes fed has = by x.exchange.bound (bound_of d) refl refl (exchanges number x d shown).bound fed.joins
  where
    shown : ShowsExchange number x d
    shown = bounds number l p.flow s x d shows.shows.exchanges fed.placed fed.known

    its : IsToldBy number p.cache s.next_instance x.exchange.bound
    its = told_of number p.cache s.next_instance x.exchange.number p.flow x shows.told (entry_placed x.exchange.number p.flow x (none_waits number l p.flow s shows.shows.exchanges x.exchange.number x fed.placed) fed.placed)

    by : (o : Option Binding) (c : Option Bound) → x.exchange.bound ≡ o → bound_of d ≡ c → ShowsBound number o c → IsToJoin o c p.cache s bytes → ShowsSteps number name l peers (parts new) (joining_by d bytes s (bound_of d))
    by None (Some b) one other bound fit = absurd bound
    by (Some span) None one other bound fit = absurd bound
    by None None one other bound fit =
        let same : joined x.exchange bytes p ≡ p = ap (λ (o : Option Binding). joined_by x.exchange.number o bytes p) one in
        let kept : IsButForCells p new = subst (λ (t : Core). IsButForCells t new) same has in
        subst (λ (c : Option Bound). ShowsSteps number name l peers (parts new) (joining_by d bytes s c)) (sym other)
        (subst (λ (t : Core). ShowsSteps number name l peers (record (parts t) { cache = new.cache }) s) (sym kept.rest) (with_cells number name l peers (parts p) s new.cache shows kept.cache))
    by (Some span) (Some b) one other (far, bound) fit =
        let within : span.1 + length bytes ≤ span.2 = rw (bound.next, bound.to) fit.0 in
        let kept : IsButForCells (joined_to x.exchange.number span bytes p) new = subst (λ (t : Core). IsButForCells t new) (joined_is p x span bytes fed.placed one within) has in
        let joining : HasJoined (with_run span.0 b.next bytes p.cache) new.cache = subst (λ (at : ℕ). HasJoined (with_run span.0 at bytes p.cache) new.cache) bound.next kept.cache in
        let told : IsToldBy number p.cache s.next_instance (Some span) = subst (λ (o : Option Binding). IsToldBy number p.cache s.next_instance o) one its in
        let memory : ShowsCache number new.cache (join b bytes s) = run_joins number p.cache new.cache s span.0 b bytes shows.shows.table told bound.joined fit.1 joining in
        subst (λ (c : Option Bound). ShowsSteps number name l peers (parts new) (joining_by d bytes s c)) (sym other)
        (subst (λ (t : Core). ShowsSteps number name l peers (record (parts t) { cache = new.cache }) (joining_by d bytes s (Some b))) (sym kept.rest) (record {
          shows = record {
            clients = subst (λ (cs : List Client). AreShown number name [] p.seats.items cs) (sym (join_clients b bytes s)) shows.shows.clients;
            exchanges =
                subst (λ (i : ℕ). ShowsFlow number l (with_came (length bytes) x.exchange.number p.flow) (on_exchange i (moved_on (length bytes)) (join b bytes s))) shown.number
                (bytes_came number l p.flow (join b bytes s) (join_flow number l p.flow b bytes s shows.shows.exchanges) x.exchange.number (length bytes) x fed.placed);
            table = frames_of number new.cache (join b bytes s) memory new.cache (joining_by d bytes s (Some b)) (record { instances = refl; lives = refl; chunks = refl; extents = refl }) (record {
              instances = refl;
              made = the_same (join b bytes s).next_instance;
              chunks = refl;
              followers = λ k. refl;
              kept = λ y. refl;
            });
            conns = moved_conns peers d.number (length bytes) (join b bytes s) (join_conns peers b bytes s shows.shows.conns);
          };
          order = shows.order;
          told =
              told_next number new.cache s.next_instance (joining_by d bytes s (Some b)).next_instance (with_came (length bytes) x.exchange.number p.flow) (exchange_next d.number (moved_on (length bytes)) (join b bytes s) ∙ join_next b bytes s)
              (are_told_on number p.cache new.cache s.next_instance s.next_instance (run_stands span.0 b.next bytes p.cache new.cache s.next_instance joining) (with_came (length bytes) x.exchange.number p.flow)
              (told_moved number p.cache s.next_instance x.exchange.number (length bytes) p.flow shows.told));
          refused = shows.refused;
        }))
