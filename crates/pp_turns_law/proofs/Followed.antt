-- A request is answered by the row of its key, in the program as in the law.
use Rattle.std.proofs.Common.{◌≡◌, refl, sym, subst, ap, ◌∙◌, ℕ, ◌+◌, Bool, true, false, ◌==◌, ◌&&◌, not, cond, List, [], Some, None, Option, option_map, arith}
use Rattle.std.proofs.lemmas.Bool.Decides.{nat_tests}
use Rattle.std.specs.Prelude.{count_by, option_and_then, slice_set}
use Rattle.pp_turns_law.proofs.Comes.{serves_of}
use Rattle.pp_cache.specs.Memory.{Memory}
use Rattle.pp_cache_law.proofs.Alike.{rows_of}
use Rattle.pp_cache_law.proofs.Finds.{find_passes}
use Rattle.pp_cache_law.proofs.Numbers.{is_same, same_test, some_is}
use Rattle.pp_cache_law.specs.Pairs.{AreBoth}
use Rattle.pp_cache_law.specs.Tables.{ShowsCache, ShowsInstance}
use Rattle.pp_turns_law.proofs.Changed.{counts_moved, get_set}
use Rattle.pp_turns_law.proofs.Quitting.{IsLeftBy, left_memory}
use Rattle.pp_turns_law.proofs.Refused.{followed_as, left_stands, once_swept}
use Rattle.pp_turns_law.proofs.Relayed.{answered_is}
use Rattle.pp_turns_law.proofs.Sitting.{interim_number, is_at, shown_at}
use Rattle.pp_turns_law.specs.Decides.{IsDecided}
use Rattle.pp_flow.specs.Changes.{entry_of}
use Rattle.pp_flow.specs.declared.entry.Entry.{Entry}
use Rattle.pp_flow_law.specs.Tables.{Leaving}
use Rattle.pp_law.specs.Closing.{forsake, leave}
use Rattle.pp_law.specs.Connections.{exchange, is_client, on_client}
use Rattle.pp_law.specs.Deciding.{answering_with, follow, follow_row, follow_with, reply_by, serves, span_of}
use Rattle.pp_law.specs.Lists.{Bytes, change}
use Rattle.pp_law.specs.Requests.{key_in}
use Rattle.pp_law.specs.State.{State, Client, Exchange, Instance as Known, Reply}
use Rattle.pp_law.specs.Table.{follows, instance, row, swept}
use Rattle.pp_objects.specs.Instances.{Instance, id_of, is_life, is_there, row_of}
use Rattle.pp_objects.specs.declared.id.ObjectId.{ObjectId}
use Rattle.pp_peers.specs.declared.peers.Peer.{Peer}
use Rattle.pp_seats.specs.Decided.{answering, with_interim}
use Rattle.pp_seats.specs.Follows.{next_at as seat_next_at, next_of as seat_next_of}
use Rattle.pp_seats.specs.Heads.{asked_in, owned_in}
use Rattle.pp_seats.specs.declared.key.Key.{Key as OwnedKey}
use Rattle.pp_seats.specs.declared.seat.Next.{Next}
use Rattle.pp_seats.specs.declared.seat.Seat.{Seat}
use Rattle.pp_seats_law.proofs.Decided.{answers}
use Rattle.pp_seats_law.specs.Clients.{IsAt}
use Rattle.pp_seats_law.specs.Seats.{ShowsOpen, ShowsSeat}
use Rattle.pp_states_law.specs.Clients.{GoesOnAs}
use Rattle.pp_states_law.specs.Decisions.{AsksOnce}
use Rattle.pp_states_law.specs.States.{ShowsState}
use Rattle.pp_target.specs.Key.{Key, text_of}
use Rattle.pp_world.specs.declared.note.Decision.{Decision}
use Rattle.pp_take.specs.Deciding.{answered_at, followed_at, followed_by, followed_more, following, left_useless, may_follow, row_at, row_by, row_followed, serves_at, serves_next}
use Rattle.pp_state.specs.Ends.{AreInOrder, Parts, on_seat, source_of}
use Rattle.pp_state.specs.Readers.{next_at}
use Rattle.pp_states_law.proofs.Made.{gone_too, told_there}
use Rattle.pp_states_law.proofs.Places.{numbers_set}
use Rattle.pp_states_law.proofs.Told.{are_told_on}
use Rattle.pp_states_law.specs.Steps.{ShowsSteps, whole}
use Rattle.pp_states_law.specs.Told.{AreTold, IsTold}
use Rattle.pp_turns_law.proofs.Keyed.{keys_same}
use Rattle.pp_turns_law.proofs.StandingRow.{client_follows, followed_by_one, may_follow_by, more_is, more_stands, row_known, row_stands, still_known, table_follows, told_again}
use Rattle.pp_turns_law.proofs.Useless.{useless, useless_left}
use Rattle.pp_turns_law.specs.Follows.{FollowsAreTheLaws, MayFollow}

other_way : (m n : ℕ) → (m == n) ≡ (n == m)
other_way m n = grind (arith, nat_tests)

sweep_last : (test : Exchange → Bool) (s : State) → leave test (swept s) ≡ swept (leave test s)
unfolding leave forsake swept
sweep_last test s = refl

next_swept : (n : ℕ) (f : Client → Client) (s : State) → (swept (on_client n f s)).next_instance ≡ s.next_instance
unfolding on_client swept
next_swept n f s = refl

-- ---- by the row of its key, of this number

module _ (number : ℕ → ℕ) (name : Bytes) (l : Leaving) (peers : List Peer) (p : Parts) (s : State) (steps : ShowsSteps number name l peers p s) (i : ℕ) (d : Decision) (seat : Seat) (c : Client) (decided : IsDecided i p s seat c) (may : MayFollow i p s seat c)
    (key : Bytes) (j : Instance) (x : Known) (one : ShowsInstance number p.cache s j x) (known : row s key ≡ Some x) where
  abbrev id : ObjectId
  id = id_of j

  abbrev to_new : Seat
  to_new = answering d (Some id) (span_of d) (with_interim seat)

  abbrev reply : ℕ → Reply
  reply k = reply_by d (Some k)

  abbrev to : Client → Client
  to = answering_with (reply (number id.life))

  abbrev memory : Memory
  memory = left_memory (source_of seat) (followed_by_one id p.cache)

  -- before it leaves an exchange
  abbrev behind : Parts
  behind = record p { seats = slice_set p.seats i to_new; cache = memory }

  abbrev law_behind : State
  law_behind = swept (on_client seat.client.id to s)

  at : IsAt seat.client.id i p.seats
  at = is_at i p.seats seat steps.order decided.place.here

  same_client : c.number ≡ seat.client.id
  same_client = is_same c.number seat.client.id (find_passes (is_client seat.client.id) s.clients c decided.place.there)

  shown : ShowsSeat number name [] seat c
  shown = shown_at number name [] p.seats s.clients seat.client.id i seat c steps.shows.clients at decided.place.here decided.place.there

  live : ShowsOpen number name [] seat c
  live = shown.going decided.going

  answers_so : ShowsSeat number name [] to_new (to c)
  answers_so = answers number d (Some id) name [] seat c shown decided.going decided.may may.given

  goes : GoesOnAs number name [] p.seats s.clients seat.client.id i to_new to
  goes other z here there shows = subst (λ (y : Client). ShowsSeat number name [] to_new (to y)) (some_is c z (sym decided.place.there ∙ there)) answers_so

  -- ---- how many follow each

  gained : (k : ℕ) → follows k (to c) ≡ (k == number id.life)
  gained k = ap (λ (b : Bool). not b && (number id.life == k)) decided.going ∙ other_way (number id.life) k

  moved : (k : ℕ) → count_by (follows k) (change (is_client seat.client.id) to s.clients) + cond (follows k c) 1 0 ≡ count_by (follows k) s.clients + cond (follows k (to c)) 1 0
  moved k = counts_moved number name [] (follows k) seat.client.id i to p.seats s.clients c steps.shows.clients at decided.place.there

  leaves : IsLeftBy number p.cache c (source_of seat)
  leaves = followed_as number name i p seat c decided.place.here live decided.going may.there

  here : is_there id p.cache.instances ≡ true
  here = ap (λ (o : Option Instance). is_life j.life o) one.there ∙ same_test j.life j.life refl

  table : ShowsCache number memory (swept (record s { clients = change (is_client seat.client.id) to s.clients }))
  table =
      table_follows number p.cache s id (source_of seat) c (to c) (change (is_client seat.client.id) to s.clients) steps.shows.table here gained
      (λ k. moved k ∙ ap (λ (b : Bool). count_by (follows k) s.clients + cond b 1 0) (gained k)) leaves

  shows_behind : ShowsState number name [] l (whole behind peers) law_behind
  shows_behind = client_follows number name [] l (whole p peers) s steps.shows seat.client.id i to_new to memory at goes table

  steps_behind : ShowsSteps number name l peers behind law_behind
  steps_behind = record {
    shows = shows_behind;
    order = subst (λ (ns : List ℕ). AreInOrder ns) (sym (numbers_set i p.seats seat to_new decided.place.here (interim_number seat))) steps.order;
    told = subst (λ (n : ℕ). AreTold number memory n p.flow) (sym (next_swept seat.client.id to s))
        (are_told_on number (followed_by_one id p.cache) memory s.next_instance s.next_instance (left_stands (source_of seat) (followed_by_one id p.cache) s.next_instance) p.flow
        (are_told_on number p.cache (followed_by_one id p.cache) s.next_instance s.next_instance (more_stands id p.cache s.next_instance) p.flow steps.told));
    refused = steps.refused;
  }

  -- ---- what it says next

  known_behind : instance law_behind (number id.life) ≡ Some x
  known_behind = ap (λ (n : ℕ). instance law_behind n) one.id ∙ still_known seat.client.id to s x.id x (row_known number p.cache s key j x steps.shows.table.table one known) (row_stands s key x known)

  told_behind : IsTold number memory law_behind.next_instance id
  told_behind =
      subst (λ (n : ℕ). IsTold number memory n id) (sym (next_swept seat.client.id to s))
      (told_again number (followed_by_one id p.cache) memory s.next_instance s.next_instance (left_stands (source_of seat) (followed_by_one id p.cache) s.next_instance) id
      (told_again number p.cache (followed_by_one id p.cache) s.next_instance s.next_instance (more_stands id p.cache s.next_instance) id (told_there number p.cache s id steps.shows.table.table here)))

  there_behind : is_there id memory.instances ≡ true
  there_behind = by (is_there id memory.instances) refl
    where
      by : (b : Bool) → is_there id memory.instances ≡ b → b ≡ true
      by true is = refl
      by false gone = absurd (cc (sym known_behind ∙ gone_too number memory law_behind id shows_behind.table.table told_behind gone))

  its_next : next_at behind.seats i ≡ seat_next_at id (span_of d).1 (Some (span_of d).0)
  its_next =
      ap (λ (o : Option Seat). option_and_then seat_next_of o) (get_set i p.seats seat to_new decided.place.here)
      ∙ ap (λ (b : Bool). elim b as (λ t. Option Next) [ true ↦ None | false ↦ seat_next_at id (span_of d).1 (Some (span_of d).0) ]) (answers_so.closing ∙ decided.going)

  serving : (e : Entry) (y : Exchange) → entry_of y.number behind.flow ≡ Some e → exchange law_behind y.number ≡ Some y → serves_at i behind (Some e) ≡ serves x (reply (number id.life)) y
  serving e y entry there =
      ap (λ (o : Option Next). serves_next o memory e) its_next
      ∙ serves_of number name l peers behind law_behind steps_behind (record { source = id; at = (span_of d).0; to = (span_of d).1 }) (record { source = x; at = (span_of d).0; to = (span_of d).1 })
      (record { there = there_behind; known = known_behind; at = refl; to = refl }) y.number e y (reply (number id.life)) entry there refl refl

  -- ---- all of it

  once : AsksOnce to_new.client.id law_behind
  once = subst (λ (n : ℕ). AsksOnce n law_behind) (same_client ∙ sym (interim_number seat)) (subst (λ (n : ℕ). AsksOnce c.number (swept (on_client n to s))) same_client (once_swept c.number to s decided.asks))

  left : ShowsSteps number name l peers (left_useless i behind) (leave (useless to_new.client.id (serves x (reply (number id.life)))) law_behind)
  left = useless_left number name l peers behind law_behind steps_behind i to_new (get_set i p.seats seat to_new decided.place.here) once (serves x (reply (number id.life))) serving

  -- of a client of that number, that follows the instance of that one
  abbrev law_at : ℕ → ℕ → State
  law_at n k = swept (leave (useless n (serves x (reply k))) (on_client n (answering_with (reply k)) s))

  in_law : ShowsSteps number name l peers (left_useless i behind) (law_at c.number x.id)
  in_law =
      subst (λ (k : ℕ). ShowsSteps number name l peers (left_useless i behind) (law_at c.number k)) one.id
      (subst (λ (n : ℕ). ShowsSteps number name l peers (left_useless i behind) (law_at n (number id.life))) (sym same_client)
      (subst (λ (t : State). ShowsSteps number name l peers (left_useless i behind) t) (sweep_last (useless seat.client.id (serves x (reply (number id.life)))) (on_client seat.client.id to s))
      (subst (λ (n : ℕ). ShowsSteps number name l peers (left_useless i behind) (leave (useless n (serves x (reply (number id.life)))) law_behind)) (interim_number seat) left)))

  may_one : may_follow id p.cache ≡ true
  may_one =
      may_follow_by p.cache j x.id to (is_client seat.client.id) s.clients c one.there one.followers (moved x.id) (may.other key x known) (gained x.id ∙ same_test x.id (number id.life) (sym one.id)) may.few

  program : answered_at i d (Some id) (span_of d) (following id (on_seat i with_interim p)) ≡ behind
  program =
      answered_is i d (Some id) (span_of d) (record p { cache = followed_more id p.cache }) seat decided.place.here
      ∙ ap (λ (m : Memory). record p { seats = slice_set p.seats i to_new; cache = left_memory (source_of seat) m }) (more_is id p.cache may_one)

  followed_so : ShowsSteps number name l peers (followed_by i d (span_of d) id p) (follow_with c (reply_by d (Some x.id)) x s)
  unfolding followed_by follow_with
  followed_so = subst (λ (q : Parts). ShowsSteps number name l peers (left_useless i q) (law_at c.number x.id)) (sym program) in_law

-- ---- by its key

abbrev law_by : Client → Decision → State → Option Bytes → State
law_by c d s o = elim o as (λ t. State) [ None ↦ s | Some key ↦ follow_row c d key s ]

follows_by : (c : Client) (d : Decision) (s : State) → follow c d s ≡ law_by c d s (option_map text_of (key_in c.front))
unfolding follow
follows_by c d s = by (key_in c.front)
  where
    by : (o : Option Key) → (elim o as (λ t. State) [ None ↦ s | Some key ↦ follow_row c d (text_of key) s ]) ≡ law_by c d s (option_map text_of o)
    by None = refl
    by (Some key) = refl

abbrev row_in : Option Bytes → Memory → Option Instance
row_in o m = elim o as (λ t. Option Instance) [ None ↦ None | Some key ↦ row_of key m.instances ]

row_in_by : (o : Option OwnedKey) (m : Memory) → row_by o m ≡ row_in (option_map (λ (k : OwnedKey). k.text.items) o) m
row_in_by None m = refl
row_in_by (Some key) m = refl

module _ (number : ℕ → ℕ) (name : Bytes) (l : Leaving) (peers : List Peer) (p : Parts) (s : State) (steps : ShowsSteps number name l peers p s) (i : ℕ) (d : Decision) (seat : Seat) (c : Client) (decided : IsDecided i p s seat c) (may : MayFollow i p s seat c) where
  abbrev keyed : Option Bytes
  keyed = option_map (λ (k : OwnedKey). k.text.items) (owned_in (asked_in seat.front))

  row_is : row_at i p ≡ row_in keyed p.cache
  row_is = ap (λ (o : Option Seat). row_by (option_and_then (λ (y : Seat). owned_in (asked_in y.front)) o) p.cache) decided.place.here ∙ row_in_by (owned_in (asked_in seat.front)) p.cache

  law_is : follow c d s ≡ law_by c d s keyed
  law_is =
      follows_by c d s
      ∙ ap (law_by c d s)
      (keys_same seat.front c.front ((shown_at number name [] p.seats s.clients seat.client.id i seat c steps.shows.clients (is_at i p.seats seat steps.order decided.place.here) decided.place.here decided.place.there).going decided.going).front may.key)

  by_rows : (key : Bytes) (u : Option Instance) (v : Option Known) → AreBoth (ShowsInstance number p.cache s) u v → row s key ≡ v
      → ShowsSteps number name l peers (row_followed i d (span_of d) u p) (elim v as (λ t. State) [ None ↦ s | Some x ↦ follow_with c (reply_by d (Some x.id)) x s ])
  by_rows key None None both there = steps
  by_rows key (Some j) (Some x) both there = followed_so number name l peers p s steps i d seat c decided may key j x both there
  by_rows key None (Some x) both there = absurd both
  by_rows key (Some j) None both there = absurd both

  by_key : (key : Bytes) → ShowsSteps number name l peers (row_followed i d (span_of d) (row_of key p.cache.instances) p) (follow_row c d key s)
  unfolding follow_row
  by_key key = by_rows key (row_of key p.cache.instances) (row s key) (rows_of number p.cache s steps.shows.table.table key) refl

  by_text : (o : Option Bytes) → ShowsSteps number name l peers (row_followed i d (span_of d) (row_in o p.cache) p) (law_by c d s o)
  by_text None = steps
  by_text (Some key) = by_key key

  replies_so : ShowsSteps number name l peers (followed_at i d (span_of d) p) (follow c d s)
  replies_so =
      subst (λ (o : Option Instance). ShowsSteps number name l peers (row_followed i d (span_of d) o p) (follow c d s)) (sym row_is)
      (subst (λ (t : State). ShowsSteps number name l peers (row_followed i d (span_of d) (row_in keyed p.cache) p) t) (sym law_is) (by_text keyed))

pub replies : FollowsAreTheLaws
replies number name l peers p s steps i d seat c decided may = replies_so number name l peers p s steps i d seat c decided may
