-- Where a connection ended no instance comes into memory, so that what each client follows is there still.
use Rattle.std.proofs.Common.{◌≡◌, refl, sym, ap, ◌∙◌, ℕ, Bool, true, false, find, List, [], Option, Some, None, option_and_then}
use Rattle.std.specs.Prelude.{slice_get}
use Rattle.pp_cache.specs.Memory.{Memory}
use Rattle.pp_cache_law.specs.Tables.{ShowsTable}
use Rattle.pp_turns_law.proofs.Sitting.{is_at, shown_at}
use Rattle.pp_turns_law.specs.Useless.{AllFollow}
use Rattle.pp_desk.specs.Closings.{Sides, closed_conn, with_parts}
use Rattle.pp_events_law.proofs.Alike.{AreAlike, itself}
use Rattle.pp_events_law.proofs.Closed.{closes}
use Rattle.pp_events_law.proofs.Sourced.{follow_alike}
use Rattle.pp_flow.specs.Changes.{entry_of}
use Rattle.pp_flow.specs.declared.entry.Entry.{Entry}
use Rattle.pp_flow_law.specs.Tables.{none_leaves}
use Rattle.pp_framing.specs.declared.body.Ending.{Ending}
use Rattle.pp_framing.specs.declared.body.Ending.TheVariants.{Whole, Short}
use Rattle.pp_law.specs.Lists.{Bytes}
use Rattle.pp_law.specs.State.{State, Client}
use Rattle.pp_laws.specs.Runs.{IsIn}
use Rattle.pp_laws_turn.specs.SoundTurn.{HasSource}
use Rattle.pp_objects.specs.Instances.{is_there}
use Rattle.pp_objects.specs.declared.id.ObjectId.{ObjectId}
use Rattle.pp_origins.specs.Responses.{brought_by, closed_unless, ended_by, ending_by, finished, goes_on_by, origin_gone, response_whole, whole_for, whole_where}
use Rattle.pp_peers.specs.Peers.{is_number}
use Rattle.pp_peers.specs.declared.peers.Peer.{Peer}
use Rattle.pp_seats.specs.Follows.{answer_in}
use Rattle.pp_seats.specs.declared.seat.Seat.{Seat}
use Rattle.pp_seats.specs.declared.seat.Stage.{Stage}
use Rattle.pp_seats_law.specs.Seats.{ShowsSeat}
use Rattle.pp_state.specs.Ends.{Parts}
use Rattle.pp_state.specs.Lines.{first_on}
use Rattle.pp_states_law.specs.Steps.{ShowsSteps}
use Rattle.pp_turns_law.specs.Turns.{IsFollowing}
use Rattle.pp_reads_law.specs.Stays.{AreStill, WasStill}

-- no life is given, and none comes in
pub record IsThinner (m k : Memory) : Type 0 where
  pub lives : k.lives ≡ m.lives
  pub there : (id : ObjectId) → is_there id k.instances ≡ true → is_there id m.instances ≡ true

thin_same : (m : Memory) → IsThinner m m
thin_same m = record { lives = refl; there = λ id is. is }

thin_then : (a b c : Memory) → IsThinner a b → IsThinner b c → IsThinner a c
thin_then a b c one two = record { lives = two.lives ∙ one.lives; there = λ id is. one.there id (two.there id is) }

closed_thin : (k : ℕ) (counts : Bool) (x : Sides) → IsThinner x.parts.cache (closed_conn k counts x).parts.cache
closed_thin k counts x = let all : AreAlike x.parts (closed_conn k counts x).parts = closes k counts x in record { lives = all.lives; there = all.there }

whole_thin : (k : ℕ) (x : Sides) → IsThinner x.parts.cache (response_whole k x).parts.cache
whole_thin k x = by (option_and_then (λ number. entry_of number x.parts.flow) (first_on k x.parts))
  where
    unless : (b : Bool) (z : Sides) → IsThinner z.parts.cache (closed_unless b k z).parts.cache
    unless true z = thin_same z.parts.cache
    unless false z = closed_thin k true z

    by : (o : Option Entry) → IsThinner x.parts.cache (whole_for k o x).parts.cache
    by None = thin_same x.parts.cache
    by (Some e) =
        let y : Sides = with_parts (finished e.exchange) x in
        unless (goes_on_by (find (is_number k) y.peers) e.errand.body_left e.errand.binds_connection) (record y { peers = brought_by k (find (is_number k) y.peers) y.peers })

pub gone_thin : (is_clean : Bool) (k : ℕ) (x : Sides) → IsThinner x.parts.cache (origin_gone is_clean k x).parts.cache
gone_thin is_clean k x = by (ending_by is_clean (find (is_number k) x.peers))
  where
    ended : Sides
    ended = record x { peers = ended_by is_clean k (find (is_number k) x.peers) x.peers }

    by : (e : Ending) → IsThinner x.parts.cache (closed_conn k true (whole_where e k ended)).parts.cache
    by Whole = thin_then x.parts.cache (response_whole k ended).parts.cache (closed_conn k true (response_whole k ended)).parts.cache (whole_thin k ended) (closed_thin k true (response_whole k ended))
    by Short = closed_thin k true ended

-- where clients stay with their decisions
module _ (number : ℕ → ℕ) (name : Bytes) (peers : List Peer) (p q : Parts) (s v : State) (before : ShowsTable number p.cache s) (follow : (i : ℕ) (seat : Seat) → slice_get p.seats i ≡ Some seat → seat.is_closing ≡ false → IsFollowing p.cache seat) (still : AreStill p.seats q.seats) (thin : IsThinner p.cache q.cache)
    (shows : ShowsSteps number name none_leaves peers q v) (sources : (c : Client) → IsIn c v.clients → c.is_closing ≡ false → HasSource v c) where
  -- the same clients over what was in memory before
  abbrev between : Parts
  between = record p { seats = q.seats }

  follow_between : (i : ℕ) (seat : Seat) → slice_get q.seats i ≡ Some seat → seat.is_closing ≡ false → IsFollowing p.cache seat
  follow_between i seat at going a id answer source =
      let was : WasStill p.seats i seat = still.was i seat at in
      follow i was.old was.here (sym was.is.closing ∙ going) a id (ap (λ (t : Stage). answer_in t) (sym was.is.stage) ∙ answer) source

  alike : AreAlike between q
  alike = record { numbers = refl; was = λ i new at. record { old = new; here = at; is = itself new }; lives = thin.lives; there = thin.there }

  pub follow_still : AllFollow q v
  follow_still i seat c place going =
      let one : ShowsSeat number name [] seat c = shown_at number name [] q.seats v.clients seat.client.id i seat c shows.shows.clients (is_at i q.seats seat shows.order place.here) place.here place.there in
      follow_alike number name peers between q s v before follow_between alike shows sources i seat place.here (one.closing ∙ going)
