-- What clients name is there: where an event is awaited, where somebody is woken, amid a read and behind it.
use Rattle.std.proofs.Common.{◌≡◌, ◌<◌, refl, sym, subst, ap, ◌∙◌, ℕ, Bool, true, false, ◌==◌, ◌&&◌, not, List, [], Option, Some, None}
use Rattle.std.specs.List.{list_any}
use Rattle.std.specs.Prelude.{option_and_then, slice_get}
use Rattle.pp_answers_law.proofs.GivenRows.{life_found}
use Rattle.pp_answers_law.proofs.GivenSeats.{given_all, given_at}
use Rattle.pp_answers_law.specs.Lives.{GivesLives, KeepsNamedLives}
use Rattle.pp_answers_law.specs.Making.{AreGivenSeats, IsGiven, IsGivenBrought, IsGivenSeat, IsGivenSource}
use Rattle.pp_cache.specs.Memory.{Memory}
use Rattle.pp_cache_law.proofs.Alike.{instances_of, unfollowed}
use Rattle.pp_cache_law.proofs.Numbers.{is_same, same_test}
use Rattle.pp_cache_law.specs.Reads.{IsFound}
use Rattle.pp_comes_law.proofs.CanWrite.{woken_cache}
use Rattle.pp_comes_law.proofs.OriginThere.{first_off, none_in}
use Rattle.pp_comes_law.proofs.SettledOnes.{IsOf, of_seat}
use Rattle.pp_comes_law.specs.Awaited.{IsAwaited}
use Rattle.pp_comes_law.specs.Named.{AwaitedNamesAreThere, FollowedOnesAreThereAmidReads, FollowedOnesAreThereBehindReads, NamesAreGivenAmidReads, NamesAreThere, WokenNamesAreThere}
use Rattle.pp_events_law.proofs.Alike.{AreAlike, WasAlike}
use Rattle.pp_events_law.proofs.Woken.{woken_alike}
use Rattle.pp_flow_law.specs.Tables.{Leaving}
use Rattle.pp_law.specs.Lists.{Bytes}
use Rattle.pp_law.specs.State.{State, Client, Conn, ReadOf, Term}
use Rattle.pp_law.specs.Table.{follows, is_followed}
use Rattle.pp_law.specs.Turn.{rest_with}
use Rattle.pp_objects.specs.Instances.{Instance, followers_of, in_slot, is_in_slot, is_life, is_there}
use Rattle.pp_objects.specs.declared.id.ObjectId.{ObjectId}
use Rattle.pp_peers.specs.declared.peers.Peer.{Peer}
use Rattle.pp_proxy.specs.Moving.{Turning}
use Rattle.pp_reads_law.proofs.FillBeside.{followed_still, table_gives}
use Rattle.pp_reads_law.proofs.GivenReads.{moments_on, reads_on}
use Rattle.pp_reads_law.proofs.StayReads.{reads_stay}
use Rattle.pp_reads_law.proofs.StayMoments.{moments_stay}
use Rattle.pp_reads_law.specs.Heads.{FollowedAreThere, IsFollowedThere}
use Rattle.pp_reads_law.specs.Stays.{AreStill, StaysBeside, WasStill}
use Rattle.pp_seats.specs.Follows.{answer_in}
use Rattle.pp_seats.specs.declared.seat.Answer.{Answer}
use Rattle.pp_seats.specs.declared.seat.Brought.{Brought}
use Rattle.pp_seats.specs.declared.seat.Brought.TheVariants.{Awaited, Joins, Passes, Refused, TooWide, Useless}
use Rattle.pp_seats.specs.declared.seat.Seat.{Seat}
use Rattle.pp_seats.specs.declared.seat.Stage.{Stage}
use Rattle.pp_seats.specs.declared.seat.Stage.TheVariants.{Answering, Passing, Undecided, Waiting}
use Rattle.pp_seats_law.specs.Seats.{ShowsOpen}
use Rattle.pp_state.specs.Ends.{Parts, parts}
use Rattle.pp_states_law.specs.Steps.{ShowsSteps}
use Rattle.pp_turns_law.proofs.Quitting.{follows_one}
use Rattle.pp_turns_law.specs.Rows.{AreReady, IsReady}
use Rattle.pp_world.specs.Log.{Log}
use Rattle.pp_world.specs.declared.event.Wants.{Wants}

-- ---- the life of each instance was given

there_given : (m : Memory) (id : ObjectId) → GivesLives m → is_there id m.instances ≡ true → id.life < m.lives
there_given m id gives there = by (in_slot id.slot m.instances) refl there
  where
    by : (o : Option Instance) → in_slot id.slot m.instances ≡ o → is_life id.life o ≡ true → id.life < m.lives
    by None here is = absurd (cc is)
    by (Some i) here is = subst (λ (n : ℕ). n < m.lives) (is_same i.life id.life is) (life_found m.lives (is_in_slot id.slot) m.instances i here gives.given)

-- ---- of each client

source_given : (m : Memory) (stage : Stage) → GivesLives m → ((a : Answer) (id : ObjectId) → answer_in stage ≡ Some a → a.source ≡ Some id → is_there id m.instances ≡ true) → IsGivenSource m.lives stage
source_given m Undecided gives follows = tt
source_given m Waiting gives follows = tt
source_given m Passing gives follows = tt
source_given m (Answering a) gives follows = by a.source refl
  where
    by : (o : Option ObjectId) → a.source ≡ o → IsGiven m.lives o
    by None is = tt
    by (Some id) is = there_given m id gives (follows a id refl is)

brought_given : (n : ℕ) (b : Brought) → ((id : ObjectId) (plain : Bool) → b ≡ Joins id plain → id.life < n) → IsGivenBrought n b
brought_given n Awaited joined = tt
brought_given n Useless joined = tt
brought_given n (Joins id plain) joined = joined id plain refl
brought_given n (Passes x) joined = tt
brought_given n TooWide joined = tt
brought_given n Refused joined = tt

module _ (number : ℕ → ℕ) (name : Bytes) (l : Leaving) (peers : List Peer) (p : Parts) (s : State) (steps : ShowsSteps number name l peers p s) (ready : AreReady number p.cache s.next_instance p.seats) (going : (i : ℕ) (seat : Seat) → slice_get p.seats i ≡ Some seat → seat.is_closing ≡ false) where
  gives : GivesLives p.cache
  gives = table_gives number p.cache s steps.shows.table.table

  -- it follows what the law's client follows, and each follower is counted
  counted : (i : ℕ) (seat : Seat) (a : Answer) (id : ObjectId) → slice_get p.seats i ≡ Some seat → answer_in seat.stage ≡ Some a → a.source ≡ Some id → IsFollowedThere id p.cache.instances
  counted i seat a id at answers own = record { there = there; some = ap (λ (o : Option Instance). followers_of o == 0) found.here ∙ unfollowed number p.cache s found.seen found.known found.shows ∙ ap not followed }
    where
      there : is_there id p.cache.instances ≡ true
      there = (ready i seat at (going i seat at)).follows a id answers own

      found : IsFound number p.cache s id
      found = instances_of number p.cache s steps.shows.table.table id there

      its : IsOf number name seat s.clients
      its = of_seat number name i p.seats s.clients seat steps.shows.clients at

      goes : its.client.is_closing ≡ false
      goes = sym its.shows.closing ∙ going i seat at

      live : ShowsOpen number name [] seat its.client
      live = its.shows.going goes

      source : option_and_then (λ (b : Answer). b.source) (answer_in seat.stage) ≡ Some id
      source = ap (λ (o : Option Answer). option_and_then (λ (b : Answer). b.source) o) answers ∙ own

      follows_it : follows (number id.life) its.client ≡ true
      follows_it =
          ap (λ (b : Bool). not its.client.is_closing && b) (follows_one number (number id.life) id seat.client.reply seat.stage its.client.stage live.stage source)
          ∙ ap (λ (b : Bool). not b && (number id.life == number id.life)) goes ∙ same_test (number id.life) (number id.life) refl

      numbered : number id.life ≡ found.known.id
      numbered = ap (λ (j : ObjectId). number j.life) (sym found.same) ∙ found.shows.id

      followed : is_followed s found.known.id ≡ true
      followed = ap (λ (n : ℕ). is_followed s n) (sym numbered) ∙ by (list_any (follows (number id.life)) s.clients) refl
        where
          by : (b : Bool) → list_any (follows (number id.life)) s.clients ≡ b → b ≡ true
          by true is = refl
          by false none = absurd (let both : true ≡ false = sym follows_it ∙ none_in (follows (number id.life)) its.client s.clients none its.there in cc both)

  given_one : (i : ℕ) (seat : Seat) → slice_get p.seats i ≡ Some seat → IsGivenSeat p.cache.lives seat
  given_one i seat at =
      let its : IsReady number p.cache s.next_instance seat = ready i seat at (going i seat at) in
      record { source = source_given p.cache seat.stage gives its.follows; brought = brought_given p.cache.lives seat.brought (λ id plain is. (its.joined id plain is).given) }

  pub names_there : NamesAreThere p
  names_there = record { lives = gives; given = given_all p.cache.lives p.seats given_one; followed = λ i seat a id at on answers own. counted i seat a id at answers own }

-- ---- where an event is awaited

module _ (terms : List Term) (log : Log) (number : ℕ → ℕ) (w : Wants) (x : Turning) (u : State) (it : IsAwaited terms log number w x u) where
  abbrev s : State
  s = rest_with w u

  none_closing : (i : ℕ) (seat : Seat) → slice_get x.moving.desk.state.seats.items i ≡ Some seat → seat.is_closing ≡ false
  none_closing i seat at =
      let its : IsOf number x.moving.desk.state.name.items seat s.clients = of_seat number x.moving.desk.state.name.items i x.moving.desk.state.seats.items s.clients seat it.stands.desk.turn.steps.shows.clients at in
      its.shows.closing ∙ none_in (λ (c : Client). c.is_closing) its.client s.clients (first_off (list_any (λ (c : Client). c.is_closing) s.clients) (list_any (λ (k : Conn). k.is_closing) s.conns) it.closed) its.there

  awaited_there : NamesAreThere (parts x.moving.desk.state)
  awaited_there = names_there number x.moving.desk.state.name.items _ x.moving.desk.peers (parts x.moving.desk.state) s it.stands.desk.turn.steps it.ready none_closing

pub awaited_names : AwaitedNamesAreThere
awaited_names terms log number w x u it = awaited_there terms log number w x u it

-- ---- where somebody is woken

brought_as : (n : ℕ) (a b : Brought) → ((id : ObjectId) (plain : Bool) → b ≡ Joins id plain → a ≡ Joins id plain) → IsGivenBrought n a → IsGivenBrought n b
brought_as n a b joins given = brought_given n b (λ id plain is. subst (λ (c : Brought). IsGivenBrought n c) (joins id plain is) given)

alike_there : (p q : Parts) → q.cache ≡ p.cache → AreAlike p q → NamesAreThere p → NamesAreThere q
alike_there p q cache alike names = record {
  lives = subst (λ (m : Memory). GivesLives m) (sym cache) names.lives;
  given = subst (λ (m : Memory). AreGivenSeats m.lives q.seats) (sym cache) (given_all p.cache.lives q.seats given_one);
  followed = λ i seat a id at on answers own. subst (λ (m : Memory). IsFollowedThere id m.instances) (sym cache) (followed_one i seat a id at on answers own);
}
  where
    given_one : (i : ℕ) (seat : Seat) → slice_get q.seats i ≡ Some seat → IsGivenSeat p.cache.lives seat
    given_one i seat at =
        let was : WasAlike p.seats i seat = alike.was i seat at in
        let old : IsGivenSeat p.cache.lives was.old = given_at p.cache.lives p.seats names.given i was.old was.here in
        record { source = subst (λ (t : Stage). IsGivenSource p.cache.lives t) (sym was.is.stage) old.source; brought = brought_as p.cache.lives was.old.brought seat.brought was.is.joins old.brought }

    followed_one : (i : ℕ) (seat : Seat) (a : Answer) (id : ObjectId) → slice_get q.seats i ≡ Some seat → seat.is_closing ≡ false → answer_in seat.stage ≡ Some a → a.source ≡ Some id → IsFollowedThere id p.cache.instances
    followed_one i seat a id at on answers own =
        let was : WasAlike p.seats i seat = alike.was i seat at in
        names.followed i was.old a id was.here (sym was.is.closing ∙ on) (ap (λ (t : Stage). answer_in t) (sym was.is.stage) ∙ answers) own

pub woken_names : WokenNamesAreThere
woken_names terms log number w x u id woken it wakes =
    alike_there (parts x.moving.desk.state) (parts woken.state) (woken_cache id x.moving.desk woken wakes) (woken_alike number id x.moving woken (rest_with w u) it.stands it.ready wakes (ReadOf id)) (awaited_names terms log number w x u it)

-- ---- amid a read, and behind it

pub given_amid : NamesAreGivenAmidReads
given_amid pieces name shelf n begins x from s all bytes names is = (moments_on pieces name shelf n begins x from s all bytes is names.lives).seats names.given

still_followed : (p q : Parts) → AreStill p.seats q.seats → KeepsNamedLives p q → NamesAreThere p → FollowedAreThere q
still_followed p q still keeps names i seat a id at on answers own =
    followed_still p.cache q.cache id keeps.memory.followed (names.followed i was.old a id was.here (sym was.is.closing ∙ on) (ap (λ (t : Stage). answer_in t) (sym was.is.stage) ∙ answers) own)
  where
    was : WasStill p.seats i seat
    was = still.was i seat at

pub followed_amid : FollowedOnesAreThereAmidReads
followed_amid pieces name shelf n begins x from s all bytes names is =
    still_followed (parts begins.state) (parts x.state) (moments_stay pieces name shelf n begins x from s all bytes is) (moments_on pieces name shelf n begins x from s all bytes is names.lives) names

pub followed_behind : FollowedOnesAreThereBehindReads
followed_behind most shelf n here begins ends names got i seat at on a id answers own =
    let one : IsFollowedThere id ends.state.cache.instances = still_followed (parts begins.state) (parts ends.state) stays.clients (reads_on most shelf n here begins ends got names.lives) names i seat a id at on answers own in
    one.there
  where
    stays : StaysBeside begins ends
    stays = reads_stay most shelf n here begins ends got
