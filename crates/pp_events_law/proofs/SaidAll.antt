-- The last bytes of a reply were said to a client: the turn stands behind what ends with them.
use Rattle.std.proofs.Common.{◌≡◌, ◌≤◌, refl, sym, subst, ap, ◌∙◌, ℕ, true, false, find, length, length-take-le, take, List, [], ◌∷◌, Some, Ok}
use Rattle.std.specs.Prelude.{slice_set}
use Rattle.pp_cache.specs.Bounds.{IsBounded}
use Rattle.pp_client.specs.Replies.{is_said, left_next, said}
use Rattle.pp_clients_obey.proofs.Ends.{request_there}
use Rattle.pp_clients_obey.proofs.Hears.{leads_on}
use Rattle.pp_clients_obey.proofs.Says.{said_is}
use Rattle.pp_clients_obey.specs.Ending.{GoesOn}
use Rattle.pp_clients_obey.specs.Saying.{OwesWrite, told_to}
use Rattle.pp_turns_law.proofs.Regained.{get_other}
use Rattle.pp_turns_law.proofs.Sitting.{is_at, shown_at}
use Rattle.pp_turns_law.specs.Decides.{IsAtPlace}
use Rattle.pp_desk.specs.Calls.{write_log}
use Rattle.pp_desk.specs.Closings.{Sides, sides, with_parts}
use Rattle.pp_desk.specs.Replies.{EndsReplies, EndsSaidOf}
use Rattle.pp_desk.specs.declared.desk.Desk.{Desk}
use Rattle.pp_endings_law.proofs.Left.{with_seats}
use Rattle.pp_endings_law.proofs.Walk.{IsButFor, IsGood}
use Rattle.pp_endings_law.specs.Replies.{MayGoOn}
use Rattle.pp_events_law.proofs.Beside.{IsBeside, ends_of}
use Rattle.pp_events_law.proofs.HandledBehind.{behind_handled, behind_next}
use Rattle.pp_events_law.proofs.Kept.{said_through}
use Rattle.pp_events_law.proofs.LastBytes.{HasLast, IsLast, last_bytes}
use Rattle.pp_events_law.proofs.LastSaid.{was_begun}
use Rattle.pp_events_law.proofs.Quiet.{AreSilent, EndsOne, QuietBut, all_quiet, all_silent, ends_there, none_said, one_ends}
use Rattle.pp_events_law.proofs.Rests.{all_rest}
use Rattle.pp_events_law.proofs.Standing.{may_as}
use Rattle.pp_events_law.proofs.Told.{ends, found, going, is_loud, its_awake, its_id, its_place, keeps, left_few, once, owes, ready_then, rests_so, said_told, told_left, used, used_steps, z_is}
use Rattle.pp_events_law.proofs.Used.{IsChunks, same_instances}
use Rattle.pp_events_law.specs.Ready.{HasLedReady}
use Rattle.pp_events_law.specs.Says.{MaySay}
use Rattle.pp_events_law.specs.Stands.{AreReadyAt, IsHandled, StandsAtEvent}
use Rattle.pp_law.specs.After.{paid}
use Rattle.pp_law.specs.Connections.{is_client, on_client}
use Rattle.pp_law.specs.Lists.{Bytes}
use Rattle.pp_law.specs.Replies.{end_replies, said_by, use_said}
use Rattle.pp_law.specs.State.{State, Client, Handling, WriteTo}
use Rattle.pp_laws_turn.specs.SoundTurn.{IsSoundTurn}
use Rattle.pp_objects.specs.Instances.{Instance, is_there}
use Rattle.pp_obeys.proofs.Happenings.{goes_said}
use Rattle.pp_obeys.specs.Moves.{Leads}
use Rattle.pp_proxy.specs.Handling.{SaysAt}
use Rattle.pp_proxy.specs.Moving.{Turning}
use Rattle.pp_seats.specs.Said.{used_by}
use Rattle.pp_seats.specs.Seats.{told_by}
use Rattle.pp_seats.specs.declared.seat.Seat.{Seat}
use Rattle.pp_seats_law.specs.Seats.{ShowsOpen, ShowsSeat}
use Rattle.pp_state.specs.Ends.{parts}
use Rattle.pp_state.specs.declared.state.State.{State as Turn}
use Rattle.pp_talk.specs.Talking.{offered, told_at, used_chunks}
use Rattle.pp_world.specs.Log.{AppendsAll}
use Rattle.pp_world.specs.declared.happening.Happening.TheVariants.{Said}

module _ (number : ℕ → ℕ) (id i : ℕ) (x y : Turning) (seat : Seat) (s : State) (stands : StandsAtEvent number Handling (WriteTo id) x.moving s) (ready : AreReadyAt number x.moving s) (sound : IsSoundTurn s) (may : MaySay id i x seat) (bounded : IsBounded y.moving.desk.state.cache) (says : SaysAt i x y) where
  abbrev old : Desk
  old = x.moving.desk

  abbrev p : Turn
  p = old.state

  abbrev name : Bytes
  name = p.name.items

  abbrev seats : List Seat
  seats = p.seats.items

  abbrev os : Bytes
  os = offered seat.client.reply p.cache

  abbrev c : Client
  c = (found number id i x y seat s stands ready sound may bounded says).client

  abbrev awake : List ℕ
  awake = says.roused.state.awake.items

  live : ShowsOpen number name [] seat c
  live = (found number id i x y seat s stands ready sound may bounded says).shows.going (going number id i x y seat s stands ready sound may bounded says)

  module _ (n : ℕ) (few : n ≤ length os) (all : is_said (said n seat.client.reply) ≡ true) where
    abbrev within : n ≤ left_next seat.client.reply
    within = left_few number id i x y seat s stands ready sound may bounded says n few

    -- the next request can stand behind it
    goes_on : MayGoOn seat c
    goes_on on =
        let goes : GoesOn seat = may.goes (was_begun number name n seat c live within all) (live.closes ∙ on) in
        let r = request_there seat.front c.front live.front goes.keeps in
        record { request = r.0; front = r.1; known = r.2; counted = goes.counted }

    -- as it is before these bytes, but for the chunks that they use
    abbrev z : Sides
    z = record (sides old) { parts = record (parts p) { cache = used_chunks (used_by n seat) p.cache } }

    abbrev u : State
    u = use_said n c s

    its : IsChunks s u
    its = used number id i x y seat s stands ready sound may bounded says n few

    place : IsAtPlace i z.parts u seat c
    place = record { here = may.here; there = ap (λ (t : State). find (is_client seat.client.id) t.clients) its ∙ (its_place number id i x y seat s stands ready sound may bounded says).there }

    -- the others are settled
    silent : AreSilent u
    silent m d there = (all_rest number name seats s.clients stands.desk.turn.steps.shows.clients may.settled m d (sym (ap (λ (t : State). find (is_client m) t.clients) its) ∙ there)).said

    closing_at : (j : ℕ) (other : Seat) (d : Client) → IsAtPlace j z.parts u other d → other.is_closing ≡ d.is_closing
    closing_at j other d at =
        let there : find (is_client other.client.id) s.clients ≡ Some d = sym (ap (λ (t : State). find (is_client other.client.id) t.clients) its) ∙ at.there in
        let shown : ShowsSeat number name [] other d = shown_at number name [] seats s.clients other.client.id j other d stands.desk.turn.steps.shows.clients (is_at j seats other stands.desk.turn.steps.order at.here) at.here there in
        shown.closing

    good : IsGood number name z u
    good = record {
      shows = record {
        steps = used_steps number id i x y seat s stands ready sound may bounded says n few;
        may = may_as s u (ap (λ (t : State). t.clients) its) (ap (λ (t : State). t.exchanges) its) (ap (λ (t : State). t.conns) its) stands.desk.may;
      };
      may = record {
        follow = λ j other d at on a k answer source.
            subst (λ (is : List Instance). is_there k is ≡ true) (sym (same_instances (used_by n seat) p.cache)) ((ready j other at.here (closing_at j other d at ∙ on)).follows a k answer source);
        once = once number id i x y seat s stands ready sound may bounded says u (ap (λ (t : State). t.exchanges) its);
        rests = rests_so number id i x y seat s stands ready sound may bounded says u (ap (λ (t : State). t.exchanges) its);
      };
      ends = λ j other d at on over. absurd (let both : true ≡ false = sym over ∙ (may.settled j other at.here).said (closing_at j other d at ∙ on) in cc both);
    }

    -- where they are told its reply alone ends
    abbrev tells : Sides
    tells = with_seats (slice_set z.parts.seats i (told_by n seat)) z

    quiet : QuietBut i tells
    quiet j apart other here = all_quiet number name z u good.shows silent j other (sym (get_other i j seats (told_by n seat) apart) ∙ here)

    module _ (told : AppendsAll x.log y.log (write_log seat.client.id os (Some (Ok n)))) (is : says.says.says.0 ≡ with_parts (told_at i n) (sides old)) where
      ends_told : EndsReplies awake tells (sides y.moving.desk)
      ends_told = subst (λ (w : Sides). EndsReplies awake w (sides y.moving.desk)) (is ∙ z_is number id i x y seat s stands ready sound may bounded says n few) (ends number id i x y seat s stands ready sound may bounded says)

      abbrev mid : Sides
      mid = ends_told.0

      its_end : EndsSaidOf i tells mid
      its_end =
          one_ends i 0 (length says.roused.state.seats.items) awake tells mid (is_loud number id i x y seat s stands ready sound may bounded says).order (its_awake number id i x y seat s stands ready sound may bounded says) quiet ends_told.1

      beside : IsBeside i tells mid
      beside = ends_of i tells mid its_end

      behind : HasLast number name i n z u seat c good place (going number id i x y seat s stands ready sound may bounded says) within all goes_on mid
      behind = last_bytes number name i n z u seat c good place (going number id i x y seat s stands ready sound may bounded says) within all goes_on mid its_end

      abbrev t : State
      t = behind.then

      last : IsLast number name i n z mid u seat.client.id c t
      last = behind.last

      one : EndsOne seat.client.id (said_by n) last.changed c u t
      one = record { there = place.there; first = (said_through n).number; then = last.keeps; ends = last.ends; clients = last.clients; silent = last.silent; others = silent }

      ends_mid : EndsReplies awake mid (sides y.moving.desk)
      ends_mid = (mid, none_said awake mid (all_quiet number name mid t last.stepped.good.shows (all_silent seat.client.id (said_by n) last.changed c u t one)), ends_told.2)

      rest : IsButFor s t
      rest = last.stepped.rest ∙ ap (λ (v : State). let w : State = record v { clients = t.clients; conns = t.conns; exchanges = t.exchanges; instances = t.instances; chunks = t.chunks } in w) its

      handled : IsHandled number y.moving (paid (end_replies t))
      handled =
          behind_handled number i x y (WriteTo id) s stands may.still says.roused says.rouses (is_loud number id i x y seat s stands ready sound may bounded says) (its_awake number id i x y seat s stands ready sound may bounded says) mid t last.stepped.good rest
          last.stepped.numbers last.stepped.others beside.peers ends_mid says.numbers (keeps number id i x y seat s stands ready sound may bounded says) says.links says.top bounded

      next_same : (paid (end_replies t)).next_instance ≡ s.next_instance
      next_same =
          behind_next number i x y (WriteTo id) s stands may.still says.roused says.rouses (is_loud number id i x y seat s stands ready sound may bounded says) (its_awake number id i x y seat s stands ready sound may bounded says) mid t last.stepped.good rest
          last.stepped.numbers last.stepped.others beside.peers ends_mid says.numbers (keeps number id i x y seat s stands ready sound may bounded says) says.links says.top bounded

      same : end_replies (told_to n id c s) ≡ end_replies t
      same = ap (λ (k : ℕ). end_replies (on_client k (said_by n) u)) (sym (its_id number id i x y seat s stands ready sound may bounded says)) ∙ ends_there seat.client.id (said_by n) last.changed c u t one

      as_long : length (take n os) ≡ n
      as_long = length-take-le n os few

      owed : OwesWrite number [] id (length os) (take n os) seats s
      owed = owes number id i x y seat s stands ready sound may bounded says n few

      leads : Leads (Said id (length os) (take n os) ∷ []) s (paid (end_replies (told_to n id c s)))
      leads =
          let there : find (is_client id) s.clients ≡ Some c = (found number id i x y seat s stands ready sound may bounded says).there in
          subst (λ (k : ℕ). Leads (Said id (length os) (take n os) ∷ []) s (paid (end_replies (told_to k id c s)))) as_long
          (leads_on refl (goes_said s id (length os) (take n os) c owed.none owed.writes there (owed.first c there)) (paid (end_replies (told_to (length (take n os)) id c s))) (said_is id (length (take n os)) c s there))

      pub all_said : HasLedReady number x y s
      all_said = record {
        led = record {
          log = Said id (length os) (take n os) ∷ [];
          then = paid (end_replies t);
          handled = record {
            told = said_told number id i x y seat s stands ready sound may bounded says n told;
            leads = subst (λ (v : State). Leads (Said id (length os) (take n os) ∷ []) s (paid v)) same leads;
            handled = handled;
          };
        };
        ready = ready_then number id i x y seat s stands ready sound may bounded says (paid (end_replies t)) handled next_same (told_left number id i x y seat s stands ready sound may bounded says n few is);
      }
