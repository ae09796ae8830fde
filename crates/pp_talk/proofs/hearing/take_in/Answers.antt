use Rattle.std.specs.Prelude.{IfOk, IfSome}
use Rattle.std.proofs.Common.{take, ◌≡◌, ◌∙◌, ◌&&◌, is_some, ap, sym, subst, min, nat_lt, length, slice_get, List, ℕ, Option, Some, rules}
use Rattle.std.proofs.lemmas.List.{with_items_is}
use Rattle.std.proofs.lemmas.Option.{slice_get_read}
use Rattle.pp_client.specs.Requests.{room_of}
use Rattle.pp_links.specs.Links.{has_link}
use Rattle.pp_desk.specs.Closings.{Sides, sides}
use Rattle.pp_desk.specs.Calls.{Found, read_log}
use Rattle.pp_talk.specs.Talking.{IsFoundAt, IsReadAt}
use Rattle.pp_desk.specs.declared.desk.Desk.{Desk}
use Rattle.pp_talk.proofs.TalkingLemmas.{front_long, front_room}
use Rattle.pp_seats.specs.declared.seat.Seat.{Seat}
use Rattle.pp_state.specs.Ends.{parts}
use Rattle.pp_state.specs.declared.state.State.{State}
use Rattle.pp_world.specs.Log.{AppendsAll, Log}
use Rattle.pp_world.specs.Wire.{IsWithin}
use Rattle.pp_talk.proofs.hearing.take_in.Goals as goal

pub returns-clause-is : goal.returns-clause-is
returns-clause-is g c =
    let old : Desk = c.args.desk.now in
    let s : State = c.take_found_at.new.state in
    let seat : Seat = c.in-Some.seat.now in
    let before : Option Log = g.W.Logged.log c.args.world.now in
    let after : Option Log = g.W.Logged.log c.read_front-found.new.world in
    let at : slice_get old.state.seats.items c.args.i ≡ Some seat = search (rules, slice_get_read, c.in-Some.ensures.lookup, c.deref.ensures.value) in
    let id : c.id-id.result ≡ seat.client.id = c.id-id.ensures in
    let found : Found = c.read_front-found.result in
    let front : List ℕ = take c.min-room.result c.read_front-found.new.buffer in
    let call = c.read_front-found.ensures in
    let own : c.room.result ≡ room_of seat.client.heard = c.room.ensures in
    let read : c.deref_mut.result.now ≡ old.buffer.items = c.deref_mut.ensures.value in
    let all : c.len.result ≡ length old.buffer.items = c.len.ensures ∙ sym c.deref_mut.ensures.len ∙ ap length read in
    let kept : length c.read_front-found.new.buffer ≡ length old.buffer.items = c.read_front-found.auto.buffer ∙ ap length read in
    let room : length front ≡ min (room_of seat.client.heard) (length old.buffer.items) = front_room c.room.result c.len.result c.min-room.result c.read_front-found.new.buffer old.buffer.items c.min-room.ensures all kept ∙ ap (λ n. min n (length old.buffer.items)) own in
    let long : length front ≡ c.min-room.result = front_long c.room.result c.len.result c.min-room.result c.read_front-found.new.buffer old.buffer.items c.min-room.ensures all kept in
    let called : is_some found ≡ (has_link c.id-id.result c.args.links.now && nat_lt 0 (length front)) = call.called ∙ ap (λ (n : ℕ). has_link c.id-id.result c.args.links.now && nat_lt 0 n) (sym long) in
    let lent : c.deref-2.result.now ≡ c.read_front-found.new.buffer = c.deref-2.ensures.value ∙ with_items_is old.buffer c.read_front-found.new.buffer (kept ∙ sym all ∙ c.len.ensures) in
    let new : Sides = record { parts = parts s; peers = old.peers } in
    subst (λ (o : Option Seat). IsReadAt o (length old.buffer.items) c.args.i c.args.links.now (sides old) new before after) (sym at)
    (record {
      found = found;
      front = front;
      told = subst (λ (n : ℕ). AppendsAll before after (read_log n found front)) id call.told;
      called = called ∙ ap (λ (n : ℕ). has_link n c.args.links.now && nat_lt 0 (length front)) id;
      room = room;
      within = subst (λ (n : ℕ). IfSome found (λ r. IfOk r (IsWithin n))) (sym long) call.within;
      is = record { seats = subst (λ (xs : List ℕ). IsFoundAt found (take c.min-room.result xs) c.args.i old.state.seats.items s.seats.items) lent c.take_found_at.ensures.is; astray = c.take_found_at.ensures.astray; rest = ap (λ (t : State). record { parts = parts t; peers = old.peers }) c.take_found_at.ensures.rest };
    })
