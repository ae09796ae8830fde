use Rattle.std.proofs.Common.{◌≡◌, ◌∙◌, ◌≤◌, ◌&&◌, ◌++◌, ap, sym, subst, drop, length, take, min, nat_lt, vec_capacity, IfOk, IfSome, ℕ, List, Option, arith}
use Rattle.pp_desk.specs.Calls.{Found, read_log}
use Rattle.pp_desk.specs.declared.desk.Desk.{Desk}
use Rattle.pp_links.specs.Links.{has_link}
use Rattle.pp_origins.proofs.GotLemmas.{asked_buffer, asked_data, asked_same, front_room, received_front, still_seated, written_back}
use Rattle.pp_origins.specs.Gots.{IsReceived, both}
use Rattle.pp_origins.specs.Responses.{read_room}
use Rattle.pp_state.specs.Ends.{AreSeated, numbers_of, parts}
use Rattle.pp_world.specs.Log.{AppendsAll, Log}
use Rattle.pp_world.specs.Wire.{IsWithin}
use Rattle.pp_origins.proofs.responses.receive.Goals as goal

pub returns-clause-is : goal.returns-clause-is
returns-clause-is g c = λ seated room.
    let old : Desk = c.args.desk.now in
    let asked : Desk = c.read_room.new.desk in
    let new : Desk = c.take_received.new.desk in
    let shelf = c.args.shelf.now in
    let k = c.args.k in
    let least : ℕ = c.min-room.result in
    let front : List ℕ = c.read_front-found.new.buffer in
    let found : Found = c.read_front-found.result in
    let call = c.read_front-found.ensures in
    let before : Option Log = g.W.Logged.log c.args.world.now in
    let lent : c.deref_mut.result.now ≡ asked.buffer.items = c.deref_mut.ensures.value in
    let items : asked.buffer.items ≡ old.buffer.items = asked_buffer old asked c.read_room.ensures.rest in
    let kept : length front ≡ length c.deref_mut.result.now = c.read_front-found.auto.buffer in
    let all : c.len.result ≡ length asked.buffer.items = c.len.ensures ∙ sym c.deref_mut.ensures.len ∙ ap length lent in
    let many : length front ≡ length old.buffer.items = kept ∙ ap length lent ∙ ap length items in
    let least_is : least ≡ min c.read_room.result c.len.result = c.min-room.ensures in
    let short : length (take least front) ≡ least = front_room c.read_room.result c.len.result least front least_is (all ∙ ap length items ∙ sym many) in
    let written : take asked.buffer.len (front ++ drop (length front) asked.buffer.items) ≡ front = written_back asked.buffer.len asked.buffer.items c.deref_mut.result.now front c.deref_mut.ensures.len kept in
    let capacity : vec_capacity asked.«data» ≡ vec_capacity old.«data» = asked_data old asked c.read_room.ensures.rest in
    let asked_seated : AreSeated asked.state = still_seated old.state asked.state (ap numbers_of c.read_room.ensures.seats) seated in
    let received : IsReceived found shelf k front (both asked) (both new) =
    subst (λ (xs : List ℕ). length xs ≤ vec_capacity asked.«data» → IsReceived found shelf k xs (both asked) (both new)) written (c.take_received.ensures.is asked_seated) (omega (arith, room, many, capacity)) in
    record {
      found = found;
      front = take least front;
      told = subst (λ (l : Option Log). AppendsAll before l (read_log k found (take least front))) (sym c.take_received.ensures.told) call.told;
      called = call.called ∙ ap (λ (m : ℕ). has_link k c.args.links.now && nat_lt 0 m) (sym short);
      room = short ∙ least_is ∙ ap (λ (m : ℕ). min m c.len.result) (c.read_room.ensures.room seated) ∙ ap (min (read_room k (parts old.state))) (all ∙ ap length items);
      within = subst (λ (m : ℕ). IfSome found (λ r. IfOk r (IsWithin m))) (sym short) call.within;
      begins = both asked;
      same = asked_same old asked c.read_room.ensures.seats c.read_room.ensures.rest;
      is = received_front found shelf k least front (both asked) (both new) call.within received;
    }
